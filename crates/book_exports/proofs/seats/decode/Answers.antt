-- The transfers of each six bytes are the transfers of the bytes.
use Rattle.std.proofs.Common.{◌≡◌, map, ap, ◌∙◌, subst, IfOk}
use Rattle.book_exports.specs.Seats.{transfer_in}
use Rattle.book_exports.proofs.SeatBytes.{transfers_by_six}
use Rattle.book_exports.proofs.seats.decode.Goals as goal

pub returns : goal.returns
returns c =
    subst (λ ts. IfOk c.as_transfers.result (λ v. v.items ≡ ts))
    (ap (map (λ cell. transfer_in cell 0)) c.as_chunks.ensures.front ∙ transfers_by_six c.args.bytes.now)
    c.as_transfers.ensures
