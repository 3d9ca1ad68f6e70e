-- The calls up to here have been given to the book.
use Rattle.std.proofs.Common.{◌≡◌, length, take, map, vec_items, vec_len}
use Rattle.audit.specs.Calls.{asked, told}
use Rattle.audit.specs.History.{History}
use Rattle.audit.specs.States.{state_of, KindAndMeters, kind_and_meters, Agrees}
use Rattle.audit.specs.Replays.{IsReplayed}
use Rattle.audit.proofs.replaying.replay.Given as goal

abbrev pub invariant-loop-call : goal.invariant-loop-call
invariant-loop-call g l =
    (vec_len l.answers ≡ l.call-index) ×
    ((first : KindAndMeters g.row.K.Denot) (h : History) →
    Agrees g.K.Cabinet.meaning g.A.Arranger.shows g.B.Arranger.shows first h l.fn.book →
    IsReplayed g.K.Cabinet.meaning g.A.Arranger.served first h
    (map (asked (length l.initial.buffer)) (take l.call-index l.calls)) (map (told vec_items) l.answers.items)
    (state_of l.book) (kind_and_meters g.A.Arranger.shows g.B.Arranger.shows l.book))
