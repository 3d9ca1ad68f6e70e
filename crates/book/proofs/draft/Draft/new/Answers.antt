-- Every arranger serves one round.
use Rattle.std.proofs.Common.{◌≡◌, true, subst, sym, arith}
use Rattle.bookings.specs.Model.{Model}
use Rattle.book.proofs.draft.Draft.new.Goals as goal

pub invariant_of-result-clause-served : goal.invariant_of-result-clause-served
invariant_of-result-clause-served g c = subst (λ (b : Model). g.A.Arranger.served b.rounds ≡ true) (sym c.in_ok-table.ensures) (g.met.A.Arranger.powers 0 (omega arith))
