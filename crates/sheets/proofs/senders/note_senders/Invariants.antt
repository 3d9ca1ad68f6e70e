-- The transfers up to here are noted.
use Rattle.bookings.specs.Model.{transfers}
use Rattle.sheets.specs.Steps.{Noted}
use Rattle.sheets.proofs.senders.note_senders.Given as goal

abbrev pub invariant-loop-place : goal.invariant-loop-place
invariant-loop-place l = Noted l.round (transfers l.live) l.seats l.place l.places l.count
