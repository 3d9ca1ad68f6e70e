-- What is true of every table, for the crates above.
use Rattle.std.proofs.Common.{◌≡◌, true}
use Rattle.ports.specs.Checks.{lines_fit, nodes_fit}
use Rattle.timetables.specs.Loads.{LoadsWithin, BetweenNodes}
use Rattle.bookings.specs.declared.table.Table.{Table}
use Rattle.bookings.specs.Model.{transfers}
use Rattle.bookings.specs.Tables.{model}
pub use Rattle.bookings.proofs.Tickets.{length_transfers, transfer_place, place_found, place_here, differ, without_none}
pub use Rattle.bookings.proofs.Keeps.{below_512, between_push}
pub use Rattle.bookings.proofs.Records.{refused_at}
pub use Rattle.bookings.proofs.Loading.{booked_on, refused_there}
pub use Rattle.bookings.proofs.Adding.{records_add, booked_or_unfit, accepted_answer, refused_answer, added_rounds}
pub use Rattle.bookings.proofs.Reaching.{Good, good_records, booked_after, refused_before, fault_at, transfers_extended}

pub lines : (t : Table) → lines_fit (model t).m ≡ true
lines t = t.lines

pub nodes : (t : Table) → nodes_fit (model t).n ≡ true
nodes t = t.nodes

pub between : (t : Table) → BetweenNodes (model t).m (model t).n (transfers (model t).live)
between t = t.between

pub within : (t : Table) → LoadsWithin (model t).rounds (transfers (model t).live)
within t = t.within
