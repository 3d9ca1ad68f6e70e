-- What a caller is told of a refusal: its number, and the node that it is about, where it is about one.
use Rattle.std.specs.Prelude.{Some, None}
use Rattle.crossbar.specs.Refusals.{Refusal}
use Rattle.bookings.specs.declared.refusal.FitRefusal.{FitRefusal}
use Rattle.bookings.specs.declared.refusal.FitRefusal.TheVariants.{LineCount, NodeCount, RoundCount, RoundsNotServed, TransferLive}
use Rattle.bookings.specs.declared.refusal.BookRefusal.{BookRefusal}
use Rattle.bookings.specs.declared.refusal.BookRefusal.TheVariants.{Sender, Receiver, SenderFull, ReceiverFull, BookFull, TicketsSpent}
use Rattle.bookings.specs.declared.refusal.TicketRefusal.{TicketRefusal}
use Rattle.bookings.specs.declared.refusal.TicketRefusal.TheVariants.{NotLive}

-- every case of the code's enums, by its number and its values
abbrev pub fit_refusal : FitRefusal → Refusal
fit_refusal LineCount = record { number = 1; node = None }
fit_refusal NodeCount = record { number = 2; node = None }
fit_refusal RoundCount = record { number = 3; node = None }
fit_refusal RoundsNotServed = record { number = 4; node = None }
fit_refusal TransferLive = record { number = 5; node = None }

abbrev pub booking_refusal : BookRefusal → Refusal
booking_refusal (Sender v) = record { number = 6; node = Some v }
booking_refusal (Receiver v) = record { number = 7; node = Some v }
booking_refusal (SenderFull v) = record { number = 8; node = Some v }
booking_refusal (ReceiverFull v) = record { number = 9; node = Some v }
booking_refusal BookFull = record { number = 10; node = None }
booking_refusal TicketsSpent = record { number = 11; node = None }

abbrev pub ticket_refusal : TicketRefusal → Refusal
ticket_refusal NotLive = record { number = 12; node = None }
