-- The next transfer is counted.
use Rattle.std.proofs.Common.{◌≡◌, ℕ, ◌+◌, ◌<◌, max, List, length, get_or, set, ap, ◌∙◌, rules}
use Rattle.bookings.specs.declared.booking.Booking.{Booking}
use Rattle.bookings.specs.declared.table.Table.{Table}
use Rattle.bookings.specs.Model.{booking_at}
use Rattle.bookings.proofs.Largest.{Seen, Next, seen_next, seen_more}
use Rattle.bookings.proofs.table.Table.count_all.Goals as goal

-- xs are the live transfers of the table b
module _ (b : Table) (xs : List Booking) (e : xs ≡ b.live.items) (i : ℕ) (sent received : List ℕ) (most : ℕ) (s : Seen b.live.items i sent received most) (l : i < length xs) (ls : length sent ≡ 512) (lr : length received ≡ 512) where
  low : i < length b.live.items
  low = rw (← e) l

  at : (booking_at xs i).transfer ≡ (booking_at b.live.items i).transfer
  at = ap (λ (ys : List Booking). (booking_at ys i).transfer) e

  next : Next sent received (booking_at xs i).transfer
  next = seen_next b.live.items i sent received most s low (booking_at xs i).transfer at b.sizes.m b.sizes.n b.rounds b.lines b.nodes b.between b.within b.limit ls lr

  more : (sent' received' : List ℕ) (larger most' : ℕ)
      → sent' ≡ set sent (booking_at xs i).transfer.sender (get_or sent (booking_at xs i).transfer.sender 0 + 1)
      → received' ≡ set received (booking_at xs i).transfer.receiver (get_or received (booking_at xs i).transfer.receiver 0 + 1)
      → larger ≡ max (get_or sent (booking_at xs i).transfer.sender 0 + 1) (get_or received (booking_at xs i).transfer.receiver 0 + 1)
      → most' ≡ max most larger → Seen b.live.items (i + 1) sent' received' most'
  more = seen_more b.live.items i sent received most s low (booking_at xs i).transfer at next.sender next.receiver

pub count_both-requires : goal.count_both-requires
count_both-requires c =
    let h = next c.args.self.now _ c.as_slice-booking-items.ensures.value _ _ _ _ c.loop-booking.invariant c.loop-booking-test.true (c.loop-booking.auto.sent ∙ c.requires.send_room) (c.loop-booking.auto.received ∙ c.requires.receive_room) in
    record { sender = h.sender; receiver = h.receiver; send_room = h.send_room; receive_room = h.receive_room }

pub loop-booking-preserved : goal.loop-booking-preserved
loop-booking-preserved c =
    more c.args.self.now _ c.as_slice-booking-items.ensures.value _ _ _ _ c.loop-booking.invariant c.loop-booking-test.true (c.loop-booking.auto.sent ∙ c.requires.send_room) (c.loop-booking.auto.received ∙ c.requires.receive_room)
    _ _ _ c.max-most.result c.count_both.ensures.sent c.count_both.ensures.received c.count_both.ensures.larger (search rules)
