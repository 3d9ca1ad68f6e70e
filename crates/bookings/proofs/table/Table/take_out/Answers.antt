-- One transfer less within the loads and in the counts.
use Rattle.std.proofs.Common.{rules}
use Rattle.bookings.proofs.Keeps.{stands, fewer_between, fewer_within, fewer_counted}
use Rattle.bookings.proofs.table.Table.take_out.Goals as goal

pub remove-requires-2 : goal.remove-requires-2
remove-requires-2 c =
    let old = c.args.self.now in
    let s = stands old.live.items c.args.place c.requires c.remove.result old.sizes.m old.sizes.n old.loads.sent.items old.loads.received.items c.remove.ensures.value old.lines old.nodes old.between old.counted in
    record { sender = s.sender; receiver = s.receiver; sends = s.sends; receives = s.receives }

pub invariant_of-self-clause-between : goal.invariant_of-self-clause-between
invariant_of-self-clause-between c =
    let old = c.args.self.now in
    fewer_between old.live.items c.args.place c.requires _ c.remove.ensures.items old.sizes.m old.sizes.n old.between

pub invariant_of-self-clause-within : goal.invariant_of-self-clause-within
invariant_of-self-clause-within c =
    let old = c.args.self.now in
    fewer_within old.live.items c.args.place c.requires _ c.remove.ensures.items old.rounds old.within

pub invariant_of-self-clause-counted : goal.invariant_of-self-clause-counted
invariant_of-self-clause-counted c =
    let old = c.args.self.now in
    let s = stands old.live.items c.args.place c.requires c.remove.result old.sizes.m old.sizes.n old.loads.sent.items old.loads.received.items c.remove.ensures.value old.lines old.nodes old.between old.counted in
    fewer_counted old.live.items c.args.place c.requires _ c.remove.ensures.items old.loads.sent.items old.loads.received.items _ _ c.remove.result.transfer s.at old.counted (search rules) (search rules) c.remove-2.ensures.sent c.remove-2.ensures.received
