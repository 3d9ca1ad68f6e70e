-- One transfer more between the nodes, within the loads and in the counts.
use Rattle.std.proofs.Common.{rules}
use Rattle.bookings.proofs.Keeps.{more_between, more_within, more_counted}
use Rattle.bookings.proofs.table.Table.append.Goals as goal

pub invariant_of-self-clause-between : goal.invariant_of-self-clause-between
invariant_of-self-clause-between c =
    let old = c.args.self.now in
    more_between old.live.items _ _ c.push_reserved.ensures.items old.sizes.m old.sizes.n old.rounds c.requires.fits old.between

pub invariant_of-self-clause-within : goal.invariant_of-self-clause-within
invariant_of-self-clause-within c =
    let old = c.args.self.now in
    more_within old.live.items _ _ c.push_reserved.ensures.items old.sizes.m old.sizes.n old.rounds c.requires.fits old.within

pub invariant_of-self-clause-counted : goal.invariant_of-self-clause-counted
invariant_of-self-clause-counted c =
    let old = c.args.self.now in
    more_counted old.live.items _ _ c.push_reserved.ensures.items old.loads.sent.items old.loads.received.items _ _ old.counted (search rules) (search rules) c.add.ensures.sent c.add.ensures.received
