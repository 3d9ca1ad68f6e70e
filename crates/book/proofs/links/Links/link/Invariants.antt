-- The places from here on are linked.
use Rattle.book.proofs.Linking.{Tail}
use Rattle.book.proofs.links.Links.link.Given as goal

abbrev pub invariant-loop-place : goal.invariant-loop-place
invariant-loop-place l = Tail l.seats l.place l.self.firsts.items l.self.nexts.items
