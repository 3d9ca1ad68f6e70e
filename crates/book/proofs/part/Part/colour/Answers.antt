-- The lines that are lent are those of the part.
use Rattle.book.proofs.Crowding.{fit_within}
use Rattle.book.proofs.part.Part.colour.Goals as goal

pub arrange_accepted-requires-clause-within : goal.arrange_accepted-requires-clause-within
arrange_accepted-requires-clause-within g c = fit_within _ _ _ c.requires.fit c.as_mut_slice.ensures.value
