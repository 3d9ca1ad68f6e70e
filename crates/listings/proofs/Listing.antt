-- The loop that writes the lines of the records.
use Rattle.image.proofs.Loops.{part_begins, part_more, part_less, made_at_end, made_at_stop}

pub ruleset listing = (part_begins, part_more, part_less, made_at_end, made_at_stop)
