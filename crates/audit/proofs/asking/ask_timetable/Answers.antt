-- The sheet in the buffer, by the lemmas of Writing.
use Rattle.std.proofs.Common.{rules}
use Rattle.audit.proofs.Stepping.{a_timetable}
use Rattle.audit.proofs.Writing.{sheet_told, sheet_kept}
use Rattle.audit.proofs.asking.ask_timetable.Goals as goal

pub returns-in-Sheet-clause-step : goal.returns-in-Sheet-clause-step
returns-in-Sheet-clause-step g c = let s = c.sheet-answer.ensures in let e = sheet_told _ _ _ _ _ _ _ s.answer s.buffer s.length in search (rules, a_timetable)

pub returns-in-Sheet-clause-buffer : goal.returns-in-Sheet-clause-buffer
returns-in-Sheet-clause-buffer g c = let s = c.sheet-answer.ensures in sheet_kept _ _ _ _ _ _ _ s.answer s.buffer s.length
