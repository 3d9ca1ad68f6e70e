-- What the program `trace` answers to the words of its command line.
use Rattle.std.specs.Prelude.{ℕ, Bool, true, false, List, ◌++◌, Ok, Err, string_bytes, codes, Result}
use Rattle.crossbar.specs.Refusals.{Refusal, refusal}
use Rattle.crossbar.specs.Text.{refusal_text}
use Rattle.cabinet.specs.Wiring.{Meaning}
use Rattle.kinds.specs.Folded.{folded}
use Rattle.kinds.specs.Straight.{straight}
use Rattle.replies.specs.declared.arguments.KindName.{KindName}
use Rattle.replies.specs.declared.arguments.KindName.TheVariants.{Folded, Straight}
use Rattle.replies.specs.declared.arguments.Query.{Query}
use Rattle.replies.specs.declared.arguments.Misuse.{Misuse}
use Rattle.replies.specs.declared.reply.Reply.{Reply}
use Rattle.replies.specs.declared.reply.Reply.TheVariants.{Trace, Refused, Usage}
use Rattle.tracer.specs.Lines.{trace_due}
use Rattle.replies.specs.Arguments.{query_in, misuse_text}

-- what is wrong, and the usage line
abbrev pub usage_due : Misuse → List ℕ × Bool
usage_due e = (misuse_text e ++ codes "\nusage: trace KIND M N SENDER RECEIVER\n", false)

-- the text printed, and whether it is a trace
abbrev pub reply_told : Reply → List ℕ × Bool
reply_told (Trace text) = (string_bytes text, true)
reply_told (Refused e) = (refusal_text (refusal e) ++ codes "\n", false)
reply_told (Usage e) = usage_due e

abbrev pub meaning_of : KindName → ℕ → ℕ → Meaning
meaning_of Folded = folded
meaning_of Straight = straight

abbrev pub query_due : Query → Result (List ℕ) Refusal
query_due q = let m = q.sizes.m in let n = q.sizes.n in trace_due (meaning_of q.kind m n) m n q.transfer.sender q.transfer.receiver

-- the trace, or one line with the refusal
abbrev pub answer_due : Query → List ℕ × Bool
answer_due q = elim (query_due q) [ Err e ↦ (refusal_text e ++ codes "\n", false) | Ok text ↦ (text, true) ]

abbrev pub asked_due : Result Query Misuse → List ℕ × Bool
asked_due (Ok q) = answer_due q
asked_due (Err e) = usage_due e

abbrev pub reply_due : List (List ℕ) → List ℕ × Bool
reply_due words = asked_due (query_in words)
