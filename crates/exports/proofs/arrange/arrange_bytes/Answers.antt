-- The lines of the bytes are arranged, and stand in them again.
use Rattle.std.proofs.Common.{Ok, sym, ◌∙◌, subst}
use Rattle.std.proofs.lemmas.Bool.{eqb-true}
use Rattle.std.proofs.lemmas.List.{take_at}
use Rattle.exports.specs.Bytes.{lines_of, Repeated}
use Rattle.exports.proofs.Outcomes.{rewritten, accepted, outcome}
use Rattle.exports.proofs.arrange.arrange_bytes.Goals as goal

pub returns-clause-bytes : goal.returns-clause-bytes
returns-clause-bytes g c =
    let made = c.as_mut_slice.ensures.value ∙ c.in_ok-lines.ensures in
    let stand = c.as_slice.ensures.value ∙ take_at c.repeat.new.lines _ _ (c.repeat.auto.lines ∙ c.as_mut_slice.ensures.len) in
    let ok = accepted _ c.repeat.result _ c.args.times c.args.c _ c.repeat.new.lines c.in_ok-map_err.ensures.cases (rw made at c.repeat.ensures.refused) (rw made at c.repeat.ensures.lines) in
    rewritten c.args.times (g.A.Arranger.served c.args.c) c.args.c c.args.bytes.now c.recolour.new.bytes c.as_slice.result.now
    (eqb-true _ 0 (sym c.are_whole.ensures ∙ c.if-not-are_whole.false)) c.recolour.auto.bytes ok.0
    (subst (λ ls. Repeated c.args.times c.args.c (lines_of c.args.bytes.now) ls) (sym stand) ok.1) c.recolour.ensures

pub returns-clause-outcome : goal.returns-clause-outcome
returns-clause-outcome g c =
    outcome c.args.times (g.A.Arranger.served c.args.c) c.args.c c.args.bytes.now (Ok (tt {0})) c.recolour.new.bytes (returns-clause-bytes g c)
