use Rattle.std.proofs.Common.{[], ◌∷◌, ◌++◌, ◌∙◌, sym}
use Rattle.outcomes_text.specs.Outcomes.{seen_among}
use Rattle.outcomes_text.proofs.SeenLemmas.{seen_more}
use Rattle.outcomes_text.proofs.seen.without_logs.Goals as goal

pub loop-line-preserved : goal.loop-line-preserved
loop-line-preserved c =
    c.in_ok-add_unless_log.ensures
    ∙ (λ i. c.loop-line.invariant i ++ seen_among (c.as_str.ensures i ∷ []))
    ∙ sym (seen_more c.args.lines.now c.loop-line.line-index c.line-item.result c.loop-line-test.true c.line-item.is)
