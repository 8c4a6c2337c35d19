use Rattle.std.proofs.Common.{◌++◌, ◌∙◌, sym}
use Rattle.asp_model.specs.Report.{with_feed}
use Rattle.run_waits.proofs.TextLemmas.{text_more}
use Rattle.run_waits.proofs.cuts.reports.joined.Goals as goal

pub loop-line-preserved : goal.loop-line-preserved
loop-line-preserved c =
    c.in_ok-add_line.ensures
    ∙ (λ i. c.loop-line.invariant i ++ with_feed (c.as_str.ensures i))
    ∙ sym (text_more c.args.lines.now c.loop-line.line-index c.line-item.result c.loop-line-test.true c.line-item.is)
