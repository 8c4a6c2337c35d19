use Rattle.std.proofs.Common.{◌∙◌, ap}
use Rattle.asp_model.specs.Report.{text_of}
use Rattle.run_waits.proofs.cuts.reports.report_text.Goals as goal

pub returns : goal.returns
returns c = record { text = λ o e. c.in_ok-text.ensures ∙ ap text_of c.deref.ensures.value ∙ ap text_of (c.in_ok-lines.ensures.lines o e) }
