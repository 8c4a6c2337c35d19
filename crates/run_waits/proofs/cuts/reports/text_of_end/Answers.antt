use Rattle.run_waits.proofs.cuts.reports.text_of_end.Goals as goal

pub returns : goal.returns
returns c = record { text = λ o e. c.report_text.ensures.text o e }
