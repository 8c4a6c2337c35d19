use Rattle.std.proofs.Common.{◌∙◌, sym, ap}
use Rattle.asp_model.specs.Outcome.{counts_in, lists_in}
use Rattle.asp_model.specs.Replay.{replay}
use Rattle.asp_model.specs.ReportLines.{name_of}
use Rattle.asp_model.specs.Shapes.{outcome_shape, tree_of}
use Rattle.def_paths.specs.Outcomes.{whole_outcome_of}
use Rattle.run_waits.proofs.cuts.reports.cut_report.Goals as goal

pub returns-in-Ok-clause-report : goal.returns-in-Ok-clause-report
returns-in-Ok-clause-report c =
    let o = outcome_shape c.in-Ok.end.outcome in
    let last = replay (tree_of c.args.program.now.program.root) (lists_in o) (counts_in o) in
    record {
      name = c.in-Some.name;
      named = ap name_of (sym c.as_bytes.ensures.value) ∙ sym c.in_ok-name.ensures.name ∙ c.in-Some.is;
      outcome = o;
      cut = c.in-Ok.ensures.cut;
      is = c.in_ok-text_of_end-in-Ok.ensures.text (whole_outcome_of last) c.in-Ok.ensures.end;
    }
