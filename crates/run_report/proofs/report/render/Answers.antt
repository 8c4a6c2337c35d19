use Rattle.run_report.proofs.EndLemmas.{if_read}
use Rattle.run_report.proofs.report.render.Goals as goal

pub returns : goal.returns
returns c = record {
  lines = c.all_lines.ensures;
  read = λ o h w p. if_read (λ v. v.items) c.all_lines.result c.args.depth o (c.all_lines.ensures o h) w p;
}
