use Rattle.std.proofs.Common.{◌≡◌, ◌≤◌, ◌∙◌, length, sym, ap, arith}
use Rattle.std.proofs.lemmas.Bool.{leb-true}
use Rattle.std.proofs.lemmas.List.{length-map}
use Rattle.asp_model.specs.Shapes.{reception_shape}
use Rattle.class_search.specs.Logs.{logs_of}
use Rattle.class_search.proofs.LogLemmas.{inside_begun}
use Rattle.replay_classes.proofs.CutLemmas.{inside_here}
use Rattle.replay_classes.proofs.cuts.is_inside.Goals as goal

pub returns-then-begin_with : goal.returns-then-begin_with
returns-then-begin_with c = record {
  inside = λ t.
      let rows = logs_of c.args.rows.now in
      let cut = c.args.cut.now in
      let long : length (rows cut.to cut.class) ≡ length c.log_at.result.now = sym (ap length c.log_at.ensures.log) ∙ length-map c.log_at.result.now reception_shape in
      let short : length c.log_at.result.now ≤ c.args.place = leb-true (length c.log_at.result.now) c.args.place t in
      inside_here rows (logs_of c.args.logs.now) cut.to cut.class c.args.place (inside_begun rows (logs_of c.args.logs.now) (c.begin_with.ensures.begin.0 c.if-begin_with.true)) (omega (arith, long, short));
}
