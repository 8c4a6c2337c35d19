use Rattle.std.proofs.Common.{◌∙◌, Option, sym, ap}
use Rattle.code_table.specs.Cells.{coded}
use Rattle.std.specs.Borrow.{Bor}
use Rattle.code_table.specs.declared.class.Class.{Class}
use Rattle.code_table.specs.Classes.{seen_class}
use Rattle.step_activity.proofs.RedexLemmas.{class_texts, methods_by}
use Rattle.step_activity.proofs.matching.methods_of.Goals as goal

pub returns-in-Some : goal.returns-in-Some
returns-in-Some c = record {
  labels = ap (λ (o : Option (Bor Class)). class_texts (seen_class o)) (sym c.in-Some.is) ∙ methods_by c.args.code.now (coded c.args.active) c.class_of.result c.class_of.ensures.class;
}

pub returns-in-None : goal.returns-in-None
returns-in-None c = record {
  labels = ap (λ (o : Option (Bor Class)). class_texts (seen_class o)) (sym c.in-None.is) ∙ methods_by c.args.code.now (coded c.args.active) c.class_of.result c.class_of.ensures.class;
}
