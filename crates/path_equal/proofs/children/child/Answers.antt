use Rattle.std.proofs.Common.{◌∙◌, sym, ap}
use Rattle.std.specs.Option.{option_map}
use Rattle.def_paths.specs.Places.{child_by, entered}
use Rattle.path_equal.specs.Reading.{label_shape}
use Rattle.state_lines.specs.Sights.{seen_shape}
use Rattle.path_equal.proofs.ReadLemmas.{child_is}
use Rattle.path_equal.proofs.children.child.Goals as goal

pub returns-in-Some : goal.returns-in-Some
returns-in-Some c = record {
  child = λ a p at sees. (child_by (entered a p) p c.in-Some.cell, child_is a p (seen_shape c.args.sight.seen) (label_shape c.args.label.now) sees.read ∙ ap (option_map (child_by (entered a p) p)) (sym c.in-Some.ensures.cell), c.beside.ensures.at a p at sees.value);
}

pub returns-in-None : goal.returns-in-None
returns-in-None c = record {
  child = λ a p at sees. child_is a p (seen_shape c.args.sight.seen) (label_shape c.args.label.now) sees.read ∙ ap (option_map (child_by (entered a p) p)) (sym c.in-None.ensures.cell);
}
