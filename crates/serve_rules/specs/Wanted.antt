-- The labels that a `serve` asks for, as they are lent.
use Rattle.std.specs.Prelude.{List, map}
use Rattle.asp_model.specs.Names.{Text}
use Rattle.serve_rules.specs.Labels.{class_labels, label_text}
use Rattle.serve_rules.specs.declared.wanted.Wanted.{Wanted}
use Rattle.serve_rules.specs.declared.wanted.Wanted.TheVariants as wanted

-- in the order of the text
abbrev pub wanted_labels : Wanted → List Text
wanted_labels (wanted.Labels ls) = map label_text ls.now
wanted_labels (wanted.Methods k) = class_labels k.now
