-- The class of a label.
use Rattle.std.specs.Prelude.{ℕ, true, false, List, [], ◌∷◌}
use Rattle.asp_model.specs.Names.{Text, same_text}
use Rattle.replay_classes.specs.declared.classes.ClassRow.{ClassRow}
use Rattle.replay_classes.specs.declared.classes.Classes.{Classes}

-- that of its first row; without one it is 0
abbrev pub class_among : List ClassRow → Text → ℕ
class_among [] t = 0
class_among (r ∷ rs) t = elim (same_text t r.label.text) [ true ↦ r.class | false ↦ class_among rs t ]

abbrev pub class_in : Classes → Text → ℕ
class_in c = class_among c.rows.items
