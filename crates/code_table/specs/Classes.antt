-- The class of the objects that a node makes.
use Rattle.std.specs.Prelude.{ℕ, zero, suc, List, [], ◌∷◌, Option, Some, None, map}
use Rattle.std.specs.Option.{option_map}
use Rattle.std.specs.Borrow.{Bor}
use Rattle.asp_model.specs.Names.{Text}
use Rattle.code_table.specs.declared.class.Class.{Class}
use Rattle.code_table.specs.declared.code.Kind.{Kind}
use Rattle.code_table.specs.declared.code.Kind.TheVariants as kind
use Rattle.code_table.specs.declared.code.Node.{Node}
pub use Rattle.code_table.specs.Numbers.{number_of}
use Rattle.code_table.specs.Tables.{labels_of, head_of}

abbrev pub class_of : Kind → Option Class
class_of (kind.Make k) = Some k.value
class_of k = None

abbrev pub class_at : List Node → ℕ → Option Class
class_at [] i = None
class_at (n ∷ ns) zero = class_of n.kind
class_at (n ∷ ns) (suc i) = class_at ns i

-- the class that a look-up lends
abbrev pub seen_class : Option (Bor Class) → Option Class
seen_class o = option_map (λ k. k.now) o

-- the number of the first field with this label, and of the first method
abbrev pub field_number : Text → Class → Option ℕ
field_number l k = number_of l (labels_of k)

abbrev pub method_number : Text → Class → Option ℕ
method_number l k = number_of l (map (λ m. (head_of m).label) k.methods.items)
