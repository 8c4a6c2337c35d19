-- Labels as texts, and when two lists of them have the same.
use Rattle.std.specs.Prelude.{◌≡◌, ℕ, Bool, true, false, List, [], ◌∷◌, map}
use Rattle.asp_model.specs.Names.{Text}
use Rattle.asp_model.specs.Term.{has_text}
use Rattle.asp_model.specs.declared.word.Label.{Label}
use Rattle.asp_model.specs.Intent.{method_labels}
use Rattle.code_table.specs.Pieces.{Piece}
use Rattle.code_table.specs.Tables.{object_of}
use Rattle.code_table.specs.declared.class.Class.{Class}
use Rattle.code_table.specs.declared.code.MethodCode.{MethodCode}

abbrev pub label_text : Label → Text
label_text l = l.text

-- a text is in both or in neither
abbrev pub HaveSame : List Text → List Text → Type 0
HaveSame xs ys = (l : Text) → has_text l xs ≡ has_text l ys

-- there are some
abbrev pub has_some : List Text → Bool
has_some [] = false
has_some (l ∷ ls) = true

abbrev pub method_text : MethodCode → Text
method_text m = m.label.text

-- the labels of the methods of a class
abbrev pub class_labels : Class → List Text
class_labels k = map method_text k.methods.items

-- they are those of each object of the class, whatever its places
abbrev pub LabelsAreOfObjects : Type 0
LabelsAreOfObjects = (ps : List Piece) (k : Class) (ns : List ℕ) → method_labels (object_of ps k ns) ≡ class_labels k
