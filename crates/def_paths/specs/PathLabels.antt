-- Paths as a reader writes them: by labels of fields, numbers of members and places captured in methods.
use Rattle.std.specs.Prelude.{ℕ, zero, suc, ◌+◌, nat_lt, true, false, List, [], ◌∷◌, Option, Some, None, length, map}
use Rattle.asp_model.specs.Names.{Text, same_text}
use Rattle.asp_model.specs.Term.{locations}
use Rattle.asp_model.specs.Store.{MethodShape, Field, CellShape, Object, Group}
use Rattle.def_paths.specs.Places.{Place, In_store, Side, found, children, nth_place, then_place}

-- one step of a path
pub data PathLabel : Type 0 where
  To_field : (label : Text) → PathLabel
  To_member : (number : ℕ) → PathLabel
  -- a method's label, and the number of a place that its body holds, in text order
  To_captured : (method : Text) (number : ℕ) → PathLabel

-- the next number, of one that is there
abbrev pub one_more : Option ℕ → Option ℕ
one_more None = None
one_more (Some n) = Some (suc n)

-- the number of the first field with this label
abbrev pub number_of_field : Text → List Field → Option ℕ
number_of_field l [] = None
number_of_field l (f ∷ fs) = elim (same_text l f.label) [ true ↦ Some zero | false ↦ one_more (number_of_field l fs) ]

-- the number, if it is below the count
abbrev pub within : (number count : ℕ) → Option ℕ
within k count = elim (nat_lt k count) [ true ↦ Some k | false ↦ None ]

-- a number that is counted after so many others
abbrev pub behind : ℕ → Option ℕ → Option ℕ
behind count None = None
behind count (Some n) = Some (count + n)

-- the number among all captured places of this one of the first method with this label
abbrev pub number_of_captured : Text → ℕ → List MethodShape → Option ℕ
number_of_captured l k [] = None
number_of_captured l k (m ∷ ms) = elim (same_text l m.head.label) [
  | true ↦ within k (length (locations m.body))
  | false ↦ behind (length (locations m.body)) (number_of_captured l k ms)
]

-- the number of the child to which a label leads from what is found
abbrev pub number_by : CellShape → PathLabel → Option ℕ
number_by (Object fs ms) (To_field l) = number_of_field l fs
number_by (Object fs ms) (To_captured l k) = behind (length fs) (number_of_captured l k ms)
number_by (Group ns) (To_member k) = Some k
number_by c t = None

-- the child of that number, if there is one
abbrev pub numbered_child : List Place → Option ℕ → Option Place
numbered_child ps None = None
numbered_child ps (Some n) = nth_place ps n

-- where a path leads from a place; none where a label is not there
abbrev pub leads_by : Side → List PathLabel → Place → Option Place
leads_by a [] p = Some p
leads_by a (t ∷ ts) p = then_place (numbered_child (children a p) (number_by (found a p) t)) (leads_by a ts)

-- where a path leads from the root of that number; none where a label is not there
abbrev pub from_by : Side → List ℕ → ℕ → List PathLabel → Option Place
from_by a roots k ts = then_place (nth_place (map In_store roots) k) (leads_by a ts)
