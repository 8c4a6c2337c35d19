-- What reading by paths tells apart, and what it does not: an example of each for every clause.
use Rattle.std.specs.Prelude.{pos, ℕ, List, [], ◌∷◌, codes, map}
use Prim.Native.String.{String}
use Rattle.asp_model.specs.Names.{FutureShape, main_name}
use Rattle.asp_model.specs.Term.{Print, one, loc}
use Rattle.asp_model.specs.Store.{CellShape, Number, Object, Reference, Future, Group, Store}
use Rattle.asp_model.specs.Parcel.{ParcelShape, unpack_at}
use Rattle.asp_model.specs.Chase.{Values}
use Rattle.def_paths.specs.Places.{side_of, AreReadAlike}
use Rattle.worked_rows.specs.Reports.{created}
use Rattle.worked_rows.specs.Lending.{sent_by}

-- two stores whose first cell reads the same, under these values
abbrev pub Alike : Values → Store → Store → Type 0
Alike values s t = AreReadAlike (side_of values s) (side_of values t) (0 ∷ []) (0 ∷ [])

abbrev pub Apart : Values → Store → Store → Type 0
Apart values s t = Alike values s t → ⊥

-- an object with fields of these labels at these places
abbrev pub fields : List (String × ℕ) → CellShape
fields xs = Object (map (λ x. record { label = codes x.0; place = x.1 }) xs) []

abbrev pub number : ℕ → CellShape
number n = Number (pos n)

-- Cells shared by two fields

abbrev pub shared : Store
shared = fields (("a", 1) ∷ ("b", 1) ∷ []) ∷ number 5 ∷ []

abbrev pub equal : Store
equal = fields (("a", 1) ∷ ("b", 2) ∷ []) ∷ number 5 ∷ number 5 ∷ []

-- the same cells at other places
abbrev pub turned : Store
turned = fields (("a", 2) ∷ ("b", 1) ∷ []) ∷ number 5 ∷ number 5 ∷ []

pub record TellsSharing : Type 0 where
  pub apart : Apart [] shared equal
  pub alike : Alike [] equal turned

-- Labels and numbers

pub record TellsFields : Type 0 where
  pub label : Apart [] (fields (("a", 1) ∷ []) ∷ number 5 ∷ []) (fields (("b", 1) ∷ []) ∷ number 5 ∷ [])
  pub value : Apart [] (fields (("a", 1) ∷ []) ∷ number 5 ∷ []) (fields (("a", 1) ∷ []) ∷ number 6 ∷ [])
  pub reference : Apart [] (Reference (created 1) ∷ []) (Reference (created 2) ∷ [])
  -- what no path leads to
  pub alike : Alike [] (fields (("a", 1) ∷ []) ∷ number 5 ∷ []) (fields (("a", 2) ∷ []) ∷ number 6 ∷ number 5 ∷ [])

-- Methods: the head, and the places that a body captures

-- an object with the method m(self) = print(i)
abbrev pub printing : String → ℕ → CellShape
printing slf i = Object [] (record { head = record { label = codes "m"; slf = codes slf; parameters = [] }; body = one Print (loc i) } ∷ [])

pub record TellsMethods : Type 0 where
  pub head : Apart [] (printing "s" 1 ∷ number 5 ∷ []) (printing "self" 1 ∷ number 5 ∷ [])
  pub captured : Apart [] (printing "s" 1 ∷ number 5 ∷ []) (printing "s" 1 ∷ number 6 ∷ [])
  pub alike : Alike [] (printing "s" 1 ∷ number 5 ∷ []) (printing "s" 2 ∷ number 6 ∷ number 5 ∷ [])

-- Groups

pub record TellsGroups : Type 0 where
  pub size : Apart [] (Group (1 ∷ []) ∷ number 5 ∷ []) (Group (1 ∷ 1 ∷ []) ∷ number 5 ∷ [])
  pub alike : Alike [] (Group (1 ∷ 2 ∷ []) ∷ number 5 ∷ number 6 ∷ []) (Group (2 ∷ 1 ∷ []) ∷ number 6 ∷ number 5 ∷ [])

-- Futures

abbrev pub first : FutureShape
first = sent_by main_name 1

abbrev pub second : FutureShape
second = sent_by main_name 2

-- the first leads to the second, which has no value
abbrev pub passed : Values
passed = (first, record { cells = Future second ∷ []; roots = 0 ∷ [] }) ∷ []

-- an object of one field is the value of the first
abbrev pub held : ParcelShape
held = record { cells = fields (("x", 1) ∷ []) ∷ number 3 ∷ []; roots = 0 ∷ [] }

abbrev pub filled : Values
filled = (first, held) ∷ []

-- two fields with the future, each in a cell of its own, or in one
abbrev pub lazy : Store
lazy = fields (("a", 1) ∷ ("b", 2) ∷ []) ∷ Future first ∷ Future first ∷ []

abbrev pub one_cell : Store
one_cell = fields (("a", 1) ∷ ("b", 1) ∷ []) ∷ Future first ∷ []

-- with the value unpacked at the first of them
abbrev pub eager : Store
eager = unpack_at lazy 1 held

pub record TellsFutures : Type 0 where
  -- the awaited name
  pub awaited : Apart [] (Future first ∷ []) (Future second ∷ [])
  pub passed_on : Alike passed (Future first ∷ []) (Future second ∷ [])
  -- a value that is read at two places is two values
  pub shared : Apart filled lazy one_cell
  pub delivered : Alike filled lazy eager
