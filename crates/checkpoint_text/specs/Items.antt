-- What a checkpoint keeps as items: each is a number, in decimals.
use Rattle.std.specs.Prelude.{ℕ, ℤ, List, [], ◌∷◌, ◌++◌, Option, Some, None, length, map, take, drop}
use Rattle.std.specs.List.{flat_map}
use Rattle.std.specs.Fmt.{decimal, signed_decimal}
use Rattle.asp_model.specs.Names.{Name, FutureShape, Text}
use Rattle.asp_model.specs.Term.{SignShape, Add, Subtract, Multiply, Divide, Remainder, Less, Equal, MethodHead, Head, Loc, Hole, Var, Number, Make, Get, Put, Call, Clone, Active, Serve, Let, Steps, If, Repeat, Operate, Print, Echo, Group, Scatter, Size, Member, WaitAll, Pending, Tree, Trees, node, none, more, leaf, loc}
use Rattle.asp_model.specs.Store.{MethodShape, Field, CellShape, Object, Reference, Future}
use Rattle.asp_model.specs.Store as cells
use Rattle.asp_model.specs.Parcel.{ParcelShape}
use Rattle.asp_model.specs.Split.{Split, Stands, Splits, split}
use Rattle.asp_model.specs.Contraction.{LineShape, NumberLine, TextLine}
use Rattle.asp_model.specs.Configuration.{RequestShape, ServiceShape, ReceptionShape, From, Poll}
use Rattle.code_laws.specs.Splitting.{redex_node}
use Rattle.code_reading.specs.Shown.{hole_tree}

-- numbers, each in decimals
abbrev pub Items : Type 0
Items = List Text

-- one value's items behind another's
abbrev pub joined : List Items → Items
joined = flat_map (λ t. t)

-- Numbers, texts, lists and options

abbrev pub number_items : ℕ → Items
number_items k = decimal k ∷ []

-- with `-` where it is negative
abbrev pub signed_items : ℤ → Items
signed_items n = signed_decimal n ∷ []

-- its length, then its items
abbrev pub list_items : {X : Type 0} → (X → Items) → List X → Items
list_items f xs = decimal (length xs) ∷ flat_map f xs

-- the number of its bytes, then each byte
abbrev pub text_items : Text → Items
text_items = list_items number_items

-- 0, or 1 and what there is
abbrev pub option_items : {X : Type 0} → (X → Items) → Option X → Items
option_items f None = number_items 0
option_items f (Some x) = decimal 1 ∷ f x

-- one behind the other
abbrev pub pair_items : {X Y : Type 0} → (X → Items) → (Y → Items) → X × Y → Items
pair_items f g x = f x.0 ++ g x.1

-- Names, logs and lines

abbrev pub name_items : Name → Items
name_items = list_items number_items

abbrev pub future_items : FutureShape → Items
future_items f = name_items f.by ++ number_items f.index

abbrev pub reception_items : ReceptionShape → Items
reception_items (From n) = decimal 0 ∷ name_items n
reception_items Poll = number_items 1

abbrev pub output_items : LineShape → Items
output_items (NumberLine n) = decimal 0 ∷ signed_items n
output_items (TextLine t) = decimal 1 ∷ text_items t

-- Terms

abbrev pub sign_number : SignShape → ℕ
sign_number Add = 0
sign_number Subtract = 1
sign_number Multiply = 2
sign_number Divide = 3
sign_number Remainder = 4
sign_number Less = 5
sign_number Equal = 6

-- the number of a node's kind
abbrev pub kind_number : Head → ℕ
kind_number (Loc place) = 0
kind_number Hole = 1
kind_number (Var x) = 2
kind_number (Number n) = 3
kind_number (Make fields methods) = 4
kind_number (Get l) = 5
kind_number (Put l) = 6
kind_number (Call l) = 7
kind_number Clone = 8
kind_number (Active service) = 9
kind_number (Serve labels) = 10
kind_number (Let x) = 11
kind_number Steps = 12
kind_number If = 13
kind_number Repeat = 14
kind_number (Operate sign) = 15
kind_number Print = 16
kind_number (Echo t) = 17
kind_number Group = 18
kind_number (Scatter l) = 19
kind_number Size = 20
kind_number Member = 21
kind_number WaitAll = 22
kind_number (Pending labels) = 23

-- labels with the terms of their fields
abbrev pub field_items : List Text → List Items → Items
field_items (l ∷ ls) (t ∷ ts) = text_items l ++ t ++ field_items ls ts
field_items ls ts = []

-- a method's label, the names of self and of the parameters, and its body
abbrev pub method_items : MethodHead → Items → Items
method_items m body = text_items m.label ++ text_items m.slf ++ list_items text_items m.parameters ++ body

abbrev pub methods_items : List MethodHead → List Items → Items
methods_items (m ∷ ms) (t ∷ ts) = method_items m t ++ methods_items ms ts
methods_items ms ts = []

-- terms as a list: how many, then each
abbrev pub terms_items : List Items → Items
terms_items = list_items (λ t. t)

-- a label behind the first of these terms
abbrev pub label_behind : Text → List Items → (List Items → Items) → Items
label_behind l [] rest = text_items l ++ rest []
label_behind l (t ∷ ts) rest = t ++ text_items l ++ rest ts

-- what stands behind a node's kind, where the terms below have these items
abbrev pub head_items : Head → List Items → Items
head_items (Loc place) ts = number_items place
head_items Hole ts = []
head_items (Var x) ts = text_items x
head_items (Number n) ts = signed_items n
head_items (Make fields methods) ts =
    decimal (length fields) ∷ field_items fields (take (length fields) ts)
    ++ decimal (length methods) ∷ methods_items methods (drop (length fields) ts)
head_items (Get l) ts = label_behind l ts joined
head_items (Put l) ts = label_behind l ts joined
head_items (Call l) ts = label_behind l ts terms_items
head_items Clone ts = joined ts
head_items (Active service) ts = joined ts ++ option_items text_items service
head_items (Serve labels) ts = list_items text_items labels
head_items (Let x) ts = text_items x ++ joined ts
head_items Steps ts = terms_items ts
head_items If ts = joined ts
head_items Repeat ts = joined ts
head_items (Operate sign) ts = number_items (sign_number sign) ++ joined ts
head_items Print ts = joined ts
head_items (Echo t) ts = text_items t
head_items Group ts = terms_items ts
head_items (Scatter l) ts = label_behind l ts joined
head_items Size ts = joined ts
head_items Member ts = joined ts
head_items WaitAll ts = joined ts
head_items (Pending labels) ts = list_items text_items labels

abbrev mutual
  -- a term: its kind, then its fields in order
  pub term_items : Tree → Items
  term_items (node h ts) = decimal (kind_number h) ∷ head_items h (items_below ts)

  pub items_below : Trees → List Items
  items_below none = []
  items_below (more t ts) = term_items t ∷ items_below ts

-- a term as a list: its location, or its redex and then the contexts, innermost first
abbrev pub split_items : Split → Items
split_items (Stands place) = terms_items (term_items (loc place) ∷ [])
split_items (Splits contexts redex) = terms_items (map term_items (redex_node redex ∷ map hole_tree contexts))

abbrev pub running_items : Tree → Items
running_items t = split_items (split t)

-- Cells, parcels, requests and services

abbrev pub place_items : Field → Items
place_items x = text_items x.label ++ number_items x.place

abbrev pub cell_items : CellShape → Items
cell_items (cells.Number n) = decimal 0 ∷ signed_items n
cell_items (Object fields methods) =
    decimal 1 ∷ list_items place_items fields ++ list_items (λ m. method_items m.head (term_items m.body)) methods
cell_items (Reference n) = decimal 2 ∷ name_items n
cell_items (Future f) = decimal 3 ∷ future_items f
cell_items (cells.Group members) = decimal 4 ∷ list_items number_items members

abbrev pub store_items : List CellShape → Items
store_items = list_items cell_items

abbrev pub parcel_items : ParcelShape → Items
parcel_items p = store_items p.cells ++ list_items number_items p.roots

abbrev pub request_items : RequestShape → Items
request_items r = text_items r.label ++ name_items r.sender ++ future_items r.future ++ parcel_items r.arguments

-- a suspended term has a hole for its `serve`
abbrev pub service_items : ServiceShape → Items
service_items v =
    terms_items (map term_items (leaf Hole ∷ map hole_tree v.contexts)) ++ option_items future_items v.future
