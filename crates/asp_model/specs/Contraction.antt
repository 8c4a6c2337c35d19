-- One contraction of a redex: the table of reductions. Faults stand in the order in which they are tried.
use Rattle.std.specs.Prelude.{ℕ, ℤ, pos, negsuc, zero, suc, ◌^◌, ◌&&◌, ◌+ℤ◌, ◌-ℤ◌, ◌*ℤ◌, neg_ℤ, int_le, int_lt, int_div, int_rem, Bool, true, false, List, [], ◌∷◌, ◌++◌, Option, Some, None, length}
use Rattle.asp_model.specs.Names.{Name, Text, same_text}
use Rattle.asp_model.specs.Term.{SignShape, Add, Subtract, Multiply, Divide, Remainder, Less, Equal, MethodHead, Head, Tree, Trees, node, none, more, Make, Get, Put, Call, Clone, Active, Serve, Let, Steps, If, Repeat, Operate, Print, Echo, Scatter, Size, Member, WaitAll, Pending, Environment, loc, locs_then, put_in}
use Rattle.asp_model.specs.Term as term
use Rattle.asp_model.specs.Split.{Redex}
use Rattle.asp_model.specs.Store.{MethodShape, Field, CellShape, Number, Object, Reference, Future, Group, Store, cell, with_cell}

-- why an activity stops for good
pub data FaultShape : Type 0 where
  NoField : FaultShape
  NoMethod : FaultShape
  NotObject : FaultShape
  NotNumber : FaultShape
  NotGroup : FaultShape
  BadMember : FaultShape
  ActiveField : FaultShape
  Overflow : FaultShape
  ZeroDivisor : FaultShape

-- a line of output
pub data LineShape : Type 0 where
  NumberLine : (n : ℤ) → LineShape
  TextLine : (text : Text) → LineShape

-- what a redex asks of others
pub data Communication : Type 0 where
  Creates : (object : ℕ) (service : Option Text) → Communication
  Sends : (to : Name) (label : Text) (arguments : List ℕ) → Communication
  Serves : (labels : List Text) → Communication
  Polls : (labels : List Text) → Communication

-- what becomes of a redex
pub data Contraction : Type 0 where
  Becomes : (t : Tree) (store : Store) (lines : List LineShape) → Contraction
  Faults : (fault : FaultShape) → Contraction
  -- the first strict operand that is a future
  Needs : (place : ℕ) → Contraction
  Communicates : (communication : Communication) → Contraction
  -- no term of a checked program comes to this
  Breaks : Contraction

-- the term becomes the location of a new cell
abbrev pub allots : Store → CellShape → List LineShape → Contraction
allots s c lines = Becomes (loc (length s)) (s ++ c ∷ []) lines

-- the term becomes this location; the store stays
abbrev pub stays_at : ℕ → Store → Contraction
stays_at place s = Becomes (loc place) s []

-- Objects

-- each label with its place, as far as both lists go
abbrev pub fields_at : List Text → List ℕ → List Field
fields_at [] ns = []
fields_at (l ∷ ls) [] = []
fields_at (l ∷ ls) (n ∷ ns) = record { label = l; place = n } ∷ fields_at ls ns

-- each head with its body, as far as both go
abbrev pub methods_with : List MethodHead → Trees → List MethodShape
methods_with [] ts = []
methods_with (m ∷ ms) none = []
methods_with (m ∷ ms) (more t ts) = record { head = m; body = t } ∷ methods_with ms ts

-- the place of the first field with this label
abbrev pub field_place : Text → List Field → Option ℕ
field_place l [] = None
field_place l (f ∷ fs) = elim (same_text l f.label) [ true ↦ Some f.place | false ↦ field_place l fs ]

-- the fields, with this place at the first one with the label
abbrev pub with_field : Text → ℕ → List Field → List Field
with_field l n [] = []
with_field l n (f ∷ fs) = elim (same_text l f.label) [
  | true ↦ record { label = f.label; place = n } ∷ fs
  | false ↦ f ∷ with_field l n fs
]

-- the first method with this label
abbrev pub method_at : Text → List MethodShape → Option MethodShape
method_at l [] = None
method_at l (m ∷ ms) = elim (same_text l m.head.label) [ true ↦ Some m | false ↦ method_at l ms ]

-- the place of a field, where there is one
abbrev pub field_found : Store → Option ℕ → Contraction
field_found s None = Faults NoField
field_found s (Some n) = stays_at n s

-- `o.l`, by the cell of o
abbrev pub get_row : Store → Text → CellShape → Contraction
get_row s l (Reference n) = Faults ActiveField
get_row s l (Object fields methods) = field_found s (field_place l fields)
get_row s l c = Faults NotObject

-- the object with its new cell, where it has the field
abbrev pub field_set : Store → ℕ → CellShape → Option ℕ → Contraction
field_set s i c None = Faults NoField
field_set s i c (Some n) = stays_at i (with_cell s i c)

-- `o.l := t`, by the cell of o; the term becomes o
abbrev pub put_row : Store → Text → ℕ → ℕ → CellShape → Contraction
put_row s l i k (Reference n) = Faults ActiveField
put_row s l i k (Object fields methods) = field_set s i (Object (with_field l k fields) methods) (field_place l fields)
put_row s l i k c = Faults NotObject

-- each name with its location; none where there are more of the one than of the other
abbrev pub bindings : List Text → List ℕ → Option Environment
bindings [] [] = Some []
bindings [] (n ∷ ns) = None
bindings (x ∷ xs) [] = None
bindings (x ∷ xs) (n ∷ ns) = elim (bindings xs ns) [ None ↦ None | Some bs ↦ Some ((x, n) ∷ bs) ]

-- a method's body over the bindings of its names, where there are as many arguments as parameters
abbrev pub invoked : Store → Tree → Option Environment → Contraction
invoked s body None = Faults NoMethod
invoked s body (Some bs) = Becomes (put_in bs body) s []

-- the call of a method, where there is one
abbrev pub method_found : Store → ℕ → List ℕ → Option MethodShape → Contraction
method_found s i ks None = Faults NoMethod
method_found s i ks (Some m) = invoked s m.body (bindings (m.head.slf ∷ m.head.parameters) (i ∷ ks))

-- `active(o)`, by the cell of o
abbrev pub active_row : ℕ → Option Text → CellShape → Contraction
active_row i service (Object fields methods) = Communicates (Creates i service)
active_row i service c = Faults NotObject

-- Groups

-- a call to each member
abbrev pub broadcast : Text → List ℕ → List ℕ → Trees
broadcast l [] ks = none
broadcast l (n ∷ ns) ks = more (node (Call l) (more (loc n) (locs_then ks none))) (broadcast l ns ks)

-- a call to each member, with an argument of its own; none where the sizes differ
abbrev pub scattered : Text → List ℕ → List ℕ → Option Trees
scattered l [] [] = Some none
scattered l [] (k ∷ ks) = None
scattered l (n ∷ ns) [] = None
scattered l (n ∷ ns) (k ∷ ks) = elim (scattered l ns ks) [
  | None ↦ None
  | Some ts ↦ Some (more (node (Call l) (more (loc n) (more (loc k) none))) ts)
]

-- the group of all calls, where the groups have one size
abbrev pub sizes_compared : Store → Option Trees → Contraction
sizes_compared s None = Faults BadMember
sizes_compared s (Some ts) = Becomes (node term.Group ts) s []

-- `scatter`, by the cells of the two groups
abbrev pub scatter_row : Store → Text → CellShape → CellShape → Contraction
scatter_row s l (Group ns) (Group ks) = sizes_compared s (scattered l ns ks)
scatter_row s l c d = Faults NotGroup

-- `size(g)`, by the cell of g
abbrev pub size_row : Store → CellShape → Contraction
size_row s (Group ns) = allots s (Number (pos (length ns))) []
size_row s c = Faults NotGroup

-- the member at a number, from 0
abbrev pub member_at : List ℕ → ℕ → Option ℕ
member_at [] k = None
member_at (n ∷ ns) zero = Some n
member_at (n ∷ ns) (suc k) = member_at ns k

-- the member, where there is one
abbrev pub member_found : Store → Option ℕ → Contraction
member_found s None = Faults BadMember
member_found s (Some n) = stays_at n s

-- `member(g, k)`, by the cells of g and k
abbrev pub member_row : Store → CellShape → CellShape → Contraction
member_row s (Group ns) (Number (pos k)) = member_found s (member_at ns k)
member_row s (Group ns) (Number (negsuc k)) = Faults BadMember
member_row s (Group ns) d = Faults NotNumber
member_row s c d = Faults NotGroup

-- `waitall(g)`, by the cell of g, whose members are no futures
abbrev pub wait_row : Store → ℕ → CellShape → Contraction
wait_row s i (Group ns) = stays_at i s
wait_row s i c = Faults NotGroup

-- a call goes by what its receiver is
abbrev pub call_row : Store → Text → ℕ → List ℕ → CellShape → Contraction
call_row s l i ks (Object fields methods) = method_found s i ks (method_at l methods)
call_row s l i ks (Group ns) = Becomes (node term.Group (broadcast l ns ks)) s []
call_row s l i ks (Reference n) = Communicates (Sends n l ks)
call_row s l i ks (Number z) = Faults NotObject
call_row s l i ks (Future f) = Breaks

-- Numbers

-- a number of 64 bits
abbrev pub is_in_range : ℤ → Bool
is_in_range z = int_le (neg_ℤ (pos (2 ^ 63))) z && int_lt z (pos (2 ^ 63))

-- a new number, where 64 bits hold it
abbrev pub in_range : Store → ℤ → Contraction
in_range s z = elim (is_in_range z) [ true ↦ allots s (Number z) [] | false ↦ Faults Overflow ]

-- 1 for true, 0 for false
abbrev pub truth : Bool → ℤ
truth true = pos 1
truth false = pos 0

-- a division by this number, unless it is 0
abbrev pub unless_zero : ℤ → Contraction → Contraction
unless_zero (pos zero) c = Faults ZeroDivisor
unless_zero (pos (suc n)) c = c
unless_zero (negsuc n) c = c

-- where the quotient is out of range, so is the remainder's reduction: the least number by -1
abbrev pub remainder_in_range : Store → ℤ → ℤ → Contraction
remainder_in_range s x y = elim (is_in_range (int_div x y)) [
  | true ↦ allots s (Number (int_rem x y)) []
  | false ↦ Faults Overflow
]

-- an operator on two numbers
abbrev pub operate : Store → SignShape → ℤ → ℤ → Contraction
operate s Add x y = in_range s (x +ℤ y)
operate s Subtract x y = in_range s (x -ℤ y)
operate s Multiply x y = in_range s (x *ℤ y)
operate s Divide x y = unless_zero y (in_range s (int_div x y))
operate s Remainder x y = unless_zero y (remainder_in_range s x y)
operate s Less x y = allots s (Number (truth (int_lt x y))) []
operate s Equal x y = allots s (Number (truth (int_le x y && int_le y x))) []

-- an operator, by the cells of its operands
abbrev pub operate_row : Store → SignShape → CellShape → CellShape → Contraction
operate_row s sign (Number x) (Number y) = operate s sign x y
operate_row s sign c d = Faults NotNumber

-- `if`, by the cell of its condition: 0 is false
abbrev pub if_row : Store → Tree → Tree → CellShape → Contraction
if_row s a b (Number (pos zero)) = Becomes b s []
if_row s a b (Number z) = Becomes a s []
if_row s a b c = Faults NotNumber

-- `print(t)`, by the cell of t
abbrev pub print_row : Store → ℕ → CellShape → Contraction
print_row s i (Number z) = Becomes (loc i) s (NumberLine z ∷ [])
print_row s i c = Faults NotNumber

-- The table

-- what a sequence leaves when its first term is done
abbrev pub remaining : Trees → Tree
remaining none = node Steps none
remaining (more t none) = t
remaining (more t (more u ts)) = node Steps (more t (more u ts))

-- a redex whose strict operands are no futures
abbrev pub row : Store → Head → List ℕ → Trees → Contraction
row s (term.Number z) [] none = allots s (Number z) []
row s (Make labels methods) ns ts = allots s (Object (fields_at labels ns) (methods_with methods ts)) []
row s (Echo text) [] none = allots s (Object [] []) (TextLine text ∷ [])
row s (Get l) (i ∷ []) none = get_row s l (cell s i)
row s (Put l) (i ∷ k ∷ []) none = put_row s l i k (cell s i)
row s (Call l) (i ∷ ks) none = call_row s l i ks (cell s i)
row s Clone (i ∷ []) none = allots s (cell s i) []
row s (Active service) (i ∷ []) none = active_row i service (cell s i)
row s (Serve labels) [] none = Communicates (Serves labels)
row s (Let x) (i ∷ []) (more body none) = Becomes (put_in ((x, i) ∷ []) body) s []
row s Steps (i ∷ []) ts = Becomes (remaining ts) s []
row s If (i ∷ []) (more a (more b none)) = if_row s a b (cell s i)
row s Repeat [] (more a none) = Becomes (node Steps (more a (more (node Repeat (more a none)) none))) s []
row s (Operate sign) (i ∷ k ∷ []) none = operate_row s sign (cell s i) (cell s k)
row s Print (i ∷ []) none = print_row s i (cell s i)
row s term.Group ns none = allots s (Group ns) []
row s (Scatter l) (i ∷ k ∷ []) none = scatter_row s l (cell s i) (cell s k)
row s Size (i ∷ []) none = size_row s (cell s i)
row s Member (i ∷ k ∷ []) none = member_row s (cell s i) (cell s k)
row s WaitAll (i ∷ []) none = wait_row s i (cell s i)
row s (Pending labels) [] none = Communicates (Polls labels)
row s h ns ts = Breaks

-- Strict operands

-- the first of these, where there is one
abbrev pub first_of : List ℕ → List ℕ
first_of [] = []
first_of (n ∷ ns) = n ∷ []

-- the strict operands that stand in the redex, in the order in which they are read
abbrev pub strict_operands : Head → List ℕ → List ℕ
strict_operands (Get l) ns = ns
strict_operands (Put l) ns = first_of ns
strict_operands (Call l) ns = first_of ns
strict_operands Clone ns = ns
strict_operands (Active service) ns = ns
strict_operands If ns = ns
strict_operands (Operate sign) ns = ns
strict_operands Print ns = ns
strict_operands (Scatter l) ns = ns
strict_operands Size ns = ns
strict_operands Member ns = ns
strict_operands WaitAll ns = ns
strict_operands h ns = []

-- the members of a group
abbrev pub members_of : CellShape → List ℕ
members_of (Group ns) = ns
members_of c = []

-- the members of the group at the first of these places
abbrev pub members_at : Store → List ℕ → List ℕ
members_at s [] = []
members_at s (n ∷ ns) = members_of (cell s n)

-- the strict operands behind these: the members of the group that `waitall` waits for
abbrev pub strict_members : Store → Head → List ℕ → List ℕ
strict_members s WaitAll ns = members_at s ns
strict_members s h ns = []

-- a cell is a future
abbrev pub is_future : CellShape → Bool
is_future (Future f) = true
is_future c = false

-- the first of these places that holds a future
abbrev pub first_future : Store → List ℕ → Option ℕ
first_future s [] = None
first_future s (n ∷ ns) = elim (is_future (cell s n)) [ true ↦ Some n | false ↦ first_future s ns ]

-- one contraction: the first future among the strict operands, else the redex's row
abbrev pub contract : Store → Redex → Contraction
contract s r = elim (first_future s (strict_operands r.head r.places ++ strict_members s r.head r.places)) [
  | Some n ↦ Needs n
  | None ↦ row s r.head r.places r.behind
]
