-- A redex needs a value exactly where one of its strict operands is a future: no row asks for one.
use Rattle.std.proofs.Common.{◌≡◌, ◌∷◌, ◌+ℤ◌, ◌-ℤ◌, ◌*ℤ◌, [], ℕ, ℤ, pos, negsuc, zero, suc, Bool, true, false, List, Option, Some, None, int_div, ap, subst}
use Rattle.asp_model.specs.Names.{Text}
use Rattle.asp_model.specs.Term.{SignShape, Add, Subtract, Multiply, Divide, Remainder, Less, Equal, Head, Tree, Trees, none, more, Make, Get, Put, Call, Clone, Active, Serve, Let, Steps, If, Repeat, Operate, Print, Echo, Scatter, Size, Member, WaitAll, Pending, Environment}
use Rattle.asp_model.specs.Term as term
use Rattle.asp_model.specs.Split.{Redex}
use Rattle.asp_model.specs.Store.{MethodShape, CellShape, Number, Object, Reference, Future, Group, Store, cell}
use Rattle.asp_model.specs.Contraction.{Contraction, Becomes, Faults, Needs, Communicates, Breaks, contract, first_future, row}
use Rattle.asp_model.specs.Contraction as rows
use Rattle.law_core.proofs.OperandLemmas.{operands}

abbrev IsNoNeed : Contraction → Type 0
IsNoNeed (Becomes t store lines) = Unit {0}
IsNoNeed (Faults fault) = Unit {0}
IsNoNeed (Needs place) = ⊥
IsNoNeed (Communicates x) = Unit {0}
IsNoNeed Breaks = Unit {0}

module _ (s : Store) where
  in_range : (b : Bool) (z : ℤ) → IsNoNeed (elim b [ true ↦ rows.allots s (Number z) [] | false ↦ Faults rows.Overflow ])
  in_range true z = tt
  in_range false z = tt

  unless_zero : (z : ℤ) (r : Contraction) → IsNoNeed r → IsNoNeed (rows.unless_zero z r)
  unless_zero (pos zero) r h = tt
  unless_zero (pos (suc n)) r h = h
  unless_zero (negsuc n) r h = h

  signs : (sign : SignShape) (x y : ℤ) → IsNoNeed (rows.operate s sign x y)
  signs Add x y = in_range (rows.is_in_range (x +ℤ y)) (x +ℤ y)
  signs Subtract x y = in_range (rows.is_in_range (x -ℤ y)) (x -ℤ y)
  signs Multiply x y = in_range (rows.is_in_range (x *ℤ y)) (x *ℤ y)
  signs Divide x y = unless_zero y _ (in_range (rows.is_in_range (int_div x y)) (int_div x y))
  signs Remainder x y = unless_zero y _ (in_range (rows.is_in_range (int_div x y)) _)
  signs Less x y = tt
  signs Equal x y = tt

  numbers : (sign : SignShape) (c d : CellShape) → IsNoNeed (rows.operate_row s sign c d)
  numbers sign (Number x) (Number y) = signs sign x y
  numbers sign c d = tt

  field : (n : Option ℕ) → IsNoNeed (rows.field_found s n)
  field None = tt
  field (Some n) = tt

  reads : (l : Text) (c : CellShape) → IsNoNeed (rows.get_row s l c)
  reads l (Object fields methods) = field (rows.field_place l fields)
  reads l c = tt

  field_set : (i : ℕ) (c : CellShape) (n : Option ℕ) → IsNoNeed (rows.field_set s i c n)
  field_set i c None = tt
  field_set i c (Some n) = tt

  writes : (l : Text) (i j : ℕ) (c : CellShape) → IsNoNeed (rows.put_row s l i j c)
  writes l i j (Object fields methods) = field_set i _ (rows.field_place l fields)
  writes l i j c = tt

  invoked : (body : Tree) (bs : Option Environment) → IsNoNeed (rows.invoked s body bs)
  invoked body None = tt
  invoked body (Some bs) = tt

  method : (i : ℕ) (js : List ℕ) (m : Option MethodShape) → IsNoNeed (rows.method_found s i js m)
  method i js None = tt
  method i js (Some m) = invoked m.body (rows.bindings (m.head.slf ∷ m.head.parameters) (i ∷ js))

  calls : (l : Text) (i : ℕ) (js : List ℕ) (c : CellShape) → IsNoNeed (rows.call_row s l i js c)
  calls l i js (Object fields methods) = method i js (rows.method_at l methods)
  calls l i js (Group ns) = tt
  calls l i js (Reference n) = tt
  calls l i js (Number z) = tt
  calls l i js (Future f) = tt

  active : (i : ℕ) (service : Option Text) (c : CellShape) → IsNoNeed (rows.active_row i service c)
  active i service (Object fields methods) = tt
  active i service c = tt

  chooses : (a b : Tree) (c : CellShape) → IsNoNeed (rows.if_row s a b c)
  chooses a b (Number (pos zero)) = tt
  chooses a b (Number (pos (suc n))) = tt
  chooses a b (Number (negsuc n)) = tt
  chooses a b c = tt

  prints : (i : ℕ) (c : CellShape) → IsNoNeed (rows.print_row s i c)
  prints i (Number z) = tt
  prints i c = tt

  sizes : (ts : Option Trees) → IsNoNeed (rows.sizes_compared s ts)
  sizes None = tt
  sizes (Some ts) = tt

  scatters : (l : Text) (c d : CellShape) → IsNoNeed (rows.scatter_row s l c d)
  scatters l (Group ns) (Group js) = sizes (rows.scattered l ns js)
  scatters l c d = tt

  size : (c : CellShape) → IsNoNeed (rows.size_row s c)
  size (Group ns) = tt
  size c = tt

  found : (n : Option ℕ) → IsNoNeed (rows.member_found s n)
  found None = tt
  found (Some n) = tt

  member : (c d : CellShape) → IsNoNeed (rows.member_row s c d)
  member (Group ns) (Number (pos n)) = found (rows.member_at ns n)
  member (Group ns) (Number (negsuc n)) = tt
  member (Group ns) d = tt
  member c d = tt

  waits : (i : ℕ) (c : CellShape) → IsNoNeed (rows.wait_row s i c)
  waits i (Group ns) = tt
  waits i c = tt

  no_row_needs : (h : Head) (ns : List ℕ) (ts : Trees) → IsNoNeed (row s h ns ts)
  no_row_needs (term.Number z) [] none = tt
  no_row_needs (Make ls ms) ns ts = tt
  no_row_needs (Echo w) [] none = tt
  no_row_needs (Get l) (i ∷ []) none = reads l (cell s i)
  no_row_needs (Put l) (i ∷ j ∷ []) none = writes l i j (cell s i)
  no_row_needs (Call l) (i ∷ js) none = calls l i js (cell s i)
  no_row_needs Clone (i ∷ []) none = tt
  no_row_needs (Active l) (i ∷ []) none = active i l (cell s i)
  no_row_needs (Serve ls) [] none = tt
  no_row_needs (Pending ls) [] none = tt
  no_row_needs (Let x) (i ∷ []) (more a none) = tt
  no_row_needs Steps (i ∷ []) ts = tt
  no_row_needs If (i ∷ []) (more a (more b none)) = chooses a b (cell s i)
  no_row_needs Repeat [] (more a none) = tt
  no_row_needs (Operate sign) (i ∷ j ∷ []) none = numbers sign (cell s i) (cell s j)
  no_row_needs Print (i ∷ []) none = prints i (cell s i)
  no_row_needs term.Group ns none = tt
  no_row_needs (Scatter l) (i ∷ j ∷ []) none = scatters l (cell s i) (cell s j)
  no_row_needs Size (i ∷ []) none = size (cell s i)
  no_row_needs Member (i ∷ j ∷ []) none = member (cell s i) (cell s j)
  no_row_needs WaitAll (i ∷ []) none = waits i (cell s i)
  no_row_needs h ns ts = tt

abbrev needed_or : Option ℕ → Contraction → Contraction
needed_or o c = elim o [ Some n ↦ Needs n | None ↦ c ]

abbrev place_or : ℕ → Contraction → ℕ
place_or n (Needs place) = place
place_or n c = n

first_of_need : (o : Option ℕ) (c : Contraction) (place : ℕ) → IsNoNeed c → needed_or o c ≡ Needs place → o ≡ Some place
first_of_need (Some n) c place h e = ap (λ d. Some (place_or n d)) e
first_of_need None c place h e = absurd (subst IsNoNeed e h)

module _ (s : Store) (r : Redex) (place : ℕ) where
  -- what a redex needs is its first strict operand that is a future
  pub needs_first : contract s r ≡ Needs place → first_future s (operands s r) ≡ Some place
  needs_first e = first_of_need (first_future s (operands s r)) (row s r.head r.places r.behind) place (no_row_needs s r.head r.places r.behind) e

  pub first_needs : first_future s (operands s r) ≡ Some place → contract s r ≡ Needs place
  first_needs e = ap (λ o. needed_or o (row s r.head r.places r.behind)) e
