-- What a contraction asks of others stands in its redex.
use Rattle.std.specs.Prelude.{◌≡◌, ℕ, ℤ, pos, negsuc, zero, suc, ◌+ℤ◌, ◌-ℤ◌, ◌*ℤ◌, int_div, int_rem, true, false, List, [], ◌∷◌, Option, Some, None}
use Rattle.std.proofs.Common.{refl, subst, sym}
use Rattle.asp_model.specs.Names.{Text}
use Rattle.asp_model.specs.Term.{SignShape, Add, Subtract, Multiply, Divide, Remainder, Less, Equal, Head, Tree, Trees, none, more, Make, Get, Put, Call, Clone, Active, Serve, Let, Steps, If, Repeat, Operate, Print, Echo, Scatter, Size, Member, WaitAll, Pending, Environment}
use Rattle.asp_model.specs.Term as term
use Rattle.asp_model.specs.Split.{Redex}
use Rattle.asp_model.specs.Store.{MethodShape, CellShape, Number, Object, Reference, Future, Group, Store, cell}
use Rattle.asp_model.specs.Contraction.{Contraction, Becomes, Faults, Needs, Communicates, Breaks, Creates, Sends, Serves, Polls, row, contract}
use Rattle.asp_model.specs.Contraction as rows

abbrev pub IsObject : CellShape → Type 0
IsObject (Object fields methods) = Unit {0}
IsObject c = ⊥

-- the object of a new activity, and the receiver and the arguments of a request, are the redex's own
abbrev pub Asks : Store → Head → List ℕ → Contraction → Type 0
Asks s h ns (Communicates (Creates p service)) = (h ≡ Active service) × (ns ≡ p ∷ []) × IsObject (cell s p)
Asks s h ns (Communicates (Sends n l ks)) = (i : ℕ) × (h ≡ Call l) × (ns ≡ i ∷ ks) × (cell s i ≡ Reference n)
Asks s h ns (Communicates (Serves ls)) = h ≡ Serve ls
Asks s h ns (Communicates (Polls ls)) = h ≡ Pending ls
Asks s h ns c = Unit {0}

module _ (s : Store) (h : Head) (ns : List ℕ) where
  range_asks : (z : ℤ) → Asks s h ns (rows.in_range s z)
  range_asks z = elim (rows.is_in_range z) as (λ b. Asks s h ns (elim b [ true ↦ rows.allots s (Number z) [] | false ↦ Faults rows.Overflow ])) [ true ↦ tt | false ↦ tt ]

  remainder_asks : (x y : ℤ) → Asks s h ns (rows.remainder_in_range s x y)
  remainder_asks x y = elim (rows.is_in_range (int_div x y)) as (λ b. Asks s h ns (elim b [ true ↦ rows.allots s (Number (int_rem x y)) [] | false ↦ Faults rows.Overflow ])) [ true ↦ tt | false ↦ tt ]

  unless_asks : (z : ℤ) (r : Contraction) → Asks s h ns r → Asks s h ns (rows.unless_zero z r)
  unless_asks (pos zero) r f = tt
  unless_asks (pos (suc n)) r f = f
  unless_asks (negsuc n) r f = f

  operate_asks : (sign : SignShape) (x y : ℤ) → Asks s h ns (rows.operate s sign x y)
  operate_asks Add x y = range_asks (x +ℤ y)
  operate_asks Subtract x y = range_asks (x -ℤ y)
  operate_asks Multiply x y = range_asks (x *ℤ y)
  operate_asks Divide x y = unless_asks y _ (range_asks (int_div x y))
  operate_asks Remainder x y = unless_asks y _ (remainder_asks x y)
  operate_asks Less x y = tt
  operate_asks Equal x y = tt

  numbers_ask : (sign : SignShape) (c d : CellShape) → Asks s h ns (rows.operate_row s sign c d)
  numbers_ask sign (Number x) (Number y) = operate_asks sign x y
  numbers_ask sign c d = tt

  field_asks : (n : Option ℕ) → Asks s h ns (rows.field_found s n)
  field_asks None = tt
  field_asks (Some n) = tt

  get_asks : (l : Text) (c : CellShape) → Asks s h ns (rows.get_row s l c)
  get_asks l (Object fields methods) = field_asks (rows.field_place l fields)
  get_asks l c = tt

  set_asks : (i : ℕ) (c : CellShape) (n : Option ℕ) → Asks s h ns (rows.field_set s i c n)
  set_asks i c None = tt
  set_asks i c (Some n) = tt

  put_asks : (l : Text) (i j : ℕ) (c : CellShape) → Asks s h ns (rows.put_row s l i j c)
  put_asks l i j (Object fields methods) = set_asks i (Object (rows.with_field l j fields) methods) (rows.field_place l fields)
  put_asks l i j c = tt

  invoked_asks : (body : Tree) (bs : Option Environment) → Asks s h ns (rows.invoked s body bs)
  invoked_asks body None = tt
  invoked_asks body (Some bs) = tt

  method_asks : (i : ℕ) (js : List ℕ) (m : Option MethodShape) → Asks s h ns (rows.method_found s i js m)
  method_asks i js None = tt
  method_asks i js (Some m) = invoked_asks m.body (rows.bindings (m.head.slf ∷ m.head.parameters) (i ∷ js))

  if_asks : (a b : Tree) (c : CellShape) → Asks s h ns (rows.if_row s a b c)
  if_asks a b (Number (pos zero)) = tt
  if_asks a b (Number (pos (suc n))) = tt
  if_asks a b (Number (negsuc n)) = tt
  if_asks a b c = tt

  print_asks : (i : ℕ) (c : CellShape) → Asks s h ns (rows.print_row s i c)
  print_asks i (Number z) = tt
  print_asks i c = tt

  sizes_ask : (ts : Option Trees) → Asks s h ns (rows.sizes_compared s ts)
  sizes_ask None = tt
  sizes_ask (Some ts) = tt

  scatter_asks : (l : Text) (c d : CellShape) → Asks s h ns (rows.scatter_row s l c d)
  scatter_asks l (Group is) (Group js) = sizes_ask (rows.scattered l is js)
  scatter_asks l c d = tt

  size_asks : (c : CellShape) → Asks s h ns (rows.size_row s c)
  size_asks (Group is) = tt
  size_asks c = tt

  found_asks : (n : Option ℕ) → Asks s h ns (rows.member_found s n)
  found_asks None = tt
  found_asks (Some n) = tt

  member_asks : (c d : CellShape) → Asks s h ns (rows.member_row s c d)
  member_asks (Group is) (Number (pos n)) = found_asks (rows.member_at is n)
  member_asks (Group is) (Number (negsuc n)) = tt
  member_asks (Group is) d = tt
  member_asks c d = tt

  wait_asks : (i : ℕ) (c : CellShape) → Asks s h ns (rows.wait_row s i c)
  wait_asks i (Group is) = tt
  wait_asks i c = tt

call_asks : (s : Store) (l : Text) (i : ℕ) (js : List ℕ) (c : CellShape) → cell s i ≡ c → Asks s (Call l) (i ∷ js) (rows.call_row s l i js c)
call_asks s l i js (Object fields methods) e = method_asks s (Call l) (i ∷ js) i js (rows.method_at l methods)
call_asks s l i js (Group is) e = tt
call_asks s l i js (Reference n) e = (i, refl, refl, e)
call_asks s l i js (Number z) e = tt
call_asks s l i js (Future f) e = tt

active_asks : (s : Store) (i : ℕ) (service : Option Text) (c : CellShape) → cell s i ≡ c → Asks s (Active service) (i ∷ []) (rows.active_row i service c)
active_asks s i service (Object fields methods) e = (refl, refl, subst IsObject (sym e) tt)
active_asks s i service (Number z) e = tt
active_asks s i service (Reference n) e = tt
active_asks s i service (Future f) e = tt
active_asks s i service (Group is) e = tt

row_asks : (s : Store) (h : Head) (ns : List ℕ) (ts : Trees) → Asks s h ns (row s h ns ts)
row_asks s (term.Number z) [] none = tt
row_asks s (Make ls ms) ns ts = tt
row_asks s (Echo w) [] none = tt
row_asks s (Get l) (i ∷ []) none = get_asks s (Get l) (i ∷ []) l (cell s i)
row_asks s (Put l) (i ∷ j ∷ []) none = put_asks s (Put l) (i ∷ j ∷ []) l i j (cell s i)
row_asks s (Call l) (i ∷ js) none = call_asks s l i js (cell s i) refl
row_asks s Clone (i ∷ []) none = tt
row_asks s (Active l) (i ∷ []) none = active_asks s i l (cell s i) refl
row_asks s (Serve ls) [] none = refl
row_asks s (Let x) (i ∷ []) (more a none) = tt
row_asks s Steps (i ∷ []) ts = tt
row_asks s If (i ∷ []) (more a (more b none)) = if_asks s If (i ∷ []) a b (cell s i)
row_asks s Repeat [] (more a none) = tt
row_asks s (Operate sign) (i ∷ j ∷ []) none = numbers_ask s (Operate sign) (i ∷ j ∷ []) sign (cell s i) (cell s j)
row_asks s Print (i ∷ []) none = print_asks s Print (i ∷ []) i (cell s i)
row_asks s term.Group ns none = tt
row_asks s (Scatter l) (i ∷ j ∷ []) none = scatter_asks s (Scatter l) (i ∷ j ∷ []) l (cell s i) (cell s j)
row_asks s Size (i ∷ []) none = size_asks s Size (i ∷ []) (cell s i)
row_asks s Member (i ∷ j ∷ []) none = member_asks s Member (i ∷ j ∷ []) (cell s i) (cell s j)
row_asks s WaitAll (i ∷ []) none = wait_asks s WaitAll (i ∷ []) i (cell s i)
row_asks s (Pending ls) [] none = refl
row_asks s h ns ts = tt

needed_asks : (s : Store) (h : Head) (ns : List ℕ) (n : Option ℕ) (r : Contraction) → Asks s h ns r → Asks s h ns (elim n [ Some m ↦ Needs m | None ↦ r ])
needed_asks s h ns None r f = f
needed_asks s h ns (Some n) r f = tt

pub contract_asks : (s : Store) (r : Redex) (c : Contraction) → contract s r ≡ c → Asks s r.head r.places c
contract_asks s r c e = subst (Asks s r.head r.places) e (needed_asks s r.head r.places _ _ (row_asks s r.head r.places r.behind))
