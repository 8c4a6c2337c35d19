-- What holds of all cells of a store holds of them after a contraction; who is sent to stands in a cell;
-- and a `serve` alone asks for requests.
use Rattle.std.specs.Prelude.{◌≡◌, ℕ, ℤ, pos, negsuc, zero, suc, ◌+ℤ◌, ◌-ℤ◌, ◌*ℤ◌, int_lt, int_le, int_div, int_rem, ◌&&◌, true, false, List, [], ◌∷◌, Option, Some, None, length, map}
use Rattle.std.proofs.Common.{refl, subst}
use Rattle.asp_model.specs.Names.{Text}
use Rattle.asp_model.specs.Term.{SignShape, Add, Subtract, Multiply, Divide, Remainder, Less, Equal, Head, Tree, Trees, none, more, Make, Get, Put, Call, Clone, Active, Serve, Let, Steps, If, Repeat, Operate, Print, Echo, Scatter, Size, Member, WaitAll, Pending, Environment}
use Rattle.asp_model.specs.Term as term
use Rattle.asp_model.specs.Split.{Redex}
use Rattle.asp_model.specs.Store.{MethodShape, Field, CellShape, Number, Object, Reference, Future, Group, Store, cell, with_cell, moved_cell}
use Rattle.asp_model.specs.Parcel.{parcel_of, visit_order, number_in, with_cells_at}
use Rattle.asp_model.specs.Contraction.{Contraction, Becomes, Faults, Needs, Communicates, Breaks, Creates, Sends, Serves, Polls, LineShape, TextLine, row, contract}
use Rattle.asp_model.specs.Contraction as rows
use Rattle.law_steps.specs.Linked.{Each}
use Rattle.law_steps.proofs.EachLemmas.{each_both}

-- a fact of the names that stand in cells, and of nothing else
pub record IsOfNames (P : CellShape → Type 0) : Type 0 where
  pub number : (z : ℤ) → P (Number z)
  pub object : (fields : List Field) (methods : List MethodShape) → P (Object fields methods)
  pub group : (ns : List ℕ) → P (Group ns)

module _ (P : CellShape → Type 0) (o : IsOfNames P) where
  pub of_moved : (f : ℕ → ℕ) (c : CellShape) → P c → P (moved_cell f c)
  of_moved f (Number z) h = h
  of_moved f (Object fields methods) h = o.object _ _
  of_moved f (Reference n) h = h
  of_moved f (Future g) h = h
  of_moved f (Group ns) h = o.group _

  pub of_cell : (s : Store) → Each P s → (n : ℕ) → P (cell s n)
  of_cell [] h n = o.number (pos 0)
  of_cell (c ∷ cs) h zero = h.0
  of_cell (c ∷ cs) h (suc n) = of_cell cs h.1 n

  pub all_moved : (f : ℕ → ℕ) (cs : List CellShape) → Each P cs → Each P (map (moved_cell f) cs)
  all_moved f [] h = tt
  all_moved f (c ∷ cs) h = (of_moved f c h.0, all_moved f cs h.1)

  all_taken : (s : Store) → Each P s → (f : ℕ → ℕ) (ns : List ℕ) → Each P (map (λ p. moved_cell f (cell s p)) ns)
  all_taken s h f [] = tt
  all_taken s h f (n ∷ ns) = (of_moved f (cell s n) (of_cell s h n), all_taken s h f ns)

  pub all_parcel : (s : Store) (roots : List ℕ) → Each P s → Each P (parcel_of s roots).cells
  all_parcel s roots h = all_taken s h (number_in (visit_order s roots)) (visit_order s roots)

all_written : (P : CellShape → Type 0) (s : Store) (n : ℕ) (d : CellShape) → Each P s → P d → Each P (with_cell s n d)
all_written P [] n d h k = tt
all_written P (c ∷ cs) zero d h k = (k, h.1)
all_written P (c ∷ cs) (suc n) d h k = (h.0, all_written P cs n d h.1 k)

pub all_placed : (P : CellShape → Type 0) (s : Store) (n : ℕ) (cs : List CellShape) → Each P s → Each P cs → Each P (with_cells_at s n cs)
all_placed P s n [] h k = h
all_placed P s n (c ∷ cs) h k = each_both P (with_cell s n c) cs (all_written P s n c h k.0) k.1

-- the store that a contraction leaves, whom it sends to, and that it serves by the head alone
abbrev pub Fine : (CellShape → Type 0) → Head → Contraction → Type 0
Fine P h (Becomes t store lines) = Each P store
Fine P h (Faults fault) = Unit {0}
Fine P h (Needs place) = Unit {0}
Fine P h (Communicates (Creates object service)) = Unit {0}
Fine P h (Communicates (Sends to label arguments)) = P (Reference to)
Fine P h (Communicates (Serves labels)) = h ≡ Serve labels
Fine P h (Communicates (Polls labels)) = h ≡ Pending labels
Fine P h Breaks = Unit {0}

module _ (P : CellShape → Type 0) (o : IsOfNames P) (s : Store) (k : Each P s) (h : Head) where
  allots_fine : (c : CellShape) (lines : List LineShape) → P c → Fine P h (rows.allots s c lines)
  allots_fine c lines p = each_both P s (c ∷ []) k (p, tt)

  range_fine : (z : ℤ) → Fine P h (rows.in_range s z)
  range_fine z = elim (rows.is_in_range z) as (λ b. Fine P h (elim b [ true ↦ rows.allots s (Number z) [] | false ↦ Faults rows.Overflow ])) [ true ↦ allots_fine (Number z) [] (o.number z) | false ↦ tt ]

  remainder_fine : (x y : ℤ) → Fine P h (rows.remainder_in_range s x y)
  remainder_fine x y = elim (rows.is_in_range (int_div x y)) as (λ b. Fine P h (elim b [ true ↦ rows.allots s (Number (int_rem x y)) [] | false ↦ Faults rows.Overflow ])) [ true ↦ allots_fine (Number (int_rem x y)) [] (o.number (int_rem x y)) | false ↦ tt ]

  unless_fine : (z : ℤ) (r : Contraction) → Fine P h r → Fine P h (rows.unless_zero z r)
  unless_fine (pos zero) r f = tt
  unless_fine (pos (suc n)) r f = f
  unless_fine (negsuc n) r f = f

  operate_fine : (sign : SignShape) (x y : ℤ) → Fine P h (rows.operate s sign x y)
  operate_fine Add x y = range_fine (x +ℤ y)
  operate_fine Subtract x y = range_fine (x -ℤ y)
  operate_fine Multiply x y = range_fine (x *ℤ y)
  operate_fine Divide x y = unless_fine y _ (range_fine (int_div x y))
  operate_fine Remainder x y = unless_fine y _ (remainder_fine x y)
  operate_fine Less x y = allots_fine (Number (rows.truth (int_lt x y))) [] (o.number _)
  operate_fine Equal x y = allots_fine (Number (rows.truth (int_le x y && int_le y x))) [] (o.number _)

  numbers_fine : (sign : SignShape) (c d : CellShape) → Fine P h (rows.operate_row s sign c d)
  numbers_fine sign (Number x) (Number y) = operate_fine sign x y
  numbers_fine sign c d = tt

  field_fine : (n : Option ℕ) → Fine P h (rows.field_found s n)
  field_fine None = tt
  field_fine (Some n) = k

  get_fine : (l : Text) (c : CellShape) → Fine P h (rows.get_row s l c)
  get_fine l (Object fields methods) = field_fine (rows.field_place l fields)
  get_fine l c = tt

  set_fine : (i : ℕ) (c : CellShape) (n : Option ℕ) → P c → Fine P h (rows.field_set s i c n)
  set_fine i c None p = tt
  set_fine i c (Some n) p = all_written P s i c k p

  put_fine : (l : Text) (i j : ℕ) (c : CellShape) → Fine P h (rows.put_row s l i j c)
  put_fine l i j (Object fields methods) = set_fine i (Object (rows.with_field l j fields) methods) (rows.field_place l fields) (o.object _ _)
  put_fine l i j c = tt

  invoked_fine : (body : Tree) (bs : Option Environment) → Fine P h (rows.invoked s body bs)
  invoked_fine body None = tt
  invoked_fine body (Some bs) = k

  method_fine : (i : ℕ) (js : List ℕ) (m : Option MethodShape) → Fine P h (rows.method_found s i js m)
  method_fine i js None = tt
  method_fine i js (Some m) = invoked_fine m.body (rows.bindings (m.head.slf ∷ m.head.parameters) (i ∷ js))

  call_fine : (l : Text) (i : ℕ) (js : List ℕ) (c : CellShape) → P c → Fine P h (rows.call_row s l i js c)
  call_fine l i js (Object fields methods) p = method_fine i js (rows.method_at l methods)
  call_fine l i js (Group ns) p = k
  call_fine l i js (Reference n) p = p
  call_fine l i js (Number z) p = tt
  call_fine l i js (Future f) p = tt

  active_fine : (i : ℕ) (service : Option Text) (c : CellShape) → Fine P h (rows.active_row i service c)
  active_fine i service (Object fields methods) = tt
  active_fine i service c = tt

  if_fine : (a b : Tree) (c : CellShape) → Fine P h (rows.if_row s a b c)
  if_fine a b (Number (pos zero)) = k
  if_fine a b (Number (pos (suc n))) = k
  if_fine a b (Number (negsuc n)) = k
  if_fine a b c = tt

  print_fine : (i : ℕ) (c : CellShape) → Fine P h (rows.print_row s i c)
  print_fine i (Number z) = k
  print_fine i c = tt

  sizes_fine : (ts : Option Trees) → Fine P h (rows.sizes_compared s ts)
  sizes_fine None = tt
  sizes_fine (Some ts) = k

  scatter_fine : (l : Text) (c d : CellShape) → Fine P h (rows.scatter_row s l c d)
  scatter_fine l (Group ns) (Group js) = sizes_fine (rows.scattered l ns js)
  scatter_fine l c d = tt

  size_fine : (c : CellShape) → Fine P h (rows.size_row s c)
  size_fine (Group ns) = allots_fine (Number (pos (length ns))) [] (o.number _)
  size_fine c = tt

  found_fine : (n : Option ℕ) → Fine P h (rows.member_found s n)
  found_fine None = tt
  found_fine (Some n) = k

  member_fine : (c d : CellShape) → Fine P h (rows.member_row s c d)
  member_fine (Group ns) (Number (pos n)) = found_fine (rows.member_at ns n)
  member_fine (Group ns) (Number (negsuc n)) = tt
  member_fine (Group ns) d = tt
  member_fine c d = tt

  wait_fine : (i : ℕ) (c : CellShape) → Fine P h (rows.wait_row s i c)
  wait_fine i (Group ns) = k
  wait_fine i c = tt

module _ (P : CellShape → Type 0) (o : IsOfNames P) (s : Store) (k : Each P s) where
  row_fine : (h : Head) (ns : List ℕ) (ts : Trees) → Fine P h (row s h ns ts)
  row_fine (term.Number z) [] none = allots_fine P o s k (term.Number z) (Number z) [] (o.number z)
  row_fine (Make ls ms) ns ts = allots_fine P o s k (Make ls ms) (Object (rows.fields_at ls ns) (rows.methods_with ms ts)) [] (o.object _ _)
  row_fine (Echo w) [] none = allots_fine P o s k (Echo w) (Object [] []) (TextLine w ∷ []) (o.object [] [])
  row_fine (Get l) (i ∷ []) none = get_fine P o s k (Get l) l (cell s i)
  row_fine (Put l) (i ∷ j ∷ []) none = put_fine P o s k (Put l) l i j (cell s i)
  row_fine (Call l) (i ∷ js) none = call_fine P o s k (Call l) l i js (cell s i) (of_cell P o s k i)
  row_fine Clone (i ∷ []) none = allots_fine P o s k Clone (cell s i) [] (of_cell P o s k i)
  row_fine (Active l) (i ∷ []) none = active_fine P o s k (Active l) i l (cell s i)
  row_fine (Serve ls) [] none = refl
  row_fine (Pending ls) [] none = refl
  row_fine (Let x) (i ∷ []) (more a none) = k
  row_fine Steps (i ∷ []) ts = k
  row_fine If (i ∷ []) (more a (more b none)) = if_fine P o s k If a b (cell s i)
  row_fine Repeat [] (more a none) = k
  row_fine (Operate sign) (i ∷ j ∷ []) none = numbers_fine P o s k (Operate sign) sign (cell s i) (cell s j)
  row_fine Print (i ∷ []) none = print_fine P o s k Print i (cell s i)
  row_fine term.Group ns none = allots_fine P o s k term.Group (Group ns) [] (o.group ns)
  row_fine (Scatter l) (i ∷ j ∷ []) none = scatter_fine P o s k (Scatter l) l (cell s i) (cell s j)
  row_fine Size (i ∷ []) none = size_fine P o s k Size (cell s i)
  row_fine Member (i ∷ j ∷ []) none = member_fine P o s k Member (cell s i) (cell s j)
  row_fine WaitAll (i ∷ []) none = wait_fine P o s k WaitAll i (cell s i)
  row_fine h ns ts = tt

  needed_fine : (n : Option ℕ) (h : Head) (r : Contraction) → Fine P h r → Fine P h (elim n [ Some m ↦ Needs m | None ↦ r ])
  needed_fine None h r f = f
  needed_fine (Some n) h r f = tt

  pub contract_fine : (r : Redex) → Fine P r.head (contract s r)
  contract_fine r = needed_fine _ r.head _ (row_fine r.head r.places r.behind)

abbrev Any : CellShape → Type 0
Any c = Unit {0}

any_of_names : IsOfNames Any
any_of_names = record { number = λ z. tt; object = λ fields methods. tt; group = λ ns. tt }

all_any : (s : Store) → Each Any s
all_any [] = tt
all_any (c ∷ s) = (tt, all_any s)

-- a `serve` alone asks for requests
pub serves_by_head : (s : Store) (r : Redex) (labels : List Text) → contract s r ≡ Communicates (Serves labels) → r.head ≡ Serve labels
serves_by_head s r labels e = subst (Fine Any r.head) e (contract_fine Any any_of_names s (all_any s) r)

-- a `pending` alone polls
pub polls_by_head : (s : Store) (r : Redex) (labels : List Text) → contract s r ≡ Communicates (Polls labels) → r.head ≡ Pending labels
polls_by_head s r labels e = subst (Fine Any r.head) e (contract_fine Any any_of_names s (all_any s) r)
