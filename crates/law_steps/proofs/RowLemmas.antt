-- A contraction leaves a closed store and a term with no place past its end.
use Rattle.std.specs.Prelude.{◌≡◌, ℕ, ℤ, pos, negsuc, zero, suc, ◌<◌, ◌≤◌, ◌+ℤ◌, ◌-ℤ◌, ◌*ℤ◌, int_lt, int_le, int_div, int_rem, ◌&&◌, Bool, true, false, List, [], ◌∷◌, ◌++◌, Option, Some, None, length, map}
use Rattle.std.specs.List.{flat_map}
use Rattle.std.proofs.Common.{sym, subst, arith, length-append}
use Rattle.asp_model.specs.Names.{Text, same_text}
use Rattle.asp_model.specs.Term.{SignShape, Add, Subtract, Multiply, Divide, Remainder, Less, Equal, MethodHead, Head, Tree, Trees, node, none, more, loc, locs_then, own_locations, locations, locations_below, Make, Get, Put, Call, Clone, Active, Serve, Let, Steps, If, Repeat, Operate, Print, Echo, Scatter, Size, Member, WaitAll, Pending, Environment}
use Rattle.asp_model.specs.Term as term
use Rattle.asp_model.specs.Split.{Redex}
use Rattle.asp_model.specs.Store.{MethodShape, Field, CellShape, Number, Object, Reference, Future, Group, Store, cell, with_cell, reached}
use Rattle.asp_model.specs.Contraction.{Contraction, Becomes, Faults, Needs, Communicates, Breaks, Creates, Sends, Serves, Polls, LineShape, TextLine, row, contract}
use Rattle.asp_model.specs.Contraction as rows
use Rattle.law_steps.specs.Linked.{Each}
use Rattle.law_steps.specs.Closed.{AreBelow, IsClosedStore, places_of}
use Rattle.law_steps.proofs.EachLemmas.{each_both, below_more}
use Rattle.law_steps.proofs.MovedLemmas.{cell_below, written_below, length_written, allotted}
use Rattle.law_steps.proofs.PlacesLemmas.{front, back, locs_below, BindsBelow, put_in_below}

-- the term and store are closed and the store is no shorter, or what is asked for is in the store
abbrev pub Closes : Store → Contraction → Type 0
Closes s (Becomes t store lines) = IsClosedStore store × AreBelow (length store) (locations t) × (length s ≤ length store)
Closes s (Faults fault) = Unit {0}
Closes s (Needs place) = Unit {0}
Closes s (Communicates (Creates object service)) = object < length s
Closes s (Communicates (Sends to label arguments)) = AreBelow (length s) arguments
Closes s (Communicates (Serves labels)) = Unit {0}
Closes s (Communicates (Polls labels)) = Unit {0}
Closes s Breaks = Unit {0}

-- Objects

fields_below : (k : ℕ) (ls : List Text) (ns : List ℕ) → AreBelow k ns → AreBelow k (map (λ x. x.place) (rows.fields_at ls ns))
fields_below k [] ns h = tt
fields_below k (l ∷ ls) [] h = tt
fields_below k (l ∷ ls) (n ∷ ns) h = (h.0, fields_below k ls ns h.1)

methods_below : (k : ℕ) (ms : List MethodHead) (ts : Trees) → AreBelow k (locations_below ts) → AreBelow k (flat_map (λ m. locations m.body) (rows.methods_with ms ts))
methods_below k [] ts h = tt
methods_below k (m ∷ ms) none h = tt
methods_below k (m ∷ ms) (more t ts) h = each_both (λ i. i < k) (locations t) _ (front k (locations t) (locations_below ts) h) (methods_below k ms ts (back k (locations t) (locations_below ts) h))

abbrev IsBelow : ℕ → Option ℕ → Type 0
IsBelow k None = Unit {0}
IsBelow k (Some n) = n < k

field_below : (k : ℕ) (l : Text) (fs : List Field) → AreBelow k (map (λ x. x.place) fs) → IsBelow k (rows.field_place l fs)
field_below k l [] h = tt
field_below k l (f ∷ fs) h = elim (same_text l f.label) as (λ b. IsBelow k (elim b [ true ↦ Some f.place | false ↦ rows.field_place l fs ])) [ true ↦ h.0 | false ↦ field_below k l fs h.1 ]

abbrev field_with : Bool → ℕ → Field → List Field → List Field → List Field
field_with b n f fs others = elim b [ true ↦ record { label = f.label; place = n } ∷ fs | false ↦ f ∷ others ]

with_field_below : (k : ℕ) (l : Text) (n : ℕ) (fs : List Field) → n < k → AreBelow k (map (λ x. x.place) fs) → AreBelow k (map (λ x. x.place) (rows.with_field l n fs))
with_field_below k l n [] lt h = tt
with_field_below k l n (f ∷ fs) lt h = elim (same_text l f.label) as (λ b. AreBelow k (map (λ x. x.place) (field_with b n f fs (rows.with_field l n fs)))) [ true ↦ (lt, h.1) | false ↦ (h.0, with_field_below k l n fs lt h.1) ]

abbrev BodyBelow : ℕ → Option MethodShape → Type 0
BodyBelow k None = Unit {0}
BodyBelow k (Some m) = AreBelow k (locations m.body)

body_below : (k : ℕ) (l : Text) (ms : List MethodShape) → AreBelow k (flat_map (λ m. locations m.body) ms) → BodyBelow k (rows.method_at l ms)
body_below k l [] h = tt
body_below k l (m ∷ ms) h = elim (same_text l m.head.label) as (λ b. BodyBelow k (elim b [ true ↦ Some m | false ↦ rows.method_at l ms ])) [ true ↦ front k (locations m.body) _ h | false ↦ body_below k l ms (back k (locations m.body) _ h) ]

abbrev MayBind : ℕ → Option Environment → Type 0
MayBind k None = Unit {0}
MayBind k (Some bs) = BindsBelow k bs

bound_more : (k : ℕ) (x : Text) (n : ℕ) (o : Option Environment) → n < k → MayBind k o → MayBind k (elim o [ None ↦ None | Some bs ↦ Some ((x, n) ∷ bs) ])
bound_more k x n None lt h = tt
bound_more k x n (Some bs) lt h = (lt, h)

bindings_below : (k : ℕ) (xs : List Text) (ns : List ℕ) → AreBelow k ns → MayBind k (rows.bindings xs ns)
bindings_below k [] [] h = tt
bindings_below k [] (n ∷ ns) h = tt
bindings_below k (x ∷ xs) [] h = tt
bindings_below k (x ∷ xs) (n ∷ ns) h = bound_more k x n (rows.bindings xs ns) h.0 (bindings_below k xs ns h.1)

-- Groups

calls_below : (k : ℕ) (l : Text) (ns ks : List ℕ) → AreBelow k ns → AreBelow k ks → AreBelow k (locations_below (rows.broadcast l ns ks))
calls_below k l [] ks h g = tt
calls_below k l (n ∷ ns) ks h g = each_both (λ i. i < k) (n ∷ locations_below (locs_then ks none)) (locations_below (rows.broadcast l ns ks)) (h.0, locs_below k ks none g tt) (calls_below k l ns ks h.1 g)

abbrev TermsBelow : ℕ → Option Trees → Type 0
TermsBelow k None = Unit {0}
TermsBelow k (Some ts) = AreBelow k (locations_below ts)

scattered_more : (k : ℕ) (l : Text) (n j : ℕ) (o : Option Trees) → n < k → j < k → TermsBelow k o → TermsBelow k (elim o [ None ↦ None | Some ts ↦ Some (more (node (Call l) (more (loc n) (more (loc j) none))) ts) ])
scattered_more k l n j None a b h = tt
scattered_more k l n j (Some ts) a b h = (a, (b, h))

scattered_below : (k : ℕ) (l : Text) (ns js : List ℕ) → AreBelow k ns → AreBelow k js → TermsBelow k (rows.scattered l ns js)
scattered_below k l [] [] h g = tt
scattered_below k l [] (j ∷ js) h g = tt
scattered_below k l (n ∷ ns) [] h g = tt
scattered_below k l (n ∷ ns) (j ∷ js) h g = scattered_more k l n j (rows.scattered l ns js) h.0 g.0 (scattered_below k l ns js h.1 g.1)

member_below : (k : ℕ) (ns : List ℕ) (i : ℕ) → AreBelow k ns → IsBelow k (rows.member_at ns i)
member_below k [] i h = tt
member_below k (n ∷ ns) zero h = h.0
member_below k (n ∷ ns) (suc i) h = member_below k ns i h.1

-- Rows

module _ (s : Store) (k : IsClosedStore s) where
  allots_closes : (c : CellShape) (lines : List LineShape) → AreBelow (suc (length s)) (reached c) → Closes s (rows.allots s c lines)
  allots_closes c lines h = let e : length (s ++ c ∷ []) ≡ suc (length s) = omega (arith, length-append s (c ∷ [])) in (allotted s c k h, (omega (arith, e), tt), omega (arith, e))

  copies_closes : (c : CellShape) (lines : List LineShape) → AreBelow (length s) (reached c) → Closes s (rows.allots s c lines)
  copies_closes c lines h = allots_closes c lines (below_more (length s) (suc (length s)) (omega arith) (reached c) h)

  becomes : (t : Tree) (lines : List LineShape) → AreBelow (length s) (locations t) → Closes s (Becomes t s lines)
  becomes t lines h = (k, h, omega arith)

  range_closes : (z : ℤ) → Closes s (rows.in_range s z)
  range_closes z = elim (rows.is_in_range z) as (λ b. Closes s (elim b [ true ↦ rows.allots s (Number z) [] | false ↦ Faults rows.Overflow ])) [ true ↦ copies_closes (Number z) [] tt | false ↦ tt ]

  remainder_closes : (x y : ℤ) → Closes s (rows.remainder_in_range s x y)
  remainder_closes x y = elim (rows.is_in_range (int_div x y)) as (λ b. Closes s (elim b [ true ↦ rows.allots s (Number (int_rem x y)) [] | false ↦ Faults rows.Overflow ])) [ true ↦ copies_closes (Number (int_rem x y)) [] tt | false ↦ tt ]

  unless_closes : (z : ℤ) (r : Contraction) → Closes s r → Closes s (rows.unless_zero z r)
  unless_closes (pos zero) r h = tt
  unless_closes (pos (suc n)) r h = h
  unless_closes (negsuc n) r h = h

  operate_closes : (sign : SignShape) (x y : ℤ) → Closes s (rows.operate s sign x y)
  operate_closes Add x y = range_closes (x +ℤ y)
  operate_closes Subtract x y = range_closes (x -ℤ y)
  operate_closes Multiply x y = range_closes (x *ℤ y)
  operate_closes Divide x y = unless_closes y _ (range_closes (int_div x y))
  operate_closes Remainder x y = unless_closes y _ (remainder_closes x y)
  operate_closes Less x y = copies_closes (Number (rows.truth (int_lt x y))) [] tt
  operate_closes Equal x y = copies_closes (Number (rows.truth (int_le x y && int_le y x))) [] tt

  numbers_closes : (sign : SignShape) (c d : CellShape) → Closes s (rows.operate_row s sign c d)
  numbers_closes sign (Number x) (Number y) = operate_closes sign x y
  numbers_closes sign c d = tt

  field_closes : (n : Option ℕ) → IsBelow (length s) n → Closes s (rows.field_found s n)
  field_closes None h = tt
  field_closes (Some n) h = becomes (loc n) [] (h, tt)

  get_closes : (l : Text) (c : CellShape) → AreBelow (length s) (reached c) → Closes s (rows.get_row s l c)
  get_closes l (Object fields methods) h = field_closes (rows.field_place l fields) (field_below (length s) l fields (front (length s) (map (λ x. x.place) fields) _ h))
  get_closes l (Number z) h = tt
  get_closes l (Reference n) h = tt
  get_closes l (Future f) h = tt
  get_closes l (Group ns) h = tt

  set_closes : (i : ℕ) (c : CellShape) (n : Option ℕ) → i < length s → AreBelow (length s) (reached c) → Closes s (rows.field_set s i c n)
  set_closes i c None lt h = tt
  set_closes i c (Some n) lt h =
      let e = length_written s i c in (
        subst (λ m. Each (λ d. AreBelow m (reached d)) (with_cell s i c)) (sym e) (written_below (length s) s i c k h),
        (omega (arith, e, lt), tt),
        omega (arith, e),
      )

  put_closes : (l : Text) (i j : ℕ) (c : CellShape) → i < length s → j < length s → AreBelow (length s) (reached c) → Closes s (rows.put_row s l i j c)
  put_closes l i j (Object fields methods) a b h = set_closes i (Object (rows.with_field l j fields) methods) (rows.field_place l fields) a
      (each_both (λ i. i < length s) (map (λ x. x.place) (rows.with_field l j fields)) _ (with_field_below (length s) l j fields b (front (length s) (map (λ x. x.place) fields) _ h)) (back (length s) (map (λ x. x.place) fields) _ h))
  put_closes l i j (Number z) a b h = tt
  put_closes l i j (Reference n) a b h = tt
  put_closes l i j (Future f) a b h = tt
  put_closes l i j (Group ns) a b h = tt

  invoked_closes : (body : Tree) (bs : Option Environment) → AreBelow (length s) (locations body) → MayBind (length s) bs → Closes s (rows.invoked s body bs)
  invoked_closes body None h g = tt
  invoked_closes body (Some bs) h g = becomes (term.put_in bs body) [] (put_in_below (length s) bs g body h)

  method_closes : (i : ℕ) (js : List ℕ) (m : Option MethodShape) → i < length s → AreBelow (length s) js → BodyBelow (length s) m → Closes s (rows.method_found s i js m)
  method_closes i js None a b h = tt
  method_closes i js (Some m) a b h = invoked_closes m.body (rows.bindings (m.head.slf ∷ m.head.parameters) (i ∷ js)) h (bindings_below (length s) (m.head.slf ∷ m.head.parameters) (i ∷ js) (a, b))

  call_closes : (l : Text) (i : ℕ) (js : List ℕ) (c : CellShape) → i < length s → AreBelow (length s) js → AreBelow (length s) (reached c) → Closes s (rows.call_row s l i js c)
  call_closes l i js (Object fields methods) a b h = method_closes i js (rows.method_at l methods) a b (body_below (length s) l methods (back (length s) (map (λ x. x.place) fields) _ h))
  call_closes l i js (Group ns) a b h = becomes (node term.Group (rows.broadcast l ns js)) [] (calls_below (length s) l ns js h b)
  call_closes l i js (Reference n) a b h = b
  call_closes l i js (Number z) a b h = tt
  call_closes l i js (Future f) a b h = tt

  active_closes : (i : ℕ) (service : Option Text) (c : CellShape) → i < length s → Closes s (rows.active_row i service c)
  active_closes i service (Object fields methods) lt = lt
  active_closes i service (Number z) lt = tt
  active_closes i service (Reference n) lt = tt
  active_closes i service (Future f) lt = tt
  active_closes i service (Group ns) lt = tt

  if_closes : (a b : Tree) (c : CellShape) → AreBelow (length s) (locations a) → AreBelow (length s) (locations b) → Closes s (rows.if_row s a b c)
  if_closes a b (Number (pos zero)) h g = becomes b [] g
  if_closes a b (Number (pos (suc n))) h g = becomes a [] h
  if_closes a b (Number (negsuc n)) h g = becomes a [] h
  if_closes a b c h g = tt

  print_closes : (i : ℕ) (c : CellShape) → i < length s → Closes s (rows.print_row s i c)
  print_closes i (Number z) lt = becomes (loc i) (rows.NumberLine z ∷ []) (lt, tt)
  print_closes i (Object fields methods) lt = tt
  print_closes i (Reference n) lt = tt
  print_closes i (Future f) lt = tt
  print_closes i (Group ns) lt = tt

  sizes_closes : (ts : Option Trees) → TermsBelow (length s) ts → Closes s (rows.sizes_compared s ts)
  sizes_closes None h = tt
  sizes_closes (Some ts) h = becomes (node term.Group ts) [] h

  scatter_closes : (l : Text) (c d : CellShape) → AreBelow (length s) (reached c) → AreBelow (length s) (reached d) → Closes s (rows.scatter_row s l c d)
  scatter_closes l (Group ns) (Group js) h g = sizes_closes (rows.scattered l ns js) (scattered_below (length s) l ns js h g)
  scatter_closes l c d h g = tt

  size_closes : (c : CellShape) → Closes s (rows.size_row s c)
  size_closes (Group ns) = copies_closes (Number (pos (length ns))) [] tt
  size_closes c = tt

  found_closes : (n : Option ℕ) → IsBelow (length s) n → Closes s (rows.member_found s n)
  found_closes None h = tt
  found_closes (Some n) h = becomes (loc n) [] (h, tt)

  member_closes : (c d : CellShape) → AreBelow (length s) (reached c) → Closes s (rows.member_row s c d)
  member_closes (Group ns) (Number (pos n)) h = found_closes (rows.member_at ns n) (member_below (length s) ns n h)
  member_closes (Group ns) (Number (negsuc n)) h = tt
  member_closes (Group ns) d h = tt
  member_closes c d h = tt

  wait_closes : (i : ℕ) (c : CellShape) → i < length s → Closes s (rows.wait_row s i c)
  wait_closes i (Group ns) lt = becomes (loc i) [] (lt, tt)
  wait_closes i c lt = tt

  remaining_below : (ts : Trees) → AreBelow (length s) (locations_below ts) → AreBelow (length s) (locations (rows.remaining ts))
  remaining_below none h = tt
  remaining_below (more t none) h = front (length s) (locations t) [] h
  remaining_below (more t (more u ts)) h = h

  abbrev at : (n : ℕ) → AreBelow (length s) (reached (cell s n))
  at n = cell_below (length s) s k n

  -- where the places of the redex and those behind them are in the store
  row_closes : (h : Head) (ns : List ℕ) (ts : Trees) → AreBelow (length s) ns → AreBelow (length s) (locations_below ts) → Closes s (row s h ns ts)
  row_closes (term.Number z) [] none a b = copies_closes (Number z) [] tt
  row_closes (Make ls ms) ns ts a b = copies_closes (Object (rows.fields_at ls ns) (rows.methods_with ms ts)) [] (each_both (λ i. i < length s) (map (λ x. x.place) (rows.fields_at ls ns)) _ (fields_below (length s) ls ns a) (methods_below (length s) ms ts b))
  row_closes (Echo w) [] none a b = copies_closes (Object [] []) (TextLine w ∷ []) tt
  row_closes (Get l) (i ∷ []) none a b = get_closes l (cell s i) (at i)
  row_closes (Put l) (i ∷ j ∷ []) none a b = put_closes l i j (cell s i) a.0 a.1.0 (at i)
  row_closes (Call l) (i ∷ js) none a b = call_closes l i js (cell s i) a.0 a.1 (at i)
  row_closes Clone (i ∷ []) none a b = copies_closes (cell s i) [] (at i)
  row_closes (Active l) (i ∷ []) none a b = active_closes i l (cell s i) a.0
  row_closes (Serve ls) [] none a b = tt
  row_closes (Pending ls) [] none a b = tt
  row_closes (Let x) (i ∷ []) (more t none) a b = becomes (term.put_in ((x, i) ∷ []) t) [] (put_in_below (length s) ((x, i) ∷ []) (a.0, tt) t (front (length s) (locations t) [] b))
  row_closes Steps (i ∷ []) ts a b = becomes (rows.remaining ts) [] (remaining_below ts b)
  row_closes If (i ∷ []) (more t (more u none)) a b = if_closes t u (cell s i) (front (length s) (locations t) (locations u ++ []) b) (front (length s) (locations u) [] (back (length s) (locations t) (locations u ++ []) b))
  row_closes Repeat [] (more t none) a b = becomes (node Steps (more t (more (node Repeat (more t none)) none))) [] (each_both (λ i. i < length s) (locations t) ((locations t ++ []) ++ []) (front (length s) (locations t) [] b) (each_both (λ i. i < length s) (locations t ++ []) [] b tt))
  row_closes (Operate sign) (i ∷ j ∷ []) none a b = numbers_closes sign (cell s i) (cell s j)
  row_closes Print (i ∷ []) none a b = print_closes i (cell s i) a.0
  row_closes term.Group ns none a b = copies_closes (Group ns) [] a
  row_closes (Scatter l) (i ∷ j ∷ []) none a b = scatter_closes l (cell s i) (cell s j) (at i) (at j)
  row_closes Size (i ∷ []) none a b = size_closes (cell s i)
  row_closes Member (i ∷ j ∷ []) none a b = member_closes (cell s i) (cell s j) (at i)
  row_closes WaitAll (i ∷ []) none a b = wait_closes i (cell s i) a.0
  row_closes h ns ts a b = tt

  needed_closes : (n : Option ℕ) (r : Contraction) → Closes s r → Closes s (elim n [ Some m ↦ Needs m | None ↦ r ])
  needed_closes None r h = h
  needed_closes (Some n) r h = tt

  pub contract_closes : (r : Redex) → AreBelow (length s) (places_of r) → Closes s (contract s r)
  contract_closes r h =
      let rest = back (length s) (own_locations r.head) (r.places ++ locations_below r.behind) h in
      needed_closes _ _ (row_closes r.head r.places r.behind (front (length s) r.places (locations_below r.behind) rest) (back (length s) r.places (locations_below r.behind) rest))
