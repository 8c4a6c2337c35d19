-- A proper redex is not broken, and its contraction leaves a proper term and, of a proper store, a proper one.
use Rattle.std.specs.Prelude.{◌≡◌, ℕ, ℤ, pos, negsuc, zero, suc, ◌+ℤ◌, ◌-ℤ◌, ◌*ℤ◌, int_lt, int_le, int_div, int_rem, ◌&&◌, Bool, true, false, List, [], ◌∷◌, ◌++◌, Option, Some, None, length, map}
use Rattle.std.proofs.Common.{refl, sym, ap, subst, ◌∙◌, arith, ⊎_elim}
use Rattle.asp_model.specs.Names.{Text, same_text}
use Rattle.asp_model.specs.Term.{SignShape, Add, Subtract, Multiply, Divide, Remainder, Less, Equal, MethodHead, Head, Tree, Trees, node, none, more, loc, locs_then, Make, Get, Put, Call, Clone, Active, Serve, Pending, Let, Steps, If, Repeat, Operate, Print, Echo, Scatter, Size, Member, WaitAll, Environment, location_of, has_text, put_in}
use Rattle.asp_model.specs.Term as term
use Rattle.asp_model.specs.Split.{Redex}
use Rattle.asp_model.specs.Store.{MethodShape, CellShape, Number, Object, Reference, Future, Group, Store, cell}
use Rattle.asp_model.specs.Contraction.{Contraction, Becomes, Faults, Needs, Communicates, Breaks, LineShape, TextLine, row, contract, is_future, first_future, strict_operands, strict_members}
use Rattle.asp_model.specs.Contraction as rows
use Rattle.law_steps.specs.Linked.{Each}
use Rattle.law_chases.proofs.FutureLemmas.{no_some, some_is, none_true}
use Rattle.law_steps.proofs.EachLemmas.{each_both}
use Rattle.law_programs.specs.Proper.{names_bound, are_single, IsProper, AreProper, IsProperCell}
use Rattle.law_programs.proofs.ScopeLemmas.{or_cases, Leaves, put_proper}
use Rattle.law_programs.proofs.TermLemmas.{IsProperRedex, loc_proper, count_behind}
use Rattle.law_programs.proofs.NodeLemmas.{Shaped, redex_shaped}
use Rattle.law_programs.proofs.CellLemmas.{cell_proper, written_proper, labels_kept, heads_kept, labels_written, bodies_proper, behind_fields, FoundProper, found_proper}

-- What is bound

not_found : (b : Bool) (n : ℕ) (o : Option ℕ) → ◌≡◌ {A = Option ℕ} (elim b [ true ↦ Some n | false ↦ o ]) None → (b ≡ false) × (o ≡ None)
not_found true n o e = no_some (sym e)
not_found false n o e = (refl, e)

more_bound : (x : Text) (n : ℕ) (xs : List Text) (o : Option Environment) (bs : Environment) → ((cs : Environment) → o ≡ Some cs → Leaves cs xs []) → elim o [ None ↦ None | Some cs ↦ Some ((x, n) ∷ cs) ] ≡ Some bs → Leaves bs (x ∷ xs) []
more_bound x n xs None bs to e = no_some e
more_bound x n xs (Some cs) bs to e = subst (λ b. Leaves b (x ∷ xs) []) (some_is e) (λ y h q.
    let other = not_found (same_text y x) n (location_of y cs) q in
    to cs refl y (⊎_elim (λ a. none_true (sym other.0 ∙ a)) (λ a. a) (or_cases (same_text y x) (has_text y xs) h)) other.1)

-- a method's names, all of them
all_bound : (xs : List Text) (ns : List ℕ) (bs : Environment) → rows.bindings xs ns ≡ Some bs → Leaves bs xs []
all_bound [] ns bs e = λ y h q. none_true h
all_bound (x ∷ xs) [] bs e = no_some e
all_bound (x ∷ xs) (n ∷ ns) bs e = more_bound x n xs (rows.bindings xs ns) bs (all_bound xs ns) e

-- What calls of groups become

pub locs_proper : (ns : List ℕ) → AreProper [] [] (locs_then ns none)
locs_proper [] = tt
locs_proper (n ∷ ns) = (loc_proper [] n, locs_proper ns)

calls_proper : (l : Text) (ns ks : List ℕ) → AreProper [] [] (rows.broadcast l ns ks)
calls_proper l [] ks = tt
calls_proper l (n ∷ ns) ks = ((refl, omega (arith, count_behind ks none), (loc_proper [] n, locs_proper ks)), calls_proper l ns ks)

abbrev TermsProper : Option Trees → Type 0
TermsProper None = Unit {0}
TermsProper (Some ts) = AreProper [] [] ts

scattered_more : (l : Text) (n k : ℕ) (o : Option Trees) → TermsProper o → TermsProper (elim o [ None ↦ None | Some ts ↦ Some (more (node (Call l) (more (loc n) (more (loc k) none))) ts) ])
scattered_more l n k None h = tt
scattered_more l n k (Some ts) h = ((refl, omega arith, (loc_proper [] n, (loc_proper [] k, tt))), h)

scattered_proper : (l : Text) (ns ks : List ℕ) → TermsProper (rows.scattered l ns ks)
scattered_proper l [] [] = tt
scattered_proper l [] (k ∷ ks) = tt
scattered_proper l (n ∷ ns) [] = tt
scattered_proper l (n ∷ ns) (k ∷ ks) = scattered_more l n k (rows.scattered l ns ks) (scattered_proper l ns ks)

-- a row: it is not broken, asks for nothing, and leaves what is proper
abbrev pub Fits : Store → Contraction → Type 0
Fits s (Becomes t store lines) = Each IsProperCell s → IsProper [] t × Each IsProperCell store
Fits s (Needs place) = ⊥
Fits s Breaks = ⊥
Fits s r = Unit {0}

module _ (s : Store) where
  allots_fits : (c : CellShape) (lines : List LineShape) → (Each IsProperCell s → IsProperCell c) → Fits s (rows.allots s c lines)
  allots_fits c lines h = λ k. (loc_proper [] (length s), each_both IsProperCell s (c ∷ []) k (h k, tt))

  becomes : (t : Tree) → (Each IsProperCell s → IsProper [] t) → Fits s (Becomes t s [])
  becomes t h = λ k. (h k, k)

  stays : (n : ℕ) → Fits s (rows.stays_at n s)
  stays n = becomes (loc n) (λ k. loc_proper [] n)

  -- Numbers

  range_fits : (z : ℤ) → Fits s (rows.in_range s z)
  range_fits z = elim (rows.is_in_range z) as (λ b. Fits s (elim b [ true ↦ rows.allots s (Number z) [] | false ↦ Faults rows.Overflow ])) [ true ↦ allots_fits (Number z) [] (λ k. tt) | false ↦ tt ]

  remainder_fits : (x y : ℤ) → Fits s (rows.remainder_in_range s x y)
  remainder_fits x y = elim (rows.is_in_range (int_div x y)) as (λ b. Fits s (elim b [ true ↦ rows.allots s (Number (int_rem x y)) [] | false ↦ Faults rows.Overflow ])) [ true ↦ allots_fits (Number (int_rem x y)) [] (λ k. tt) | false ↦ tt ]

  unless_fits : (z : ℤ) (r : Contraction) → Fits s r → Fits s (rows.unless_zero z r)
  unless_fits (pos zero) r h = tt
  unless_fits (pos (suc n)) r h = h
  unless_fits (negsuc n) r h = h

  operate_fits : (sign : SignShape) (x y : ℤ) → Fits s (rows.operate s sign x y)
  operate_fits Add x y = range_fits (x +ℤ y)
  operate_fits Subtract x y = range_fits (x -ℤ y)
  operate_fits Multiply x y = range_fits (x *ℤ y)
  operate_fits Divide x y = unless_fits y _ (range_fits (int_div x y))
  operate_fits Remainder x y = unless_fits y _ (remainder_fits x y)
  operate_fits Less x y = allots_fits (Number (rows.truth (int_lt x y))) [] (λ k. tt)
  operate_fits Equal x y = allots_fits (Number (rows.truth (int_le x y && int_le y x))) [] (λ k. tt)

  numbers_fit : (sign : SignShape) (c d : CellShape) → Fits s (rows.operate_row s sign c d)
  numbers_fit sign (Number x) (Number y) = operate_fits sign x y
  numbers_fit sign c d = tt

  if_fits : (a b : Tree) (c : CellShape) → IsProper [] a → IsProper [] b → Fits s (rows.if_row s a b c)
  if_fits a b (Number (pos zero)) h g = becomes b (λ k. g)
  if_fits a b (Number (pos (suc n))) h g = becomes a (λ k. h)
  if_fits a b (Number (negsuc n)) h g = becomes a (λ k. h)
  if_fits a b c h g = tt

  print_fits : (i : ℕ) (c : CellShape) → Fits s (rows.print_row s i c)
  print_fits i (Number z) = λ k. (loc_proper [] i, k)
  print_fits i c = tt

  -- Objects

  made_fits : (fields : List Text) (methods : List MethodHead) (ns : List ℕ) (ts : Trees) → length ns ≡ length fields → term.child_count ts ≡ length methods → IsProper [] (node (Make fields methods) (locs_then ns ts)) → Fits s (row s (Make fields methods) ns ts)
  made_fits fields methods ns ts e f g = allots_fits (Object (rows.fields_at fields ns) (rows.methods_with methods ts)) [] (λ k. (
    (λ i. are_single (labels_kept fields ns e i) (heads_kept methods ts f i)) ∙ g.0,
    bodies_proper methods ts (behind_fields fields ns (map names_bound methods) ts e g.2),
  ))

  field_fits : (n : Option ℕ) → Fits s (rows.field_found s n)
  field_fits None = tt
  field_fits (Some n) = stays n

  get_fits : (l : Text) (c : CellShape) → Fits s (rows.get_row s l c)
  get_fits l (Object fields methods) = field_fits (rows.field_place l fields)
  get_fits l c = tt

  set_fits : (i : ℕ) (c : CellShape) (n : Option ℕ) → (Each IsProperCell s → IsProperCell c) → Fits s (rows.field_set s i c n)
  set_fits i c None h = tt
  set_fits i c (Some n) h = λ k. (loc_proper [] i, written_proper s i c k (h k))

  put_fits : (l : Text) (i j : ℕ) (c : CellShape) → (Each IsProperCell s → IsProperCell c) → Fits s (rows.put_row s l i j c)
  put_fits l i j (Object fields methods) h = set_fits i (Object (rows.with_field l j fields) methods) (rows.field_place l fields) (λ k. (ap (λ ls. are_single ls (map (λ m. m.head) methods)) (labels_written l j fields) ∙ (h k).0, (h k).1))
  put_fits l i j c h = tt

  invoked_fits : (names : List Text) (body : Tree) (o : Option Environment) → ((bs : Environment) → o ≡ Some bs → Leaves bs names []) → (Each IsProperCell s → IsProper names body) → Fits s (rows.invoked s body o)
  invoked_fits names body None to h = tt
  invoked_fits names body (Some bs) to h = becomes (put_in bs body) (λ k. put_proper bs names [] (to bs refl) body (h k))

  method_fits : (i : ℕ) (js : List ℕ) (m : Option MethodShape) → (Each IsProperCell s → FoundProper m) → Fits s (rows.method_found s i js m)
  method_fits i js None h = tt
  method_fits i js (Some m) h = invoked_fits (names_bound m.head) m.body (rows.bindings (names_bound m.head) (i ∷ js)) (all_bound (names_bound m.head) (i ∷ js)) h

  call_fits : (l : Text) (i : ℕ) (js : List ℕ) (c : CellShape) → is_future c ≡ false → (Each IsProperCell s → IsProperCell c) → Fits s (rows.call_row s l i js c)
  call_fits l i js (Object fields methods) f h = method_fits i js (rows.method_at l methods) (λ k. found_proper l methods (h k).1)
  call_fits l i js (Group ns) f h = becomes (node term.Group (rows.broadcast l ns js)) (λ k. (refl, tt, calls_proper l ns js))
  call_fits l i js (Reference n) f h = tt
  call_fits l i js (Number z) f h = tt
  call_fits l i js (Future x) f h = none_true (sym f)

  active_fits : (i : ℕ) (service : Option Text) (c : CellShape) → Fits s (rows.active_row i service c)
  active_fits i service (Object fields methods) = tt
  active_fits i service c = tt

  -- Groups

  sizes_fit : (ts : Option Trees) → TermsProper ts → Fits s (rows.sizes_compared s ts)
  sizes_fit None h = tt
  sizes_fit (Some ts) h = becomes (node term.Group ts) (λ k. (refl, tt, h))

  scatter_fits : (l : Text) (c d : CellShape) → Fits s (rows.scatter_row s l c d)
  scatter_fits l (Group ns) (Group js) = sizes_fit (rows.scattered l ns js) (scattered_proper l ns js)
  scatter_fits l c d = tt

  size_fits : (c : CellShape) → Fits s (rows.size_row s c)
  size_fits (Group ns) = allots_fits (Number (pos (length ns))) [] (λ k. tt)
  size_fits c = tt

  found_fits : (n : Option ℕ) → Fits s (rows.member_found s n)
  found_fits None = tt
  found_fits (Some n) = stays n

  member_fits : (c d : CellShape) → Fits s (rows.member_row s c d)
  member_fits (Group ns) (Number (pos n)) = found_fits (rows.member_at ns n)
  member_fits (Group ns) (Number (negsuc n)) = tt
  member_fits (Group ns) d = tt
  member_fits c d = tt

  wait_fits : (i : ℕ) (c : CellShape) → Fits s (rows.wait_row s i c)
  wait_fits i (Group ns) = stays i
  wait_fits i c = tt

  -- The table

  rest_fits : (i : ℕ) (t : Tree) (ts : Trees) → AreProper [] [] (more t ts) → Fits s (row s Steps (i ∷ []) (more t ts))
  rest_fits i t none h = becomes t (λ k. h.0)
  rest_fits i t (more u ts) h = becomes (node Steps (more t (more u ts))) (λ k. (refl, omega arith, h))

  no_future : (i : ℕ) → first_future s (i ∷ []) ≡ None → is_future (cell s i) ≡ false
  no_future i e = (not_found (is_future (cell s i)) i None e).0

  row_fits : (h : Head) (ns : List ℕ) (ts : Trees) → Shaped h ns ts → IsProper [] (node h (locs_then ns ts)) → first_future s (strict_operands h ns ++ strict_members s h ns) ≡ None → Fits s (row s h ns ts)
  row_fits (term.Number z) [] none x g e = allots_fits (Number z) [] (λ k. tt)
  row_fits (Make fields methods) ns ts x g e = made_fits fields methods ns ts x.0 x.1 g
  row_fits (Echo t) [] none x g e = allots_fits (Object [] []) (TextLine t ∷ []) (λ k. (refl, tt))
  row_fits (Get l) (i ∷ []) none x g e = get_fits l (cell s i)
  row_fits (Put l) (i ∷ j ∷ []) none x g e = put_fits l i j (cell s i) (λ k. cell_proper s k i)
  row_fits (Call l) (i ∷ js) none x g e = call_fits l i js (cell s i) (no_future i e) (λ k. cell_proper s k i)
  row_fits Clone (i ∷ []) none x g e = allots_fits (cell s i) [] (λ k. cell_proper s k i)
  row_fits (Active l) (i ∷ []) none x g e = active_fits i l (cell s i)
  row_fits (Serve ls) [] none x g e = tt
  row_fits (Pending ls) [] none x g e = tt
  row_fits (Let y) (i ∷ []) (more t none) x g e = becomes (put_in ((y, i) ∷ []) t) (λ k. put_proper ((y, i) ∷ []) (y ∷ []) [] (all_bound (y ∷ []) (i ∷ []) ((y, i) ∷ []) refl) t g.2.1.0)
  row_fits Steps (i ∷ []) (more t ts) x g e = rest_fits i t ts g.2.1
  row_fits If (i ∷ []) (more t (more u none)) x g e = if_fits t u (cell s i) g.2.1.0 g.2.1.1.0
  row_fits Repeat [] (more t none) x g e = becomes (node Steps (more t (more (node Repeat (more t none)) none))) (λ k. (refl, omega arith, (g.2.0, (g, tt))))
  row_fits (Operate sign) (i ∷ j ∷ []) none x g e = numbers_fit sign (cell s i) (cell s j)
  row_fits Print (i ∷ []) none x g e = print_fits i (cell s i)
  row_fits term.Group ns none x g e = allots_fits (Group ns) [] (λ k. tt)
  row_fits (Scatter l) (i ∷ j ∷ []) none x g e = scatter_fits l (cell s i) (cell s j)
  row_fits Size (i ∷ []) none x g e = size_fits (cell s i)
  row_fits Member (i ∷ j ∷ []) none x g e = member_fits (cell s i) (cell s j)
  row_fits WaitAll (i ∷ []) none x g e = wait_fits i (cell s i)
  row_fits h ns ts x g e = absurd x

  pub redex_fits : (r : Redex) → IsProperRedex r → first_future s (strict_operands r.head r.places ++ strict_members s r.head r.places) ≡ None → Fits s (row s r.head r.places r.behind)
  redex_fits r h e = row_fits r.head r.places r.behind (redex_shaped r h) h.node e

-- a contraction: it is not broken, and leaves what is proper
abbrev pub Goes : Store → Contraction → Type 0
Goes s (Needs place) = Unit {0}
Goes s r = Fits s r

fits_goes : (s : Store) (r : Contraction) → Fits s r → Goes s r
fits_goes s (Needs place) h = tt
fits_goes s r h = h

needed_goes : (s : Store) (o : Option ℕ) (r : Contraction) → (o ≡ None → Fits s r) → Goes s (elim o [ Some n ↦ Needs n | None ↦ r ])
needed_goes s None r h = fits_goes s r (h refl)
needed_goes s (Some n) r h = tt

pub contract_goes : (s : Store) (r : Redex) → IsProperRedex r → Goes s (contract s r)
contract_goes s r h = needed_goes s _ _ (redex_fits s r h)
