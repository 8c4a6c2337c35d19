-- Redexes that are alike, whose strict operands are no futures, contract alike.
use Rattle.std.specs.Prelude.{◌≡◌, ℕ, ℤ, zero, suc, Bool, true, false, List, [], ◌∷◌, Option, Some, None, length}
use Rattle.std.proofs.Common.{refl, sym, ap, subst, ◌∙◌}
use Rattle.asp_model.specs.Names.{Text}
use Rattle.asp_model.specs.Term.{SignShape, MethodHead, Head, Tree, Trees, node, none, more, child_count, Make, Get, Put, Call, Clone, Active, Serve, Let, Steps, If, Repeat, Operate, Print, Echo, Scatter, Size, Member, WaitAll, Pending}
use Rattle.asp_model.specs.Term as term
use Rattle.asp_model.specs.Split.{Redex}
use Rattle.asp_model.specs.Store.{Store}
use Rattle.asp_model.specs.Contraction.{Contraction, Needs, Breaks, TextLine, row, first_future, strict_operands, strict_members, contract}
use Rattle.law_chases.proofs.FutureLemmas.{none_true}
use Rattle.def_paths.specs.Places.{Place, Side}
use Rattle.def_paths.specs.Agree.{Pairs, no_pair, pair}
use Rattle.law_paths.specs.Alike.{at_node, AreAlikeBelow, no_more, one_more, AlikeRedexes, objects, groups}
use Rattle.law_paths.proofs.PairLemmas.{pairs_length, pairs_more}
use Rattle.law_paths.proofs.AlikeLemmas.{alike_put_in, same_count}
use Rattle.law_paths.proofs.OnwardLemmas.{Stored, Sides}
use Rattle.law_paths.proofs.RowsLemmas.{AlikeContractions, serves, polls, breaks, Operand, goes, allot, number, at, get_by, put_by, call_by, active_by, if_by, operate_by, print_by, scatter_by, size_by, member_by, wait_by, fields_alike, methods_alike, remaining_alike}

-- how many places and terms behind them a head's row has
abbrev is_shape : Head → ℕ → ℕ → Bool
is_shape (term.Number z) zero zero = true
is_shape (Make labels methods) n c = true
is_shape (Echo text) zero zero = true
is_shape (Get l) (suc zero) zero = true
is_shape (Put l) (suc (suc zero)) zero = true
is_shape (Call l) (suc n) zero = true
is_shape Clone (suc zero) zero = true
is_shape (Active service) (suc zero) zero = true
is_shape (Serve labels) zero zero = true
is_shape (Pending labels) zero zero = true
is_shape (Let x) (suc zero) (suc zero) = true
is_shape Steps (suc zero) c = true
is_shape If (suc zero) (suc (suc zero)) = true
is_shape Repeat zero (suc zero) = true
is_shape (Operate sign) (suc (suc zero)) zero = true
is_shape Print (suc zero) zero = true
is_shape term.Group n zero = true
is_shape (Scatter l) (suc (suc zero)) zero = true
is_shape Size (suc zero) zero = true
is_shape Member (suc (suc zero)) zero = true
is_shape WaitAll (suc zero) zero = true
is_shape h n c = false

data View : Head → List ℕ → Trees → Type 0 where
  a_number : (z : ℤ) → View (term.Number z) [] none
  a_make : (labels : List Text) (methods : List MethodHead) (ns : List ℕ) (ts : Trees) → View (Make labels methods) ns ts
  an_echo : (text : Text) → View (Echo text) [] none
  a_get : (l : Text) (i : ℕ) → View (Get l) (i ∷ []) none
  a_put : (l : Text) (i k : ℕ) → View (Put l) (i ∷ k ∷ []) none
  a_call : (l : Text) (i : ℕ) (ks : List ℕ) → View (Call l) (i ∷ ks) none
  a_clone : (i : ℕ) → View Clone (i ∷ []) none
  an_active : (service : Option Text) (i : ℕ) → View (Active service) (i ∷ []) none
  a_serve : (labels : List Text) → View (Serve labels) [] none
  a_pending : (labels : List Text) → View (Pending labels) [] none
  a_let : (x : Text) (i : ℕ) (t : Tree) → View (Let x) (i ∷ []) (more t none)
  some_steps : (i : ℕ) (ts : Trees) → View Steps (i ∷ []) ts
  an_if : (i : ℕ) (t u : Tree) → View If (i ∷ []) (more t (more u none))
  a_repeat : (t : Tree) → View Repeat [] (more t none)
  a_sign : (sign : SignShape) (i k : ℕ) → View (Operate sign) (i ∷ k ∷ []) none
  a_print : (i : ℕ) → View Print (i ∷ []) none
  a_group : (ns : List ℕ) → View term.Group ns none
  a_scatter : (l : Text) (i k : ℕ) → View (Scatter l) (i ∷ k ∷ []) none
  a_size : (i : ℕ) → View Size (i ∷ []) none
  a_member : (i k : ℕ) → View Member (i ∷ k ∷ []) none
  a_wait : (i : ℕ) → View WaitAll (i ∷ []) none
  broken : (h : Head) (ns : List ℕ) (ts : Trees) → is_shape h (length ns) (child_count ts) ≡ false → View h ns ts

view : (h : Head) (ns : List ℕ) (ts : Trees) → View h ns ts
view (term.Number z) [] none = a_number z
view (Make labels methods) ns ts = a_make labels methods ns ts
view (Echo text) [] none = an_echo text
view (Get l) (i ∷ []) none = a_get l i
view (Put l) (i ∷ k ∷ []) none = a_put l i k
view (Call l) (i ∷ ks) none = a_call l i ks
view Clone (i ∷ []) none = a_clone i
view (Active service) (i ∷ []) none = an_active service i
view (Serve labels) [] none = a_serve labels
view (Pending labels) [] none = a_pending labels
view (Let x) (i ∷ []) (more t none) = a_let x i t
view Steps (i ∷ []) ts = some_steps i ts
view If (i ∷ []) (more t (more u none)) = an_if i t u
view Repeat [] (more t none) = a_repeat t
view (Operate sign) (i ∷ k ∷ []) none = a_sign sign i k
view Print (i ∷ []) none = a_print i
view term.Group ns none = a_group ns
view (Scatter l) (i ∷ k ∷ []) none = a_scatter l i k
view Size (i ∷ []) none = a_size i
view Member (i ∷ k ∷ []) none = a_member i k
view WaitAll (i ∷ []) none = a_wait i
view h ns ts = broken h ns ts refl

-- a redex of another shape breaks
not_row : (s : Store) (h : Head) (ns : List ℕ) (ts : Trees) → is_shape h (length ns) (child_count ts) ≡ false → row s h ns ts ≡ Breaks
not_row s (term.Number z) [] none e = none_true (sym e)
not_row s (Make labels methods) ns ts e = none_true (sym e)
not_row s (Echo text) [] none e = none_true (sym e)
not_row s (Get l) (i ∷ []) none e = none_true (sym e)
not_row s (Put l) (i ∷ k ∷ []) none e = none_true (sym e)
not_row s (Call l) (i ∷ ks) none e = none_true (sym e)
not_row s Clone (i ∷ []) none e = none_true (sym e)
not_row s (Active service) (i ∷ []) none e = none_true (sym e)
not_row s (Serve labels) [] none e = none_true (sym e)
not_row s (Pending labels) [] none e = none_true (sym e)
not_row s (Let x) (i ∷ []) (more t none) e = none_true (sym e)
not_row s Steps (i ∷ []) ts e = none_true (sym e)
not_row s If (i ∷ []) (more t (more u none)) e = none_true (sym e)
not_row s Repeat [] (more t none) e = none_true (sym e)
not_row s (Operate sign) (i ∷ k ∷ []) none e = none_true (sym e)
not_row s Print (i ∷ []) none e = none_true (sym e)
not_row s term.Group ns none e = none_true (sym e)
not_row s (Scatter l) (i ∷ k ∷ []) none e = none_true (sym e)
not_row s Size (i ∷ []) none e = none_true (sym e)
not_row s Member (i ∷ k ∷ []) none e = none_true (sym e)
not_row s WaitAll (i ∷ []) none e = none_true (sym e)
not_row s h ns ts e = refl

module _ (a b : Side) (R : Place → Place → Type 0) (s : Sides a b R) where
  abbrev Operands : Head → List ℕ → List ℕ → Type 0
  Operands h ns ms = Pairs (Operand a b R s) (strict_operands h ns) (strict_operands h ms)

  row_by : (h : Head) (ns : List ℕ) (ts : Trees) → View h ns ts → (ms : List ℕ) (us : Trees) → Pairs (Stored R) ns ms → AreAlikeBelow (Stored R) ts us → Operands h ns ms → AlikeContractions a b R (row a.store h ns ts) (row b.store h ms us)
  row_by _ _ _ (a_number z) _ _ no_pair no_more o = number a b R s z
  row_by _ _ _ (a_make labels methods ns ts) ms us ps e o = allot a b R s _ _ [] (objects (fields_alike (Stored R) labels ns ms ps) (methods_alike (Stored R) methods ts us e))
  row_by _ _ _ (an_echo text) _ _ no_pair no_more o = allot a b R s _ _ (TextLine text ∷ []) (objects no_pair no_pair)
  row_by _ _ _ (a_get l i) _ _ (pair r no_pair) no_more (pair x no_pair) = get_by a b R s l _ _ (at a b R s _ _ x)
  row_by _ _ _ (a_put l i k) _ _ (pair r (pair q no_pair)) no_more (pair x no_pair) = put_by a b R s l _ _ _ _ _ _ x q (at a b R s _ _ x)
  row_by _ _ _ (a_call l i ks) _ _ (pair r rs) no_more (pair x no_pair) = call_by a b R s l _ _ _ _ _ _ r rs (at a b R s _ _ x)
  row_by _ _ _ (a_clone i) _ _ (pair r no_pair) no_more (pair x no_pair) = allot a b R s _ _ [] (at a b R s _ _ x)
  row_by _ _ _ (an_active service i) _ _ (pair r no_pair) no_more (pair x no_pair) = active_by a b R s _ _ service _ _ r (at a b R s _ _ x)
  row_by _ _ _ (a_serve labels) _ _ no_pair no_more o = serves labels
  row_by _ _ _ (a_pending labels) _ _ no_pair no_more o = polls labels
  row_by _ _ _ (a_let x i t) _ _ (pair r no_pair) (one_more e no_more) o = goes a b R s _ _ [] (alike_put_in (Stored R) _ _ _ _ (pair (refl, r) no_pair) e)
  row_by _ _ _ (some_steps i ts) _ us (pair r no_pair) e o = goes a b R s _ _ [] (remaining_alike (Stored R) ts us e)
  row_by _ _ _ (an_if i t u) _ _ (pair r no_pair) (one_more e (one_more d no_more)) (pair x no_pair) = if_by a b R s _ _ _ _ _ _ e d (at a b R s _ _ x)
  row_by _ _ _ (a_repeat t) _ _ no_pair (one_more e no_more) o = goes a b R s _ _ [] (at_node Steps refl (one_more e (one_more (at_node Repeat refl (one_more e no_more)) no_more)))
  row_by _ _ _ (a_sign sign i k) _ _ (pair r (pair q no_pair)) no_more (pair x (pair y no_pair)) = operate_by a b R s sign _ _ _ _ (at a b R s _ _ x) (at a b R s _ _ y)
  row_by _ _ _ (a_print i) _ _ (pair r no_pair) no_more (pair x no_pair) = print_by a b R s _ _ _ _ r (at a b R s _ _ x)
  row_by _ _ _ (a_group ns) ms _ ps no_more o = allot a b R s _ _ [] (groups ps)
  row_by _ _ _ (a_scatter l i k) _ _ (pair r (pair q no_pair)) no_more (pair x (pair y no_pair)) = scatter_by a b R s l _ _ _ _ (at a b R s _ _ x) (at a b R s _ _ y)
  row_by _ _ _ (a_size i) _ _ (pair r no_pair) no_more (pair x no_pair) = size_by a b R s _ _ (at a b R s _ _ x)
  row_by _ _ _ (a_member i k) _ _ (pair r (pair q no_pair)) no_more (pair x (pair y no_pair)) = member_by a b R s _ _ _ _ (at a b R s _ _ x) (at a b R s _ _ y)
  row_by _ _ _ (a_wait i) _ _ (pair r no_pair) no_more (pair x no_pair) = wait_by a b R s _ _ _ _ r (at a b R s _ _ x)
  row_by _ _ _ (broken h ns ts e) ms us ps d o =
      let f : is_shape h (length ms) (child_count us) ≡ false = subst (λ n. is_shape h n (child_count us) ≡ false) (pairs_length (Stored R) ns ms ps) (subst (λ c. is_shape h (length ns) c ≡ false) (same_count (Stored R) ts us d) e) in
      subst (λ x. AlikeContractions a b R x (row b.store h ms us)) (sym (not_row a.store h ns ts e)) (subst (AlikeContractions a b R Breaks) (sym (not_row b.store h ms us f)) breaks)

  none_left : (xs ys : List ℕ) → Pairs (Operand a b R s) xs ys → (first_future a.store xs ≡ None) × (first_future b.store ys ≡ None)
  none_left _ _ no_pair = (refl, refl)
  none_left _ _ (pair {x = i} {y = j} {xs = xs} {ys = ys} x rs) = let k = none_left xs ys rs in (
    ap (λ t. elim t [ true ↦ Some i | false ↦ first_future a.store xs ]) x.left ∙ k.0,
    ap (λ t. elim t [ true ↦ Some j | false ↦ first_future b.store ys ]) x.right ∙ k.1,
  )

  abbrev unless_needed : Option ℕ → Contraction → Contraction
  unless_needed o c = elim o [ Some n ↦ Needs n | None ↦ c ]

  -- redexes that are alike, of which all that is strict is no future on either side
  pub contract_alike : (x y : Redex) → AlikeRedexes (Stored R) x y → Operands x.head x.places y.places → Pairs (Operand a b R s) (strict_members a.store x.head x.places) (strict_members b.store y.head y.places) → AlikeContractions a b R (contract a.store x) (contract b.store y)
  contract_alike x y e o m =
      let none = none_left _ _ (pairs_more (Operand a b R s) _ _ _ _ (subst (λ h. Pairs (Operand a b R s) (strict_operands x.head x.places) (strict_operands h y.places)) e.head o) m) in
      subst (λ z. AlikeContractions a b R (unless_needed z (row a.store x.head x.places x.behind)) (contract b.store y)) (sym none.0)
      (subst (λ z. AlikeContractions a b R (row a.store x.head x.places x.behind) (unless_needed z (row b.store y.head y.places y.behind))) (sym none.1)
      (subst (λ h. AlikeContractions a b R (row a.store x.head x.places x.behind) (row b.store h y.places y.behind)) e.head
      (row_by x.head x.places x.behind (view x.head x.places x.behind) y.places y.behind e.places e.behind o)))
