-- A walk that does not end within as many steps as futures are filled never ends, also where more are filled.
use Rattle.std.specs.Prelude.{◌≡◌, ◌≢◌, ℕ, zero, suc, ◌+◌, ◌≤◌, not, true, cond, T, Option, Some, None, length, is_some}
use Rattle.std.proofs.Common.{refl, sym, ap, subst, ◌∙◌, arith, inl, inr, ⊎_elim, ◌⊎◌}
use Rattle.std.specs.declared.cmp.Ordering.TheVariants.{Equal}
use Rattle.std.specs.FinMap.{find, is_sorted}
use Rattle.std.specs.FinMap.Entries.{where_key, find-where_key, is_sorted-where_key, length_without}
use Rattle.asp_model.specs.Names.{FutureShape, future_cmp, same_future}
use Rattle.asp_model.specs.Parcel.{ParcelShape}
use Rattle.asp_model.specs.Chase.{Values, Ends, Goes, Misses, lead_of, lead, Chase, Value, Unfilled, Cycle, walk_end, cycle_of, chase}
use Rattle.law_chases.specs.Chases.{ChasesEnd}
use Rattle.law_chases.proofs.FutureLemmas.{no_some, some_is, none_true, true_false, future_total, future_same, future_case, future_itself, futures_apart}
use Rattle.law_chases.specs.Walks.{IsFilled}
use Rattle.law_chases.proofs.ChaseLemmas.{MoreFilled, awaited, walk_by, is_miss, lead_kept, IsEnd, is_end, cycle_filled, chase_by}

-- the values of other futures
abbrev pub others : FutureShape → Values → Values
others f vs = where_key future_cmp (λ g. not (same_future f g)) vs

same_test : (f q x : FutureShape) → future_cmp q x ≡ Equal → not (same_future f x) ≡ not (same_future f q)
same_test f q x e = ap (λ k. not (same_future f k)) (sym (future_same q x e))

find_others : (f g : FutureShape) (vs : Values) → find future_cmp g (others f vs) ≡ cond (not (same_future f g)) (find future_cmp g vs) None
find_others f g vs = find-where_key future_cmp (λ k. not (same_future f k)) g (same_test f g) vs

-- leads of the others stay, and f has none
pub lead_other : (f g : FutureShape) (vs : Values) → g ≢ f → lead (others f vs) g ≡ lead vs g
lead_other f g vs apart = ap lead_of (find_others f g vs ∙ ap (λ b. cond (not b) (find future_cmp g vs) None) (futures_apart f g (λ e. apart (sym e))))

pub lead_gone : (f : FutureShape) (vs : Values) → lead (others f vs) f ≡ Misses
lead_gone f vs = ap lead_of (find_others f f vs ∙ ap (λ b. cond (not b) (find future_cmp f vs) None) (future_itself f))

pub fewer : (f : FutureShape) (vs : Values) → T (is_sorted future_cmp vs) → IsFilled vs f → suc (length (others f vs)) ≡ length vs
fewer f vs sorted filled = let e : cond true 1 0 + length (others f vs) ≡ length vs = subst (λ b. cond b 1 0 + length (others f vs) ≡ length vs) filled (length_without future_cmp future_total f vs sorted) in omega (arith, e)

module _ (f : FutureShape) (vs : Values) where
  abbrev pub Others : Values
  Others = others f vs

  -- a walk that ends also ends among the others, or comes to f
  ends_among : (n : ℕ) (g : FutureShape) (y : Chase) → walk_end n vs g ≡ Some y → (walk_end n Others g ≡ Some y) ⊎ (walk_end n Others g ≡ Some (Unfilled f))
  ends_among zero g y h = no_some h
  ends_among (suc n) g y h = ⊎_elim
      (λ same. inr (ap (λ l. walk_by l (walk_end n Others) g) (ap (lead Others) same ∙ lead_gone f vs) ∙ ap (λ k. Some (Unfilled k)) same))
      (λ apart. elim (lead vs g) as (λ l. lead vs g ≡ l → walk_by l (walk_end n vs) g ≡ Some y → (walk_by (lead Others g) (walk_end n Others) g ≡ Some y) ⊎ (walk_by (lead Others g) (walk_end n Others) g ≡ Some (Unfilled f))) [
        | Ends p ↦ λ is h. inl (ap (λ l. walk_by l (walk_end n Others) g) (lead_other f g vs apart ∙ is) ∙ h)
        | Goes k ↦ λ is h.
            let e : walk_by (lead Others g) (walk_end n Others) g ≡ walk_end n Others k = ap (λ l. walk_by l (walk_end n Others) g) (lead_other f g vs apart ∙ is) in
            ⊎_elim (λ x. inl (e ∙ x)) (λ x. inr (e ∙ x)) (ends_among n k y h)
        | Misses ↦ λ is h. inl (ap (λ l. walk_by l (walk_end n Others) g) (lead_other f g vs apart ∙ is) ∙ h)
      ] refl h)
      (future_case g f)

  -- a walk among the others that does not end at f is one of all
  pub ends_in_all : (n : ℕ) (g : FutureShape) (y : Chase) → y ≢ Unfilled f → walk_end n Others g ≡ Some y → walk_end n vs g ≡ Some y
  ends_in_all zero g y not h = no_some h
  ends_in_all (suc n) g y not h = ⊎_elim
      (λ same. absurd (not (some_is (sym h ∙ ap (λ l. walk_by l (walk_end n Others) g) (ap (lead Others) same ∙ lead_gone f vs) ∙ ap (λ k. Some (Unfilled k)) same))))
      (λ apart. elim (lead vs g) as (λ l. lead Others g ≡ l → walk_by (lead Others g) (walk_end n Others) g ≡ Some y → walk_by l (walk_end n vs) g ≡ Some y) [
        | Ends p ↦ λ is h. ap (λ l. walk_by l (walk_end n Others) g) (sym is) ∙ h
        | Goes k ↦ λ is h. ends_in_all n k y not (ap (λ l. walk_by l (walk_end n Others) g) (sym is) ∙ h)
        | Misses ↦ λ is h. ap (λ l. walk_by l (walk_end n Others) g) (sym is) ∙ h
      ] (lead_other f g vs apart) h)
      (future_case g f)

  -- where the walk among the others comes to f, the rest of the walk of all is that of f
  rest_of : (j n : ℕ) (g : FutureShape) (y : Chase) → walk_end j Others g ≡ Some (Unfilled f) → walk_end n vs g ≡ Some y → (i : ℕ) × (i ≤ n) × (walk_end i vs f ≡ Some y)
  rest_of j zero g y to h = no_some h
  rest_of zero (suc n) g y to h = no_some to
  rest_of (suc j) (suc n) g y to h = ⊎_elim
      (λ same. (suc n, omega arith, ap (walk_end (suc n) vs) (sym same) ∙ h))
      (λ apart. elim (lead vs g) as (λ l. lead Others g ≡ l → walk_by (lead Others g) (walk_end j Others) g ≡ Some (Unfilled f) → walk_by l (walk_end n vs) g ≡ Some y → (i : ℕ) × (i ≤ suc n) × (walk_end i vs f ≡ Some y)) [
        | Ends p ↦ λ is to h. no_some (ap awaited (some_is (ap (λ l. walk_by l (walk_end j Others) g) (sym is) ∙ to)))
        | Goes k ↦ λ is to h. let x = rest_of j n k y (ap (λ l. walk_by l (walk_end j Others) g) (sym is) ∙ to) h in (x.0, omega (arith, x.1), x.2)
        | Misses ↦ λ is to h. absurd (apart (some_is (ap awaited (some_is (ap (λ l. walk_by l (walk_end j Others) g) (sym is) ∙ to)))))
      ] (lead_other f g vs apart) to h)
      (future_case g f)

  -- a walk that comes back never ends
  no_end : (g : FutureShape) (j : ℕ) → lead vs f ≡ Goes g → walk_end j Others g ≡ Some (Unfilled f) → (b n : ℕ) → n ≤ b → (y : Chase) → walk_end n vs f ≡ Some y → ⊥
  no_end g j goes back b zero le y h = no_some h
  no_end g j goes back zero (suc n) le y h = absurd (omega (arith, le))
  no_end g j goes back (suc b) (suc n) le y h =
      let x = rest_of j n g y back (ap (λ l. walk_by l (walk_end n vs) f) (sym goes) ∙ h) in
      no_end g j goes back b x.0 (omega (arith, x.1, le)) y x.2

-- it went to a filled future
pub went_filled : (vs : Values) (f g : FutureShape) (o : Option ParcelShape) → lead_of o ≡ Goes g → is_some o ≡ true
went_filled vs f g None h = none_true (sym (ap is_miss h))
went_filled vs f g (Some p) h = refl

not_unfilled : (vs : Values) (f : FutureShape) (y : Chase) → IsFilled vs f → IsEnd vs y → y ≢ Unfilled f
not_unfilled vs f y filled end e = true_false (is_some (find future_cmp f vs)) filled (ap is_some (subst (IsEnd vs) e end))

-- a walk that ends does so within as many steps as futures are filled
ends_soon : (b : ℕ) (vs : Values) → length vs ≤ b → T (is_sorted future_cmp vs) → (n : ℕ) (f : FutureShape) (y : Chase) → walk_end n vs f ≡ Some y → walk_end (suc (length vs)) vs f ≡ Some y
ends_soon b vs le sorted zero f y h = no_some h
ends_soon zero vs le sorted (suc n) f y h = elim (lead vs f) as (λ l. lead vs f ≡ l → walk_by l (walk_end n vs) f ≡ Some y → walk_by l (walk_end (length vs) vs) f ≡ Some y) [
  | Ends p ↦ λ is h. h
  | Misses ↦ λ is h. h
  | Goes g ↦ λ is k. absurd (omega (arith, le, fewer f vs sorted (went_filled vs f g (find future_cmp f vs) is)))
] refl h
ends_soon (suc b) vs le sorted (suc n) f y h = elim (lead vs f) as (λ l. lead vs f ≡ l → walk_by l (walk_end n vs) f ≡ Some y → walk_by l (walk_end (length vs) vs) f ≡ Some y) [
  | Ends p ↦ λ is h. h
  | Misses ↦ λ is h. h
  | Goes g ↦ λ is k.
      let filled = went_filled vs f g (find future_cmp f vs) is in
      let few = fewer f vs sorted filled in
      ⊎_elim
      (λ x.
      let soon = ends_soon b (others f vs) (omega (arith, le, few)) (is_sorted-where_key future_cmp (λ g. not (same_future f g)) vs sorted) n g y x in
      subst (λ j. walk_end j vs g ≡ Some y) few (ends_in_all f vs (suc (length (others f vs))) g y (not_unfilled vs f y filled (is_end vs n g y k)) soon))
      (λ x. absurd (no_end f vs g n is x (suc n) (suc n) (omega arith) y h))
      (ends_among f vs n g y k)
] refl h

-- a walk that has not ended by then has not ended in any number of steps
pub never_ends : (vs : Values) → T (is_sorted future_cmp vs) → (f : FutureShape) → walk_end (suc (length vs)) vs f ≡ None → (n : ℕ) → walk_end n vs f ≡ None
never_ends vs sorted f none n = elim (walk_end n vs f) as (λ o. walk_end n vs f ≡ o → o ≡ None) [ None ↦ λ is. refl | Some y ↦ λ is. no_some (sym none ∙ ends_soon (length vs) vs (omega arith) sorted n f y is) ] refl

-- and so where more are filled
pub goes_on : (vs ws : Values) → MoreFilled vs ws → (n : ℕ) (f : FutureShape) → walk_end n vs f ≡ None → walk_end n ws f ≡ None
goes_on vs ws more zero f h = refl
goes_on vs ws more (suc n) f h = elim (lead vs f) as (λ l. lead vs f ≡ l → walk_by l (walk_end n vs) f ≡ None → walk_by (lead ws f) (walk_end n ws) f ≡ None) [
  | Ends p ↦ λ is h. no_some (sym h)
  | Goes g ↦ λ is h. ap (λ l. walk_by l (walk_end n ws) f) (lead_kept vs ws more f (find future_cmp f vs) refl (ap is_miss is) ∙ is) ∙ goes_on vs ws more n g h
  | Misses ↦ λ is h. no_some (sym h)
] refl h

-- an end of a walk is at no filled future
no_filled_end : (vs : Values) (y : Chase) (h : FutureShape) → IsEnd vs y → awaited y ≡ Some h → IsFilled vs h → ⊥
no_filled_end vs (Value g p) h end a filled = no_some a
no_filled_end vs (Unfilled g) h end a filled = true_false (is_some (find future_cmp g vs)) (subst (IsFilled vs) (sym (some_is a)) filled) (ap is_some end)
no_filled_end vs (Cycle g) h end a filled = end

-- who comes into a cycle comes into one where more are filled
pub chase_cycle : (vs ws : Values) → MoreFilled vs ws → T (is_sorted future_cmp vs) → (f h : FutureShape) → IsFilled vs h → awaited (chase vs f) ≡ Some h → (g : FutureShape) × (awaited (chase ws f) ≡ Some g) × IsFilled ws g
chase_cycle vs ws more sorted f h filled a = elim (walk_end (suc (length vs)) vs f) as (λ o. walk_end (suc (length vs)) vs f ≡ o → awaited (chase_by vs f o) ≡ Some h → (g : FutureShape) × (awaited (chase ws f) ≡ Some g) × IsFilled ws g) [
  | Some y ↦ λ is a. absurd (no_filled_end vs y h (is_end vs (suc (length vs)) f y is) a filled)
  | None ↦ λ is a.
      let none = goes_on vs ws more (suc (length ws)) f (never_ends vs sorted f is (suc (length ws))) in
      (cycle_of ws f, ap (λ o. awaited (chase_by ws f o)) none, cycle_filled ws f none)
] refl a

-- a chase looks far enough
pub chases_end : ChasesEnd
chases_end vs n f y sorted h = ap (chase_by vs f) (ends_soon (length vs) vs (omega arith) sorted n f y h)
