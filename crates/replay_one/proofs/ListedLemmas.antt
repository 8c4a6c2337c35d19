-- Names that are the same place by place, names that rise, and sums of counts.
use Rattle.std.specs.Prelude.{◌≡◌, ℕ, zero, suc, ◌+◌, ◌-◌, ◌^◌, ◌<◌, ◌&&◌, Bool, true, false, T, List, [], ◌∷◌, ◌++◌, length, map, min, not}
use Rattle.std.proofs.Common.{refl, sym, ap, subst, ◌∙◌, get_or, take, arith}
use Rattle.std.proofs.lemmas.Bool.{and_parts}
use Rattle.std.proofs.lemmas.List.{get_or-map, map_more, take_more}
use Rattle.std.specs.declared.cmp.Ordering.{Ordering}
use Rattle.std.specs.declared.cmp.Ordering.TheVariants.{Less, Equal, Greater}
use Rattle.std.specs.Ordering.{is_eq, is_ge, is_lt}
use Rattle.std.specs.Cmp.{IsTotalOrder, tied_itself}
use Rattle.std.specs.Cmp.Lexicographic.{nat_list_cmp_total}
use Rattle.std.specs.FinMap.{is_sorted}
use Rattle.std.specs.FinMap.Entries.{below_all}
use Rattle.asp_model.specs.Configuration.{ReceptionShape}
use Rattle.asp_model.specs.Names.{Name, name_cmp, same_name}
use Rattle.asp_model.specs.Replay.{CountsShape, total}
use Rattle.law_schedules.specs.Divergence.{AreInOrder}

-- Truth

both_true : (a b : Bool) → a ≡ true → b ≡ true → (a && b) ≡ true
both_true true b p q = q
both_true false b p q = p

pub no_true : {C : Type 0} → false ≡ true → C
no_true e = absurd (subst T (sym e) tt)

pub not_both : {C : Type 0} (b : Bool) → b ≡ true → not b ≡ true → C
not_both true e n = no_true n
not_both false e n = no_true e

pub true_by_not : (b : Bool) → not b ≡ false → b ≡ true
true_by_not true n = refl
true_by_not false n = sym n

truth : (b : Bool) → b ≡ true → T b
truth b e = subst T (sym e) tt

true_of : (b : Bool) → T b → b ≡ true
true_of true h = refl
true_of false h = absurd h

-- Sums

total-push : (counts : CountsShape) (x : Name × ℕ) → total (counts ++ x ∷ []) ≡ total counts + x.1
total-push [] x = omega arith
total-push (y ∷ counts) x = ap (λ n. y.1 + n) (total-push counts x) ∙ omega arith

capped : (t s x new : ℕ) → s ≡ min t (2 ^ 64 - 1) → new ≡ min (s + x) (2 ^ 64 - 1) → new ≡ min (t + x) (2 ^ 64 - 1)
capped t s x new h e = omega arith

pub counted : (counts : CountsShape) (i : ℕ) (x : Name × ℕ) (sum new : ℕ) → i < length counts → x ≡ get_or counts i x
    → sum ≡ min (total (take i counts)) (2 ^ 64 - 1) → new ≡ min (sum + x.1) (2 ^ 64 - 1) → new ≡ min (total (take (i + 1) counts)) (2 ^ 64 - 1)
counted counts i x sum new h is so e =
    let more : total (take (i + 1) counts) ≡ total (take i counts) + x.1 = ap total (take_more counts i x h) ∙ ap (λ y. total (take i counts ++ y ∷ [])) (sym is) ∙ total-push (take i counts) x in
    capped (total (take i counts)) sum x.1 new so e ∙ ap (λ n. min n (2 ^ 64 - 1)) (sym more)

-- The same names

abbrev names : {X : Type 0} → List (Name × X) → List Name
names es = map (λ x. x.0) es

pub same_more : {X Y : Type 0} (es : List (Name × X)) (fs : List (Name × Y)) (n : ℕ) (d : Name × X) (e : Name × Y) → n < length es → n < length fs
    → (get_or es n d).0 ≡ (get_or fs n e).0 → names (take n es) ≡ names (take n fs) → names (take (n + 1) es) ≡ names (take (n + 1) fs)
same_more es fs n d e g h here same =
    map_more (λ z. z.0) es n d g ∙ ap (λ ns. ns ++ (get_or es n d).0 ∷ []) same ∙ ap (λ z. names (take n fs) ++ z ∷ []) here ∙ sym (map_more (λ z. z.0) fs n e h)

pub name_at_place : {X Y : Type 0} (es : List (Name × X)) (fs : List (Name × Y)) (n : ℕ) (d : Name × X) (e : Name × Y) → n < length es → n < length fs
    → names es ≡ names fs → (get_or es n d).0 ≡ (get_or fs n e).0
name_at_place es fs n d e g h same =
    sym (get_or-map (λ z. z.0) es n d d.0 g) ∙ ap (λ ns. get_or ns n d.0) same ∙ get_or-map (λ z. z.0) fs n e d.0 h

pub same_name_of : (n m : Name) → n ≡ m → same_name n m ≡ true
same_name_of n m e = subst (λ z. same_name n z ≡ true) e (let o : IsTotalOrder name_cmp = nat_list_cmp_total in ap is_eq (tied_itself o n))

-- Names that rise

less : (r : Ordering) → is_lt r ≡ true → r ≡ Less
less Less h = refl
less Equal h = no_true h
less Greater h = no_true h

less_both : (j k n : Name) → is_lt (name_cmp j k) ≡ true → is_lt (name_cmp k n) ≡ true → is_lt (name_cmp j n) ≡ true
less_both j k n h i = let o : IsTotalOrder name_cmp = nat_list_cmp_total in ap is_lt (o.trans j k n (less (name_cmp j k) h) (less (name_cmp k n) i))

not_less : (r : Ordering) → is_ge r ≡ true → is_lt r ≡ true → ⊥
not_less Less g h = no_true g
not_less Equal g h = no_true h
not_less Greater g h = no_true h

module _ {X : Type 0} where
  below_more : (j k : Name) (es : List (Name × X)) → is_lt (name_cmp j k) ≡ true → below_all name_cmp k es ≡ true → below_all name_cmp j es ≡ true
  below_more j k [] h b = refl
  below_more j k (x ∷ es) h b =
      let parts = and_parts (is_lt (name_cmp k x.0)) (below_all name_cmp k es) b in
      both_true _ _ (less_both j k x.0 h parts.0) (below_more j k es h parts.1)

  abbrev IsBelowNext : List (Name × X) → ℕ → (Name × X) → Type 0
  IsBelowNext es k d = is_lt (name_cmp (get_or es k d).0 (get_or es (suc k) d).0) ≡ true

  -- each name that has a place below n stands above the one before
  abbrev pub RiseTo : List (Name × X) → ℕ → Type 0
  RiseTo es n = (k : ℕ) (d : Name × X) → k + 1 < n → is_lt (name_cmp (get_or es k d).0 (get_or es (k + 1) d).0) ≡ true

  sorted_by : (es : List (Name × X)) → ((k : ℕ) (d : Name × X) → suc k < length es → IsBelowNext es k d) → is_sorted name_cmp es ≡ true
  sorted_by [] rise = refl
  sorted_by (x ∷ []) rise = refl
  sorted_by (x ∷ y ∷ es) rise =
      let tail : is_sorted name_cmp (y ∷ es) ≡ true = sorted_by (y ∷ es) (λ k d h. rise (suc k) d (omega arith)) in
      let parts = and_parts (below_all name_cmp y.0 es) (is_sorted name_cmp es) tail in
      let first : is_lt (name_cmp x.0 y.0) ≡ true = rise zero x (omega arith) in
      both_true _ _ (both_true _ _ first (below_more x.0 y.0 es first parts.0)) tail

  pub sorted_rise : (es : List (Name × X)) → RiseTo es (length es) → is_sorted name_cmp es ≡ true
  sorted_rise es rise = sorted_by es (λ k d h.
      let on : k + 1 ≡ suc k = omega arith in
      subst (λ n. is_lt (name_cmp (get_or es k d).0 (get_or es n d).0) ≡ true) on (rise k d (omega arith)))

  rise_sorted : (es : List (Name × X)) (k : ℕ) (d : Name × X) → is_sorted name_cmp es ≡ true → suc k < length es → IsBelowNext es k d
  rise_sorted [] k d s h = absurd (omega arith)
  rise_sorted (x ∷ []) k d s h = absurd (omega arith)
  rise_sorted (x ∷ y ∷ es) zero d s h =
      let parts = and_parts (below_all name_cmp x.0 (y ∷ es)) (is_sorted name_cmp (y ∷ es)) s in
      (and_parts (is_lt (name_cmp x.0 y.0)) (below_all name_cmp x.0 es) parts.0).0
  rise_sorted (x ∷ y ∷ es) (suc k) d s h =
      rise_sorted (y ∷ es) k d (and_parts (below_all name_cmp x.0 (y ∷ es)) (is_sorted name_cmp (y ∷ es)) s).1 (omega arith)

  same_at : (es : List (Name × X)) (k : ℕ) (d e : Name × X) → k < length es → get_or es k d ≡ get_or es k e
  same_at [] k d e h = absurd (omega arith)
  same_at (x ∷ es) zero d e h = refl
  same_at (x ∷ es) (suc k) d e h = same_at es k d e (omega arith)

  pub falls : (es : List (Name × X)) (k n : ℕ) (d e : Name × X) → suc k ≡ n → n < length es → is_ge (name_cmp (get_or es k d).0 (get_or es n e).0) ≡ true → false ≡ is_sorted name_cmp es
  falls es k n d e on h ge = elim (is_sorted name_cmp es) as (λ b. is_sorted name_cmp es ≡ b → false ≡ b) [
    | false ↦ λ s. refl
    | true ↦ λ s.
        let next : get_or es (suc k) d ≡ get_or es n e = ap (λ m. get_or es m d) on ∙ same_at es n d e h in
        absurd (not_less (name_cmp (get_or es k d).0 (get_or es n e).0) ge (ap (λ z. is_lt (name_cmp (get_or es k d).0 z.0)) (sym next) ∙ rise_sorted es k d s (omega arith)))
  ] refl

  -- In order

  below_mapped : {Y : Type 0} (f : X → Y) (n : Name) (es : List (Name × X)) → below_all name_cmp n (map {B = Name × Y} (λ x. (x.0, f x.1)) es) ≡ below_all name_cmp n es
  below_mapped f n [] = refl
  below_mapped f n (x ∷ es) = ap (λ b. is_lt (name_cmp n x.0) && b) (below_mapped f n es)

  sorted_mapped : {Y : Type 0} (f : X → Y) (es : List (Name × X)) → is_sorted name_cmp (map {B = Name × Y} (λ x. (x.0, f x.1)) es) ≡ is_sorted name_cmp es
  sorted_mapped f [] = refl
  sorted_mapped f (x ∷ es) = ap (λ b. b && is_sorted name_cmp (map (λ x. (x.0, f x.1)) es)) (below_mapped f x.0 es) ∙ ap (λ b. below_all name_cmp x.0 es && b) (sorted_mapped f es)

  names_mapped : {Y : Type 0} (f : X → Y) (es : List (Name × X)) → names (map {B = Name × Y} (λ x. (x.0, f x.1)) es) ≡ names es
  names_mapped f [] = refl
  names_mapped f (x ∷ es) = ap (λ ns. x.0 ∷ ns) (names_mapped f es)

  pub in_order : (f : X → List ReceptionShape) (es : List (Name × X)) (counts : CountsShape) (b : Bool) → names es ≡ names counts → b ≡ is_sorted name_cmp es
      → (b ≡ true → AreInOrder (map {B = Name × List ReceptionShape} (λ x. (x.0, f x.1)) es) counts) × (AreInOrder (map {B = Name × List ReceptionShape} (λ x. (x.0, f x.1)) es) counts → b ≡ true)
  in_order f es counts b same is = (
    λ yes. record { names = names_mapped f es ∙ same; ascending = truth _ (sorted_mapped f es ∙ sym is ∙ yes) },
    λ order. is ∙ sym (sorted_mapped f es) ∙ true_of _ order.ascending,
  )

  pub names_in_order : (f : X → List ReceptionShape) (es : List (Name × X)) (counts : CountsShape) → AreInOrder (map {B = Name × List ReceptionShape} (λ x. (x.0, f x.1)) es) counts → names es ≡ names counts
  names_in_order f es counts order = sym (names_mapped f es) ∙ order.names
