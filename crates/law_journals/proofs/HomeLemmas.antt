-- The homes of a configuration are those who received requests.
use Rattle.std.specs.Prelude.{◌≡◌, ℕ, zero, suc, List, [], ◌∷◌, ◌++◌, Option, Some, None, map, slice_get}
use Rattle.std.specs.List.{flat_map}
use Rattle.std.proofs.Common.{refl, sym, ap, subst, inl, inr, ◌⊎◌}
use Rattle.std.specs.FinMap.{find}
use Rattle.asp_model.specs.Names.{Name, FutureShape, name_cmp}
use Rattle.asp_model.specs.Configuration.{RequestShape, Configuration, or_none, requests_of}
use Rattle.def_journals.specs.Edges.{homes_in}
use Rattle.law_steps.specs.Kept.{Stands}
use Rattle.law_steps.specs.Linked.{Each}
use Rattle.law_steps.specs.Sound.{IsSound}
use Rattle.law_steps.proofs.EntryLemmas.{In, entry_found, found_entry}
use Rattle.law_chases.proofs.FutureLemmas.{no_some, some_is}
use Rattle.law_journals.proofs.CountLemmas.{in_flat, in_mapped}

pub each_in : {A : Type 0} {P : A → Type 0} (xs : List A) → ((x : A) → In x xs → P x) → Each P xs
each_in [] h = tt
each_in (x ∷ xs) h = (h x (inl refl), each_in xs (λ y i. h y (inr i)))

in_either : {A : Type 0} (x : A) (ys zs : List A) → In x (ys ++ zs) → In x ys ⊎ In x zs
in_either x [] zs i = inr i
in_either x (y ∷ ys) zs (inl p) = inl (inl p)
in_either x (y ∷ ys) zs (inr i) = by (in_either x ys zs i)
  where
    by : In x ys ⊎ In x zs → In x (y ∷ ys) ⊎ In x zs
    by (inl j) = inl (inr j)
    by (inr j) = inr j

-- an item of a mapped list, by its number
at_mapped : {A B : Type 0} (f : A → B) (y : B) (xs : List A) → In y (map f xs) → (k : ℕ) × (x : A) × (slice_get xs k ≡ Some x) × (y ≡ f x)
at_mapped f y [] i = absurd i
at_mapped f y (x ∷ xs) (inl p) = (0, x, refl, p)
at_mapped f y (x ∷ xs) (inr i) = let r = at_mapped f y xs i in (suc r.0, r.1, r.2, r.3)

in_numbered : {A : Type 0} (xs : List A) (k : ℕ) (x : A) → slice_get xs k ≡ Some x → In x xs
in_numbered [] k x h = no_some h
in_numbered (y ∷ xs) zero x h = inl (sym (some_is h))
in_numbered (y ∷ xs) (suc k) x h = inr (in_numbered xs k x h)

abbrev homes_at : Name × List RequestShape → List (FutureShape × Name)
homes_at x = map (λ r. (r.future, x.0)) x.1

-- from which entry a home is
home_entry : (y : FutureShape × Name) (xs : List (Name × List RequestShape)) → In y (flat_map homes_at xs) → (x : Name × List RequestShape) × In x xs × In y (homes_at x)
home_entry y [] i = absurd i
home_entry y (x ∷ xs) i = by (in_either y (homes_at x) (flat_map homes_at xs) i) (home_entry y xs)
  where
    by : In y (homes_at x) ⊎ In y (flat_map homes_at xs) → (In y (flat_map homes_at xs) → (z : Name × List RequestShape) × In z xs × In y (homes_at z)) → (z : Name × List RequestShape) × In z (x ∷ xs) × In y (homes_at z)
    by (inl j) rest = (x, inl refl, j)
    by (inr j) rest = let r = rest j in (r.0, inr r.1, r.2)

module _ (c : Configuration) where
  -- a home has received the request of its future
  pub home_received : IsSound c → (y : FutureShape × Name) → In y (homes_in c) → (k : ℕ) × (r : RequestShape) × Stands c y.1 k r × (r.future ≡ y.0)
  home_received s y i =
      let x = home_entry y c.received i in
      let at = at_mapped (λ r. (r.future, x.0.0)) y x.0.1 x.2 in
      let here : requests_of c x.0.0 ≡ x.0.1 = ap or_none (entry_found c.received x.0 s.ordered.received x.1) in
      let same : y.1 ≡ x.0.0 = ap (λ z. z.1) at.3 in (
        at.0,
        at.1,
        subst (λ m. Stands c m at.0 at.1) (sym same) (subst (λ rs. slice_get rs at.0 ≡ Some at.1) (sym here) at.2),
        sym (ap (λ z. z.0) at.3),
      )

  -- who received a request is the home of its future
  pub received_home : (m : Name) (k : ℕ) (r : RequestShape) → Stands c m k r → In (r.future, m) (homes_in c)
  received_home m k r h = by (find name_cmp m c.received) refl h
    where
      by : (o : Option (List RequestShape)) → find name_cmp m c.received ≡ o → slice_get (or_none o) k ≡ Some r → In (r.future, m) (homes_in c)
      by None is g = no_some g
      by (Some rs) is g =
          let x = found_entry c.received m rs is in
          let here : In r x.0.1 = in_numbered x.0.1 k r (subst (λ l. slice_get l k ≡ Some r) (sym x.3) g) in
          subst (λ n. In (r.future, n) (homes_in c)) x.2 (in_flat homes_at x.0 (r.future, x.0.0) c.received x.1 (in_mapped (λ q. (q.future, x.0.0)) r x.0.1 here))
