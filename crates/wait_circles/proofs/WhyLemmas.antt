-- From numbers to names: why each rests.
use Rattle.std.proofs.Common.{◌≡◌, ◌≢◌, ℕ, zero, suc, List, [], ◌∷◌, Option, Some, None, map, refl, sym, ap, subst, ◌∙◌, inl, inr}
use Rattle.std.specs.FinMap.{find}
use Rattle.std.specs.List.{slice_get}
use Rattle.asp_model.specs.Names.{Name, FutureShape, name_cmp}
use Rattle.asp_model.specs.Configuration.{Activity, Configuration}
use Rattle.asp_model.specs.Contraction.{FaultShape}
use Rattle.asp_model.specs.Intent.{StatusShape, Done, Serving, Running, Awaits, Faulted}
use Rattle.asp_model.specs.Status.{status_of, IsStuck}
use Rattle.asp_model.specs.Outcome.{activity_report}
use Rattle.asp_model.specs.Shapes.{activity_shape, status_shape}
use Rattle.asp_model.specs.declared.outcome.ActivityReport.{ActivityReport}
use Rattle.law_steps.specs.Linked.{Each}
use Rattle.law_steps.specs.Sound.{IsSound}
use Rattle.law_chases.proofs.FutureLemmas.{no_some, some_is}
use Rattle.law_waits.specs.Courses.{Course, Stops, Circles, ComesTo, GoesThrough}
use Rattle.law_waits.specs.Waits.{Cause, ValueCircle, Ended, AtFault, Unserved, cause_by, labels_at, value_course, waited}
use Rattle.law_waits.specs.Laws.{Holds}
use Rattle.law_waits.proofs.CauseLemmas.{IsCaused, rest_caused}
use Rattle.wait_circles.specs.declared.ways.Circle.{Circle}
use Rattle.wait_circles.specs.declared.whys.Why.TheVariants as why
use Rattle.wait_circles.specs.Ways.{next_in, IsCircleOf}
use Rattle.wait_circles.specs.Whys.{AreNamed, AreOf, AreOnce, AreWaits, IsNumbered, IsWhy, names_of}

-- Ways of names

module _ (c : Configuration) (ns : List (Option ℕ)) (names : List Name) (waits : AreWaits c ns names) where
  next_named : (i : ℕ) (n : Name) (j : ℕ) → slice_get names i ≡ Some n → next_in ns i ≡ Some j → (m : Name) × (waited c n ≡ Some m) × (slice_get names j ≡ Some m)
  next_named i n j at e = subst (λ (o : Option ℕ). IsNumbered names o (waited c n)) e (waits i n at)

  -- the names of those on a way
  abbrev IsNamedWay : Name → List ℕ → ℕ → Type 0
  IsNamedWay n ks j = (ms : List Name) × (m : Name) × AreNamed names ks ms × (slice_get names j ≡ Some m) × GoesThrough (waited c) n ms m

  way_named : (i : ℕ) (n : Name) (ks : List ℕ) (j : ℕ) → slice_get names i ≡ Some n → GoesThrough (next_in ns) i ks j → IsNamedWay n ks j
  way_named i n [] j at g = let x = next_named i n j at g in ([], x.0, tt, x.2, x.1)
  way_named i n (k ∷ ks) j at g =
      let x = next_named i n k at g.0 in
      let y = way_named k x.0 ks j x.2 g.1 in
      (x.0 ∷ y.0, y.1, (x.2, y.2), y.3, (x.1, y.4))

  pub comes_named : (i : ℕ) (n : Name) (j : ℕ) → slice_get names i ≡ Some n → ComesTo (next_in ns) i j → (m : Name) × (slice_get names j ≡ Some m) × ComesTo (waited c) n m
  comes_named i n j at (inl e) = (n, ap (slice_get names) (sym e) ∙ at, inl refl)
  comes_named i n j at (inr (ks, g)) = let x = way_named i n ks j at g in (x.1, x.3, inr (x.0, x.4))

  pub last_named : (j : ℕ) (m : Name) → slice_get names j ≡ Some m → next_in ns j ≡ None → waited c m ≡ None
  last_named j m at e = subst (λ (o : Option ℕ). IsNumbered names o (waited c m)) e (waits j m at)

  apart_named : AreOnce names → (k : ℕ) (first : Name) (ks : List ℕ) (ms : List Name) → slice_get names k ≡ Some first → AreNamed names ks ms → Each (λ j. j ≢ k) ks → Each (λ m. m ≢ first) ms
  apart_named once k first [] [] at named apart = tt
  apart_named once k first [] (m ∷ ms) at named apart = absurd named
  apart_named once k first (j ∷ ks) [] at named apart = absurd named
  apart_named once k first (j ∷ ks) (m ∷ ms) at named apart = (λ e. apart.0 (once j k first (named.0 ∙ ap Some e) at), apart_named once k first ks ms at named.1 apart.1)

  pub round_named : AreOnce names → (zs : List Circle) (k : ℕ) (z : Circle) (i : ℕ) (n : Name) → slice_get zs k ≡ Some z → IsCircleOf ns z → slice_get names i ≡ Some n → ComesTo (next_in ns) i z.first → IsWhy c names zs n (why.Round k)
  round_named once zs k z i n at is here comes =
      let x = comes_named i n z.first here comes in
      let y = way_named z.first x.0 z.others.items z.first x.1 is.0 in
      let same : y.1 ≡ x.0 = some_is (sym y.3 ∙ x.1) in
      (z, at, (x.0, y.0, (x.1, y.2), (x.2, (subst (λ w. GoesThrough (waited c) x.0 y.0 w) same y.4, apart_named once z.first x.0 z.others.items y.0 x.1 y.2 is.1))))

-- Statuses

-- the status that is told of one is its status
pub status_at : (c : Configuration) (rs : List ActivityReport) (xs : List (Name × Activity)) (k : ℕ) (a : ActivityReport) → map activity_shape rs ≡ map (activity_report c) xs → slice_get rs k ≡ Some a → status_of c a.name ≡ status_shape a.status
status_at c [] xs k a e h = no_some h
status_at c (b ∷ rs) [] k a e h = let bad : activity_shape b ∷ map activity_shape rs ≡ [] = e in absurd cc
status_at c (b ∷ rs) (x ∷ xs) zero a e h =
    let one : activity_shape b ≡ activity_report c x = first_is e in
    subst (λ (z : ActivityReport). status_of c z.name ≡ status_shape z.status) (some_is h) (ap (status_of c) (ap (λ z. z.name) one) ∙ sym (ap (λ z. z.status) one))
  where
    first_is : {X : Type 0} {y z : X} {ys zs : List X} → y ∷ ys ≡ z ∷ zs → y ≡ z
    first_is d = cc
status_at c (b ∷ rs) (x ∷ xs) (suc k) a e h = status_at c rs xs k a (rest_is e) h
  where
    rest_is : {X : Type 0} {y z : X} {ys zs : List X} → y ∷ ys ≡ z ∷ zs → ys ≡ zs
    rest_is d = cc

pub name_at : (rs : List ActivityReport) (k : ℕ) (a : ActivityReport) → slice_get rs k ≡ Some a → slice_get (names_of rs) k ≡ Some a.name
name_at [] k a h = no_some h
name_at (b ∷ rs) zero a h = ap (λ (o : Option ActivityReport). elim o [ None ↦ None | Some z ↦ Some z.name ]) h
name_at (b ∷ rs) (suc k) a h = name_at rs k a h

pub none_named : (rs : List ActivityReport) (k : ℕ) (m : Name) → slice_get rs k ≡ None → slice_get (names_of rs) k ≡ Some m → ⊥
none_named [] k m h at = no_some at
none_named (b ∷ rs) zero m h at = no_some (sym h)
none_named (b ∷ rs) (suc k) m h at = none_named rs k m h at

module _ (c : Configuration) (s : IsSound c) (stuck : IsStuck c) (rs : List ActivityReport) (of : AreOf c rs) (zs : List Circle) (n m : Name) (last : ℕ) (a : ActivityReport) (is : slice_get rs last ≡ Some a) (at : slice_get (names_of rs) last ≡ Some m) (behind : ComesTo (waited c) n m) (none : waited c m ≡ None) where
  abbrev named_is : a.name ≡ m
  named_is = some_is (sym (name_at rs last a is) ∙ at)

  caused_by : (t : StatusShape) → status_shape a.status ≡ t → IsCaused c s n (cause_by c m t)
  caused_by t e = subst (λ u. IsCaused c s n (cause_by c m u)) (ap (status_of c) (sym named_is) ∙ status_at c rs c.activities last a of is ∙ e) (rest_caused c s n m stuck behind none)

  of_cause : (x : Cause) → IsCaused c s n (Some x) → Holds c n x
  of_cause x h = subst (Holds c n) (sym (some_is h.1)) h.2

  pub why_ended : status_shape a.status ≡ Done → IsWhy c (names_of rs) zs n (why.Ended last)
  why_ended e = (m, at, of_cause (Ended m) (caused_by Done e))

  pub why_faulted : (f : FaultShape) → status_shape a.status ≡ Faulted f → IsWhy c (names_of rs) zs n (why.Faulted last)
  why_faulted f e = (m, at, (f, of_cause (AtFault m f) (caused_by (Faulted f) e)))

  pub why_unserved : status_shape a.status ≡ Serving → IsWhy c (names_of rs) zs n (why.Unserved last)
  why_unserved e =
      let labels = labels_at (find name_cmp m c.activities) in
      (m, at, (labels, of_cause (Unserved m labels) (caused_by Serving e)))

  pub why_running : status_shape a.status ≡ Running → ⊥
  why_running e = no_some (caused_by Running e).1

  abbrev by_course : Option (Course FutureShape) → Option Cause
  by_course o = elim o [ None ↦ None | Some x ↦ elim x [ Stops z ↦ None | Circles first others ↦ Some (ValueCircle m first others) ] ]

  pub why_values : (f : FutureShape) → status_shape a.status ≡ Awaits f → IsWhy c (names_of rs) zs n (why.Values last)
  why_values f e = by_value (value_course c f) (caused_by (Awaits f) e)
    where
      by_value : (o : Option (Course FutureShape)) → IsCaused c s n (by_course o) → IsWhy c (names_of rs) zs n (why.Values last)
      by_value None h = no_some h.1
      by_value (Some (Stops z)) h = no_some h.1
      by_value (Some (Circles first others)) h = (m, at, (first, others, of_cause (ValueCircle m first others) h))
