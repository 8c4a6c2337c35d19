-- Whom one waits for, from what is told of the end of a run.
use Rattle.std.proofs.Common.{◌≡◌, ◌<◌, ◌+◌, ◌&&◌, ◌⊎◌, ℕ, zero, suc, nat_eq, Bool, true, false, T, List, [], ◌∷◌, ◌++◌, Option, Some, None, IfSome, IfNone, is_some, length, map, refl, sym, ap, subst, ◌∙◌, inl, inr, ⊎_elim, arith, eqb-true}
use Rattle.std.proofs.lemmas.Bool.{eqb-false}
use Rattle.std.proofs.lemmas.Option.{slice_get_within}
use Rattle.std.specs.List.{slice_get}
use Rattle.std.specs.FinMap.{find, is_sorted}
use Rattle.std.specs.FinMap.Entries.{below_all}
use Rattle.std.specs.Ordering.{is_lt}
use Rattle.asp_model.specs.declared.name.FutureName.{FutureName}
use Rattle.asp_model.specs.declared.outcome.ActivityReport.{ActivityReport}
use Rattle.asp_model.specs.Names.{Name, FutureShape, Text, name_cmp, future_cmp}
use Rattle.asp_model.specs.Parcel.{ParcelShape}
use Rattle.asp_model.specs.Configuration.{Activity, Configuration, RequestShape}
use Rattle.asp_model.specs.Intent.{StatusShape, Done, Serving, Running, Awaits, Faulted}
use Rattle.asp_model.specs.Outcome.{ActivityReportShape, activity_report}
use Rattle.asp_model.specs.Shapes.{activity_shape, future_shape, status_shape}
use Rattle.asp_model.specs.Status.{status_of}
use Rattle.code_table.specs.declared.cells.Parcel.{Parcel}
use Rattle.law_chases.proofs.FutureLemmas.{no_some, some_is, none_true}
use Rattle.law_steps.specs.Kept.{Stands}
use Rattle.law_steps.specs.Reached.{IsThere}
use Rattle.law_steps.proofs.EntryLemmas.{In, found_entry}
use Rattle.law_waits.specs.Waits.{Standing, Pending, InService, holder_of, waited}
use Rattle.law_waits.specs.Laws.{StandsSo}
use Rattle.law_waits.proofs.CauseLemmas.{waits_are_found, waits_are_so}
use Rattle.future_table.specs.Values.{values_of}
use Rattle.path_equal.specs.Views.{IsNamedAt, IsNowhere, NamesAscend}
use Rattle.wait_circles.specs.Ways.{next_in}
use Rattle.wait_circles.specs.Whys.{AreOf, IsNumbered, names_of}
use Rattle.wait_circles.proofs.WhyLemmas.{name_at, status_at}
use Rattle.run_waits.specs.Explains.{IsEndTold}
use Rattle.wait_circles.specs.Targets.{place_of}
use Rattle.run_waits.specs.Targets.{target_at}
use Rattle.run_waits.specs.declared.receipts.Receipts.{Receipts}
use Rattle.wait_circles.specs.declared.targets.Target.{Target}

abbrev name_by : Option (Name × Standing) → Option Name
name_by o = elim o [ None ↦ None | Some x ↦ Some x.0 ]

abbrev find_by : Configuration → FutureShape → Option ParcelShape → Option (Name × Standing)
find_by c f o = elim o [ None ↦ holder_of c f | Some p ↦ None ]

abbrev wait_by : Configuration → StatusShape → Option (Name × Standing)
wait_by c s = elim s [
  | Done ↦ None
  | Serving ↦ None
  | Running ↦ None
  | Awaits f ↦ find_by c f (find future_cmp f c.futures)
  | Faulted fault ↦ None
]

-- who awaits no future waits for nobody
pub none_waited : (c : Configuration) (n : Name) (s : StatusShape) → status_of c n ≡ s → wait_by c s ≡ None → waited c n ≡ None
none_waited c n s st e = ap (λ t. name_by (wait_by c t)) st ∙ ap name_by e

-- nor who awaits one that has a value
pub filled_waited : (c : Configuration) (n : Name) (f : FutureShape) (p : ParcelShape) → status_of c n ≡ Awaits f → find future_cmp f c.futures ≡ Some p → waited c n ≡ None
filled_waited c n f p st e = none_waited c n (Awaits f) st (ap (find_by c f) e)

awaited_is : (f g : FutureShape) → Awaits f ≡ Awaits g → f ≡ g
awaited_is f g e = ap (future_or f) e
  where
    future_or : FutureShape → StatusShape → FutureShape
    future_or x (Awaits y) = y
    future_or x s = x

-- who awaits another waits for the one whom its request went to, who is there
pub record IsFor (c : Configuration) (n : Name) (r : Receipts) (f : FutureName) : Type 0 where
  pub name : Name
  pub label : Text
  pub waits : waited c n ≡ Some name
  pub told : target_at r f ≡ Some (name, label)
  pub there : IsThere c name

standing_at : (c : Configuration) (m : Name) (f : FutureShape) (s : Standing) → StandsSo c m f s → (k : ℕ) × (q : RequestShape) × Stands c m k q × (q.future ≡ f)
standing_at c m f (Pending k r) h = (k, r, h.0, h.1)
standing_at c m f (InService k r) h = (k, r, h.0, h.1)

pub unfilled_waited : (c : Configuration) (rs : List ActivityReport) (futures : List (FutureName × Parcel)) (r : Receipts) (n : Name) (f : FutureName) → IsEndTold c rs futures r → status_of c n ≡ Awaits (future_shape f) → find future_cmp (future_shape f) c.futures ≡ None → IsFor c n r f
unfilled_waited c rs futures r n f told st e =
    let x = waits_are_found c n (future_shape f) told.sound st e in
    let w = waits_are_so c n x.0.0 x.0.1 told.sound x.1 in
    let same : w.0 ≡ future_shape f = awaited_is w.0 (future_shape f) (sym w.1 ∙ st) in
    let at = standing_at c x.0.0 w.0 x.0.1 w.4 in
    record {
      name = x.0.0;
      label = at.1.label;
      waits = ap name_by x.1;
      told = told.targets f x.0.0 at.0 at.1 at.2 (at.3 ∙ same);
      there = w.3;
    }

-- Numbers of names

listed : (c : Configuration) (rs : List ActivityReport) (xs : List (Name × Activity)) (y : Name × Activity) → map activity_shape rs ≡ map (activity_report c) xs → In y xs → (k : ℕ) × (a : ActivityReport) × (slice_get rs k ≡ Some a) × (a.name ≡ y.0)
listed c rs [] y e i = absurd i
listed c [] (x ∷ xs) y e i = let bad : [] ≡ activity_report c x ∷ map (activity_report c) xs = e in absurd cc
listed c (a ∷ rs) (x ∷ xs) y e (inl same) = (0, a, refl, ap (λ z. z.name) (first_is e) ∙ ap (λ z. z.0) (sym same))
  where
    first_is : {X : Type 0} {v w : X} {vs ws : List X} → v ∷ vs ≡ w ∷ ws → v ≡ w
    first_is d = cc
listed c (a ∷ rs) (x ∷ xs) y e (inr i) = let z = listed c rs xs y (rest_is e) i in (suc z.0, z.1, z.2, z.3)
  where
    rest_is : {X : Type 0} {v w : X} {vs ws : List X} → v ∷ vs ≡ w ∷ ws → vs ≡ ws
    rest_is d = cc

-- who is there has a number
pub there_listed : (c : Configuration) (rs : List ActivityReport) (m : Name) → AreOf c rs → IsThere c m → IsNowhere rs m → ⊥
there_listed c rs m of there nowhere = by_entry (find name_cmp m c.activities) refl there
  where
    by_entry : (o : Option Activity) → find name_cmp m c.activities ≡ o → is_some o ≡ true → ⊥
    by_entry None e h = none_true h
    by_entry (Some a) e h =
        let x = found_entry c.activities m a e in
        let y = listed c rs c.activities x.0 of x.1 in
        nowhere y.0 y.1 y.2 (y.3 ∙ x.2)

-- the one whom it waits for has this number
pub numbered_is : (c : Configuration) (rs : List ActivityReport) (futures : List (FutureName × Parcel)) (r : Receipts) (n : Name) (f : FutureName) (t : Target) (j : ℕ) → IsEndTold c rs futures r → status_of c n ≡ Awaits (future_shape f) → find future_cmp (future_shape f) c.futures ≡ None → target_at r f ≡ Some (place_of t) → IsNamedAt rs t.to j → IsNumbered (names_of rs) (Some j) (waited c n)
numbered_is c rs futures r n f t j told st e is at =
    let x = unfilled_waited c rs futures r n f told st e in
    let same : t.to ≡ x.name = ap (λ z. z.0) (some_is (sym is ∙ x.told)) in
    (x.name, x.waits, name_at rs j at.report at.there ∙ ap Some (at.named ∙ same))

-- so it has one
pub nowhere_not : (c : Configuration) (rs : List ActivityReport) (futures : List (FutureName × Parcel)) (r : Receipts) (n : Name) (f : FutureName) (t : Target) → IsEndTold c rs futures r → status_of c n ≡ Awaits (future_shape f) → find future_cmp (future_shape f) c.futures ≡ None → target_at r f ≡ Some (place_of t) → IsNowhere rs t.to → ⊥
nowhere_not c rs futures r n f t told st e is nowhere =
    let x = unfilled_waited c rs futures r n f told st e in
    let same : t.to ≡ x.name = ap (λ z. z.0) (some_is (sym is ∙ x.told)) in
    there_listed c rs x.name told.activities x.there (λ k a at named. nowhere k a at (named ∙ sym same))

pub untold_not : (c : Configuration) (rs : List ActivityReport) (futures : List (FutureName × Parcel)) (r : Receipts) (n : Name) (f : FutureName) → IsEndTold c rs futures r → status_of c n ≡ Awaits (future_shape f) → find future_cmp (future_shape f) c.futures ≡ None → target_at r f ≡ None → ⊥
untold_not c rs futures r n f told st e is = let x = unfilled_waited c rs futures r n f told st e in no_some (sym is ∙ x.told)

-- Their names ascend

abbrev shown : Configuration → List (Name × Activity) → List (Name × ℕ)
shown c xs = map (λ (r : ActivityReportShape). (r.name, r.count)) (map (activity_report c) xs)

below_shown : (c : Configuration) (q : Name) (xs : List (Name × Activity)) → below_all name_cmp q (shown c xs) ≡ below_all name_cmp q xs
below_shown c q [] = refl
below_shown c q (x ∷ xs) = (λ i. is_lt (name_cmp q x.0) && below_shown c q xs i)

sorted_shown : (c : Configuration) (xs : List (Name × Activity)) → is_sorted name_cmp (shown c xs) ≡ is_sorted name_cmp xs
sorted_shown c [] = refl
sorted_shown c (x ∷ xs) = (λ i. below_shown c x.0 xs i && sorted_shown c xs i)

pub names_ascend : (c : Configuration) (rs : List ActivityReport) → AreOf c rs → T (is_sorted name_cmp c.activities) → NamesAscend rs
names_ascend c rs of h = ap (λ rs. is_sorted name_cmp (map (λ (r : ActivityReportShape). (r.name, r.count)) rs)) of ∙ sorted_shown c c.activities ∙ T_true (is_sorted name_cmp c.activities) h
  where
    T_true : (b : Bool) → T b → b ≡ true
    T_true true t = refl
    T_true false t = absurd t

-- Numbers that are found

pub named_within : (rs : List ActivityReport) (q : Name) (o : Option ℕ) → IfSome o (IsNamedAt rs q) → IfSome o (λ j. j < length rs)
named_within rs q None h = tt
named_within rs q (Some j) h = slice_get_within rs j h.report h.there

pub receiver_number : (c : Configuration) (rs : List ActivityReport) (futures : List (FutureName × Parcel)) (r : Receipts) (n : Name) (f : FutureName) (t : Target) (o : Option ℕ) → IsEndTold c rs futures r → status_of c n ≡ Awaits (future_shape f) → None ≡ find future_cmp (future_shape f) (values_of futures) → Some (place_of t) ≡ target_at r f → IfSome o (IsNamedAt rs t.to) → (NamesAscend rs → IfNone o (IsNowhere rs t.to)) → IsNumbered (names_of rs) o (waited c n)
receiver_number c rs futures r n f t None told st e is found none =
    let unfilled : find future_cmp (future_shape f) c.futures ≡ None = ap (find future_cmp (future_shape f)) (sym told.futures_are) ∙ sym e in
    absurd (nowhere_not c rs futures r n f t told st unfilled (sym is) (none (names_ascend c rs told.activities told.sound.ordered.activities)))
receiver_number c rs futures r n f t (Some j) told st e is found none =
    let unfilled : find future_cmp (future_shape f) c.futures ≡ None = ap (find future_cmp (future_shape f)) (sym told.futures_are) ∙ sym e in
    numbered_is c rs futures r n f t j told st unfilled (sym is) found

pub receiver_none : (c : Configuration) (rs : List ActivityReport) (futures : List (FutureName × Parcel)) (r : Receipts) (n : Name) (f : FutureName) → IsEndTold c rs futures r → status_of c n ≡ Awaits (future_shape f) → None ≡ find future_cmp (future_shape f) (values_of futures) → None ≡ target_at r f → waited c n ≡ None
receiver_none c rs futures r n f told st e is =
    let unfilled : find future_cmp (future_shape f) c.futures ≡ None = ap (find future_cmp (future_shape f)) (sym told.futures_are) ∙ sym e in
    absurd (untold_not c rs futures r n f told st unfilled (sym is))

pub filled_none : (c : Configuration) (rs : List ActivityReport) (futures : List (FutureName × Parcel)) (r : Receipts) (n : Name) (f : FutureName) (p : ParcelShape) → IsEndTold c rs futures r → status_of c n ≡ Awaits (future_shape f) → Some p ≡ find future_cmp (future_shape f) (values_of futures) → waited c n ≡ None
filled_none c rs futures r n f p told st e = filled_waited c n (future_shape f) p st (ap (find future_cmp (future_shape f)) (sym told.futures_are) ∙ sym e)

-- One more

next_old : (ns : List (Option ℕ)) (r : Option ℕ) (i : ℕ) → i < length ns → next_in (ns ++ r ∷ []) i ≡ next_in ns i
next_old [] r i h = absurd (omega (arith, h))
next_old (x ∷ ns) r zero h = refl
next_old (x ∷ ns) r (suc i) h = next_old ns r i (omega (arith, h))

next_new : (ns : List (Option ℕ)) (r : Option ℕ) → next_in (ns ++ r ∷ []) (length ns) ≡ r
next_new [] r = refl
next_new (x ∷ ns) r = next_new ns r

next_either : (ns : List (Option ℕ)) (r : Option ℕ) (i j : ℕ) → next_in (ns ++ r ∷ []) i ≡ Some j → (next_in ns i ≡ Some j) ⊎ (r ≡ Some j)
next_either [] r zero j h = inr h
next_either [] r (suc i) j h = no_some h
next_either (x ∷ ns) r zero j h = inl h
next_either (x ∷ ns) r (suc i) j h = next_either ns r i j h

pub within_more : (ns : List (Option ℕ)) (r : Option ℕ) (n : ℕ) → ((i j : ℕ) → next_in ns i ≡ Some j → j < n) → IfSome r (λ j. j < n) → (i j : ℕ) → next_in (ns ++ r ∷ []) i ≡ Some j → j < n
within_more ns r n all one i j h = ⊎_elim (λ old. all i j old) (λ new. subst (λ (o : Option ℕ). IfSome o (λ k. k < n)) new one) (next_either ns r i j h)

pub waits_more : (c : Configuration) (rs : List ActivityReport) (ns : List (Option ℕ)) (r : Option ℕ) (k : ℕ) (a : ActivityReport) → AreOf c rs → length ns ≡ k → slice_get rs k ≡ Some a
    → ((i : ℕ) (n : Name) → i < k → slice_get (names_of rs) i ≡ Some n → IsNumbered (names_of rs) (next_in ns i) (waited c n))
    → ((n : Name) → status_of c n ≡ status_shape a.status → IsNumbered (names_of rs) r (waited c n))
    → (i : ℕ) (n : Name) → i < k + 1 → slice_get (names_of rs) i ≡ Some n → IsNumbered (names_of rs) (next_in (ns ++ r ∷ []) i) (waited c n)
waits_more c rs ns r k a of size at all one i n lt is = by_test (nat_eq i k) refl
  where
    named : i ≡ k → a.name ≡ n
    named e = some_is (sym (name_at rs k a at) ∙ ap (slice_get (names_of rs)) (sym e) ∙ is)

    by_test : (b : Bool) → nat_eq i k ≡ b → IsNumbered (names_of rs) (next_in (ns ++ r ∷ []) i) (waited c n)
    by_test true q =
        let e : i ≡ k = eqb-true i k q in
        let here : next_in (ns ++ r ∷ []) i ≡ r = ap (next_in (ns ++ r ∷ [])) (e ∙ sym size) ∙ next_new ns r in
        let st : status_of c n ≡ status_shape a.status = ap (status_of c) (sym (named e)) ∙ status_at c rs c.activities k a of at in
        subst (λ (o : Option ℕ). IsNumbered (names_of rs) o (waited c n)) (sym here) (one n st)
    by_test false q =
        let d = eqb-false i k q in
        let before : i < k = omega (arith, lt, d) in
        subst (λ (o : Option ℕ). IsNumbered (names_of rs) o (waited c n)) (sym (next_old ns r i (omega (arith, before, size)))) (all i n before is)
