-- The ends of activities are those of the configuration that they stand for.
use Rattle.std.proofs.Common.{◌≡◌, ◌≢◌, ◌<◌, ◌||◌, ◌∷◌, ◌++◌, [], Bool, T, List, Option, Some, None, is_some, length, map, refl, sym, ap, subst, ◌∙◌, inl, inr, ⊎_elim, arith}
use Rattle.std.specs.List.{list_any, AllByRecursion}
use Rattle.std.proofs.lemmas.List.{append_assoc, append-nil, map-append}
use Rattle.std.specs.List.Sorted.{IsStrictlySortedBy}
use Rattle.std.specs.FinMap.{find, is_sorted}
use Rattle.std.specs.Map.{keys_of}
use Rattle.std.specs.Option.{option_map}
use Rattle.std.specs.Global.{Box}
use Rattle.std.specs.Ordering.{ordering_reverse}
use Rattle.std.specs.declared.cmp.Ordering.{Ordering}
use Rattle.std.specs.declared.cmp.Ordering.TheVariants.{Less, Equal, Greater}
use Rattle.asp_model.specs.declared.outcome.ActivityReport.{ActivityReport}
use Rattle.asp_model.specs.declared.name.FutureName.{FutureName}
use Rattle.asp_model.specs.Names.{Name, main_name, name_cmp}
use Rattle.asp_model.specs.Order.{name_cmp_same}
use Rattle.asp_model.specs.Chase.{Values, chase}
use Rattle.asp_model.specs.Configuration as model
use Rattle.asp_model.specs.Configuration.{Configuration, RequestShape, log_of, requests_of}
use Rattle.asp_model.specs.Intent.{Rests, Done, intent}
use Rattle.asp_model.specs.Status.{status_of, status_of_intent, statuses_of, verdict_of}
use Rattle.asp_model.specs.Outcome.{ActivityReportShape, activity_report, outcome_of}
use Rattle.asp_model.specs.Shapes.{activity_shape, status_shape}
use Rattle.code_table.specs.declared.cells.Parcel.{Parcel}
use Rattle.future_table.specs.Values.{values_of}
use Rattle.code_table.specs.declared.code.Node.{Node}
use Rattle.def_paths.specs.Snapshots.{snapshot_of}
use Rattle.def_paths.specs.Outcomes.{EndShape, end_of, whole_outcome_of, reported}
use Rattle.run_ends.specs.declared.ends.EndState.{EndState}
use Rattle.run_ends.specs.Ends.{AreSnapshotsOf, IsSnapshotOf}
use Rattle.law_steps.specs.Reached.{IsAt, IsThere}
use Rattle.law_steps.specs.Closed.{IsClosed}
use Rattle.law_steps.proofs.EntryLemmas.{In, entry_found, first_of_both, second_of_both}
use Rattle.law_steps.proofs.NameLemmas.{name_total, name_case}
use Rattle.law_chases.proofs.FutureLemmas.{no_some, true_false}
use Rattle.step_reads.specs.Values.{AreClosedValues}
use Rattle.step_activity.specs.declared.actor.Actor.{Actor}
use Rattle.step_activity.specs.Actors.{Stands, code_of, log_in}
use Rattle.step_ends.specs.Activities.{StandForSound, StandsAt, actor_at}
use Rattle.step_ends.specs.Ends.{AreClosedStates, AreEndsBy, AreEndsFor, IsEndBy, IsEndFor, end_with}
use Rattle.step_ends.proofs.EntryLemmas.{absent_below, absent_less, find_head, find_skip, lookup_find, sorted_by}

-- What stands at a name

abbrev pub unboxed : Option (Box Actor) → Option Actor
unboxed = option_map (λ b. b.value)

pub stands_none : (p : Option model.Activity) (rs : List RequestShape) → StandsAt None p rs → p ≡ None
stands_none None rs h = refl
stands_none (Some a) rs h = absurd h

pub stands_no : (o : Option Actor) (rs : List RequestShape) → StandsAt o None rs → o ≡ None
stands_no None rs h = refl
stands_no (Some x) rs h = absurd h

pub list_any_map : {X Y : Type 0} (p : Y → Bool) (f : X → Y) (xs : List X) → list_any p (map f xs) ≡ list_any (λ x. p (f x)) xs
list_any_map p f [] = refl
list_any_map p f (x ∷ xs) = ap (λ b. p (f x) || b) (list_any_map p f xs)

-- Pairs

abbrev ArePaired : Configuration → List (Name × Box Actor) → List (Name × model.Activity) → Type 0
ArePaired c [] [] = Unit {0}
ArePaired c [] (y ∷ ys) = ⊥
ArePaired c (x ∷ xs) [] = ⊥
ArePaired c (x ∷ xs) (y ∷ ys) = (x.0 ≡ y.0) × Stands x.1.value y.1 (requests_of c y.0) × ArePaired c xs ys

abbrev at_name : Name → List (Name × Box Actor) → Option Actor
at_name n xs = unboxed (find name_cmp n xs)

at_head : (x : Name × Box Actor) (xs : List (Name × Box Actor)) → at_name x.0 (x ∷ xs) ≡ Some x.1.value
at_head x xs = ap unboxed (find_head x xs)

at_skip : (n : Name) (x : Name × Box Actor) (xs : List (Name × Box Actor)) → n ≢ x.0 → at_name n (x ∷ xs) ≡ at_name n xs
at_skip n x xs d = ap unboxed (find_skip n x xs d)

at_none : (n : Name) (xs : List (Name × Box Actor)) → find name_cmp n xs ≡ None → at_name n xs ≡ None
at_none n xs e = ap unboxed e

abbrev StandBy : Configuration → List (Name × Box Actor) → List (Name × model.Activity) → Type 0
StandBy c xs ys = (n : Name) → StandsAt (at_name n xs) (find name_cmp n ys) (requests_of c n)

heads_stand : (x : Actor) (y : model.Activity) (o : Option Actor) (p : Option model.Activity) (rs : List RequestShape) → o ≡ Some x → p ≡ Some y → StandsAt o p rs → Stands x y rs
heads_stand x y o p rs e f h = subst (λ q. StandsAt (Some x) q rs) f (subst (λ q. StandsAt q p rs) e h)

some_none : {C : Type 0} (o : Option Actor) (p : Option model.Activity) (rs : List RequestShape) (x : Actor) → o ≡ Some x → p ≡ None → StandsAt o p rs → C
some_none o p rs x e f h = no_some (sym (stands_no o rs (subst (λ q. StandsAt o q rs) f h)) ∙ e)

none_some : {C : Type 0} (o : Option Actor) (p : Option model.Activity) (rs : List RequestShape) (y : model.Activity) → o ≡ None → p ≡ Some y → StandsAt o p rs → C
none_some o p rs y e f h = no_some (sym (stands_none p rs (subst (λ q. StandsAt q p rs) e h)) ∙ f)

both_none : (o : Option Actor) (p : Option model.Activity) (rs : List RequestShape) → o ≡ None → p ≡ None → StandsAt o p rs
both_none o p rs e f = subst (λ q. StandsAt q p rs) (sym e) (subst (λ q. StandsAt None q rs) (sym f) tt)

still_stand : (o o' : Option Actor) (p p' : Option model.Activity) (rs : List RequestShape) → o ≡ o' → p ≡ p' → StandsAt o p rs → StandsAt o' p' rs
still_stand o o' p p' rs e f h = subst (λ q. StandsAt q p' rs) e (subst (λ q. StandsAt o q rs) f h)

tails_stand : (c : Configuration) (x : Name × Box Actor) (xs : List (Name × Box Actor)) (y : Name × model.Activity) (ys : List (Name × model.Activity)) → T (is_sorted name_cmp (x ∷ xs)) → T (is_sorted name_cmp (y ∷ ys)) → x.0 ≡ y.0 → StandBy c (x ∷ xs) (y ∷ ys) → StandBy c xs ys
tails_stand c x xs y ys s t e h n = ⊎_elim
    (λ q. both_none (at_name n xs) (find name_cmp n ys) (requests_of c n)
    (ap (λ k. at_name k xs) (q ∙ sym e) ∙ at_none x.0 xs (absent_below x.0 xs (first_of_both _ _ s)))
    (ap (λ k. find name_cmp k ys) q ∙ absent_below y.0 ys (first_of_both _ _ t)))
    (λ d. still_stand (at_name n (x ∷ xs)) (at_name n xs) (find name_cmp n (y ∷ ys)) (find name_cmp n ys) (requests_of c n) (at_skip n x xs (λ q. d (q ∙ e))) (find_skip n y ys d) (h n))
    (name_case n y.0)

paired : (c : Configuration) (xs : List (Name × Box Actor)) (ys : List (Name × model.Activity)) → T (is_sorted name_cmp xs) → T (is_sorted name_cmp ys) → StandBy c xs ys → ArePaired c xs ys
paired c [] [] s t h = tt
paired c [] (y ∷ ys) s t h = none_some None (find name_cmp y.0 (y ∷ ys)) (requests_of c y.0) y.1 refl (find_head y ys) (h y.0)
paired c (x ∷ xs) [] s t h = some_none (at_name x.0 (x ∷ xs)) None (requests_of c x.0) x.1.value (at_head x xs) refl (h x.0)
paired c (x ∷ xs) (y ∷ ys) s t h = by (name_cmp x.0 y.0) refl (λ e. paired c xs ys (second_of_both _ _ s) (second_of_both _ _ t) (tails_stand c x xs y ys s t e h))
  where
    by : (r : Ordering) → name_cmp x.0 y.0 ≡ r → (x.0 ≡ y.0 → ArePaired c xs ys) → ArePaired c (x ∷ xs) (y ∷ ys)
    by Less q ih = some_none (at_name x.0 (x ∷ xs)) (find name_cmp x.0 (y ∷ ys)) (requests_of c x.0) x.1.value (at_head x xs) (absent_less x.0 y ys q t) (h x.0)
    by Equal q ih =
        let e = name_cmp_same x.0 y.0 q in
        (e, heads_stand x.1.value y.1 (at_name y.0 (x ∷ xs)) (find name_cmp y.0 (y ∷ ys)) (requests_of c y.0) (ap (λ k. at_name k (x ∷ xs)) (sym e) ∙ at_head x xs) (find_head y ys) (h y.0), ih e)
    by Greater q ih = none_some (at_name y.0 (x ∷ xs)) (find name_cmp y.0 (y ∷ ys)) (requests_of c y.0) y.1 (at_none y.0 (x ∷ xs) (absent_less y.0 x xs (name_total.antisymm y.0 x.0 ∙ ap ordering_reverse q) s)) (find_head y ys) (h y.0)

-- Reports

abbrev AreThere : Configuration → List (Name × model.Activity) → Type 0
AreThere c ys = (y : Name × model.Activity) → In y ys → IsAt c y.0 y.1

report_is : (c : Configuration) (n : Name) (y : Name × model.Activity) → n ≡ y.0 → IsAt c y.0 y.1 → activity_report c y ≡ (end_with c.futures n y.1 (requests_of c y.0) (log_of c y.0)).report
report_is c n y e is =
    let status : status_of c y.0 ≡ status_of_intent (intent (chase c.futures) (requests_of c y.0) y.0 y.1) = ap (λ (q : Option model.Activity). status_of_intent (elim q [ None ↦ Rests Done | Some a ↦ intent (chase c.futures) (requests_of c y.0) y.0 a ])) is in
    (λ i. record { name = y.0; count = y.1.reductions; status = status i; senders = log_of c y.0; lines = y.1.lines })
    ∙ (λ i. record { name = sym e i; count = y.1.reductions; status = status_of_intent (intent (chase c.futures) (requests_of c y.0) (sym e i) y.1); senders = log_of c y.0; lines = y.1.lines })

end_is : (c : Configuration) (n : Name) (y : Name × model.Activity) (x : Actor) → n ≡ y.0 → IsAt c y.0 y.1 → log_in x ≡ log_of c n → end_of c y ≡ end_with c.futures n y.1 (requests_of c y.0) (log_in x)
end_is c n y x e is log =
    let report = report_is c n y e is in
    let same : log_of c y.0 ≡ log_in x = ap (log_of c) (sym e) ∙ sym log in
    (λ i. record { report = report i; snapshot = snapshot_of y.1 }) ∙ ap (end_with c.futures n y.1 (requests_of c y.0)) same

-- Codes

abbrev AreCoded : List Node → List (Name × Box Actor) → Type 0
AreCoded k = AllByRecursion (λ x. code_of x.1.value ≡ k)

abbrev CodedBy : List Node → List (Name × Box Actor) → Type 0
CodedBy k xs = (n : Name) (x : Actor) → at_name n xs ≡ Some x → code_of x ≡ k

coded : (k : List Node) (xs : List (Name × Box Actor)) → T (is_sorted name_cmp xs) → CodedBy k xs → AreCoded k xs
coded k [] s h = tt
coded k (x ∷ xs) s h = (
  h x.0 x.1.value (at_head x xs),
  coded k xs (second_of_both _ _ s) (λ n y e. ⊎_elim
      (λ q. no_some (sym (ap (λ m. at_name m xs) q ∙ at_none x.0 xs (absent_below x.0 xs (first_of_both _ _ s))) ∙ e))
      (λ d. h n y (at_skip n x xs d ∙ e))
      (name_case n x.0)),
)

-- Logs

abbrev AreLogged : Configuration → List (Name × Box Actor) → Type 0
AreLogged c = AllByRecursion (λ x. log_in x.1.value ≡ log_of c x.0)

abbrev LoggedBy : Configuration → List (Name × Box Actor) → Type 0
LoggedBy c xs = (n : Name) (x : Actor) → at_name n xs ≡ Some x → log_in x ≡ log_of c n

logged : (c : Configuration) (xs : List (Name × Box Actor)) → T (is_sorted name_cmp xs) → LoggedBy c xs → AreLogged c xs
logged c [] s h = tt
logged c (x ∷ xs) s h = (
  h x.0 x.1.value (at_head x xs),
  logged c xs (second_of_both _ _ s) (λ n y e. ⊎_elim
      (λ q. no_some (sym (ap (λ m. at_name m xs) q ∙ at_none x.0 xs (absent_below x.0 xs (first_of_both _ _ s))) ∙ e))
      (λ d. h n y (at_skip n x xs d ∙ e))
      (name_case n x.0)),
)

-- Ends

ends_paired : (k : List Node) (c : Configuration) (xs : List (Name × Box Actor)) (ys : List (Name × model.Activity)) → AreCoded k xs → AreLogged c xs → ArePaired c xs ys → AreThere c ys → AreEndsFor k c.futures xs (map (end_of c) ys)
ends_paired k c [] [] d g h t = tt
ends_paired k c [] (y ∷ ys) d g h t = absurd h
ends_paired k c (x ∷ xs) [] d g h t = absurd h
ends_paired k c (x ∷ xs) (y ∷ ys) d g h t = (
  record { activity = y.1; received = requests_of c y.0; stands = h.1; is = end_is c x.0 y x.1.value h.0 (t y (inl refl)) g.0; coded = d.0 },
  ends_paired k c xs ys d.1 g.1 h.2 (λ z i. t z (inr i)),
)

closed_paired : (c : Configuration) (xs : List (Name × Box Actor)) (ys : List (Name × model.Activity)) → IsClosed c → ArePaired c xs ys → AreThere c ys → AreClosedStates xs
closed_paired c [] [] k h t = tt
closed_paired c [] (y ∷ ys) k h t = absurd h
closed_paired c (x ∷ xs) [] k h t = absurd h
closed_paired c (x ∷ xs) (y ∷ ys) k h t = (record { activity = y.1; received = requests_of c y.0; stands = h.1; closed = k.activities y.0 y.1 (t y (inl refl)); arguments = k.arguments y.0 }, closed_paired c xs ys k h.2 (λ z i. t z (inr i)))

-- nobody is at a name among none
nobody_at : (xs : List (Name × Box Actor)) (n : Name) → xs ≡ [] → actor_at xs n ≡ None
nobody_at xs n none = ap (λ ys. actor_at ys n) none

module _ (xs : List (Name × Box Actor)) (futures : List (FutureName × Parcel)) (c : Configuration) (h : StandForSound xs futures c) where
  -- the main activity at least
  pub somebody : 0 < length xs
  somebody = by xs refl
    where
      main : IsThere c main_name
      main = h.sound.created main_name (inl refl)

      by : (ys : List (Name × Box Actor)) → xs ≡ ys → 0 < length ys
      by [] none =
          let there = find name_cmp main_name c.activities in
          let rs : List RequestShape = requests_of c main_name in
          absurd (true_false (is_some there) main (ap is_some (stands_none there rs (subst (λ o. StandsAt o there rs) (nobody_at xs main_name none) (h.population.activities main_name)))))
      by (y ∷ ys) is = omega arith

  pub values_closed : AreClosedValues (values_of futures)
  values_closed = subst AreClosedValues (sym h.population.futures) h.closed.values

  module _ (sorted : IsStrictlySortedBy name_cmp (keys_of xs)) where
    all_paired : ArePaired c xs c.activities
    all_paired = paired c xs c.activities (sorted_by xs sorted) h.sound.ordered.activities
        (λ n. subst (λ o. StandsAt (unboxed o) (find name_cmp n c.activities) (requests_of c n)) (lookup_find n xs) (h.population.activities n))

    all_there : AreThere c c.activities
    all_there y i = entry_found c.activities y h.sound.ordered.activities i

    all_coded : AreCoded h.population.code xs
    all_coded = coded h.population.code xs (sorted_by xs sorted) (λ n x e. h.population.actors n x (ap unboxed (lookup_find n xs) ∙ e))

    all_logged : AreLogged c xs
    all_logged = logged c xs (sorted_by xs sorted) (λ n x e. h.population.logs n x (ap unboxed (lookup_find n xs) ∙ e))

    pub all_ends : AreEndsFor h.population.code (values_of futures) xs (map (end_of c) c.activities)
    all_ends = subst (λ (vs : Values). AreEndsFor h.population.code vs xs (map (end_of c) c.activities)) (sym h.population.futures) (ends_paired h.population.code c xs c.activities all_coded all_logged all_paired all_there)

    pub all_closed : AreClosedStates xs
    all_closed = closed_paired c xs c.activities h.closed all_paired all_there

-- One end after the other

-- some ends were made, and the others are still to come
pub record IsPart (k : List Node) (values : Values) (xs : List (Name × Box Actor)) (es : List EndShape) (rs : List ActivityReport) (ss : List EndState) : Type 0 where
  pub done : List EndShape
  pub rest : List EndShape
  pub all : es ≡ done ++ rest
  pub made : AreEndsBy k rs ss done
  pub left : AreEndsFor k values xs rest

pub none_made : (k : List Node) (values : Values) (xs : List (Name × Box Actor)) (es : List EndShape) → AreEndsFor k values xs es → IsPart k values xs es [] []
none_made k values xs es h = record { done = []; rest = es; all = refl; made = record { reports = refl; states = tt }; left = h }

states_more : (k : List Node) (ss : List EndState) (s : EndState) (es : List EndShape) (e : EndShape) → AreSnapshotsOf k ss es → IsSnapshotOf k s e.snapshot → AreSnapshotsOf k (ss ++ s ∷ []) (es ++ e ∷ [])
states_more k [] s [] e h g = (g, tt)
states_more k [] s (f ∷ es) e h g = absurd h
states_more k (t ∷ ss) s [] e h g = absurd h
states_more k (t ∷ ss) s (f ∷ es) e h g = (h.0, states_more k ss s es e h.1 g)

ends_more : (k : List Node) (rs : List ActivityReport) (ss : List EndState) (es : List EndShape) (e : EndShape) (r : ActivityReport) (s : EndState) → AreEndsBy k rs ss es → IsEndBy k e (r, s) → AreEndsBy k (rs ++ r ∷ []) (ss ++ s ∷ []) (es ++ e ∷ [])
ends_more k rs ss es e r s h g = record {
  reports = map-append activity_shape rs (r ∷ [])
      ∙ (λ i. h.reports i ++ g.0 i ∷ [])
      ∙ sym (map-append (λ (x : EndShape). x.report) es (e ∷ []));
  states = states_more k ss s es e h.states g.1;
}

-- one more end is made
pub one_made : (k : List Node) (values : Values) (x : Name × Box Actor) (xs : List (Name × Box Actor)) (es : List EndShape) (rs : List ActivityReport) (ss : List EndState) (r : ActivityReport) (s : EndState) → IsPart k values (x ∷ xs) es rs ss
    → ((a : model.Activity) (qs : List RequestShape) → Stands x.1.value a qs → IsEndBy (code_of x.1.value) (end_with values x.0 a qs (log_in x.1.value)) (r, s)) → IsPart k values xs es (rs ++ r ∷ []) (ss ++ s ∷ [])
one_made k values x xs es rs ss r s p is = by p.rest p.all p.left
  where
    by : (rest : List EndShape) → es ≡ p.done ++ rest → AreEndsFor k values (x ∷ xs) rest → IsPart k values xs es (rs ++ r ∷ []) (ss ++ s ∷ [])
    by [] all left = absurd left
    by (e ∷ rest) all left =
        let f : IsEndFor k values x e = left.0 in
        let here : IsEndBy k (end_with values x.0 f.activity f.received (log_in x.1.value)) (r, s) = subst (λ (c : List Node). IsEndBy c (end_with values x.0 f.activity f.received (log_in x.1.value)) (r, s)) f.coded (is f.activity f.received f.stands) in
        record {
          done = p.done ++ e ∷ [];
          rest = rest;
          all = all ∙ sym (append_assoc p.done (e ∷ []) rest);
          made = ends_more k rs ss p.done e r s p.made (subst (λ (d : EndShape). IsEndBy k d (r, s)) (sym f.is) here);
          left = left.1;
        }

-- all are made
pub all_made : (k : List Node) (values : Values) (es : List EndShape) (rs : List ActivityReport) (ss : List EndState) → IsPart k values [] es rs ss → AreEndsBy k rs ss es
all_made k values es rs ss p = by p.rest p.all p.left
  where
    by : (rest : List EndShape) → es ≡ p.done ++ rest → AreEndsFor k values [] rest → AreEndsBy k rs ss es
    by [] all left = subst (AreEndsBy k rs ss) (sym (all ∙ append-nil p.done)) p.made
    by (e ∷ rest) all left = absurd left

-- Outcomes

pub map_map : {X Y Z : Type 0} (g : Y → Z) (f : X → Y) (xs : List X) → map g (map f xs) ≡ map (λ x. g (f x)) xs
map_map g f [] = refl
map_map g f (x ∷ xs) = ap (λ ys. g (f x) ∷ ys) (map_map g f xs)

pub statuses_shown : (c : Configuration) (xs : List ActivityReport) → map activity_shape xs ≡ map (activity_report c) c.activities → map (λ (a : ActivityReport). status_shape a.status) xs ≡ statuses_of c
statuses_shown c xs e = sym (map_map (λ (r : ActivityReportShape). r.status) activity_shape xs) ∙ ap (map (λ (r : ActivityReportShape). r.status)) e ∙ map_map (λ (r : ActivityReportShape). r.status) (activity_report c) c.activities

-- a whole outcome without the states
pub reported_is : (c : Configuration) → reported (whole_outcome_of c) ≡ outcome_of c
reported_is c = ap (λ (rs : List ActivityReportShape). record { verdict = verdict_of c; activities = rs }) (map_map (λ (e : EndShape). e.report) (end_of c) c.activities)
