-- Every wait has its cause told.
use Rattle.std.specs.Prelude.{◌≡◌, suc, ◌+◌, true, false, List, [], ◌∷◌, Option, Some, None, is_some, length, map, cond}
use Rattle.std.proofs.Common.{refl, sym, ap, subst, ◌∙◌, arith}
use Rattle.std.proofs.lemmas.List.{length-map}
use Rattle.std.specs.FinMap.{find}
use Rattle.asp_model.specs.Names.{Name, FutureShape, name_cmp, future_cmp, same_name, same_future}
use Rattle.asp_model.specs.Term.{has_text}
use Rattle.asp_model.specs.Parcel.{ParcelShape}
use Rattle.asp_model.specs.Chase.{Values, Lead, Ends, Goes, Misses, Chase, Value, Unfilled, Cycle, walk_end, chase}
use Rattle.asp_model.specs.Configuration.{Activity, Configuration, requests_of}
use Rattle.asp_model.specs.Intent.{StatusShape, Done, Serving, Running, Awaits, Faulted, Intent, Acts, Rests, intent}
use Rattle.asp_model.specs.Step.{intent_in}
use Rattle.asp_model.specs.Status.{status_of, status_of_intent, is_awaiting, IsStuck}
use Rattle.law_steps.specs.Reached.{IsThere}
use Rattle.law_steps.specs.Kept.{IsBegun}
use Rattle.law_steps.specs.Sound.{IsSound}
use Rattle.law_chases.proofs.FutureLemmas.{no_some, some_is, none_true, futures_tied, future_itself}
use Rattle.law_chases.proofs.ChaseLemmas.{awaited, is_end, chase_by}
use Rattle.law_chases.proofs.EndLemmas.{went_filled}
use Rattle.law_chases.proofs.FilledLemmas.{no_cycle_unfilled}
use Rattle.law_chases.proofs.CycleLemmas.{HasNoEnd, never_next}
use Rattle.law_chases.proofs.MeetLemmas.{never_meets, cycle_never, named_cycle}
use Rattle.law_steps.proofs.NameLemmas.{names_tied, name_itself}
use Rattle.law_steps.proofs.WakeLemmas.{none_rests_running}
use Rattle.law_steps.proofs.WholeLemmas.{reached_are_sound, sound_intents}
use Rattle.law_waits.specs.Courses.{Course, Stops, Circles, has_item, course_from, ComesTo, IsCircle, IsCourse}
use Rattle.law_waits.specs.Waits.{Standing, holder_of, wait_of, Cause, ValueCircle, Ended, AtFault, Unserved, ActivityCircle, waited, value_future, wait_course, labels_at, cause_by, cause_of}
use Rattle.law_waits.specs.Laws.{IsWait, Holds, WaitsAreSo, WaitsAreFound, RestsAreCaused, WaitsAreCaused}
use Rattle.law_waits.proofs.CourseLemmas.{told, StopsAt, IsTold}
use Rattle.law_waits.proofs.HolderLemmas.{holder_is, holder_there}
use Rattle.law_waits.proofs.IntentLemmas.{awaits_lacked, serving_is, none_matches}

abbrev find_by : Configuration → FutureShape → Option ParcelShape → Option (Name × Standing)
find_by c f o = elim o [ None ↦ holder_of c f | Some p ↦ None ]

abbrev wait_by : Configuration → StatusShape → Option (Name × Standing)
wait_by c s = elim s [
  | Done ↦ None
  | Serving ↦ None
  | Running ↦ None
  | Awaits f ↦ find_by c f (find future_cmp f c.futures)
  | Faulted fault ↦ None
]

-- Names that are there

there_among : {X : Type 0} (es : List (Name × X)) (q : Name) → is_some (find name_cmp q es) ≡ true → has_item same_name q (map (λ x. x.0) es) ≡ true
there_among [] q h = none_true h
there_among (e ∷ es) q h = elim (same_name q e.0) as (λ b. is_some (cond b (Some e.1) (find name_cmp q es)) ≡ true → elim b [ true ↦ true | false ↦ has_item same_name q (map (λ x. x.0) es) ] ≡ true) [
  | true ↦ λ h. refl
  | false ↦ λ h. there_among es q h
] h

filled_among : (vs : Values) (f : FutureShape) → is_some (find future_cmp f vs) ≡ true → has_item same_future f (map (λ v. v.0) vs) ≡ true
filled_among [] f h = none_true h
filled_among (v ∷ vs) f h = elim (same_future f v.0) as (λ b. is_some (cond b (Some v.1) (find future_cmp f vs)) ≡ true → elim b [ true ↦ true | false ↦ has_item same_future f (map (λ v. v.0) vs) ] ≡ true) [
  | true ↦ λ h. refl
  | false ↦ λ h. filled_among vs f h
] h

-- Futures that lead into a circle

abbrev future_by : Lead → Option FutureShape
future_by l = elim l [ Ends p ↦ None | Goes g ↦ Some g | Misses ↦ None ]

module _ (vs : Values) where
  never_onward : (f g : FutureShape) → HasNoEnd vs f → value_future vs f ≡ Some g → HasNoEnd vs g
  never_onward f g h e =
      let x = never_next vs f h in
      subst (HasNoEnd vs) (some_is (sym (ap future_by x.1) ∙ e)) x.2

  never_filled : (f : FutureShape) → HasNoEnd vs f → is_some (find future_cmp f vs) ≡ true
  never_filled f h = let x = never_next vs f h in went_filled vs f x.0 (find future_cmp f vs) x.1

  abbrev keys : List FutureShape
  keys = map (λ v. v.0) vs

  among_keys : (f : FutureShape) → HasNoEnd vs f → has_item same_future f keys ≡ true
  among_keys f h = filled_among vs f (never_filled f h)

  abbrev IsRound : FutureShape → Type 0
  IsRound f = (first : FutureShape) × (others : List FutureShape)
      × (course_from same_future (value_future vs) (length vs) [] f ≡ Some (Circles first others))
      × ComesTo (value_future vs) f first × IsCircle (value_future vs) first others

  -- the course of one whose walk never ends is a circle
  circle_told : (f : FutureShape) → HasNoEnd vs f → IsRound f
  circle_told f h = by_told (told same_future futures_tied future_itself (value_future vs) (HasNoEnd vs) never_onward keys among_keys (length vs) f (sym (length-map vs (λ v. v.0))) h)
    where
      by_course : (z : Course FutureShape) → course_from same_future (value_future vs) (length vs) [] f ≡ Some z → IsCourse (value_future vs) f z → StopsAt same_future futures_tied future_itself (value_future vs) (HasNoEnd vs) never_onward keys among_keys z → IsRound f
      by_course (Stops last) e is p = let x = never_next vs last p in no_some (sym is.1 ∙ ap future_by x.1)
      by_course (Circles first others) e is p = (first, others, e, is.0, is.1)

      by_told : IsTold same_future futures_tied future_itself (value_future vs) (HasNoEnd vs) never_onward keys among_keys f (course_from same_future (value_future vs) (length vs) [] f) → IsRound f
      by_told t = by_course t.0 t.1 t.2 t.3

-- a chase ends at a future only if that has no value
ends_unfilled : (vs : Values) (x h : FutureShape) → chase vs x ≡ Unfilled h → find future_cmp h vs ≡ None
ends_unfilled vs x h e = by_end (walk_end (suc (length vs)) vs x) refl e
  where
    by_end : (o : Option Chase) → walk_end (suc (length vs)) vs x ≡ o → chase_by vs x o ≡ Unfilled h → find future_cmp h vs ≡ None
    by_end (Some y) d e = is_end vs (suc (length vs)) x (Unfilled h) (d ∙ ap Some e)
    by_end None d e = no_cycle_unfilled e

module _ (c : Configuration) (s : IsSound c) where
  begun : (n : Name) (f : FutureShape) → status_of c n ≡ Awaits f → IsBegun c f
  begun n f st = (sound_intents c s).awaited n f st

  -- Waits

  wait_is : (n : Name) (x : Name × Standing) → wait_of c n ≡ Some x → IsWait c n x.0 x.1
  wait_is n x h = by_status (status_of c n) refl h
    where
      by_value : (f : FutureShape) → status_of c n ≡ Awaits f → (o : Option ParcelShape) → find future_cmp f c.futures ≡ o → find_by c f o ≡ Some x → IsWait c n x.0 x.1
      by_value f st None e h = let y = holder_is c s f (begun n f st) e x h in (f, st, e, y.0, y.1)
      by_value f st (Some p) e h = no_some h

      by_status : (t : StatusShape) → status_of c n ≡ t → wait_by c t ≡ Some x → IsWait c n x.0 x.1
      by_status Done st h = no_some h
      by_status Serving st h = no_some h
      by_status Running st h = no_some h
      by_status (Awaits f) st h = by_value f st (find future_cmp f c.futures) refl h
      by_status (Faulted fault) st h = no_some h

  wait_there : (n : Name) (f : FutureShape) → status_of c n ≡ Awaits f → find future_cmp f c.futures ≡ None → (x : Name × Standing) × (wait_of c n ≡ Some x)
  wait_there n f st e =
      let y = holder_there c s f (begun n f st) e in
      (y.0, ap (wait_by c) st ∙ ap (find_by c f) e ∙ y.1)

  abbrev name_by : Option (Name × Standing) → Option Name
  name_by o = elim o [ None ↦ None | Some x ↦ Some x.0 ]

  waited_there : (n m : Name) → IsThere c n → waited c n ≡ Some m → IsThere c m
  waited_there n m there h = by_wait (wait_of c n) refl h
    where
      by_wait : (o : Option (Name × Standing)) → wait_of c n ≡ o → name_by o ≡ Some m → IsThere c m
      by_wait None e h = no_some h
      by_wait (Some x) e h = subst (IsThere c) (some_is h) (wait_is n x e).3

  -- Who waits for nobody

  abbrev pub IsCaused : Name → Option Cause → Type 0
  IsCaused n o = (x : Cause) × (o ≡ Some x) × Holds c n x

  abbrev value_cause : Name → Option (Course FutureShape) → Option Cause
  value_cause m o = elim o [
    | None ↦ None
    | Some x ↦ elim x [ Stops last ↦ None | Circles first others ↦ Some (ValueCircle m first others) ]
  ]

  -- a future that an activity awaits, and that has a value, leads round a circle
  leads_round : (m : Name) (f : FutureShape) (p : ParcelShape) → status_of c m ≡ Awaits f → find future_cmp f c.futures ≡ Some p → HasNoEnd c.futures f
  leads_round m f p st filled =
      let x = awaits_lacked c m f st in
      by_chase x.0 (chase c.futures x.0) refl x.1
    where
      by_chase : (x : FutureShape) (z : Chase) → chase c.futures x ≡ z → awaited z ≡ Some f → HasNoEnd c.futures f
      by_chase x (Value g q) e a = no_some a
      by_chase x (Unfilled g) e a = no_some (sym (ends_unfilled c.futures x g e) ∙ ap (λ k. find future_cmp k c.futures) (some_is a) ∙ filled)
      by_chase x (Cycle g) e a =
          let e : chase c.futures x ≡ Cycle f = e ∙ ap Cycle (some_is a) in
          never_meets c.futures x f (cycle_never c.futures s.ordered.futures x f e) (named_cycle c.futures s.ordered.futures x f e).meets

  none_runs : (m : Name) → IsStuck c → status_of c m ≡ Running → ⊥
  none_runs m stuck st = by_intent (intent_in c m) refl st
    where
      by_intent : (p : Intent) → intent_in c m ≡ p → status_of_intent p ≡ Running → ⊥
      by_intent (Acts e) is h = let r = sound_intents c s in no_some (sym (r.stuck stuck m) ∙ r.step m e is)
      by_intent (Rests status) is h = none_rests_running c m (is ∙ ap Rests h)

  pub rest_caused : (n m : Name) → IsStuck c → ComesTo (waited c) n m → waited c m ≡ None → IsCaused n (cause_by c m (status_of c m))
  rest_caused n m stuck behind last = by_status (status_of c m) refl
    where
      by_value : (f : FutureShape) → status_of c m ≡ Awaits f → (o : Option ParcelShape) → find future_cmp f c.futures ≡ o → IsCaused n (cause_by c m (Awaits f))
      by_value f st None e = let y = wait_there m f st e in no_some (sym last ∙ ap name_by y.1)
      by_value f st (Some p) e =
          let x = circle_told c.futures f (leads_round m f p st e) in
          (ValueCircle m x.0 x.1, ap (value_cause m) x.2, (behind, (f, st, x.3, x.4)))

      by_status : (t : StatusShape) → status_of c m ≡ t → IsCaused n (cause_by c m t)
      by_status Done st = (Ended m, refl, (behind, st))
      by_status Serving st =
          let x = serving_is c m st in
          (Unserved m (labels_at (find name_cmp m c.activities)), refl, (behind, (st, (x.0, x.1, ap labels_at x.1, λ k r at free. ap (has_text r.label) (ap labels_at x.1) ∙ none_matches _ _ 0 (requests_of c m) x.2 k k r at (let e : k ≡ 0 + k = omega arith in e) free))))
      by_status Running st = absurd (none_runs m stuck st)
      by_status (Awaits f) st = by_value f st (find future_cmp f c.futures) refl
      by_status (Faulted fault) st = (AtFault m fault, refl, (behind, st))

  abbrev course_cause : Option (Course Name) → Option Cause
  course_cause o = elim o [
    | None ↦ None
    | Some x ↦ elim x [ Stops last ↦ cause_by c last (status_of c last) | Circles first others ↦ Some (ActivityCircle first others) ]
  ]

  caused : (n : Name) → IsStuck c → IsThere c n → IsCaused n (cause_of c n)
  caused n stuck there = let t = told same_name names_tied name_itself (waited c) (IsThere c) waited_there (map (λ x. x.0) c.activities) (λ m h. there_among c.activities m h) (length c.activities) n (sym (length-map c.activities (λ x. x.0))) there in by_course t.0 t.1 t.2
    where
      by_course : (z : Course Name) → wait_course c n ≡ Some z → IsCourse (waited c) n z → IsCaused n (cause_of c n)
      by_course (Stops last) e is = let x = rest_caused n last stuck is.0 is.1 in (x.0, ap course_cause e ∙ x.1, x.2)
      by_course (Circles first others) e is = (ActivityCircle first others, ap course_cause e, is)

pub waits_are_so : WaitsAreSo
waits_are_so c n m t s h = wait_is c s n (m, t) h

pub waits_are_found : WaitsAreFound
waits_are_found c n f s st e = wait_there c s n f st e

pub rests_are_caused : RestsAreCaused
rests_are_caused c n s stuck there = caused c s n stuck there

abbrev status_by : Configuration → Name → Option Activity → StatusShape
status_by c n o = status_of_intent (elim o [ None ↦ Rests Done | Some a ↦ intent (chase c.futures) (requests_of c n) n a ])

-- who awaits is there
awaits_there : (c : Configuration) (n : Name) (f : FutureShape) → status_of c n ≡ Awaits f → IsThere c n
awaits_there c n f st = by_entry (find name_cmp n c.activities) refl st
  where
    by_entry : (o : Option Activity) → find name_cmp n c.activities ≡ o → status_by c n o ≡ Awaits f → IsThere c n
    by_entry None e h = none_true (ap is_awaiting h)
    by_entry (Some a) e h = ap is_some e

pub waits_are_caused : WaitsAreCaused
waits_are_caused program c n f reached stuck st = caused c (reached_are_sound program c reached) n stuck (awaits_there c n f st)
