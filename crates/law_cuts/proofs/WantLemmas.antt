-- While another steps than the one it needs, an activity cannot step.
use Rattle.std.specs.Prelude.{◌≡◌, ◌≢◌, ◌⊎◌, ◌≤◌, ℕ, suc, true, false, List, [], ◌∷◌, ◌++◌, Option, Some, None, is_some, length}
use Rattle.std.proofs.Common.{refl, sym, ap, subst, ◌∙◌, arith, inl, inr, ⊎_elim, length-append}
use Rattle.std.proofs.lemmas.Bool.{and_parts}
use Rattle.std.proofs.lemmas.List.{append-nil, append_cancel_left}
use Rattle.std.specs.FinMap.{find}
use Rattle.asp_model.specs.Names.{Name, FutureShape, name_cmp, future_cmp, created_name}
use Rattle.asp_model.specs.Term.{Tree}
use Rattle.asp_model.specs.Chase.{chase}
use Rattle.asp_model.specs.Parcel.{ParcelShape}
use Rattle.asp_model.specs.Configuration.{RequestShape, ReceptionShape, From, Poll, Activity, Configuration, or_none, requests_of, log_of}
use Rattle.asp_model.specs.Contraction.{FaultShape}
use Rattle.asp_model.specs.Intent.{StatusShape, Done, Serving, Running, Awaits, Faulted, Effect, Intent, Acts, Rests, filling, intent}
use Rattle.asp_model.specs.Step.{ListsShape, reception_at, is_next, may_log, put_some, with_last, intent_in, step, with_effect}
use Rattle.asp_model.specs.Status.{status_of_intent, status_of}
use Rattle.asp_model.specs.Replay.{log_in}
use Rattle.law_steps.specs.Reached.{IsReached, IsStep, IsAt, IsThere, Steps}
use Rattle.law_steps.specs.Kept.{Stands, IsBegun, mark, tally, answers_at}
use Rattle.law_steps.specs.Steps.{IsPoll, Grown}
use Rattle.law_steps.specs.Sound.{IsSound}
use Rattle.law_chases.proofs.FutureLemmas.{no_some, some_is, none_true, future_case, future_total, future_same}
use Rattle.law_chases.proofs.MapLemmas as Maps
use Rattle.law_steps.proofs.NameLemmas.{reception_is, is_there}
use Rattle.law_steps.proofs.FactLemmas.{Face, face_of, acts_is, holds, Holding, as_before, serving, ending}
use Rattle.law_steps.proofs.StepLemmas.{step_is, step_taken, held_back}
use Rattle.law_steps.proofs.SoundLemmas.{Took, at_name, mark_same, stays}
use Rattle.law_steps.proofs.NamesLaws.{answers_by}
use Rattle.law_steps.proofs.TidyLemmas.{logged_there}
use Rattle.law_steps.proofs.CommuteLemmas.{took}
use Rattle.law_steps.proofs.ReachedLemmas.{reached_sound, moves_go_on}
use Rattle.law_steps.proofs.FrameLemmas.{steps_count, others_stay, one_is_made, intends_stay}
use Rattle.law_steps.proofs.LogLemmas.{logs_grow}
use Rattle.law_steps.proofs.ListLemmas.{logged_by}
use Rattle.law_steps.proofs.WakeLemmas.{none_rests_running, done_stays, fault_stays, serving_stays, awaiting_stays, cycles_stay, others_stay_next}
use Rattle.law_steps.proofs.WholeLemmas.{reached_are_sound, sound_intents}
use Rattle.law_waits.specs.Waits.{Standing, Pending, InService, holder_of, waited}
use Rattle.law_waits.proofs.IntentLemmas.{rests}
use Rattle.law_waits.specs.Laws.{StandsSo}
use Rattle.law_waits.proofs.HolderLemmas.{stands_once}
use Rattle.law_waits.proofs.CauseLemmas.{waits_are_so, waits_are_found}
use Rattle.law_cuts.specs.Wants.{enterer_of, next_enterer, creator_of, wanted_by_status, wanted_by_intent, wanted, WantsStay}

-- Logs

no_longer : {A : Type 0} (xs : List ReceptionShape) (x : ReceptionShape) → xs ≡ xs ++ x ∷ [] → A
no_longer xs x e = let l : length xs ≡ length (xs ++ x ∷ []) = ap length e in absurd (omega (arith, l, length-append xs (x ∷ [])))

head_or : ReceptionShape → List ReceptionShape → ReceptionShape
head_or x [] = x
head_or x (y ∷ ys) = y

-- what comes into a log was next there
entered_by : (lists : ListsShape) (c : Configuration) (o : Option (Name × ReceptionShape)) → may_log (Some lists) c o ≡ true → (q : Name) (x : ReceptionShape) → or_none (find name_cmp q (with_last o c.logs)) ≡ log_of c q ++ x ∷ [] → reception_at (log_in lists q) (length (log_of c q)) ≡ Some x
unfolding head_or
entered_by lists c None may q x h = no_longer (log_of c q) x h
entered_by lists c (Some z) may q x h = ⊎_elim
    (λ p.
    let same : z.1 ≡ x = ap (head_or x) (append_cancel_left (log_of c q) (z.1 ∷ []) (x ∷ []) (sym p.1 ∙ h)) in
    let next : reception_at (log_in lists z.0) (length (log_of c z.0)) ≡ Some z.1 = reception_is z.1 (reception_at (log_in lists z.0) (length (log_of c z.0))) (and_parts (is_some (find name_cmp z.0 c.activities)) (is_next (Some lists) c z.0 z.1) may).1 in
    ap (λ k. reception_at (log_in lists k) (length (log_of c k))) (sym p.0) ∙ next ∙ ap Some same)
    (λ p. no_longer (log_of c q) x (sym p ∙ h))
    (logged_by z c q)

-- a step leaves the log of an activity, or its stepper entered there what was next
log_case : (lists : ListsShape) (c d : Configuration) (m q : Name) → step (Some lists) c m ≡ Some d → (log_of d q ≡ log_of c q) ⊎ (next_enterer lists c q ≡ Some m)
log_case lists c d m q h = by_growth (logs_grow (Some lists) c d m q h)
  where
    next_at : (x : ReceptionShape) → log_of d q ≡ log_of c q ++ x ∷ [] → reception_at (log_in lists q) (length (log_of c q)) ≡ Some x
    next_at x grown = let t = step_taken (Some lists) c m d h in entered_by lists c t.0.logged t.1.may q x (ap (λ z. log_of z q) t.2 ∙ grown)

    by_growth : Grown m q (log_of c q) (log_of d q) (requests_of c q) (requests_of d q) → (log_of d q ≡ log_of c q) ⊎ (next_enterer lists c q ≡ Some m)
    by_growth (inl x) = inl x.0
    by_growth (inr (inl x)) = inr (ap (enterer_of q) (next_at (From m) x.1))
    by_growth (inr (inr x)) = inr (ap (enterer_of q) (next_at Poll x.1) ∙ ap Some x.0)

-- where the log stays, so do the requests
requests_stay : (lists : ListsShape) (c d : Configuration) (m q : Name) → step (Some lists) c m ≡ Some d → log_of d q ≡ log_of c q → requests_of d q ≡ requests_of c q
requests_stay lists c d m q h same = by_growth (logs_grow (Some lists) c d m q h)
  where
    by_growth : Grown m q (log_of c q) (log_of d q) (requests_of c q) (requests_of d q) → requests_of d q ≡ requests_of c q
    by_growth (inl x) = x.1
    by_growth (inr (inl x)) = no_longer (log_of c q) (From m) (sym same ∙ x.1)
    by_growth (inr (inr x)) = no_longer (log_of c q) Poll (sym same ∙ x.1)

-- Names

creator_is : (by : Name) (k : ℕ) → creator_of (created_name by k) ≡ by
creator_is [] k = refl
creator_is (j ∷ []) k = refl
creator_is (j ∷ i ∷ by) k = ap (λ l. j ∷ l) (creator_is (i ∷ by) k)

-- Futures that are filled

-- what a step fills its stepper had to answer
filled_held : (rs : List RequestShape) (x y : Face) (o : Option (FutureShape × ParcelShape)) → Holding rs x y o → (z : FutureShape × ParcelShape) → o ≡ Some z → 1 ≤ holds (mark z.0) x
filled_held rs x y o (as_before none same hold) z e = no_some (sym none ∙ e)
filled_held rs x y o (serving k r none st new same hold) z e = no_some (sym none ∙ e)
filled_held rs x y o (ending p is same hold) z e = omega (arith, hold (mark z.0), present_of x.present p z (sym is ∙ e))
  where
    present_of : (v : Option FutureShape) (p : ParcelShape) (z : FutureShape × ParcelShape) → filling v p ≡ Some z → 1 ≤ tally (mark z.0) v
    present_of None p z e = no_some e
    present_of (Some f) p z e = omega (arith, mark_same z.0 f (ap (λ u. u.0) (sym (some_is e))))

module _ (program : Tree) (lists : ListsShape) (c d : Configuration) (n m : Name) (reached : IsReached program c) (rests_here : step (Some lists) c n ≡ None) (h : step (Some lists) c m ≡ Some d) (apart : m ≢ n) where
  s : IsSound c
  s = reached_are_sound program c reached

  after : IsReached program d
  after = moves_go_on program c d (Steps (Some lists) m) reached h

  t : IsSound d
  t = reached_are_sound program d after

  it : IsStep program c d m
  it = record { lists = Some lists; reached = reached; steps = h }

  back : n ≢ m
  back e = apart (sym e)

  abbrev Stays : Type 0
  Stays = (step (Some lists) d n ≡ None) × (wanted lists d n ≡ wanted lists c n)

  -- an activity that rests in both with one need
  abbrev want_by : Configuration → Option Activity → Option Name
  want_by z o = elim o [ None ↦ Some (creator_of n) | Some a ↦ wanted_by_intent lists z n (intent_in z n) ]

  abbrev step_by : Configuration → Intent → Option Configuration
  step_by z p = elim p [ Rests status ↦ None | Acts e ↦ elim (may_log (Some lists) z e.logged) [ true ↦ Some (with_effect n e z) | false ↦ None ] ]

  wants_as : (z : Configuration) (a : Activity) (p : Intent) → IsAt z n a → intent_in z n ≡ p → wanted lists z n ≡ wanted_by_intent lists z n p
  wants_as z a p is e = ap (want_by z) is ∙ ap (wanted_by_intent lists z n) e

  rests_so : (z : Configuration) (status : StatusShape) → intent_in z n ≡ Rests status → step (Some lists) z n ≡ None
  rests_so z status e = step_is (Some lists) z n ∙ ap (step_by z) e

  -- it rests with this status in both
  rest_stays : (a : Activity) (status other : StatusShape) → IsAt c n a → intent_in c n ≡ Rests status → intent_in d n ≡ Rests other → wanted_by_status lists d n other ≡ wanted_by_status lists c n status → Stays
  rest_stays a status other is e f same = (
    rests_so d other f,
    wants_as d a (Rests other) (others_stay program c d m n a it back is) f ∙ same ∙ sym (wants_as c a (Rests status) is e),
  )

  -- who is not there

  absent : find name_cmp n c.activities ≡ None → wanted lists c n ≢ Some m → Stays
  absent none other = by_entry (find name_cmp n d.activities) refl
    where
      by_entry : (o : Option Activity) → find name_cmp n d.activities ≡ o → Stays
      by_entry None e = (rests_so d Done (ap (λ o. elim o [ None ↦ Rests Done | Some a ↦ intent (chase d.futures) (requests_of d n) n a ]) e), ap (want_by d) e ∙ sym (ap (want_by c) none))
      by_entry (Some b) e =
          let x = steps_count program c d m it in
          let made = one_is_made program c d m n x.0 b it x.2 none e in
          absurd (other (ap (want_by c) none ∙ ap (λ k. Some (creator_of k)) made ∙ ap Some (creator_is m (suc x.0.creations))))

  module _ (a : Activity) (is : IsAt c n a) (other : wanted lists c n ≢ Some m) where
    -- who is at a `serve`
    stays_serving : intent_in c n ≡ Rests Serving → Stays
    stays_serving e = ⊎_elim
        (λ same.
        let st = serving_stays program c d m n a [] it back is (requests_stay lists c d m n h same ∙ sym (append-nil (requests_of c n))) refl (ap status_of_intent e) in
        rest_stays a Serving Serving is e (rests (intent_in d n) Serving refl st) (ap (λ l. enterer_of n (reception_at (log_in lists n) (length l))) same))
        (λ next. absurd (other (wants_as c a (Rests Serving) is e ∙ next)))
        (log_case lists c d m n h)

    stays_done : intent_in c n ≡ Rests Done → Stays
    stays_done e = rest_stays a Done Done is e (rests (intent_in d n) Done refl (done_stays program c d m n a it back is (ap status_of_intent e))) refl

    stays_faulted : (fault : FaultShape) → intent_in c n ≡ Rests (Faulted fault) → Stays
    stays_faulted fault e = rest_stays a (Faulted fault) (Faulted fault) is e (rests (intent_in d n) (Faulted fault) refl (fault_stays program c d m n a fault it back is (ap status_of_intent e))) refl

    -- who awaits a future

    abbrev name_by : Option (Name × Standing) → Option Name
    name_by o = elim o [ None ↦ None | Some x ↦ Some x.0 ]

    abbrev find_by : Configuration → FutureShape → Option ParcelShape → Option (Name × Standing)
    find_by z f o = elim o [ None ↦ holder_of z f | Some p ↦ None ]

    abbrev wait_by : Configuration → StatusShape → Option (Name × Standing)
    wait_by z u = elim u [
      | Done ↦ None
      | Serving ↦ None
      | Running ↦ None
      | Awaits f ↦ find_by z f (find future_cmp f z.futures)
      | Faulted fault ↦ None
    ]

    none_waited : (z : Configuration) (f : FutureShape) (p : ParcelShape) → status_of z n ≡ Awaits f → find future_cmp f z.futures ≡ Some p → waited z n ≡ None
    none_waited z f p st e = ap (λ u. name_by (wait_by z u)) st ∙ ap (λ o. name_by (find_by z f o)) e

    -- whom one waits for received the request of the future
    abbrev Receives : Configuration → FutureShape → Type 0
    Receives z f = (w : Name) × (waited z n ≡ Some w) × ((k : ℕ) × (r : RequestShape) × Stands z w k r × (r.future ≡ f))

    stands_by : (z : Configuration) (w : Name) (f : FutureShape) (u : Standing) → StandsSo z w f u → (k : ℕ) × (r : RequestShape) × Stands z w k r × (r.future ≡ f)
    stands_by z w f (Pending k r) x = (k, r, x.0, x.1)
    stands_by z w f (InService k r) x = (k, r, x.0, x.1)

    receives : (z : Configuration) (f : FutureShape) → IsSound z → status_of z n ≡ Awaits f → find future_cmp f z.futures ≡ None → Receives z f
    receives z f sz st none =
        let x = waits_are_found z n f sz st none in
        let y = waits_are_so z n x.0.0 x.0.1 sz x.1 in
        let same : y.0 ≡ f = ap (λ u. elim u [ Awaits g ↦ g | _ ↦ f ]) (sym y.1 ∙ st) in
        (x.0.0, ap name_by x.1, subst (λ g. (k : ℕ) × (r : RequestShape) × Stands z x.0.0 k r × (r.future ≡ g)) same (stands_by z x.0.0 y.0 x.0.1 y.4))

    -- another fills no future that it does not have to answer
    unfilled_by : (f : FutureShape) (e : Effect) → Took c m e → answers_at c m f ≡ 0 → find future_cmp f c.futures ≡ None → (o : Option (FutureShape × ParcelShape)) → e.filled ≡ o → find future_cmp f (put_some future_cmp o c.futures) ≡ None
    unfilled_by f e t zero none None eq = none
    unfilled_by f e t zero none (Some z) eq = ⊎_elim
        (λ same.
        let one = filled_held (requests_of c m) (at_name c m) (face_of e.own) e.filled t.facts.holding z eq in
        let by : answers_at c m f ≡ holds (mark z.0) (at_name c m) = answers_by f (find name_cmp m c.activities) ∙ ap (λ g. holds (mark g) (at_name c m)) same in
        absurd (omega (arith, one, by, zero)))
        (λ differ. Maps.find_other future_cmp future_total future_same f z.0 z.1 c.futures differ ∙ none)
        (future_case f z.0)

    -- while it is another that steps than who has to answer it, the future stays unfilled
    unfilled_after : (f : FutureShape) → IsBegun c f → find future_cmp f c.futures ≡ None → (x : Receives c f) → m ≢ x.0 → find future_cmp f d.futures ≡ None
    unfilled_after f begun none x differs =
        let once = stands_once c s f begun in
        let target = (once.alone x.0 x.2.0 x.2.1 x.2.2 x.2.3).0 in
        let y = step_taken (Some lists) c m d h in
        ap (λ z. find future_cmp f z.futures) (sym y.2) ∙ unfilled_by f y.0 (took (Some lists) c m y.0 (reached_sound program c reached) y.1) (once.nowhere m (λ q. differs (q ∙ sym target))) none y.0.filled refl

    -- and the same one has to answer it
    receiver_after : (f : FutureShape) → IsBegun d f → (x : Receives c f) (z : Receives d f) → z.0 ≡ x.0
    receiver_after f begun x z =
        let once = stands_once d t f begun in
        let y = step_taken (Some lists) c m d h in
        let there : Stands d x.0 x.2.0 x.2.1 = subst (λ u. Stands u x.0 x.2.0 x.2.1) y.2 (stays c m y.0 x.0 x.2.0 x.2.1 x.2.2) in
        (once.alone z.0 z.2.0 z.2.1 z.2.2 z.2.3).0 ∙ sym (once.alone x.0 x.2.0 x.2.1 there x.2.3).0

    stays_for : (f : FutureShape) → intent_in c n ≡ Rests (Awaits f) → find future_cmp f c.futures ≡ None → (x : Receives c f) → Stays
    stays_for f e none x =
        let st : status_of c n ≡ Awaits f = ap status_of_intent e in
        let differs : m ≢ x.0 = λ q. other (wants_as c a (Rests (Awaits f)) is e ∙ x.1 ∙ ap Some (sym q)) in
        let unfilled = unfilled_after f ((sound_intents c s).awaited n f st) none x differs in
        let later = awaiting_stays program c d m n a f it back is unfilled st in
        let z = receives d f t later unfilled in
        rest_stays a (Awaits f) (Awaits f) is e (rests (intent_in d n) (Awaits f) refl later) (z.1 ∙ ap Some (receiver_after f ((sound_intents d t).awaited n f later) x z) ∙ sym x.1)

    stays_unfilled : (f : FutureShape) → intent_in c n ≡ Rests (Awaits f) → find future_cmp f c.futures ≡ None → Stays
    stays_unfilled f e none = stays_for f e none (receives c f s (ap status_of_intent e) none)

    stays_filled : (f : FutureShape) (p : ParcelShape) → intent_in c n ≡ Rests (Awaits f) → find future_cmp f c.futures ≡ Some p → Stays
    stays_filled f p e filled =
        let st : status_of c n ≡ Awaits f = ap status_of_intent e in
        let x = cycles_stay program c d m n a f it back is (ap is_some filled) st in
        let v = is_there (find future_cmp x.0 d.futures) x.1 in
        rest_stays a (Awaits f) (Awaits x.0) is e (rests (intent_in d n) (Awaits x.0) refl x.2) (none_waited d x.0 v.0 x.2 v.1 ∙ sym (none_waited c f p st filled))

    stays_awaiting : (f : FutureShape) → intent_in c n ≡ Rests (Awaits f) → (o : Option ParcelShape) → find future_cmp f c.futures ≡ o → Stays
    stays_awaiting f e None none = stays_unfilled f e none
    stays_awaiting f e (Some p) filled = stays_filled f p e filled

    -- who intends to enter something in a log

    abbrev effect_by : Configuration → Option (Name × ReceptionShape) → Option Name
    effect_by z o = elim o [ None ↦ None | Some x ↦ next_enterer lists z x.0 ]

    there_to_log : (e : Effect) → intent_in c n ≡ Acts e → (z : Name × ReceptionShape) → e.logged ≡ Some z → IsThere c z.0
    there_to_log e acts z logged =
        let x = step_taken None c n _ ((sound_intents c s).step n e acts) in
        let same : x.0 ≡ e = acts_is (sym x.1.intends ∙ acts) in
        logged_there None c n x.0 x.1 z (ap (λ u. u.logged) same ∙ logged)

    stays_held : (e : Effect) → intent_in c n ≡ Acts e → (o : Option (Name × ReceptionShape)) → e.logged ≡ o → Stays
    stays_held e acts None logged = none_true (sym (held_back (Some lists) c n e acts rests_here) ∙ ap (may_log (Some lists) c) logged)
    stays_held e acts (Some z) logged = ⊎_elim
        (λ same.
        let quiet : IsPoll n e → requests_of d n ≡ requests_of c n = λ poll. requests_stay lists c d m n h (subst (λ k. log_of d k ≡ log_of c k) (ap (λ u. u.0) (some_is (sym logged ∙ poll))) same) in
        let later = intends_stay program c d m n e it back quiet acts in (
          others_stay_next program (Some lists) c d m n e z it back acts logged (there_to_log e acts z logged) same quiet rests_here,
          wants_as d a (Acts e) (others_stay program c d m n a it back is) later
              ∙ ap (effect_by d) logged ∙ ap (λ l. enterer_of z.0 (reception_at (log_in lists z.0) (length l))) same ∙ sym (ap (effect_by c) logged)
              ∙ sym (wants_as c a (Acts e) is acts),
        ))
        (λ next. absurd (other (wants_as c a (Acts e) is acts ∙ ap (effect_by c) logged ∙ next)))
        (log_case lists c d m z.0 h)

    by_intent : (p : Intent) → intent_in c n ≡ p → Stays
    by_intent (Acts e) is = stays_held e is e.logged refl
    by_intent (Rests Done) is = stays_done is
    by_intent (Rests Serving) is = stays_serving is
    by_intent (Rests Running) is = absurd (none_rests_running c n is)
    by_intent (Rests (Awaits f)) is = stays_awaiting f is (find future_cmp f c.futures) refl
    by_intent (Rests (Faulted fault)) is = stays_faulted fault is

  stays_all : wanted lists c n ≢ Some m → (o : Option Activity) → find name_cmp n c.activities ≡ o → Stays
  stays_all other None none = absent none other
  stays_all other (Some a) is = by_intent a is other (intent_in c n) refl

pub wants_stay : WantsStay
wants_stay program lists c d n m reached rests h apart other = stays_all program lists c d n m reached rests h apart other (find name_cmp n c.activities) refl
