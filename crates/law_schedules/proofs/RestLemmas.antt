-- Who rests beside a step, and is not woken, rests still.
use Rattle.std.specs.Prelude.{◌≡◌, ◌≢◌, ◌⊎◌, ◌&&◌, ◌||◌, Bool, true, false, List, [], ◌∷◌, ◌++◌, Option, Some, None, length, is_some}
use Rattle.std.proofs.Common.{refl, sym, ap, subst, ◌∙◌, inl, inr, ⊎_elim}
use Rattle.std.proofs.lemmas.Bool.{and_right, false_from_ne_true}
use Rattle.std.proofs.lemmas.List.{append-nil}
use Rattle.std.specs.FinMap.{find}
use Rattle.asp_model.specs.Names.{Name, FutureShape, name_cmp, future_cmp}
use Rattle.asp_model.specs.Parcel.{ParcelShape}
use Rattle.asp_model.specs.Term.{Tree, has_text}
use Rattle.asp_model.specs.Configuration.{RequestShape, ReceptionShape, From, Poll, Activity, Configuration, or_none, requests_of, log_of}
use Rattle.asp_model.specs.Intent.{StatusShape, Done, Serving, Running, Awaits, Faulted, Intent, Acts, Rests, Effect}
use Rattle.asp_model.specs.Step.{ListsShape, intent_in, put_some, with_last, with_effect, may_log, is_next, reception_at, step}
use Rattle.asp_model.specs.Status.{status_of_intent, status_of, is_running, is_awaiting}
use Rattle.asp_model.specs.Replay.{log_in}
use Rattle.law_steps.specs.Reached.{IsReached, IsAt, IsThere, IsStep}
use Rattle.law_steps.specs.Waking.{has_wanted, labels_wanted}
use Rattle.law_schedules.specs.Schedules.{WaitsFor, IsSentTo, IsLoggedTo, IsOf, IsFilledBy, IsNextIn}
use Rattle.law_steps.proofs.NameLemmas.{name_total, name_same, name_case, reception_is}
use Rattle.law_chases.proofs.FutureLemmas.{some_is, future_case, future_total, future_same, none_true, no_some, true_false}
use Rattle.law_chases.proofs.MapLemmas as Maps
use Rattle.law_steps.proofs.StepLemmas.{step_taken, held_back, holds_back}
use Rattle.law_steps.proofs.FrameLemmas.{intends_stay, polls_stay}
use Rattle.law_steps.specs.Steps.{IsPoll}
use Rattle.law_steps.proofs.FactLemmas.{IsLogged, acts_facts}
use Rattle.law_steps.proofs.LinkedLemmas.{targets_are_there}
use Rattle.law_steps.proofs.WakeLemmas.{none_rests_running, done_stays, fault_stays, serving_stays, awaiting_stays, cycles_stay, others_stay_next}
use Rattle.law_schedules.proofs.EffectLemmas.{nobody_receives, others_receive_none, targets_receive}

-- Statuses

-- the future of one that awaits
abbrev awaited_by : FutureShape → StatusShape → FutureShape
awaited_by f (Awaits g) = g
awaited_by f s = f

same_awaited : (f g : FutureShape) → Awaits f ≡ Awaits g → f ≡ g
same_awaited f g h = ap (awaited_by f) h

-- who does not run does not step
rests_step : (lists : Option ListsShape) (d : Configuration) (m : Name) (s : StatusShape) → is_running s ≡ false → status_of d m ≡ s → step lists d m ≡ None
rests_step lists d m s not is = by_step (step lists d m) refl
  where
    by_step : (o : Option Configuration) → step lists d m ≡ o → o ≡ None
    by_step None e = refl
    by_step (Some x) e =
        let y = step_taken lists d m x e in
        none_true (sym not ∙ ap is_running (sym is ∙ ap status_of_intent y.1.intends))

-- Sends and fills

abbrev is_poll : ReceptionShape → Bool
is_poll (From n) = false
is_poll Poll = true

-- what is logged by one that acts
abbrev logged_by : Effect → Intent → Option (Name × ReceptionShape)
logged_by e (Acts g) = g.logged
logged_by e (Rests s) = e.logged

same_target : (z : Name × RequestShape) (k : Name) (r : RequestShape) → Some z ≡ Some (k, r) → z.0 ≡ k
same_target z k r h = ap (λ o. elim o [ None ↦ k | Some y ↦ y.0 ]) h

-- it is sent to, or it is not
sent_to : (e : Effect) (k : Name) → IsSentTo e k ⊎ ((r : RequestShape) → e.sent ≢ Some (k, r))
sent_to e k = by_sent e.sent refl
  where
    by_sent : (o : Option (Name × RequestShape)) → e.sent ≡ o → IsSentTo e k ⊎ ((r : RequestShape) → e.sent ≢ Some (k, r))
    by_sent None is = inr (λ r h. no_some (sym is ∙ h))
    by_sent (Some z) is = ⊎_elim
        (λ p. inl (z.1, is ∙ ap (λ q. Some (q, z.1)) p))
        (λ a. inr (λ r h. a (same_target z k r (sym is ∙ h))))
        (name_case z.0 k)

-- who is not sent to receives nothing
unsent_same : (c : Configuration) (n k : Name) (e : Effect) → ((r : RequestShape) → e.sent ≢ Some (k, r)) → requests_of (with_effect n e c) k ≡ requests_of c k
unsent_same c n k e not = by_sent e.sent refl
  where
    by_sent : (o : Option (Name × RequestShape)) → e.sent ≡ o → requests_of (with_effect n e c) k ≡ requests_of c k
    by_sent None is = nobody_receives c n k e is
    by_sent (Some z) is = others_receive_none c n k z.0 e z.1 is (λ p. not z.1 (is ∙ ap (λ q. Some (q, z.1)) (sym p)))

-- it logs there, or it does not
logged_to : (e : Effect) (k : Name) → IsLoggedTo e k ⊎ ((x : ReceptionShape) → e.logged ≢ Some (k, x))
logged_to e k = by_logged e.logged refl
  where
    by_logged : (o : Option (Name × ReceptionShape)) → e.logged ≡ o → IsLoggedTo e k ⊎ ((x : ReceptionShape) → e.logged ≢ Some (k, x))
    by_logged None is = inr (λ x h. no_some (sym is ∙ h))
    by_logged (Some z) is = ⊎_elim
        (λ p. inl (z.1, is ∙ ap (λ q. Some (q, z.1)) p))
        (λ a. inr (λ x h. a (ap (λ o. elim o [ None ↦ k | Some y ↦ y.0 ]) (sym is ∙ h))))
        (name_case z.0 k)

-- where it does not log, the log is as before
unlogged_same : (c : Configuration) (n k : Name) (e : Effect) → ((x : ReceptionShape) → e.logged ≢ Some (k, x)) → log_of (with_effect n e c) k ≡ log_of c k
unlogged_same c n k e not = by_logged e.logged refl
  where
    by_logged : (o : Option (Name × ReceptionShape)) → e.logged ≡ o → or_none (find name_cmp k (with_last e.logged c.logs)) ≡ log_of c k
    by_logged None is = ap (λ o. or_none (find name_cmp k (with_last o c.logs))) is
    by_logged (Some z) is = ap (λ o. or_none (find name_cmp k (with_last o c.logs))) is
        ∙ ap or_none (Maps.find_other name_cmp name_total name_same k z.0 (log_of c z.0 ++ z.1 ∷ []) c.logs (λ p. not z.1 (is ∙ ap (λ q. Some (q, z.1)) (sym p))))

-- a send is logged where it goes
sent_logs : (n k : Name) (e : Effect) → IsLogged n e.sent e.logged → IsSentTo e k → IsLoggedTo e k
sent_logs n k e logged to = (From n, subst (λ o. IsLogged n o e.logged) to.1 logged)

-- what an effect logs is of who steps
logged_of : (n : Name) (o : Option (Name × RequestShape)) (x : Name × ReceptionShape) → IsLogged n o (Some x) → IsOf n x.0 x.1
logged_of n None x (inl h) = no_some (sym h)
logged_of n None x (inr h) = subst (λ y. IsOf n y.0 y.1) (sym (some_is h)) refl
logged_of n (Some z) x h = subst (λ y. IsOf n y.0 y.1) (sym (some_is h)) refl

-- what is not filled stays so, where the effect does not fill it
unfilled_after : (c : Configuration) (n : Name) (e : Effect) (f : FutureShape) → find future_cmp f c.futures ≡ None → (IsFilledBy e f → ⊥) → find future_cmp f (with_effect n e c).futures ≡ None
unfilled_after c n e f none not = by_filled e.filled refl
  where
    by_filled : (o : Option (FutureShape × ParcelShape)) → e.filled ≡ o → find future_cmp f (put_some future_cmp e.filled c.futures) ≡ None
    by_filled None is = ap (λ o. find future_cmp f (put_some future_cmp o c.futures)) is ∙ none
    by_filled (Some z) is = ⊎_elim
        (λ p. absurd (not (z.1, is ∙ ap (λ q. Some (q, z.1)) (sym p))))
        (λ a. ap (λ o. find future_cmp f (put_some future_cmp o c.futures)) is ∙ Maps.find_other future_cmp future_total future_same f z.0 z.1 c.futures a ∙ none)
        (future_case f z.0)

-- Who is next

next_refused : (a b : Bool) → a ≡ true → (a && b) ≡ false → b ≡ false
next_refused true b p h = h
next_refused false b p h = none_true p

-- who was not next, and is not in the list now, is not next
still_not_next : (lists : Option ListsShape) (c d : Configuration) (k m : Name) (x : ReceptionShape) → IsOf m k x → is_next lists c k x ≡ false → (IsNextIn lists d k m → ⊥) → is_next lists d k x ≡ false
still_not_next None c d k m x its not uncalled = not
still_not_next (Some lists) c d k m x its not uncalled =
    let o : Option ReceptionShape = reception_at (log_in lists k) (length (log_of d k)) in
    false_from_ne_true (is_next (Some lists) d k x) (λ h. uncalled (x, reception_is x o h, its))

-- where it logs somebody is there
logged_are_there : (program : Tree) (c : Configuration) (n : Name) (e : Effect) (x : Name × ReceptionShape) → IsReached program c → intent_in c n ≡ Acts e → e.logged ≡ Some x → IsThere c x.0
logged_are_there program c n e x reached intends is = by_sent e.sent refl (acts_facts c n e intends).1.logged
  where
    by_sent : (o : Option (Name × RequestShape)) → e.sent ≡ o → IsLogged n o e.logged → IsThere c x.0
    by_sent None none (inl h) = no_some (sym h ∙ is)
    by_sent None none (inr h) = subst (λ k. IsThere c k) (ap (λ z. z.0) (some_is (sym h ∙ is))) (acts_facts c n e intends).0
    by_sent (Some z) sent h = subst (λ k. IsThere c k) (ap (λ z. z.0) (some_is (sym h ∙ is))) (targets_are_there program c n e z reached intends sent)

-- Who is beside a step

-- one that is beside a step and cannot step does not after it, and waits for what it waited for
pub record StillRests (lists : Option ListsShape) (c d : Configuration) (m : Name) (noted : FutureShape → Name → Bool) : Type 0 where
  pub none : step lists d m ≡ None
  pub waits : (f : FutureShape) → WaitsFor d m f → noted f m ≡ true
  pub serves : status_of d m ≡ Serving → status_of c m ≡ Serving
  pub acts : (g : Effect) → intent_in d m ≡ Acts g → (h : Effect) × (intent_in c m ≡ Acts h) × (h.logged ≡ g.logged)

-- it receives what it does not ask for, or nothing
pub record Receives (c d : Configuration) (m : Name) (a : Activity) : Type 0 where
  pub more : List RequestShape
  pub grown : requests_of d m ≡ requests_of c m ++ more
  pub unwanted : has_wanted (labels_wanted a) more ≡ false

module _ (program : Tree) (lists : Option ListsShape) (c : Configuration) (n m : Name) (e : Effect) (a : Activity) (noted : FutureShape → Name → Bool) (reached : IsReached program c) (intends_it : intent_in c n ≡ Acts e) (steps : step lists c n ≡ Some (with_effect n e c)) (apart : m ≢ n) (is : IsAt c m a)
    (unasked : (r : RequestShape) → e.sent ≡ Some (m, r) → status_of c m ≡ Serving → has_text r.label (labels_wanted a) ≡ false)
    (uncalled : (g : Effect) (x : Name × ReceptionShape) → intent_in c m ≡ Acts g → g.logged ≡ Some x → IsLoggedTo e x.0 → IsNextIn lists (with_effect n e c) x.0 m → ⊥)
    (unfilled : (f : FutureShape) → IsFilledBy e f → noted f m ≡ true → ⊥) (waits : (f : FutureShape) → WaitsFor c m f → noted f m ≡ true) (none : step lists c m ≡ None) where
  abbrev d : Configuration
  d = with_effect n e c

  abbrev stepped : IsStep program c (with_effect n e c) n
  stepped = record { lists = lists; reached = reached; steps = steps }

  -- with a status that neither runs nor awaits
  quiet : (s : StatusShape) → is_running s ≡ false → is_awaiting s ≡ false → status_of c m ≡ s → status_of d m ≡ s → StillRests lists c d m noted
  quiet s not nor was st = record {
    none = rests_step lists d m s not st;
    waits = λ f w. none_true (sym nor ∙ ap is_awaiting (sym st ∙ w.0));
    serves = λ h. was ∙ sym st ∙ h;
    acts = λ g h. none_true (sym not ∙ ap is_running (sym st ∙ ap status_of_intent h));
  }

  -- at a future that it awaits after the step
  awaiting : (g : FutureShape) → ((find future_cmp g d.futures ≡ None) → noted g m ≡ true) → status_of d m ≡ Awaits g → StillRests lists c d m noted
  awaiting g note st = record {
    none = rests_step lists d m (Awaits g) refl st;
    waits = λ f w.
        let same : g ≡ f = same_awaited g f (sym st ∙ w.0) in
        subst (λ h. (find future_cmp h d.futures ≡ None → noted h m ≡ true)) same note w.1;
    serves = λ h. none_true (ap is_awaiting (sym h ∙ st));
    acts = λ g h. none_true (ap is_running (sym st ∙ ap status_of_intent h));
  }

  awaits_by : (f : FutureShape) (o : Option ParcelShape) → find future_cmp f c.futures ≡ o → status_of c m ≡ Awaits f → StillRests lists c d m noted
  awaits_by f None unfilled_yet st =
      let note = waits f (st, unfilled_yet) in
      let still = unfilled_after c n e f unfilled_yet (λ by. unfilled f by note) in
      awaiting f (λ z. note) (awaiting_stays program c d n m a f stepped apart is still st)
  awaits_by f (Some p) filled st =
      let x = cycles_stay program c d n m a f stepped apart is (ap is_some filled) st in
      awaiting x.0 (λ z. absurd (true_false (is_some (find future_cmp x.0 d.futures)) x.1 (ap is_some z))) x.2

  its_log : IsLogged n e.sent e.logged
  its_log = (acts_facts c n e intends_it).1.logged

  -- who polls, and at whom nothing is logged, has received nothing
  quiet_there : (g : Effect) (x : Name × ReceptionShape) → g.logged ≡ Some x → ((y : ReceptionShape) → e.logged ≢ Some (x.0, y)) → IsPoll m g → requests_of d m ≡ requests_of c m
  quiet_there g x logged other poll =
      let home : x.0 ≡ m = ap (λ z. z.0) (some_is (sym logged ∙ poll)) in
      unsent_same c n m e (λ r h. let to = sent_logs n m e its_log (r, h) in other to.0 (to.1 ∙ ap (λ k. Some (k, to.0)) (sym home)))

  -- it logs the same after the step
  logs_still : (g : Effect) → intent_in c m ≡ Acts g → (h : Effect) × (intent_in d m ≡ Acts h) × (g.logged ≡ h.logged)
  logs_still g intends = by_logged (acts_facts c m g intends).1.logged
    where
      by_sent : (o : Option (Name × RequestShape)) → IsLogged m o g.logged → (IsPoll m g → ⊥) ⊎ IsPoll m g
      by_sent None (inl h) = inl (λ p. no_some (sym h ∙ p))
      by_sent None (inr h) = inr h
      by_sent (Some z) h = inl (λ p. no_poll (ap (λ z. z.1) (some_is (sym h ∙ p))))
        where
          no_poll : From m ≡ Poll → ⊥
          no_poll q = none_true (ap is_poll q)

      by_logged : IsLogged m g.sent g.logged → (h : Effect) × (intent_in d m ≡ Acts h) × (g.logged ≡ h.logged)
      by_logged l = ⊎_elim
          (λ no. (g, intends_stay program c d n m g stepped apart (λ p. absurd (no p)) intends, refl))
          (λ poll. let y = polls_stay program c d n m g stepped apart poll intends in (y.0, y.1, poll ∙ sym y.2))
          (by_sent g.sent l)

  refused : (g : Effect) → intent_in c m ≡ Acts g → (o : Option (Name × ReceptionShape)) → g.logged ≡ o → step lists d m ≡ None
  refused g intends None sent = absurd (true_false (may_log lists c g.logged) (ap (may_log lists c) sent) (held_back lists c m g intends none))
  refused g intends (Some x) sent =
      let there = logged_are_there program c m g x reached intends sent in
      let before : may_log lists c (Some x) ≡ false = ap (may_log lists c) (sym sent) ∙ held_back lists c m g intends none in
      let not : is_next lists c x.0 x.1 ≡ false = next_refused (is_some (find name_cmp x.0 c.activities)) (is_next lists c x.0 x.1) there before in
      ⊎_elim
      (λ to.
      let its = logged_of m g.sent x (subst (IsLogged m g.sent) sent (acts_facts c m g intends).1.logged) in
      let next = still_not_next lists c d x.0 m x.1 its not (uncalled g x intends sent to) in
      let may : may_log lists d (Some x) ≡ false = and_right (is_some (find name_cmp x.0 d.activities)) (is_next lists d x.0 x.1) next in
      let y = logs_still g intends in
      holds_back lists d m y.0 y.1 (ap (may_log lists d) (sym y.2 ∙ sent) ∙ may))
      (λ other. others_stay_next program lists c d n m g x stepped apart intends sent there (unlogged_same c n x.0 e other) (quiet_there g x sent other) none)
      (logged_to e x.0)

  -- what it receives at a `serve`
  received : status_of c m ≡ Serving → Receives c d m a
  received st = ⊎_elim
      (λ to. record {
        more = to.0 ∷ [];
        grown = targets_receive c n m e to.0 to.1;
        unwanted = ap (λ (b : Bool). b || false) (unasked to.0 to.1 st);
      })
      (λ other. record { more = []; grown = unsent_same c n m e other ∙ sym (append-nil (requests_of c m)); unwanted = refl })
      (sent_to e m)

  serving : status_of c m ≡ Serving → StillRests lists c d m noted
  serving st =
      let x : Receives c d m a = received st in
      quiet Serving refl refl st (serving_stays program c d n m a x.more stepped apart is x.grown x.unwanted st)

  by_intent : (p : Intent) → intent_in c m ≡ p → StillRests lists c d m noted
  by_intent (Acts g) intends =
      let y = logs_still g intends in
      record {
        none = refused g intends g.logged refl;
        waits = λ f w. none_true (ap is_awaiting (sym (ap status_of_intent y.1) ∙ w.0));
        serves = λ h. none_true (ap is_running (sym h ∙ ap status_of_intent y.1));
        acts = λ h i. (g, intends, y.2 ∙ ap (logged_by y.0) (sym y.1 ∙ i));
      }
  by_intent (Rests Done) intends = quiet Done refl refl (ap status_of_intent intends) (done_stays program c d n m a stepped apart is (ap status_of_intent intends))
  by_intent (Rests Serving) intends = serving (ap status_of_intent intends)
  by_intent (Rests Running) intends = absurd (none_rests_running c m intends)
  by_intent (Rests (Awaits f)) intends = awaits_by f (find future_cmp f c.futures) refl (ap status_of_intent intends)
  by_intent (Rests (Faulted fault)) intends = quiet (Faulted fault) refl refl (ap status_of_intent intends) (fault_stays program c d n m a fault stepped apart is (ap status_of_intent intends))

  -- who does not step before does not step after, and is noted at the unfilled future that it awaits
  pub rests_still : StillRests lists c (with_effect n e c) m noted
  rests_still = by_intent (intent_in c m) refl
