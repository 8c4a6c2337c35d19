-- What is seen of an activity says whether it steps under given logs, and whom it needs else.
use Rattle.std.proofs.Common.{◌≡◌, ◌-◌, ◌&&◌, ℕ, suc, Bool, true, false, List, [], ◌∷◌, Option, Some, None, Bor, length, take, refl, sym, ap, subst, ◌∙◌, arith}
use Rattle.std.specs.FinMap.{find}
use Rattle.asp_model.specs.declared.name.ActivityName.{ActivityName}
use Rattle.asp_model.specs.declared.name.FutureName.{FutureName}
use Rattle.asp_model.specs.Names.{Name, FutureShape, name_cmp}
use Rattle.asp_model.specs.Term.{Tree}
use Rattle.asp_model.specs.Chase.{chase}
use Rattle.asp_model.specs.Configuration.{Activity, Configuration, From, Poll, ReceptionShape, RequestShape, requests_of}
use Rattle.asp_model.specs.Intent.{Acts, Awaits, Done, Effect, Faulted, Intent, Rests, Running, Serving, StatusShape, intent}
use Rattle.asp_model.specs.Shapes.{future_shape}
use Rattle.asp_model.specs.Status.{status_of}
use Rattle.asp_model.specs.Step.{ListsShape, intent_in, is_next, may_log}
use Rattle.def_journals.specs.Journals.{number_of}
use Rattle.law_chases.proofs.FutureLemmas.{no_some, some_is}
use Rattle.law_steps.specs.Kept.{Stands}
use Rattle.law_steps.specs.Reached.{IsAt, IsReached, IsThere}
use Rattle.law_steps.specs.Sound.{IsSound}
use Rattle.law_steps.specs.Steps.{IsPoll}
use Rattle.law_steps.proofs.FactLemmas.{IsLogged, acts_facts}
use Rattle.law_steps.proofs.StepLemmas.{holds_back, takes_step}
use Rattle.law_waits.specs.Laws.{StandsSo}
use Rattle.law_waits.specs.Waits.{InService, Pending, Standing, wait_of, waited}
use Rattle.law_waits.proofs.CauseLemmas.{waits_are_so}
use Rattle.law_cuts.specs.Wants.{creator_of, next_enterer, wanted, wanted_by_intent, wanted_by_status}
use Rattle.step_activity.specs.Outlook.{IsOutlook, IsTo}
use Rattle.step_parts.specs.declared.outlook.Outlook.TheVariants as outlook
use Rattle.replay_one.proofs.LookLemmas.{resting, target_there}
use Rattle.run_waits.specs.Targets.{AreTold, target_at}
use Rattle.run_waits.specs.declared.receipts.Receipts.{Receipts}
use Rattle.run_waits.specs.Turns.{IsEntering, IsTurn, IsWanted}
use Rattle.run_waits.specs.declared.cuts.turns.Turn.TheVariants as turn

-- Names

pub creator_is : (n : Name) → take (length n - 1) n ≡ creator_of n
creator_is [] = refl
creator_is (k ∷ []) = refl
creator_is (k ∷ j ∷ ks) =
    let more : length (k ∷ j ∷ ks) - 1 ≡ suc (length (j ∷ ks) - 1) = omega arith in
    ap (λ m. take m (k ∷ j ∷ ks)) more ∙ ap (λ l. k ∷ l) (creator_is (j ∷ ks))

-- What it does

intent_of_steps : (n : Name) (p : Intent) → IsOutlook n p outlook.Steps → (e : Effect) × (p ≡ Acts e) × (e.logged ≡ None)
intent_of_steps n (Acts e) h = (e, refl, h.1)
intent_of_steps n (Rests Done) h = absurd h
intent_of_steps n (Rests Serving) h = absurd h
intent_of_steps n (Rests Running) h = absurd h
intent_of_steps n (Rests (Awaits f)) h = absurd h
intent_of_steps n (Rests (Faulted x)) h = absurd h

sent_to : (s : Option (Name × RequestShape)) (m : Name) → IsTo s m → (x : Name × RequestShape) × (s ≡ Some x) × (x.0 ≡ m)
sent_to None m h = absurd h
sent_to (Some x) m h = (x, refl, h)

intent_of_sends : (n : Name) (p : Intent) (to : Bor ActivityName) → IsOutlook n p (outlook.Sends to) → (e : Effect) × (p ≡ Acts e) × (x : Name × RequestShape) × (e.sent ≡ Some x) × (x.0 ≡ to.now)
intent_of_sends n (Acts e) to h = let s = sent_to e.sent to.now h in (e, refl, s.0, s.1, s.2)
intent_of_sends n (Rests Done) to h = absurd h
intent_of_sends n (Rests Serving) to h = absurd h
intent_of_sends n (Rests Running) to h = absurd h
intent_of_sends n (Rests (Awaits f)) to h = absurd h
intent_of_sends n (Rests (Faulted x)) to h = absurd h

intent_of_polls : (n : Name) (p : Intent) → IsOutlook n p outlook.Polls → (e : Effect) × (p ≡ Acts e) × IsPoll n e
intent_of_polls n (Acts e) h = (e, refl, h)
intent_of_polls n (Rests Done) h = absurd h
intent_of_polls n (Rests Serving) h = absurd h
intent_of_polls n (Rests Running) h = absurd h
intent_of_polls n (Rests (Awaits f)) h = absurd h
intent_of_polls n (Rests (Faulted x)) h = absurd h

pub sends_enter : (program : Tree) (c : Configuration) (n : Name) (to : Bor ActivityName) → IsReached program c → IsOutlook n (intent_in c n) (outlook.Sends to) → IsEntering c n to.now (From n)
sends_enter program c n to reached o =
    let p = intent_of_sends n (intent_in c n) to o in
    let logged : p.0.logged ≡ Some (p.2.0, From n) = subst (λ (s : Option (Name × RequestShape)). IsLogged n s p.0.logged) p.3 (acts_facts c n p.0 p.1).1.logged in
    record { effect = p.0; intends = p.1; logged = logged ∙ ap (λ (m : Name). Some (m, From n)) p.4; there = target_there program c n to reached o }

pub polls_enter : (c : Configuration) (n : Name) → IsThere c n → IsOutlook n (intent_in c n) outlook.Polls → IsEntering c n n Poll
polls_enter c n there o = let p = intent_of_polls n (intent_in c n) o in record { effect = p.0; intends = p.1; logged = p.2; there = there }

-- who acts is there
pub acting_there : (c : Configuration) (n : Name) (e : Effect) → intent_in c n ≡ Acts e → (a : Activity) × IsAt c n a
acting_there c n e intends = by (find name_cmp n c.activities) refl
  where
    by : (o : Option Activity) → find name_cmp n c.activities ≡ o → (a : Activity) × IsAt c n a
    by (Some a) is = (a, is)
    by None is =
        let rests : Rests Done ≡ Acts e = sym (ap (λ (q : Option Activity). elim q [ None ↦ Rests Done | Some a ↦ intent (chase c.futures) (requests_of c n) n a ]) is) ∙ intends in
        absurd cc

-- Turns

module _ (lists : ListsShape) (c : Configuration) (ns : List Name) (n : Name) where
  abbrev want_by : Option Activity → Option Name
  want_by o = elim o [ None ↦ Some (creator_of n) | Some a ↦ wanted_by_intent lists c n (intent_in c n) ]

  wants_as : (a : Activity) (p : Intent) → IsAt c n a → intent_in c n ≡ p → wanted lists c n ≡ wanted_by_intent lists c n p
  wants_as a p is e = ap want_by is ∙ ap (wanted_by_intent lists c n) e

  pub steps_turn : IsOutlook n (intent_in c n) outlook.Steps → IsTurn lists c ns n turn.Steps
  steps_turn o =
      let p = intent_of_steps n (intent_in c n) o in
      (p.0, p.1, takes_step (Some lists) c n p.0 (record { intends = p.1; may = ap (may_log (Some lists) c) p.2 }))

  module _ (m : Name) (x : ReceptionShape) (h : IsEntering c n m x) where
    may_by : (b : Bool) → is_next (Some lists) c m x ≡ b → may_log (Some lists) c h.effect.logged ≡ b
    may_by b turn = ap (may_log (Some lists) c) h.logged ∙ (λ i. h.there i && turn i)

    pub enters_turn : is_next (Some lists) c m x ≡ true → IsTurn lists c ns n turn.Steps
    enters_turn turn = (h.effect, h.intends, takes_step (Some lists) c n h.effect (record { intends = h.intends; may = may_by true turn }))

    pub held_turn : (o : Option ℕ) (a : Activity) → IsAt c n a → is_next (Some lists) c m x ≡ false → IsWanted (next_enterer lists c m) ns o → IsTurn lists c ns n (turn.Wants o)
    held_turn o a is turn w = (
      holds_back (Some lists) c n h.effect h.intends (may_by false turn),
      subst (λ v. IsWanted v ns o) (sym (wants_as a (Acts h.effect) is h.intends ∙ ap (λ l. elim l [ None ↦ None | Some y ↦ next_enterer lists c y.0 ]) h.logged)) w,
    )

  -- it rests with this status
  rests_turn : (o : Option ℕ) (a : Activity) (s : StatusShape) → IsAt c n a → intent_in c n ≡ Rests s → IsWanted (wanted_by_status lists c n s) ns o → IsTurn lists c ns n (turn.Wants o)
  rests_turn o a s is e w = (resting (Some lists) c n s e, subst (λ v. IsWanted v ns o) (sym (wants_as a (Rests s) is e)) w)

  pub serves_turn : (o : Option ℕ) (a : Activity) → IsAt c n a → intent_in c n ≡ Rests Serving → IsWanted (next_enterer lists c n) ns o → IsTurn lists c ns n (turn.Wants o)
  serves_turn o a is e w = rests_turn o a Serving is e w

  pub awaits_turn : (o : Option ℕ) (a : Activity) (f : FutureShape) → IsAt c n a → intent_in c n ≡ Rests (Awaits f) → IsWanted (waited c n) ns o → IsTurn lists c ns n (turn.Wants o)
  awaits_turn o a f is e w = rests_turn o a (Awaits f) is e w

  -- it wants nobody
  pub over_turn : (a : Activity) (s : StatusShape) → IsAt c n a → intent_in c n ≡ Rests s → wanted_by_status lists c n s ≡ None → IsTurn lists c ns n (turn.Wants None)
  over_turn a s is e none = rests_turn None a s is e (λ m p. no_some (sym none ∙ p))

  pub absent_turn : (o : Option ℕ) → find name_cmp n c.activities ≡ None → o ≡ number_of (creator_of n) ns → IsTurn lists c ns n (turn.Wants o)
  absent_turn o none is = (
    resting (Some lists) c n Done (ap (λ (q : Option Activity). elim q [ None ↦ Rests Done | Some a ↦ intent (chase c.futures) (requests_of c n) n a ]) none),
    λ m e. is ∙ ap (λ k. number_of k ns) (some_is (sym (ap want_by none) ∙ e)),
  )

-- Whom it awaits

stands_by : (c : Configuration) (w : Name) (f : FutureShape) (u : Standing) → StandsSo c w f u → (k : ℕ) × (r : RequestShape) × Stands c w k r × (r.future ≡ f)
stands_by c w f (Pending k r) x = (k, r, x.0, x.1)
stands_by c w f (InService k r) x = (k, r, x.0, x.1)

waited_by : (c : Configuration) (n m : Name) → (o : Option (Name × Standing)) → (elim o [ None ↦ None | Some x ↦ Some x.0 ]) ≡ Some m → (s : Standing) × (o ≡ Some (m, s))
waited_by c n m None e = no_some e
waited_by c n m (Some x) e = (x.1, ap (λ k. Some (k, x.1)) (some_is e))

-- whom it waits for received the request of the future
pub waited_told : (c : Configuration) (n m : Name) (f : FutureName) (r : Receipts) → IsSound c → AreTold c r → status_of c n ≡ Awaits (future_shape f) → waited c n ≡ Some m → (z : Name × _) × (target_at r f ≡ Some z) × (z.0 ≡ m)
waited_told c n m f r sound told st w =
    let x = waited_by c n m (wait_of c n) w in
    let y = waits_are_so c n m x.0 sound x.1 in
    let same : y.0 ≡ future_shape f = ap (λ u. elim u [ Awaits g ↦ g | _ ↦ future_shape f ]) (sym y.1 ∙ st) in
    let z = stands_by c m y.0 x.0 y.4 in
    ((m, z.1.label), told f m z.0 z.1 z.2 (z.3 ∙ same), refl)
