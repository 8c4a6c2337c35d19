-- What is seen of an activity says whether it steps.
use Rattle.std.proofs.Common.{◌≡◌, ◌≢◌, ◌≤◌, ◌<◌, ◌&&◌, ℕ, Bool, true, false, List, Option, Some, None, Bor, length, is_some, refl, sym, ap, subst, ◌∙◌, inl, inr, arith}
use Rattle.std.specs.FinMap.{find}
use Rattle.asp_model.specs.declared.name.ActivityName.{ActivityName}
use Rattle.asp_model.specs.declared.name.FutureName.{FutureName}
use Rattle.asp_model.specs.declared.outcome.Fault.{Fault}
use Rattle.asp_model.specs.declared.outcome.Reception.{Reception}
use Rattle.asp_model.specs.Names.{Name, FutureShape, name_cmp}
use Rattle.asp_model.specs.Term.{Tree}
use Rattle.asp_model.specs.Chase.{Values, chase}
use Rattle.asp_model.specs.Configuration as model
use Rattle.asp_model.specs.Configuration.{Configuration, From, Poll, ReceptionShape, RequestShape, log_of, requests_of}
use Rattle.asp_model.specs.Intent.{Effect, Intent, Acts, Rests, StatusShape, Done, Serving, Running, Awaits, Faulted, intent}
use Rattle.asp_model.specs.Step.{ListsShape, is_next, is_reception, may_log, reception_at, same_reception, intent_in, step, with_effect}
use Rattle.asp_model.specs.Status.{status_of, status_of_intent}
use Rattle.asp_model.specs.Replay.{log_in}
use Rattle.asp_model.specs.Shapes.{fault_shape, future_shape, reception_shape}
use Rattle.future_table.specs.Values.{values_of}
use Rattle.law_steps.specs.Reached.{IsReached, IsAt, IsThere}
use Rattle.law_steps.specs.Steps.{IsPoll}
use Rattle.law_steps.proofs.FactLemmas.{IsLogged, acts_facts}
use Rattle.law_steps.proofs.LinkedLemmas.{targets_are_there}
use Rattle.law_chases.proofs.FutureLemmas.{no_some, none_true, some_is}
use Rattle.law_steps.proofs.StepLemmas.{holds_back, takes_step}
use Rattle.step_activity.specs.declared.actor.Actor.{Actor}
use Rattle.step_parts.specs.declared.outlook.Outlook.TheVariants as outlook
use Rattle.step_activity.specs.Actors.{Stands}
use Rattle.step_activity.specs.Outlook.{IsOutlook, IsTo}
use Rattle.law_schedules.specs.Schedules.{IsNextIn, IsOf, RestsIn}
use Rattle.replay_parts.specs.declared.bounds.Next.TheVariants as next
use Rattle.replay_population.specs.declared.population.Population.{Population}
use Rattle.replay_parts.specs.Bounds.{IsNextAt}
use Rattle.step_activity.specs.Passing.{HasPassed, IsPassedFor}
use Rattle.replay_population.specs.Population.{HasPassedIn, IsPopulation, found_in}
use Rattle.step_ends.specs.Activities.{StandsAt}
use Rattle.def_journals.specs.Journals.{number_of}
use Rattle.replay_one.specs.Round.{CanStep, IsTargetOf, Leaves, LogsTo}
use Rattle.replay_population.proofs.PopulationLemmas.{found_stands}
use Rattle.step_ends.proofs.ReportLemmas.{stands_none}

-- Intents by their outlook

steps_intent : (n : Name) (p : Intent) → IsOutlook n p outlook.Steps → (e : Effect) × (p ≡ Acts e) × (e.logged ≡ None)
steps_intent n (Acts e) h = (e, refl, h.1)
steps_intent n (Rests Done) h = absurd h
steps_intent n (Rests Serving) h = absurd h
steps_intent n (Rests Running) h = absurd h
steps_intent n (Rests (Awaits f)) h = absurd h
steps_intent n (Rests (Faulted x)) h = absurd h

sent_to : (o : Option (Name × RequestShape)) (n : Name) → IsTo o n → (x : Name × RequestShape) × (o ≡ Some x) × (x.0 ≡ n)
sent_to None n h = absurd h
sent_to (Some x) n h = (x, refl, h)

sends_intent : (n : Name) (p : Intent) (to : Bor ActivityName) → IsOutlook n p (outlook.Sends to) → (e : Effect) × (p ≡ Acts e) × (x : Name × RequestShape) × (e.sent ≡ Some x) × (x.0 ≡ to.now)
sends_intent n (Acts e) to h = let s = sent_to e.sent to.now h in (e, refl, s.0, s.1, s.2)
sends_intent n (Rests Done) to h = absurd h
sends_intent n (Rests Serving) to h = absurd h
sends_intent n (Rests Running) to h = absurd h
sends_intent n (Rests (Awaits f)) to h = absurd h
sends_intent n (Rests (Faulted x)) to h = absurd h

polls_intent : (n : Name) (p : Intent) → IsOutlook n p outlook.Polls → (e : Effect) × (p ≡ Acts e) × IsPoll n e
polls_intent n (Acts e) h = (e, refl, h)
polls_intent n (Rests Done) h = absurd h
polls_intent n (Rests Serving) h = absurd h
polls_intent n (Rests Running) h = absurd h
polls_intent n (Rests (Awaits f)) h = absurd h
polls_intent n (Rests (Faulted x)) h = absurd h

pub awaits_intent : (n : Name) (p : Intent) (g : Bor FutureName) → IsOutlook n p (outlook.Awaits g) → p ≡ Rests (Awaits (future_shape g.now))
awaits_intent n (Acts e) g h = absurd h
awaits_intent n (Rests Done) g h = absurd h
awaits_intent n (Rests Serving) g h = absurd h
awaits_intent n (Rests Running) g h = absurd h
awaits_intent n (Rests (Awaits f)) g h = ap (λ k. Rests (Awaits k)) h
awaits_intent n (Rests (Faulted x)) g h = absurd h

pub faulted_intent : (n : Name) (p : Intent) (y : Fault) → IsOutlook n p (outlook.Faulted y) → p ≡ Rests (Faulted (fault_shape y))
faulted_intent n (Acts e) y h = absurd h
faulted_intent n (Rests Done) y h = absurd h
faulted_intent n (Rests Serving) y h = absurd h
faulted_intent n (Rests Running) y h = absurd h
faulted_intent n (Rests (Awaits f)) y h = absurd h
faulted_intent n (Rests (Faulted x)) y h = ap (λ k. Rests (Faulted k)) h

pub serving_intent : (n : Name) (p : Intent) → IsOutlook n p outlook.Serving → p ≡ Rests Serving
serving_intent n (Acts e) h = absurd h
serving_intent n (Rests Done) h = absurd h
serving_intent n (Rests Serving) h = refl
serving_intent n (Rests Running) h = absurd h
serving_intent n (Rests (Awaits f)) h = absurd h
serving_intent n (Rests (Faulted x)) h = absurd h

pub done_intent : (n : Name) (p : Intent) → IsOutlook n p outlook.Done → p ≡ Rests Done
done_intent n (Acts e) h = absurd h
done_intent n (Rests Done) h = refl
done_intent n (Rests Serving) h = absurd h
done_intent n (Rests Running) h = absurd h
done_intent n (Rests (Awaits f)) h = absurd h
done_intent n (Rests (Faulted x)) h = absurd h

-- Who rests

abbrev stepped : Option ListsShape → Configuration → Name → Intent → Option Configuration
stepped lists c n p = elim p [
  | Rests status ↦ None
  | Acts e ↦ elim (may_log lists c e.logged) [ true ↦ Some (with_effect n e c) | false ↦ None ]
]

pub resting : (lists : Option ListsShape) (c : Configuration) (n : Name) (s : StatusShape) → intent_in c n ≡ Rests s → step lists c n ≡ None
resting lists c n s e = ap (stepped lists c n) e

-- nobody is there
pub absent_leaves : (lists : Option ListsShape) (count : Name → ℕ) (p : Population) (c : Configuration) (n : Name) → IsPopulation p c → found_in p n ≡ None → Leaves lists count c n
absent_leaves lists count p c n h is =
    let none = stands_none (find name_cmp n c.activities) (requests_of c n) (subst (λ o. StandsAt o (find name_cmp n c.activities) (requests_of c n)) is (h.activities n)) in
    record { rests = inl (λ a at. no_some (sym none ∙ at)); waits = λ f a at below w. no_some (sym none ∙ at); serves = λ a at below st. no_some (sym none ∙ at); sends = λ a to at below s. no_some (sym none ∙ at) }

-- it is at its count
pub counted_leaves : (lists : Option ListsShape) (count : Name → ℕ) (c : Configuration) (n : Name) (a : model.Activity) → IsAt c n a → count n ≤ a.reductions → Leaves lists count c n
counted_leaves lists count c n a is le = record {
  rests = inl (λ b at. let e : a ≡ b = some_is (sym is ∙ at) in let f : a.reductions ≡ b.reductions = ap (λ x. x.reductions) e in omega (arith, f, le));
  waits = λ f b at below w. not_below b at below;
  serves = λ b at below st. not_below b at below;
  sends = λ b to at below s. not_below b at below;
}
  where
    not_below : (b : model.Activity) → IsAt c n b → b.reductions < count n → ⊥
    not_below b at below =
        let e : a ≡ b = some_is (sym is ∙ at) in
        let g : a.reductions ≡ b.reductions = ap (λ x. x.reductions) e in
        omega (arith, g, le, below)

-- it rests, neither at a future nor at a `serve`
pub done_leaves : (lists : Option ListsShape) (count : Name → ℕ) (c : Configuration) (n : Name) (s : StatusShape) → intent_in c n ≡ Rests s → ((f : FutureShape) → s ≢ Awaits f) → s ≢ Serving → Leaves lists count c n
done_leaves lists count c n s e d v = record {
  rests = inr (resting lists c n s e);
  waits = λ f a at below w. d f (sym (ap status_of_intent e) ∙ w.0);
  serves = λ a at below st. v (sym (ap status_of_intent e) ∙ st);
  sends = λ a to at below x. never (intent_in c n) s x.0 e x.1;
}
  where
    acting : Intent → Bool
    acting (Acts g) = true
    acting (Rests t) = false

    never : (p : Intent) (t : StatusShape) (g : Effect) → p ≡ Rests t → p ≡ Acts g → ⊥
    never p t g x y = none_true (ap acting (sym x ∙ y))

-- it rests at a `serve`
pub serves_rests : (lists : Option ListsShape) (count : Name → ℕ) (c : Configuration) (n : Name) → intent_in c n ≡ Rests Serving → RestsIn lists count c n × (status_of c n ≡ Serving)
serves_rests lists count c n e = (inr (resting lists c n Serving e), ap status_of_intent e)

pub awaits_rests : (lists : Option ListsShape) (count : Name → ℕ) (c : Configuration) (n : Name) (f : FutureShape) → intent_in c n ≡ Rests (Awaits f) → RestsIn lists count c n × (status_of c n ≡ Awaits f)
awaits_rests lists count c n f e = (inr (resting lists c n (Awaits f) e), ap status_of_intent e)

-- Who steps

pub steps_now : (lists : Option ListsShape) (count : Name → ℕ) (c : Configuration) (n : Name) (a : model.Activity) → IsAt c n a → a.reductions < count n → IsOutlook n (intent_in c n) outlook.Steps → CanStep lists count c n
steps_now lists count c n a is below o =
    let p = steps_intent n (intent_in c n) o in
    let may : may_log lists c p.0.logged ≡ true = ap (may_log lists c) p.2 in
    record { activity = a; there = is; below = below; effect = p.0; intends = p.1; steps = takes_step lists c n p.0 (record { intends = p.1; may = may }) }

-- who is sent to is there
pub target_there : (program : Tree) (c : Configuration) (n : Name) (to : Bor ActivityName) → IsReached program c → IsOutlook n (intent_in c n) (outlook.Sends to) → IsThere c to.now
target_there program c n to r o =
    let p = sends_intent n (intent_in c n) to o in
    subst (IsThere c) p.4 (targets_are_there program c n p.0 p.2 r p.1 p.3)

-- what it intends to log, and where
record Logs (c : Configuration) (n to : Name) (x : ReceptionShape) : Type 0 where
  effect : Effect
  intends : intent_in c n ≡ Acts effect
  logged : effect.logged ≡ Some (to, x)

-- a send is logged where it goes
sends_log : (c : Configuration) (n : Name) (to : Bor ActivityName) → IsOutlook n (intent_in c n) (outlook.Sends to) → Logs c n to.now (From n)
sends_log c n to o =
    let p = sends_intent n (intent_in c n) to o in
    let logged : p.0.logged ≡ Some (p.2.0, From n) = subst (λ (s : Option (Name × RequestShape)). IsLogged n s p.0.logged) p.3 (acts_facts c n p.0 p.1).1.logged in
    record { effect = p.0; intends = p.1; logged = logged ∙ ap (λ (m : Name). Some (m, From n)) p.4 }

-- and a poll at home
polls_log : (c : Configuration) (n : Name) → IsOutlook n (intent_in c n) outlook.Polls → Logs c n n Poll
polls_log c n o = let p = polls_intent n (intent_in c n) o in record { effect = p.0; intends = p.1; logged = p.2 }

module _ (lists : Option ListsShape) (count : Name → ℕ) (c : Configuration) (n to : Name) (x : ReceptionShape) (l : Logs c n to x) (there : IsThere c to) where
  may_by : (b : Bool) → is_next lists c to x ≡ b → may_log lists c l.effect.logged ≡ b
  may_by b turn = ap (may_log lists c) l.logged ∙ (λ i. there i && turn i)

  -- in its turn it steps
  turn_steps : (a : model.Activity) → IsAt c n a → a.reductions < count n → is_next lists c to x ≡ true → CanStep lists count c n
  turn_steps a is below turn = record { activity = a; there = is; below = below; effect = l.effect; intends = l.intends; steps = takes_step lists c n l.effect (record { intends = l.intends; may = may_by true turn }) }

  -- out of turn it rests
  turn_rests : is_next lists c to x ≡ false → RestsIn lists count c n × LogsTo c n to
  turn_rests turn = (inr (holds_back lists c n l.effect l.intends (may_by false turn)), (l.effect, l.intends, x, l.logged))

pub sends_now : (lists : Option ListsShape) (count : Name → ℕ) (program : Tree) (c : Configuration) (n : Name) (a : model.Activity) (to : Bor ActivityName) → IsReached program c → IsAt c n a → a.reductions < count n → IsOutlook n (intent_in c n) (outlook.Sends to) → is_next lists c to.now (From n) ≡ true → CanStep lists count c n
sends_now lists count program c n a to r is below o turn = turn_steps lists count c n to.now (From n) (sends_log c n to o) (target_there program c n to r o) a is below turn

-- it sends out of turn
pub held_rests : (lists : Option ListsShape) (count : Name → ℕ) (program : Tree) (c : Configuration) (n : Name) (to : Bor ActivityName) → IsReached program c → IsOutlook n (intent_in c n) (outlook.Sends to) → is_next lists c to.now (From n) ≡ false → RestsIn lists count c n × LogsTo c n to.now
held_rests lists count program c n to r o turn = turn_rests lists count c n to.now (From n) (sends_log c n to o) (target_there program c n to r o) turn

pub polls_now : (lists : Option ListsShape) (count : Name → ℕ) (c : Configuration) (n : Name) (a : model.Activity) → IsAt c n a → a.reductions < count n → IsOutlook n (intent_in c n) outlook.Polls → is_next lists c n Poll ≡ true → CanStep lists count c n
polls_now lists count c n a is below o turn = turn_steps lists count c n n Poll (polls_log c n o) (ap is_some is) a is below turn

-- it polls out of turn
pub poll_rests : (lists : Option ListsShape) (count : Name → ℕ) (c : Configuration) (n : Name) (a : model.Activity) → IsAt c n a → IsOutlook n (intent_in c n) outlook.Polls → is_next lists c n Poll ≡ false → RestsIn lists count c n × LogsTo c n n
poll_rests lists count c n a is o turn = turn_rests lists count c n n Poll (polls_log c n o) (ap is_some is) turn

-- Whom it sends to

to_target : (ns : List Name) (s : Option (Name × RequestShape)) (m : Name) (k : ℕ) → IsTo s m → number_of m ns ≡ Some k → IsTargetOf ns s (Some k)
to_target ns None m k h e = absurd h
to_target ns (Some z) m k h e = ap (λ (q : Name). number_of q ns) h ∙ e

polled_nothing : (n : Name) (s : Option (Name × RequestShape)) (l : Option (Name × ReceptionShape)) → IsLogged n s l → l ≡ Some (n, Poll) → s ≡ None
polled_nothing n None l h e = refl
polled_nothing n (Some z) l h e =
    let same : From n ≡ Poll = ap (λ (x : Name × ReceptionShape). x.1) (some_is (sym h ∙ e)) in
    absurd cc

module _ (lists : Option ListsShape) (count : Name → ℕ) (c : Configuration) (n : Name) (ns : List Name) (x : CanStep lists count c n) where
  pub sends_target : (to : Bor ActivityName) (k : ℕ) → IsOutlook n (intent_in c n) (outlook.Sends to) → number_of to.now ns ≡ Some k → IsTargetOf ns x.effect.sent (Some k)
  sends_target to k o e = to_target ns x.effect.sent to.now k (subst (λ p. IsOutlook n p (outlook.Sends to)) x.intends o) e

  pub steps_target : IsOutlook n (intent_in c n) outlook.Steps → IsTargetOf ns x.effect.sent None
  steps_target o = let own = subst (λ p. IsOutlook n p outlook.Steps) x.intends o in subst (λ s. IsTargetOf ns s None) (sym own.0) tt

  pub polls_target : IsOutlook n (intent_in c n) outlook.Polls → IsTargetOf ns x.effect.sent None
  polls_target o =
      let own = subst (λ p. IsOutlook n p outlook.Polls) x.intends o in
      let none = polled_nothing n x.effect.sent x.effect.logged (acts_facts c n x.effect x.intends).1.logged own in
      subst (λ s. IsTargetOf ns s None) (sym none) tt

-- What is next

pub anything_next : (lists : Option ListsShape) (c : Configuration) (to : Name) (x : ReceptionShape) (k : ℕ) → IsNextAt lists to k next.Anything → is_next lists c to x ≡ true
anything_next None c to x k h = refl
anything_next (Some lists) c to x k h = absurd h

pub only_next : (lists : Option ListsShape) (c : Configuration) (to : Name) (x : ReceptionShape) (k : ℕ) (y : Bor Reception) → k ≡ length (log_of c to) → IsNextAt lists to k (next.Only y) → is_next lists c to x ≡ same_reception x (reception_shape y.now)
only_next None c to x k y e h = absurd h
only_next (Some lists) c to x k y e h = ap (is_reception x) (ap (reception_at (log_in lists to)) (sym e) ∙ h)

pub nothing_next : (lists : Option ListsShape) (c : Configuration) (to : Name) (x : ReceptionShape) (k : ℕ) → k ≡ length (log_of c to) → IsNextAt lists to k next.Nothing → is_next lists c to x ≡ false
nothing_next None c to x k e h = absurd h
nothing_next (Some lists) c to x k e h = ap (is_reception x) (ap (reception_at (log_in lists to)) (sym e) ∙ h)

-- a reception is one activity's
pub of_one : (q m to : Name) (x : ReceptionShape) → IsOf q to x → IsOf m to x → q ≡ m
of_one q m to (From n) h g = sym h ∙ g
of_one q m to Poll h g = sym h ∙ g

pub next_of : (lists : Option ListsShape) (c : Configuration) (to q : Name) (k : ℕ) (y : Bor Reception) → k ≡ length (log_of c to) → IsNextAt lists to k (next.Only y) → IsNextIn lists c to q → IsOf q to (reception_shape y.now)
next_of None c to q k y e h i = absurd h
next_of (Some lists) c to q k y e h i =
    let same : reception_shape y.now ≡ i.0 = some_is (sym h ∙ ap (reception_at (log_in lists to)) e ∙ i.1) in
    subst (IsOf q to) (sym same) i.2

-- Members that are passed

-- an actor of the population stands for one that has passed so many
pub passed_for : (p : Population) (c : Configuration) (n : Name) (x : Actor) (k : ℕ) → IsPopulation p c → found_in p n ≡ Some x → HasPassedIn c n k → IsPassedFor (chase (values_of p.futures)) x k
passed_for p c n x k h is has =
    let s = found_stands p c n x h is in
    record { activity = s.0; received = requests_of c n; stands = s.2; passed = subst (λ (vs : Values). HasPassed (chase vs) s.0 k) (sym h.futures) (has s.0 s.1) }

-- and what is seen of the actor holds of its activity
pub seen_passed : (p : Population) (c : Configuration) (n : Name) (x : Actor) (k : ℕ) → IsPopulation p c → found_in p n ≡ Some x → ((a : model.Activity) (rs : List RequestShape) → Stands x a rs → HasPassed (chase (values_of p.futures)) a k) → HasPassedIn c n k
seen_passed p c n x k h is seen = λ a at.
    let s = found_stands p c n x h is in
    let same : s.0 ≡ a = some_is (sym s.1 ∙ at) in
    subst (λ (b : model.Activity). HasPassed (chase c.futures) b k) same (subst (λ (vs : Values). HasPassed (chase vs) s.0 k) h.futures (seen s.0 (requests_of c n) s.2))

-- who awaits a future is there
pub awaits_there : (c : Configuration) (n : Name) (f : FutureShape) → status_of c n ≡ Awaits f → (a : model.Activity) × IsAt c n a
awaits_there c n f e = by (find name_cmp n c.activities) refl
  where
    by : (o : Option model.Activity) → find name_cmp n c.activities ≡ o → (a : model.Activity) × IsAt c n a
    by (Some a) is = (a, is)
    by None is =
        let done : Done ≡ Awaits f = sym (ap (λ (q : Option model.Activity). status_of_intent (elim q [ None ↦ Rests Done | Some a ↦ intent (chase c.futures) (requests_of c n) n a ])) is) ∙ e in
        absurd cc
