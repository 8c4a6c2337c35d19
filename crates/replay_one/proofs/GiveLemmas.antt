-- Who is ready once an effect is handed on.
use Rattle.std.proofs.Common.{◌≡◌, ℕ, true, false, Option, Some, None, refl, sym, ap, subst, ◌∙◌}
use Rattle.std.specs.Global.{Box}
use Rattle.std.specs.declared.alloc.Global.{Global}
use Rattle.std.specs.declared.sync.Arc.{Arc}
use Rattle.asp_model.specs.Names.{Name, FutureShape}
use Rattle.asp_model.specs.Parcel.{ParcelShape}
use Rattle.asp_model.specs.Configuration as model
use Rattle.asp_model.specs.Configuration.{Configuration, From, Poll, ReceptionShape, RequestShape, log_of, requests_of}
use Rattle.asp_model.specs.Intent.{Effect}
use Rattle.asp_model.specs.Step.{ListsShape, with_effect}
use Rattle.code_table.specs.declared.cells.Parcel.{Parcel}
use Rattle.code_table.specs.declared.future.Future.{Future}
use Rattle.code_table.specs.Cells.{held_future}
use Rattle.code_table.specs.Shapes.{parcel_shape}
use Rattle.request_queue.specs.declared.request.Request.{Request}
use Rattle.request_queue.specs.Requests.{request_shape}
use Rattle.law_chases.proofs.FutureLemmas.{no_some, some_is}
use Rattle.step_activity.specs.declared.actor.Actor.{Actor}
use Rattle.def_journals.specs.Journals.{number_of}
use Rattle.step_activity.specs.declared.act.Given.{Given}
use Rattle.step_activity.specs.declared.act.Given.TheVariants as given
use Rattle.law_schedules.specs.Schedules.{IsNextIn}
use Rattle.replay_population.specs.declared.population.Population.{Population}
use Rattle.replay_population.specs.Giving.{IsGiving}
use Rattle.replay_one.specs.Schedule.{IsMoreReady, Seen, asks_in, noted_in, ready_in, sends_in}
use Rattle.replay_one.proofs.ScheduleLemmas.{more_twice}
use Rattle.replay_one.specs.Round.{IsGivingTo, IsHandedOn, IsTargetOf}
use Rattle.replay_population.proofs.GivingLemmas.{made_given}

-- who was ready before is ready, and else this says so
by_ready : (u t : Seen) (q : Name) → (ready_in u q ≡ true → ready_in t q ≡ true) → (ready_in u q ≡ false → ready_in t q ≡ true) → ready_in t q ≡ true
by_ready u t q was not = elim (ready_in u q) as (λ b. ready_in u q ≡ b → ready_in t q ≡ true) [ true ↦ was | false ↦ not ] refl

module _ (p : Population) (n : Name) (c : Configuration) (e : Effect) where
  -- Who is ready then

  pub nothing_handed : (lists : Option ListsShape) (s : Seen) → IsGiving p n given.Nothing c e → IsHandedOn lists c n e s s
  nothing_handed lists s h = record {
    made = λ m b is. no_some (sym h.given.1 ∙ is);
    target = λ m r is. no_some (sym h.given.0 ∙ is);
    next = λ m q is. no_some (sym h.given.3 ∙ is.1);
    filled = λ f q is. no_some (sym h.given.2 ∙ is.1);
    ready = λ m r. r;
    noted = λ f m d r. r;
    asks = λ m l not a. a;
    sends = λ m k not a. a;
  }

  pub made_handed : (lists : Option ListsShape) (s t : Seen) (m : Name) (x : Box Actor) → IsGiving p n (given.Made m x) c e → IsMoreReady s None t → ready_in t m ≡ true → IsHandedOn lists c n e s t
  made_handed lists s t m x h more woken =
      let b = made_given p n c e m x h in
      record {
        made = λ k a is. ap (ready_in t) (ap (λ (z : Name × model.Activity). z.0) (some_is (sym is ∙ b.1))) ∙ woken;
        target = λ k r is. no_some (sym h.given.0 ∙ is);
        next = λ k q is. no_some (sym h.given.3 ∙ is.1);
        filled = λ f q is. no_some (sym h.given.2 ∙ is.1);
        ready = more.ready;
        noted = λ f k d. more.noted f k no_some;
        asks = more.asks;
        sends = more.sends;
      }

  pub sent_handed : (lists : Option ListsShape) (s u t : Seen) (to : Name) (r : Request) → IsGiving p n (given.Sent to r) c e → IsMoreReady s None u → (asks_in s to r.label.text ≡ true → ready_in u to ≡ true) → IsMoreReady u None t → ((q : Name) → IsNextIn lists (with_effect n e c) to q → sends_in u q to ≡ true → ready_in t q ≡ true) → IsHandedOn lists c n e s t
  sent_handed lists s u t to r h first woken then next =
      let both : IsMoreReady s None t = more_twice s u t first then in
      let same : (z : Name × RequestShape) → e.sent ≡ Some z → (to, request_shape r) ≡ z = λ z is. some_is (sym h.given.0 ∙ is) in
      record {
        made = λ k a is. no_some (sym h.given.1 ∙ is);
        target = λ m q is. subst (λ (z : Name × RequestShape). asks_in s z.0 z.1.label ≡ true → ready_in t z.0 ≡ true) (same (m, q) is) (λ a. then.ready to (woken a));
        next = λ m q is. subst (λ (z : Name × ReceptionShape). IsNextIn lists (with_effect n e c) z.0 q → sends_in s q z.0 ≡ true → ready_in t q ≡ true) (some_is (sym h.given.3 ∙ is.1)) (λ i a.
            by_ready u t q (then.ready q) (λ not. next q i (first.sends q to not a)));
        filled = λ f q is. no_some (sym h.given.2 ∙ is.1);
        ready = both.ready;
        noted = λ f k d. both.noted f k no_some;
        asks = both.asks;
        sends = both.sends;
      }

  pub filled_handed : (lists : Option ListsShape) (s t : Seen) (f : Arc Future Global) (v : Parcel) → IsGiving p n (given.Filled f v) c e → IsMoreReady s (Some (held_future f)) t → ((m : Name) → noted_in s (held_future f) m ≡ true → ready_in t m ≡ true) → IsHandedOn lists c n e s t
  filled_handed lists s t f v h more woken = record {
    made = λ k a is. no_some (sym h.given.1 ∙ is);
    target = λ k r is. no_some (sym h.given.0 ∙ is);
    next = λ k q is. no_some (sym h.given.3 ∙ is.1);
    filled = λ g q is noted. woken q (ap (λ k. noted_in s k q) (ap (λ (z : FutureShape × ParcelShape). z.0) (some_is (sym h.given.2 ∙ is.1))) ∙ noted);
    ready = more.ready;
    noted = λ g k d. more.noted g k (λ is. d (parcel_shape v, h.given.2 ∙ ap (λ k. Some (k, parcel_shape v)) (some_is is)));
    asks = more.asks;
    sends = more.sends;
  }

  -- whoever is next in its own log
  pub polled_handed : (lists : Option ListsShape) (s t : Seen) → IsGiving p n given.Polled c e → IsMoreReady s None t → ((q : Name) → IsNextIn lists (with_effect n e c) n q → sends_in s q n ≡ true → ready_in t q ≡ true) → IsHandedOn lists c n e s t
  polled_handed lists s t h more next = record {
    made = λ k a is. no_some (sym h.given.1 ∙ is);
    target = λ k r is. no_some (sym h.given.0 ∙ is);
    next = λ m q is. subst (λ (z : Name × ReceptionShape). IsNextIn lists (with_effect n e c) z.0 q → sends_in s q z.0 ≡ true → ready_in t q ≡ true) (some_is (sym h.given.3 ∙ is.1)) (next q);
    filled = λ f q is. no_some (sym h.given.2 ∙ is.1);
    ready = more.ready;
    noted = λ f k d. more.noted f k no_some;
    asks = more.asks;
    sends = more.sends;
  }

-- Whom a request goes to

module _ (p : Population) (number : ℕ) (o : Option ℕ) (g : Given) (m : Name) (r : Request) (h : IsGivingTo p number o g) (is : g ≡ given.Sent m r) where
  target_by : IsTargetOf p.roster (Some (m, request_shape r)) o
  target_by =
      let y : IsGiving p h.0 (given.Sent m r) h.2 h.3 = subst (λ g. IsGiving p h.0 g h.2 h.3) is h.4 in
      subst (λ s. IsTargetOf p.roster s o) y.given.0 h.5

  pub target_number : (k : ℕ) → o ≡ Some k → number_of m p.roster ≡ Some k
  target_number k to = subst (λ t. IsTargetOf p.roster (Some (m, request_shape r)) t) to target_by

  pub no_target : o ≡ None → ⊥
  no_target none = subst (λ t. IsTargetOf p.roster (Some (m, request_shape r)) t) none target_by
