-- What an effect gives to others is handed on.
use Rattle.std.proofs.Common.{◌≡◌, [], ℕ, List, Option, Some, None, is_some, length, sym, ap, subst, ◌∙◌}
use Rattle.std.specs.Global.{Box}
use Rattle.std.specs.FinMap.{find, put}
use Rattle.std.specs.declared.alloc.Global.{Global}
use Rattle.std.specs.declared.sync.Arc.{Arc}
use Rattle.asp_model.specs.Names.{Name, FutureShape, name_cmp, future_cmp}
use Rattle.asp_model.specs.Term.{Tree, locations}
use Rattle.asp_model.specs.Parcel.{ParcelShape}
use Rattle.asp_model.specs.Chase.{Values}
use Rattle.asp_model.specs.Configuration as model
use Rattle.asp_model.specs.Configuration.{Configuration, From, Poll, ReceptionShape, RequestShape, log_of, requests_of}
use Rattle.asp_model.specs.Intent.{Acts, Effect}
use Rattle.asp_model.specs.Step.{intent_in, put_some, with_effect, with_last}
use Rattle.def_journals.specs.Journals.{number_of}
use Rattle.code_table.specs.declared.cells.Parcel.{Parcel}
use Rattle.code_table.specs.declared.future.Future.{Future}
use Rattle.code_table.specs.Cells.{held_future}
use Rattle.code_table.specs.Shapes.{parcel_shape}
use Rattle.request_queue.specs.declared.request.Request.{Request}
use Rattle.request_queue.specs.Requests.{request_shape}
use Rattle.future_table.specs.Values.{values_of}
use Rattle.law_steps.specs.Reached.{IsReached, IsThere, Steps}
use Rattle.law_steps.proofs.ClosedLaws.{reached_are_closed}
use Rattle.law_steps.proofs.FrameLemmas.{effects_are_new}
use Rattle.law_steps.proofs.LinkedLemmas.{intends_step, targets_are_there}
use Rattle.law_chases.proofs.MapLemmas.{find_same, stays_there}
use Rattle.law_steps.proofs.NameLemmas.{name_total, name_same}
use Rattle.law_chases.proofs.FutureLemmas.{future_total, future_same}
use Rattle.law_steps.proofs.ReachedLemmas.{moves_go_on, reached_right}
use Rattle.law_steps.proofs.TidyLemmas.{empty_where_absent}
use Rattle.law_steps.proofs.WholeLemmas.{reached_are_sound}
use Rattle.step_activity.specs.declared.actor.Actor.{Actor}
use Rattle.step_activity.specs.declared.act.Given.TheVariants as given
use Rattle.step_activity.specs.Actors.{Stands, log_in}
use Rattle.step_activity.specs.Effects.{IsMade}
use Rattle.replay_population.specs.declared.population.Population.{Population}
use Rattle.replay_population.specs.Giving.{CanHandOn, IsGiving}
use Rattle.replay_population.specs.Population.{IsPopulation, with_activity, with_poll, with_request, with_value}
use Rattle.replay_population.proofs.PopulationLemmas.{absent_nowhere}

-- what an activity of a reached configuration does can be handed on
pub reached_hand_on : (program : Tree) (c : Configuration) (n : Name) (e : Effect) → locations program ≡ [] → IsReached program c → intent_in c n ≡ Acts e → CanHandOn c e
reached_hand_on program c n e bare reached intends =
    let new = effects_are_new program c n e reached intends in
    record {
      made = λ m b is.
          let absent = new.made (m, b) is in
          (empty_where_absent c (reached_right program c reached).tidy m absent, (reached_are_sound program c reached).quiet m absent);
      sent = λ m r is. targets_are_there program c n e (m, r) reached intends is;
      filled = λ f p is. (new.filled (f, p) is, one_root f p is);
    }
  where
    one_root : (f : FutureShape) (p : ParcelShape) → e.filled ≡ Some (f, p) → length p.roots ≡ 1
    one_root f p is =
        let d : Configuration = with_effect n e c in
        let after = moves_go_on program c d (Steps None n) reached (intends_step program c n e reached intends) in
        let value = (reached_are_closed program d bare after).values f p (ap (λ o. find future_cmp f (put_some future_cmp o c.futures)) is ∙ find_same future_cmp future_total future_same f p c.futures) in
        ap (λ (ns : List ℕ). length ns) value.root

-- the effect's configuration, by what it gives
effect_of : (n : Name) (e : Effect) (c : Configuration) (s : Option (Name × RequestShape)) (m : Option (Name × model.Activity)) (f : Option (FutureShape × ParcelShape)) (l : Option (Name × ReceptionShape)) → e.sent ≡ s → e.made ≡ m → e.filled ≡ f → e.logged ≡ l
    → record { activities = put_some name_cmp m (put name_cmp n e.own c.activities); received = with_last s c.received; logs = with_last l c.logs; futures = put_some future_cmp f c.futures } ≡ with_effect n e c
effect_of n e c s m f l p q r t = sym (λ i. record { activities = put_some name_cmp (q i) (put name_cmp n e.own c.activities); received = with_last (p i) c.received; logs = with_last (t i) c.logs; futures = put_some future_cmp (r i) c.futures })

module _ (p : Population) (n : Name) (c : Configuration) (e : Effect) where
  pub nothing_population : IsGiving p n given.Nothing c e → IsPopulation p (with_effect n e c)
  nothing_population h = subst (IsPopulation p) (effect_of n e c None None None None h.given.0 h.given.1 h.given.2 h.given.3) h.here.population

  -- what is made
  made_is : (o : Option (Name × model.Activity)) (m : Name) (x : Actor) → IsMade o m x → (b : model.Activity) × (o ≡ Some (m, b)) × Stands x b [] × (log_in x ≡ [])
  made_is None m x h = absurd h
  made_is (Some z) m x h = (z.1, (λ i. Some (h.0 i, z.1)), h.1, h.2)

  pub made_given : (m : Name) (x : Box Actor) → IsGiving p n (given.Made m x) c e → (b : model.Activity) × (e.made ≡ Some (m, b)) × Stands x.value b [] × (log_in x.value ≡ [])
  made_given m x h = made_is e.made m x.value h.given.1

  -- who is made has received nothing
  pub made_alone : (m : Name) (x : Box Actor) → IsGiving p n (given.Made m x) c e → requests_of (with_activity n e.own c) m ≡ []
  made_alone m x h = let b = made_given m x h in (h.free.made m b.0 b.1).0

  -- and its log is empty
  pub made_unlogged : (m : Name) (x : Box Actor) → IsGiving p n (given.Made m x) c e → log_of (with_activity n e.own c) m ≡ []
  made_unlogged m x h = let b = made_given m x h in (h.free.made m b.0 b.1).1

  pub made_population : (q : Population) (m : Name) (x : Box Actor) (h : IsGiving p n (given.Made m x) c e) → IsPopulation q (with_activity m (made_given m x h).0 (with_activity n e.own c)) → IsPopulation q (with_effect n e c)
  made_population q m x h k =
      let b = made_given m x h in
      subst (IsPopulation q) (effect_of n e c None (Some (m, b.0)) None None h.given.0 b.1 h.given.2 h.given.3) k

  pub sent_there : (to : Name) (r : Request) → IsGiving p n (given.Sent to r) c e → IsThere (with_activity n e.own c) to
  sent_there to r h = stays_there name_cmp name_total name_same n e.own c.activities to (h.free.sent to (request_shape r) h.given.0)

  -- who is sent to has a number
  pub sent_found : (to : Name) (r : Request) → IsGiving p n (given.Sent to r) c e → number_of to p.roster ≡ None → ⊥
  sent_found to r h none = absent_nowhere p (with_activity n e.own c) to h.here.population none (sent_there to r h)

  pub sent_is : (to : Name) (r : Request) → IsGiving p n (given.Sent to r) c e → with_request to (request_shape r) (with_activity n e.own c) ≡ with_effect n e c
  sent_is to r h = effect_of n e c (Some (to, request_shape r)) None None (Some (to, From r.sender)) h.given.0 h.given.1 h.given.2 h.given.3

  -- who polls is there
  pub polled_there : IsGiving p n given.Polled c e → IsThere (with_poll n given.Polled (with_activity n e.own c)) n
  polled_there h = ap is_some (find_same name_cmp name_total name_same n e.own c.activities)

  pub polled_is : IsGiving p n given.Polled c e → with_poll n given.Polled (with_activity n e.own c) ≡ with_effect n e c
  polled_is h = effect_of n e c None None None (Some (n, Poll)) h.given.0 h.given.1 h.given.2 h.given.3

  pub filled_is : (f : Arc Future Global) (v : Parcel) → IsGiving p n (given.Filled f v) c e → with_value (held_future f) (parcel_shape v) (with_activity n e.own c) ≡ with_effect n e c
  filled_is f v h = effect_of n e c None None (Some (held_future f, parcel_shape v)) None h.given.0 h.given.1 h.given.2 h.given.3

  -- the future was not filled
  pub filled_new : (f : Arc Future Global) (v : Parcel) → IsGiving p n (given.Filled f v) c e → find future_cmp (held_future f) (values_of p.futures) ≡ None
  filled_new f v h = ap (λ (vs : Values). find future_cmp (held_future f) vs) h.here.population.futures ∙ (h.free.filled (held_future f) (parcel_shape v) h.given.2).0

  -- its value has one root
  pub filled_root : (f : Arc Future Global) (v : Parcel) → IsGiving p n (given.Filled f v) c e → length v.roots.items ≡ 1
  filled_root f v h = (h.free.filled (held_future f) (parcel_shape v) h.given.2).1
