-- What a lease gives that has come back is new to the edges.
use Rattle.std.proofs.Common.{◌≡◌, ◌∙◌, ℕ, false, List, Some, None, is_some, refl, sym, ap}
use Rattle.std.specs.FinMap.{find}
use Rattle.asp_model.specs.Configuration.{Activity, Configuration}
use Rattle.asp_model.specs.History.{HistoryShape}
use Rattle.asp_model.specs.Intent.{Effect}
use Rattle.asp_model.specs.Names.{Name, name_cmp}
use Rattle.asp_model.specs.Step.{name_at}
use Rattle.def_journals.specs.Journals.{RunShape}
use Rattle.law_chases.proofs.FutureLemmas.{none_true}
use Rattle.law_steps.proofs.WholeLemmas.{sound_intents}
use Rattle.law_steps.specs.Steps.{IsNewTo}
use Rattle.code_table.specs.declared.code.Node.{Node}
use Rattle.step_activity.specs.declared.act.Given.{Given}
use Rattle.step_activity.specs.declared.act.Given.TheVariants as given
use Rattle.step_activity.specs.declared.actor.Actor.{Actor}
use Rattle.step_activity.specs.Effects.{IsGiven}
use Rattle.future_update.specs.Holders.{HoldersView, is_met}
use Rattle.law_core.specs.Commits.{with_activity}
use Rattle.law_core.proofs.NewcomerLemmas.{absent_before}
use Rattle.core_state.specs.declared.state.CoreState.{CoreState}
use Rattle.core_state.specs.Commits.{IsActing, IsGiving}
use Rattle.core_state.proofs.ActLemmas.{whole_ended}
use Rattle.core_state.proofs.HandLemmas.{made_is}
use Rattle.law_journals.specs.Fresh.{IsFresh}
use Rattle.law_journals.proofs.RunLemmas.{effects_are_fresh, holders_stay}
use Rattle.core_edges.specs.Given.{IsSomeFresh}
use Rattle.asp_core.specs.Bringing.{IsUnmet}
use Rattle.asp_core.specs.Runs.{Stand}
use Rattle.asp_core.proofs.OutLemmas.{unmet}
use Rattle.asp_core.proofs.StandLemmas.{holders_are, numbered}

-- what an activity intends is new to its configuration
pub is_new_to : (h : HistoryShape) (code : List Node) (s : RunShape) (before : CoreState) (k : ℕ) (n : Name) (grant reductions : ℕ) (a : Actor) (e : Effect)
    → (acting : IsActing h code before s k n grant reductions a e) → IsNewTo (with_activity n acting.returning.end s.configuration) e
is_new_to h code s before k n grant reductions a e acting =
    let c : Configuration = with_activity n acting.returning.end s.configuration in
    (sound_intents c (whole_ended h code before s k n grant acting.taken a acting.returning).sound).effects n e acting.intends

module _ (h : HistoryShape) (code : List Node) (s : RunShape) (x : CoreState) (v : HoldersView) (st : Stand h code s x v) where
  -- nobody has the name of one who is not there
  unmet_one : (m : Name) → find name_cmp m s.configuration.activities ≡ None → is_met m v.activities ≡ false
  unmet_one m none =
      unmet v.activities m
      (λ j named. none_true (sym (ap is_some none) ∙ (numbered h code s x v st).there j m (ap (λ ns. name_at ns j) (sym st.edges.names) ∙ named)))

  unmet_given : (g : Given) (e : Effect) (n : Name) (b : Activity) → IsGiven n e g
      → ((z : Name × Activity) → e.made ≡ Some z → find name_cmp z.0 (with_activity n b s.configuration).activities ≡ None)
      → IsUnmet g v.activities
  unmet_given given.Nothing e n b is new = tt
  unmet_given (given.Made m a) e n b is new =
      let made = made_is e.made m a.value is.1 in
      unmet_one m (absent_before s.configuration n m b (new (m, made.0) made.1))
  unmet_given (given.Sent m r) e n b is new = tt
  unmet_given (given.Filled f p) e n b is new = tt
  unmet_given given.Polled e n b is new = tt

  pub is_new_given : (z : CoreState) (k : ℕ) (n : Name) (grant reductions : ℕ) (e : Effect) (g : Given) → IsGiving h code z s k n grant reductions e g → IsSomeFresh v.holders g × IsUnmet g v.activities
  is_new_given z k n grant reductions e g r =
      let acting = r.acting in
      let c : Configuration = with_activity n acting.returning.end s.configuration in
      let fresh : IsFresh v.holders e =
      effects_are_fresh c v.holders n e
      (whole_ended h code r.before s k n grant acting.taken r.actor acting.returning).sound
      (holders_stay s.configuration c v.holders refl refl (holders_are h code s x v st)) acting.intends in
      ((n, e, r.hand.given, fresh), unmet_given g e n e.own r.hand.given (λ q made. (r.hand.made q made).0))
