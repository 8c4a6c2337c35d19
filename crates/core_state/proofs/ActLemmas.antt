-- An activity comes in with what it intended done; what that gives may be handed on.
use Rattle.std.proofs.Common.{◌≡◌, ◌-◌, [], ℕ, List, Option, Some, None, is_some, length, sym, ap, ◌∙◌, ⊎_elim, ◌≢◌}
use Rattle.std.specs.FinMap.{find, put}
use Rattle.asp_model.specs.Chase.{chase}
use Rattle.asp_model.specs.Configuration.{Activity, Configuration, RequestShape, log_of, requests_of}
use Rattle.asp_model.specs.History.{HistoryShape, Committed}
use Rattle.asp_model.specs.Intent.{Acts, Done, Effect, Rests, intent}
use Rattle.asp_model.specs.Names.{Name, FutureShape, name_cmp, future_cmp}
use Rattle.asp_model.specs.Parcel.{ParcelShape}
use Rattle.asp_model.specs.Step.{intent_in, put_some, with_effect}
use Rattle.core_state.proofs.LogLemmas.{asked_elsewhere}
use Rattle.core_state.proofs.KeptLemmas.{whole_then}
use Rattle.core_state.specs.Handing.{with_own}
use Rattle.law_paths.specs.Whole.{IsWhole}
use Rattle.law_steps.proofs.FactLemmas.{acts_facts}
use Rattle.law_steps.proofs.TidyLemmas.{empty_where_absent}
use Rattle.law_steps.specs.Sound.{HasRightIntents}
use Rattle.law_steps.proofs.WholeLemmas.{moves_keep_closed, right_of, sound_intents}
use Rattle.def_journals.specs.Journals.{RunShape, out_but}
use Rattle.law_steps.specs.Reached.{IsThere, Steps}
use Rattle.law_steps.specs.Steps.{IsNewTo}
use Rattle.law_chases.proofs.MapLemmas as Maps
use Rattle.law_steps.proofs.NameLemmas.{name_case, name_total, name_same}
use Rattle.law_chases.proofs.FutureLemmas.{future_total, future_same, no_some}
use Rattle.law_journals.specs.Numbered.{AreNumbered}
use Rattle.law_core.specs.Commits.{returned, with_activity}
use Rattle.law_core.proofs.CommitLemmas.{runs_are_commits}
use Rattle.code_table.specs.declared.code.Node.{Node}
use Rattle.step_activity.specs.declared.actor.Actor.{Actor}
use Rattle.core_state.specs.declared.state.CoreState.{CoreState}
use Rattle.core_state.specs.Returning.{IsReturning}

module _ (h : HistoryShape) (code : List Node) (x : CoreState) (s : RunShape) (k : ℕ) (n : Name) (grant taken : ℕ) (a : Actor) (r : IsReturning h code x s k n grant taken a) where
  abbrev pub ended : Configuration
  ended = with_activity n r.end s.configuration

  pub whole_ended : IsWhole ended
  whole_ended = whole_then (Committed k taken) s (returned s k (grant - taken) ended []) (runs_are_commits s k grant n taken r.end r.has_run r.within) r.whole

  right : HasRightIntents ended
  right = sound_intents ended whole_ended.sound

  -- who is there whatever one has become
  there_too : (b c : Activity) (m : Name) → IsThere (with_activity n b s.configuration) m → IsThere (with_activity n c s.configuration) m
  there_too b c m is = ⊎_elim
      (λ same. ap is_some (ap (λ q. find name_cmp q (put name_cmp n c s.configuration.activities)) same ∙ Maps.find_same name_cmp name_total name_same n c s.configuration.activities))
      (λ apart. ap is_some (Maps.find_other name_cmp name_total name_same m n c s.configuration.activities apart ∙ sym (Maps.find_other name_cmp name_total name_same m n b s.configuration.activities apart)) ∙ is)
      (name_case m n)

  absent_too : (b c : Activity) (m : Name) → find name_cmp m (put name_cmp n b s.configuration.activities) ≡ None → find name_cmp m (put name_cmp n c s.configuration.activities) ≡ None
  absent_too b c m none = ⊎_elim
      (λ same. no_some (sym none ∙ ap (λ q. find name_cmp q (put name_cmp n b s.configuration.activities)) same ∙ Maps.find_same name_cmp name_total name_same n b s.configuration.activities))
      (λ apart. Maps.find_other name_cmp name_total name_same m n c s.configuration.activities apart ∙ sym (Maps.find_other name_cmp name_total name_same m n b s.configuration.activities apart) ∙ none)
      (name_case m n)

  module _ (e : Effect) (intends : intent_in ended n ≡ Acts e) (left : ℕ) where
    abbrev pub own_in : RunShape
    own_in = record { configuration = with_own n e s.configuration; names = s.names; left = left; out = out_but k s.out }

    pub own_numbered : AreNumbered own_in
    own_numbered = record {
      apart = r.numbered.apart;
      there = λ j m named. Maps.stays_there name_cmp name_total name_same n e.own s.configuration.activities m (r.numbered.there j m named);
      numbered = λ m is. ⊎_elim
          (λ same. (k, r.has_run.named ∙ ap Some (sym same)))
          (λ apart. r.numbered.numbered m (ap is_some (sym (Maps.find_other name_cmp name_total name_same m n e.own s.configuration.activities apart)) ∙ is))
          (name_case m n);
    }

    new : IsNewTo ended e
    new = right.effects n e intends

    pub made_new : (z : Name × Activity) → e.made ≡ Some z → (find name_cmp z.0 own_in.configuration.activities ≡ None) × (requests_of own_in.configuration z.0 ≡ []) × (log_of own_in.configuration z.0 ≡ [])
    made_new z is =
        let other : z.0 ≢ n = λ same. no_some (sym (new.made z is) ∙ ap (λ q. find name_cmp q ended.activities) same ∙ Maps.find_same name_cmp name_total name_same n r.end s.configuration.activities) in (
          absent_too r.end e.own z.0 (new.made z is),
          empty_where_absent ended (right_of ended whole_ended.sound).tidy z.0 (new.made z is),
          asked_elsewhere n z.0 e.sent e.logged s.configuration.logs (acts_facts ended n e intends).1.logged other ∙ whole_ended.sound.quiet z.0 (new.made z is),
        )

    pub sent_there : (z : Name × RequestShape) → e.sent ≡ Some z → IsThere own_in.configuration z.0
    sent_there z is = there_too r.end e.own z.0 (right.targets n e z intends is)

    pub filled_new : (z : FutureShape × ParcelShape) → e.filled ≡ Some z → (find future_cmp z.0 own_in.configuration.futures ≡ None) × (length z.1.roots ≡ 1)
    filled_new z is =
        let d : Configuration = with_effect n e ended in
        let value = (moves_keep_closed (Steps None n) ended d whole_ended.closed (right.step n e intends)).values z.0 z.1 (ap (λ o. find future_cmp z.0 (put_some future_cmp o ended.futures)) is ∙ Maps.find_same future_cmp future_total future_same z.0 z.1 ended.futures) in
        (new.filled z is, ap (λ (ns : List ℕ). length ns) value.root)

  -- what it intends
  pub intended : (e : Effect) → intent_in ended n ≡ Acts e → intent (chase s.configuration.futures) (requests_of s.configuration n) n r.end ≡ Acts e
  intended e is = sym (ap (λ (o : Option Activity). elim o [ None ↦ Rests Done | Some a ↦ intent (chase s.configuration.futures) (requests_of s.configuration n) n a ]) (Maps.find_same name_cmp name_total name_same n r.end s.configuration.activities)) ∙ is
