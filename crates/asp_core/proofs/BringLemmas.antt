-- A lease that has come back, and is settled, once the edges were told of it.
use Rattle.std.proofs.Common.{◌≡◌, ◌∙◌, ◌-◌, [], ℕ, zero, suc, Bool, false, List, Option, Some, None, length, refl, sym, ap, subst}
use Rattle.std.proofs.lemmas.List.{append-nil}
use Rattle.asp_model.specs.Chase.{chase}
use Rattle.asp_model.specs.Configuration.{Activity, Configuration, requests_of}
use Rattle.asp_model.specs.History.{Committed, HistoryShape, with_entry}
use Rattle.asp_model.specs.Intent.{Effect, Intent, intent}
use Rattle.asp_model.specs.Names.{FutureShape, Name, name_cmp}
use Rattle.asp_model.specs.Step.{with_effect}
use Rattle.def_journals.specs.Communications.{is_communication}
use Rattle.def_journals.specs.Edges.{after_events}
use Rattle.def_journals.specs.Journals.{RunShape}
use Rattle.def_journals.specs.Owed.{need_of, need_to}
use Rattle.def_journals.specs.Passing.{effect_events, entry_events}
use Rattle.law_chases.proofs.MapLemmas as Maps
use Rattle.law_steps.proofs.NameLemmas.{name_same, name_total}
use Rattle.law_chases.proofs.FutureLemmas.{no_some}
use Rattle.code_table.specs.declared.code.Node.{Node}
use Rattle.future_update.specs.Holders.{IsTurned}
use Rattle.core_edges.specs.declared.edges.Edges.{Edges}
use Rattle.core_edges.specs.Labels.{AreByLabels}
use Rattle.core_edges.specs.Strategies.{KeepsEdges}
use Rattle.law_core.specs.Commits.{HasRun, made_by, returned, with_activity}
use Rattle.law_core.proofs.EventLemmas.{acts_are_events, runs_are_silent}
use Rattle.core_state.specs.declared.state.CoreState.{CoreState}
use Rattle.core_state.specs.Arrivals.{act_at}
use Rattle.core_state.specs.Commits.{act_by, act_of, act_within}
use Rattle.asp_core.specs.Bringing.{IsBroughtBack, IsCome, IsComeBy}
use Rattle.asp_core.specs.Runs.{Stand, counted}
use Rattle.asp_core.proofs.PlanLemmas.{labels_kept}
use Rattle.asp_core.proofs.StandLemmas.{comes_back}

-- what acts so has no need
no_need_by : (o : Option (FutureShape × ℕ)) (b : Bool) (p : Intent) (e : Effect) → elim o [ Some x ↦ None | None ↦ act_by b p ] ≡ Some e → o ≡ None
no_need_by None b p e is = refl
no_need_by (Some x) b p e is = no_some is

within_some : (rest : ℕ) (o : Option Effect) (e : Effect) → act_within rest o ≡ Some e → o ≡ Some e
within_some zero o e is = no_some is
within_some (suc rest) o e is = is

need_in : (c : Configuration) (n : Name) (a : Activity) → need_to (with_activity n a c) n ≡ need_of (chase c.futures) a
need_in c n a =
    ap (λ (o : Option Activity). elim o [ None ↦ None | Some b ↦ need_of (chase c.futures) b ])
    (Maps.find_same name_cmp name_total name_same n a c.activities)

pub no_need : (s : RunShape) (n : Name) (grant taken : ℕ) (end : Activity) (e : Effect) → act_at s n grant taken end ≡ Some e
    → need_to (with_activity n end s.configuration) n ≡ None
no_need s n grant taken end e is =
    let chases = chase s.configuration.futures in
    let rs = requests_of s.configuration n in
    need_in s.configuration n end
    ∙ no_need_by (need_of chases end) (is_communication chases end) (intent chases rs n end) e
    (within_some (grant - taken) (act_of chases rs n end) e is)

module _ {P : Type 0} (homes : List (FutureShape × Name)) (h : HistoryShape) (code : List Node) (s : RunShape) (x : CoreState) (v : Edges P) (st : Stand h code s x v.holders) (labels : AreByLabels homes s.configuration v)
    (k : ℕ) (n : Name) (grant taken : ℕ) (y : CoreState) (u w : Edges P) (keeps : KeepsEdges u w) (even : length u.holders.answers ≡ length u.holders.holders.edges)
    (turned : IsTurned k false u.holders.activities w.holders.activities) where
  module _ (end : Activity) (has_run : HasRun s k grant n taken end) where
    ran_back : act_at s n grant taken end ≡ None → IsComeBy h code s k n grant taken end None y v u → IsBroughtBack homes h code s k n grant taken y w
    ran_back none r =
        let c : Configuration = with_activity n end s.configuration in
        let t : RunShape = returned s k (grant - taken) c [] in
        record {
          end = end;
          has_run = has_run;
          after = t;
          stand = subst (λ q. Stand (with_entry h (Committed k q)) code t y w.holders) (sym (ap (counted taken) none))
              (comes_back h code s x v.holders st u.holders w.holders y k taken (grant - taken) c [] r.0
              (ap (λ (q : Edges P). q.holders.holders) r.1 ∙ ap (λ es. after_events es v.holders.holders) (sym (runs_are_silent s k grant n taken end has_run)))
              even (ap (λ (q : Edges P). q.holders.activities) r.1 ∙ sym (append-nil v.holders.activities)) turned keeps.holders keeps.answers);
          labels = labels_kept homes s.configuration c v w refl (subst (λ q. KeepsEdges q w) r.1 keeps) labels;
        }

    acted_back : (e : Effect) → act_at s n grant taken end ≡ Some e → IsComeBy h code s k n grant taken end (Some e) y v u → IsBroughtBack homes h code s k n grant taken y w
    acted_back e some r =
        let acted = r.1 in
        let c : Configuration = with_effect n e (with_activity n end s.configuration) in
        let t : RunShape = returned s k (grant - suc taken) c (made_by e.made) in
        let events : entry_events (Committed k (suc taken)) s ≡ effect_events n [] e = acts_are_events s k grant n taken end e has_run (no_need s n grant taken end e some) r.0 in
        record {
          end = end;
          has_run = has_run;
          after = t;
          stand = subst (λ q. Stand (with_entry h (Committed k q)) code t y w.holders) (sym (ap (counted taken) some))
              (comes_back h code s x v.holders st u.holders w.holders y k (suc taken) (grant - suc taken) c (made_by e.made) acted.core
              (acted.told.holders ∙ ap (λ es. after_events es v.holders.holders) (sym events))
              even acted.told.activities turned keeps.holders keeps.answers);
          labels = labels_kept homes c c u w refl keeps (acted.labels homes labels);
        }

    back_by : (o : Option Effect) → act_at s n grant taken end ≡ o → IsComeBy h code s k n grant taken end o y v u → IsBroughtBack homes h code s k n grant taken y w
    back_by None is r = ran_back is r
    back_by (Some e) is r = acted_back e is r

  pub brought_back : IsCome h code s k n grant taken y v u → IsBroughtBack homes h code s k n grant taken y w
  brought_back r = back_by r.end r.has_run (act_at s n grant taken r.end) refl r.come
