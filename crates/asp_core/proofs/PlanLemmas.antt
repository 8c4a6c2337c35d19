-- Strategies stay those of labels, and answers those of the plan.
use Rattle.std.proofs.Common.{◌≡◌, ◌∙◌, ◌++◌, ◌∷◌, Bool, true, false, List, [], Option, Some, None, is_some, refl, sym, ap, subst}
use Rattle.asp_model.specs.Configuration.{Configuration, RequestShape}
use Rattle.asp_model.specs.History.{ChoiceShape, DeliveryShape, Edge, Need}
use Rattle.asp_model.specs.Names.{FutureShape, Name}
use Rattle.law_steps.specs.Sound.{IsSound}
use Rattle.def_journals.specs.Deliveries.{edge_delivered, need_delivered}
use Rattle.def_journals.specs.Edges.{EdgeShape, HoldersShape, home_of, no_holders}
use Rattle.def_journals.specs.Journals.{RunShape, delivered, over}
use Rattle.law_journals.specs.EdgesKept.{IsKnownEdge}
use Rattle.law_steps.specs.Kept.{Stands}
use Rattle.law_steps.specs.Linked.{Each}
use Rattle.law_steps.proofs.DeliveryLemmas.{edge_done, need_done}
use Rattle.law_steps.proofs.EachLemmas.{each_weaker}
use Rattle.law_chases.proofs.FutureLemmas.{no_some, none_true, some_is}
use Rattle.request_queue.specs.Requests.{request_shape}
use Rattle.step_activity.specs.declared.act.Given.{Given}
use Rattle.step_activity.specs.declared.act.Given.TheVariants as given
use Rattle.update_policy.specs.declared.plan.Plan.{Plan}
use Rattle.update_policy.specs.declared.strategy.Policies.{Policies}
use Rattle.update_policy.specs.declared.strategy.Strategy.{Strategy}
use Rattle.update_policy.specs.Plans.{plan_shape, strategy_by}
use Rattle.law_journals.specs.Runs.{AreHoldersOf}
use Rattle.law_journals.proofs.RunLemmas.{homes_are_of_begun}
use Rattle.core_edges.specs.declared.edges.Edges.{Edges}
use Rattle.core_edges.specs.Answers.{Answering, AreAnswered, AreAsked, Counting, IsAsked}
use Rattle.core_edges.specs.Given.{AreLearned, IsSomeFresh}
use Rattle.core_edges.specs.Labels.{AreByLabels}
use Rattle.core_edges.specs.Strategies.{KeepsEdges, KeepsOthers, strategy_in}
use Rattle.core_edges.proofs.AnswerLemmas.{asked_then}
use Rattle.core_edges.proofs.PassingLemmas as passing
use Rattle.asp_core.specs.declared.cores.Core.{Core}
use Rattle.asp_core.specs.Cores.{IsRun, code_of, history_of}
use Rattle.asp_core.specs.Plans.{AreByPlan, KeepsStrategies, StayByPlan}
use Rattle.asp_core.proofs.AnswerLemmas.{same_strategies}
use Rattle.asp_core.proofs.StandLemmas.{holders_are, known}

-- A delivery brings no request

over_received : (s t : RunShape) (b : Bool) (o : Option Configuration) → ((d : Configuration) → o ≡ Some d → d.received ≡ s.configuration.received)
    → elim b as (λ q. Option RunShape) [ true ↦ over s o | false ↦ None ] ≡ Some t → t.configuration.received ≡ s.configuration.received
over_received s t true None same e = no_some e
over_received s t true (Some d) same e = ap (λ (r : RunShape). r.configuration.received) (sym (some_is e)) ∙ same d refl
over_received s t false o same e = no_some e

pub received_stay : (d : DeliveryShape) (s t : RunShape) → delivered d s ≡ Some t → t.configuration.received ≡ s.configuration.received
received_stay (Edge f from to) s t e =
    over_received s t _ (edge_delivered s.configuration f to) (λ d is. ap (λ (c : Configuration). c.received) (edge_done s.configuration f to d is).result) e
received_stay (Need f to place) s t e =
    over_received s t _ (need_delivered s.configuration f to place) (λ d is. ap (λ (c : Configuration). c.received) (need_done s.configuration f to place d is).result) e

module _ {P : Type 0} where
  -- Labels

  pub labels_stay : (homes : List (FutureShape × Name)) (c d : Configuration) (old new : Edges P) → d.received ≡ c.received → new.plan ≡ old.plan → ((f : FutureShape) → strategy_in new f ≡ strategy_in old f)
      → AreByLabels homes c old → AreByLabels homes d new
  labels_stay homes c d old new received plan stay labels m k r st out =
      stay r.future
      ∙ labels m k r (subst (λ (x : List (Name × List RequestShape)). Stands (record d { received = x }) m k r) received st) out
      ∙ ap (λ p. strategy_by (plan_shape p) r.label) (sym plan)

  kept_strategies : (old new : Edges P) → KeepsEdges old new → (f : FutureShape) → strategy_in new f ≡ strategy_in old f
  kept_strategies old new keeps f = ap (λ (q : FutureShape → Strategy). q f) (sym (same_strategies old new keeps))

  pub labels_kept : (homes : List (FutureShape × Name)) (c d : Configuration) (old new : Edges P) → d.received ≡ c.received → KeepsEdges old new → AreByLabels homes c old → AreByLabels homes d new
  labels_kept homes c d old new received keeps = labels_stay homes c d old new received keeps.plan (kept_strategies old new keeps)

  -- Strategies

  learned_stay : (old new : Edges P) (g : Given) → IsSomeFresh old.holders.holders g → AreLearned g old new → (f : FutureShape) → is_some (home_of f old.holders.holders.homes) ≡ true
      → strategy_in new f ≡ strategy_in old f
  learned_stay old new given.Nothing fresh learned f home = learned f
  learned_stay old new (given.Made n a) fresh learned f home = learned f
  learned_stay old new (given.Sent n r) fresh learned f home =
      let homes = old.holders.holders.homes in
      let none = fresh.3.sent (n, request_shape r) fresh.2.0 in
      learned.others f (λ same. none_true (sym (ap is_some (ap (λ q. home_of q homes) (sym same) ∙ none)) ∙ home))
  learned_stay old new (given.Filled g p) fresh learned f home = learned f
  learned_stay old new given.Polled fresh learned f home = learned f

  pub learned_keeps : (old new : Edges P) (g : Given) → IsSomeFresh old.holders.holders g → AreLearned g old new → new.plan ≡ old.plan → KeepsStrategies old new
  learned_keeps old new g fresh learned plan = record { plan = plan; strategies = learned_stay old new g fresh learned }

  pub keeps_then : (old mid new : Edges P) → KeepsStrategies old mid → KeepsEdges mid new → KeepsStrategies old new
  keeps_then old mid new first then = record {
    plan = then.plan ∙ first.plan;
    strategies = λ f home. kept_strategies mid new then f ∙ first.strategies f home;
  }

  pub keeps_itself : (x : Edges P) → KeepsStrategies x x
  keeps_itself x = record { plan = refl; strategies = λ f home. refl }

  -- Answers

  module _ (answers : Answering P) (counts : Counting P) where
    pub others_stay : (old new : Edges P) → KeepsOthers old new → (f : FutureShape) → strategy_in new f ≡ strategy_in old f
    others_stay old new others f = ap (λ (q : FutureShape → Strategy). q f) (passing.same_strategies answers counts old new others)

    pub others_keep : (old new : Edges P) → KeepsOthers old new → KeepsStrategies old new
    others_keep old new others = record { plan = others.plan; strategies = λ f home. others_stay old new others f }

    -- by strategies that are the same for each of these edges
    asked_with : (one other : FutureShape → Strategy) (xs : List EdgeShape) (cs : List ChoiceShape) (old new : Policies P) → Each (λ (x : EdgeShape). other x.future ≡ one x.future) xs
        → AreAsked answers counts one xs cs old new → AreAsked answers counts other xs cs old new
    asked_with one other [] [] old new same asked = asked
    asked_with one other [] (c ∷ cs) old new same asked = absurd asked
    asked_with one other (x ∷ xs) [] old new same asked = absurd asked
    asked_with one other (x ∷ xs) (c ∷ cs) old new same asked = (
      asked.0,
      subst (λ q. IsAsked answers counts q x c old asked.0) (sym same.0) asked.1,
      asked_with one other xs cs asked.0 new same.1 asked.2,
    )

    pub by_plan_begun : (plan : Plan) (policies : Policies P) (x : Edges P) → x.holders.holders ≡ no_holders → x.holders.answers ≡ [] → x.plan ≡ plan → x.policies ≡ policies
        → AreByPlan answers counts plan policies x
    by_plan_begun plan policies x holders none same kept = record {
      same = same;
      asked = subst (λ (h : HoldersShape). AreAsked answers counts (strategy_in x) h.edges x.holders.answers policies x.policies) (sym holders)
          (subst (λ cs. AreAsked answers counts (strategy_in x) [] cs policies x.policies) (sym none) kept);
    }

    -- only who is known and who is out has changed
    pub by_plan_kept : (old new : Edges P) → KeepsEdges old new → StayByPlan answers counts old new
    by_plan_kept old new keeps plan policies is = record {
      same = keeps.plan ∙ is.same;
      asked = subst (λ (h : HoldersShape). AreAsked answers counts (strategy_in new) h.edges new.holders.answers policies new.policies) (sym keeps.holders)
          (subst (λ cs. AreAsked answers counts (strategy_in new) old.holders.holders.edges cs policies new.policies) (sym keeps.answers)
          (subst (λ p. AreAsked answers counts (strategy_in new) old.holders.holders.edges old.holders.answers policies p) (sym keeps.policies)
          (subst (λ q. AreAsked answers counts q old.holders.holders.edges old.holders.answers policies old.policies) (same_strategies old new keeps) is.asked)));
    }

    -- edges of a run are of futures that have a home
    at_home : (s : RunShape) → IsSound s.configuration → (x : Edges P) → AreHoldersOf s.configuration x.holders.holders
        → Each (IsKnownEdge s.configuration) x.holders.holders.edges → Each (λ (e : EdgeShape). is_some (home_of e.future x.holders.holders.homes) ≡ true) x.holders.holders.edges
    at_home s sound x are known =
        each_weaker (IsKnownEdge s.configuration) (λ (e : EdgeShape). is_some (home_of e.future x.holders.holders.homes) ≡ true)
        (λ e is. (homes_are_of_begun s.configuration x.holders.holders e.future sound are).0 is.0)
        x.holders.holders.edges known

    -- where edges arise, those that were there keep their answers
    by_plan_so : (old new : Edges P) → Each (λ (e : EdgeShape). is_some (home_of e.future old.holders.holders.homes) ≡ true) old.holders.holders.edges → KeepsStrategies old new
        → AreAnswered answers counts (strategy_in new) old new → StayByPlan answers counts old new
    by_plan_so old new home keeps more plan policies is =
        let xs = old.holders.holders.edges in
        let same = each_weaker (λ (e : EdgeShape). is_some (home_of e.future old.holders.holders.homes) ≡ true) (λ (e : EdgeShape). strategy_in new e.future ≡ strategy_in old e.future)
        (λ e at. keeps.strategies e.future at) xs home in
        record {
          same = keeps.plan ∙ is.same;
          asked = subst (λ es. AreAsked answers counts (strategy_in new) es new.holders.answers policies new.policies) (sym more.edges)
              (subst (λ cs. AreAsked answers counts (strategy_in new) (xs ++ more.added) cs policies new.policies) (sym more.kept)
              (asked_then answers counts (strategy_in new) xs more.added old.holders.answers more.given policies old.policies new.policies
              (asked_with (strategy_in old) (strategy_in new) xs old.holders.answers policies old.policies same is.asked) more.asked));
        }

    pub by_plan_on : (x : Core P) (s : RunShape) (new : Edges P) → IsRun x s → KeepsStrategies x.edges new → AreAnswered answers counts (strategy_in new) x.edges new
        → StayByPlan answers counts x.edges new
    by_plan_on x s new run =
        let h = history_of x in
        by_plan_so x.edges new (at_home s run.stand.core.whole.sound x.edges (holders_are h (code_of x) s x.state x.edges.holders run.stand) (known h (code_of x) s x.state x.edges.holders run.stand))
