use Rattle.std.proofs.Common.{◌≡◌, ◌∙◌, None, Some, sym, ap, subst, rules}
use Rattle.std.specs.Arc.{arc_value}
use Rattle.std.specs.BTreeMap as trees
use Rattle.asp_model.specs.declared.name.FutureName.{FutureName}
use Rattle.asp_model.specs.declared.word.Label.{Label}
use Rattle.code_table.specs.declared.future.Future.{Future}
use Rattle.update_policy.specs.Plans.{or_strategy, plan_shape, strategy_by}
use Rattle.core_edges.proofs.StrategyLemmas.{future_order, others_keep}
use Rattle.core_edges.proofs.edges.Edges.learn.Goals as goal

pub returns-then-eq-clause-learned : goal.returns-then-eq-clause-learned
returns-then-eq-clause-learned g c =
    let old = c.args.self.now in
    let future : FutureName = (arc_value c.args.request.now.future).name in
    let usual : c.strategy_of-strategy.result ≡ old.plan.strategy = search rules in
    let told = subst (λ (f : FutureName). trees.UpdatesBy future_order (future_order f) old.strategies c.remove-other.new.self None) (ap (λ (f : Future). f.name) c.deref.ensures) c.remove-other.ensures.updates in
    record {
      here = ap (or_strategy old.plan.strategy) told.1 ∙ sym usual ∙ c.strategy_of-strategy.ensures.strategy
          ∙ ap (λ (l : Label). strategy_by (plan_shape old.plan) l.text) c.as_label.ensures.label;
      others = others_keep old.plan.strategy old.strategies c.remove-other.new.self future None told;
    }

pub returns-clause-learned : goal.returns-clause-learned
returns-clause-learned g c =
    let old = c.args.self.now in
    let future : FutureName = (arc_value c.args.request.now.future).name in
    let named : c.in_ok-future.future ≡ future = c.in_ok-future.ensures.name ∙ ap (λ (f : Future). f.name) c.deref-2.ensures in
    let told = subst (λ (f : FutureName). trees.UpdatesBy future_order (future_order f) old.strategies c.insert.new.self (Some c.strategy_of-strategy.result)) named c.in_ok-insert.ensures.updates in
    record {
      here = ap (or_strategy old.plan.strategy) told.1 ∙ c.strategy_of-strategy.ensures.strategy
          ∙ ap (λ (l : Label). strategy_by (plan_shape old.plan) l.text) c.as_label.ensures.label;
      others = others_keep old.plan.strategy old.strategies c.insert.new.self future (Some c.strategy_of-strategy.result) told;
    }
