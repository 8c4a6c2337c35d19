use Rattle.std.proofs.Common.{refl, sym, ◌∙◌}
use Rattle.asp_model.specs.Shapes.{future_shape}
use Rattle.update_policy.specs.declared.strategy.Strategy.TheVariants.{Lazy, Forward, Message}
use Rattle.core_edges.proofs.AnswerLemmas.{both_ok}
use Rattle.core_edges.proofs.PassingLemmas.{one_passed}
use Rattle.core_edges.proofs.edges.Edges.pass.Goals as goal

pub returns-in-Lazy : goal.returns-in-Lazy
returns-in-Lazy g c =
    let old = c.args.self.now in
    let call = c.passed in
    let new = record old { holders = call.new.self; policies = record old.policies { lazy = call.new.policy } } in
    record {
      passed = both_ok call.result (λ holders kept. one_passed g.P.UpdatePolicy.answer g.P.UpdatePolicy.asked Lazy (future_shape c.args.future.now) c.args.from.now c.args.to.now old new (sym c.in-Lazy.is ∙ c.strategy_of.ensures.strategy) holders kept (record { activities = call.ensures.activities; plan = refl; strategies = refl }) call.ensures.asked (refl, refl) (λ e i. record old.policies { lazy = call.ensures.nobody e i })) call.ensures.edges call.ensures.answers;
    }

pub returns-in-Forward : goal.returns-in-Forward
returns-in-Forward g c =
    let old = c.args.self.now in
    let call = c.passed-in-Forward in
    let new = record old { holders = call.new.self; policies = record old.policies { forward = call.new.policy } } in
    record {
      passed = both_ok call.result (λ holders kept. one_passed g.P.UpdatePolicy.answer g.P.UpdatePolicy.asked Forward (future_shape c.args.future.now) c.args.from.now c.args.to.now old new (sym c.in-Forward.is ∙ c.strategy_of.ensures.strategy) holders kept (record { activities = call.ensures.activities; plan = refl; strategies = refl }) call.ensures.asked (refl, refl) (λ e i. record old.policies { forward = call.ensures.nobody e i })) call.ensures.edges call.ensures.answers;
    }

pub returns-in-Message : goal.returns-in-Message
returns-in-Message g c =
    let old = c.args.self.now in
    let call = c.passed-in-Message in
    let new = record old { holders = call.new.self; policies = record old.policies { message = call.new.policy } } in
    record {
      passed = both_ok call.result (λ holders kept. one_passed g.P.UpdatePolicy.answer g.P.UpdatePolicy.asked Message (future_shape c.args.future.now) c.args.from.now c.args.to.now old new (sym c.in-Message.is ∙ c.strategy_of.ensures.strategy) holders kept (record { activities = call.ensures.activities; plan = refl; strategies = refl }) call.ensures.asked (refl, refl) (λ e i. record old.policies { message = call.ensures.nobody e i })) call.ensures.edges call.ensures.answers;
    }
