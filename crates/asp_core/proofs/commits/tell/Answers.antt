use Rattle.std.proofs.Common.{◌≡◌, false, refl, sym, subst}
use Rattle.asp_model.specs.Step.{with_effect}
use Rattle.future_update.specs.Holders.{is_met}
use Rattle.asp_core.specs.Bringing.{IsUnmet}
use Rattle.asp_core.proofs.AnswerLemmas.{answered_then}
use Rattle.asp_core.proofs.PlanLemmas.{keeps_then, labels_kept, learned_keeps}
use Rattle.asp_core.proofs.commits.tell.Goals as goal

pub met-requires : goal.met-requires
met-requires g c = record {
  new = subst (λ a. is_met c.in-Made.name a ≡ false) (sym c.in_ok-given.ensures.activities) (subst (λ q. IsUnmet q c.args.edges.now.holders.activities) c.in-Made.is c.requires.unmet);
}

pub returns-in_ok-met-in-Made-clause-answers : goal.returns-in_ok-met-in-Made-clause-answers
returns-in_ok-met-in-Made-clause-answers g c =
    answered_then g.P.UpdatePolicy.answer g.P.UpdatePolicy.asked c.args.edges.now c.given.new.self c.met.new.self c.in_ok-given.ensures.answers c.met.ensures.edges

pub returns-in_ok-met-in-Made-clause-labels : goal.returns-in_ok-met-in-Made-clause-labels
returns-in_ok-met-in-Made-clause-labels g c = λ homes d n e new given labels.
    let after = with_effect n e d in
    labels_kept homes after after c.given.new.self c.met.new.self refl c.met.ensures.edges (c.in_ok-given.ensures.labels homes d n e new given labels)

pub returns-in_ok-met-in-Made-clause-keeps : goal.returns-in_ok-met-in-Made-clause-keeps
returns-in_ok-met-in-Made-clause-keeps g c =
    let x = c.args.edges.now in
    let y = c.given.new.self in
    keeps_then x y c.met.new.self (learned_keeps x y c.args.given.now c.requires.fresh c.in_ok-given.ensures.strategies c.in_ok-given.ensures.plan) c.met.ensures.edges

pub returns-in-Nothing-clause-labels : goal.returns-in-Nothing-clause-labels
returns-in-Nothing-clause-labels g c = λ homes d n e new given labels. c.in_ok-given.ensures.labels homes d n e new given labels

pub returns-in-Nothing-clause-keeps : goal.returns-in-Nothing-clause-keeps
returns-in-Nothing-clause-keeps g c = learned_keeps c.args.edges.now c.given.new.self c.args.given.now c.requires.fresh c.in_ok-given.ensures.strategies c.in_ok-given.ensures.plan

pub returns-in-Nothing-2-clause-keeps : goal.returns-in-Nothing-2-clause-keeps
returns-in-Nothing-2-clause-keeps g c = learned_keeps c.args.edges.now c.given.new.self c.args.given.now c.requires.fresh c.in_ok-given.ensures.strategies c.in_ok-given.ensures.plan
