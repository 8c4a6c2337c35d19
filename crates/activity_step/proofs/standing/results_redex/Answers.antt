use Rattle.std.proofs.Common.{◌≡◌, List, subst}
use Rattle.code_table.specs.declared.code.Node.{Node}
use Rattle.step_machine.specs.Views.{all_done}
use Rattle.activity_step.proofs.StandingLemmas.{results_at}
use Rattle.activity_step.proofs.standing.results_redex.Goals as goal

pub returns-then-have_results : goal.returns-then-have_results
returns-then-have_results c = record {
  redex = λ a v h at.
      let k : List Node = c.args.code.now in
      let full : c.args.done ≡ all_done c.nodes.result.now c.args.spread c.args.number c.args.members = c.have_results.ensures.there c.if-have_results.true in
      results_at k v c.args.spread c.args.number c.args.members c.args.done a h at (subst (λ (m : List Node). c.args.done ≡ all_done m c.args.spread c.args.number c.args.members) c.nodes.ensures.nodes full);
}
