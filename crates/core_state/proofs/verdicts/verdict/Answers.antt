use Rattle.std.proofs.Common.{◌∙◌, Some, ap}
use Rattle.asp_model.specs.Shapes.{verdict_shape}
use Rattle.core_state.specs.Verdicts.{IsStill}
use Rattle.core_state.proofs.VerdictLemmas.{goes_told, rest_told, still_told}
use Rattle.core_state.proofs.verdicts.verdict.Goals as goal

pub returns-then-goes_on : goal.returns-then-goes_on
returns-then-goes_on c = record { verdict = λ h code s core holders answers due. goes_told h code c.args.state.now s core holders answers (c.if-goes_on.ensures.goes_on h code s core) }

pub returns : goal.returns
returns c = record {
  verdict = λ h code s core holders answers due.
      let still : IsStill s = c.if-goes_on.ensures.goes_on h code s core in
      still_told h code c.args.state.now s core holders answers still (due ∙ c.if-is_edge_due.false)
      ∙ ap Some (rest_told h code c.args.state.now s core still (verdict_shape c.verdict_at_rest.result) c.verdict_at_rest.ensures.verdict);
}
