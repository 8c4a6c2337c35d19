use Rattle.std.proofs.Common.{◌≡◌, sym, ap, ◌∙◌}
use Rattle.code_table.specs.Tables.{pieces, piece_at}
use Rattle.step_machine.specs.Calls.{called_label}
use Rattle.step_machine.specs.Standing.{view_of}
use Rattle.activity_step.proofs.StandingLemmas.{called_at}
use Rattle.activity_step.proofs.standing.called_redex.Goals as goal

pub returns : goal.returns
returns c = record {
  redex = λ a h at.
      let k = c.args.code.now in
      let label : called_label (piece_at (pieces k) c.args.number) ≡ c.in-Some-call_label.label.now.label.text = ap called_label c.in-Some.ensures.piece ∙ c.in-Some-call_label.ensures.label (pieces k) in
      called_at k (view_of c.args.machine.now) c.args.number c.args.count c.in-Some-first_and_others.at c.in-Some-first_and_others.arguments _ a h at label (sym c.last_operands.ensures.operands ∙ c.in-Some-first_and_others.ensures.first);
}
