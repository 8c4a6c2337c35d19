use Rattle.std.proofs.Common.{◌≡◌, ap, subst, ◌∙◌}
use Rattle.asp_model.specs.Names.{Text}
use Rattle.code_table.specs.Tables.{pieces, piece_at}
use Rattle.step_machine.specs.Calls.{called_label}
use Rattle.step_machine.specs.Spreads.{IsAtCall}
use Rattle.step_machine.specs.Standing.{View, view_of}
use Rattle.step_machine.proofs.CallLemmas.{called}
use Rattle.activity_step.proofs.state.State.called_advance.Goals as goal

pub returns : goal.returns
returns c = record {
  advance = λ t vs s ls h at.
      let k = c.args.code.now in
      let v : View = view_of c.args.self.now.machine in
      let label : called_label (piece_at (pieces k) c.args.number) ≡ c.in-Some-call_label.label.now.label.text = ap called_label c.in-Some.ensures.piece ∙ c.in-Some-call_label.ensures.label (pieces k) in
      let here : IsAtCall k v c.args.number c.args.count c.in-Some-call_label.label.now.label.text t vs = subst (λ (l : Text). IsAtCall k v c.args.number c.args.count l t vs) label (called k v c.args.number c.args.count t vs h.machine at) in
      c.call_advance.ensures.advance t vs s ls h here;
}
