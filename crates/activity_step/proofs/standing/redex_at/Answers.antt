use Rattle.std.proofs.Common.{◌≡◌, ℕ, List, sym, ap, subst, ◌∙◌, arith}
use Rattle.code_table.specs.declared.code.Node.{Node}
use Rattle.code_table.specs.Pieces.{Piece}
use Rattle.code_table.specs.Tables.{pieces}
use Rattle.code_laws.specs.Nodes.{in_place}
use Rattle.step_machine.specs.Rows.{AtNode}
use Rattle.step_machine.specs.Sequences.{later}
use Rattle.step_machine.specs.Stacks.{piece_from}
use Rattle.step_machine.specs.Standing.{View, view_of}
use Rattle.activity_step.specs.Shown.{IsShown}
use Rattle.activity_step.proofs.StandingLemmas.{shown_at}
use Rattle.activity_step.proofs.standing.redex_at.Goals as goal

pub returns : goal.returns
returns c = record {
  redex = λ a h at.
      let k : List Node = c.args.code.now in
      let v : View = view_of c.args.machine.now in
      let n : Node = c.in-Some.node.now in
      let same : c.args.done ≡ c.in_place_count.result = omega (arith, c.if-done-in_place_count.false) in
      let done : c.args.done ≡ in_place (piece_from k c.args.number c.args.from) = same ∙ c.in_place_count.ensures.count (pieces k) ∙ ap (λ (p : Piece). in_place (later c.args.from p)) (sym c.in-Some.ensures.piece) in
      let here : AtNode k v c.args.number c.args.from c.args.done n = record { focus = at; full = done; node = c.in-Some.ensures.piece } in
      shown_at k v c.args.number c.args.from c.args.done n a c.in-Some-redex_of.redex h here (subst (λ (l : List ℕ). IsShown n.kind l c.in-Some-redex_of.redex) c.last_operands.ensures.operands c.in-Some-redex_of.ensures.shown);
}
