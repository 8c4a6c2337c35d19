use Rattle.std.proofs.Common.{rules, ◌≡◌, ℕ, List, sym, ap, subst, ◌∙◌}
use Rattle.code_table.specs.declared.code.Node.{Node}
use Rattle.code_table.specs.Pieces.{Piece}
use Rattle.code_table.specs.Tables.{node_piece, piece_at, pieces}
use Rattle.code_laws.specs.Nodes.{in_place}
use Rattle.step_machine.specs.Sequences.{later}
use Rattle.step_machine.specs.Stacks.{piece_from}
use Rattle.step_machine.specs.Standing.{View, view_of}
use Rattle.step_machine.specs.Views.{IsSettledAt}
use Rattle.step_machine.proofs.machine.Machine.is_at_redex.Goals as goal

pub returns : goal.returns
returns c = record {
  settled = λ t vs h yes.
      let k : List Node = c.args.nodes.now in
      let v : View = view_of c.args.self.now in
      let number : ℕ = c.in-Node.number in
      let from : ℕ = c.in-Node.from in
      let n : Node = c.in-Some.node.now in
      let is : piece_at (pieces k) number ≡ node_piece (pieces k) n = c.in-Some.ensures.piece c.requires.sound in
      let count : c.in_place_count-count.result ≡ in_place (later from (node_piece (pieces k) n)) = c.in_place_count-count.ensures.count (pieces k) in
      let all : c.in-Node.done ≡ c.in_place_count-count.result = search (rules, yes) in
      let full : c.in-Node.done ≡ in_place (piece_from k number from) = all ∙ count ∙ ap (λ (p : Piece). in_place (later from p)) (sym is) in
      record { standing = h; settled = subst (IsSettledAt k v.frames) (sym c.in-Node.is) full };
}
