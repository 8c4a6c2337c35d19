use Rattle.std.proofs.Common.{rules, ◌≡◌, ℕ, List, sym, ap, ◌∙◌, arith}
use Rattle.code_table.specs.declared.code.Node.{Node}
use Rattle.code_table.specs.Tables.{node_piece, piece_at, pieces}
use Rattle.code_laws.specs.Nodes.{in_place}
use Rattle.step_machine.proofs.calls.have_results.Goals as goal

pub returns : goal.returns
returns c = record {
  there = λ yes.
      let k : List Node = c.args.nodes.now in
      let members : ℕ = c.args.members in
      let is : piece_at (pieces k) c.args.number ≡ node_piece (pieces k) c.in-Some.node.now = c.in-Some.ensures.piece c.requires.sound in
      let given : c.in_place_count.result ≡ in_place (piece_at (pieces k) c.args.number) = c.in_place_count.ensures.count (pieces k) ∙ ap in_place (sym is) in
      let all : c.in-Some-results_in.results ≡ members = search (rules, yes) in
      omega (arith, given, all, c.in-Some-results_in.ensures.results);
}
