use Rattle.std.proofs.Common.{◌≡◌, ◌+◌, List, length, sym, ap, subst, ◌∙◌, arith}
use Rattle.asp_model.specs.declared.word.Label.{Label}
use Rattle.code_table.specs.declared.code.Node.{Node}
use Rattle.code_table.specs.Sound.{IsSound}
use Rattle.code_table.specs.Tables.{node_piece, piece_at, pieces}
use Rattle.code_laws.specs.Nodes.{in_place}
use Rattle.step_machine.specs.Calls.{beside_count, called_label}
use Rattle.code_reading.proofs.GroupLemmas.{results_are}
use Rattle.code_reading.proofs.groups.found_in.Goals as goal

pub returns : goal.returns
returns c =
    let k : List Node = c.args.code.now in
    let e : c.nodes-nodes.result.now ≡ k = c.nodes-nodes.ensures.nodes in
    let is : piece_at (pieces k) c.args.number ≡ node_piece (pieces k) c.in-Some.node.now =
    subst (λ (q : List Node). IsSound q → piece_at (pieces q) c.args.number ≡ node_piece (pieces q) c.in-Some.node.now) e c.in-Some.ensures.piece c.nodes-nodes.ensures.sound in
    let given : c.in_place_count-given.result ≡ in_place (piece_at (pieces k) c.args.number) = c.in_place_count-given.ensures.count (pieces k) ∙ ap in_place (sym is) in
    let all : length c.args.own.now ≡ in_place (piece_at (pieces k) c.args.number) + c.args.members + beside_count c.args.spread c.args.members + c.in-Some-results_in.count = omega (arith, given, c.in-Some-results_in.ensures.results) in
    record {
      label = ap called_label is ∙ c.in-Some-call_label.ensures.label (pieces k) ∙ sym (ap (λ (l : Label). l.text) c.as_label.ensures.label);
      given = given;
      results = λ l. c.last_of-results.ensures.places ∙ results_are k c.args.spread c.args.number c.args.members c.args.own.now l c.in-Some-results_in.count all;
    }
