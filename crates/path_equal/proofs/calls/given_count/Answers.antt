use Rattle.std.proofs.Common.{◌≡◌, ◌<◌, ◌≤◌, ◌∙◌, List, length, get_or, sym, ap, subst, arith}
use Rattle.code_table.specs.declared.code.Node.{Node}
use Rattle.code_table.specs.Tables.{node_piece, pieces}
use Rattle.code_table.proofs.TableLemmas.{node_here}
use Rattle.code_laws.specs.Nodes.{in_place}
use Rattle.path_equal.proofs.CallLemmas.{none_given}
use Rattle.path_equal.proofs.calls.given_count.Goals as goal

pub returns-then-number-nodes : goal.returns-then-number-nodes
returns-then-number-nodes c =
    let ns : List Node = c.args.code.now in
    let i = c.args.number in
    let n : Node = c.index-nodes-number.result in
    let within : i < length ns = subst (λ (ms : List Node). i < length ms) c.nodes-nodes.ensures.nodes c.if-number-nodes.true in
    let is : n ≡ get_or ns i n = c.index-nodes-number.is ∙ ap (λ (ms : List Node). get_or ms i n) c.nodes-nodes.ensures.nodes in
    record { count = c.in_place_count.ensures.count (pieces ns) ∙ ap in_place (ap (node_piece (pieces ns)) is ∙ sym (node_here ns i n within c.nodes-nodes.ensures.sound)) }

pub returns-else-number-nodes : goal.returns-else-number-nodes
returns-else-number-nodes c =
    let ns : List Node = c.args.code.now in
    let past : length c.nodes-nodes.result.now ≤ c.args.number = omega (arith, c.if-number-nodes.false) in
    record { count = none_given ns c.args.number (subst (λ (ms : List Node). length ms ≤ c.args.number) c.nodes-nodes.ensures.nodes past) }
