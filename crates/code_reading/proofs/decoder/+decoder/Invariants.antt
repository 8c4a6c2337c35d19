use Rattle.std.proofs.Common.{◌≡◌, ◌+◌, ◌*◌, ◌++◌, map, take}
use Rattle.asp_model.specs.Shapes.{tree_of}
use Rattle.code_table.specs.Tables.{head_of, pieces}
use Rattle.code_reading.specs.Decoded.{rank, seen_tree, shown_body, shown_child}
use Rattle.code_table.specs.Parts.{body_tree, method_head}
use Rattle.code_reading.proofs.decoder.+decoder.Given as goal

abbrev pub decreases-child_term : goal.decreases-child_term
decreases-child_term l = 6 * rank l.child.now

abbrev pub decreases-node_term : goal.decreases-node_term
decreases-node_term l = 6 * l.number + 5

abbrev pub decreases-push_terms : goal.decreases-push_terms
decreases-push_terms l = 6 * l.number + 4

abbrev pub decreases-finished : goal.decreases-finished
decreases-finished l = 6 * l.number + 4

abbrev pub decreases-methods_of : goal.decreases-methods_of
decreases-methods_of l = 6 * l.number + 3

abbrev pub decreases-method_of : goal.decreases-method_of
decreases-method_of l = 6 * rank l.method.now.body + 2

abbrev pub decreases-method_over : goal.decreases-method_over
decreases-method_over l = 6 * rank l.method.now.body + 1

abbrev pub invariant-push_terms-loop-child : goal.invariant-push_terms-loop-child
invariant-push_terms-loop-child l = map tree_of l.terms.items ≡ map tree_of l.fn.terms.items ++ map (shown_child (map seen_tree l.kept) (pieces l.code)) (take l.child-index l.children)

abbrev pub invariant-methods_of-loop-method : goal.invariant-methods_of-loop-method
invariant-methods_of-loop-method l = record {
  heads : map method_head l.decoded.items ≡ map head_of (take l.method-index l.methods);
  bodies : map body_tree l.decoded.items ≡ map (shown_body (map seen_tree l.kept) (pieces l.code)) (take l.method-index l.methods);
}
