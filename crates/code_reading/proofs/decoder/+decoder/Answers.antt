use Rattle.std.proofs.Common.{◌≡◌, ◌∙◌, ◌<◌, ◌++◌, List, IfOk, length, sym, ap, subst, map, arith, get_or}
use Rattle.asp_model.specs.Shapes.{tree_of}
use Rattle.asp_model.specs.Term.{Tree}
use Rattle.code_table.specs.declared.code.Child.{Child}
use Rattle.code_table.specs.declared.code.Node.{Node}
use Rattle.code_table.specs.Pieces.{Piece}
use Rattle.code_table.specs.Sound.{AllBelow, IsBelow}
use Rattle.code_table.specs.Tables.{pieces}
use Rattle.code_reading.specs.Decoded.{finished_tree, seen_tree, shown_child}
use Rattle.code_reading.proofs.DecodeLemmas.{body_below, child_below, node_below, node_shown, walks_down, walks_in}
use Rattle.code_reading.proofs.decoder.+decoder.Goals as goal

pub methods_of-method_of-requires : goal.methods_of-method_of-requires
methods_of-method_of-requires t c =
    let m = c.method-item.result in
    let below : IsBelow c.args.number m.body = body_below c.args.number c.args.methods.now c.loop-method.method-index m c.loop-method-test.true c.method-item.is c.requires.below in
    let down = walks_in c.args.number (length c.args.code.now) m.body c.requires.within below in
    (omega (arith, down.0, c.decreases), down.1)

pub node_term-push_terms-requires : goal.node_term-push_terms-requires
node_term-push_terms-requires t c =
    let n : Node = c.index-nodes-number.result in
    let is : n ≡ get_or c.args.code.now c.args.number n = c.index-nodes-number.is ∙ ap (λ (ns : List Node). get_or ns c.args.number n) c.nodes.ensures.nodes in
    let below = node_below c.args.code.now c.args.number n c.requires.within is c.nodes.ensures.sound in
    let within : c.args.number < length c.args.code.now = c.requires.within in
    (omega (arith, c.decreases), (subst (AllBelow c.args.number) (sym c.deref.ensures.value) below.0, omega (arith, within)))

pub node_term-finished-requires : goal.node_term-finished-requires
node_term-finished-requires t c =
    let n : Node = c.index-nodes-number.result in
    let is : n ≡ get_or c.args.code.now c.args.number n = c.index-nodes-number.is ∙ ap (λ (ns : List Node). get_or ns c.args.number n) c.nodes.ensures.nodes in
    let below = node_below c.args.code.now c.args.number n c.requires.within is c.nodes.ensures.sound in
    let within : c.args.number < length c.args.code.now = c.requires.within in
    (omega (arith, c.decreases), (below.1, omega (arith, within)))

pub node_term-returns : goal.node_term-returns
node_term-returns t c =
    let n : Node = c.index-nodes-number.result in
    let ns : List Node = c.args.code.now in
    let ps : List Piece = pieces ns in
    let ts : List Tree = map seen_tree c.args.kept.now in
    let is : n ≡ get_or ns c.args.number n = c.index-nodes-number.is ∙ ap (λ (ms : List Node). get_or ms c.args.number n) c.nodes.ensures.nodes in
    let terms : map tree_of c.push_terms.new.terms.items ≡ map (shown_child ts ps) n.children.items =
    c.in_ok-push_terms.ensures.terms ∙ (λ i. map tree_of (c.new-terms.ensures.items i) ++ map (shown_child ts ps) (c.deref.ensures.value i)) in
    record {
      term = subst (λ (u : Tree). IfOk c.finished.result (λ r. tree_of r ≡ u))
          (ap (finished_tree ts ps n.kind) terms ∙ node_shown ts ns c.args.number n c.requires.within is c.nodes.ensures.sound) c.finished.ensures.term;
    }

pub push_terms-child_term-requires : goal.push_terms-child_term-requires
push_terms-child_term-requires t c =
    let x : Child = c.child-item.result in
    let below : IsBelow c.args.number x = child_below c.args.number c.args.children.now c.loop-child.child-index x c.loop-child-test.true c.child-item.is c.requires.below in
    let down = walks_down c.args.number (length c.args.code.now) x c.requires.within below in
    (omega (arith, down.0, c.decreases), down.1)
