use Rattle.std.proofs.Common.{◌≡◌, ◌∙◌, ◌<◌, List, ℕ, length, sym, ap, subst, arith, get_or}
use Rattle.std.specs.List.{flat_map}
use Rattle.std.specs.Option.{option_to_list}
use Rattle.asp_model.specs.Term.{locations_below}
use Rattle.code_table.specs.declared.code.Child.{Child}
use Rattle.code_table.specs.declared.code.Node.{Node}
use Rattle.code_table.specs.Pieces.{Piece}
use Rattle.code_table.specs.Sound.{AllBelow, IsBelow}
use Rattle.code_table.specs.Tables.{pieces}
use Rattle.code_table.proofs.GrowthLemmas.{below_more}
use Rattle.code_reading.proofs.DecodeLemmas.{child_below, node_below, rank_below}
use Rattle.path_equal.specs.Held.{child_held, methods_behind}
use Rattle.path_equal.specs.Searches.{searched}
use Rattle.path_equal.proofs.HeldLemmas.{kind_sound, leaf_found, node_found, one_more}
use Rattle.path_equal.proofs.SearchLemmas.{searched_both}
use Rattle.path_equal.proofs.code.+terms.Goals as goal

pub past_child-returns-in-Leaf : goal.past_child-returns-in-Leaf
past_child-returns-in-Leaf t c =
    let ns = c.args.places.now in
    record {
      searched = c.past_some.ensures.searched ∙ (λ i. searched (option_to_list (c.place_of.ensures i)) c.args.search) ∙ sym (ap (λ (xs : List ℕ). searched xs c.args.search) (ap (child_held ns (pieces c.args.code.now)) c.in-Leaf.is ∙ leaf_found ns c.in-Leaf.leaf));
    }

pub past_children-past_child-search-requires : goal.past_children-past_child-search-requires
past_children-past_child-search-requires t c =
    let x : Child = c.child-item.result in
    let below : IsBelow c.args.number x = child_below c.args.number c.args.children.now c.loop-child.child-index x c.loop-child-test.true c.child-item.is c.requires.below in
    let low = rank_below c.args.number x below in
    (omega (arith, low, c.decreases), below_more c.args.number (length c.args.code.now) x c.requires.within below)

pub past_children-loop-child-preserved : goal.past_children-loop-child-preserved
past_children-loop-child-preserved t c =
    let x : Child = c.child-item.result in
    one_more (child_held c.args.places.now (pieces c.args.code.now)) c.args.children.now c.loop-child.child-index x x c.args.start c.loop-child.search c.past_child-search.result c.loop-child-test.true c.child-item.is c.loop-child.invariant c.past_child-search.ensures.searched

pub past_node-past_children-search-requires : goal.past_node-past_children-search-requires
past_node-past_children-search-requires t c =
    let n : Node = c.index-nodes-number.result in
    let is : n ≡ get_or c.args.code.now c.args.number n = c.index-nodes-number.is ∙ ap (λ (ns : List Node). get_or ns c.args.number n) c.nodes.ensures.nodes in
    let below = node_below c.args.code.now c.args.number n c.requires.within is c.nodes.ensures.sound in
    let within : c.args.number < length c.args.code.now = c.requires.within in
    (omega (arith, c.decreases), (subst (AllBelow c.args.number) (sym c.deref.ensures.value) below.0, omega (arith, within)))

pub past_node-returns : goal.past_node-returns
past_node-returns t c =
    let n : Node = c.index-nodes-number.result in
    let ks = c.args.places.now in
    let ns : List Node = c.args.code.now in
    let ps : List Piece = pieces ns in
    let is : n ≡ get_or ns c.args.number n = c.index-nodes-number.is ∙ ap (λ (ms : List Node). get_or ms c.args.number n) c.nodes.ensures.nodes in
    let terms : List ℕ = flat_map (child_held ks ps) n.children.items in
    let methods : List ℕ = locations_below (methods_behind ks ps n.kind) in
    let first = c.past_children-search.ensures.searched ∙ ap (λ (cs : List Child). searched (flat_map (child_held ks ps) cs) c.args.start) c.deref.ensures.value in
    record {
      searched = c.past_kind.ensures.searched ps (kind_sound ns c.args.number n c.requires.within is c.nodes.ensures.sound)
          ∙ ap (searched methods) first ∙ sym (searched_both terms methods c.args.start)
          ∙ sym (ap (λ (xs : List ℕ). searched xs c.args.start) (node_found ks ns c.args.number n c.requires.within is c.nodes.ensures.sound));
    }
