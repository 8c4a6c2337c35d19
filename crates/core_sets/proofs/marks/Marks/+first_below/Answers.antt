use Rattle.std.proofs.Common.{◌≡◌, ◌+◌, ◌-◌, ◌*◌, ◌<◌, ◌≤◌, ℕ, false, true, length, sym, ◌∙◌, arith}
use Rattle.std.proofs.lemmas.List.{get_or_read}
use Rattle.core_sets.specs.Marks.{node_at, room}
use Rattle.core_sets.proofs.MarkLemmas.{above_leaves, first_left, first_right, right_marked, within_children}
use Rattle.core_sets.proofs.marks.Marks.+first_below.Goals as goal

higher : (h : ℕ) → (h ≡ 0 → ⊥) → h ≡ h - 1 + 1
higher h e = omega (arith, e)

below : {t : ℕ} (c : goal.Else-height-eq0 t) → c.args.node + 1 ≤ room c.args.self.now
below c = above_leaves c.args.node c.args.height (c.args.height - 1) (room c.args.self.now) (higher c.args.height c.if-height-eq0.false) c.requires.within

pub index-requires : goal.index-requires
index-requires t c = omega (arith, below c, c.requires.tree.whole, c.args.self.now.nodes.ok.0)

pub first_below-requires : goal.first_below-requires
first_below-requires t c =
    let h = higher c.args.height c.if-height-eq0.false in
    let within = within_children c.args.node c.args.height (c.args.height - 1) (room c.args.self.now) h c.requires.within in
    let above = above_leaves c.args.node c.args.height (c.args.height - 1) (room c.args.self.now) h c.requires.within in
    let lt : 2 * c.args.node < length c.args.self.now.nodes.items = omega (arith, above, c.requires.tree.whole) in
    let left : node_at c.args.self.now.nodes.items (2 * c.args.node) ≡ true = sym (get_or_read c.args.self.now.nodes.items (2 * c.args.node) c.index.result.now lt c.index.ensures false) ∙ c.if-index.true in
    (omega (arith, c.decreases, c.if-height-eq0.false), (c.requires.tree, (omega (arith, c.requires.node), (within.0, left))))

pub first_below-requires-else-index : goal.first_below-requires-else-index
first_below-requires-else-index t c =
    let h = higher c.args.height c.if-height-eq0.false in
    let within = within_children c.args.node c.args.height (c.args.height - 1) (room c.args.self.now) h c.requires.within in
    let above = above_leaves c.args.node c.args.height (c.args.height - 1) (room c.args.self.now) h c.requires.within in
    let lt : 2 * c.args.node < length c.args.self.now.nodes.items = omega (arith, above, c.requires.tree.whole) in
    let left : node_at c.args.self.now.nodes.items (2 * c.args.node) ≡ false = sym (get_or_read c.args.self.now.nodes.items (2 * c.args.node) c.index.result.now lt c.index.ensures false) ∙ c.if-index.false in
    let right = right_marked c.args.self.now.nodes.items c.args.node (c.requires.tree.nodes c.args.node c.requires.node (omega (arith, above))) c.requires.marked left in
    (omega (arith, c.decreases, c.if-height-eq0.false), (c.requires.tree, (omega arith, (within.1, right))))

pub returns-then-index : goal.returns-then-index
returns-then-index t c = record {
  first = first_left c.args.self.now.nodes.items c.args.node c.args.height (c.args.height - 1) c.first_below.result (higher c.args.height c.if-height-eq0.false) c.first_below.ensures.first;
}

pub returns-else-index : goal.returns-else-index
returns-else-index t c =
    let h = higher c.args.height c.if-height-eq0.false in
    let within = within_children c.args.node c.args.height (c.args.height - 1) (room c.args.self.now) h c.requires.within in
    let above = above_leaves c.args.node c.args.height (c.args.height - 1) (room c.args.self.now) h c.requires.within in
    let lt : 2 * c.args.node < length c.args.self.now.nodes.items = omega (arith, above, c.requires.tree.whole) in
    let left : node_at c.args.self.now.nodes.items (2 * c.args.node) ≡ false = sym (get_or_read c.args.self.now.nodes.items (2 * c.args.node) c.index.result.now lt c.index.ensures false) ∙ c.if-index.false in
    record {
      first = first_right c.args.self.now.nodes.items (room c.args.self.now) c.requires.tree.nodes c.args.node c.args.height (c.args.height - 1) c.first_below-else-index.result h c.requires.node within.0 left c.first_below-else-index.ensures.first;
    }
