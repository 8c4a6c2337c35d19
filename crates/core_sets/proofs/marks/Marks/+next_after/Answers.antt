use Rattle.std.proofs.Common.{◌+◌, ◌-◌, ◌*◌, ◌≤◌, sym, ◌∙◌, arith, subst}
use Rattle.std.specs.Prelude.{None, ◌^◌}
use Rattle.core_sets.specs.Firsts.{IsFirstFrom}
use Rattle.core_sets.specs.Marks.{node_at, room}
use Rattle.core_sets.proofs.MarkLemmas.{behind_parent, level_within, none_behind, parent_level, right_ends, right_of}
use Rattle.core_sets.proofs.marks.Marks.+next_after.Goals as goal

pub returns-then-node-eq1 : goal.returns-then-node-eq1
returns-then-node-eq1 t c =
    let m = c.args.self.now in
    let last = subst (λ i. 2 ^ (m.height - c.args.height) ≤ i) c.if-node-eq1.true c.requires.from in
    record {
      first = subst (λ i. IsFirstFrom (node_at m.nodes.items) ((i + 1) * 2 ^ c.args.height) None) (sym c.if-node-eq1.true) (none_behind m.nodes.items (room m) m.height c.args.height c.requires.tree.whole (c.requires.tree.power c.requires.whole) c.requires.low last);
    }

pub has_marked_right-requires-clause-within : goal.has_marked_right-requires-clause-within
has_marked_right-requires-clause-within t c =
    let m = c.args.self.now in
    level_within c.args.node c.args.height m.height (room m) (record { power = c.requires.tree.power c.requires.whole; low = c.requires.low; from = c.requires.from; to = c.requires.to })

pub first_below-requires-clause-within : goal.first_below-requires-clause-within
first_below-requires-clause-within t c =
    let m = c.args.self.now in
    let even = (right_of c.args.node (node_at m.nodes.items (c.args.node + 1)) (sym c.has_marked_right.ensures ∙ c.if-has_marked_right.true)).0 in
    right_ends c.args.node c.args.height m.height (room m) (record { power = c.requires.tree.power c.requires.whole; low = c.requires.low; from = c.requires.from; to = c.requires.to }) even

pub next_after-requires : goal.next_after-requires
next_after-requires t c =
    let m = c.args.self.now in
    let up = parent_level c.args.node c.args.height m.height (room m) (record { power = c.requires.tree.power c.requires.whole; low = c.requires.low; from = c.requires.from; to = c.requires.to }) c.if-node-eq1.false in
    (omega (arith, c.decreases, up.from, c.if-node-eq1.false, c.requires.from), (c.requires.tree, (up.low, (up.from, (up.to, c.requires.whole)))))

pub returns : goal.returns
returns t c =
    let m = c.args.self.now in
    record {
      first = behind_parent m.nodes.items (room m) c.requires.tree.nodes c.args.node c.args.height m.height c.next_after.result (record { power = c.requires.tree.power c.requires.whole; low = c.requires.low; from = c.requires.from; to = c.requires.to }) (sym c.has_marked_right.ensures ∙ c.if-has_marked_right.false) c.next_after.ensures.first;
    }
