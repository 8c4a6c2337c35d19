use Rattle.std.proofs.Common.{◌≡◌, ◌≢◌, ◌+◌, ◌*◌, ◌<◌, ◌≤◌, ◌==◌, ℕ, true, false, length}
use Rattle.core_sets.specs.Marks.{AgreesAt, node_at, is_marked, room}
use Rattle.core_sets.proofs.marks.Marks.set.Given as goal

abbrev pub invariant-loop-node : goal.invariant-loop-node
invariant-loop-node l = record {
  size : length l.self.nodes.items ≡ length l.fn.self.nodes.items;
  height : l.self.height ≡ l.fn.self.height;
  low : 1 ≤ l.node;
  high : l.node < length l.fn.self.nodes.items;
  agree : (n : ℕ) → 1 ≤ n → n < room l.fn.self → 2 * n ≢ l.node → 2 * n + 1 ≢ l.node → AgreesAt l.self.nodes.items n;
  leaves : (p : ℕ) → node_at l.self.nodes.items (room l.fn.self + p) ≡ elim (p == l.place) [ true ↦ l.mark | false ↦ is_marked l.fn.self p ];
}

abbrev pub decreases-loop-node : goal.decreases-loop-node
decreases-loop-node l = l.node
