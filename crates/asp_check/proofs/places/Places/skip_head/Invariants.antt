use Rattle.std.proofs.Common.{◌≡◌, drop}
use Rattle.asp_check.specs.Placed.{behind}
use Rattle.asp_check.proofs.places.Places.skip_head.Given as goal

abbrev pub invariant-loop : goal.invariant-loop
invariant-loop l = (behind (drop l.index l.items) l.self.left.now ≡ behind l.items l.initial.self.left.now) × (l.self.node ≡ l.initial.self.node)
