use Rattle.std.proofs.Common.{◌+◌, ◌<◌, ◌≤◌, arith}
use Rattle.core_sets.specs.Marks.{room}
use Rattle.core_sets.proofs.MarkLemmas.{low_height}
use Rattle.core_sets.proofs.marks.Marks.larger.Goals as goal

pub overflow_add-self : goal.overflow_add-self
overflow_add-self c =
    let m = c.args.self.now in
    let some : 0 < room m = omega (arith, c.if-room-eq0.false, c.len-room.ensures) in
    let low : m.height + 1 ≤ 32 = low_height m.height (room m) (c.requires.tree.power some) c.requires.small in
    omega (arith, low)

pub empty-requires-2 : goal.empty-requires-2
empty-requires-2 c =
    let m = c.args.self.now in
    let some : 0 < room m = omega (arith, c.if-room-eq0.false, c.len-room.ensures) in
    record { low = low_height m.height (room m) (c.requires.tree.power some) c.requires.small }
