use Rattle.std.proofs.Common.{◌≡◌, ◌∙◌, ◌<◌, ℕ, List, Some, ap, arith, get_or, length, slice_get}
use Rattle.code_table.specs.Places.{placed}
use Rattle.deep_copy.specs.Reached.{used_places}
use Rattle.path_equal.proofs.ReadLemmas.{used_here}
use Rattle.path_equal.proofs.children.used.Goals as goal

pub returns-then-left-eq0 : goal.returns-then-left-eq0
returns-then-left-eq0 c =
    let ns : List ℕ = placed c.args.captured.now in
    let uses : List ℕ = c.args.uses.now in
    let i : ℕ = c.loop-slot.slot-index in
    let lt : i < length uses = omega arith in
    let held : get_or uses i 0 < length ns = omega (arith, c.len.ensures) in
    let first : c.loop-slot.left ≡ 0 = omega arith in
    record {
      cell = ap Some (c.at.ensures.place 0)
          ∙ used_here ns uses i c.loop-slot.left (slice_get (used_places ns uses) c.args.nth) lt held first c.loop-slot.invariant;
    }
