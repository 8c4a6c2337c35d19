use Rattle.std.proofs.Common.{◌≡◌, ◌<◌, ℕ, length, Some}
use Rattle.std.specs.List.{slice_get}
use Rattle.wait_circles.specs.declared.ways.End.{End}
use Rattle.wait_circles.specs.declared.ways.Mark.TheVariants.{Ends}
use Rattle.wait_circles.specs.Walks.{mark_at}
use Rattle.wait_circles.proofs.ways.ends_in.Given as goal

abbrev pub invariant-loop-mark : goal.invariant-loop-mark
invariant-loop-mark l = record {
  size : length l.ends.items ≡ l.mark-index;
  told : (k : ℕ) (e : End) → k < l.mark-index → mark_at l.marks k ≡ Ends e → slice_get l.ends.items k ≡ Some e;
}
