use Rattle.std.proofs.Common.{◌≡◌, ◌<◌, ℕ, length, Some}
use Rattle.std.specs.List.{slice_get}
use Rattle.asp_model.specs.Configuration.{Configuration}
use Rattle.asp_model.specs.Names.{Name}
use Rattle.law_waits.specs.Waits.{waited}
use Rattle.wait_circles.specs.Ways.{next_in}
use Rattle.wait_circles.specs.Whys.{IsNumbered, names_of}
use Rattle.run_waits.specs.Explains.{IsEndTold}
use Rattle.run_waits.proofs.waits.waits_in.Given as goal

abbrev pub invariant-loop-activity : goal.invariant-loop-activity
invariant-loop-activity l = record {
  size : length l.next.items ≡ l.activity-index;
  within : (i j : ℕ) → next_in l.next.items i ≡ Some j → j < length l.activities;
  waits : (c : Configuration) → IsEndTold c l.activities l.futures l.receipts → (i : ℕ) (n : Name) → i < l.activity-index → slice_get (names_of l.activities) i ≡ Some n → IsNumbered (names_of l.activities) (next_in l.next.items i) (waited c n);
}
