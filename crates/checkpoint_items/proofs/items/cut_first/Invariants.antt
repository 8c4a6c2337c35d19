use Rattle.std.proofs.Common.{◌≡◌, take, drop}
use Rattle.asp_model.specs.ReportLines.{parts}
use Rattle.checkpoint_items.proofs.ItemLemmas.{onto}
use Rattle.checkpoint_items.proofs.items.cut_first.Given as goal

abbrev pub invariant-loop-i : goal.invariant-loop-i
invariant-loop-i l = parts 32 l.text ≡ onto (take l.i l.text) (parts 32 (drop l.i l.text))
