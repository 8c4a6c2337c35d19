use Rattle.std.proofs.Common.{◌≡◌, ◌++◌, take}
use Rattle.explain.specs.Told.{texts_of}
use Rattle.explain.proofs.telling.add_remarks.Given as goal

abbrev pub invariant-loop-remark : goal.invariant-loop-remark
invariant-loop-remark l = l.text.items ≡ l.initial.text.items ++ texts_of l.file l.bytes (take l.remark-index l.remarks)
