use Rattle.std.proofs.Common.{◌≡◌, map, take}
use Rattle.code_laws.specs.Shown.{shown_captures}
use Rattle.code_reading.specs.Decoded.{seen_tree}
use Rattle.code_reading.proofs.seen.captured_in.Given as goal

abbrev pub invariant-loop-capture : goal.invariant-loop-capture
invariant-loop-capture l = map seen_tree l.captured.items ≡ shown_captures (map seen_tree l.kept) (take l.capture-index l.captures)
