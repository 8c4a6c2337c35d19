use Rattle.std.proofs.Common.{◌≡◌, ◌++◌, map, take}
use Rattle.explain.specs.Remarks.{glyph}
use Rattle.explain.proofs.shown.add_glyphs.Given as goal

abbrev pub invariant-loop-byte : goal.invariant-loop-byte
invariant-loop-byte l = l.text.items ≡ l.initial.text.items ++ map (glyph l.is_below) (take l.byte-index l.bytes)
