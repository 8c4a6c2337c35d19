use Rattle.std.specs.Prelude.{take}
use Rattle.end_search.specs.Found.{IsWithin}
use Rattle.end_search.proofs.search.is_within.Given as goal

abbrev pub invariant-loop-end : goal.invariant-loop-end
invariant-loop-end g l = IsWithin g.S.Ends.begins (take l.end-index l.ends) l.offer → ⊥
