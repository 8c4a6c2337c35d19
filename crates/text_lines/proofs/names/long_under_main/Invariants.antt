use Rattle.std.proofs.Common.{◌≡◌, map}
use Rattle.asp_model.specs.ReportLines.{index_of, all_found, under_main}
use Rattle.text_lines.proofs.FoundLemmas.{found_from}
use Rattle.text_lines.proofs.names.long_under_main.Given as goal

abbrev pub invariant-loop-part : goal.invariant-loop-part
invariant-loop-part l = under_main (all_found index_of (map (λ p. p.now) l.parts)) ≡ found_from index_of l.path.items l.parts l.part-index
