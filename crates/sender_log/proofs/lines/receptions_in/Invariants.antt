use Rattle.std.proofs.Common.{◌≡◌, map}
use Rattle.asp_model.specs.ReportLines.{reception_in, all_found}
use Rattle.asp_model.specs.Shapes.{reception_shape}
use Rattle.text_lines.proofs.FoundLemmas.{found_from}
use Rattle.sender_log.specs.Last.{IsLast}
use Rattle.sender_log.proofs.lines.receptions_in.Given as goal

abbrev pub invariant-loop-word : goal.invariant-loop-word
invariant-loop-word l = (all_found (reception_in l.polls) (map (λ w. w.now) l.words) ≡ found_from (reception_in l.polls) (map reception_shape l.log.items) l.words l.word-index) × IsLast l.polls l.log.items l.last
