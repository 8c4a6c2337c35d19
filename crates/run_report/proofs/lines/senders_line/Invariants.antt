use Rattle.std.proofs.Common.{◌≡◌, ◌++◌, map, take}
use Rattle.std.specs.Prelude.{string_bytes, codes}
use Rattle.std.specs.List.{flat_map}
use Rattle.asp_model.specs.Report.{reception_text}
use Rattle.asp_model.specs.Shapes.{reception_shape}
use Rattle.run_report.proofs.lines.senders_line.Given as goal

abbrev pub invariant-loop-reception : goal.invariant-loop-reception
invariant-loop-reception l = string_bytes l.text ≡ codes "senders" ++ flat_map (λ x. codes " " ++ reception_text x) (map reception_shape (take l.reception-index l.log))
