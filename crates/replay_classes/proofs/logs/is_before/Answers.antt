use Rattle.std.proofs.Common.{map, arith}
use Rattle.std.proofs.lemmas.List.{length-map}
use Rattle.asp_model.specs.Shapes.{reception_shape}
use Rattle.outcome_search.proofs.PlaceLemmas.{place_within}
use Rattle.replay_classes.proofs.logs.is_before.Goals as goal

pub returns-then-place-log : goal.returns-then-place-log
returns-then-place-log c = record { behind = λ entry b. absurd (omega (arith, place_within (map reception_shape c.args.log.now) c.args.place b.here b.at, length-map c.args.log.now reception_shape, c.if-place-log.true)) }

pub returns-then-log-place-lt2 : goal.returns-then-log-place-lt2
returns-then-log-place-lt2 c = record { behind = λ entry b. absurd (omega (arith, place_within (map reception_shape c.args.log.now) b.place entry b.comes, b.behind, length-map c.args.log.now reception_shape, c.if-place-log.false, c.if-log-place-lt2.true)) }
