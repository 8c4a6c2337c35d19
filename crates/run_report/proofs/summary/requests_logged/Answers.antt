use Rattle.std.proofs.Common.{◌≡◌, ℕ, [], ◌∷◌, length, ap, arith}
use Rattle.asp_model.specs.declared.outcome.Reception.{Reception}
use Rattle.asp_model.specs.Shapes.{reception_shape}
use Rattle.law_steps.specs.Kept.{senders_among}
use Rattle.run_report.proofs.SummaryLemmas.{among_more}
use Rattle.run_report.proofs.summary.requests_logged.Goals.{in-From, in-Poll}
use Rattle.run_report.proofs.summary.requests_logged.Goals as goal

pub loop-reception-preserved : goal.loop-reception-preserved
loop-reception-preserved c =
    let senders : Reception → ℕ = λ x. length (senders_among (reception_shape x ∷ [])) in
    let more = among_more c.args.log.now c.loop-reception.reception-index c.reception-item.result c.loop-reception-test.true c.reception-item.is in
    elim c.match-reception.branch [
      | in-From w ↦
          let one : senders c.reception-item.result ≡ 1 = ap senders w.in-From.is in
          record { count = omega (arith, more, w.count-is, one); within = omega arith }
      | in-Poll w ↦
          let none : senders c.reception-item.result ≡ 0 = ap senders w.in-Poll.is in
          record { count = omega (arith, more, w.count-is, none); within = omega arith }
    ]
