use Rattle.std.proofs.Common.{◌≡◌, Some, sym, ◌∙◌, ap}
use Rattle.asp_model.specs.Shapes.{marked_of}
use Rattle.asp_check.specs.Faults.{faults_of}
use Rattle.asp_check.proofs.Firsts.{least_none, least_some}
use Rattle.asp_check.proofs.whole.check.Goals as goal

pub new-requires-clause-checked : goal.new-requires-clause-checked
new-requires-clause-checked c = least_none (faults_of (marked_of c.args.program.root)) (sym c.in-Ok-None.ensures ∙ c.in-Ok-None.field-0-is)

pub returns-in-Ok-Some-clause-fault : goal.returns-in-Ok-Some-clause-fault
returns-in-Ok-Some-clause-fault c = λ f e.
    let same : c.in-Ok-Some.fault ≡ f = cc in
    least_some (marked_of c.args.program.root) f (sym c.in-Ok-Some.ensures ∙ c.in-Ok-Some.field-0-is ∙ ap (λ g. Some g) same)
