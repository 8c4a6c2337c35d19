use Rattle.std.proofs.Common.{List, ℕ, ◌∙◌, subst, inl}
use Rattle.asp_top.specs.Seen.{sight_between}
use Rattle.outcomes_top.specs.Given.{message_of_fault}
use Rattle.outcomes_top.specs.Surveys.{IsToldBy}
use Rattle.outcomes_top.proofs.writing.say_fault.Goals as goal

pub returns-in-Ok : goal.returns-in-Ok
returns-in-Ok g c =
    let s = sight_between g.E.Sink.told c.args.err.now c.say.new.err in
    inl (subst (λ (n : ℕ). IsToldBy s (message_of_fault c.args.name.now c.args.fault.now) n c.say.result) c.fault_status.ensures
    (subst (λ (l : List ℕ). IsToldBy s l c.fault_status.result c.say.result) (c.as_bytes.ensures.value ∙ c.in-Ok.ensures) c.say.ensures))
