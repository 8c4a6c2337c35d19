use Rattle.std.proofs.Common.{List, ℕ, ◌∙◌, subst, inl}
use Rattle.asp_top.specs.Seen.{sight_between}
use Rattle.outcomes_top.specs.Surveys.{IsToldBy}
use Rattle.outcomes_top.proofs.writing.say_missing.Goals as goal

pub returns-in-Ok : goal.returns-in-Ok
returns-in-Ok g c =
    let s = sight_between g.E.Sink.told c.args.err.now c.say.new.err in
    inl (subst (λ (l : List ℕ). IsToldBy s l 2 c.say.result) (c.as_bytes.ensures.value ∙ c.in-Ok.ensures) c.say.ensures)
