use Rattle.std.proofs.Common.{sym, subst, inl}
use Rattle.asp_top.specs.Seen.{sight_between}
use Rattle.outcomes_top.specs.declared.halt.Halt.{Halt}
use Rattle.outcomes_top.specs.Surveys.{IsToldOf}
use Rattle.outcomes_top.proofs.writing.halt.Goals as goal

pub returns-in-Usage : goal.returns-in-Usage
returns-in-Usage g c =
    let s = sight_between g.E.Sink.told c.args.err.now c.say.new.err in
    subst (λ (h : Halt). IsToldOf h s c.say.result) (sym c.in-Usage.is) (inl c.say.ensures)

pub returns-in-Given : goal.returns-in-Given
returns-in-Given g c =
    let s = sight_between g.E.Sink.told c.args.err.now c.say_fault.new.err in
    subst (λ (h : Halt). IsToldOf h s c.say_fault.result) (sym c.in-Given.is) c.say_fault.ensures

pub returns-in-Missing : goal.returns-in-Missing
returns-in-Missing g c =
    let s = sight_between g.E.Sink.told c.args.err.now c.say_missing.new.err in
    subst (λ (h : Halt). IsToldOf h s c.say_missing.result) (sym c.in-Missing.is) c.say_missing.ensures
