use Rattle.std.proofs.Common.{◌∙◌, [], ap, subst, sym}
use Rattle.std.specs.Arc.{arc_value}
use Rattle.step_activity.specs.Actors.{Stands, code_of, log_in}
use Rattle.core_state.specs.Cores.{program_of}
use Rattle.core_state.proofs.BeginLemmas.{first_of}
use Rattle.core_state.proofs.begin.main_actor.Goals as goal

pub returns-in_ok-boxed-in-Ok-clause-stands : goal.returns-in_ok-boxed-in-Ok-clause-stands
returns-in_ok-boxed-in-Ok-clause-stands c =
    let first = first_of (program_of (arc_value c.args.code)) in
    subst (λ a. Stands a first []) (sym c.in_ok-boxed-in-Ok.ensures.ok) (c.in-Ok.ensures.stands first [] c.in_ok-actor.ensures.stands)

pub returns-in_ok-boxed-in-Ok-clause-code : goal.returns-in_ok-boxed-in-Ok-clause-code
returns-in_ok-boxed-in-Ok-clause-code c = ap code_of c.in_ok-boxed-in-Ok.ensures.ok ∙ c.settle.ensures.code ∙ c.in_ok-actor.ensures.code

pub returns-in_ok-boxed-in-Ok-clause-log : goal.returns-in_ok-boxed-in-Ok-clause-log
returns-in_ok-boxed-in-Ok-clause-log c = ap log_in c.in_ok-boxed-in-Ok.ensures.ok ∙ c.settle.ensures.log ∙ c.in_ok-actor.ensures.log
