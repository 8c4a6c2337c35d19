use Rattle.std.proofs.Common.{[], arith, subst, sym}
use Rattle.std.specs.Arc.{arc_value}
use Rattle.asp_model.specs.History.{program_history}
use Rattle.def_journals.specs.Journals.{begun}
use Rattle.core_state.specs.Begin.{IsEmpty, IsMain}
use Rattle.core_state.specs.Cores.{IsCore, program_of}
use Rattle.core_state.proofs.state.CoreState.begin.Goals as goal

pub come_first-requires-clause-empty : goal.come_first-requires-clause-empty
come_first-requires-clause-empty c = subst (IsEmpty c.empty-state.result) (sym c.empty-state.ensures.empty.left) c.empty-state.ensures.empty

pub come_first-requires-clause-main : goal.come_first-requires-clause-main
come_first-requires-clause-main c = (arc_value c.args.code, record { bare = c.requires.bare; stands = c.in_ok-actor.ensures.stands; coded = c.in_ok-actor.ensures.code; logged = c.in_ok-actor.ensures.log })

pub returns-in-Ok : goal.returns-in-Ok
returns-in-Ok c =
    let k = arc_value c.args.code in
    let left = c.empty-state.ensures.empty.left in
    let main : IsMain k c.in_ok-actor.actor.value = record { bare = c.requires.bare; stands = c.in_ok-actor.ensures.stands; coded = c.in_ok-actor.ensures.code; logged = c.in_ok-actor.ensures.log } in
    record {
      begun = subst (λ b. IsCore (program_history (program_of k) b []) k c.come_first.new.self (begun (program_of k) b)) left (c.in-Ok.ensures.begun k main (omega (arith, left, c.ranges.budget.fits)));
    }
