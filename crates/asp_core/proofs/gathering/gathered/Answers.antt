use Rattle.std.proofs.Common.{◌≡◌, ◌∙◌, List, length, subst, arith}
use Rattle.std.specs.Global.{Box}
use Rattle.std.proofs.lemmas.List.{take_all}
use Rattle.asp_model.specs.Names.{Name}
use Rattle.core_seats.specs.Seats.{names_in, seats_in}
use Rattle.step_activity.specs.declared.actor.Actor.{Actor}
use Rattle.asp_core.specs.Gathering.{AreBefore, held_in, who_is_in}
use Rattle.asp_core.proofs.EndOfRunLemmas.{gathered_more}
use Rattle.asp_core.proofs.gathering.gathered.Goals as goal

pub loop-number-preserved : goal.loop-number-preserved
loop-number-preserved c = gathered_more c.args.seats.now c.loop-number.seats c.len-count.result c.loop-number.number c.loop-number.activities.items c.loop-number.invariant c.requires.kept c.loop-number-test.true
    c.bring.new.seats c.bring.new.activities.items c.requires.apart c.in_ok-bring.ensures.kept c.in_ok-bring.ensures.names c.in_ok-bring.ensures.others c.in_ok-bring.ensures.brought

pub returns : goal.returns
returns c =
    let last : c.loop-number.number ≡ length (seats_in c.args.seats.now) = omega (arith, c.loop-number-test.false, c.loop-number.auto.number-end, c.loop-number.invariant.counted) in
    let xs : List (Name × Box Actor) = c.loop-number.activities.items in
    let ns = names_in c.args.seats.now in
    let seats = seats_in c.args.seats.now in
    let i = c.loop-number.number in
    record {
      all = subst (λ k. AreBefore ns seats k (held_in xs)) last c.loop-number.invariant.before;
      each = c.loop-number.invariant.each ∙ (λ j. who_is_in (take_all i ns (omega (arith, last, c.requires.kept.same)) j) (take_all i seats (omega (arith, last)) j));
    }
