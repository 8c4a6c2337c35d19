use Rattle.std.proofs.Common.{◌≡◌, ◌∙◌, false, sym, rules}
use Rattle.asp_model.specs.Shapes.{lists_shape}
use Rattle.run_waits.proofs.TurnLemmas.{held_turn, acting_there}
use Rattle.run_waits.proofs.cuts.turns.entering.Goals as goal

pub returns-else-may : goal.returns-else-may
returns-else-may c = record {
  turn = λ k n m x pop has enters may.
      let a = acting_there k n enters.effect enters.intends in
      let no : c.args.may ≡ false = search rules in
      held_turn (lists_shape c.args.lists.now) k c.args.population.now.roster n m x enters c.next_number.result a.0 a.1 (sym may ∙ no) (c.next_number.ensures.next k m pop has enters.there);
}
