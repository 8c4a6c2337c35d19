use Rattle.std.proofs.Common.{◌≡◌, ◌∙◌, List, length, arith}
use Rattle.asp_model.specs.Names.{Name, main_name}
use Rattle.replay_parts.proofs.ReadyLemmas.{ascend_on}
use Rattle.replay_parts.proofs.RosterLemmas.{number_within}
use Rattle.replay_one.proofs.round.Machine.start.Goals as goal

pub wake-requires : goal.wake-requires
wake-requires c = record { known = number_within c.in_ok-population.population.roster main_name c.in_ok-population.number c.in_ok-population.ensures.number.number }

pub returns-clause-order : goal.returns-clause-order
returns-clause-order c =
    let ns : List Name = c.in_ok-roster.roster in
    let same : c.wake.new.self.ready.ordered ≡ length ns = c.in_ok-wake.ensures.ordered ∙ c.new-schedule.ensures.ordered ∙ omega (arith, c.len-ordered.ensures.len) in
    ascend_on (length ns) c.wake.new.self.ready.ordered ns c.in_ok-population.population.roster c.in_ok-roster.ensures.sound c.in_ok-population.ensures.number.leads same c.in_ok-roster.ensures.ascending
