use Rattle.std.proofs.Common.{◌≡◌, length}
use Rattle.asp_model.specs.Configuration.{Configuration}
use Rattle.asp_model.specs.Term.{Tree}
use Rattle.replay_population.specs.Reached.{IsReachedPopulation}
use Rattle.replay_classes.specs.Looks.{AreSendersTo}
use Rattle.replay_classes.proofs.probes.senders.Given as goal

abbrev pub invariant-loop-number : goal.invariant-loop-number
invariant-loop-number l = (length l.sends.items ≡ l.number)
    × ((program : Tree) (c : Configuration) → IsReachedPopulation l.population program c → AreSendersTo l.population.roster c l.number l.sends.items)
