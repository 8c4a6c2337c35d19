use Rattle.asp_model.specs.Configuration.{Configuration}
use Rattle.asp_model.specs.Term.{Tree}
use Rattle.replay_population.specs.Reached.{IsReachedPopulation}
use Rattle.replay_classes.specs.Classes.{class_in}
use Rattle.replay_classes.specs.Looks.{AreSenders}
use Rattle.replay_classes.specs.Probes.{IsProbed}
use Rattle.replay_classes.proofs.probes.probe.Given as goal

abbrev pub invariant-loop-number : goal.invariant-loop-number
invariant-loop-number l = (program : Tree) (c : Configuration) → IsReachedPopulation l.initial.population program c
    → AreSenders l.initial.population.roster c l.sends
    → IsProbed (class_in l.classes) l.initial.population program c l.number l.population l.nexts.items
