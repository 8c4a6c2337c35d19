-- A population that stands for a reached configuration.
use Rattle.std.proofs.Common.{◌≡◌, ◌∙◌, List, sym, subst}
use Rattle.std.specs.FinMap.{find}
use Rattle.std.specs.Global.{Box}
use Rattle.asp_model.specs.declared.name.FutureName.{FutureName}
use Rattle.asp_model.specs.Names.{Name, name_cmp}
use Rattle.asp_model.specs.Term.{Tree}
use Rattle.asp_model.specs.Configuration.{Configuration, requests_of}
use Rattle.code_table.specs.declared.cells.Parcel.{Parcel}
use Rattle.law_steps.proofs.ClosedLaws.{reached_are_closed}
use Rattle.law_steps.proofs.WholeLemmas.{reached_are_sound}
use Rattle.step_activity.specs.declared.actor.Actor.{Actor}
use Rattle.step_ends.specs.Activities.{StandForSound, StandsAt}
use Rattle.replay_population.specs.declared.population.Population.{Population}
use Rattle.replay_population.specs.Population.{AreNamed, IsClosedPopulation}
use Rattle.replay_population.specs.Reached.{IsReachedPopulation}

pub named_stand : (p : Population) (futures : List (FutureName × Parcel)) (program : Tree) (c : Configuration) (xs : List (Name × Box Actor)) → IsReachedPopulation p program c → AreNamed p xs → futures ≡ p.futures → StandForSound xs futures c
named_stand p futures program c xs h named same = subst (λ (fs : List (FutureName × Parcel)). StandForSound xs fs c) (sym same) (record {
  sound = reached_are_sound program c h.reached;
  closed = reached_are_closed program c h.bare h.reached;
  population = record {
    activities = λ n. subst (λ o. StandsAt o (find name_cmp n c.activities) (requests_of c n)) (sym (named n)) (h.population.activities n);
    logs = λ n x is. h.population.logs n x (sym (named n) ∙ is);
    futures = h.population.futures;
    code = h.population.code;
    actors = λ n x is. h.population.actors n x (sym (named n) ∙ is);
    values = h.population.values;
  };
})

-- what is reached is closed
pub reached_closed : (p : Population) (program : Tree) (c : Configuration) → IsReachedPopulation p program c → IsClosedPopulation p c
reached_closed p program c h = record { closed = reached_are_closed program c h.bare h.reached; population = h.population }
