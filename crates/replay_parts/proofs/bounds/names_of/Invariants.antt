use Rattle.std.proofs.Common.{◌≡◌, map, take}
use Rattle.replay_parts.specs.Roster.{IsRoster}
use Rattle.replay_parts.proofs.bounds.names_of.Given as goal

abbrev pub invariant-loop-list : goal.invariant-loop-list
invariant-loop-list l = (l.roster ≡ map (λ x. x.0) (take l.list-index l.lists)) × IsRoster l.roster
