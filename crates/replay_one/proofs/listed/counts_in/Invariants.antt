use Rattle.std.proofs.Common.{◌≡◌, map, take}
use Rattle.asp_model.specs.Shapes.{activity_shape}
use Rattle.replay_one.proofs.listed.counts_in.Given as goal

abbrev pub invariant-loop-activity : goal.invariant-loop-activity
invariant-loop-activity l = l.entries.items ≡ map (λ a. (a.name, a.count)) (map activity_shape (take l.activity-index l.activity-items))
