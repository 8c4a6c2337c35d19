use Rattle.std.proofs.Common.{◌≡◌, map, take}
use Rattle.replay_one.proofs.listed.have_same_names.Given as goal

abbrev pub invariant-loop-place : goal.invariant-loop-place
invariant-loop-place l = map (λ x. x.0) (take l.place l.lists) ≡ map (λ x. x.0) (take l.place l.counts)
