use Rattle.std.proofs.Common.{◌≡◌, ◌+◌, ◌*◌, ◌<◌, ◌≤◌, All, sum_by, vec_capacity, vec_len}
use Rattle.race_workers.specs.Working.{AllReady, IsReady}
use Rattle.race_workers.proofs.workers.together.Given as goal

-- what is left and what was moved is ready, no part is lost, and there is room for what is left
abbrev pub invariant-loop-seats : goal.invariant-loop-seats
invariant-loop-seats g l =
    AllReady l.hub l.rest.items × All (λ s. IsReady l.hub 1 s) l.all.items × (0 < vec_len l.all)
    × (sum_by (λ s. s.parts) l.all.items + vec_len l.rest * 2 ≡ vec_len l.fn.seats * 2 + 1)
    × (vec_len l.all + vec_len l.rest * 2 ≤ vec_capacity l.all)

abbrev pub decreases-loop-seats : goal.decreases-loop-seats
decreases-loop-seats g l = vec_len l.rest
