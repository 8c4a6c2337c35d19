use Rattle.std.proofs.Common.{◌≡◌, ◌+◌, All, sum_by, vec_len}
use Rattle.race_trials.specs.Ready.{AllReady, IsReady}
use Rattle.race_trials.proofs.crew.together.Given as goal

-- what is left and what was moved is ready, and no part is lost
abbrev pub invariant-loop-seat : goal.invariant-loop-seat
invariant-loop-seat g l =
    AllReady l.hub l.rest.items × All (λ s. IsReady l.hub 1 s) l.all.items
    × (sum_by (λ s. s.parts) l.all.items + vec_len l.rest ≡ vec_len l.fn.seats + 1)

abbrev pub decreases-loop-seat : goal.decreases-loop-seat
decreases-loop-seat g l = vec_len l.rest
