use Rattle.std.proofs.Common.{◌≡◌, ◌+◌, ◌-◌, vec_len}
use Rattle.race_trials.specs.Ready.{AllReady, IsReady}
use Rattle.race_trials.proofs.crew.deal.Given as goal

-- so many seats were made, and the first one has a part less for each
abbrev pub invariant-loop-worker : goal.invariant-loop-worker
invariant-loop-worker g l =
    IsReady l.hub (l.workers + 1 - l._worker) l.first × (vec_len l.seats ≡ l._worker)
    × AllReady l.hub l.seats.items
