use Rattle.std.proofs.Common.{◌≡◌, ◌+◌, ◌*◌, ◌-◌, vec_len}
use Rattle.race_workers.specs.Working.{AllReady, IsReady}
use Rattle.race_workers.proofs.workers.deal.Given as goal

-- so many workers have their seats, and the first one has two parts less for each
abbrev pub invariant-loop-worker : goal.invariant-loop-worker
invariant-loop-worker g l =
    IsReady l.hub (l.workers * 2 + 1 - l._worker * 2) l.first × (vec_len l.seats ≡ l._worker) × AllReady l.hub l.seats.items
