-- What a worker's seat has between turns.
use Rattle.std.specs.Prelude.{◌≡◌, ℕ, List, All, Option, Some, None}
use Rattle.crossbeam_utils.specs.declared.cache_padded.CachePadded.{CachePadded}
use Rattle.crossbeam_utils.specs.Padded.{padded_value}
use Rattle.asp_model.specs.History.{BeginsWith, HistoryShape}
use Rattle.code_table.specs.declared.code.Node.{Node}
use Rattle.long_leases.specs.declared.long_lease.LongLease.{LongLease}
use Rattle.turn_hub.specs.declared.hub.Hub.{Hub}
use Rattle.turn_hub.specs.declared.seat.Seat.{Seat}
use Rattle.turn_hub.specs.Seats.{IsOf, opened_with, out_with, seats_of, seen_by, taken_by}
use Rattle.race_desks.specs.declared.desk.Desk.{Desk}
use Rattle.race_desks.specs.declared.desk.SharedDesk.{SharedDesk}
use Rattle.race_workers.specs.declared.seats.Seats.{Seats}
use Rattle.race_desks.specs.Desks.{code_at, history_at, seats_at}
use Rattle.race_desks.specs.Turns.{desk_in, row_of}

module _ {P : Type 0} where
  -- the desk that the hub was made with
  abbrev pub opened_at : Hub (SharedDesk P) → Desk P
  opened_at hub = desk_in (opened_with hub)

  -- the seat has this lease out, which is as is said, or nothing
  abbrev pub HasOut : (HistoryShape → List Node → LongLease → Type 0)
      → Hub (SharedDesk P) → Seat (SharedDesk P) → Option LongLease → Type 0
  HasOut Is hub seat None = out_with seat ≡ None
  HasOut Is hub seat (Some l) = (out_with seat ≡ row_of l) × Is (seen_by seat) (code_at (opened_at hub)) l

  -- the hub's desk has a row for each seat
  abbrev pub HasRows : Hub (SharedDesk P) → Type 0
  HasRows hub = seats_at (opened_at hub) ≡ seats_of hub

  -- a seat of the hub between its turns, with so many parts, which has seen at least what the hub was made with
  abbrev pub IsReady : Hub (SharedDesk P) → ℕ → Seat (SharedDesk P) → Type 0
  IsReady hub parts seat =
      IsOf hub seat × (seat.parts ≡ parts) × (taken_by seat ≡ None) × (out_with seat ≡ None)
      × BeginsWith (seen_by seat) (history_at (opened_at hub))

  -- such a seat of one part, but it has this lease out, which is as is said, or nothing
  abbrev pub IsAtWork : (HistoryShape → List Node → LongLease → Type 0)
      → Hub (SharedDesk P) → Seat (SharedDesk P) → Option LongLease → Type 0
  IsAtWork Is hub seat held =
      IsOf hub seat × (seat.parts ≡ 1) × (taken_by seat ≡ None) × HasOut Is hub seat held
      × BeginsWith (seen_by seat) (history_at (opened_at hub))

  -- both seats of a worker have nothing out
  abbrev pub AreReady : Hub (SharedDesk P) → Seats P → Type 0
  AreReady hub seats = IsReady hub 1 seats.first × IsReady hub 1 seats.second

  -- the seats of all workers
  abbrev pub AllReady : Hub (SharedDesk P) → List (CachePadded (Seats P)) → Type 0
  AllReady hub seats = All (λ p. AreReady hub (padded_value p)) seats
