-- What a turn at the desk changes, and what it gives.
use Rattle.std.specs.Prelude.{◌≡◌, ◌≢◌, ℕ, false, List, Option, Some, None}
use Rattle.asp_model.specs.History.{BeginsWith, HistoryShape}
use Rattle.asp_model.specs.Shapes.{delivery_shape}
use Rattle.asp_model.specs.declared.journal.Delivery.{Delivery}
use Rattle.def_journals.specs.Journals.{RunShape}
use Rattle.core_edges.specs.Answers.{Answering, Counting}
use Rattle.asp_core.specs.Cores.{IsRun}
use Rattle.asp_core.specs.Calls.{MayDeliver, owed_next}
use Rattle.long_leases.specs.declared.long_lease.LongLease.{LongLease}
use Rattle.long_leases.specs.LongLeases.{HasEnded, IsLongLease}
use Rattle.code_table.specs.declared.code.Node.{Node}
use Rattle.race_desks.specs.declared.desk.Desk.{Desk}
use Rattle.race_desks.specs.declared.desk.SharedDesk.{SharedDesk}
use Rattle.race_desks.specs.Desks.{KeepsDesk, code_at, core_at, history_at, row_at}
use Rattle.race_desks.specs.Rows.{Row}

-- a lease that was run: it has ended, unless memory ran out
abbrev pub IsFinished : HistoryShape → List Node → LongLease → Type 0
IsFinished h code l = IsLongLease h code l × (l.lease.spent ≡ false → HasEnded h code l)

-- what the row of its seat says of a lease
abbrev pub row_of : LongLease → Row
row_of l = Some (l.lease.number, l.lease.burst, l.rounds)

module _ {P : Type 0} where
  abbrev pub desk_in : SharedDesk P → Desk P
  desk_in x = x.desk.value

  -- it may be delivered, by whatever run the core is
  abbrev pub MayDeliverAt : Desk P → Delivery → Type 0
  MayDeliverAt desk d = (s : RunShape) → IsRun (core_at desk) s → MayDeliver s (delivery_shape d)

  -- and it is what is owed next
  abbrev pub IsOwedAt : Desk P → Delivery → Type 0
  IsOwedAt desk d = (s : RunShape) → IsRun (core_at desk) s → owed_next (core_at desk) s ≡ Some (delivery_shape d)

  -- the history goes on, and only this seat's row may differ
  pub record IsTurn (answers : Answering P) (counts : Counting P) (seat : ℕ) (old new : Desk P) : Type 0 where
    pub later : BeginsWith (history_at new) (history_at old)
    pub others : (n : ℕ) → n ≢ seat → row_at new n ≡ row_at old n
    pub keeps : KeepsDesk answers counts old new

  -- the seat has this lease out, which is as is said, or nothing
  abbrev pub HasLease : (HistoryShape → List Node → LongLease → Type 0) → Desk P → ℕ → Option LongLease → Type 0
  HasLease Is desk seat None = row_at desk seat ≡ None
  HasLease Is desk seat (Some l) = (row_at desk seat ≡ row_of l) × Is (history_at desk) (code_at desk) l
