-- A lease before and after its work.
use Rattle.std.specs.Prelude.{◌≡◌, List, Option, Some, None}
use Rattle.asp_model.specs.History.{HistoryShape}
use Rattle.code_table.specs.declared.code.Node.{Node}
use Rattle.long_leases.specs.declared.long_lease.LongLease.{LongLease}
use Rattle.long_leases.specs.LongLeases.{IsLongLease}
use Rattle.race_desks.specs.Turns.{IsFinished, row_of}

-- a lease after its work is the same, and it was run
abbrev pub IsWorked : Option LongLease → Option LongLease → Type 0
IsWorked None None = Unit {0}
IsWorked None (Some k) = ⊥
IsWorked (Some l) None = ⊥
IsWorked (Some l) (Some k) =
    (row_of k ≡ row_of l) × ((h : HistoryShape) (code : List Node) → IsLongLease h code l → IsFinished h code k)
