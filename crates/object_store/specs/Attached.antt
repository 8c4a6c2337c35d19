-- Shared cells, with their places where they go.
use Rattle.std.specs.Prelude.{◌+◌, ◌≤◌, drop, length, map, take}
use Rattle.std.specs.Arc.{arc_value}
use Rattle.code_table.specs.Cells.{moved_coded}
use Rattle.code_table.specs.Moves.{shift_of}
use Rattle.object_store.specs.AttachedView.{AttachedView}
use Rattle.object_store.specs.declared.attached.Attached.TheInside.{Inside}

abbrev pub attached_view : Inside → AttachedView
attached_view a =
    record { items = map (moved_coded (shift_of a.shift)) (take a.count (drop a.from (arc_value a.columns).items)) }

-- there are that many
abbrev pub IsAttached : Inside → Type 0
IsAttached a = a.from + a.count ≤ length (arc_value a.columns).items
