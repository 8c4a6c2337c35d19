-- What a state stands for: what stays of an activity, with its status.
use Rattle.std.specs.Prelude.{◌≡◌, reverse}
use Rattle.asp_model.specs.Intent.{StatusShape}
use Rattle.code_table.specs.Shapes.{store_of}
use Rattle.future_table.specs.Values.{values_of}
use Rattle.step_machine.specs.Standing.{Standing, view_of}
use Rattle.def_paths.specs.Places.{Side, side_of}
use Rattle.def_paths.specs.Snapshots.{SnapshotShape, result_in}
use Rattle.state_lines.specs.declared.state.State.{State}

-- its store under its code, and its futures
unfoldable pub side_in : State → Side
side_in s = side_of (values_of s.futures.now) (store_of s.code.now s.store.now.cells)

-- the state is that of such a snapshot, of an activity with such a status
pub record IsStateOf (s : State) (snapshot : SnapshotShape) (status : StatusShape) : Type 0 where
  pub store : store_of s.code.now s.store.now.cells ≡ snapshot.store
  pub active : s.active ≡ snapshot.active
  pub result : s.result ≡ result_in status snapshot.term

-- its machine stands for the snapshot's term and services, the newest last
abbrev pub IsTermOf : State → SnapshotShape → Type 0
IsTermOf s snapshot = Standing s.code.now (view_of s.machine.now) snapshot.term (reverse snapshot.services)
