use Rattle.std.proofs.Common.{refl}
use Rattle.checkpoint_states.proofs.ActivityLemmas.{activity_made, runs, waits}
use Rattle.checkpoint_states.proofs.activities.make_activity.Goals as goal

pub make_state-requires : goal.make_state-requires
make_state-requires c = record {
  table = c.requires.table;
  runs = runs c.args.activity c.requires.proper;
  wait = waits c.args.activity c.requires.proper;
  proper = c.requires.proper.proper.store;
}

pub make_requests-requires : goal.make_requests-requires
make_requests-requires c = record { table = c.in_ok-state.ensures.made.grows.table c.requires.table; proper = c.requires.proper.queue }

pub returns : goal.returns
returns c = record { made = activity_made _ _ _ c.args.activity _ refl c.in_ok-state.ensures.made c.in_ok-queue.ensures.made c.in_ok-present.ensures.same c.in_ok-active.ensures.same refl refl refl refl }
