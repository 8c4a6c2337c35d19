use Rattle.std.proofs.Common.{◌≡◌}
use Rattle.asp_model.specs.Names.{Name}
use Rattle.replay_services.specs.Listeners.{kept_in, nothing}
use Rattle.replay_services.proofs.listener.Listener.new.Given as goal

abbrev pub invariant-loop-list : goal.invariant-loop-list
invariant-loop-list l = record {
  none : (n : Name) → kept_in l.heard n ≡ nothing;
}
