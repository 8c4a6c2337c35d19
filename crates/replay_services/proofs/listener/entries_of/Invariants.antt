use Rattle.std.proofs.Common.{◌≡◌, ◌++◌, map}
use Rattle.asp_model.specs.Shapes.{service_entry_shape}
use Rattle.replay_services.proofs.EntryLemmas.{entry_from}
use Rattle.replay_services.proofs.listener.entries_of.Given as goal

abbrev pub invariant-loop-name : goal.invariant-loop-name
invariant-loop-name l = record {
  made : map service_entry_shape l.entries.items ++ map entry_from l.name-iterator ≡ map entry_from l.fn.heard.entries;
}
