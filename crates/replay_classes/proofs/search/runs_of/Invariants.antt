use Rattle.std.proofs.Common.{◌≡◌, ◌++◌, map}
use Rattle.class_search.specs.declared.ends.FoundEnd.{FoundEnd}
use Rattle.outcome_search.specs.Ends.{run_logs}
use Rattle.replay_classes.proofs.search.runs_of.Given as goal

abbrev pub invariant-loop-end : goal.invariant-loop-end
invariant-loop-end l = record {
  made : map run_logs l.runs.items ≡ map (λ (e : FoundEnd). run_logs e.run) l.yielded;
  whole : l.fn.ends.items ≡ l.yielded ++ l.end-iterator.rest.items;
}
