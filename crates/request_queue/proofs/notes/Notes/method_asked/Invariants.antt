use Rattle.std.proofs.Common.{drop, map}
use Rattle.serve_rules.specs.Labels.{class_labels}
use Rattle.request_queue.proofs.OldestLemmas.{SoFar, method_label}
use Rattle.request_queue.proofs.notes.Notes.method_asked.Given as goal

abbrev pub invariant-loop-method : goal.invariant-loop-method
invariant-loop-method l = SoFar (class_labels l.class) l.self (map method_label (drop l.method-index l.class.methods.items)) l.best
