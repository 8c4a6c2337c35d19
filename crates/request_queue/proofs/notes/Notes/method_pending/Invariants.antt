use Rattle.serve_rules.specs.Labels.{class_labels}
use Rattle.request_queue.proofs.OldestLemmas.{SoFar}
use Rattle.request_queue.proofs.notes.Notes.method_pending.Given as goal

abbrev pub invariant-loop-label : goal.invariant-loop-label
invariant-loop-label l = SoFar (class_labels l.class) l.self l.label-iterator l.best
