use Rattle.std.proofs.Common.{drop, map}
use Rattle.serve_rules.specs.Labels.{label_text}
use Rattle.request_queue.proofs.OldestLemmas.{SoFar}
use Rattle.request_queue.proofs.notes.Notes.oldest_of.Given as goal

abbrev pub invariant-loop-label : goal.invariant-loop-label
invariant-loop-label l = SoFar (map label_text l.labels) l.self (drop l.label-index l.labels) l.best
