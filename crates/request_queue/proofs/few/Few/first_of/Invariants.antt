use Rattle.std.proofs.Common.{◌≡◌, drop}
use Rattle.serve_rules.specs.Wanted.{wanted_labels}
use Rattle.request_queue.specs.Few.{entries}
use Rattle.request_queue.proofs.FewLemmas.{number_in}
use Rattle.request_queue.proofs.few.Few.first_of.Given as goal

abbrev pub invariant-loop-arrival : goal.invariant-loop-arrival
invariant-loop-arrival l = number_in (wanted_labels l.wanted) (entries l.arrival-items) ≡ number_in (wanted_labels l.wanted) (entries (drop l.arrival-index l.arrival-items))
