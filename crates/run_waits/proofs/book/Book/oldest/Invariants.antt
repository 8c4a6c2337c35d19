use Rattle.std.proofs.Common.{◌-◌, map}
use Rattle.serve_rules.specs.Wanted.{wanted_labels}
use Rattle.run_waits.specs.Books.{request_of}
use Rattle.run_waits.proofs.BookLemmas.{Passed}
use Rattle.run_waits.proofs.book.Book.oldest.Given as goal

abbrev pub invariant-loop-at : goal.invariant-loop-at
invariant-loop-at l = Passed (wanted_labels l.wanted) (map request_of l.self.pending.items) l.at

abbrev pub decreases-loop-at : goal.decreases-loop-at
decreases-loop-at l = l.self.pending.len - l.at
