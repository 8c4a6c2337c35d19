use Rattle.std.proofs.Common.{◌∙◌}
use Rattle.std.proofs.lemmas.Result.{on_ok_weaker}
use Rattle.serve_rules.specs.Wanted.{wanted_labels}
use Rattle.run_waits.specs.Books.{book_of}
use Rattle.run_waits.proofs.BookLemmas.{served_at, served_none}
use Rattle.run_waits.proofs.book.Book.serve.Goals as goal

pub returns-in-Some : goal.returns-in-Some
returns-in-Some c = on_ok_weaker c.take.result (λ t. t ∙ served_at (wanted_labels c.args.wanted) c.in-Some.at (book_of c.args.self.now) c.in-Some.ensures.found) c.take.ensures

pub returns-in-None : goal.returns-in-None
returns-in-None c = served_none (wanted_labels c.args.wanted) (book_of c.args.self.now) c.in-None.ensures.none
