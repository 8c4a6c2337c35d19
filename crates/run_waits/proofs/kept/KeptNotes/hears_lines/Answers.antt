use Rattle.run_waits.proofs.BookLemmas.{books_deaf}
use Rattle.run_waits.proofs.ListenLemmas.{deaf_to_lines}
use Rattle.run_waits.proofs.kept.KeptNotes.hears_lines.Goals as goal

pub returns : goal.returns
returns c = record { deaf = λ no xs n k l keeps. (deaf_to_lines c.args.self.now.receipts xs n k l keeps.0, books_deaf c.args.self.now.books xs n k l keeps.1) }
