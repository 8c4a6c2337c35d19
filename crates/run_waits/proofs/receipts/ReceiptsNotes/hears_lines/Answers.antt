use Rattle.run_waits.proofs.ListenLemmas.{deaf_to_lines}
use Rattle.run_waits.proofs.receipts.ReceiptsNotes.hears_lines.Goals as goal

pub returns : goal.returns
returns c = record { deaf = λ no. deaf_to_lines c.args.self.now }
