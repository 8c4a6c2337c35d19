use Rattle.explain.proofs.OrderLemmas.{deaf_to_lines}
use Rattle.explain.proofs.differences.order.OrderNotes.hears_lines.Goals as goal

pub returns : goal.returns
returns c = record { deaf = λ no. deaf_to_lines c.args.self.now }
