use Rattle.trace_text.proofs.PieceLemmas.{pieces_push}
use Rattle.trace_text.proofs.write.Pieces.all.Goals as goal

pub returns : goal.returns
returns c = pieces_push c.args.self.full.items c.push.new.self.items c.args.self.last c.in_ok-push.ensures.items
