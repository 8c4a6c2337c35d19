use Rattle.std.proofs.Common.{arith}
use Rattle.trace_text.proofs.PieceLemmas.{many_words}
use Rattle.trace_text.proofs.entries.entry_by.Goals as goal

pub returns-in_default : goal.returns-in_default
returns-in_default c = many_words c.args.word.now c.args.first.now c.args.rest.now (omega arith)
