use Rattle.std.proofs.Common.{arith}
use Rattle.trace_text.proofs.PieceLemmas.{few_words}
use Rattle.trace_text.proofs.entries.entry_with.Goals as goal

pub returns-in_default : goal.returns-in_default
returns-in_default c = few_words c.args.words.now (omega arith)
