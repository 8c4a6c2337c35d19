use Rattle.std.proofs.Common.{arith}
use Rattle.sender_log.proofs.WordLemmas.{few_words}
use Rattle.sender_log.proofs.lines.activity_of.Goals as goal

pub returns-in_default : goal.returns-in_default
returns-in_default c = few_words c.args.words.now (omega arith)
