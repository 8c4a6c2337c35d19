use Rattle.command_line.proofs.PlainWords as plain
use Rattle.command_line.proofs.lines.plain_word_runs.Goals as goal

pub returns : goal.returns
returns c = record { runs = plain.plain_word_runs }
