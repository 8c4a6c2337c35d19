use Rattle.law_steps.proofs.NamesLaws.{entries_ascend}
use Rattle.law_steps.proofs.names.entries_ascend.Goals as goal

pub returns : goal.returns
returns c = entries_ascend
