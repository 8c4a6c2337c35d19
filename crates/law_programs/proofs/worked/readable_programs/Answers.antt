use Rattle.std.proofs.Common.{rules}
use Rattle.asp_model.specs.Readable.{is_identifier}
use Rattle.law_programs.proofs.worked.readable_programs.Goals as goal

pub returns : goal.returns
unfolding is_identifier
returns c = search rules
