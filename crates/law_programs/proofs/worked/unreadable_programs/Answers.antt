use Rattle.asp_model.specs.Readable.{is_identifier}
use Rattle.law_programs.proofs.worked.unreadable_programs.Goals as goal

pub returns-clause-names : goal.returns-clause-names
unfolding is_identifier
returns-clause-names c = (λ h. cc, λ h. cc)
