use Rattle.code_laws.proofs.TwiceLemmas.{put_twice}
use Rattle.code_laws.proofs.environments.puts_twice.Goals as goal

pub returns : goal.returns
returns c = record { law = put_twice }
