-- What the end of a run tells of all other runs, where nobody received from two senders, and nobody polled.
use Rattle.std.specs.Prelude.{◌≢◌}
use Rattle.asp_model.specs.Configuration.{Configuration}
use Rattle.asp_model.specs.Outcome.{OutcomeShape, lists_in}
use Rattle.asp_model.specs.Status.{Budget}
use Rattle.asp_model.specs.Term.{Tree}
use Rattle.law_steps.specs.Joins.{AreNarrow}
use Rattle.law_paths.specs.Correct.{IsAlone}

-- where the budget did not run out and each log is narrow, every lawful journal of the program leaves beginnings of its
-- logs; and each after which nothing can step ends as this one does
abbrev pub OneSenderIsEnough : Tree → OutcomeShape → Configuration → Type 0
OneSenderIsEnough program o c = o.verdict ≢ Budget → AreNarrow (lists_in o) → IsAlone program c
