-- Configurations that are alike have outcomes that are equal but for the logs.
use Rattle.std.proofs.Common.{sym}
use Rattle.law_steps.proofs.ReachedLemmas.{reached_right}
use Rattle.law_services.proofs.OutcomeLemmas.{outcomes_same}
use Rattle.law_classes.specs.Complete.{AlikeOutcomes}
use Rattle.law_classes.proofs.AlikeLemmas.{alike_statuses, alike_back}

pub alike_outcomes : AlikeOutcomes
alike_outcomes K program c d reached other alike asks =
    outcomes_same c d (reached_right program c reached) (reached_right program d other)
    (record { activities = alike.activities; futures = alike.futures; statuses = λ n. sym (alike_statuses K d c n (alike_back K c d alike) (asks n)) })
