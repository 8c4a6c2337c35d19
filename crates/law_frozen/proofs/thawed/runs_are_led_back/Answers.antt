use Rattle.law_frozen.proofs.ThawLemmas.{runs_are_led_back}
use Rattle.law_frozen.proofs.thawed.runs_are_led_back.Goals as goal

pub returns : goal.returns
returns c = runs_are_led_back
