use Rattle.std.proofs.Common.{◌≡◌, suc, true}
use Rattle.asp_model.specs.Names.{created_name}
use Rattle.checkpoint_checks.specs.Maps.{activity_in}
use Rattle.checkpoint_checks.specs.Names.{all_to, is_named}
use Rattle.checkpoint_checks.proofs.names.check_creations.Given as goal

abbrev pub invariant-loop-number : goal.invariant-loop-number
invariant-loop-number l = all_to (λ k. is_named (activity_in l.names) (created_name l.activity.name (suc k))) l.number ≡ true
