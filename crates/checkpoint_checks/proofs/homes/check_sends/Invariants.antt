use Rattle.std.proofs.Common.{◌≡◌, suc, true}
use Rattle.std.specs.Option.{is_some}
use Rattle.checkpoint_checks.specs.Maps.{home_in}
use Rattle.checkpoint_checks.specs.Names.{all_to}
use Rattle.checkpoint_checks.proofs.homes.check_sends.Given as goal

abbrev pub invariant-loop-number : goal.invariant-loop-number
invariant-loop-number l = all_to (λ k. is_some (home_in l.homes (record { by = l.activity.name; index = suc k }))) l.number ≡ true
