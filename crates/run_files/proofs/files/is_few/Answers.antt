use Rattle.std.proofs.Common.{◌↔◌, ◌≤◌, ◌-◌, IsTrue, List, arith, map, subst}
use Rattle.asp_model.specs.declared.limits.TheConstants.{MOST_REDUCTIONS}
use Rattle.checkpoint_parts.specs.Shapes.{activity_shape, checkpoint_shape}
use Rattle.checkpoint_parts.specs.declared.parts.ActivityText.{ActivityText}
use Rattle.checkpoint_checks.specs.Within.{counted}
use Rattle.run_files.proofs.CountLemmas.{room_is}
use Rattle.run_files.proofs.files.is_few.Goals as goal

pub returns : goal.returns
returns c =
    let test = c.have_counted.result in
    let told = subst (λ (xs : List ActivityText).
    IsTrue test ↔ (counted (map activity_shape xs) ≤ MOST_REDUCTIONS - c.args.budget))
    c.deref.ensures.value c.have_counted.ensures.counted in
    record {
      few = room_is (checkpoint_shape c.args.file.now) c.args.budget test c.requires.sound
          (omega (arith, c.if-budget-gt-MOST_REDUCTIONS.false)) told;
    }
