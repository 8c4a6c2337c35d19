use Rattle.std.proofs.Common.{rules, ◌≡◌, ◌+◌, suc, refl, ap, subst, ◌∙◌, arith}
use Rattle.std.specs.Arc.{arc_value}
use Rattle.std.specs.Option.{option_map}
use Rattle.code_table.specs.Cells.{held_future}
use Rattle.code_table.specs.Sound.{IsSound}
use Rattle.activity_step.specs.declared.activity.Activity.{Activity}
use Rattle.activity_step.proofs.ServingLemmas.{ended_service}
use Rattle.activity_step.proofs.activity.Activity.end.Goals as goal

pub returns-clause-ended : goal.returns-clause-ended
returns-clause-ended c = λ a place v h splits newest_v.
    let x : Activity = c.args.self.now in
    let sound : IsSound (arc_value x.code) = subst IsSound c.deref.ensures c.code_is_sound.ensures.sound in
    let plus : c.in_ok-reductions.reductions ≡ x.count + 1 = search (rules, c.in_ok-reductions.ensures, c.checked_add.ensures) in
    let counted : c.in_ok-reductions.reductions ≡ suc x.count = omega (arith, plus) in
    let y : Activity = record x { state = record { machine = c.resume.new.self; store = x.state.store; lines = x.state.lines }; present = c.replace.new.dest; count = c.in_ok-reductions.reductions } in (
      ap (option_map held_future) c.replace.ensures.value ∙ h.present,
      ended_service x y a v (option_map held_future c.in_ok-waiting.waiting) h sound newest_v c.in_ok-waiting.ensures.resumed refl refl refl (ap (option_map held_future) c.replace.ensures.after) refl counted,
    )
