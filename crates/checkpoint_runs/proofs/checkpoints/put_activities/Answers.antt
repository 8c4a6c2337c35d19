use Rattle.std.proofs.Common.{◌≡◌, ◌∙◌, ◌++◌, ◌∷◌, [], List, map, arith, ap, subst, sym}
use Rattle.std.specs.Global.{Box}
use Rattle.asp_model.specs.Names.{Name}
use Rattle.asp_model.specs.Report.{text_of}
use Rattle.step_activity.specs.declared.actor.Actor.{Actor}
use Rattle.asp_core.specs.Frozen.{AreFrozenIn, IsFrozenAt}
use Rattle.checkpoint_runs.specs.Saved.{activity_lines, text_in}
use Rattle.checkpoint_runs.proofs.SavedLemmas.{all_written, no_entries, one_written}
use Rattle.checkpoint_runs.proofs.checkpoints.put_activities.Goals as goal

pub loop-name-init : goal.loop-name-init
loop-name-init c = λ x h.
    let same : c.into_iter-name-iterator.result.rest.items ≡ c.args.activities.items = c.into_iter-name-iterator.ensures.into_iter_gives.0 in (
      subst (AreFrozenIn c.args.code.now x) (sym same) h,
      ap (λ (es : List (Name × Box Actor)). text_in c.args.pieces.now.items ++ text_of (activity_lines x (map (λ e. e.0) es))) same,
    )

pub loop-name-preserved : goal.loop-name-preserved
loop-name-preserved c = λ x h.
    let all = c.loop-name.invariant x h in
    let old = c.loop-name.name-iterator.rest.items in
    let new = c.next.new.self.rest.items in
    let step : old ≡ (c.in-Some.name, c.in-Some.actor) ∷ new = c.in-Some.ensures.steps.0 in
    let left = subst (AreFrozenIn c.args.code.now x) step all.0 in
    let here = subst (IsFrozenAt c.args.code.now x c.in-Some.name) (sym c.into_inner.ensures) left.0 in (
      left.1,
      one_written x c.in-Some.name (map (λ e. e.0) new) c.loop-name.pieces.items c.put_activity.new.pieces.items (c.in_ok-put_activity.ensures.adds x here)
          ∙ ap (λ (es : List (Name × Box Actor)). text_in c.loop-name.pieces.items ++ text_of (activity_lines x (map (λ e. e.0) es))) (sym step)
          ∙ all.1,
    )

pub returns : goal.returns
returns c = record {
  adds = λ x h.
      let left = c.loop-name.name-iterator.rest.items in
      let none : left ≡ [] = no_entries left (omega (arith, c.loop-name.name-iterator.rest.ok, c.in-None.ensures.steps.0)) in
      all_written x (map (λ e. e.0) c.args.activities.items) c.args.pieces.now.items c.loop-name.pieces.items left none (c.loop-name.invariant x h).1;
}
