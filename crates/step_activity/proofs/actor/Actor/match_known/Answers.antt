use Rattle.std.proofs.Common.{map, subst}
use Rattle.asp_model.specs.Intent.{labels_served}
use Rattle.asp_model.specs.Store.{cell}
use Rattle.serve_rules.specs.Labels.{label_text}
use Rattle.step_activity.specs.Found.{IsFound}
use Rattle.step_activity.proofs.actor.Actor.match_known.Goals as goal

pub returns-in-Some : goal.returns-in-Some
returns-in-Some c = record {
  oldest = λ a rs h known.
      let wanted = labels_served (map label_text c.args.labels.now) (cell a.store a.active) in
      subst (IsFound wanted a rs) c.in-Some.is known;
}
