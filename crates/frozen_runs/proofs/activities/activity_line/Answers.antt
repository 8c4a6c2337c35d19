use Rattle.std.proofs.Common.{◌∙◌, ◌++◌, map}
use Rattle.asp_model.specs.Shapes.{reception_shape}
use Rattle.checkpoint_text.specs.Lines.{activity_items}
use Rattle.checkpoint_text.specs.Writing.{words}
use Rattle.frozen_runs.specs.Activities.{frozen_by}
use Rattle.frozen_runs.proofs.activities.activity_line.Goals as goal

pub returns : goal.returns
returns c =
    let log = map reception_shape c.args.parts.now.log.items in
    record {
      line = λ a rs p. c.in_ok-put_activity.ensures.adds a rs p
          ∙ (λ i. c.in_ok-text.ensures.ok i ++ words (activity_items (frozen_by c.args.name.now a log rs)));
    }
