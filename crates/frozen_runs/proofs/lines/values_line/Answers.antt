use Rattle.std.proofs.Common.{◌∙◌, ◌++◌, ap}
use Rattle.std.specs.Prelude.{codes}
use Rattle.checkpoint_text.specs.Items.{Items, future_items, list_items, pair_items, parcel_items}
use Rattle.checkpoint_text.specs.Writing.{words}
use Rattle.frozen_runs.specs.Pieces.{value_items}
use Rattle.frozen_runs.proofs.LineLemmas.{values_laid}
use Rattle.frozen_runs.proofs.lines.values_line.Goals as goal

pub returns : goal.returns
returns c =
    let es = c.in_ok-entries.entries.entries in
    record {
      line = c.in_ok-put_values.ensures.adds
          ∙ (λ i. c.in_ok-text.ensures.ok i ++ words (list_items value_items es))
          ∙ ap (λ (ts : Items). codes "filled" ++ words ts) (values_laid es ∙ ap (list_items (pair_items future_items parcel_items)) c.in_ok-entries.ensures.entries);
    }
