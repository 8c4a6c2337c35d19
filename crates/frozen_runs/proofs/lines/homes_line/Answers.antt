use Rattle.std.proofs.Common.{◌∙◌, ◌++◌, ap, sym}
use Rattle.std.specs.Prelude.{codes}
use Rattle.asp_model.specs.declared.name.FutureName.{FutureName}
use Rattle.asp_model.specs.Names.{Name}
use Rattle.asp_model.specs.Shapes.{future_shape}
use Rattle.checkpoint_text.specs.Items.{Items, future_items, list_items, name_items, pair_items}
use Rattle.checkpoint_text.specs.Writing.{words}
use Rattle.checkpoint_text.proofs.WritingLemmas.{list_mapped}
use Rattle.frozen_runs.specs.Pieces.{home_items}
use Rattle.frozen_runs.proofs.lines.homes_line.Goals as goal

pub returns : goal.returns
returns c =
    let homes = c.args.homes.now in
    record {
      line = c.in_ok-put_homes.ensures.adds
          ∙ (λ i. c.in_ok-text.ensures.ok i ++ words (list_items home_items homes))
          ∙ ap (λ (ts : Items). codes "homes" ++ words ts) (sym (list_mapped (pair_items future_items name_items) (λ (h : FutureName × Name). (future_shape h.0, h.1)) homes));
    }
