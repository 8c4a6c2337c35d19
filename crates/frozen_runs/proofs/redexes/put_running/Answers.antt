use Rattle.std.proofs.Common.{◌∙◌, ◌++◌, ap, map, sym}
use Rattle.std.specs.Prelude.{string_bytes}
use Rattle.asp_model.specs.Shapes.{tree_of}
use Rattle.checkpoint_text.specs.Items.{Items, term_items}
use Rattle.checkpoint_text.specs.Writing.{words}
use Rattle.checkpoint_text.proofs.WritingLemmas.{list_mapped}
use Rattle.frozen_runs.proofs.RedexLemmas.{shown_split}
use Rattle.frozen_runs.proofs.redexes.put_running.Goals as goal

pub returns : goal.returns
returns c =
    let terms = c.args.terms.now in
    record {
      adds = λ t vs shown s. c.in_ok-put_terms.ensures.adds
          ∙ ap (λ (us : Items). string_bytes c.args.text.now ++ words us) (sym (list_mapped term_items tree_of terms) ∙ sym (shown_split t vs (map tree_of terms) shown s (sym c.have_settled.ensures.split ∙ c.if-not-have_settled.false)));
    }
