use Rattle.std.proofs.Common.{◌∙◌, ◌++◌, ap}
use Rattle.std.specs.Prelude.{string_bytes}
use Rattle.asp_model.specs.Term.{Tree}
use Rattle.code_table.specs.Tables.{pieces}
use Rattle.checkpoint_text.specs.Items.{term_items}
use Rattle.checkpoint_text.specs.Writing.{tree_items, words}
use Rattle.checkpoint_text.proofs.WritingLemmas.{onward}
use Rattle.frozen_runs.specs.Pieces.{head_items}
use Rattle.frozen_runs.proofs.CellLemmas.{body_shown}
use Rattle.frozen_runs.proofs.methods.put_method.Goals as goal

pub returns : goal.returns
returns c =
    let m = c.args.method.now in
    let old = string_bytes c.args.text.now in
    record {
      adds = onward old (head_items m) (tree_items c.in_ok-body.body) c.in_ok-put_head.ensures.adds c.in_ok-put_term.ensures.adds
          ∙ ap (λ (u : Tree). old ++ words (head_items m ++ term_items u)) (c.in_ok-body.ensures.shown ∙ body_shown (pieces c.args.code.now) m c.args.captured.now c.requires.sound c.requires.few);
    }
