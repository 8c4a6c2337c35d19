use Rattle.std.proofs.Common.{◌∙◌, ◌++◌, ap, sym, append_assoc}
use Rattle.std.proofs.lemmas.List.{append-nil}
use Rattle.std.specs.Prelude.{string_bytes}
use Rattle.asp_model.specs.Names.{Text}
use Rattle.asp_model.specs.Report.{with_feed}
use Rattle.checkpoint_runs.specs.Saved.{text_in}
use Rattle.checkpoint_runs.proofs.LineLemmas.{pieces_then}
use Rattle.checkpoint_runs.proofs.checkpoints.put_line.Goals as goal

pub returns-in_ok-put_behind-in-Some : goal.returns-in_ok-put_behind-in-Some
returns-in_ok-put_behind-in-Some c = record {
  adds =
      let old = c.args.pieces.now.items in
      let less = c.pop.new.self.items in
      let last = c.in-Some.last in
      let more = string_bytes c.push_str.new.self in
      c.in_ok-put_behind-in-Some.ensures.adds
      ∙ sym (append_assoc (text_in less) (string_bytes last) more)
      ∙ ap (λ (t : Text). t ++ more) (sym (pieces_then less old last c.in-Some.ensures.items))
      ∙ ap (λ (t : Text). text_in old ++ t) (c.in_ok-push_str.ensures.bytes ∙ sym (append-nil (with_feed (string_bytes c.args.line))));
}
