use Rattle.std.proofs.Common.{◌∙◌, ◌++◌, ap, append_assoc}
use Rattle.std.specs.Prelude.{string_bytes}
use Rattle.asp_model.specs.Names.{Text}
use Rattle.checkpoint_runs.specs.Saved.{text_in}
use Rattle.checkpoint_runs.proofs.LineLemmas.{pieces_then}
use Rattle.checkpoint_runs.proofs.checkpoints.put_behind.Goals as goal

pub returns-in_ok-push : goal.returns-in_ok-push
returns-in_ok-push c = record {
  adds =
      let old = c.args.pieces.now.items in
      pieces_then old c.push.new.self.items c.push_str.new.self c.in_ok-push.ensures.items
      ∙ ap (λ (t : Text). text_in old ++ t) (c.in_ok-push_str.ensures.bytes ∙ ap (λ (t : Text). string_bytes c.args.last ++ t) c.deref.ensures);
}

pub returns-in_ok-push-3 : goal.returns-in_ok-push-3
returns-in_ok-push-3 c = record {
  adds =
      let old = c.args.pieces.now.items in
      let one = c.push-else-len-le-PIECE_BYTES.new.self.items in
      let two = c.push-else-len-le-PIECE_BYTES-2.new.self.items in
      pieces_then one two c.args.text c.in_ok-push-3.ensures.items
      ∙ ap (λ (t : Text). t ++ string_bytes c.args.text) (pieces_then old one c.args.last c.in_ok-push-2.ensures.items)
      ∙ append_assoc (text_in old) (string_bytes c.args.last) (string_bytes c.args.text);
}
