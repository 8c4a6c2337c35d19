use Rattle.std.proofs.Common.{List, ℕ, ◌++◌, map, ap, ◌∙◌}
use Rattle.std.specs.Prelude.{string_bytes}
use Rattle.std.specs.List.{concat}
use Rattle.std.proofs.lemmas.List.{append-nil}
use Rattle.trace_text.proofs.PieceLemmas.{pieces_push}
use Rattle.trace_text.proofs.write.Pieces.turn.Goals as goal

pub returns : goal.returns
returns c =
    let full = c.push.new.self.items in
    ap (λ (t : List ℕ). concat (map string_bytes full) ++ t) (ap string_bytes c.replace-full.ensures.after ∙ c.in_ok-next.ensures.bytes)
    ∙ append-nil (concat (map string_bytes full))
    ∙ pieces_push c.args.self.now.full.items full c.replace-full.result c.in_ok-push.ensures.items
    ∙ ap (λ x. concat (map string_bytes c.args.self.now.full.items) ++ string_bytes x) c.replace-full.ensures.value
