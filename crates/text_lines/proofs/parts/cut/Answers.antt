use Rattle.std.proofs.Common.{◌≡◌, subst, map, rules, tests, List, ℕ, IfOk}
use Rattle.std.specs.Prelude.{◌==◌}
use Rattle.std.proofs.lemmas.Iterator.Consumers.{map_from_collect}
use Rattle.std.proofs.lemmas.Iterator.Splits.{YieldsList-from_slice_split}
use Rattle.text_lines.proofs.PartsLemmas.{split_is}
use Rattle.text_lines.proofs.parts.cut.Goals as goal

pub returns : goal.returns
returns c =
    let text = c.args.text.now in
    record {
      parts = subst (λ (ps : List (List ℕ)). IfOk c.collect.result (λ v. map (λ p. p.now) v.items ≡ ps)) (split_is c.args.byte text)
          (map_from_collect _ c.collect.ensures.ran (YieldsList-from_slice_split _ (λ b. b == c.args.byte) text c.split.ensures.rest c.split.ensures.done c.split.ensures.closure (λ x b q k. search (rules, tests))));
    }
