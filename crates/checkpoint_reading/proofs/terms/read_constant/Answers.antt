use mir.Val.{SFits}
use Rattle.std.proofs.Common.{◌≡◌, ◌∙◌, ℤ, to_z, of_z, w64, ap, rules}
use Rattle.std.proofs.lemmas.Int.{to_z-of_z}
use Rattle.asp_model.specs.Term.{Number, leaf}
use Rattle.code_table.proofs.TermTrees.{number_is}
use Rattle.checkpoint_reading.proofs.TermLemmas.{as_tree}
use Rattle.checkpoint_reading.proofs.terms.read_constant.Goals as goal

pub returns : goal.returns
returns c =
    let n = c.in_ok-number.number in
    let fits : SFits w64 n = search rules in
    let same : to_z w64 (of_z w64 n) ≡ n = to_z-of_z w64 n fits in
    record { read = rw c.in_ok-number.ensures.read (as_tree _ _ (number_is (to_z w64 (of_z w64 n)) c.blank.result ∙ ap (λ (k : ℤ). leaf (Number k)) same)) }
