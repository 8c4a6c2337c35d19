use mir.Val.{SFits}
use Rattle.std.proofs.Common.{◌≡◌, to_z, of_z, w64, ap, rules}
use Rattle.std.proofs.lemmas.Int.{to_z-of_z}
use Rattle.asp_model.specs.Store.{Number}
use Rattle.checkpoint_makes.proofs.MadeLemmas.{plain_pushed}
use Rattle.checkpoint_makes.proofs.cells.push_number.Goals as goal

pub returns : goal.returns
returns c =
    let n = c.args.number in
    let fits : SFits w64 n = search rules in
    let same : to_z w64 (of_z w64 n) ≡ n = to_z-of_z w64 n fits in
    record { pushed = λ ns. plain_pushed ns _ _ _ _ c.in_ok-push_bare.ensures.items (λ k. ap Number same) }
