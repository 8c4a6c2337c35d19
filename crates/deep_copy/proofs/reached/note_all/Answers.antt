use Rattle.std.proofs.Common.{◌<◌, ◌++◌, ◌∷◌, [], List, ℕ, length, take, append_assoc, sym, ap, ◌∙◌, arith}
use Rattle.std.proofs.lemmas.List.{take_all, take_more}
use Rattle.code_table.specs.Places.{placed}
use Rattle.deep_copy.proofs.reached.note_all.Goals as goal

pub loop-at-preserved : goal.loop-at-preserved
loop-at-preserved c =
    let ps : List ℕ = placed c.args.held.now in
    let old : List ℕ = c.args.places.now.items in
    let i = c.loop-at.at in
    let lt : i < length ps = omega (arith, c.loop-at-test.true, c.len-at-end.ensures) in
    c.in_ok-push.ensures.ok ∙ ap (λ (xs : List ℕ). xs ++ c.at.result ∷ []) c.loop-at.invariant ∙ append_assoc old (take i ps) (c.at.result ∷ [])
    ∙ ap (λ (xs : List ℕ). old ++ xs) (ap (λ y. take i ps ++ y ∷ []) (c.at.ensures.place 0) ∙ sym (take_more ps i 0 lt))

pub returns : goal.returns
returns c =
    let ps : List ℕ = placed c.args.held.now in
    let old : List ℕ = c.args.places.now.items in
    c.loop-at.invariant ∙ ap (λ (xs : List ℕ). old ++ xs) (take_all c.loop-at.at ps (omega (arith, c.loop-at-test.false, c.len-at-end.ensures)))
