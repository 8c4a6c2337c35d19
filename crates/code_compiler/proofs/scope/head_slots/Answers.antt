use Rattle.std.proofs.Common.{rules, ◌≡◌, ◌∷◌, ◌++◌, ◌+◌, [], ℕ, suc, List, length, take, Bor, refl, sym, ap, subst, ◌∙◌, ◌<◌, get_or}
use Rattle.std.proofs.lemmas.List.{take_more}
use Rattle.asp_model.specs.Names.{Text}
use Rattle.asp_model.specs.Term.{Environment}
use Rattle.code_table.specs.Fitting.{slots_from}
use Rattle.code_compiler.specs.Slots.{environment}
use Rattle.code_compiler.proofs.SlotLemmas.{slots_snoc, length-slots}
use Rattle.code_compiler.proofs.scope.head_slots.Goals as goal

environment_snoc : (bs : List (Bor Text × ℕ)) (b : Bor Text × ℕ) → environment (bs ++ b ∷ []) ≡ environment bs ++ (b.0.now, b.1) ∷ []
environment_snoc [] b = refl
environment_snoc (x ∷ bs) b = ap (λ (l : Environment). (x.0.now, x.1) ∷ l) (environment_snoc bs b)

environment_size : (bs : List (Bor Text × ℕ)) → length (environment bs) ≡ length bs
environment_size [] = refl
environment_size (x ∷ bs) = ap suc (environment_size bs)

same_length : (d e : Environment) → d ≡ e → length d ≡ length e
same_length d e p = ap length p

-- one more name in the next slot
step : (h k i : ℕ) (slf x : Text) (ps : List Text) (bs : List (Bor Text × ℕ)) (b : Bor Text) → environment bs ≡ slots_from h (slf ∷ take i ps) → k ≡ length bs → b.now ≡ x → take (i + 1) ps ≡ take i ps ++ x ∷ []
    → environment (bs ++ (b, h + k) ∷ []) ≡ slots_from h (slf ∷ take (i + 1) ps)
step h k i slf x ps bs b e size same more =
    let count : k ≡ length (slf ∷ take i ps) = size ∙ sym (environment_size bs) ∙ same_length (environment bs) (slots_from h (slf ∷ take i ps)) e ∙ length-slots h (slf ∷ take i ps) in
    environment_snoc bs (b, h + k) ∙ (λ j. e j ++ (same j, h + count j) ∷ []) ∙ sym (slots_snoc h (slf ∷ take i ps) x) ∙ ap (λ (l : List Text). slots_from h (slf ∷ l)) (sym more)

pub loop-name-preserved : goal.loop-name-preserved
loop-name-preserved c =
    let i : ℕ = c.loop-name.name-index in
    let ps : List Text = c.args.method.now.parameters.items in
    let x : Text = c.name-item.result in
    let are : c.deref-name-items.result.now ≡ ps = c.deref-name-items.ensures.value in
    let within : i < length ps = subst (λ (l : List Text). i < length l) are c.loop-name-test.true in
    let at : x ≡ get_or ps i x = subst (λ (l : List Text). x ≡ get_or l i x) are c.name-item.is in
    let more : take (i + 1) ps ≡ take i ps ++ x ∷ [] = take_more ps i x within ∙ ap (λ (y : Text). take i ps ++ y ∷ []) (sym at) in
    let size : c.len.result ≡ length c.loop-name.bound.items = search (rules, c.len.ensures) in
    ap environment c.in_ok-push-2.ensures.items ∙ step (length c.args.captured.now) c.len.result i c.args.method.now.slf x ps c.loop-name.bound.items _ c.loop-name.invariant size refl more
