use Rattle.std.proofs.Common.{rules, ◌≡◌, ◌++◌, ℕ, ℤ, [], ◌∷◌, length, refl, sym, ap, subst, ◌∙◌, to_z, of_z, w64}
use Rattle.asp_model.specs.Shapes.{sign_shape}
use Rattle.asp_model.specs.Split.{Redex}
use Rattle.asp_model.specs.Term.{Operate}
use Rattle.code_table.specs.Cells.{CodedStore}
use Rattle.code_table.specs.Cells as coded
use Rattle.step_machine.specs.Sites.{places_redex}
use Rattle.step_rows.proofs.ReadLemmas.{cell_added}
use Rattle.activity_step.specs.declared.state.State.{State}
use Rattle.activity_step.proofs.AdvanceLemmas.{two_given}
use Rattle.activity_step.proofs.state.State.quick_pair.Goals as goal

pub returns-clause-taken : goal.returns-clause-taken
returns-clause-taken c = λ k t vs s ls h at.
    let x : State = c.args.self.now in
    let y : State = record { machine = c.give.new.self; store = c.add-2.new.self; lines = x.lines } in
    let z : ℤ = c.args.value in
    let w : ℤ = c.in-Some.sum in
    let old : CodedStore = x.store.cells in
    let same_z : to_z w64 (of_z w64 z) ≡ z = search rules in
    let same_w : to_z w64 (of_z w64 w) ≡ w = search rules in
    let r : ℕ → Redex = λ q. places_redex (Operate (sign_shape c.args.sign)) (c.args.first ∷ q ∷ []) in
    let one : c.add.new.self.cells ≡ old ++ coded.Number z ∷ [] = c.in_ok-add.ensures.cells ∙ ap (λ n. old ++ coded.Number n ∷ []) same_z in
    let two : y.store.cells ≡ old ++ coded.Number z ∷ [] ++ coded.Number w ∷ [] = c.in_ok-place.ensures.cells ∙ (λ i. one i ++ coded.Number (same_w i) ∷ []) in
    two_given k x y t vs s ls c.args.number c.args.from c.args.done c.in_ok-place.place z w r h at
    (c.in-Some.ensures.row k (coded.Number z ∷ []) (length old) (cell_added old [] (coded.Number z) ∙ ap (λ (n : ℤ). coded.Number n) (sym same_z)))
    two (c.in_ok-place.ensures.place ∙ ap length one) c.in_ok-give.ensures.view refl
