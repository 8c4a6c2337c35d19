use Rattle.std.proofs.Common.{◌≡◌, ℕ, List, [], ◌∷◌, ◌++◌, OnOk, append-nil, arith, drop, length, refl, sym, ap, subst, ◌∙◌}
use Rattle.code_laws.specs.Places.{kept_places}
use Rattle.code_table.specs.Cells.{Object}
use Rattle.code_table.specs.declared.code.MethodCode.{MethodCode}
use Rattle.step_machine.specs.Stacks.{last}
use Rattle.activity_step.proofs.objects.add_made.Goals as goal

none_kept : (ns : List ℕ) (ms : List MethodCode) → length ms ≡ 0 → kept_places ns ms ≡ []
none_kept ns [] e = refl
none_kept ns (m ∷ ms) e = absurd (omega (arith, e))

pub returns-then-is_empty-clause-cells : goal.returns-then-is_empty-clause-cells
returns-then-is_empty-clause-cells c =
    let m = c.args.machine.now in
    let ms : List MethodCode = c.args.class.now.methods.items in
    let ns : List ℕ = drop m.base m.env.items in
    let ops : List ℕ = last c.args.count m.operands.items in
    let none : length ms ≡ 0 = grind (arith, c.is_empty.ensures, c.if-is_empty.true) in
    subst (λ (ks : List ℕ). OnOk c.add_object.result (c.add_object.new.self.cells ≡ c.args.store.now.cells ++ Object c.args.number ks ∷ []))
    (c.last_operands.ensures.operands ∙ sym (append-nil ops) ∙ ap (λ (ks : List ℕ). ops ++ ks) (sym (none_kept ns ms none))) c.add_object.ensures.cells
