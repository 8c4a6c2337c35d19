use Rattle.std.proofs.Common.{rules, ◌≡◌, ℕ, ℤ, List, [], ◌∷◌, sym, ap, subst, ◌∙◌, to_z, of_z, w64}
use Rattle.asp_model.specs.Configuration.{ServiceShape}
use Rattle.asp_model.specs.Shapes.{sign_shape}
use Rattle.asp_model.specs.Term.{Get, Operate, Tree}
use Rattle.code_table.specs.declared.code.Node.{Node}
use Rattle.step_machine.specs.declared.frames.Nested.{Nested}
use Rattle.step_machine.specs.declared.frames.Nested.TheVariants as nested
use Rattle.step_machine.specs.Sites.{IsNested, places_redex}
use Rattle.step_machine.specs.Standing.{View, view_of}
use Rattle.activity_step.proofs.AdvanceLemmas.{one_taken}
use Rattle.activity_step.proofs.state.State.quick_nested.Goals as goal

as_told : (k : List Node) (t : Tree) (vs : List ServiceShape) (v : View) (number from done : ℕ) (x y : Nested) → x ≡ y → IsNested k t vs v number from done x → IsNested k t vs v number from done y
as_told k t vs v number from done x y e h = subst (IsNested k t vs v number from done) e h

pub returns-in_ok-quick_number-in-Number-clause-taken : goal.returns-in_ok-quick_number-in-Number-clause-taken
returns-in_ok-quick_number-in-Number-clause-taken c = λ t vs s ls h at.
    let k : List Node = c.args.code.now in
    let v : View = view_of c.args.self.now.machine in
    let same : to_z w64 (of_z w64 c.in-Number.value) ≡ c.in-Number.value = search rules in
    let is : c.args.redex ≡ nested.Number (to_z w64 (of_z w64 c.in-Number.value)) = c.in-Number.is ∙ ap (λ (z : ℤ). nested.Number z) (sym same) in
    one_taken k c.quick_number.new.self t vs s ls
    (c.in_ok-quick_number-in-Number.ensures.reduced k t vs s ls h (as_told k t vs v c.args.number c.args.from c.args.done c.args.redex (nested.Number (to_z w64 (of_z w64 c.in-Number.value))) is at))

pub returns-in-Some-clause-taken : goal.returns-in-Some-clause-taken
returns-in-Some-clause-taken c = λ t vs s ls h at.
    let k : List Node = c.args.code.now in
    let v : View = view_of c.args.self.now.machine in
    let next : Nested = nested.Get c.in-Get.label c.in-Get.at in
    c.nested_decided.ensures.taken k (places_redex (Get c.in-Get.label.now.label.text) (c.in-Get.at ∷ [])) t vs s ls h
    (as_told k t vs v c.args.number c.args.from c.args.done c.args.redex next c.in-Get.is at) c.in-Some.ensures.row

pub returns-in-Some-near_operate-clause-taken : goal.returns-in-Some-near_operate-clause-taken
returns-in-Some-near_operate-clause-taken c = λ t vs s ls h at.
    let k : List Node = c.args.code.now in
    let v : View = view_of c.args.self.now.machine in
    let next : Nested = nested.Operate c.in-Operate.sign c.in-Operate.first c.in-Operate.second in
    c.nested_decided-in-Operate.ensures.taken k (places_redex (Operate (sign_shape c.in-Operate.sign)) (c.in-Operate.first ∷ c.in-Operate.second ∷ [])) t vs s ls h
    (as_told k t vs v c.args.number c.args.from c.args.done c.args.redex next c.in-Operate.is at) (c.in-Some-near_operate.ensures.row k)

pub returns-else-left-lt2-clause-taken : goal.returns-else-left-lt2-clause-taken
returns-else-left-lt2-clause-taken c = λ t vs s ls h at.
    let k : List Node = c.args.code.now in
    let v : View = view_of c.args.self.now.machine in
    let same : to_z w64 (of_z w64 c.in-OperateNumber.value) ≡ c.in-OperateNumber.value = search rules in
    let next : Nested = nested.OperateNumber c.in-OperateNumber.sign c.in-OperateNumber.first (to_z w64 (of_z w64 c.in-OperateNumber.value)) in
    let is : c.args.redex ≡ next = c.in-OperateNumber.is ∙ ap (λ (z : ℤ). nested.OperateNumber c.in-OperateNumber.sign c.in-OperateNumber.first z) (sym same) in
    c.quick_pair.ensures.taken k t vs s ls h (as_told k t vs v c.args.number c.args.from c.args.done c.args.redex next is at)
