use Rattle.std.proofs.Common.{◌≡◌, ◌-◌, ◌<◌, suc, length, map, subst, sym, ap, ◌∙◌, arith}
use Rattle.code_table.specs.declared.code.MethodCode.{MethodCode}
use Rattle.code_table.proofs.NumberLemmas.{AreFrom, none_yet, put_before, all_in}
use Rattle.code_table.proofs.numbers.all_methods.Goals as goal

pub loop-i-init : goal.loop-i-init
loop-i-init c = none_yet (λ (m : MethodCode). m.label.text) c.args.methods.now c.new-numbers.result.entries c.new-numbers.ensures.empty

pub loop-i-preserved : goal.loop-i-preserved
loop-i-preserved c =
    let xs = c.args.methods.now in
    let i = c.loop-i.i - 1 in
    let next : c.loop-i.i ≡ suc i = omega (arith, c.loop-i-test.true) in
    let lt : i < length xs = omega (arith, c.loop-i-test.true, c.loop-i.auto.i) in
    let label = c.in_ok-copy.ensures.label ∙ ap (λ (m : MethodCode). m.label.text) (sym c.index-methods-i.is) in
    put_before (λ (m : MethodCode). m.label.text) xs i c.index-methods-i.result c.in_ok-copy.field-0 c.loop-i.numbers.entries c.insert.new.self.entries lt c.index-methods-i.is label
    (subst (λ n. AreFrom n (map (λ (m : MethodCode). m.label.text) xs) c.loop-i.numbers.entries) next c.loop-i.invariant) c.in_ok-insert.ensures.updates.0

pub returns : goal.returns
returns c =
    let ls = map (λ (m : MethodCode). m.label.text) c.args.methods.now in
    let first : c.loop-i.i ≡ 0 = omega (arith, c.loop-i-test.false) in
    record { numbers = all_in ls c.loop-i.numbers.entries (subst (λ n. AreFrom n ls c.loop-i.numbers.entries) first c.loop-i.invariant) }
