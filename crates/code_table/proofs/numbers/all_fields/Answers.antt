use Rattle.std.proofs.Common.{◌≡◌, ◌-◌, ◌<◌, suc, length, map, subst, arith}
use Rattle.code_table.specs.Tables.{text_of}
use Rattle.code_table.proofs.NumberLemmas.{AreFrom, none_yet, put_before, all_in}
use Rattle.code_table.proofs.numbers.all_fields.Goals as goal

pub loop-i-init : goal.loop-i-init
loop-i-init c = none_yet text_of c.args.fields.now c.new-numbers.result.entries c.new-numbers.ensures.empty

pub loop-i-preserved : goal.loop-i-preserved
loop-i-preserved c =
    let xs = c.args.fields.now in
    let i = c.loop-i.i - 1 in
    let next : c.loop-i.i ≡ suc i = omega (arith, c.loop-i-test.true) in
    let lt : i < length xs = omega (arith, c.loop-i-test.true, c.loop-i.auto.i) in
    put_before text_of xs i c.index-fields-i.result c.in_ok-copy.field-0 c.loop-i.numbers.entries c.insert.new.self.entries lt c.index-fields-i.is c.in_ok-copy.ensures.label
    (subst (λ n. AreFrom n (map text_of xs) c.loop-i.numbers.entries) next c.loop-i.invariant) c.in_ok-insert.ensures.updates.0

pub returns : goal.returns
returns c =
    let ls = map text_of c.args.fields.now in
    let first : c.loop-i.i ≡ 0 = omega (arith, c.loop-i-test.false) in
    record { numbers = all_in ls c.loop-i.numbers.entries (subst (λ n. AreFrom n ls c.loop-i.numbers.entries) first c.loop-i.invariant) }
