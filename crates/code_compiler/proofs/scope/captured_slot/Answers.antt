use Rattle.std.proofs.Common.{◌≡◌, ◌+◌, ℕ, suc, None, take, sym, ap, subst, ◌∙◌, arith}
use Rattle.std.proofs.lemmas.List.{take_all}
use Rattle.asp_model.specs.Names.{same_text}
use Rattle.code_table.specs.Classes.{number_of}
use Rattle.code_table.proofs.LookupLemmas.{number_here, number_later}
use Rattle.code_compiler.proofs.SlotLemmas.{numbered}
use Rattle.code_compiler.proofs.scope.captured_slot.Goals as goal

pub returns-then-eq : goal.returns-then-eq
returns-then-eq c = record {
  number = number_here c.args.name.now c.args.captured.now c.loop-i.i c.index-captured-i.result c.loop-i-test.true c.loop-i.invariant (ap (same_text c.args.name.now) (sym c.index-captured-i.is) ∙ sym c.eq.ensures ∙ c.if-eq.true);
}

pub loop-i-preserved : goal.loop-i-preserved
loop-i-preserved c =
    let next : suc c.loop-i.i ≡ c.loop-i.i + 1 = omega arith in
    subst (λ (k : ℕ). number_of c.args.name.now (take k c.args.captured.now) ≡ None) next
    (number_later c.args.name.now c.args.captured.now c.loop-i.i c.index-captured-i.result c.loop-i-test.true c.loop-i.invariant (ap (same_text c.args.name.now) (sym c.index-captured-i.is) ∙ sym c.eq.ensures ∙ c.if-eq.false))

pub unreachable-requires : goal.unreachable-requires
unreachable-requires c =
    let all : take c.loop-i.i c.args.captured.now ≡ c.args.captured.now = take_all c.loop-i.i c.args.captured.now c.loop-i-test.false in
    numbered c.args.name.now c.args.captured.now c.requires.among (sym (ap (number_of c.args.name.now) all) ∙ c.loop-i.invariant)
