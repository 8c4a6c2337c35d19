use Rattle.std.proofs.Common.{◌≡◌, ◌<◌, ◌++◌, length, length-append, sym, ap, ◌∙◌, arith}
use Rattle.code_table.specs.Cells.{CodedStore}
use Rattle.object_store.specs.declared.parts.Part.{Part}
use Rattle.object_store.proofs.PartLemmas.{but_last_left, but_last_right}
use Rattle.object_store.proofs.parts.Part.pop.Goals as goal

pub returns-then-len-gt0-clause-cells : goal.returns-then-len-gt0-clause-cells
returns-then-len-gt0-clause-cells c =
    let p : Part = c.args.self.now in
    let some : 0 < length p.attached.items = omega (arith, c.if-len-gt0.true, c.len.ensures) in
    ap (λ (s : CodedStore). p.own.items ++ s) c.pop.ensures.items ∙ sym (but_last_right p.own.items p.attached.items some)

pub pop-requires-2 : goal.pop-requires-2
pop-requires-2 c =
    let p : Part = c.args.self.now in
    record { some = omega (arith, c.requires.some, length-append p.own.items p.attached.items, c.if-len-gt0.false, c.len.ensures) }

pub returns-clause-cells : goal.returns-clause-cells
returns-clause-cells c =
    let p : Part = c.args.self.now in
    let none : length p.attached.items ≡ 0 = omega (arith, c.if-len-gt0.false, c.len.ensures) in
    ap (λ (s : CodedStore). s ++ p.attached.items) c.pop-2.ensures.items ∙ but_last_left p.own.items p.attached.items none
