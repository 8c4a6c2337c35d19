use Rattle.std.proofs.Common.{length-append, arith}
use Rattle.object_store.specs.declared.parts.Part.{Part}
use Rattle.object_store.proofs.parts.Part.is_empty.Goals as goal

pub returns-then-len-gt0 : goal.returns-then-len-gt0
returns-then-len-gt0 c =
    let p : Part = c.args.self.now in
    record { empty = tt; some = omega (arith, length-append p.own.items p.attached.items, c.if-len-gt0.true, c.len.ensures) }

pub returns-then-len-gt0-2 : goal.returns-then-len-gt0-2
returns-then-len-gt0-2 c =
    let p : Part = c.args.self.now in
    record { empty = tt; some = omega (arith, length-append p.own.items p.attached.items, c.if-len-gt0-2.true, c.len-2.ensures) }

pub returns : goal.returns
returns c =
    let p : Part = c.args.self.now in
    record { empty = omega (arith, length-append p.own.items p.attached.items, c.if-len-gt0.false, c.len.ensures, c.if-len-gt0-2.false, c.len-2.ensures); some = tt }
