use Rattle.std.proofs.Common.{◌<◌, length, sym, ◌∙◌, arith}
use Rattle.code_table.specs.Tables.{text_of}
use Rattle.code_table.proofs.LookupLemmas.{labelled_here, labelled_later}
use Rattle.code_table.proofs.class.Class.walk_fields.Goals as goal

pub returns-then-eq : goal.returns-then-eq
returns-then-eq c =
    let lt : c.loop-i.i < length c.args.self.now.fields.items = omega (arith, c.len-i-end.ensures, c.loop-i-test.true) in
    record { number = labelled_here text_of c.args.label.now.text c.args.self.now.fields.items c.loop-i.i c.index.result.now lt c.index.ensures c.loop-i.invariant (sym c.eq.ensures ∙ c.if-eq.true) }

pub loop-i-preserved : goal.loop-i-preserved
loop-i-preserved c =
    let lt : c.loop-i.i < length c.args.self.now.fields.items = omega (arith, c.len-i-end.ensures, c.loop-i-test.true) in
    labelled_later text_of c.args.label.now.text c.args.self.now.fields.items c.loop-i.i c.index.result.now lt c.index.ensures c.loop-i.invariant (sym c.eq.ensures ∙ c.if-eq.false)
