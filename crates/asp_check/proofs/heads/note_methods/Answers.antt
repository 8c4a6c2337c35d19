use Rattle.std.proofs.Common.{arith}
use Rattle.asp_check.specs.Sets.{names_in}
use Rattle.asp_check.proofs.Methods.{methods_more}
use Rattle.asp_check.proofs.heads.note_methods.Goals as goal

pub loop-method-preserved : goal.loop-method-preserved
loop-method-preserved c =
    let e = methods_more c.loop-method.places.node c.args.methods.now c.loop-method.method-index c.method-item.result c.loop-method.least (names_in c.loop-method.labels) c.loop-method.places.left.now (omega arith) c.method-item.is in
    grind (arith, e)
