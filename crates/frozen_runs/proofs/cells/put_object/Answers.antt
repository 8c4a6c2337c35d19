use Rattle.std.proofs.Common.{◌<◌, length, arith, sym}
use Rattle.code_table.proofs.GrowthLemmas.{methods_below_more}
use Rattle.frozen_runs.proofs.CellLemmas.{class_within}
use Rattle.frozen_runs.proofs.cells.put_object.Goals as goal

pub put_class-requires-clause-below : goal.put_class-requires-clause-below
put_class-requires-clause-below c =
    let number = c.args.object.class in
    let code = c.args.code.now in
    let lt : number < length code = class_within code number c.in-Some.class.now (sym c.in-Some.ensures.class) in
    methods_below_more number (length code) c.in-Some.class.now.methods.items (omega (arith, lt)) c.in-Some.ensures.below
