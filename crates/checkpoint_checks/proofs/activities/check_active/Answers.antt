use Rattle.std.proofs.Common.{◌∙◌, arith, sym}
use Rattle.checkpoint_checks.proofs.CellLemmas.{inside, length_mapped, outside}
use Rattle.checkpoint_checks.proofs.activities.check_active.Goals as goal

pub returns-then-active-size_of : goal.returns-then-active-size_of
returns-then-active-size_of c = record { object = λ u. outside c.args.cells.now c.args.active (omega (arith, length_mapped c.args.cells.now)) }

pub returns-then-fits : goal.returns-then-fits
returns-then-fits c = record { object = inside c.args.cells.now c.args.active c.index-cells-active.result (omega (arith, length_mapped c.args.cells.now)) c.index-cells-active.is ∙ sym c.is_object-fits.ensures.object ∙ c.if-fits.true }

pub returns-else-fits : goal.returns-else-fits
returns-else-fits c = record { object = λ u. inside c.args.cells.now c.args.active c.index-cells-active.result (omega (arith, length_mapped c.args.cells.now)) c.index-cells-active.is ∙ sym c.is_object-fits.ensures.object ∙ c.if-fits.false }
