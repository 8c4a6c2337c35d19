use Rattle.std.proofs.Common.{arith, sym}
use Rattle.frozen_runs.proofs.CellLemmas.{fewer_fields, fewer_places}
use Rattle.frozen_runs.proofs.cells.field_count.Goals as goal

pub returns-then-fields-places : goal.returns-then-fields-places
returns-then-fields-places c = record { count = sym (fewer_fields c.args.fields.now c.args.places.now (omega (arith, c.if-fields-places.true))) }

pub returns-else-fields-places : goal.returns-else-fields-places
returns-else-fields-places c = record { count = sym (fewer_places c.args.fields.now c.args.places.now (omega (arith, c.if-fields-places.false))) }
