use Rattle.std.proofs.Common.{◌≡◌, drop, map}
use Rattle.asp_model.specs.Shapes.{activity_shape}
use Rattle.determinacy.specs.Rulings.{first_open}
use Rattle.determinacy.proofs.ruling.first_open.Given as goal

abbrev pub invariant-loop-place : goal.invariant-loop-place
invariant-loop-place l = first_open (map activity_shape (drop l.place l.activities)) ≡ first_open (map activity_shape l.activities)
