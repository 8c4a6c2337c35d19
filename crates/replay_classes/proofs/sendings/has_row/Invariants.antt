use Rattle.std.proofs.Common.{◌≡◌, drop}
use Rattle.replay_classes.specs.Sendings.{has_log}
use Rattle.replay_classes.proofs.sendings.has_row.Given as goal

abbrev pub invariant-loop-row : goal.invariant-loop-row
invariant-loop-row l = has_log l.rows l.to l.class ≡ has_log (drop l.row-index l.rows) l.to l.class
