-- Counts that differ at the first activity that main creates.
use Rattle.std.proofs.Common.{◌≡◌, ap}
use Rattle.asp_model.specs.Replay.{CountsShape, count_in}
use Rattle.worked_rows.specs.Reports.{created}

pub no_other_count : {counts others : CountsShape} → counts ≡ others → (count_in counts (created 1) ≡ count_in others (created 1) → ⊥) → ⊥
no_other_count e f = f (ap (λ cs. count_in cs (created 1)) e)
