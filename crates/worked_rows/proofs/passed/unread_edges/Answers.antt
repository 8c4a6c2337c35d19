use Rattle.std.proofs.Common.{refl}
use Rattle.worked_rows.proofs.passed.unread_edges.Goals as goal

pub returns : goal.returns
returns c = record {
  run = refl;
  edges = refl;
  delivered = refl;
  owed = record { forward = refl; from_home = refl; no_more = refl; not_one_less = refl; left = refl };
  lazy = record { received = refl; delivered = refl };
}
