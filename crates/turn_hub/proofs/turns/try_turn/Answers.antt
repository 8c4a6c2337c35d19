use Rattle.std.proofs.Common.{◌<◌, lit<, arith}
use Rattle.atomic_table.proofs.Lists.{exchanged}
use Rattle.turn_hub.proofs.TakingLemmas.{tries}
use Rattle.turn_hub.proofs.turns.try_turn.Goals as goal

pub compare_exchange-requires : goal.compare_exchange-requires
compare_exchange-requires g c = let words = c.requires.table.1.0 in (
  c.requires.table.0,
  omega arith,
  tries g.H.Lends.history g.H.Lends.out g.H.Lends.keeps _ _ _ _ _ _ c.requires.live (λ n. exchanged n 0 1 (λ m. 0 < m) (λ free. lit< tt) (λ taken. omega arith)),
)
