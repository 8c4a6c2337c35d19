use Rattle.std.proofs.Common.{◌<◌, lit<, arith, subst, sym, ◌∙◌, length}
use Rattle.atomic_table.specs.Table.{Me}
use Rattle.turn_hub.specs.declared.view.View.{View}
use Rattle.turn_hub.proofs.TakingLemmas.{tries}
use Rattle.turn_hub.proofs.turns.wait_for_turn.Goals as goal

pub swap-requires : goal.swap-requires
swap-requires g c = let words = c.requires.table.1.0 in let i = c.loop.invariant in (
  i.0 ∙ c.requires.table.0,
  omega arith,
  tries g.H.Lends.history g.H.Lends.out g.H.Lends.keeps _ _ _ _ c.loop.place.me (λ _. 2) (subst (λ (m : Me _ (View g.row.H.Denot)). 0 < length m.0.numbers) (sym i.2) c.requires.live) (λ n. lit< tt),
)
