use Rattle.std.proofs.Common.{rules, Some, ap, ◌∙◌, ◌∷◌, arith}
use Rattle.atomic_table.specs.Table.{rest}
use Rattle.turn_hub.proofs.GivingLemmas.{gives_to}
use Rattle.turn_hub.proofs.turns.give_up.Goals as goal

pub swap-requires : goal.swap-requires
swap-requires g c =
    let words = c.requires.table.1.0 in
    let exchanged = c.exchange.ensures in (
      search rules,
      omega arith,
      gives_to g.H.Lends.history g.H.Lends.out g.H.Lends.keeps _ _ _ _ _ c.args.place.now.me.0 c.args.value
          (exchanged.3 ∙ ap (λ cs. (c.args.place.now.me.0, (0, Some c.args.value) ∷ rest cs)) c.requires.empty.0) c.requires.empty.1 c.requires.later c.requires.kept,
    )
