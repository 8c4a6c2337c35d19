use Rattle.std.proofs.Common.{rules, ◌≡◌, [], ◌∷◌, refl, sym, subst, List, Option, Some}
use Rattle.atomic_table.specs.Table.{opening}
use Rattle.turn_hub.specs.declared.view.Opening.{Opening}
use Rattle.turn_hub.specs.Sharing.{IsShared, first_view}
use Rattle.turn_hub.proofs.EndLemmas.{opens}
use Rattle.turn_hub.proofs.hub.Hub.new.Goals as goal

pub new-requires : goal.new-requires
new-requires g c =
    let history = g.H.Lends.history in
    let out = g.H.Lends.out in
    let key : Opening g.row.H.Denot = record { seats = c.args.seats; first = c.of.result } in
    let items : c.push.new.self.items ≡ Some c.of.result.value ∷ [] = search rules in
    subst (λ (xs : List (Option g.row.H.Denot)). IsShared history out g.H.Lends.keeps c.of.result.value c.args.seats (opening (0 ∷ []) xs (first_view history out key))) (sym items)
    (opens history out g.H.Lends.keeps c.args.seats key refl c.requires.seats.0 (search rules) (search rules))
