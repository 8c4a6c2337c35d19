use Rattle.std.proofs.Common.{rules, ◌≡◌, ℕ, None, sym, subst}
use Rattle.race_desks.specs.declared.desk.Desk.{Desk}
use Rattle.race_desks.specs.Desks.{row_at}
use Rattle.race_desks.proofs.desk.SharedDesk.new.Goals as goal

pub returns-clause-empty : goal.returns-clause-empty
returns-clause-empty g c =
    let same : c.in_ok-desk-2.desk.value ≡ c.in_ok-desk.desk = search rules in
    subst (λ (desk : Desk g.row.P.Denot). (n : ℕ) → row_at desk n ≡ None) (sym same) c.in_ok-desk.ensures.empty
