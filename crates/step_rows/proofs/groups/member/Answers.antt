use Rattle.std.proofs.Common.{rules, ◌≡◌, ◌∙◌, pos, sym, ap}
use Rattle.asp_model.specs.Store.{Number, Group}
use Rattle.asp_model.specs.Contraction.{member_found, member_row}
use Rattle.code_table.specs.Places.{placed}
use Rattle.step_rows.proofs.GroupLemmas.{member_is}
use Rattle.step_rows.proofs.groups.member.Goals as goal

pub returns-in-Ok : goal.returns-in-Ok
returns-in-Ok c =
    let ns = placed c.args.members.now in
    let is : c.args.number ≡ pos c.in-Ok.at = search rules in
    record { member = λ s. ap (λ n. member_row s (Group ns) (Number n)) is ∙ ap (member_found s) (member_is ns c.in-Ok.at ∙ sym c.get.ensures.place) }
