use Rattle.std.proofs.Common.{rules, ◌≡◌, ◌∙◌, pos, sym, ap}
use Rattle.std.proofs.lemmas.Option.{slice_get-get_or, slice_get_past}
use Rattle.typed_groups.specs.Calls.{member_of}
use Rattle.typed_groups.proofs.GroupLemmas.{member_is}
use Rattle.typed_groups.proofs.groups.member.Goals as goal

pub returns-in-Ok : goal.returns-in-Ok
returns-in-Ok c =
    let ns = c.args.members.now in
    let is : c.args.index ≡ pos c.in-Ok.place = search rules in
    record { member = sym (slice_get-get_or ns c.in-Ok.place 0 c.if-place-members.true) ∙ sym (member_is ns c.in-Ok.place) ∙ ap (member_of ns) (sym is) }

pub returns-in_default : goal.returns-in_default
returns-in_default c =
    let ns = c.args.members.now in
    let is : c.args.index ≡ pos c.in-Ok.place = search rules in
    record { member = sym (slice_get_past ns c.in-Ok.place c.if-place-members.false) ∙ sym (member_is ns c.in-Ok.place) ∙ ap (member_of ns) (sym is) }
