use Rattle.std.proofs.Common.{◌≡◌, ◌∙◌, map, take, ap}
use Rattle.std.proofs.lemmas.List.{take_all}
use Rattle.asp_model.specs.Term.{Group, node, trees}
use Rattle.typed_groups.specs.Calls.{call_to}
use Rattle.typed_groups.proofs.GroupLemmas.{broadcast_is, group_is}
use Rattle.typed_groups.proofs.groups.broadcast.Goals as goal

pub returns : goal.returns
returns c =
    let l = c.args.label.now.text in
    let ks = c.args.arguments.now in
    let all : take c.loop-member.member-index c.args.members.now ≡ c.args.members.now = take_all c.loop-member.member-index c.args.members.now c.loop-member-test.false in
    record {
      expansion = group_is c.loop-member.calls c.blank.result
          ∙ ap (λ ts. node Group (trees ts)) (c.loop-member.invariant ∙ ap (map (λ n. call_to l n ks)) all)
          ∙ ap (node Group) (broadcast_is l ks c.args.members.now);
    }
