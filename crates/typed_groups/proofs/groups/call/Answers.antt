use Rattle.std.proofs.Common.{◌≡◌, ◌∙◌, ap}
use Rattle.asp_model.specs.Term.{Call, loc, more, node}
use Rattle.asp_model.specs.Shapes.{tree_of}
use Rattle.typed_groups.proofs.GroupLemmas.{call_is, loc_is}
use Rattle.typed_groups.proofs.groups.call.Goals as goal

pub returns : goal.returns
returns c =
    let receiver : tree_of c.in_ok-receiver.receiver.value ≡ loc c.args.member = ap tree_of c.in_ok-receiver.ensures.ok ∙ loc_is c.args.member c.blank.result in
    call_is c.in_ok-receiver.receiver c.in_ok-copy.field-0 c.in_ok-arguments.arguments c.blank-2.result
    ∙ (λ i. node (Call (c.in_ok-copy.ensures.label i)) (more (receiver i) (c.in_ok-arguments.ensures i)))
