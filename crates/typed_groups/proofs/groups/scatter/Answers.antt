use Rattle.std.proofs.Common.{sym, ap}
use Rattle.std.specs.Option.{option_map}
use Rattle.asp_model.specs.Term.{Group, node}
use Rattle.typed_groups.proofs.GroupLemmas.{not_scattered}
use Rattle.typed_groups.proofs.groups.scatter.Goals as goal

pub returns-then-members-others : goal.returns-then-members-others
returns-then-members-others c = record {
  expansion = ap (option_map (λ ts. node Group ts)) (sym (not_scattered c.args.label.now.text c.args.members.now c.args.others.now c.if-members-others.true));
}
