use Rattle.std.proofs.Common.{◌∙◌, length, nat_eq, ap}
use Rattle.code_table.proofs.OrderLemmas.{new_by_number}
use Rattle.deep_copy.proofs.visiting.is_new.Goals as goal

pub returns : goal.returns
returns c = ap (λ k. nat_eq k (length c.args.seen.now)) c.number_in_few.ensures ∙ new_by_number c.args.place c.args.seen.now
