use Rattle.std.proofs.Common.{rules}
use Rattle.std.proofs.lemmas.List.{take_more_set}
use Rattle.asp_model.proofs.path.CreationPath.with.Goals as goal

pub returns-then-count-lt4 : goal.returns-then-count-lt4
returns-then-count-lt4 c = search (rules, take_more_set c.in-Short.numbers c.in-Short.count c.args.number)
