use Rattle.std.proofs.Common.{rules}
use Rattle.std.proofs.lemmas.List.{take_min}
use Rattle.asp_model.proofs.path.CreationPath.numbers.Goals as goal

pub returns-in-Short : goal.returns-in-Short
returns-in-Short c = search (rules, take_min c.in-Short.count c.in-Short.numbers)
