use Rattle.asp_check.specs.Sets.{names_in}
use Rattle.asp_check.proofs.NameSets.{names_in-insert}
use Rattle.proper_terms.proofs.names.add_name.Goals as goal

pub returns-clause-with : goal.returns-clause-with
returns-clause-with c = names_in-insert c.args.names.now c.insert.new.self c.args.name.now c.in_ok-insert.ensures.updates

pub returns-clause-is_new : goal.returns-clause-is_new
unfolding names_in
returns-clause-is_new c = c.in_ok-insert.ensures.added
