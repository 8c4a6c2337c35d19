use Rattle.std.proofs.Common.{not, is_some, ap, sym, ◌∙◌}
use Rattle.checkpoint_checks.specs.Maps.{activity_in}
use Rattle.checkpoint_checks.proofs.MapLemmas.{activity_in-insert, named_there}
use Rattle.checkpoint_checks.proofs.names.add.Goals as goal

pub returns-then-is_some-clause-is_new : goal.returns-then-is_some-clause-is_new
returns-then-is_some-clause-is_new c = λ u. ap not
    (ap (λ n. is_some (activity_in c.args.names.now n)) (sym c.in_ok-name.ensures.name)
    ∙ named_there c.args.names.now c.in_ok-name.name c.in_ok-old.old c.in_ok-old.ensures.old ∙ sym c.if-is_some.ensures)

pub returns-clause-names : goal.returns-clause-names
returns-clause-names c = activity_in-insert c.args.names.now c.insert.new.self c.in_ok-name.name c.args.activity c.in_ok-old.ensures.updates c.in_ok-name.ensures.name

pub returns-clause-is_new : goal.returns-clause-is_new
returns-clause-is_new c = ap not
    (ap (λ n. is_some (activity_in c.args.names.now n)) (sym c.in_ok-name.ensures.name)
    ∙ named_there c.args.names.now c.in_ok-name.name c.in_ok-old.old c.in_ok-old.ensures.old ∙ sym c.if-is_some.ensures)
