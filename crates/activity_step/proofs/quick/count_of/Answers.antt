use Rattle.std.proofs.Common.{rules, ◌≡◌, true, false, subst}
use Rattle.activity_step.specs.Advances.{IsTaken}
use Rattle.activity_step.proofs.AdvanceLemmas.{one_taken}
use Rattle.activity_step.proofs.quick.count_of.Goals as goal

pub returns-then-taken-clause-taken : goal.returns-then-taken-clause-taken
returns-then-taken-clause-taken c = λ k x t vs s ls h.
    let yes : c.args.taken ≡ true = search (rules, c.if-taken.true) in
    one_taken k x t vs s ls (subst (IsTaken k x t vs s ls) yes h)

pub returns-else-taken-clause-taken : goal.returns-else-taken-clause-taken
returns-else-taken-clause-taken c = λ k x t vs s ls h.
    let no : c.args.taken ≡ false = search (rules, c.if-taken.false) in
    subst (IsTaken k x t vs s ls) no h
