use Rattle.std.proofs.Common.{◌≡◌, [], IfOk, map, subst, sym, arith}
use Rattle.asp_model.specs.Shapes.{tree_of}
use Rattle.outcome_search.specs.Ends.{AreReplayableEnds, run_logs}
use Rattle.outcomes_words.specs.Shapes.{task_shape}
use Rattle.outcomes_top.specs.Surveys.{IsFamilyOf}
use Rattle.outcomes_top.proofs.SoughtLemmas.{chosen_all, chosen_any, family_ends, family_is, family_tree, no_names, orders_given, orders_sought}
use Rattle.outcomes_top.proofs.family.family_of.Goals as goal

pub returns-then-is_empty : goal.returns-then-is_empty
returns-then-is_empty g c =
    let t = tree_of c.args.program.now.program.root in
    let task = task_shape c.args.task.now in
    let given = map run_logs c.args.given.items in
    let none : task.given ≡ [] = no_names c.args.task.now.given.items (grind (arith, c.is_empty.ensures, c.if-is_empty.true)) in
    record {
      tree = family_tree t c.sought.result c.sought.ensures.family;
      ends = family_ends t c.sought.result c.sought.ensures.family;
      family = family_is t c.sought.result c.sought.ensures.family;
      orders = orders_sought task c.sought.result none c.sought.ensures.orders;
      chosen = chosen_any task.given given c.sought.result none;
    }

pub checked-requires : goal.checked-requires
checked-requires g c = record { given = subst (λ t. AreReplayableEnds t (map run_logs c.args.given.items)) (sym c.in_ok-runs.ensures.program) c.requires.given }

pub returns-else-is_empty : goal.returns-else-is_empty
returns-else-is_empty g c =
    let t = tree_of c.args.program.now.program.root in
    let task = task_shape c.args.task.now in
    let given = map run_logs c.args.given.items in
    let family = subst (λ u. IfOk c.checked.result (IsFamilyOf u)) c.in_ok-runs.ensures.program c.checked.ensures.family in
    record {
      tree = family_tree t c.checked.result family;
      ends = family_ends t c.checked.result family;
      family = family_is t c.checked.result family;
      orders = orders_given task c.checked.result c.checked.ensures.orders;
      chosen = chosen_all task.given given c.checked.result c.checked.ensures.same;
    }
