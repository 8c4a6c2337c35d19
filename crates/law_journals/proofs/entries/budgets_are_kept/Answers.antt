use Rattle.law_journals.proofs.BudgetLemmas.{budgets_are_kept}
use Rattle.law_journals.proofs.entries.budgets_are_kept.Goals as goal

pub returns : goal.returns
returns c = budgets_are_kept
