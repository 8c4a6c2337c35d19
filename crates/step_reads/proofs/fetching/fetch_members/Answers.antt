use Rattle.std.proofs.Common.{◌∙◌, ℕ, List, IfOk, subst}
use Rattle.asp_model.specs.Chase.{chase}
use Rattle.asp_model.specs.Intent.{operands_ready}
use Rattle.future_table.specs.Values.{values_of}
use Rattle.step_reads.specs.Strict.{IsFetched}
use Rattle.step_reads.proofs.fetching.fetch_members.Goals as goal

pub returns-clause-fetched : goal.returns-clause-fetched
returns-clause-fetched c = λ a h.
    let chases = chase (values_of c.args.futures.now) in
    subst (λ (ns : List ℕ). IfOk c.fetch_each.result (IsFetched a (operands_ready chases a.store ns) c.fetch_each.new.activity)) (c.deref.ensures.value ∙ c.in_ok-members.ensures.members a h) (c.fetch_each.ensures.fetched a h)
