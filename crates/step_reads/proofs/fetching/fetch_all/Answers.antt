use Rattle.std.proofs.Common.{IfOk, false, sym, subst}
use Rattle.asp_model.specs.Chase.{chase}
use Rattle.future_table.specs.Values.{values_of}
use Rattle.step_reads.specs.declared.strict.Strict.{Strict}
use Rattle.step_reads.specs.Strict.{IsFetched, strict_ready}
use Rattle.step_reads.proofs.FetchLemmas.{both_fetched, group_lacks, members_fetched, over}
use Rattle.step_reads.proofs.fetching.fetch_all.Goals as goal

pub returns-else-not-branch-clause-fetched : goal.returns-else-not-branch-clause-fetched
returns-else-not-branch-clause-fetched c = λ a h.
    let chases = chase (values_of c.args.futures.now) in
    let u = over a _ c.fetch-in-Two.new.activity c.in_ok-fetch-in-Two.field-0 c.if-not-branch.false (c.in_ok-fetch-in-Two.ensures.fetched a h) in
    subst (λ (x : Strict). IfOk c.fetch-in-Two-2.result (IsFetched a (strict_ready chases a.store x) c.fetch-in-Two-2.new.activity)) (sym c.in-Two.is)
    (both_fetched chases a u.store c.in-Two.first c.in-Two.second c.fetch-in-Two-2.new.activity c.fetch-in-Two-2.result u.reads (c.fetch-in-Two-2.ensures.fetched (record a { store = u.store }) u.stands))

pub returns-then-not-branch-2-clause-fetched : goal.returns-then-not-branch-2-clause-fetched
returns-then-not-branch-2-clause-fetched c = λ a h.
    let chases = chase (values_of c.args.futures.now) in
    subst (λ (x : Strict). IsFetched a (strict_ready chases a.store x) c.fetch-in-Members.new.activity false) (sym c.in-Members.is)
    (group_lacks chases a c.in-Members.place c.fetch-in-Members.new.activity c.in_ok-fetch-in-Members.field-0 _ c.if-not-branch-2.true (c.in_ok-fetch-in-Members.ensures.fetched a h))

pub returns-else-not-branch-2-clause-fetched : goal.returns-else-not-branch-2-clause-fetched
returns-else-not-branch-2-clause-fetched c = λ a h.
    let chases = chase (values_of c.args.futures.now) in
    let u = over a _ c.fetch-in-Members.new.activity c.in_ok-fetch-in-Members.field-0 c.if-not-branch-2.false (c.in_ok-fetch-in-Members.ensures.fetched a h) in
    subst (λ (x : Strict). IfOk c.fetch_members.result (IsFetched a (strict_ready chases a.store x) c.fetch_members.new.activity)) (sym c.in-Members.is)
    (members_fetched chases a u.store c.in-Members.place c.fetch_members.new.activity c.fetch_members.result u.reads (c.fetch_members.ensures.fetched (record a { store = u.store }) u.stands))
