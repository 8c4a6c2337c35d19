use Rattle.std.proofs.Common.{◌≡◌, None, cond, subst, sym}
use Rattle.std.specs.BTreeMap.{get, is_at}
use Rattle.std.specs.Ordering.{nat_cmp}
use Rattle.def_journals.specs.Journals.{grant_of}
use Rattle.code_compiler.proofs.NodeLemmas.{then_ok}
use Rattle.core_state.specs.Arrivals.{act_at}
use Rattle.asp_core.specs.Calls.{IsCommittedBy}
use Rattle.asp_core.specs.Cores.{code_of, history_of}
use Rattle.asp_core.specs.Runs.{counted}
use Rattle.core_drives.specs.Driving.{HaveRun, IsDriving}
use Rattle.core_drives.specs.Steps.{Commits, IsStepped, ran_after}
use Rattle.core_drives.proofs.DriveLemmas.{commit_entered, commit_left, driving_back, driving_same, its_lease, nobody_out}
use Rattle.core_drives.proofs.RunLemmas.{ran_back, ran_same}
use Rattle.core_drives.proofs.drivers.Driver.commit.Goals as goal

pub commit-requires : goal.commit-requires
commit-requires g c =
    let x = c.args.self.now in
    let d = c.requires.driving in
    let k = c.args.number in
    record {
      kept = λ fresh. (d.run, d.is);
      lease = (its_lease (history_of x.core) (code_of x.core) k (grant_of k d.run.out) (get nat_cmp x.leases k) c.in-Some.lease (sym c.in-Some.ensures.value) (d.held k)).1;
    }

pub returns-in-Some-clause-stepped : goal.returns-in-Some-clause-stepped
returns-in-Some-clause-stepped g c = λ ran have.
    let x = c.args.self.now in
    let y = c.commit.new.self in
    let d = c.requires.driving in
    let k = c.args.number in
    let l = c.in-Some.lease in
    let is = its_lease (history_of x.core) (code_of x.core) k (grant_of k d.run.out) (get nat_cmp x.leases k) l (sym c.in-Some.ensures.value) (d.held k) in
    then_ok c.commit.result (IsCommittedBy x.core d.run l is.1.name y) (IsStepped (Commits k) ran (history_of x.core) (history_of y))
    (c.commit.ensures.committed d.run d.is is.1) (commit_entered x.core y d.run k l is.1.name d.is is.0 ran (λ so. have k l so (sym c.in-Some.ensures.value)))

pub returns-in-Some-clause-driving : goal.returns-in-Some-clause-driving
returns-in-Some-clause-driving g c =
    let x = c.args.self.now in
    let y = c.commit.new.self in
    let d = c.requires.driving in
    let k = c.args.number in
    let l = c.in-Some.lease in
    let is = its_lease (history_of x.core) (code_of x.core) k (grant_of k d.run.out) (get nat_cmp x.leases k) l (sym c.in-Some.ensures.value) (d.held k) in
    then_ok c.commit.result (IsCommittedBy x.core d.run l is.1.name y) (IsDriving (record { core = y; leases = c.remove.new.self }))
    (c.commit.ensures.committed d.run d.is is.1) (driving_back x d y c.remove.new.self l k c.commit.ensures.code is.0 is.1.name c.remove.ensures.updates.0)

pub returns-in-None-clause-driving : goal.returns-in-None-clause-driving
returns-in-None-clause-driving g c = driving_same c.args.self.now c.requires.driving c.remove.new.self c.in-None.ensures.unchanged

pub returns-in-None-clause-stepped : goal.returns-in-None-clause-stepped
returns-in-None-clause-stepped g c = λ ran have.
    let x = c.args.self.now in
    let d = c.requires.driving in
    let k = c.args.number in
    commit_left x.core d.run k d.is (nobody_out (history_of x.core) (code_of x.core) k (grant_of k d.run.out) (get nat_cmp x.leases k) (sym c.in-None.ensures.value) (d.held k)) ran

pub returns-in-None-clause-by_plan : goal.returns-in-None-clause-by_plan
returns-in-None-clause-by_plan g c = λ plan policies is. is

pub returns-in-Some-clause-ran : goal.returns-in-Some-clause-ran
returns-in-Some-clause-ran g c = λ ran have.
    let x = c.args.self.now in
    let y = c.commit.new.self in
    let d = c.requires.driving in
    let k = c.args.number in
    let l = c.in-Some.lease in
    let leases = c.remove.new.self in
    let is = its_lease (history_of x.core) (code_of x.core) k (grant_of k d.run.out) (get nat_cmp x.leases k) l (sym c.in-Some.ensures.value) (d.held k) in
    then_ok c.commit.result (IsCommittedBy x.core d.run l is.1.name y) (HaveRun (ran_after (Commits k) ran) (record { core = y; leases = leases }))
    (c.commit.ensures.committed d.run d.is is.1)
    (λ by. ran_back x d ran have l.number (counted l.taken (act_at d.run is.1.name l.grant l.taken by.end)) y leases by.on.entered c.commit.ensures.code
    (λ j. subst (λ q. get nat_cmp leases j ≡ cond (is_at (nat_cmp q) j) None (get nat_cmp x.leases j)) (sym is.0) (c.remove.ensures.updates.0 j)))

pub returns-in-None-clause-ran : goal.returns-in-None-clause-ran
returns-in-None-clause-ran g c = λ ran have. ran_same c.args.self.now c.requires.driving ran have c.args.number c.remove.new.self c.in-None.ensures.unchanged
