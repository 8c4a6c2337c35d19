use Rattle.std.proofs.Common.{sym, subst, arith}
use Rattle.law_journals.specs.Entered.{with_lease}
use Rattle.asp_core.specs.Cores.{history_of}
use Rattle.core_drives.specs.Driving.{HaveRun, IsDriving}
use Rattle.core_drives.specs.Steps.{IsStepped, Lends, ran_after}
use Rattle.core_drives.proofs.DriveLemmas.{beyond, lend_entered, lend_left, lent_held}
use Rattle.core_drives.proofs.RunLemmas.{ran_left, ran_lent}
use Rattle.core_drives.proofs.drivers.Driver.lend.Goals as goal

pub lend-requires-clause-kept : goal.lend-requires-clause-kept
lend-requires-clause-kept g c = λ fresh. (c.requires.driving.run, c.requires.driving.is)

pub returns-then-number-activities-clause-stepped : goal.returns-then-number-activities-clause-stepped
returns-then-number-activities-clause-stepped g c = λ ran.
    let x = c.args.self.now in
    let d = c.requires.driving in
    lend_left x.core d.run c.args.number d.is (beyond x.core d.run c.args.number d.is (λ within. omega arith)) ran

pub returns-in_default-clause-driving : goal.returns-in_default-clause-driving
returns-in_default-clause-driving g c =
    let x = c.args.self.now in
    let d = c.requires.driving in
    let lent = c.in_default.ensures.lent d.run d.is in
    subst (λ q. IsDriving (record x { core = q })) (sym lent.1) d

pub returns-in_default-clause-stepped : goal.returns-in_default-clause-stepped
returns-in_default-clause-stepped g c = λ ran.
    let x = c.args.self.now in
    let d = c.requires.driving in
    let lent = c.in_default.ensures.lent d.run d.is in
    subst (λ q. IsStepped (Lends c.args.number) ran (history_of x.core) (history_of q)) (sym lent.1) (lend_left x.core d.run c.args.number d.is lent.0 ran)

pub returns-in_ok-insert-clause-driving : goal.returns-in_ok-insert-clause-driving
returns-in_ok-insert-clause-driving g c =
    let x = c.args.self.now in
    let y = c.lend.new.self in
    let d = c.requires.driving in
    let k = c.args.number in
    let lent = c.in-Some.ensures.lent d.run d.is in
    record {
      run = with_lease d.run k;
      is = lent.2;
      held = lent_held x.core y d.run d.is c.lend.ensures.code x.leases c.insert.new.self d.held k c.in-Some.lease lent c.in_ok-insert.ensures.updates.0;
    }

pub returns-in_ok-insert-clause-stepped : goal.returns-in_ok-insert-clause-stepped
returns-in_ok-insert-clause-stepped g c = λ ran.
    let x = c.args.self.now in
    let d = c.requires.driving in
    let lent = c.in-Some.ensures.lent d.run d.is in
    lend_entered x.core c.lend.new.self d.run c.args.number d.is lent.0 lent.1 ran

pub returns-then-number-activities-clause-by_plan : goal.returns-then-number-activities-clause-by_plan
returns-then-number-activities-clause-by_plan g c = λ plan policies is. is

pub returns-in_default-clause-by_plan : goal.returns-in_default-clause-by_plan
returns-in_default-clause-by_plan g c = c.lend.ensures.by_plan

pub returns-in_ok-insert-clause-by_plan : goal.returns-in_ok-insert-clause-by_plan
returns-in_ok-insert-clause-by_plan g c = c.lend.ensures.by_plan

pub returns-then-number-activities-clause-ran : goal.returns-then-number-activities-clause-ran
returns-then-number-activities-clause-ran g c = λ ran have. ran_left c.args.self.now c.requires.driving ran have c.args.number

pub returns-in_default-clause-ran : goal.returns-in_default-clause-ran
returns-in_default-clause-ran g c = λ ran have.
    let x = c.args.self.now in
    let d = c.requires.driving in
    let lent = c.in_default.ensures.lent d.run d.is in
    subst (λ q. HaveRun (ran_after (Lends c.args.number) ran) (record x { core = q })) (sym lent.1) (ran_left x d ran have c.args.number)

pub returns-in_ok-insert-clause-ran : goal.returns-in_ok-insert-clause-ran
returns-in_ok-insert-clause-ran g c = λ ran have.
    let x = c.args.self.now in
    let d = c.requires.driving in
    let lent = c.in-Some.ensures.lent d.run d.is in
    ran_lent x d ran have c.args.number c.in-Some.lease c.lend.new.self c.insert.new.self lent.1 c.lend.ensures.code c.in_ok-insert.ensures.updates.0
