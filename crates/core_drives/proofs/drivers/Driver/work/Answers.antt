use Rattle.std.proofs.Common.{◌∙◌, sym}
use Rattle.std.specs.Ordering.{nat_cmp}
use Rattle.std.specs.BTreeMap.{get}
use Rattle.asp_core.specs.Cores.{code_of, history_of}
use Rattle.def_journals.specs.Journals.{grant_of}
use Rattle.core_drives.proofs.DriveLemmas.{driving_same, its_lease, run_held}
use Rattle.core_drives.proofs.RunLemmas.{ran_nobody, ran_on}
use Rattle.core_drives.proofs.drivers.Driver.work.Goals as goal

pub returns-in_ok-insert-clause-driving : goal.returns-in_ok-insert-clause-driving
returns-in_ok-insert-clause-driving g c =
    let x = c.args.self.now in
    let d = c.requires.driving in
    let k = c.args.number in
    let l = c.in-Some.lease in
    let h = history_of x.core in
    let code = code_of x.core in
    let is = its_lease h code k (grant_of k d.run.out) (get nat_cmp x.leases k) l (sym c.in-Some.ensures.value) (d.held k) in
    record {
      run = d.run;
      is = d.is;
      held = run_held h code d.run.out x.leases c.remove.new.self c.insert.new.self k l c.run.new.self (sym c.in-Some.ensures.value) (c.run.ensures.number ∙ is.0, c.run.ensures.lease h code is.1)
          c.remove.ensures.updates.0 c.in_ok-insert.ensures.updates.0 d.held;
    }

pub returns-in_default-clause-driving : goal.returns-in_default-clause-driving
returns-in_default-clause-driving g c = driving_same c.args.self.now c.requires.driving c.remove.new.self c.in_default.ensures.unchanged

pub returns-in_ok-insert-clause-by_plan : goal.returns-in_ok-insert-clause-by_plan
returns-in_ok-insert-clause-by_plan g c = λ plan policies is. is

pub returns-in_default-clause-by_plan : goal.returns-in_default-clause-by_plan
returns-in_default-clause-by_plan g c = λ plan policies is. is

pub returns-in_ok-insert-clause-ran : goal.returns-in_ok-insert-clause-ran
returns-in_ok-insert-clause-ran g c = λ ran have.
    let x = c.args.self.now in
    let d = c.requires.driving in
    let k = c.args.number in
    let h = history_of x.core in
    let code = code_of x.core in
    let is = its_lease h code k (grant_of k d.run.out) (get nat_cmp x.leases k) c.in-Some.lease (sym c.in-Some.ensures.value) (d.held k) in
    ran_on x d ran have k c.run.new.self c.remove.new.self c.insert.new.self (c.in_ok-run.ensures.stops h code is.1) c.remove.ensures.updates.0 c.in_ok-insert.ensures.updates.0

pub returns-in_default-clause-ran : goal.returns-in_default-clause-ran
returns-in_default-clause-ran g c = λ ran have.
    ran_nobody c.args.self.now c.requires.driving ran have c.args.number c.remove.new.self c.in_default.ensures.unchanged (sym c.in_default.ensures.value)
