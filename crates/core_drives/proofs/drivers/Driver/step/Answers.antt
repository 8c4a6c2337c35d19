use Rattle.std.proofs.Common.{◌≡◌, OnOk, ap, sym, subst}
use Rattle.code_compiler.proofs.NodeLemmas.{then_ok}
use Rattle.asp_core.specs.Cores.{history_of}
use Rattle.core_drives.specs.Driving.{HaveRun}
use Rattle.core_drives.specs.Steps.{IsStepped, Runs, ran_after, step_shape}
use Rattle.core_drives.proofs.drivers.Driver.step.Goals as goal

pub returns-in-Lend-clause-stepped : goal.returns-in-Lend-clause-stepped
returns-in-Lend-clause-stepped g c = λ ran have. subst (λ q. OnOk c.lend.result (IsStepped (step_shape q) ran (history_of c.args.self.now.core) (history_of c.lend.new.self.core))) (sym c.in-Lend.is) (c.lend.ensures.stepped ran)

pub returns-in-Commit-clause-stepped : goal.returns-in-Commit-clause-stepped
returns-in-Commit-clause-stepped g c = λ ran have. subst (λ q. OnOk c.commit.result (IsStepped (step_shape q) ran (history_of c.args.self.now.core) (history_of c.commit.new.self.core))) (sym c.in-Commit.is) (c.commit.ensures.stepped ran have)

pub returns-in-Deliver-clause-stepped : goal.returns-in-Deliver-clause-stepped
returns-in-Deliver-clause-stepped g c = λ ran have. subst (λ q. OnOk c.deliver.result (IsStepped (step_shape q) ran (history_of c.args.self.now.core) (history_of c.deliver.new.self.core))) (sym c.in-Deliver.is) (c.deliver.ensures.stepped ran)

pub returns-in-Local-clause-stepped : goal.returns-in-Local-clause-stepped
returns-in-Local-clause-stepped g c = λ ran have.
    let d = c.requires.driving in
    let x = c.args.self.now in
    subst (λ q. OnOk c.work.result (IsStepped (step_shape q) ran (history_of x.core) (history_of c.work.new.self.core))) (sym c.in-Local.is)
    (then_ok c.work.result (c.work.new.self.core ≡ x.core) (IsStepped (Runs c.in-Local.number) ran (history_of x.core) (history_of c.work.new.self.core))
    c.work.ensures.same (λ same. record { run = d.run; lawful = d.is.stand.core.run; enters = ap history_of same }))

pub returns-in-Lend-clause-ran : goal.returns-in-Lend-clause-ran
returns-in-Lend-clause-ran g c = λ ran have. subst (λ q. OnOk c.lend.result (HaveRun (ran_after (step_shape q) ran) c.lend.new.self)) (sym c.in-Lend.is) (c.lend.ensures.ran ran have)

pub returns-in-Local-clause-ran : goal.returns-in-Local-clause-ran
returns-in-Local-clause-ran g c = λ ran have. subst (λ q. OnOk c.work.result (HaveRun (ran_after (step_shape q) ran) c.work.new.self)) (sym c.in-Local.is) (c.work.ensures.ran ran have)

pub returns-in-Commit-clause-ran : goal.returns-in-Commit-clause-ran
returns-in-Commit-clause-ran g c = λ ran have. subst (λ q. OnOk c.commit.result (HaveRun (ran_after (step_shape q) ran) c.commit.new.self)) (sym c.in-Commit.is) (c.commit.ensures.ran ran have)

pub returns-in-Deliver-clause-ran : goal.returns-in-Deliver-clause-ran
returns-in-Deliver-clause-ran g c = λ ran have. subst (λ q. OnOk c.deliver.result (HaveRun (ran_after (step_shape q) ran) c.deliver.new.self)) (sym c.in-Deliver.is) (c.deliver.ensures.ran ran have)
