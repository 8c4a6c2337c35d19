use Rattle.std.proofs.Common.{refl, sym, subst, ◌*◌, ◌≤◌, false, true}
use Rattle.asp_model.specs.declared.limits.TheConstants.{MOST_GRANTED}
use Rattle.asp_core.specs.Cores.{code_of, history_of}
use Rattle.asp_core.proofs.CoreLemmas.{begins_same, run_kept, same_history}
use Rattle.asp_core.proofs.RenewalLemmas.{renewed_begins, renewed_chosen, renewed_in, renewed_run, renewed_stopped}
use Rattle.asp_core.proofs.cores.Core.renew.Goals as goal

pub renew-requires-clause-lease : goal.renew-requires-clause-lease
renew-requires-clause-lease g c =
    let x = c.args.self.now in
    let r = c.requires.kept c.if-self.false in
    (history_of x, code_of x, r.0, r.1.stand.core, c.requires.lease)

pub renew-requires-clause-left : goal.renew-requires-clause-left
renew-requires-clause-left g c =
    let r = c.requires.kept c.if-self.false in
    subst (λ n. c.args.long.now.rounds * MOST_GRANTED ≤ n) (sym r.1.stand.core.left) (c.requires.reserved r.0 r.1)

pub returns-in_err-renew-clause-begins : goal.returns-in_err-renew-clause-begins
returns-in_err-renew-clause-begins g c =
    let x = c.args.self.now in
    let new = record x { state = c.renew.new.state; spent = true } in
    begins_same (history_of new) (history_of x) (same_history x new refl refl refl c.in_err-renew.ensures.entries)

pub returns-clause-renewed : goal.returns-clause-renewed
returns-clause-renewed g c = λ s run l.
    let x = c.args.self.now in
    let new = record x { state = c.renew.new.state; spent = false } in
    let by = c.in_ok-renew.ensures.renewed (history_of x) (code_of x) s run.stand.core l in
    renewed_in x new s run c.args.long.now l c.requires.beyond c.renew.new.long by refl refl refl refl refl

pub returns-clause-kept : goal.returns-clause-kept
returns-clause-kept g c =
    let x = c.args.self.now in
    let new = record x { state = c.renew.new.state; spent = false } in
    let r = c.requires.kept c.if-self.false in
    let by = c.in_ok-renew.ensures.renewed (history_of x) (code_of x) r.0 r.1.stand.core c.requires.lease in
    run_kept new _ (renewed_run x new r.0 r.1 c.args.long.now c.requires.lease c.requires.beyond c.renew.new.long by refl refl refl refl refl)

pub returns-clause-begins : goal.returns-clause-begins
returns-clause-begins g c =
    let x = c.args.self.now in
    let new = record x { state = c.renew.new.state; spent = false } in
    let r = c.requires.kept c.if-self.false in
    let by = c.in_ok-renew.ensures.renewed (history_of x) (code_of x) r.0 r.1.stand.core c.requires.lease in
    renewed_begins x new r.0 r.1 c.args.long.now c.requires.lease c.requires.beyond c.renew.new.long by refl refl refl refl refl

pub returns-clause-chosen : goal.returns-clause-chosen
returns-clause-chosen g c =
    let x = c.args.self.now in
    let new = record x { state = c.renew.new.state; spent = false } in
    let r = c.requires.kept c.if-self.false in
    let by = c.in_ok-renew.ensures.renewed (history_of x) (code_of x) r.0 r.1.stand.core c.requires.lease in
    renewed_chosen x new r.0 r.1 c.args.long.now c.requires.lease c.requires.beyond c.renew.new.long by refl refl refl refl refl

pub returns-clause-stopped : goal.returns-clause-stopped
returns-clause-stopped g c =
    let x = c.args.self.now in
    let new = record x { state = c.renew.new.state; spent = false } in
    let r = c.requires.kept c.if-self.false in
    let by = c.in_ok-renew.ensures.renewed (history_of x) (code_of x) r.0 r.1.stand.core c.requires.lease in
    renewed_stopped x new r.0 r.1 c.args.long.now c.requires.lease c.requires.beyond c.renew.new.long by refl refl refl refl refl

pub returns-clause-by_plan : goal.returns-clause-by_plan
returns-clause-by_plan g c = λ plan policies is. is
