use Rattle.std.proofs.Common.{sym, subst, ◌∙◌}
use Rattle.law_chases.proofs.FutureLemmas.{true_false}
use Rattle.law_core.specs.Runs.{is_ready}
use Rattle.asp_model.proofs.HistoryLemmas.{begins_with_earlier}
use Rattle.asp_core.specs.Cores.{code_of, history_of}
use Rattle.core_edges.proofs.AnswerLemmas.{on_ok}
use Rattle.asp_core.specs.Over.{IsHomeBut}
use Rattle.asp_core.proofs.OutAfterLemmas.{comes_lent, home_but_lent}
use Rattle.asp_core.proofs.OverLemmas.{lent_as, on_ok as on_ok_all, ran_stopped}
use Rattle.asp_core.proofs.finishing.work.Goals as goal

pub unreachable-requires : goal.unreachable-requires
unreachable-requires g c =
    let r = c.requires.ready in
    true_false (is_ready r.0 c.args.number) r.2 (c.in_default.ensures.lent r.0 r.1).0

pub bring_back-requires-clause-lease : goal.bring_back-requires-clause-lease
bring_back-requires-clause-lease g c =
    let r = c.requires.ready in
    let new = c.lend.new.self in
    let lent = lent_as c.args.core.now new r.0 c.args.number c.lend.result c.in-Some.lease c.in-Some.is (c.lend.ensures.lent r.0 r.1) in
    c.run-ran.ensures.lease (history_of new) (code_of new) lent.3.lease

pub bring_back-requires-clause-stopped : goal.bring_back-requires-clause-stopped
bring_back-requires-clause-stopped g c =
    let r = c.requires.ready in
    let new = c.lend.new.self in
    let lent = lent_as c.args.core.now new r.0 c.args.number c.lend.result c.in-Some.lease c.in-Some.is (c.lend.ensures.lent r.0 r.1) in
    ran_stopped c.run-ran.result (history_of new) (code_of new) c.run-ran.new.self (c.run-ran.ensures.stops (history_of new) (code_of new) lent.3.lease) c.run-ran.ensures.gives_up

pub bring_back-requires-clause-alone : goal.bring_back-requires-clause-alone
bring_back-requires-clause-alone g c =
    let r = c.requires.ready in
    let old = c.args.core.now in
    let new = c.lend.new.self in
    let lent = lent_as old new r.0 c.args.number c.lend.result c.in-Some.lease c.in-Some.is (c.lend.ensures.lent r.0 r.1) in
    subst (IsHomeBut new) (sym (c.run-ran.ensures.number ∙ lent.3.number)) (home_but_lent old new c.args.number (comes_lent old new r.0 c.args.number r.1 lent.2) c.requires.home)

pub returns-clause-begins : goal.returns-clause-begins
returns-clause-begins g c =
    on_ok_all c.bring_back.result (begins_with_earlier (history_of c.bring_back.new.core) (history_of c.lend.new.self) (history_of c.args.core.now) c.bring_back.ensures.begins c.lend.ensures.begins)

pub returns-clause-by_plan : goal.returns-clause-by_plan
returns-clause-by_plan g c = on_ok c.bring_back.result (λ then plan policies is. then plan policies (c.lend.ensures.by_plan plan policies is)) c.bring_back.ensures.by_plan

pub returns-clause-chosen : goal.returns-clause-chosen
returns-clause-chosen g c = on_ok c.bring_back.result (λ then is. then (c.lend.ensures.chosen is)) c.bring_back.ensures.chosen

pub returns-clause-stopped : goal.returns-clause-stopped
returns-clause-stopped g c = on_ok c.bring_back.result (λ then is. then (c.lend.ensures.stopped is)) c.bring_back.ensures.stopped
