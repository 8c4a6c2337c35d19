use Rattle.std.proofs.Common.{◌∙◌, alloc_error}
use Rattle.asp_model.proofs.HistoryLemmas.{begins_with_earlier}
use Rattle.asp_core.specs.Cores.{history_of}
use Rattle.race_desks.proofs.CoreLemmas.{commit_comes, commit_left, commit_out, keeps_by}
use Rattle.race_desks.proofs.SettleLemmas.{none_comes, none_left, then_comes, then_keeps, then_left}
use Rattle.race_desks.proofs.desk.settling.bring_back.Goals as goal

pub commit-requires-clause-kept : goal.commit-requires-clause-kept
commit-requires-clause-kept g c = c.settle.ensures.settled.kept

pub commit-requires-clause-lease : goal.commit-requires-clause-lease
commit-requires-clause-lease g c = c.in_ok-last.ensures.lease.0

pub returns-in_err-last : goal.returns-in_err-last
returns-in_err-last g c =
    let x = c.settle.ensures.settled in
    let spent = c.in_err-last.ensures.gives_up in
    record {
      back = record {
        later = x.later;
        code = x.code;
        kept = x.kept;
        core = x.core;
        others = x.others;
        comes = none_comes c.args.core.now c.settle.new.core spent _;
        left = none_left c.args.core.now c.settle.new.core spent _;
      };
    }

pub returns : goal.returns
returns g c =
    let answers = g.P.UpdatePolicy.answer in
    let asked = g.P.UpdatePolicy.asked in
    let x = c.settle.ensures.settled in
    let old = c.args.core.now in
    let mid = c.settle.new.core in
    let new = c.commit.new.self in
    let e = c.commit.ensures in
    let last = c.in_ok-last.last in
    let lease = c.in_ok-last.ensures.lease in
    let number = c.in_ok-last.ensures.number in
    let r = c.commit.result in
    let plan = keeps_by answers asked mid new r alloc_error e.spent e.gives_up e.by_plan e.chosen (e.stopped lease.1) in
    record {
      back = record {
        later = begins_with_earlier (history_of new) (history_of mid) (history_of old) e.begins x.later;
        code = e.code ∙ x.code;
        kept = e.kept;
        core = then_keeps answers asked old mid new c.args.long x plan;
        others = λ j burst apart out. commit_out mid new x.kept r alloc_error last lease.0 e.committed e.spent e.err j burst (λ same. apart (same ∙ number)) (x.others j burst apart out);
        comes = then_comes answers asked old mid new c.args.long x last.number number (commit_comes mid new x.kept r alloc_error last lease.0 e.committed e.spent e.gives_up);
        left = then_left answers asked old mid new c.args.long x (commit_left mid new x.kept r alloc_error last lease.0 e.committed e.spent e.gives_up);
      };
    }
