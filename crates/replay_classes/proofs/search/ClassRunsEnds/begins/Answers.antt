use Rattle.std.proofs.Common.{List, sym, subst}
use Rattle.class_search.specs.declared.logs.ClassLog.{ClassLog}
use Rattle.class_search.specs.Logs.{HaveBegun, logs_of}
use Rattle.class_search.proofs.LogLemmas.{begun_inside, inside_begun}
use Rattle.replay_classes.proofs.search.ClassRunsEnds.begins.Goals as goal

pub returns : goal.returns
returns g c =
    let end : List ClassLog = c.args.end.now.logs.items in
    let offer : List ClassLog = c.args.offer.now.logs.items in
    let left : List ClassLog = c.deref.result.now in
    let right : List ClassLog = c.deref-2.result.now in
    record {
      begins = (
        λ t. inside_begun (logs_of offer) (logs_of end) (subst (λ (xs : List ClassLog). HaveBegun (logs_of xs) (logs_of end)) c.deref-2.ensures.value (subst (λ (ys : List ClassLog). HaveBegun (logs_of right) (logs_of ys)) c.deref.ensures.value (c.begin_with.ensures.begin.0 t))),
        λ b. c.begin_with.ensures.begin.1 (subst (λ (ys : List ClassLog). HaveBegun (logs_of right) (logs_of ys)) (sym c.deref.ensures.value) (subst (λ (xs : List ClassLog). HaveBegun (logs_of xs) (logs_of end)) (sym c.deref-2.ensures.value) (begun_inside (logs_of offer) (logs_of end) b))),
      );
    }
