use Rattle.std.proofs.Common.{List, IfOk, subst}
use Rattle.asp_model.specs.Shapes.{tree_of}
use Rattle.class_search.specs.declared.logs.ClassLog.{ClassLog}
use Rattle.class_search.specs.Found.{IsFoundEnd}
use Rattle.class_search.specs.Logs.{HaveBegun, logs_of}
use Rattle.class_search.proofs.LogLemmas.{inside_begun}
use Rattle.replay_classes.specs.Classes.{class_in}
use Rattle.replay_classes.proofs.search.ClassRunsEnds.end_from.Goals as goal

pub returns-in-Ok : goal.returns-in-Ok
returns-in-Ok g c =
    let K = class_in c.args.self.now.classes.now in
    let t = tree_of c.args.self.now.program.now.program.root in
    record {
      end = (
        subst (λ r. IfOk r (IsFoundEnd K t)) c.in-Ok.is c.in_ok-end.ensures.end,
        inside_begun (logs_of c.args.offer.now.logs.items) (logs_of c.in-Ok.end.logs.items) (subst (λ (xs : List ClassLog). HaveBegun (logs_of xs) (logs_of c.in-Ok.end.logs.items)) c.deref-in-Ok-2.ensures.value
            (subst (λ (ys : List ClassLog). HaveBegun (logs_of c.deref-in-Ok-2.result.now) (logs_of ys)) c.deref-in-Ok-1.ensures.value (c.begin_with.ensures.begin.0 c.if-begin_with.true))),
      );
    }
