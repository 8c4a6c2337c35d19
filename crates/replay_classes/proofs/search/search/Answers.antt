use Rattle.std.proofs.Common.{◌≤◌, List, length, subst}
use Rattle.asp_model.specs.Shapes.{tree_of}
use Rattle.end_search.specs.Found as search
use Rattle.end_search.specs.Found.{AreClosed}
use Rattle.class_search.specs.declared.ends.FoundEnd.{FoundEnd}
use Rattle.class_search.specs.Found.{Begins, HasAllOffers, IsFoundEnd}
use Rattle.replay_classes.specs.Classes.{class_in}
use Rattle.replay_classes.proofs.CompleteLemmas.{complete_runs, found_runs}
use Rattle.replay_classes.proofs.search.search.Goals as goal

pub returns-in-Complete : goal.returns-in-Complete
returns-in-Complete g c =
    let K = class_in c.args.classes.now in
    let t = tree_of c.args.program.now.program.root in
    let es : List FoundEnd = c.in_ok-ends.field-0.ends.items in
    let found : search.AreFound (IsFoundEnd K t) c.args.most es = c.in_ok-ends.ensures.found in
    let some : 1 ≤ length es = subst (search.IfComplete (1 ≤ length es)) c.in-Complete.is c.in_ok-ends.ensures.some in
    let closed : AreClosed Begins (HasAllOffers K t) es es = subst (search.IfComplete (AreClosed Begins (HasAllOffers K t) es es)) c.in-Complete.is c.in_ok-ends.ensures.complete in
    record { told = c.with_runs.ensures.told t c.args.most (found_runs K t c.args.most es found) (complete_runs K t es some found.ends closed) }

pub returns-in-Most : goal.returns-in-Most
returns-in-Most g c =
    let K = class_in c.args.classes.now in
    let t = tree_of c.args.program.now.program.root in
    record { told = c.with_runs-in-Most.ensures.told t c.args.most (found_runs K t c.args.most c.in_ok-ends.field-0.ends.items c.in_ok-ends.ensures.found) tt }

pub returns-in-Halts-Unended : goal.returns-in-Halts-Unended
returns-in-Halts-Unended g c =
    let K = class_in c.args.classes.now in
    let t = tree_of c.args.program.now.program.root in
    record { told = c.with_runs-in-Halts-Unended.ensures.told t c.args.most (found_runs K t c.args.most c.in_ok-ends.field-0.ends.items c.in_ok-ends.ensures.found) tt }
