use Rattle.std.proofs.Common.{rules}
use Rattle.asp_core.proofs.OutAfterLemmas.{over_by}
use Rattle.asp_core.proofs.OverLemmas.{going_first, going_on}
use Rattle.asp_core.proofs.finishing.go_on.Goals as goal

pub loop-round-init : goal.loop-round-init
loop-round-init g c = going_first g.P.UpdatePolicy.answer g.P.UpdatePolicy.asked c.args.core.now c.requires.kept c.requires.home

pub loop-round-preserved : goal.loop-round-preserved
loop-round-preserved g c =
    let on = c.in_ok-advance.ensures in
    going_on g.P.UpdatePolicy.answer g.P.UpdatePolicy.asked c.args.core.now c.loop-round.core c.advance.new.core c.loop-round.invariant on.kept on.home on.begins on.code on.by_plan on.chosen on.stopped

pub returns-then-not-branch-clause-over : goal.returns-then-not-branch-clause-over
returns-then-not-branch-clause-over g c =
    let on = c.in_ok-advance.ensures in over_by c.advance.new.core on.home (on.still (search rules))

pub returns-then-not-branch-clause-begins : goal.returns-then-not-branch-clause-begins
returns-then-not-branch-clause-begins g c =
    let on = c.in_ok-advance.ensures in
    (going_on g.P.UpdatePolicy.answer g.P.UpdatePolicy.asked c.args.core.now c.loop-round.core c.advance.new.core c.loop-round.invariant on.kept on.home on.begins on.code on.by_plan on.chosen on.stopped).begins

pub returns-then-not-branch-clause-code : goal.returns-then-not-branch-clause-code
returns-then-not-branch-clause-code g c =
    let on = c.in_ok-advance.ensures in
    (going_on g.P.UpdatePolicy.answer g.P.UpdatePolicy.asked c.args.core.now c.loop-round.core c.advance.new.core c.loop-round.invariant on.kept on.home on.begins on.code on.by_plan on.chosen on.stopped).code

pub returns-then-not-branch-clause-by_plan : goal.returns-then-not-branch-clause-by_plan
returns-then-not-branch-clause-by_plan g c =
    let on = c.in_ok-advance.ensures in
    (going_on g.P.UpdatePolicy.answer g.P.UpdatePolicy.asked c.args.core.now c.loop-round.core c.advance.new.core c.loop-round.invariant on.kept on.home on.begins on.code on.by_plan on.chosen on.stopped).by_plan

pub returns-then-not-branch-clause-chosen : goal.returns-then-not-branch-clause-chosen
returns-then-not-branch-clause-chosen g c =
    let on = c.in_ok-advance.ensures in
    (going_on g.P.UpdatePolicy.answer g.P.UpdatePolicy.asked c.args.core.now c.loop-round.core c.advance.new.core c.loop-round.invariant on.kept on.home on.begins on.code on.by_plan on.chosen on.stopped).chosen

pub returns-then-not-branch-clause-stopped : goal.returns-then-not-branch-clause-stopped
returns-then-not-branch-clause-stopped g c =
    let on = c.in_ok-advance.ensures in
    (going_on g.P.UpdatePolicy.answer g.P.UpdatePolicy.asked c.args.core.now c.loop-round.core c.advance.new.core c.loop-round.invariant on.kept on.home on.begins on.code on.by_plan on.chosen on.stopped).stopped
