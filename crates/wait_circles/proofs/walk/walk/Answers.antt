use Rattle.std.proofs.Common.{◌<◌, List, ℕ, rules, set, subst, sym, ◌∙◌}
use Rattle.law_steps.specs.Linked.{Each}
use Rattle.law_waits.specs.Courses.{ComesTo, IsCircle, items_after}
use Rattle.std.proofs.Common.{nat_eq}
use Rattle.wait_circles.specs.Ways.{next_in}
use Rattle.wait_circles.specs.Walks.{IsWalked}
use Rattle.wait_circles.specs.declared.ways.Mark.TheVariants.{Passed}
use Rattle.wait_circles.proofs.WalkLemmas.{Goes, circle_then, fewer_fresh, goes_on, lead_last, lead_then, walked_more}
use Rattle.wait_circles.proofs.walk.walk.Goals as goal

pub loop-marks-smaller : goal.loop-marks-smaller
loop-marks-smaller c =
    let l = c.loop-marks in
    fewer_fresh l.marks l.at l.invariant.goes.within l.invariant.goes.fresh

pub loop-marks-preserved : goal.loop-marks-preserved
loop-marks-preserved c =
    let l = c.loop-marks in
    let ns = c.args.next.now in
    let to = c.in-On.to in
    let marked = set l.marks l.at Passed in
    let bound = subst (λ n. to < n) (sym (l.invariant.size ∙ c.requires.size)) (c.requires.within l.at to c.in-On.ensures.0) in
    record {
      size = search rules;
      goes = subst (λ (p : List ℕ). Goes ns c.args.marks.now c.args.from p to marked) (sym c.in_ok-push.ensures.items) (goes_on ns c.args.marks.now c.args.from l.path.items l.at l.marks l.invariant.goes to c.in-On.ensures.0 bound c.in-On.ensures.1);
    }

pub returns-in-Last-clause-walked : goal.returns-in-Last-clause-walked
returns-in-Last-clause-walked c =
    let l = c.loop-marks in
    subst (λ (p : List ℕ). IsWalked c.args.next.now c.args.marks.now p (set l.marks l.at Passed)) (sym c.in_ok-push.ensures.items) (walked_more c.args.next.now c.args.marks.now c.args.from l.path.items l.at l.marks l.invariant.goes)

pub returns-in-Known-clause-walked : goal.returns-in-Known-clause-walked
returns-in-Known-clause-walked c =
    let l = c.loop-marks in
    subst (λ (p : List ℕ). IsWalked c.args.next.now c.args.marks.now p (set l.marks l.at Passed)) (sym c.in_ok-push.ensures.items) (walked_more c.args.next.now c.args.marks.now c.args.from l.path.items l.at l.marks l.invariant.goes)

pub returns-in-Back-clause-walked : goal.returns-in-Back-clause-walked
returns-in-Back-clause-walked c =
    let l = c.loop-marks in
    subst (λ (p : List ℕ). IsWalked c.args.next.now c.args.marks.now p (set l.marks l.at Passed)) (sym c.in_ok-push.ensures.items) (walked_more c.args.next.now c.args.marks.now c.args.from l.path.items l.at l.marks l.invariant.goes)

pub returns-in-Last-clause-stop : goal.returns-in-Last-clause-stop
returns-in-Last-clause-stop c =
    let l = c.loop-marks in
    let ns = c.args.next.now in
    (subst (λ (p : List ℕ). Each (λ k. ComesTo (next_in ns) k l.at) p) (sym c.in_ok-push.ensures.items) (lead_last ns c.args.marks.now c.args.from l.path.items l.at l.marks l.invariant.goes), c.in-Last.ensures)

pub returns-in-Known-clause-stop : goal.returns-in-Known-clause-stop
returns-in-Known-clause-stop c =
    let l = c.loop-marks in
    let ns = c.args.next.now in
    let to = c.in-Known.to in
    let w = walked_more ns c.args.marks.now c.args.from l.path.items l.at l.marks l.invariant.goes in
    (subst (λ (p : List ℕ). Each (λ k. ComesTo (next_in ns) k to) p) (sym c.in_ok-push.ensures.items) (lead_then ns c.args.marks.now c.args.from l.path.items l.at l.marks l.invariant.goes to c.in-Known.ensures.0), w.ends to c.in-Known.end c.in-Known.ensures.1)

pub returns-in-Back-clause-stop : goal.returns-in-Back-clause-stop
returns-in-Back-clause-stop c =
    let l = c.loop-marks in
    let ns = c.args.next.now in
    let to = c.in-Back.to in (
      subst (λ (p : List ℕ). Each (λ k. ComesTo (next_in ns) k to) p) (sym c.in_ok-push.ensures.items) (lead_then ns c.args.marks.now c.args.from l.path.items l.at l.marks l.invariant.goes to c.in-Back.ensures.0),
      subst (λ (p : List ℕ). IsCircle (next_in ns) to (items_after nat_eq to p)) (sym c.in_ok-push.ensures.items) (circle_then ns c.args.marks.now c.args.from l.path.items l.at l.marks l.invariant.goes to c.in-Back.ensures.0 c.in-Back.ensures.1),
    )
