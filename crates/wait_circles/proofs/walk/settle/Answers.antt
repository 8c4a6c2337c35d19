use Rattle.std.proofs.Common.{◌<◌, subst, sym, get_or, set, take}
use Rattle.std.proofs.lemmas.List.{take_more}
use Rattle.wait_circles.specs.Walks.{IsSettledBy}
use Rattle.wait_circles.specs.declared.ways.Mark.TheVariants.{Ends}
use Rattle.wait_circles.proofs.WalkLemmas.{settled_more}
use Rattle.wait_circles.proofs.walk.settle.Goals as goal

pub loop-k-preserved : goal.loop-k-preserved
loop-k-preserved c =
    let i = c.loop-k.k-index in
    let path = c.args.path.now in
    let k = get_or path i 0 in
    let ms = c.loop-k.marks in
    let within = subst (λ n. k < n) (sym c.loop-k.auto.marks) (c.requires.within i c.loop-k-test.true) in
    subst (λ p. IsSettledBy c.args.end p c.args.marks.now (set ms k (Ends c.args.end))) (sym (take_more path i 0 c.loop-k-test.true)) (settled_more c.args.end k (take i path) c.args.marks.now ms within c.loop-k.invariant)
