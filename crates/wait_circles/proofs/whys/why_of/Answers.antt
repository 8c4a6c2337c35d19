use Rattle.std.proofs.Common.{subst}
use Rattle.wait_circles.specs.Ways.{IsEnd}
use Rattle.wait_circles.proofs.WhyLemmas.{comes_named, last_named, round_named}
use Rattle.wait_circles.proofs.whys.why_of.Goals as goal

pub returns-in-Round : goal.returns-in-Round
returns-in-Round c d ns zs i n s stuck of once waits circles at h =
    let x = subst (IsEnd ns zs i) c.in-Round.is h in
    round_named d ns _ waits once zs c.in-Round.circle x.0 i n x.1 (circles c.in-Round.circle x.0 x.1) at x.2

pub returns-in-Last : goal.returns-in-Last
returns-in-Last c d ns zs i n s stuck of once waits circles at h =
    let x = subst (IsEnd ns zs i) c.in-Last.is h in
    let y = comes_named d ns _ waits i n c.in-Last.last at x.0 in
    c.why_last.ensures d zs n y.0 s stuck of y.1 y.2 (last_named d ns _ waits c.in-Last.last y.0 y.1 x.1)
