use Rattle.std.proofs.Common.{◌≡◌, ℕ, length, rules, subst, sym}
use Rattle.wait_circles.specs.declared.walk.Stop.{Stop}
use Rattle.wait_circles.specs.Walks.{IsPathEnd, IsStop}
use Rattle.wait_circles.specs.declared.ways.End.TheVariants.{Round}
use Rattle.wait_circles.proofs.FoundLemmas.{known_end, round_end}
use Rattle.wait_circles.proofs.ways.Found.end_of.Goals as goal

pub returns-in-Known-clause-end : goal.returns-in-Known-clause-end
returns-in-Known-clause-end c ns ms h k =
    let s = subst (λ (x : Stop). IsStop ns ms c.args.path.now x) c.in-Known.is h in
    known_end ns c.args.self.now.circles.items ms c.args.path.now c.in-Known.field-0 c.in-Known.end s.0 s.1 k

pub returns-in_ok-push-in-Back-clause-end : goal.returns-in_ok-push-in-Back-clause-end
returns-in_ok-push-in-Back-clause-end c ns ms h k =
    let s = subst (λ (x : Stop). IsStop ns ms c.args.path.now x) c.in-Back.is h in
    let zs = c.args.self.now.circles.items in
    let e : c.len-number.result ≡ length zs = search rules in
    subst (λ (k : ℕ). IsPathEnd ns zs c.push.new.self.items c.args.path.now (Round k)) (sym e) (round_end ns c.args.self.now.circles.items c.push.new.self.items c.args.path.now (record { first = c.in-Back.first; others = c.in_ok-others-in-Back.others }) c.in_ok-push-in-Back.ensures.items c.in_ok-others-in-Back.ensures s.0 s.1)
