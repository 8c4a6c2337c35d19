use Rattle.std.proofs.Common.{rules, ◌≡◌, false}
use Rattle.asp_model.specs.Shapes.{verdict_shape}
use Rattle.replay_services.specs.Compares.{is_budget}
use Rattle.replay_services.proofs.CompareLemmas.{are_same, differ_at}
use Rattle.replay_services.proofs.compares.compare.Goals as goal

pub returns-in-None : goal.returns-in-None
returns-in-None c =
    let first : is_budget (verdict_shape c.args.run.now.outcome.verdict) ≡ false = search rules in
    let second : is_budget (verdict_shape c.args.other.now.outcome.verdict) ≡ false = search rules in
    record { tells = λ program lists others counts other_counts x y. are_same c.args.run.now c.args.other.now program lists counts others other_counts x y first second c.in-None.ensures.same }

pub returns-in-Some : goal.returns-in-Some
returns-in-Some c =
    let first : is_budget (verdict_shape c.args.run.now.outcome.verdict) ≡ false = search rules in
    let second : is_budget (verdict_shape c.args.other.now.outcome.verdict) ≡ false = search rules in
    record { tells = λ program lists others counts other_counts x y. differ_at c.args.run.now c.args.other.now program lists counts others other_counts x y first second c.in-Some.name.now c.in-Some.ensures.least }
