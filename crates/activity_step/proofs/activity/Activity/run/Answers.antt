use Rattle.std.proofs.Common.{◌≡◌, ◌+◌, ◌-◌, ◌≤◌, ℕ, refl, sym, subst, ◌∙◌, arith}
use Rattle.activity_step.specs.Local.{LocalRun}
use Rattle.activity_step.specs.Activities.{IsRunning}
use Rattle.activity_step.proofs.RunLemmas.{full_run, goes_on, next_taken, stopped_run}
use Rattle.activity_step.proofs.activity.Activity.run.Goals as goal

pub returns-then-not-is_reduction-clause-run : goal.returns-then-not-is_reduction-clause-run
returns-then-not-is_reduction-clause-run c =
    λ a h.
    let w : IsRunning c.loop-left.self a (c.args.most - c.loop-left.left) = c.loop-left.invariant.1 a h in
    let within : c.in_ok-taken.taken ≤ c.loop-left.left = c.in_ok-taken.ensures.within in
    let le : c.args.most - c.loop-left.left + (c.in_ok-taken.taken - 1) ≤ c.args.most = omega (arith, within, c.loop-left.invariant.0) in
    stopped_run c.take_next.new.self a w.here (c.args.most - c.loop-left.left) c.args.most c.in_ok-taken.taken c.in_ok-taken.advance w.run le (c.in_ok-taken.ensures.next w.here w.stands) (sym c.if-not-is_reduction.ensures.reduces)

pub loop-left-init : goal.loop-left-init
loop-left-init c = (
  omega arith,
  λ a h.
      let none : 0 ≡ c.args.most - c.args.most = omega arith in
      record { here = a; run = subst (λ (n : ℕ). LocalRun n a a) none refl; stands = h },
  refl,
  refl,
)

pub loop-left-preserved : goal.loop-left-preserved
loop-left-preserved c =
    let n : ℕ = c.in_ok-taken.taken in
    let within : n ≤ c.loop-left.left = c.in_ok-taken.ensures.within in (
      omega (arith, c.loop-left.invariant.0),
      λ a h.
          let w : IsRunning c.loop-left.self a (c.args.most - c.loop-left.left) = c.loop-left.invariant.1 a h in
          let s : IsRunning c.take_next.new.self w.here n = next_taken c.take_next.new.self w.here n c.in_ok-taken.advance (c.in_ok-taken.ensures.next w.here w.stands) (sym c.if-not-is_reduction.ensures.reduces) in
          let sum : c.args.most - c.loop-left.left + n ≡ c.args.most - (c.loop-left.left - n) = omega (arith, c.loop-left.invariant.0, within) in
          record { here = s.here; run = subst (λ (m : ℕ). LocalRun m a s.here) sum (goes_on (c.args.most - c.loop-left.left) n a w.here s.here w.run s.run); stands = s.stands },
      c.in_ok-taken.ensures.code ∙ c.loop-left.invariant.2,
      c.in_ok-taken.ensures.still ∙ c.loop-left.invariant.3,
    )

pub returns-clause-run : goal.returns-clause-run
returns-clause-run c =
    λ a h.
    let w : IsRunning c.loop-left.self a (c.args.most - c.loop-left.left) = c.loop-left.invariant.1 a h in
    let all : c.args.most - c.loop-left.left ≡ c.args.most = omega (arith, c.loop-left-test.false) in
    full_run c.take.new.self a w.here c.args.most c.in_ok-advance.advance (subst (λ (n : ℕ). LocalRun n a w.here) all w.run) (c.in_ok-advance.ensures.after w.here w.stands)
