use Rattle.std.proofs.Common.{rules, ◌≡◌, ◌+◌, ◌-◌, ◌≤◌, ℕ, List, subst, arith}
use Rattle.code_table.specs.declared.code.Node.{Node}
use Rattle.activity_step.specs.Advances.{AreTaken}
use Rattle.activity_step.proofs.RunLemmas.{more_taken}
use Rattle.activity_step.proofs.state.State.quick_all.Goals as goal

pub loop-left-init : goal.loop-left-init
loop-left-init c = (
  omega arith,
  λ t vs s ls h. let none : 0 ≡ c.args.most - c.args.most = omega arith in subst (AreTaken c.args.code.now c.args.self.now t vs s ls) none h,
)

pub loop-left-preserved : goal.loop-left-preserved
loop-left-preserved c =
    let n : ℕ = c.in_ok-taken.taken in
    let within : n ≤ c.loop-left.left = c.in_ok-taken.ensures.within c.loop-left-test.true in (
      omega (arith, c.loop-left.invariant.0),
      λ t vs s ls h.
          let k : List Node = c.args.code.now in
          let sum : c.args.most - c.loop-left.left + n ≡ c.args.most - (c.loop-left.left - n) = omega (arith, c.loop-left.invariant.0, within) in
          subst (AreTaken k c.quick.new.self t vs s ls) sum
          (more_taken k c.loop-left.self c.quick.new.self (c.args.most - c.loop-left.left) n t vs s ls (c.loop-left.invariant.1 t vs s ls h) (λ u q added here. c.in_ok-taken.ensures.taken u vs q added here)),
    )

pub returns-then-taken-eq0-clause-taken : goal.returns-then-taken-eq0-clause-taken
returns-then-taken-eq0-clause-taken c = λ t vs s ls h.
    let k : List Node = c.args.code.now in
    let n : ℕ = c.in_ok-taken.taken in
    let none : n ≡ 0 = search (rules, c.if-taken-eq0.true) in
    let sum : c.args.most - c.loop-left.left + n ≡ c.saturating_sub.result = omega (arith, none, c.saturating_sub.ensures) in
    subst (AreTaken k c.quick.new.self t vs s ls) sum
    (more_taken k c.loop-left.self c.quick.new.self (c.args.most - c.loop-left.left) n t vs s ls (c.loop-left.invariant.1 t vs s ls h) (λ u q added here. c.in_ok-taken.ensures.taken u vs q added here))

pub returns-clause-taken : goal.returns-clause-taken
returns-clause-taken c = λ t vs s ls h.
    let all : c.args.most - c.loop-left.left ≡ c.args.most = omega (arith, c.loop-left-test.false) in
    subst (AreTaken c.args.code.now c.loop-left.self t vs s ls) all (c.loop-left.invariant.1 t vs s ls h)
