use Rattle.std.proofs.Common.{rules, ◌≡◌, ◌+◌, ℕ, List, reverse, subst, arith}
use Rattle.std.specs.Arc.{arc_value}
use Rattle.asp_model.specs.Configuration as model
use Rattle.asp_model.specs.Configuration.{ServiceShape}
use Rattle.asp_model.specs.Contraction.{LineShape}
use Rattle.asp_model.specs.Store.{Store}
use Rattle.asp_model.specs.Term.{Tree}
use Rattle.code_table.specs.declared.code.Node.{Node}
use Rattle.activity_step.specs.declared.activity.Activity.{Activity}
use Rattle.activity_step.specs.declared.state.State.{State}
use Rattle.activity_step.specs.Advances.{AreTaken, Stands}
use Rattle.activity_step.proofs.RunLemmas.{taken_run}
use Rattle.activity_step.proofs.activity.Activity.quick.Goals as goal

taken_by : (k m : List Node) (old y : State) (n : ℕ) (a : model.Activity) → m ≡ k
    → ((t : Tree) (vs : List ServiceShape) (s : Store) (ls : List LineShape) → Stands m old t vs s ls → AreTaken m y t vs s ls n)
    → Stands k old a.term (reverse a.services) a.store a.lines → AreTaken k y a.term (reverse a.services) a.store a.lines n
taken_by k m old y n a e f h = subst (λ (q : List Node). Stands q old a.term (reverse a.services) a.store a.lines → AreTaken q y a.term (reverse a.services) a.store a.lines n) e (f a.term (reverse a.services) a.store a.lines) h

pub returns-clause-taken : goal.returns-clause-taken
returns-clause-taken c = λ a h.
    let x : Activity = c.args.self.now in
    let k : List Node = arc_value x.code in
    let same : c.deref.result.now ≡ k = c.deref.ensures in
    let n : ℕ = c.in_ok-taken.taken in
    let t : AreTaken k c.quick_all.new.self a.term (reverse a.services) a.store a.lines n = taken_by k c.deref.result.now x.state c.quick_all.new.self n a same c.in_ok-taken.ensures.taken h.state in
    let plus : c.in_ok-count.count ≡ x.count + n = search (rules, c.in_ok-count.ensures, c.checked_add.ensures) in
    let counted : c.in_ok-count.count ≡ a.reductions + n = omega (arith, plus, h.count) in
    taken_run x c.quick_all.new.self c.in_ok-count.count n a h.present h.active counted t
