use Rattle.std.proofs.Common.{◌≡◌, true, false, List, reverse, sym, subst, ◌∙◌}
use Rattle.std.proofs.lemmas.Bool.{false≢true}
use Rattle.std.specs.Arc.{arc_value}
use Rattle.asp_model.specs.Configuration as model
use Rattle.asp_model.specs.Configuration.{ServiceShape}
use Rattle.asp_model.specs.Contraction.{LineShape}
use Rattle.asp_model.specs.Store.{Store}
use Rattle.asp_model.specs.Term.{Tree}
use Rattle.code_table.specs.declared.code.Node.{Node}
use Rattle.activity_step.specs.declared.activity.Activity.{Activity}
use Rattle.activity_step.specs.declared.advance.Advance.{Advance}
use Rattle.activity_step.specs.declared.state.State.{State}
use Rattle.activity_step.specs.Activities.{reduces}
use Rattle.activity_step.specs.Advances.{IsStop, Stands}
use Rattle.activity_step.proofs.AdvanceLemmas.{stop_advance, stop_stays}
use Rattle.activity_step.proofs.RunLemmas.{after_stop, stops}
use Rattle.activity_step.proofs.activity.Activity.take.Goals as goal

told_by : (k m : List Node) (x : State) (r : Advance) (a : model.Activity) → m ≡ k
    → ((t : Tree) (vs : List ServiceShape) (s : Store) (ls : List LineShape) → Stands m x t vs s ls → IsStop m x t vs s ls r)
    → Stands k x a.term (reverse a.services) a.store a.lines → IsStop k x a.term (reverse a.services) a.store a.lines r
told_by k m x r a e f h = subst (λ (q : List Node). Stands q x a.term (reverse a.services) a.store a.lines → IsStop q x a.term (reverse a.services) a.store a.lines r) e (f a.term (reverse a.services) a.store a.lines) h

pub returns-in-Some-clause-after : goal.returns-in-Some-clause-after
returns-in-Some-clause-after c = λ a h.
    let x : Activity = c.args.self.now in
    let k : List Node = arc_value x.code in
    let r : Advance = c.in-Some.advance in
    let same : c.deref.result.now ≡ k = c.deref.ensures in
    let t : IsStop k x.state a.term (reverse a.services) a.store a.lines r = told_by k c.deref.result.now x.state r a same c.in-Some.ensures.stop h.state in
    let stays : reduces r ≡ false = stop_stays k x.state a.term (reverse a.services) a.store a.lines r t in
    let not_both : c.args.go ≡ true → reduces r ≡ true → ⊥ = λ g e. false≢true (sym stays ∙ e) in
    after_stop x a c.args.go r not_both (stops x x.state a c.args.go r h (stop_advance k x.state a.term (reverse a.services) a.store a.lines c.args.go r t) not_both)

pub returns-in_ok-advance-in-None-clause-after : goal.returns-in_ok-advance-in-None-clause-after
returns-in_ok-advance-in-None-clause-after c = λ a h. c.in_ok-advance-in-None.ensures.after a h
