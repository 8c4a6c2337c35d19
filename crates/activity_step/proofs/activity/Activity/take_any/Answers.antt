use Rattle.std.proofs.Common.{rules, ◌≡◌, ◌+◌, suc, Bool, true, false, List, reverse, sym, subst, ◌∙◌, arith}
use Rattle.std.proofs.lemmas.Bool.{false≢true}
use Rattle.std.specs.Arc.{arc_value}
use Rattle.asp_model.specs.Configuration as model
use Rattle.code_table.specs.declared.code.Node.{Node}
use Rattle.activity_step.specs.declared.activity.Activity.{Activity}
use Rattle.activity_step.specs.declared.state.State.{State}
use Rattle.activity_step.specs.declared.advance.Advance.{Advance}
use Rattle.activity_step.specs.Activities.{reduces}
use Rattle.activity_step.specs.Advances.{IsAdvance, Stands}
use Rattle.activity_step.proofs.RunLemmas.{after_step, after_stop, reduced_advance, stepped, stops}
use Rattle.activity_step.proofs.activity.Activity.take_any.Goals as goal

turned : (k m : List Node) (y : State) (r : Advance) (go : Bool) (old : State) (a : model.Activity) → m ≡ k
    → ((t : Rattle.asp_model.specs.Term.Tree) (vs : List model.ServiceShape) (s : Rattle.asp_model.specs.Store.Store) (ls : List Rattle.asp_model.specs.Contraction.LineShape) → Stands m old t vs s ls → IsAdvance m y t vs s ls go r)
    → Stands k old a.term (reverse a.services) a.store a.lines → IsAdvance k y a.term (reverse a.services) a.store a.lines go r
turned k m y r go old a e f h = subst (λ (q : List Node). Stands q old a.term (reverse a.services) a.store a.lines → IsAdvance q y a.term (reverse a.services) a.store a.lines go r) e (f a.term (reverse a.services) a.store a.lines) h

pub returns-then-not-go-clause-after : goal.returns-then-not-go-clause-after
returns-then-not-go-clause-after c =
    λ a h.
    let x : Activity = c.args.self.now in
    let k : List Node = arc_value x.code in
    let y : State = c.advance.new.self in
    let r : Advance = c.in_ok-advance.advance in
    let same : c.deref.result.now ≡ k = c.deref.ensures in
    let t : IsAdvance k y a.term (reverse a.services) a.store a.lines c.args.go r = turned k c.deref.result.now y r c.args.go x.state a same c.in_ok-advance.ensures.advance h.state in
    let closed : c.args.go ≡ false = search (rules, c.if-not-go.true) in
    let not_both : c.args.go ≡ true → reduces r ≡ true → ⊥ = λ g e. false≢true (sym closed ∙ g) in
    after_stop (record x { state = y }) a c.args.go r not_both (stops x y a c.args.go r h t not_both)

pub returns-then-not-is_reduction-clause-after : goal.returns-then-not-is_reduction-clause-after
returns-then-not-is_reduction-clause-after c =
    λ a h.
    let x : Activity = c.args.self.now in
    let k : List Node = arc_value x.code in
    let y : State = c.advance.new.self in
    let r : Advance = c.in_ok-advance.advance in
    let same : c.deref.result.now ≡ k = c.deref.ensures in
    let t : IsAdvance k y a.term (reverse a.services) a.store a.lines c.args.go r = turned k c.deref.result.now y r c.args.go x.state a same c.in_ok-advance.ensures.advance h.state in
    let stays : reduces r ≡ false = sym c.if-not-is_reduction.ensures.reduces in
    let not_both : c.args.go ≡ true → reduces r ≡ true → ⊥ = λ g e. false≢true (sym stays ∙ e) in
    after_stop (record x { state = y }) a c.args.go r not_both (stops x y a c.args.go r h t not_both)

pub returns-clause-after : goal.returns-clause-after
returns-clause-after c =
    λ a h.
    let x : Activity = c.args.self.now in
    let k : List Node = arc_value x.code in
    let y : State = c.advance.new.self in
    let r : Advance = c.in_ok-advance.advance in
    let same : c.deref.result.now ≡ k = c.deref.ensures in
    let t : IsAdvance k y a.term (reverse a.services) a.store a.lines c.args.go r = turned k c.deref.result.now y r c.args.go x.state a same c.in_ok-advance.ensures.advance h.state in
    let opened : c.args.go ≡ true = search (rules, c.if-not-go.false) in
    let goes : reduces r ≡ true = sym c.if-not-is_reduction.ensures.reduces in
    let plus : c.in_ok-count.count ≡ x.count + 1 = search (rules, c.in_ok-count.ensures, c.checked_add.ensures) in
    let counted : c.in_ok-count.count ≡ suc x.count = omega (arith, plus) in
    after_step (record x { state = y; count = c.in_ok-count.count }) a c.args.go r opened goes (stepped x y c.in_ok-count.count a h counted (reduced_advance k y a c.args.go r t opened goes))
