use Rattle.std.proofs.Common.{◌≡◌, List, subst}
use Rattle.asp_model.specs.Configuration.{ServiceShape}
use Rattle.asp_model.specs.Term.{Tree}
use Rattle.code_table.specs.declared.code.Node.{Node}
use Rattle.step_machine.specs.declared.frames.Site.{Site}
use Rattle.step_machine.specs.declared.frames.Site.TheVariants as site
use Rattle.step_machine.specs.Sites.{IsSite}
use Rattle.step_machine.specs.Standing.{Standing, View, view_of}
use Rattle.step_machine.specs.Views.{IsSettledAt}
use Rattle.activity_step.specs.declared.state.State.{State}
use Rattle.activity_step.specs.Advances.{Stands}
use Rattle.activity_step.proofs.state.State.quick.Goals as goal

found : (k m : List Node) (old new : View) (t : Tree) (vs : List ServiceShape) (x y : Site) → m ≡ k → x ≡ y → Standing k old t vs → ((t : Tree) (vs : List ServiceShape) → Standing m old t vs → IsSite m t vs new x) → IsSite k t vs new y
found k m old new t vs x y e is h f = subst (IsSite k t vs new) is (subst (λ (q : List Node). (t : Tree) (vs : List ServiceShape) → Standing q old t vs → IsSite q t vs new x) e f t vs h)

pub returns-in_ok-taken-in-Redex-clause-taken : goal.returns-in_ok-taken-in-Redex-clause-taken
returns-in_ok-taken-in-Redex-clause-taken c = λ t vs s ls h.
    let k : List Node = c.args.code.now in
    let a = c.args.self.now in
    let new : View = view_of c.reach.new.self in
    let next : Site = site.Redex c.in-Redex.node c.in-Redex.number c.in-Redex.from c.in-Redex.done in
    let at : IsSite k t vs new next = found k c.nodes.result.now (view_of a.machine) new t vs c.in_ok-site.site next c.nodes.ensures.nodes c.in-Redex.is h.machine c.in_ok-site.ensures.site in
    let x : State = record { machine = c.reach.new.self; store = a.store; lines = a.lines } in
    let here : Stands k x t vs s ls = record { machine = at.0.standing; store = h.store; lines = h.lines } in
    c.count_of.ensures.taken k c.quick_redex.new.self t vs s ls (c.in_ok-taken-in-Redex.ensures.taken t vs s ls here at.1 (subst (IsSettledAt k new.frames) at.1 at.0.settled) at.2)

pub returns-in-Nested-clause-taken : goal.returns-in-Nested-clause-taken
returns-in-Nested-clause-taken c = λ t vs s ls h.
    let k : List Node = c.args.code.now in
    let a = c.args.self.now in
    let new : View = view_of c.reach.new.self in
    let next : Site = site.Nested c.in-Nested.number c.in-Nested.from c.in-Nested.done c.in-Nested.redex in
    let at : IsSite k t vs new next = found k c.nodes.result.now (view_of a.machine) new t vs c.in_ok-site.site next c.nodes.ensures.nodes c.in-Nested.is h.machine c.in_ok-site.ensures.site in
    let x : State = record { machine = c.reach.new.self; store = a.store; lines = a.lines } in
    let here : Stands k x t vs s ls = record { machine = at.0; store = h.store; lines = h.lines } in
    c.quick_nested.ensures.taken t vs s ls here at.1

pub returns-in_ok-taken-in-Other-clause-taken : goal.returns-in_ok-taken-in-Other-clause-taken
returns-in_ok-taken-in-Other-clause-taken c = λ t vs s ls h.
    let k : List Node = c.args.code.now in
    let a = c.args.self.now in
    let new : View = view_of c.reach.new.self in
    let at : IsSite k t vs new site.Other = found k c.nodes.result.now (view_of a.machine) new t vs c.in_ok-site.site site.Other c.nodes.ensures.nodes c.in-Other.is h.machine c.in_ok-site.ensures.site in
    let x : State = record { machine = c.reach.new.self; store = a.store; lines = a.lines } in
    let here : Stands k x t vs s ls = record { machine = at; store = h.store; lines = h.lines } in
    c.count_of-in-Other.ensures.taken k c.quick_other.new.self t vs s ls (c.in_ok-taken-in-Other.ensures.taken t vs s ls here)
