use Rattle.std.proofs.Common.{◌≡◌, List, subst}
use Rattle.code_table.specs.declared.code.Node.{Node}
use Rattle.step_machine.specs.Standing.{View, view_of}
use Rattle.activity_step.specs.Advances.{Stands}
use Rattle.step_machine.proofs.CallLemmas.{AtCalls, at_calls, results, results_redex}
use Rattle.step_machine.proofs.RowLemmas.{rests}
use Rattle.asp_model.specs.Term.{Tree}
use Rattle.asp_model.specs.Configuration.{ServiceShape}
use Rattle.step_machine.specs.Standing.{Standing}
use Rattle.step_machine.specs.Views.{IsSettledAt, Settled}
use Rattle.activity_step.specs.declared.state.State.{State}
use Rattle.activity_step.proofs.state.State.advance.Goals as goal

settles : (k m : List Node) (old new : View) (t : Tree) (vs : List ServiceShape) → m ≡ k → Standing k old t vs → ((t : Tree) (vs : List ServiceShape) → Standing m old t vs → Settled m t vs new) → Settled k t vs new
settles k m old new t vs e h f = subst (λ (q : List Node). (t : Tree) (vs : List ServiceShape) → Standing q old t vs → Settled q t vs new) e f t vs h

pub returns-in-Node : goal.returns-in-Node
returns-in-Node c = record {
  advance = λ t vs s ls h.
      let k = c.args.code.now in
      let a = c.args.self.now in
      let new : View = view_of c.settle.new.self in
      let settled : Settled k t vs new = settles k c.nodes.result.now (view_of a.machine) new t vs c.nodes.ensures.nodes h.machine c.in_ok-settle.ensures.settled in
      let x : State = record { machine = c.settle.new.self; store = a.store; lines = a.lines } in
      let here : Stands k x t vs s ls = record { machine = settled.standing; store = h.store; lines = h.lines } in
      c.reduce.ensures.advance t vs s ls here c.in-Node.is (subst (IsSettledAt k new.frames) c.in-Node.is settled.settled);
}

pub returns-in-Place : goal.returns-in-Place
returns-in-Place c = record {
  advance = λ t vs s ls h.
      let k = c.args.code.now in
      let a = c.args.self.now in
      let new : View = view_of c.settle.new.self in
      let settled : Settled k t vs new = settles k c.nodes.result.now (view_of a.machine) new t vs c.nodes.ensures.nodes h.machine c.in_ok-settle.ensures.settled in
      let alone = subst (IsSettledAt k new.frames) c.in-Place.is settled.settled in
      record {
        splits = rests k new c.in-Place.place t vs settled.standing c.in-Place.is alone;
        alone = alone;
        kept = record { machine = settled.standing; store = h.store; lines = h.lines };
      };
}

pub returns-in_ok-asked_advance-in-Asked : goal.returns-in_ok-asked_advance-in-Asked
returns-in_ok-asked_advance-in-Asked c = record {
  advance = λ t vs s ls h.
      let k = c.args.code.now in
      let a = c.args.self.now in
      let new : View = view_of c.settle.new.self in
      let settled : Settled k t vs new = settles k c.nodes.result.now (view_of a.machine) new t vs c.nodes.ensures.nodes h.machine c.in_ok-settle.ensures.settled in
      let x : State = record { machine = c.settle.new.self; store = a.store; lines = a.lines } in
      let here : Stands k x t vs s ls = record { machine = settled.standing; store = h.store; lines = h.lines } in
      c.in_ok-asked_advance-in-Asked.ensures.advance t vs s ls here c.in-Asked.is;
}

pub returns-in_ok-group_advance-in-Calls : goal.returns-in_ok-group_advance-in-Calls
returns-in_ok-group_advance-in-Calls c = record {
  advance = λ t vs s ls h.
      let k = c.args.code.now in
      let a = c.args.self.now in
      let new : View = view_of c.settle.new.self in
      let settled : Settled k t vs new = settles k c.nodes.result.now (view_of a.machine) new t vs c.nodes.ensures.nodes h.machine c.in_ok-settle.ensures.settled in
      let x : State = record { machine = c.settle.new.self; store = a.store; lines = a.lines } in
      let here : Stands k x t vs s ls = record { machine = settled.standing; store = h.store; lines = h.lines } in
      let full = subst (IsSettledAt k new.frames) c.in-Calls.is settled.settled in
      let at : AtCalls k new c.in-Calls._spread c.in-Calls._number c.in-Calls.members c.in-Calls.done t vs = at_calls k new c.in-Calls._spread c.in-Calls._number c.in-Calls.members c.in-Calls.done t vs settled.standing c.in-Calls.is in
      c.in_ok-group_advance-in-Calls.ensures.advance k t vs s ls here
      (results_redex k new c.in-Calls.members c.in-Calls.done t vs (results k new c.in-Calls._spread c.in-Calls._number c.in-Calls.members c.in-Calls.done t vs at full));
}

pub returns-in_ok-called_advance-in-Called : goal.returns-in_ok-called_advance-in-Called
returns-in_ok-called_advance-in-Called c = record {
  advance = λ t vs s ls h.
      let k = c.args.code.now in
      let a = c.args.self.now in
      let new : View = view_of c.settle.new.self in
      let settled : Settled k t vs new = settles k c.nodes.result.now (view_of a.machine) new t vs c.nodes.ensures.nodes h.machine c.in_ok-settle.ensures.settled in
      let x : State = record { machine = c.settle.new.self; store = a.store; lines = a.lines } in
      let here : Stands k x t vs s ls = record { machine = settled.standing; store = h.store; lines = h.lines } in
      c.in_ok-called_advance-in-Called.ensures.advance t vs s ls here c.in-Called.is;
}
