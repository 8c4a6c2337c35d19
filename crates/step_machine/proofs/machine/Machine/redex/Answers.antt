use Rattle.std.proofs.Common.{List, subst}
use Rattle.code_table.specs.declared.code.Node.{Node}
use Rattle.step_machine.specs.Standing.{View, view_of}
use Rattle.step_machine.specs.Views.{IsSettledAt, Settled}
use Rattle.step_machine.proofs.CallLemmas.{at_calls, called, call_some, results, results_some}
use Rattle.step_machine.proofs.RowLemmas.{asked, asked_some, at_some}
use Rattle.step_machine.proofs.machine.Machine.redex.Goals as goal

pub returns-in-Node : goal.returns-in-Node
returns-in-Node c = record {
  redex = λ t vs h.
      let k : List Node = c.args.nodes.now in
      let new : View = view_of c.settle.new.self in
      let s : Settled k t vs new = c.in_ok-settle.ensures.settled t vs h in
      at_some k new c.in-Node._number c.in-Node._from c.in-Node.done t vs s.standing c.in-Node.is (subst (IsSettledAt k new.frames) c.in-Node.is s.settled);
}

pub returns-in-Asked : goal.returns-in-Asked
returns-in-Asked c = record {
  redex = λ t vs h.
      let k : List Node = c.args.nodes.now in
      let new : View = view_of c.settle.new.self in
      let s : Settled k t vs new = c.in_ok-settle.ensures.settled t vs h in
      asked_some k new c.in-Asked.count t vs (asked k new c.in-Asked.count t vs s.standing c.in-Asked.is);
}

pub returns-in-Calls : goal.returns-in-Calls
returns-in-Calls c = record {
  redex = λ t vs h.
      let k : List Node = c.args.nodes.now in
      let new : View = view_of c.settle.new.self in
      let s : Settled k t vs new = c.in_ok-settle.ensures.settled t vs h in
      let full = subst (IsSettledAt k new.frames) c.in-Calls.is s.settled in
      results_some k new c.in-Calls._members c.in-Calls.done t vs
      (results k new c.in-Calls._spread c.in-Calls._number c.in-Calls._members c.in-Calls.done t vs (at_calls k new c.in-Calls._spread c.in-Calls._number c.in-Calls._members c.in-Calls.done t vs s.standing c.in-Calls.is) full);
}

pub returns-in-Called : goal.returns-in-Called
returns-in-Called c = record {
  redex = λ t vs h.
      let k : List Node = c.args.nodes.now in
      let new : View = view_of c.settle.new.self in
      let s : Settled k t vs new = c.in_ok-settle.ensures.settled t vs h in
      call_some k new c.in-Called._number c.in-Called.count _ t vs (called k new c.in-Called._number c.in-Called.count t vs s.standing c.in-Called.is);
}
