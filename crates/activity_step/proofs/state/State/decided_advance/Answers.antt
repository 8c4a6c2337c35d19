use Rattle.std.proofs.Common.{rules, ◌≡◌, true, false, ◌∙◌}
use Rattle.activity_step.proofs.AdvanceLemmas.{stopped, could, placed}
use Rattle.activity_step.proofs.state.State.decided_advance.Goals as goal

pub returns-in-Some : goal.returns-in-Some
returns-in-Some c = record {
  advance = λ k t vs s ls r h at is. stopped k c.args.self.now t vs s ls c.args.go c.args.count r c.in-Some.advance h at (c.in-Some.ensures.stops k c.args.self.now.store.cells _ is);
}

pub returns-then-not-go : goal.returns-then-not-go
returns-then-not-go c = record {
  advance = λ k t vs s ls r h at is.
      let no : c.args.go ≡ false = search (rules, c.if-not-go.true) in
      could k c.args.self.now t vs s ls c.args.go c.args.count r h at no (c.in_default.ensures.goes k c.args.self.now.store.cells _ is);
}

pub returns : goal.returns
returns c = record {
  advance = λ k t vs s ls r h at is.
      let yes : c.args.go ≡ true = search (rules, c.if-not-go.false) in
      let done = c.in_ok-place.ensures.performed k in
      placed k c.args.self.now (record { machine = c.become_place.new.self; store = c.perform.new.store; lines = c.perform.new.lines }) t vs s ls c.args.go c.args.count r c.in_ok-place.place done.added h at yes (is ∙ done.is) c.become_place.ensures.view done.lines_are;
}
