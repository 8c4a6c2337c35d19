use Rattle.std.proofs.Common.{ℕ, List, [], map, refl, subst}
use Rattle.code_table.specs.declared.code.Kind.{Kind}
use Rattle.code_table.specs.Tables.{kind_head, text_of}
use Rattle.step_rows.specs.Decisions.{value_redex}
use Rattle.step_machine.specs.Rows.{IsAtRedex}
use Rattle.step_machine.specs.Stacks.{last}
use Rattle.step_machine.specs.Standing.{View, view_of}
use Rattle.activity_step.specs.declared.advance.Advance.TheVariants as advance
use Rattle.activity_step.proofs.AdvanceLemmas.{stopped}
use Rattle.activity_step.proofs.TermLemmas.{bare_row}
use Rattle.code_table.specs.declared.code.Kind.TheVariants as kind
use Rattle.std.specs.Option.{option_map}
use Rattle.activity_step.proofs.state.State.simple_advance.Goals as goal

pub returns-in-Echo : goal.returns-in-Echo
returns-in-Echo c = record {
  advance = λ size t vs s ls sound h at whole.
      let k = c.args.code.now in
      let a = c.args.self.now in
      let v : View = view_of a.machine in
      let q : Kind = kind.Echo c.in-Echo.text in
      let here : IsAtRedex k v t vs c.args.count (value_redex (kind_head q) []) = bare_row k v t vs c.args.count size c.args.kind.now q c.in-Echo.is refl whole at in
      c.echo_advance.ensures.advance k t vs s ls sound h here;
}

pub returns-in-Serve : goal.returns-in-Serve
returns-in-Serve c = record {
  advance = λ size t vs s ls sound h at whole.
      let k = c.args.code.now in
      let a = c.args.self.now in
      let v : View = view_of a.machine in
      let q : Kind = kind.Serve c.in-Serve.field-0 in
      let here : IsAtRedex k v t vs c.args.count (value_redex (kind_head q) []) = bare_row k v t vs c.args.count size c.args.kind.now q c.in-Serve.is refl whole at in
      stopped k a t vs s ls c.args.go c.args.count (value_redex (kind_head q) []) advance.Serves h here (map text_of c.in-Serve.field-0.items, refl);
}

pub returns-in-Pending : goal.returns-in-Pending
returns-in-Pending c = record {
  advance = λ size t vs s ls sound h at whole.
      let k = c.args.code.now in
      let a = c.args.self.now in
      let v : View = view_of a.machine in
      let q : Kind = kind.Pending c.in-Pending.field-0 in
      let here : IsAtRedex k v t vs c.args.count (value_redex (kind_head q) []) = bare_row k v t vs c.args.count size c.args.kind.now q c.in-Pending.is refl whole at in
      stopped k a t vs s ls c.args.go c.args.count (value_redex (kind_head q) []) advance.Polls h here (map text_of c.in-Pending.field-0.items, refl);
}

pub returns-in-Group : goal.returns-in-Group
returns-in-Group c = record {
  advance = λ size t vs s ls sound h at whole.
      let k = c.args.code.now in
      let a = c.args.self.now in
      let v : View = view_of a.machine in
      let q = a.store.cells in
      let ops : List ℕ = last c.args.count a.machine.operands.items in
      let here : IsAtRedex k v t vs c.args.count (value_redex (kind_head (kind.Group)) ops) = subst (λ (x : Kind). IsAtRedex k v t vs c.args.count (value_redex (kind_head x) ops)) c.in-Group.is at in
      c.group_advance.ensures.advance k t vs s ls h here;
}

pub returns-in-Active : goal.returns-in-Active
returns-in-Active c = record {
  advance = λ size t vs s ls sound h at whole.
      let k = c.args.code.now in
      let a = c.args.self.now in
      let v : View = view_of a.machine in
      let q = a.store.cells in
      let ops : List ℕ = last c.args.count a.machine.operands.items in
      let here : IsAtRedex k v t vs c.args.count (value_redex (kind_head (kind.Active c.in-Active.field-0)) ops) = subst (λ (x : Kind). IsAtRedex k v t vs c.args.count (value_redex (kind_head x) ops)) c.in-Active.is at in
      c.active_advance.ensures.advance k (option_map text_of c.in-Active.field-0) t vs s ls h here;
}

pub returns-in-Clone : goal.returns-in-Clone
returns-in-Clone c = record { advance = λ size t vs s ls sound h at whole. c.value_advance.ensures.advance t vs s ls h at }

pub returns-in-Print : goal.returns-in-Print
returns-in-Print c = record { advance = λ size t vs s ls sound h at whole. c.value_advance-in-Print.ensures.advance t vs s ls h at }

pub returns-in-Size : goal.returns-in-Size
returns-in-Size c = record { advance = λ size t vs s ls sound h at whole. c.value_advance-in-Size.ensures.advance t vs s ls h at }

pub returns-in-Member : goal.returns-in-Member
returns-in-Member c = record { advance = λ size t vs s ls sound h at whole. c.value_advance-in-Member.ensures.advance t vs s ls h at }

pub returns-in-WaitAll : goal.returns-in-WaitAll
returns-in-WaitAll c = record { advance = λ size t vs s ls sound h at whole. c.value_advance-in-WaitAll.ensures.advance t vs s ls h at }
