use Rattle.std.proofs.Common.{rules, ◌≡◌, ℕ, List, [], false, true, map, refl, ap, subst, ◌∙◌}
use Rattle.std.specs.Option.{option_map}
use Rattle.asp_model.specs.Split.{Redex}
use Rattle.code_table.specs.Tables.{kind_head, pieces, text_of}
use Rattle.code_table.specs.declared.code.Kind.{Kind}
use Rattle.code_table.specs.declared.code.Kind.TheVariants as kind
use Rattle.code_table.specs.declared.code.Node.{Node}
use Rattle.step_rows.specs.Decisions.{value_redex}
use Rattle.step_machine.specs.Rows.{AtNode, IsAtRedex, is_simple}
use Rattle.step_machine.specs.Stacks.{last}
use Rattle.step_machine.specs.Standing.{View, view_of}
use Rattle.step_machine.proofs.RowLemmas.{value_row}
use Rattle.step_machine.proofs.SpreadLemmas.{at_call}
use Rattle.activity_step.specs.declared.advance.Advance.TheVariants as advance
use Rattle.activity_step.proofs.AdvanceLemmas.{stopped}
use Rattle.activity_step.proofs.TermLemmas.{at_node, bare_at}
use Rattle.activity_step.proofs.state.State.stop_redex.Goals as goal

pub returns-in-Call : goal.returns-in-Call
returns-in-Call c = record {
  stop = λ t vs s ls h at.
      let k = c.args.code.now in
      let a = c.args.self.now in
      let v : View = view_of a.machine in
      let n : Node = c.in-Some.node.now in
      let all : c.args.count ≡ c.in_place_count.result = search (rules, c.if-count-in_place_count.false) in
      let here : AtNode k v c.args.number c.args.from c.args.count n = at_node k v c.args.number c.args.from c.args.count n at (all ∙ c.in_place_count.ensures.count (pieces k)) c.in-Some.ensures.piece in
      c.stop_call.ensures.stop t vs s ls h (at_call k v c.args.number c.args.from c.args.count n c.in-Call.label t vs h.machine here c.in-Call.is);
}

pub returns-in-Active : goal.returns-in-Active
returns-in-Active c = record {
  stop = λ t vs s ls h at.
      let k = c.args.code.now in
      let a = c.args.self.now in
      let v : View = view_of a.machine in
      let n : Node = c.in-Some.node.now in
      let all : c.args.count ≡ c.in_place_count.result = search (rules, c.if-count-in_place_count.false) in
      let here : AtNode k v c.args.number c.args.from c.args.count n = at_node k v c.args.number c.args.from c.args.count n at (all ∙ c.in_place_count.ensures.count (pieces k)) c.in-Some.ensures.piece in
      let ops : List ℕ = last c.args.count a.machine.operands.items in
      let is = c.in-Active.is in
      let simple : is_simple n.kind ≡ true = ap is_simple is in
      let there : IsAtRedex k v t vs c.args.count (value_redex (kind_head (kind.Active c.in-Active.field-0)) ops) = subst (λ (x : Kind). IsAtRedex k v t vs c.args.count (value_redex (kind_head x) ops)) is (value_row k v c.args.number c.args.from c.args.count n t vs h.machine at here.full here.node simple) in
      c.stop_active.ensures.stop k (option_map text_of c.in-Active.field-0) t vs s ls h there;
}

pub returns-in-Serve : goal.returns-in-Serve
returns-in-Serve c = record {
  stop = λ t vs s ls h at.
      let k = c.args.code.now in
      let a = c.args.self.now in
      let v : View = view_of a.machine in
      let n : Node = c.in-Some.node.now in
      let all : c.args.count ≡ c.in_place_count.result = search (rules, c.if-count-in_place_count.false) in
      let here : AtNode k v c.args.number c.args.from c.args.count n = at_node k v c.args.number c.args.from c.args.count n at (all ∙ c.in_place_count.ensures.count (pieces k)) c.in-Some.ensures.piece in
      let q : Kind = kind.Serve c.in-Serve.field-0 in
      let redex : Redex = value_redex (kind_head q) [] in
      let alone : IsAtRedex k v t vs c.args.count redex = bare_at k v c.args.number c.args.from c.args.count n q t vs h.machine here c.in-Serve.is refl refl in
      stopped k a t vs s ls false c.args.count redex advance.Serves h alone (map text_of c.in-Serve.field-0.items, refl);
}

pub returns-in-Pending : goal.returns-in-Pending
returns-in-Pending c = record {
  stop = λ t vs s ls h at.
      let k = c.args.code.now in
      let a = c.args.self.now in
      let v : View = view_of a.machine in
      let n : Node = c.in-Some.node.now in
      let all : c.args.count ≡ c.in_place_count.result = search (rules, c.if-count-in_place_count.false) in
      let here : AtNode k v c.args.number c.args.from c.args.count n = at_node k v c.args.number c.args.from c.args.count n at (all ∙ c.in_place_count.ensures.count (pieces k)) c.in-Some.ensures.piece in
      let q : Kind = kind.Pending c.in-Pending.field-0 in
      let redex : Redex = value_redex (kind_head q) [] in
      let alone : IsAtRedex k v t vs c.args.count redex = bare_at k v c.args.number c.args.from c.args.count n q t vs h.machine here c.in-Pending.is refl refl in
      stopped k a t vs s ls false c.args.count redex advance.Polls h alone (map text_of c.in-Pending.field-0.items, refl);
}
