use Rattle.std.proofs.Common.{rules, ◌≡◌, ℕ, true, false, List, refl, ap, subst}
use Rattle.asp_model.specs.Term.{Scatter}
use Rattle.asp_model.specs.Contraction.{contract}
use Rattle.code_table.specs.declared.code.Kind.{Kind}
use Rattle.code_table.specs.Tables.{kind_head}
use Rattle.code_table.specs.Shapes.{store_of}
use Rattle.step_rows.specs.declared.groups.Scattering.TheVariants as scattering
use Rattle.step_rows.specs.Decisions.{value_redex}
use Rattle.step_rows.specs.Groups.{IsScattering}
use Rattle.step_machine.specs.declared.frames.Spread.TheVariants as spread
use Rattle.step_machine.specs.Rows.{IsAtRedex, is_simple}
use Rattle.step_machine.specs.Spreads.{spread_view}
use Rattle.step_machine.specs.Stacks.{last}
use Rattle.step_machine.specs.Standing.{View, view_of}
use Rattle.step_machine.proofs.RowLemmas.{value_row}
use Rattle.step_machine.proofs.SpreadLemmas.{scatters}
use Rattle.activity_step.proofs.AdvanceLemmas.{contracted, could_contract}
use Rattle.code_table.specs.Places.{placed}
use Rattle.activity_step.proofs.state.State.scatter_advance.Goals as goal

pub returns-in_ok-spread-in-Members : goal.returns-in_ok-spread-in-Members
returns-in_ok-spread-in-Members c = record {
  advance = λ k from n l t vs s ls h at is.
      let a = c.args.self.now in
      let v : View = view_of a.machine in
      let q = a.store.cells in
      let ops : List ℕ = last c.args.count a.machine.operands.items in
      let row0 = c.in_ok-scattering.ensures.row k l.label.text in
      let row1 : IsScattering k q l.label.text (contract (store_of k q) (value_redex (Scatter l.label.text) ops)) c.in_ok-scattering.scattering =
      subst (λ (ns : List ℕ). IsScattering k q l.label.text (contract (store_of k q) (value_redex (Scatter l.label.text) ns)) c.in_ok-scattering.scattering) c.last_operands-operands.ensures.operands row0 in
      let w : IsScattering k q l.label.text (contract (store_of k q) (value_redex (Scatter l.label.text) ops)) (scattering.Members c.in-Members.members c.in-Members.others) =
      subst (IsScattering k q l.label.text (contract (store_of k q) (value_redex (Scatter l.label.text) ops))) c.in-Members.is row1 in
      let yes0 : c.args.go ≡ true = search (rules, c.if-go.true) in
      contracted k a (record { machine = c.spread.new.self; store = a.store; lines = a.lines }) t vs s ls c.args.go (spread_view spread.Own c.args.number c.args.count (placed c.in-Members.members) (placed c.in-Members.others) v) h yes0
      (scatters k v c.args.number from c.args.count (placed c.in-Members.members) (placed c.in-Members.others) n l t vs (store_of k q) h.machine at is w.0 w.1) c.in_ok-spread-in-Members.ensures.view refl refl;
}

pub returns-else-go : goal.returns-else-go
returns-else-go c = record {
  advance = λ k from n l t vs s ls h at is.
      let a = c.args.self.now in
      let v : View = view_of a.machine in
      let q = a.store.cells in
      let ops : List ℕ = last c.args.count a.machine.operands.items in
      let row0 = c.in_ok-scattering.ensures.row k l.label.text in
      let row1 : IsScattering k q l.label.text (contract (store_of k q) (value_redex (Scatter l.label.text) ops)) c.in_ok-scattering.scattering =
      subst (λ (ns : List ℕ). IsScattering k q l.label.text (contract (store_of k q) (value_redex (Scatter l.label.text) ns)) c.in_ok-scattering.scattering) c.last_operands-operands.ensures.operands row0 in
      let w : IsScattering k q l.label.text (contract (store_of k q) (value_redex (Scatter l.label.text) ops)) (scattering.Members c.in-Members.members c.in-Members.others) =
      subst (IsScattering k q l.label.text (contract (store_of k q) (value_redex (Scatter l.label.text) ops))) c.in-Members.is row1 in
      let no0 : c.args.go ≡ false = search (rules, c.if-go.false) in
      could_contract k a t vs s ls c.args.go (spread_view spread.Own c.args.number c.args.count (placed c.in-Members.members) (placed c.in-Members.others) v) h no0
      (scatters k v c.args.number from c.args.count (placed c.in-Members.members) (placed c.in-Members.others) n l t vs (store_of k q) h.machine at is w.0 w.1);
}

pub returns-in-Other : goal.returns-in-Other
returns-in-Other c = record {
  advance = λ k from n l t vs s ls h at is.
      let a = c.args.self.now in
      let v : View = view_of a.machine in
      let q = a.store.cells in
      let ops : List ℕ = last c.args.count a.machine.operands.items in
      let row0 = c.in_ok-scattering.ensures.row k l.label.text in
      let row1 : IsScattering k q l.label.text (contract (store_of k q) (value_redex (Scatter l.label.text) ops)) c.in_ok-scattering.scattering =
      subst (λ (ns : List ℕ). IsScattering k q l.label.text (contract (store_of k q) (value_redex (Scatter l.label.text) ns)) c.in_ok-scattering.scattering) c.last_operands-operands.ensures.operands row0 in
      let w : IsScattering k q l.label.text (contract (store_of k q) (value_redex (Scatter l.label.text) ops)) (scattering.Other c.in-Other.decision) =
      subst (IsScattering k q l.label.text (contract (store_of k q) (value_redex (Scatter l.label.text) ops))) c.in-Other.is row1 in
      let here : IsAtRedex k v t vs c.args.count (value_redex (Scatter l.label.text) ops) =
      subst (λ (x : Kind). IsAtRedex k v t vs c.args.count (value_redex (kind_head x) ops)) is (value_row k v c.args.number from c.args.count n t vs h.machine at.focus at.full at.node (ap is_simple is)) in
      c.decided_advance.ensures.advance k t vs s ls (value_redex (Scatter l.label.text) ops) h here w;
}
