-- Calls.
use Rattle.std.proofs.Common.{◌≡◌, ℕ, List, [], length, ap, ◌∙◌}
use Rattle.std.specs.Borrow.{Bor}
use Rattle.asp_model.specs.Names.{Name, Text}
use Rattle.asp_model.specs.Term.{Call, Tree}
use Rattle.asp_model.specs.Configuration.{ServiceShape}
use Rattle.asp_model.specs.Contraction.{Communicates, Sends, call_row, contract}
use Rattle.code_table.specs.declared.code.MethodCode.{MethodCode}
use Rattle.code_table.specs.declared.code.Node.{Node}
use Rattle.code_table.specs.declared.places.Places.{Places}
use Rattle.code_table.specs.Cells.{CodedStore, cell_at}
use Rattle.code_table.specs.Places.{placed}
use Rattle.code_table.specs.Shapes.{cell_of, store_of}
use Rattle.code_table.proofs.CodedLemmas.{cell-store_of}
use Rattle.step_rows.specs.declared.calls.Callee.{Callee}
use Rattle.step_rows.specs.declared.calls.Callee.TheVariants as callee
use Rattle.step_rows.specs.declared.decision.Decision.{Decision}
use Rattle.step_rows.specs.Decisions.{Leads, decided, read, value_redex}
use Rattle.step_rows.proofs.ReadLemmas.{call_reads}
use Rattle.step_machine.specs.Rows.{Contracts, called_view}
use Rattle.step_machine.specs.Stacks.{last}
use Rattle.step_machine.specs.Standing.{View, Standing}
use Rattle.step_machine.specs.Items.{contexts_of}
use Rattle.step_machine.specs.Spreads.{IsAtCall, spread_view}
use Rattle.step_machine.specs.declared.frames.Spread.TheVariants as spread
use Rattle.step_machine.proofs.SpreadLemmas.{group_call}
use Rattle.step_machine.specs.declared.frames.Focus.TheVariants as focus
use Rattle.step_machine.proofs.RowLemmas.{AtAsked, asked, call_enters}
use Rattle.asp_model.specs.Split.{Splits}
use Rattle.activity_step.specs.Called.{IsCalled}

pub method_contracts : (k : List Node) (v : View) (number n : ℕ) (l : Text) (t : Tree) (vs : List ServiceShape) (q : CodedStore) (m : Bor MethodCode) (cs : Places) → IsAtCall k v number n l t vs → IsCalled k q l (last n v.operands) (callee.Method m cs)
    → Contracts k t vs (store_of k q) (store_of k q) [] (called_view n (placed cs) m.now.body v)
method_contracts k v number n l t vs q m cs a w =
    let leads : Leads k (cell_at q w.at) l (length w.arguments) m.now (placed cs) = w.callee in
    call_enters k v n w.at w.arguments l t vs (store_of k q) a.below (a.splits ∙ ap (λ (ns : List ℕ). Splits (contexts_of a.below.items) (value_redex (Call l) ns)) w.operands_are)
    w.operands_are leads.fields leads.methods (cell-store_of k q w.at ∙ leads.cell_is) m.now (placed cs) leads.found leads.sound leads.size leads.arity

-- a call on a group becomes a call of each member
pub members_contract : (k : List Node) (v : View) (number n : ℕ) (l : Text) (t : Tree) (vs : List ServiceShape) (q : CodedStore) (ns : Places) → IsAtCall k v number n l t vs → IsCalled k q l (last n v.operands) (callee.Members ns)
    → Contracts k t vs (store_of k q) (store_of k q) [] (spread_view spread.Same number n (placed ns) [] v)
members_contract k v number n l t vs q ns a w = group_call k v number n w.at w.arguments (placed ns) l t vs (store_of k q) a w.operands_are (cell-store_of k q w.at ∙ w.callee)

reads : (k : List Node) (q : CodedStore) (l : Text) (ops : List ℕ) (c : Callee) (w : IsCalled k q l ops c) → contract (store_of k q) (value_redex (Call l) ops) ≡ read w.at (call_row (store_of k q) l w.at w.arguments) (cell_of k (cell_at q w.at))
reads k q l ops c w =
    ap (λ (ns : List ℕ). contract (store_of k q) (value_redex (Call l) ns)) w.operands_are ∙ call_reads (store_of k q) l w.at w.arguments
    ∙ ap (read w.at (call_row (store_of k q) l w.at w.arguments)) (cell-store_of k q w.at)

pub other_contracts : (k : List Node) (q : CodedStore) (l : Text) (ops : List ℕ) (d : Decision) → IsCalled k q l ops (callee.Other d) → contract (store_of k q) (value_redex (Call l) ops) ≡ decided k q d
other_contracts k q l ops d w = reads k q l ops (callee.Other d) w ∙ w.callee q

pub sends : (k : List Node) (q : CodedStore) (l : Text) (ops : List ℕ) (n : Bor Name) → IsCalled k q l ops (callee.Activity n) → (to : Name) × (m : Text) × (ns : List ℕ) × (contract (store_of k q) (value_redex (Call l) ops) ≡ Communicates (Sends to m ns))
sends k q l ops n w = (n.now, l, w.arguments, reads k q l ops (callee.Activity n) w ∙ ap (read w.at (call_row (store_of k q) l w.at w.arguments)) w.callee)

-- The call that a service begins with

pub asked_contracts : (k : List Node) (v : View) (n : ℕ) (t : Tree) (vs : List ServiceShape) (q : CodedStore) (m : Bor MethodCode) (cs : Places) → Standing k v t vs → v.focus ≡ focus.Asked n
    → IsCalled k q v.asked (last n v.operands) (callee.Method m cs) → Contracts k t vs (store_of k q) (store_of k q) [] (called_view n (placed cs) m.now.body v)
asked_contracts k v n t vs q m cs h at w =
    let leads : Leads k (cell_at q w.at) v.asked (length w.arguments) m.now (placed cs) = w.callee in
    let a : AtAsked k v n t vs = asked k v n t vs h at in
    call_enters k v n w.at w.arguments v.asked t vs (store_of k q) a.below
    (a.splits ∙ ap (λ (ns : List ℕ). Splits (contexts_of a.below.items) (value_redex (Call v.asked) ns)) w.operands_are)
    w.operands_are leads.fields leads.methods (cell-store_of k q w.at ∙ leads.cell_is) m.now (placed cs) leads.found leads.sound leads.size leads.arity
