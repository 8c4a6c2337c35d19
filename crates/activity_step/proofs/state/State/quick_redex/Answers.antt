use Rattle.std.proofs.Common.{rules, ◌≡◌, [], true, Some, refl, sym, ap, ◌∙◌, to_z, of_z, w64}
use Rattle.asp_model.specs.Term.{Number}
use Rattle.asp_model.specs.Store as store
use Rattle.asp_model.specs.Contraction.{allots}
use Rattle.code_table.specs.declared.code.Kind.TheVariants as kind
use Rattle.code_table.specs.Tables.{kind_head}
use Rattle.code_table.specs.Shapes.{store_of}
use Rattle.step_rows.specs.Decisions.{value_redex}
use Rattle.code_table.specs.declared.code.Node.{Node}
use Rattle.step_machine.specs.Rows.{AtNode, IsAtRedex, is_simple}
use Rattle.step_machine.specs.Standing.{View, view_of}
use Rattle.step_machine.proofs.RowLemmas.{value_row}
use Rattle.step_machine.proofs.SpreadLemmas.{at_call}
use Rattle.code_table.specs.Classes.{class_of}
use Rattle.code_table.specs.declared.class.Class.{Class}
use Rattle.activity_step.proofs.TermLemmas.{bare_at}
use Rattle.activity_step.proofs.state.State.quick_redex.Goals as goal

pub returns-in-Make : goal.returns-in-Make
returns-in-Make c = record {
  taken = λ t vs s ls h at full here_is.
      let k = c.args.code.now in
      let v : View = view_of c.args.self.now.machine in
      let n : Node = c.args.node.now in
      let here : AtNode k v c.args.number c.args.from c.args.count n = record { focus = at; full = full; node = here_is.piece } in
      c.quick_make.ensures.taken k c.args.from n t vs s ls h here here_is.class (ap class_of c.in-Make.is ∙ ap (λ (x : Class). Some x) (sym c.deref.ensures));
}

pub returns-in-Call : goal.returns-in-Call
returns-in-Call c = record {
  taken = λ t vs s ls h at full here_is.
      let k = c.args.code.now in
      let v : View = view_of c.args.self.now.machine in
      let n : Node = c.args.node.now in
      let here : AtNode k v c.args.number c.args.from c.args.count n = record { focus = at; full = full; node = here_is.piece } in
      c.quick_call.ensures.taken t vs s ls h (at_call k v c.args.number c.args.from c.args.count n c.in-Call.label t vs h.machine here c.in-Call.is);
}

pub returns-in-Let : goal.returns-in-Let
returns-in-Let c = record {
  taken = λ t vs s ls h at full here_is.
      let k = c.args.code.now in
      let v : View = view_of c.args.self.now.machine in
      let n : Node = c.args.node.now in
      let here : AtNode k v c.args.number c.args.from c.args.count n = record { focus = at; full = full; node = here_is.piece } in
      c.quick_let.ensures.taken k c.args.number c.args.from c.in-Let.field-0 t vs s ls h here c.in-Let.is;
}

pub returns-in-Steps : goal.returns-in-Steps
returns-in-Steps c = record {
  taken = λ t vs s ls h at full here_is.
      let k = c.args.code.now in
      let v : View = view_of c.args.self.now.machine in
      let n : Node = c.args.node.now in
      let here : AtNode k v c.args.number c.args.from c.args.count n = record { focus = at; full = full; node = here_is.piece } in
      c.taken.ensures.taken k c.steps_advance.new.self t vs s ls (c.steps_advance.ensures.advance k t vs s ls h here c.in-Steps.is);
}

pub returns-in-If : goal.returns-in-If
returns-in-If c = record {
  taken = λ t vs s ls h at full here_is.
      let k = c.args.code.now in
      let v : View = view_of c.args.self.now.machine in
      let n : Node = c.args.node.now in
      let here : AtNode k v c.args.number c.args.from c.args.count n = record { focus = at; full = full; node = here_is.piece } in
      c.quick_if.ensures.taken k c.args.number c.args.from t vs s ls h here c.in-If.is;
}

pub returns-in-Repeat : goal.returns-in-Repeat
returns-in-Repeat c = record {
  taken = λ t vs s ls h at full here_is.
      let k = c.args.code.now in
      let v : View = view_of c.args.self.now.machine in
      let n : Node = c.args.node.now in
      let here : AtNode k v c.args.number c.args.from c.args.count n = record { focus = at; full = full; node = here_is.piece } in
      c.taken-in-Repeat.ensures.taken k c.repeat_advance.new.self t vs s ls (c.repeat_advance.ensures.advance k n t vs s ls h here c.in-Repeat.is);
}

pub returns-in-Number : goal.returns-in-Number
returns-in-Number c = record {
  taken = λ t vs s ls h at full here_is.
      let k = c.args.code.now in
      let v : View = view_of c.args.self.now.machine in
      let n : Node = c.args.node.now in
      let here : AtNode k v c.args.number c.args.from c.args.count n = record { focus = at; full = full; node = here_is.piece } in
      let q = c.args.self.now.store.cells in
      let alone : IsAtRedex k v t vs c.args.count (value_redex (kind_head (kind.Number c.in-Number.n)) []) = bare_at k v c.args.number c.args.from c.args.count n (kind.Number c.in-Number.n) t vs h.machine here c.in-Number.is refl refl in
      let same : to_z w64 (of_z w64 c.in-Number.n) ≡ c.in-Number.n = search rules in
      c.taken-in-Number.ensures.taken k c.decided_advance.new.self t vs s ls (c.decided_advance.ensures.advance k t vs s ls (value_redex (Number c.in-Number.n) []) h alone (ap (λ z. allots (store_of k q) (store.Number z) []) (sym same)));
}

pub returns-in-Get : goal.returns-in-Get
returns-in-Get c = record {
  taken = λ t vs s ls h at full here_is.
      let k = c.args.code.now in
      let v : View = view_of c.args.self.now.machine in
      let n : Node = c.args.node.now in
      let simple : is_simple n.kind ≡ true = ap is_simple c.in-Get.is in
      c.quick_value.ensures.taken t vs s ls h (value_row k v c.args.number c.args.from c.args.count n t vs h.machine at full here_is.piece simple);
}

pub returns-in-Put : goal.returns-in-Put
returns-in-Put c = record {
  taken = λ t vs s ls h at full here_is.
      let k = c.args.code.now in
      let v : View = view_of c.args.self.now.machine in
      let n : Node = c.args.node.now in
      let simple : is_simple n.kind ≡ true = ap is_simple c.in-Put.is in
      c.quick_value-in-Put.ensures.taken t vs s ls h (value_row k v c.args.number c.args.from c.args.count n t vs h.machine at full here_is.piece simple);
}

pub returns-in-Operate : goal.returns-in-Operate
returns-in-Operate c = record {
  taken = λ t vs s ls h at full here_is.
      let k = c.args.code.now in
      let v : View = view_of c.args.self.now.machine in
      let n : Node = c.args.node.now in
      let simple : is_simple n.kind ≡ true = ap is_simple c.in-Operate.is in
      c.quick_value-in-Operate.ensures.taken t vs s ls h (value_row k v c.args.number c.args.from c.args.count n t vs h.machine at full here_is.piece simple);
}
