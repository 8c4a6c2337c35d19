use Rattle.std.proofs.Common.{rules, ◌≡◌, ◌∷◌, ◌++◌, ◌+◌, [], ℕ, List, length, map, take, refl, sym, ap, subst, ◌∙◌, arith, Bor, OnOk}
use Rattle.asp_model.specs.declared.term.Term.{Term}
use Rattle.asp_model.specs.declared.term.Method.{Method}
use Rattle.asp_model.specs.declared.word.Label.{Label}
use Rattle.asp_model.specs.Names.{Text}
use Rattle.asp_model.specs.Term.{Head, Tree, MethodHead, Environment, node, more, none, trees}
use Rattle.asp_model.specs.Term as term
use Rattle.asp_model.specs.Marked.{MarkShape, Marked, MarkedList, and_marked, all_marked, marked, one_marked, two_marked}
use Rattle.asp_model.specs.Shapes.{marked_of, mark_shape, tree_of}
use Rattle.code_table.specs.declared.code.Child.{Child}
use Rattle.code_table.specs.declared.class.Class.{Class}
use Rattle.code_table.specs.declared.code.Kind.TheVariants as kind
use Rattle.code_table.specs.declared.code.MethodCode.{MethodCode}
use Rattle.code_table.specs.declared.code.Node.{Node}
use Rattle.code_table.specs.Fitting.{names, slots_from}
use Rattle.code_table.specs.Marks.{HasMarks, HaveMarks, method_bodies}
use Rattle.code_table.specs.Tables.{kind_head, text_of}
use Rattle.code_compiler.specs.Slots.{bound_in, environment, names_of}
use Rattle.code_table.specs.Parts.{body_tree, field_label, field_tree, method_head}
use Rattle.code_compiler.proofs.SlotLemmas.{names_slots}
use Rattle.code_compiler.specs.Added.{body_of}
use Rattle.code_compiler.specs.Closed.{IsClosed}
use Rattle.code_compiler.specs.Free.{free_in}
use Rattle.code_compiler.specs.Compiled.{Body, Adds, AddsMarks, AddsMethods, AreAmong, IsMethod, IsPut, SameScope, captured_count}
use Rattle.code_compiler.specs.Parts.{body_marked, field_marked, marked_below, parts_of, terms_marked}
use Rattle.code_compiler.proofs.NodeLemmas.{whole, plain_node, then_ok}
use Rattle.code_compiler.proofs.PartLemmas.{row_parts, row_marked, row_size, row_closed, two_parts, pair_marked, choice_marked, call_parts, operands_marked}
use Rattle.code_table.proofs.TermTrees.{make_is, if_is, make_marked}
use Rattle.code_compiler.proofs.ClosedLemmas.{body_closed, captured_among}
use Rattle.code_compiler.proofs.ClosedLaws.{call_closed, fields_closed, methods_closed, field_at, method_at}
use Rattle.code_compiler.proofs.SizeLemmas.{call_size, fields_size, methods_size, term_size_at, method_size_at, field_size_at}
use Rattle.code_compiler.proofs.AddLemmas.{both_ok, adds_more, node_added, let_added, ends_put, map_step, map_length, same_self, closed_at, row_of, if_ok}
use Rattle.code_compiler.proofs.MethodLemmas.{methods_more, count_append, method_added, object_added, one_child_long}
use Rattle.code_compiler.proofs.MarkLemmas.{marks_more, marks_step, bodies_step, marks_row, only_marks, node_marks, let_marks, object_marks}
use Rattle.code_compiler.proofs.terms.+compiling.Goals as goal

pub compile_below-compile_all-requires : goal.compile_below-compile_all-requires
compile_below-compile_all-requires t c = (omega (arith, c.decreases, call_size c.args.term.now c.deref-in-Call-2.result.now c.in-Call.a c.in-Call.field-1 c.in-Call.terms c.in-Call.field-3 c.deref-in-Call-2.ensures.value c.in-Call.is), call_closed (names_of c.args.scope.now) c.args.term.now c.deref-in-Call-2.result.now c.in-Call.a c.in-Call.field-1 c.in-Call.terms c.in-Call.field-3 c.deref-in-Call-2.ensures.value c.in-Call.is c.requires.closed)

pub compile_below-compile_all-requires-in-Steps : goal.compile_below-compile_all-requires-in-Steps
compile_below-compile_all-requires-in-Steps t c = (omega (arith, c.decreases, row_size c.args.term.now c.deref-in-Steps.result.now c.in-Steps.terms c.deref-in-Steps.ensures.value c.in-Steps.is), row_closed (names_of c.args.scope.now) c.args.term.now c.deref-in-Steps.result.now c.in-Steps.terms c.deref-in-Steps.ensures.value c.in-Steps.is c.requires.closed)

pub compile_below-returns-in-Steps : goal.compile_below-returns-in-Steps
compile_below-returns-in-Steps t c =
    let a : Body = body_of c.args.scope.now c.args.uses.now.items in
    let b : Body = body_of c.args.scope.now c.compile_all-in-Steps.new.uses.items in
    let parts : map tree_of c.deref-in-Steps.result.now ≡ parts_of (tree_of c.args.term.now) = row_parts c.args.term.now c.deref-in-Steps.result.now c.in-Steps.terms c.deref-in-Steps.ensures.value c.in-Steps.is in
    record {
      adds = subst (λ (ts : List Tree). OnOk c.compile_all-in-Steps.result (Adds a b c.args.nodes.now.items c.compile_all-in-Steps.new.nodes.items c.args.children.now.items c.compile_all-in-Steps.new.children.items ts)) parts c.compile_all-in-Steps.ensures.adds;
      marks = subst (λ (ts : MarkedList). OnOk c.compile_all-in-Steps.result (AddsMarks c.compile_all-in-Steps.new.nodes.items c.args.children.now.items c.compile_all-in-Steps.new.children.items ts))
          (row_marked c.args.term.now c.deref-in-Steps.result.now c.in-Steps.terms c.deref-in-Steps.ensures.value c.in-Steps.is) c.compile_all-in-Steps.ensures.marks;
    }

pub compile_below-returns-in_ok-compile_term-in-Put : goal.compile_below-returns-in_ok-compile_term-in-Put
compile_below-returns-in_ok-compile_term-in-Put t c =
    let a : Body = body_of c.args.scope.now c.args.uses.now.items in
    let b : Body = body_of c.args.scope.now c.compile_term-in-Put.new.uses.items in
    let d : Body = body_of c.args.scope.now c.compile_term-in-Put-2.new.uses.items in
    let ns : List Node = c.args.nodes.now.items in
    let ms : List Node = c.compile_term-in-Put.new.nodes.items in
    let ls : List Node = c.compile_term-in-Put-2.new.nodes.items in
    let cs : List Child = c.args.children.now.items in
    let ds : List Child = c.compile_term-in-Put.new.children.items in
    let es : List Child = c.compile_term-in-Put-2.new.children.items in
    let x : Tree = tree_of c.deref-in-Put.result.now in
    let y : Tree = tree_of c.deref-in-Put-2.result.now in
    let parts : x ∷ y ∷ [] ≡ parts_of (tree_of c.args.term.now) =
    (λ i. tree_of (c.deref-in-Put.ensures i) ∷ tree_of (c.deref-in-Put-2.ensures i) ∷ []) ∙ two_parts c.args.term.now c.in-Put.a c.in-Put.b c.in-Put.is in
    let u : Marked = marked_of c.deref-in-Put.result.now in
    let v : Marked = marked_of c.deref-in-Put-2.result.now in
    let both : two_marked u v ≡ marked_below (marked_of c.args.term.now) =
    (λ i. two_marked (marked_of (c.deref-in-Put.ensures i)) (marked_of (c.deref-in-Put-2.ensures i))) ∙ pair_marked c.args.term.now c.in-Put.a c.in-Put.b c.in-Put.is in
    record {
      adds = then_ok c.compile_term-in-Put-2.result (Adds b d ms ls ds es (y ∷ [])) (Adds a d ns ls cs es (parts_of (tree_of c.args.term.now))) c.compile_term-in-Put-2.ensures.adds
          (λ last. subst (Adds a d ns ls cs es) parts (adds_more a b d ns ms ls cs ds es (x ∷ []) (y ∷ []) c.in_ok-compile_term-in-Put.ensures.adds last));
      marks = both_ok c.compile_term-in-Put-2.result (Adds b d ms ls ds es (y ∷ [])) (AddsMarks ls ds es (one_marked v)) (AddsMarks ls cs es (marked_below (marked_of c.args.term.now)))
          c.compile_term-in-Put-2.ensures.adds c.compile_term-in-Put-2.ensures.marks
          (λ last here. subst (AddsMarks ls cs es) both (marks_more ms ls cs ds es (one_marked u) (one_marked v) last.grows c.in_ok-compile_term-in-Put.ensures.marks here));
    }

pub compile_below-returns-in_ok-compile_term-in-If-2 : goal.compile_below-returns-in_ok-compile_term-in-If-2
compile_below-returns-in_ok-compile_term-in-If-2 t c =
    let a : Body = body_of c.args.scope.now c.args.uses.now.items in
    let b : Body = body_of c.args.scope.now c.compile_term.new.uses.items in
    let d : Body = body_of c.args.scope.now c.compile_term-in-If.new.uses.items in
    let e : Body = body_of c.args.scope.now c.compile_term-in-If-2.new.uses.items in
    let ns : List Node = c.args.nodes.now.items in
    let ms : List Node = c.compile_term.new.nodes.items in
    let ls : List Node = c.compile_term-in-If.new.nodes.items in
    let ks : List Node = c.compile_term-in-If-2.new.nodes.items in
    let cs : List Child = c.args.children.now.items in
    let ds : List Child = c.compile_term.new.children.items in
    let es : List Child = c.compile_term-in-If.new.children.items in
    let fs : List Child = c.compile_term-in-If-2.new.children.items in
    let x : Tree = tree_of c.deref.result.now in
    let y : Tree = tree_of c.deref-in-If.result.now in
    let z : Tree = tree_of c.deref-in-If-2.result.now in
    let parts : x ∷ y ∷ z ∷ [] ≡ parts_of (tree_of c.args.term.now) =
    (λ i. tree_of (c.deref.ensures i) ∷ tree_of (c.deref-in-If.ensures i) ∷ tree_of (c.deref-in-If-2.ensures i) ∷ []) ∙ sym (ap parts_of (ap tree_of c.in-If.is ∙ if_is c.in-If.a c.in-If.b c.in-If.c c.in-If.field-3)) in
    let u : Marked = marked_of c.deref.result.now in
    let v : Marked = marked_of c.deref-in-If.result.now in
    let w : Marked = marked_of c.deref-in-If-2.result.now in
    let three : and_marked u (two_marked v w) ≡ marked_below (marked_of c.args.term.now) =
    (λ i. and_marked (marked_of (c.deref.ensures i)) (two_marked (marked_of (c.deref-in-If.ensures i)) (marked_of (c.deref-in-If-2.ensures i)))) ∙ choice_marked c.args.term.now c.in-If.a c.in-If.b c.in-If.c c.in-If.field-3 c.in-If.is in
    let pair : AddsMarks ls cs es (two_marked u v) = marks_more ms ls cs ds es (one_marked u) (one_marked v) c.in_ok-compile_term-in-If-2.ensures.adds.grows c.in_ok-compile_term-in-If.ensures.marks c.in_ok-compile_term-in-If-2.ensures.marks in
    let two : Adds a d ns ls cs es (x ∷ y ∷ []) = adds_more a b d ns ms ls cs ds es (x ∷ []) (y ∷ []) c.in_ok-compile_term-in-If.ensures.adds c.in_ok-compile_term-in-If-2.ensures.adds in
    record {
      adds = then_ok c.compile_term-in-If-2.result (Adds d e ls ks es fs (z ∷ [])) (Adds a e ns ks cs fs (parts_of (tree_of c.args.term.now))) c.compile_term-in-If-2.ensures.adds
          (λ last. subst (Adds a e ns ks cs fs) parts (adds_more a d e ns ls ks cs es fs (x ∷ y ∷ []) (z ∷ []) two last));
      marks = both_ok c.compile_term-in-If-2.result (Adds d e ls ks es fs (z ∷ [])) (AddsMarks ks es fs (one_marked w)) (AddsMarks ks cs fs (marked_below (marked_of c.args.term.now)))
          c.compile_term-in-If-2.ensures.adds c.compile_term-in-If-2.ensures.marks
          (λ last here. subst (AddsMarks ks cs fs) three (marks_more ls ks cs es fs (two_marked u v) (one_marked w) last.grows pair here));
    }

pub compile_below-returns-in_ok-compile_term-in-Call : goal.compile_below-returns-in_ok-compile_term-in-Call
compile_below-returns-in_ok-compile_term-in-Call t c =
    let a : Body = body_of c.args.scope.now c.args.uses.now.items in
    let b : Body = body_of c.args.scope.now c.compile_term-in-Call.new.uses.items in
    let d : Body = body_of c.args.scope.now c.compile_all.new.uses.items in
    let ns : List Node = c.args.nodes.now.items in
    let ms : List Node = c.compile_term-in-Call.new.nodes.items in
    let ls : List Node = c.compile_all.new.nodes.items in
    let cs : List Child = c.args.children.now.items in
    let ds : List Child = c.compile_term-in-Call.new.children.items in
    let es : List Child = c.compile_all.new.children.items in
    let x : Tree = tree_of c.deref-in-Call.result.now in
    let ys : List Tree = map tree_of c.deref-in-Call-2.result.now in
    let parts : x ∷ ys ≡ parts_of (tree_of c.args.term.now) =
    (λ i. tree_of (c.deref-in-Call.ensures i) ∷ map tree_of (c.deref-in-Call-2.ensures.value i)) ∙ call_parts c.args.term.now c.in-Call.a c.in-Call.field-1 c.in-Call.terms c.in-Call.field-3 c.in-Call.is in
    let u : Marked = marked_of c.deref-in-Call.result.now in
    let vs : MarkedList = terms_marked c.deref-in-Call-2.result.now in
    let all : and_marked u vs ≡ marked_below (marked_of c.args.term.now) =
    (λ i. and_marked (marked_of (c.deref-in-Call.ensures i)) (terms_marked (c.deref-in-Call-2.ensures.value i))) ∙ operands_marked c.args.term.now c.in-Call.a c.in-Call.field-1 c.in-Call.terms c.in-Call.field-3 c.in-Call.is in
    record {
      adds = then_ok c.compile_all.result (Adds b d ms ls ds es ys) (Adds a d ns ls cs es (parts_of (tree_of c.args.term.now))) c.compile_all.ensures.adds
          (λ last. subst (Adds a d ns ls cs es) parts (adds_more a b d ns ms ls cs ds es (x ∷ []) ys c.in_ok-compile_term-in-Call.ensures.adds last));
      marks = both_ok c.compile_all.result (Adds b d ms ls ds es ys) (AddsMarks ls ds es vs) (AddsMarks ls cs es (marked_below (marked_of c.args.term.now)))
          c.compile_all.ensures.adds c.compile_all.ensures.marks
          (λ last here. subst (AddsMarks ls cs es) all (marks_more ms ls cs ds es (one_marked u) vs last.grows c.in_ok-compile_term-in-Call.ensures.marks here));
    }

pub put_node-returns-clause-adds : goal.put_node-returns-clause-adds
put_node-returns-clause-adds t c =
    let a : Body = body_of c.args.scope.now c.args.uses.now.items in
    let b : Body = body_of c.args.scope.now c.compile_below.new.uses.items in
    let ns : List Node = c.args.nodes.now.items in
    let ms : List Node = c.compile_below.new.nodes.items in
    let row = c.compile_below.new.children in
    let k = c.in_ok-kind.kind in
    let u : Tree = tree_of c.args.term.now in
    subst (λ (x : Tree). Adds a b ns c.put.new.nodes.items c.args.children.now.items c.put.new.children.items (x ∷ [])) (whole u (kind_head k) c.in_ok-kind.ensures.head)
    (node_added a b ns ms c.put.new.nodes.items c.args.children.now.items c.put.new.children.items k row (parts_of u)
    (row_of a b ns ms c.new-below.result.items row.items (parts_of u) c.new-below.ensures.items c.in_ok-compile_below.ensures.adds)
    (plain_node (names_of c.args.scope.now) u k c.in_ok-kind.ensures.plain c.in_ok-kind.ensures.head c.requires.closed) c.in_ok-put.ensures.node c.in_ok-put.ensures.child)

pub put_node-returns-clause-marks : goal.put_node-returns-clause-marks
put_node-returns-clause-marks t c =
    let ms : List Node = c.compile_below.new.nodes.items in
    let row = c.compile_below.new.children in
    let u : Marked = marked_of c.args.term.now in
    node_marks ms c.put.new.nodes.items c.args.children.now.items c.put.new.children.items u c.in_ok-put.ensures.node c.in_ok-kind.ensures.plain
    (marks_row ms c.new-below.result.items row.items (marked_below u) c.new-below.ensures.items c.in_ok-compile_below.ensures.marks) (ap (λ (m : MarkShape). m.at) c.mark_of.ensures.mark) c.in_ok-put.ensures.child

pub put_node-returns-clause-ends : goal.put_node-returns-clause-ends
put_node-returns-clause-ends t c =
    ends_put c.compile_below.new.nodes.items c.put.new.nodes.items c.in_ok-put.ensures.node.node c.args.children.now.items c.put.new.children.items c.in_ok-put.ensures.node.pushed c.in_ok-put.ensures.child

pub put_let-returns-clause-adds : goal.put_let-returns-clause-adds
put_let-returns-clause-adds t c = λ vs ns x row.
    let a : Body = body_of c.args.scope.now vs.items in
    let b : Body = body_of c.args.scope.now c.args.uses.now.items in
    let f : Body = body_of c.args.scope.now c.compile_term.new.uses.items in
    let below = c.compile_term.new.children in
    let ls : List Node = c.compile_term.new.nodes.items in
    let name : Text = c.args.name.now in
    let size : length c.args.scope.now.bound.now ≡ length (environment c.args.scope.now.bound.now) = sym (map_length (λ (e : Bor Text × ℕ). (e.0.now, e.1)) c.args.scope.now.bound.now) in
    let bound : environment c.deref.result.now ≡ (name, length b.captured + length b.bound) ∷ b.bound =
    ap environment c.deref.ensures.value ∙ c.in_ok-bound.ensures.bound ∙ ap (λ (k : ℕ). (name, length b.captured + k) ∷ b.bound) size in
    let same : SameScope a f = record { captured = refl; bound = refl } in
    let pushed : IsPut ls c.put.new.nodes.items (kind.Let name) below c.args.at = subst (λ (w : Text). IsPut ls c.put.new.nodes.items (kind.Let w) below c.args.at) c.in_ok-copy.ensures.word c.in_ok-put.ensures.node in
    let_added a b b _ _ ns.items c.args.nodes.now.items ls c.put.new.nodes.items c.args.children.now.items c.put.new.children.items name below c.args.below.items x (tree_of c.args.last.now)
    row (same_self b) refl refl bound refl f c.in_ok-compile_term.ensures.adds same refl pushed c.in_ok-put.ensures.child

pub put_let-returns-clause-marks : goal.put_let-returns-clause-marks
put_let-returns-clause-marks t c = λ m x at row.
    let u : Marked = marked_of c.args.last.now in
    let_marks c.args.nodes.now.items c.compile_term.new.nodes.items c.put.new.nodes.items c.args.children.now.items c.put.new.children.items c.args.below.items
    (marked (term.Let c.args.name.now) m (two_marked x u)) x u c.in_ok-compile_term.ensures.adds.grows row c.in_ok-compile_term.ensures.marks c.in_ok-put.ensures.node refl (sym at) c.in_ok-put.ensures.child

pub put_let-returns-clause-ends : goal.put_let-returns-clause-ends
put_let-returns-clause-ends t c =
    ends_put c.compile_term.new.nodes.items c.put.new.nodes.items c.in_ok-put.ensures.node.node c.args.children.now.items c.put.new.children.items c.in_ok-put.ensures.node.pushed c.in_ok-put.ensures.child

pub put_object-returns-clause-adds : goal.put_object-returns-clause-adds
put_object-returns-clause-adds t c = λ vs ns ts row size.
    let a : Body = body_of c.args.scope.now vs.items in
    let b : Body = body_of c.args.scope.now c.args.uses.now.items in
    let d : Body = body_of c.args.scope.now c.compile_methods.new.uses.items in
    let ms : List Node = c.args.nodes.now.items in
    let ls : List Node = c.compile_methods.new.nodes.items in
    let k = c.in_ok-class.class in
    let labels : List Text = map text_of c.args.fields.items in
    let heads : List MethodHead = map method_head c.args.methods.now in
    let us : List Tree = map body_tree c.args.methods.now in
    let fields_are : k.value.fields.items ≡ c.args.fields.items = ap (λ (x : Class). x.fields.items) c.in_ok-class.ensures.ok ∙ (λ i. (c.in_ok-made.ensures.fields i).items) in
    let methods_are : k.value.methods.items ≡ c.in_ok-methods.methods.items = ap (λ (x : Class). x.methods.items) c.in_ok-class.ensures.ok ∙ (λ i. (c.in_ok-made.ensures.methods i).items) in
    let start_is : c.len.result ≡ length c.args.fields.items = search (rules, c.len.ensures) in
    object_added a b d ns.items ms ls c.put.new.nodes.items c.args.children.now.items c.put.new.children.items c.args.below k c.len.result labels heads ts us row
    (subst (λ (codes : List MethodCode). AddsMethods b d ms ls c.len.result codes heads us) (sym methods_are) c.in_ok-methods.ensures.adds)
    (ap (map text_of) fields_are) (map_length text_of c.args.fields.items ∙ sym size) (start_is ∙ sym (ap length fields_are)) c.in_ok-put.ensures.node c.in_ok-put.ensures.child

pub put_object-returns-clause-marks : goal.put_object-returns-clause-marks
put_object-returns-clause-marks t c = λ h m ts at row.
    let ls : List Node = c.compile_methods.new.nodes.items in
    let us : List Marked = map body_marked c.args.methods.now in
    let k = c.in_ok-class.class in
    let methods_are : k.value.methods.items ≡ c.in_ok-methods.methods.items = ap (λ (x : Class). x.methods.items) c.in_ok-class.ensures.ok ∙ (λ i. (c.in_ok-made.ensures.methods i).items) in
    object_marks c.args.nodes.now.items ls c.put.new.nodes.items c.args.children.now.items c.put.new.children.items (marked h m (all_marked (ts ++ us))) ts us
    c.in_ok-methods.ensures.adds.grows row (subst (λ (l : List MethodCode). HaveMarks ls (method_bodies l) (all_marked us)) (sym methods_are) c.in_ok-methods.ensures.marks)
    c.in_ok-put.ensures.node refl (sym at) c.in_ok-put.ensures.child

pub put_object-returns-clause-ends : goal.put_object-returns-clause-ends
put_object-returns-clause-ends t c =
    ends_put c.compile_methods.new.nodes.items c.put.new.nodes.items c.in_ok-put.ensures.node.node c.args.children.now.items c.put.new.children.items c.in_ok-put.ensures.node.pushed c.in_ok-put.ensures.child

pub compile_all-loop-term-preserved : goal.compile_all-loop-term-preserved
compile_all-loop-term-preserved t c =
    let a : Body = body_of c.args.scope.now c.args.uses.now.items in
    let b : Body = body_of c.args.scope.now c.loop-term.uses.items in
    let d : Body = body_of c.args.scope.now c.compile_term.new.uses.items in
    let ns : List Node = c.args.nodes.now.items in
    let ms : List Node = c.loop-term.nodes.items in
    let ls : List Node = c.compile_term.new.nodes.items in
    let cs : List Child = c.args.children.now.items in
    let ds : List Child = c.loop-term.children.items in
    let es : List Child = c.compile_term.new.children.items in
    let i : ℕ = c.loop-term.term-index in
    let x = c.term-item.result in
    let old : List Tree = map tree_of (take i c.args.terms.now) in
    record {
      adds = subst (Adds a d ns ls cs es) (map_step tree_of c.args.terms.now i x c.loop-term-test.true c.term-item.is) (adds_more a b d ns ms ls cs ds es old (tree_of x ∷ []) c.loop-term.invariant.adds c.in_ok-compile_term.ensures.adds);
      marks = marks_step marked_of c.args.terms.now i x ms ls cs ds es c.loop-term-test.true c.term-item.is c.in_ok-compile_term.ensures.adds.grows c.loop-term.invariant.marks c.in_ok-compile_term.ensures.marks;
    }

pub compile_fields-loop-term-preserved : goal.compile_fields-loop-term-preserved
compile_fields-loop-term-preserved t c =
    let a : Body = body_of c.args.scope.now c.args.uses.now.items in
    let b : Body = body_of c.args.scope.now c.loop-term.uses.items in
    let d : Body = body_of c.args.scope.now c.compile_term.new.uses.items in
    let ns : List Node = c.args.nodes.now.items in
    let ms : List Node = c.loop-term.nodes.items in
    let ls : List Node = c.compile_term.new.nodes.items in
    let cs : List Child = c.args.children.now.items in
    let ds : List Child = c.loop-term.children.items in
    let es : List Child = c.compile_term.new.children.items in
    let i : ℕ = c.loop-term.term-index in
    let x = c.loop-term-item.result in
    let old : List Tree = map field_tree (take i c.args.fields.now) in
    record {
      adds = subst (Adds a d ns ls cs es) (map_step field_tree c.args.fields.now i x c.loop-term-test.true c.loop-term-item.is) (adds_more a b d ns ms ls cs ds es old (field_tree x ∷ []) c.loop-term.invariant.adds c.in_ok-compile_term.ensures.adds);
      marks = marks_step field_marked c.args.fields.now i x ms ls cs ds es c.loop-term-test.true c.loop-term-item.is c.in_ok-compile_term.ensures.adds.grows c.loop-term.invariant.marks c.in_ok-compile_term.ensures.marks;
    }

pub compile_all-compile_term-requires : goal.compile_all-compile_term-requires
compile_all-compile_term-requires t c =
    let x = c.term-item.result in
    (omega (arith, c.decreases, term_size_at c.args.terms.now c.loop-term.term-index x c.loop-term-test.true c.term-item.is), closed_at tree_of (names_of c.args.scope.now) c.args.terms.now c.loop-term.term-index x c.loop-term-test.true c.term-item.is c.requires.closed)

pub compile_fields-compile_term-requires : goal.compile_fields-compile_term-requires
compile_fields-compile_term-requires t c =
    let x = c.loop-term-item.result in
    (omega (arith, c.decreases, field_size_at c.args.fields.now c.loop-term.term-index x c.loop-term-test.true c.loop-term-item.is), field_at (names_of c.args.scope.now) c.args.fields.now c.loop-term.term-index x c.loop-term-test.true c.loop-term-item.is c.requires.closed)

pub compile_methods-compile_method-requires : goal.compile_methods-compile_method-requires
compile_methods-compile_method-requires t c =
    let x = c.method-item.result in
    (omega (arith, c.decreases, method_size_at c.args.methods.now c.loop-method.method-index x c.loop-method-test.true c.method-item.is), method_at (names_of c.args.scope.now) c.args.methods.now c.loop-method.method-index x c.loop-method-test.true c.method-item.is c.requires.closed)

pub compile_methods-loop-method-preserved : goal.compile_methods-loop-method-preserved
compile_methods-loop-method-preserved t c =
    let a : Body = body_of c.args.scope.now c.args.uses.now.items in
    let b : Body = body_of c.args.scope.now c.loop-method.uses.items in
    let d : Body = body_of c.args.scope.now c.compile_method.new.uses.items in
    let ns : List Node = c.args.nodes.now.items in
    let ms : List Node = c.loop-method.nodes.items in
    let ls : List Node = c.compile_method.new.nodes.items in
    let i : ℕ = c.loop-method.method-index in
    let m = c.method-item.result in
    let code : MethodCode = c.in_ok-code.code in
    let codes : List MethodCode = c.loop-method.codes.items in
    let old = take i c.args.methods.now in
    let all : AddsMethods a d ns ls c.args.first (codes ++ code ∷ []) (map method_head old ++ method_head m ∷ []) (map body_tree old ++ body_tree m ∷ []) =
    methods_more a b d ns ms ls c.args.first c.loop-method.start codes (code ∷ []) (map method_head old) (method_head m ∷ []) (map body_tree old) (body_tree m ∷ []) c.loop-method.invariant.adds c.in_ok-code.ensures.adds c.loop-method.invariant.next in
    let hs : map method_head old ++ method_head m ∷ [] ≡ map method_head (take (i + 1) c.args.methods.now) = map_step method_head c.args.methods.now i m c.loop-method-test.true c.method-item.is in
    let ts : map body_tree old ++ body_tree m ∷ [] ≡ map body_tree (take (i + 1) c.args.methods.now) = map_step body_tree c.args.methods.now i m c.loop-method-test.true c.method-item.is in
    let pushed : codes ++ code ∷ [] ≡ c.push.new.self.items = sym c.in_ok-push.ensures.items in
    let counted : captured_count (codes ++ code ∷ []) ≡ captured_count codes + (length code.captured.items + 0) = count_append codes (code ∷ []) in
    let step : c.in_ok-start.start ≡ c.loop-method.start + length code.captured.items = c.in_ok-start.ensures.next in
    let begin : c.loop-method.start ≡ c.args.first + captured_count codes = c.loop-method.invariant.next in
    let sum : c.in_ok-start.start ≡ c.args.first + captured_count (codes ++ code ∷ []) = omega (arith, counted, step, begin) in
    record {
      adds = subst (λ (ks : List MethodCode). AddsMethods a d ns ls c.args.first ks (map method_head (take (i + 1) c.args.methods.now)) (map body_tree (take (i + 1) c.args.methods.now))) pushed
          (subst (λ (us : List Tree). AddsMethods a d ns ls c.args.first (codes ++ code ∷ []) (map method_head (take (i + 1) c.args.methods.now)) us) ts (subst (λ (h : List MethodHead). AddsMethods a d ns ls c.args.first (codes ++ code ∷ []) h (map body_tree old ++ body_tree m ∷ [])) hs all));
      next = sum ∙ ap (λ (ks : List MethodCode). c.args.first + captured_count ks) pushed;
      marks = subst (λ (ks : List MethodCode). HaveMarks ls (method_bodies ks) (all_marked (map body_marked (take (i + 1) c.args.methods.now)))) pushed
          (bodies_step body_marked c.args.methods.now i m ms ls codes code c.loop-method-test.true c.method-item.is c.in_ok-code.ensures.adds.grows c.loop-method.invariant.marks c.in_ok-code.ensures.marks);
    }

pub compile_method-compile_body-requires : goal.compile_method-compile_body-requires
compile_method-compile_body-requires t c =
    let m = c.args.method.now in
    let head : List Text = bound_in m in
    let found : List Text = free_in head [] (body_tree m) in
    let closed : IsClosed (head ++ found) (body_tree m) = body_closed head (names_of c.args.scope.now) (body_tree m) c.requires.closed in
    let captured : c.deref-2.result.now ≡ found = c.deref-2.ensures.value ∙ c.in_ok-captured.ensures.captured in
    let bound : names (environment c.deref-3.result.now) ≡ head = ap (λ l. names (environment l)) c.deref-3.ensures.value ∙ ap names c.in_ok-bound.ensures.slots ∙ names_slots (length c.deref.result.now) head in
    (omega (arith, c.decreases), subst (λ (l : List Text). IsClosed l (body_tree m)) (λ i. sym bound i ++ sym captured i) closed)

pub compile_method-end_method-requires : goal.compile_method-end_method-requires
compile_method-end_method-requires t c =
    let m = c.args.method.now in
    record { among = subst (AreAmong (names_of c.args.scope.now)) (sym c.in_ok-captured.ensures.captured) (captured_among (bound_in m) (names_of c.args.scope.now) (body_tree m) c.requires.closed) }

pub compile_method-returns : goal.compile_method-returns
compile_method-returns t c =
    let m = c.args.method.now in
    let head : MethodHead = method_head m in
    let a : Body = body_of c.args.scope.now c.args.uses.now.items in
    let b : Body = body_of c.args.scope.now c.end_method.new.uses.items in
    let inner : Body = record { captured = c.deref-2.result.now; bound = environment c.deref-3.result.now; uses = c.new-inner_uses.result.items } in
    let after : Body = record { captured = c.deref-2.result.now; bound = environment c.deref-3.result.now; uses = c.compile_body.new.uses.items } in
    let ns : List Node = c.args.nodes.now.items in
    let ms : List Node = c.compile_body.new.nodes.items in
    let code : Child = c.in_ok-code.code in
    let same_captured : c.deref.result.now ≡ c.deref-2.result.now = c.deref.ensures.value ∙ sym c.deref-2.ensures.value in
    let slots : inner.bound ≡ slots_from (length inner.captured) (bound_in m) = ap environment c.deref-3.ensures.value ∙ c.in_ok-bound.ensures.slots ∙ ap (λ (l : List Text). slots_from (length l) (bound_in m)) same_captured in
    record {
      adds = if_ok c.end_method.result (IsMethod a b c.in_ok-captured.captured.items c.compile_body.new.uses.items c.args.start head code) (λ (r : MethodCode). AddsMethods a b ns ms c.args.start (r ∷ []) (head ∷ []) (body_tree m ∷ [])) c.end_method.ensures.made
          (λ r made. method_added a b inner after ns ms c.args.start head code r (body_tree m) slots c.new-inner_uses.ensures.items c.in_ok-code.ensures.adds
          (subst (λ (l : List Text). IsMethod a b l c.compile_body.new.uses.items c.args.start head code r) (sym c.deref-2.ensures.value) made));
      marks = if_ok c.end_method.result (IsMethod a b c.in_ok-captured.captured.items c.compile_body.new.uses.items c.args.start head code) (λ (r : MethodCode). HasMarks ms r.body (body_marked m)) c.end_method.ensures.made
          (λ r made. subst (λ (d : Child). HasMarks ms d (body_marked m)) (sym made.code_is) c.in_ok-code.ensures.marks);
    }

pub compile_body-only_child-requires : goal.compile_body-only_child-requires
compile_body-only_child-requires t c =
    let a : Body = body_of c.args.scope.now c.args.uses.now.items in
    let b : Body = body_of c.args.scope.now c.compile_term.new.uses.items in
    record { one = one_child_long a b c.args.nodes.now.items c.compile_term.new.nodes.items c.new-children.result.items c.compile_term.new.children.items (body_tree c.args.method.now) c.new-children.ensures.items c.in_ok-compile_term.ensures.adds }

pub compile_body-returns : goal.compile_body-returns
compile_body-returns t c =
    let a : Body = body_of c.args.scope.now c.args.uses.now.items in
    let b : Body = body_of c.args.scope.now c.compile_term.new.uses.items in
    let ns : List Node = c.args.nodes.now.items in
    let ms : List Node = c.compile_term.new.nodes.items in
    let ts : List Tree = body_tree c.args.method.now ∷ [] in
    record {
      adds = subst (λ (l : List Child). Adds a b ns ms [] l ts) c.only_child.ensures.child (row_of a b ns ms c.new-children.result.items c.compile_term.new.children.items ts c.new-children.ensures.items c.in_ok-compile_term.ensures.adds);
      marks = only_marks ms c.new-children.result.items c.compile_term.new.children.items c.only_child.result (body_marked c.args.method.now) c.new-children.ensures.items c.only_child.ensures.child c.in_ok-compile_term.ensures.marks;
    }

pub compile_term-compile_fields-requires : goal.compile_term-compile_fields-requires
compile_term-compile_fields-requires t c = (omega (arith, c.decreases, fields_size c.args.term.now c.deref-in-Make.result.now c.in-Make.fields c.in-Make.methods c.in-Make.mark c.deref-in-Make.ensures.value c.in-Make.is), fields_closed (names_of c.args.scope.now) c.args.term.now c.deref-in-Make.result.now c.in-Make.fields c.in-Make.methods c.in-Make.mark c.deref-in-Make.ensures.value c.in-Make.is c.requires.closed)

pub compile_term-put_object-requires : goal.compile_term-put_object-requires
compile_term-put_object-requires t c = (omega (arith, c.decreases, methods_size c.args.term.now c.deref-in-Make-2.result.now c.in-Make.fields c.in-Make.methods c.in-Make.mark c.deref-in-Make-2.ensures.value c.in-Make.is), methods_closed (names_of c.args.scope.now) c.args.term.now c.deref-in-Make-2.result.now c.in-Make.fields c.in-Make.methods c.in-Make.mark c.deref-in-Make-2.ensures.value c.in-Make.is c.requires.closed)

pub compile_term-returns-in_ok-compile_fields-in-Make-clause-adds : goal.compile_term-returns-in_ok-compile_fields-in-Make-clause-adds
compile_term-returns-in_ok-compile_fields-in-Make-clause-adds t c =
    let a : Body = body_of c.args.scope.now c.args.uses.now.items in
    let ns : List Node = c.args.nodes.now.items in
    let cs : List Child = c.args.children.now.items in
    let fs : List (Label × Term) = c.deref-in-Make.result.now in
    let ms : List Method = c.deref-in-Make-2.result.now in
    let ls : List Text = map text_of c.in_ok-labels-in-Make.labels.items in
    let labels : ls ≡ map field_label c.in-Make.fields.items = c.in_ok-labels-in-Make.ensures.labels ∙ ap (map field_label) c.deref.ensures.value in
    let is : node (term.Make ls (map method_head ms)) (trees (map field_tree fs ++ map body_tree ms)) ≡ tree_of c.args.term.now =
    (λ i. node (term.Make (labels i) (map method_head (c.deref-in-Make-2.ensures.value i))) (trees (map field_tree (c.deref-in-Make.ensures.value i) ++ map body_tree (c.deref-in-Make-2.ensures.value i))))
    ∙ sym (ap tree_of c.in-Make.is ∙ make_is c.in-Make.fields c.in-Make.methods c.in-Make.mark) in
    let size : length (map field_tree fs) ≡ length c.in_ok-labels-in-Make.labels.items =
    map_length field_tree fs ∙ ap length c.deref-in-Make.ensures.value ∙ sym (map_length field_label c.in-Make.fields.items) ∙ sym (ap length labels) ∙ map_length text_of c.in_ok-labels-in-Make.labels.items in
    let row : Adds a (body_of c.args.scope.now c.compile_fields.new.uses.items) ns c.compile_fields.new.nodes.items [] c.compile_fields.new.children.items (map field_tree fs) =
    row_of a (body_of c.args.scope.now c.compile_fields.new.uses.items) ns c.compile_fields.new.nodes.items c.new-below.result.items c.compile_fields.new.children.items (map field_tree fs) c.new-below.ensures.items c.in_ok-compile_fields-in-Make.ensures.adds in
    subst (λ (u : Tree). OnOk c.put_object.result (Adds a (body_of c.args.scope.now c.put_object.new.uses.items) ns c.put_object.new.nodes.items cs c.put_object.new.children.items (u ∷ []))) is
    (c.put_object.ensures.adds c.args.uses.now c.args.nodes.now (map field_tree fs) row size)

pub compile_term-returns-in_ok-compile_fields-in-Make-clause-marks : goal.compile_term-returns-in_ok-compile_fields-in-Make-clause-marks
compile_term-returns-in_ok-compile_fields-in-Make-clause-marks t c =
    let cs : List Child = c.args.children.now.items in
    let fs : List (Label × Term) = c.deref-in-Make.result.now in
    let ms : List Method = c.deref-in-Make-2.result.now in
    let hd : Head = term.Make (map field_label c.in-Make.fields.items) (map method_head c.in-Make.methods.items) in
    let mk : MarkShape = mark_shape c.in-Make.mark in
    let is : marked hd mk (all_marked (map field_marked fs ++ map body_marked ms)) ≡ marked_of c.args.term.now =
    (λ i. marked hd mk (all_marked (map field_marked (c.deref-in-Make.ensures.value i) ++ map body_marked (c.deref-in-Make-2.ensures.value i))))
    ∙ sym (ap marked_of c.in-Make.is ∙ make_marked c.in-Make.fields c.in-Make.methods c.in-Make.mark) in
    let row : AddsMarks c.compile_fields.new.nodes.items [] c.compile_fields.new.children.items (all_marked (map field_marked fs)) =
    marks_row c.compile_fields.new.nodes.items c.new-below.result.items c.compile_fields.new.children.items (all_marked (map field_marked fs)) c.new-below.ensures.items c.in_ok-compile_fields-in-Make.ensures.marks in
    subst (λ (u : Marked). OnOk c.put_object.result (AddsMarks c.put_object.new.nodes.items cs c.put_object.new.children.items (one_marked u))) is
    (c.put_object.ensures.marks hd mk (map field_marked fs) refl row)
