use Rattle.std.proofs.Common.{◌≡◌, ◌<◌, ℕ, List, ◌∷◌, Option, Some, None, length, get_or, take, drop, sym, ap, subst, ◌∙◌, arith}
use Rattle.asp_model.specs.Names.{Text}
use Rattle.asp_model.specs.Store.{Store}
use Rattle.asp_model.specs.Contraction.{call_row, method_at, method_found, invoked}
use Rattle.code_table.specs.declared.class.Class.{Class}
use Rattle.code_table.specs.declared.code.MethodCode.{MethodCode}
use Rattle.code_table.specs.declared.code.Node.{Node}
use Rattle.code_table.specs.Classes.{class_at, seen_class, method_number}
use Rattle.code_table.specs.Sound.{IsSoundMethod}
use Rattle.code_table.specs.Tables.{head_of, labels_of, pieces, placed_method, seen_methods, with_places}
use Rattle.code_table.specs.Fitting.{head_names}
use Rattle.code_table.proofs.LookupLemmas as lookup
use Rattle.code_laws.proofs.BodyLemmas.{unbound}
use Rattle.code_table.specs.Shapes.{class_object, store_of}
use Rattle.code_table.specs.Places.{placed}
use Rattle.step_rows.specs.Decisions.{read}
use Rattle.step_rows.proofs.calls.method_in.Goals as goal

pub returns-in_default-method_keyed : goal.returns-in_default-method_keyed
returns-in_default-method_keyed c = record {
  callee = λ s.
      let k : List Node = c.args.code.now in
      let ns : List ℕ = placed c.args.object.places in
      let l : Text = c.args.label.now.label.text in
      let x : Class = c.in-Some.class.now in
      let S : Store = store_of k s in
      let i : ℕ = c.args.at in
      let ks : List ℕ = c.args.arguments.now in
      let here : class_at k c.args.object.class ≡ Some x = sym c.class.ensures.class ∙ ap seen_class c.in-Some.is in
      let none : method_number l x ≡ None = sym c.method_keyed.ensures.number ∙ c.in_default-method_keyed.is in
      ap (λ (o : Option Class). read i (call_row S l i ks) (class_object k ns o)) here
      ∙ ap (method_found S i ks) (lookup.method_missing l (pieces k) x (drop (length x.fields.items) ns) none);
}

pub returns-then-arguments-len : goal.returns-then-arguments-len
returns-then-arguments-len c = record {
  callee = λ s.
      let k : List Node = c.args.code.now in
      let ns : List ℕ = placed c.args.object.places in
      let l : Text = c.args.label.now.label.text in
      let x : Class = c.in-Some.class.now in
      let S : Store = store_of k s in
      let i : ℕ = c.args.at in
      let ks : List ℕ = c.args.arguments.now in
      let here : class_at k c.args.object.class ≡ Some x = sym c.class.ensures.class ∙ ap seen_class c.in-Some.is in
      let j : ℕ = c.in-Some-method_keyed.number in
      let is : method_number l x ≡ Some j = sym c.method_keyed.ensures.number ∙ c.in-Some-method_keyed.is in
      let look = c.in-Some-get.ensures.lookup.3 in
      let m : MethodCode = c.in-Some-get.method.now in
      let m_is : m ≡ get_or x.methods.items j m = subst (λ (ms : List MethodCode). m ≡ get_or ms j m) c.deref.ensures.value (look.1 m) in
      let found : method_at l (seen_methods (pieces k) x.methods.items (drop (length x.fields.items) ns)) ≡ Some (placed_method (pieces k) m ns) =
      lookup.method_found l (pieces k) x m ns j (c.in-Some.ensures.starts) is ∙ ap (λ (y : MethodCode). Some (placed_method (pieces k) y ns)) (sym m_is) in
      let differs : length (head_names (head_of m)) ≡ length (i ∷ ks) → ⊥ = λ e. let less : length m.parameters.items ≡ length ks = omega (arith, e) in omega (arith, less, c.len.ensures, c.if-arguments-len.true) in
      ap (λ (o : Option Class). read i (call_row S l i ks) (class_object k ns o)) here
      ∙ ap (method_found S i ks) found ∙ ap (invoked S (placed_method (pieces k) m ns).body) (unbound (head_names (head_of m)) (i ∷ ks) differs);
}

pub returns : goal.returns
returns c =
    let k : List Node = c.args.code.now in
    let ns : List ℕ = placed c.args.object.places in
    let l : Text = c.args.label.now.label.text in
    let x : Class = c.in-Some.class.now in
    let ks : List ℕ = c.args.arguments.now in
    let here : class_at k c.args.object.class ≡ Some x = sym c.class.ensures.class ∙ ap seen_class c.in-Some.is in
    let j : ℕ = c.in-Some-method_keyed.number in
    let is : method_number l x ≡ Some j = sym c.method_keyed.ensures.number ∙ c.in-Some-method_keyed.is in
    let look = c.in-Some-get.ensures.lookup.3 in
    let m : MethodCode = c.in-Some-get.method.now in
    let lt : j < length x.methods.items = subst (λ (ms : List MethodCode). j < length ms) c.deref.ensures.value look.0 in
    let m_is : m ≡ get_or x.methods.items j m = subst (λ (ms : List MethodCode). m ≡ get_or ms j m) c.deref.ensures.value (look.1 m) in
    let found : method_at l (seen_methods (pieces k) x.methods.items (drop (length x.fields.items) ns)) ≡ Some (placed_method (pieces k) m ns) =
    lookup.method_found l (pieces k) x m ns j (c.in-Some.ensures.starts) is ∙ ap (λ (y : MethodCode). Some (placed_method (pieces k) y ns)) (sym m_is) in
    let cs : List ℕ = placed c.in-Some-captured_in.captured in
    let cs_is : cs ≡ take (length m.captured.items) (drop m.start ns) = c.in-Some-captured_in.ensures.places in
    let sound : IsSoundMethod (pieces k) m = subst (IsSoundMethod (pieces k)) (sym m_is) (lookup.sound_method_at (pieces k) x.methods.items j m lt c.in-Some.ensures.sound) in
    record {
      callee = record {
        fields = Rattle.asp_model.specs.Contraction.fields_at (labels_of x) ns;
        methods = seen_methods (pieces k) x.methods.items (drop (length x.fields.items) ns);
        cell_is = ap (class_object k ns) here;
        found = found ∙ ap (λ (l : List ℕ). Some (with_places (pieces k) m l)) (sym cs_is);
        sound = sound;
        size = c.in-Some-captured_in.ensures.size;
        arity = omega (arith, c.len.ensures, c.if-arguments-len.false);
      };
    }
