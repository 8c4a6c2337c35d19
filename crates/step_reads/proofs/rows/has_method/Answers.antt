use Rattle.std.proofs.Common.{rules, ◌≡◌, ◌==◌, ◌<◌, ◌∙◌, ℕ, List, Some, length, get_or, sym, ap, subst, arith}
use Rattle.code_table.specs.declared.class.Class.{Class}
use Rattle.code_table.specs.declared.code.MethodCode.{MethodCode}
use Rattle.code_table.specs.declared.code.Node.{Node}
use Rattle.code_table.specs.Classes.{class_at, method_number, seen_class}
use Rattle.code_table.proofs.LookupLemmas.{method_within}
use Rattle.std.proofs.lemmas.Bool.Decides.{nat_tests}
use Rattle.step_reads.specs.Faces.{has_count}
use Rattle.step_reads.proofs.LabelLemmas.{no_head, head_is}
use Rattle.code_table.specs.Places.{placed}
use Rattle.step_reads.proofs.rows.has_method.Goals as goal

pub returns-in_default-method : goal.returns-in_default-method
returns-in_default-method c = record {
  method =
      let k : List Node = c.args.code.now in
      let x : Class = c.in-Some.class.now in
      let here : class_at k c.args.object.class ≡ Some x = sym c.class.ensures.class ∙ ap seen_class c.in-Some.is in
      sym (ap (has_count c.args.count) (no_head k (placed c.args.object.places) (class_at k c.args.object.class) x here c.args.label.now.text (sym c.method.ensures.number ∙ c.in_default-method.is)));
}

pub returns-in-Some-get : goal.returns-in-Some-get
returns-in-Some-get c = record {
  method =
      let k : List Node = c.args.code.now in
      let x : Class = c.in-Some.class.now in
      let here : class_at k c.args.object.class ≡ Some x = sym c.class.ensures.class ∙ ap seen_class c.in-Some.is in
      let j : ℕ = c.in-Some-method.number in
      let is : method_number c.args.label.now.text x ≡ Some j = sym c.method.ensures.number ∙ c.in-Some-method.is in
      let m : MethodCode = c.in-Some-get.method.now in
      let m_is : m ≡ get_or x.methods.items j m = subst (λ (ms : List MethodCode). m ≡ get_or ms j m) c.deref.ensures.value (c.in-Some-get.ensures.lookup.3.1 m) in
      let size : c.len.result ≡ length m.parameters.items = search (rules, c.len.ensures) in
      ap (λ (n : ℕ). n == c.args.count) size
      ∙ sym (ap (has_count c.args.count) (head_is k (placed c.args.object.places) (class_at k c.args.object.class) x here c.args.label.now.text j m is c.in-Some.ensures.starts m_is));
}

pub returns-in-None : goal.returns-in-None
returns-in-None c = record {
  method =
      let x : Class = c.in-Some.class.now in
      let j : ℕ = c.in-Some-method.number in
      let is : method_number c.args.label.now.text x ≡ Some j = sym c.method.ensures.number ∙ c.in-Some-method.is in
      let within : j < length x.methods.items = method_within c.args.label.now.text x j is in
      let size : length c.deref.result.now ≡ length x.methods.items = ap length c.deref.ensures.value in
      absurd (grind (arith, nat_tests, within, size, c.in-None.ensures.lookup));
}
