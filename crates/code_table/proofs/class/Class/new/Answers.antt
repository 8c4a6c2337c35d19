use Rattle.std.proofs.Common.{◌≡◌, List, map, subst}
use Rattle.asp_model.specs.declared.word.Label.{Label}
use Rattle.code_table.specs.declared.code.MethodCode.{MethodCode}
use Rattle.code_table.specs.Keys.{text_key}
use Rattle.code_table.specs.Numbers.{HaveNumbers}
use Rattle.code_table.proofs.class.Class.new.Goals as goal

pub invariant_of-result : goal.invariant_of-result
invariant_of-result c = record {
  fields_keyed = subst (λ (xs : List Label). c.in_ok-field_keys.field_keys.items ≡ map (λ l. text_key l.text) xs) c.deref.ensures.value c.in_ok-field_keys.ensures.keys;
  methods_keyed = subst (λ (xs : List MethodCode). c.in_ok-method_keys.method_keys.items ≡ map (λ m. text_key m.label.text) xs) c.deref-2.ensures.value c.in_ok-method_keys.ensures.keys;
  fields_numbered = subst (λ (xs : List Label). HaveNumbers (map (λ l. l.text) xs) c.in_ok-field_numbers.field_numbers) c.deref-3.ensures.value c.in_ok-field_numbers.ensures.numbers;
  methods_numbered = subst (λ (xs : List MethodCode). HaveNumbers (map (λ m. m.label.text) xs) c.in_ok-method_numbers.method_numbers) c.deref-4.ensures.value c.in_ok-method_numbers.ensures.numbers;
}
