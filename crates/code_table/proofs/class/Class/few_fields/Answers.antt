use Rattle.std.proofs.Common.{◌∙◌, arith}
use Rattle.code_table.proofs.KeyLemmas.{field_by_key}
use Rattle.code_table.proofs.class.Class.few_fields.Goals as goal

pub returns : goal.returns
returns c = record {
  number = c.number_by_key.ensures.number ∙ field_by_key c.args.self.now c.args.label.now c.deref.result.now c.deref.ensures.value (λ e. omega (arith, c.if-key-eq0.false, e));
}
