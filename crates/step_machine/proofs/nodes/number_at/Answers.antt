use Rattle.std.proofs.Common.{rules, ◌≡◌, ◌∙◌, sym, ap, to_z, of_z, w64}
use Rattle.code_table.specs.declared.code.Kind.TheVariants as kind
use Rattle.step_machine.proofs.nodes.number_at.Goals as goal

pub returns-in-Number : goal.returns-in-Number
returns-in-Number c = record {
  number = λ sound.
      let same : to_z w64 (of_z w64 c.in-Number.value) ≡ c.in-Number.value = search rules in
      record { node = c.in-Some.node.now; is = c.in-Some.ensures.piece sound; number = c.in-Number.is ∙ ap (λ z. kind.Number z) (sym same) };
}
