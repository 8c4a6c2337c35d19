use Rattle.std.proofs.Common.{rules, ◌≡◌, ◌∙◌, sym, ap, to_z, of_z, w64}
use Rattle.code_table.specs.declared.code.Kind.TheVariants as kind
use Rattle.code_table.specs.Tables.{pieces}
use Rattle.step_machine.proofs.machine.Machine.nested.Goals as goal

pub returns-in-Number : goal.returns-in-Number
returns-in-Number c = record {
  redex =
      let same : to_z w64 (of_z w64 c.in-Number.value) ≡ c.in-Number.value = search rules in
      c.in-Number.is ∙ ap (λ z. kind.Number z) (sym same);
}

pub returns-in-Get : goal.returns-in-Get
returns-in-Get c = record { redex = c.nested_get.ensures.redex c.args.nodes.now c.in-Get.is }

pub returns-in-Some : goal.returns-in-Some
returns-in-Some c = record { redex = c.nested_sign.ensures.redex c.in-Operate.is (c.in-Some.ensures.variable (pieces c.args.nodes.now)) }
