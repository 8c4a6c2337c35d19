use Rattle.std.proofs.Common.{◌≡◌, sym, ap, ◌∙◌, to_z, of_z, w64, rules}
use Rattle.asp_model.specs.Contraction.{member_row}
use Rattle.asp_model.specs.Store.{Store, Number, Group}
use Rattle.code_table.specs.Shapes.{store_of}
use Rattle.code_table.specs.Places.{placed}
use Rattle.step_rows.specs.Groups.{numbered}
use Rattle.step_rows.proofs.groups.numbered.Goals as goal

pub returns-in-Some : goal.returns-in-Some
returns-in-Some c = record {
  row = λ k s.
      let S : Store = store_of k s in
      let ns = placed c.args.members.now in
      let same : to_z w64 (of_z w64 c.in-Number.n) ≡ c.in-Number.n = search rules in
      ap (numbered S c.args.other ns) c.in-Number.is ∙ sym (ap (λ n. member_row S (Group ns) (Number n)) same) ∙ c.in-Some.ensures.member S;
}

pub returns-in-None : goal.returns-in-None
returns-in-None c = record {
  row = λ k s.
      let S : Store = store_of k s in
      let ns = placed c.args.members.now in
      let same : to_z w64 (of_z w64 c.in-Number.n) ≡ c.in-Number.n = search rules in
      ap (numbered S c.args.other ns) c.in-Number.is ∙ sym (ap (λ n. member_row S (Group ns) (Number n)) same) ∙ c.in-None.ensures.member S;
}
