use Rattle.std.proofs.Common.{ap, ◌∙◌, arith}
use Rattle.asp_model.specs.Contraction.{sizes_compared}
use Rattle.code_table.specs.Shapes.{store_of}
use Rattle.code_table.specs.Places.{placed}
use Rattle.step_rows.specs.Groups.{dealt}
use Rattle.step_rows.proofs.GroupLemmas.{differ}
use Rattle.step_rows.proofs.groups.dealt.Goals as goal

pub returns-else-len : goal.returns-else-len
returns-else-len c = record {
  row = λ k s l. ap (dealt (store_of k s) l c.args.other (placed c.args.members)) c.in-Members.is ∙ ap (sizes_compared (store_of k s)) (differ l (placed c.args.members) (placed c.in-Members.others) (λ e. omega (arith, e, c.len.ensures, c.len-in-Members.ensures, c.if-len.false)));
}
