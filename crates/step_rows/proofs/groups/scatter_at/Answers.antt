use Rattle.std.proofs.Common.{sym, subst}
use Rattle.code_table.specs.Shapes.{store_of}
use Rattle.step_rows.specs.declared.groups.SeenGroup.{SeenGroup}
use Rattle.step_rows.specs.Groups.{IsScattering, scatters}
use Rattle.step_rows.proofs.groups.scatter_at.Goals as goal

pub returns-in-Members : goal.returns-in-Members
returns-in-Members c = record {
  row = λ k s l. subst (λ (x : SeenGroup). IsScattering k s l (scatters (store_of k s) l c.args.at c.args.other x c.args.second) c.dealt.result) (sym c.in-Members.is) (c.dealt.ensures.row k s l);
}
