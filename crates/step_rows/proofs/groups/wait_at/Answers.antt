use Rattle.std.proofs.Common.{sym, ap, ◌∙◌}
use Rattle.asp_model.specs.Contraction.{stays_at}
use Rattle.asp_model.specs.Store.{Store}
use Rattle.code_table.specs.Shapes.{store_of}
use Rattle.step_rows.specs.Decisions.{needs_or}
use Rattle.step_rows.specs.Groups.{awaited}
use Rattle.step_rows.proofs.groups.wait_at.Goals as goal

pub returns-in-Some : goal.returns-in-Some
returns-in-Some c = record {
  row = λ k.
      let S : Store = store_of k c.args.store.now.cells in
      ap (awaited S c.args.at) c.in-Members.is ∙ ap (needs_or (stays_at c.args.at S)) (sym (c.first_future.ensures.first k) ∙ c.in-Some.is);
}

pub returns-in-None : goal.returns-in-None
returns-in-None c = record {
  row = λ k.
      let S : Store = store_of k c.args.store.now.cells in
      ap (awaited S c.args.at) c.in-Members.is ∙ ap (needs_or (stays_at c.args.at S)) (sym (c.first_future.ensures.first k) ∙ c.in-None.is);
}
