use Rattle.std.proofs.Common.{sym, ap, ◌∙◌}
use Rattle.asp_model.specs.Contraction.{is_future}
use Rattle.code_table.specs.Cells.{coded}
use Rattle.code_table.specs.Shapes.{cell_of}
use Rattle.step_rows.specs.declared.seen.Seen.TheVariants as seen
use Rattle.step_rows.proofs.ReadLemmas.{cell_seen}
use Rattle.step_rows.proofs.GroupLemmas.{is_future_seen, past_future}
use Rattle.step_rows.proofs.groups.is_future_at.Goals as goal

pub returns-in_default : goal.returns-in_default
returns-in_default c = record { future = λ k. past_future k c.args.store.now.cells c.args.place c.in_default.ensures.none }

pub returns-in-Future : goal.returns-in-Future
returns-in-Future c = record {
  future = λ k.
      let d = coded c.in-Some.cell in
      sym (ap is_future (cell_seen k c.args.store.now.cells c.args.place d c.in-Some.ensures.cell) ∙ is_future_seen (cell_of k d) seen.Future (c.in-Future.ensures.seen k));
}

pub returns-in-Number : goal.returns-in-Number
returns-in-Number c = record {
  future = λ k.
      let d = coded c.in-Some.cell in
      sym (ap is_future (cell_seen k c.args.store.now.cells c.args.place d c.in-Some.ensures.cell) ∙ is_future_seen (cell_of k d) (seen.Number _) (c.in-Number.ensures.seen k));
}

pub returns-in-Other : goal.returns-in-Other
returns-in-Other c = record {
  future = λ k.
      let d = coded c.in-Some.cell in
      sym (ap is_future (cell_seen k c.args.store.now.cells c.args.place d c.in-Some.ensures.cell) ∙ is_future_seen (cell_of k d) seen.Other (c.in-Other.ensures.seen k));
}
