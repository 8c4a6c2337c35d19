use Rattle.std.proofs.Common.{◌∙◌, ℕ, ap}
use Rattle.std.specs.Arc.{arc_value}
use Rattle.asp_model.specs.Contraction.{members_of}
use Rattle.asp_model.specs.Store.{Store, cell}
use Rattle.code_table.specs.Shapes.{store_of}
use Rattle.step_reads.proofs.fetching.members_at.Goals as goal

pub returns : goal.returns
returns c = record {
  members = λ a h.
      let n : ℕ = c.args.place in
      c.in_ok-members.ensures.places ∙ c.members_of.ensures.members
      ∙ ap members_of (c.read.ensures.cell ∙ (λ i. cell (store_of ((c.deref.ensures ∙ ap arc_value c.code.ensures.code) i) (c.store.ensures.store i).cells) n) ∙ ap (λ (s : Store). cell s n) h.state.store);
}
