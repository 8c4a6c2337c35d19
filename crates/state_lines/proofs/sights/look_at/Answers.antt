use Rattle.std.proofs.Common.{◌∙◌, subst}
use Rattle.run_ends.specs.declared.entered.At.{At}
use Rattle.run_ends.specs.Reads.{IsAt}
use Rattle.state_lines.specs.States.{side_in}
use Rattle.state_lines.proofs.SightLemmas.{store_written}
use Rattle.state_lines.proofs.sights.look_at.Goals as goal

pub returns-in-Store : goal.returns-in-Store
returns-in-Store c = record {
  sees = λ p at. c.look.ensures.sees p (c.in_store.ensures.cell ∙ store_written c.args.state.now p c.in-Store.place (subst (λ (x : At). IsAt (side_in c.args.state.now) x p) c.in-Store.is at));
}
