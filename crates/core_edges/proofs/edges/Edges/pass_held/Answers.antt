use Rattle.std.proofs.Common.{◌≡◌, [], sym, ap, ◌∙◌, subst}
use Rattle.std.specs.Bool.{OnFalse}
use Rattle.std.specs.Option.{option_copied}
use Rattle.asp_model.specs.Shapes.{future_shape}
use Rattle.core_edges.specs.Passing.{futures_held}
use Rattle.core_edges.proofs.PassingLemmas.{no_future_passed, no_home_passed}
use Rattle.core_edges.proofs.edges.Edges.pass_held.Goals as goal

pub returns-in-None : goal.returns-in-None
returns-in-None g c = record {
  passed = no_home_passed g.P.UpdatePolicy.answer g.P.UpdatePolicy.asked (future_shape c.args.future.now) (futures_held c.args.value.now.cells.items) c.args.by.now c.args.self.now (sym c.home.ensures.home ∙ ap option_copied c.in-None.is);
}

pub returns-then-not-holds_futures : goal.returns-then-not-holds_futures
returns-then-not-holds_futures g c =
    let held = futures_held c.args.value.now.cells.items in
    record {
      passed = no_future_passed g.P.UpdatePolicy.answer g.P.UpdatePolicy.asked (future_shape c.args.future.now) held c.args.by.now c.args.self.now (subst (λ b. OnFalse b (held ≡ [])) c.if-not-holds_futures.true
          c.holds_futures.ensures.none);
    }
