use Rattle.std.proofs.Common.{ap, ◌∙◌}
use Rattle.asp_model.specs.Intent.{StatusShape}
use Rattle.def_paths.specs.Snapshots.{result_in}
use Rattle.state_lines.proofs.views.state_of.Goals as goal

pub returns : goal.returns
returns c = record {
  state = λ o e futures s status. record {
    state = record {
      store = s.store;
      active = s.active;
      result = c.result.ensures.result c.args.code.now e.snapshot s ∙ ap (λ (x : StatusShape). result_in x e.snapshot.term) status;
    };
    term = s.term;
    futures = futures;
  };
}
