use Rattle.std.proofs.Common.{◌∙◌, sym, ap}
use Rattle.def_paths.specs.Places.{entered_by}
use Rattle.state_lines.specs.declared.seen.Seen.{Seen}
use Rattle.state_lines.specs.Sights.{seen_shape}
use Rattle.state_lines.specs.States.{side_in}
use Rattle.state_lines.proofs.sights.value_at.Goals as goal

pub returns-in-Future : goal.returns-in-Future
unfolding side_in
returns-in-Future c = record {
  value = c.value_of.ensures.value ∙ sym (ap (λ (s : Seen). entered_by (side_in c.args.state.now).values (seen_shape s)) c.in-Future.is);
}
