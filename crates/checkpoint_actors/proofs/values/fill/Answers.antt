use Rattle.std.proofs.Common.{ap, length, ◌∙◌}
use Rattle.asp_model.specs.Parcel.{ParcelShape}
use Rattle.checkpoint_actors.proofs.ValueLemmas.{filled_by}
use Rattle.checkpoint_actors.proofs.values.fill.Goals as goal

pub fill-requires : goal.fill-requires
fill-requires c = record { absent = c.requires.absent; one_root = ap (λ (p : ParcelShape). length p.roots) c.in_ok-value.ensures.parcel ∙ c.requires.one_root }

pub returns : goal.returns
returns c = record { filled = filled_by _ c.args.value _ _ c.in_ok-value.value c.in_ok-fill.ensures.values c.in_ok-fill.ensures.code c.in_ok-value.ensures.parcel c.in_ok-value.ensures.code }
