use Rattle.std.proofs.Common.{sym}
use Rattle.std.specs.List.{take-map}
use Rattle.asp_model.specs.Shapes.{reception_shape}
use Rattle.replay_offers.proofs.logs.front.Goals as goal

pub returns-then-place-log : goal.returns-then-place-log
returns-then-place-log c = sym (take-map reception_shape c.args.place c.args.log.now)
