use Rattle.std.proofs.Common.{inr}
use Rattle.replay_one.proofs.telling.heard_place.Goals as goal

pub returns-then-hears_places : goal.returns-then-hears_places
returns-then-hears_places g c = record { place = λ k a n p has at. inr (c.mark.ensures.place k a n p has at) }
