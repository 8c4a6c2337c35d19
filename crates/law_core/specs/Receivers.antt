-- What a delivery makes of its receiver's rank.
use Rattle.std.specs.Prelude.{◌≡◌, ◌≢◌, ℕ}
use Rattle.asp_model.specs.Names.{Name, FutureShape}
use Rattle.asp_model.specs.Configuration.{Configuration}
use Rattle.law_steps.specs.Reached.{Edges, Makes, Needs}
use Rattle.law_paths.specs.Whole.{IsWhole}
use Rattle.core_ranks.specs.Ranks.{HasNeed}
use Rattle.law_core.specs.Ranked.{rank_in}

-- a delivery along an edge leaves the rank of its receiver, if no value was owed to it
abbrev pub DeliveriesKeepRank : Type 0
DeliveriesKeepRank = (c d : Configuration) (f : FutureShape) (to : Name) → IsWhole c → Makes (Edges f to) c d
    → rank_in c to ≢ HasNeed → rank_in d to ≡ rank_in c to

-- and so does a delivery at a place where the value is needed
abbrev pub NeedsKeepRank : Type 0
NeedsKeepRank = (c d : Configuration) (f : FutureShape) (to : Name) (place : ℕ) → IsWhole c
    → Makes (Needs f to place) c d → rank_in c to ≢ HasNeed → rank_in d to ≡ rank_in c to
