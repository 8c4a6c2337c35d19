-- Where activities stand.
use Rattle.std.specs.Prelude.{◌≡◌, ◌≢◌, ℕ, Bool, true, false}
use Rattle.asp_model.specs.Names.{FutureShape, same_future}
use Rattle.asp_model.specs.Shapes.{future_shape}
use Rattle.core_ranks.specs.declared.rank.Rank.{Rank}
use Rattle.core_ranks.specs.declared.rank.Rank.TheVariants as rank
use Rattle.core_ranks.specs.declared.ranks.Ranks.{Ranks}
use Rattle.core_ranks.specs.Numbers.{has_number}
use Rattle.core_ranks.specs.Waiting.{numbers_at}

pub data RankShape : Type 0 where
  -- it can step
  Goes : RankShape
  -- a value is owed to it
  HasNeed : RankShape
  -- it can go on when this future is filled, and not before
  Waits : (f : FutureShape) → RankShape
  -- it awaits a future that leads round a cycle
  Circles : RankShape
  Rests : RankShape

abbrev pub rank_shape : Rank → RankShape
rank_shape rank.Goes = Goes
rank_shape rank.HasNeed = HasNeed
rank_shape (rank.Waits f) = Waits (future_shape f)
rank_shape rank.Circles = Circles
rank_shape rank.Rests = Rests

abbrev pub goes : RankShape → Bool
goes Goes = true
goes x = false

abbrev pub has_need : RankShape → Bool
has_need HasNeed = true
has_need x = false

abbrev pub waits_for : FutureShape → RankShape → Bool
waits_for f (Waits g) = same_future f g
waits_for f x = false

abbrev pub circles : RankShape → Bool
circles Circles = true
circles x = false

-- for a future without a value, or round a cycle
abbrev pub awaits : RankShape → Bool
awaits (Waits f) = true
awaits Circles = true
awaits x = false

-- the activity of a number stands so
pub record IsRanked (r : Ranks) (k : ℕ) (x : RankShape) : Type 0 where
  pub going : has_number k r.going.keys ≡ goes x
  pub needy : has_number k r.needy.keys ≡ has_need x
  pub waiting : (f : FutureShape) → has_number k (numbers_at r.waiting f) ≡ waits_for f x
  pub circling : has_number k r.circling.keys ≡ circles x

-- the others stand as before
abbrev pub OthersStay : ℕ → (old new : Ranks) → Type 0
OthersStay n old new = (k : ℕ) (x : RankShape) → k ≢ n → IsRanked old k x → IsRanked new k x

-- it does not step, and nothing is owed to it
abbrev pub rested : RankShape → RankShape
rested (Waits f) = Waits f
rested Circles = Circles
rested x = Rests

-- whether somebody awaits
abbrev pub IsAwaitTold : Ranks → Bool → Type 0
IsAwaitTold r true = (k : ℕ) × ((x : RankShape) → IsRanked r k x → awaits x ≡ true)
IsAwaitTold r false = (k : ℕ) (x : RankShape) → IsRanked r k x → awaits x ≡ false

-- who waits for this future stands so
abbrev pub shifted : FutureShape → RankShape → RankShape → RankShape
shifted f then (Waits g) = elim (same_future f g) [ true ↦ then | false ↦ Waits g ]
shifted f then x = x

-- all who wait for it do
abbrev pub AreShifted : FutureShape → RankShape → (old new : Ranks) → Type 0
AreShifted f then old new = (k : ℕ) (x : RankShape) → IsRanked old k x → IsRanked new k (shifted f then x)
