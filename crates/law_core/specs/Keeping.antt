-- What a step and a delivery make of the ranks of others.
use Rattle.std.specs.Prelude.{◌≡◌, ◌≢◌, ◌⊎◌, ◌&&◌, Option, Some, None, is_none, is_some}
use Rattle.std.specs.FinMap.{put}
use Rattle.asp_model.specs.Names.{Name, FutureShape, name_cmp}
use Rattle.asp_model.specs.Parcel.{ParcelShape}
use Rattle.asp_model.specs.Chase.{chase}
use Rattle.asp_model.specs.Configuration.{Activity, Configuration, requests_of}
use Rattle.asp_model.specs.Intent.{Acts, Effect}
use Rattle.asp_model.specs.Status.{is_awaiting, is_running, status_of}
use Rattle.asp_model.specs.Step.{intent_in, with_effect}
use Rattle.def_journals.specs.Owed.{need_to}
use Rattle.law_steps.specs.Reached.{IsAt}
use Rattle.law_steps.specs.Sound.{IsSound}
use Rattle.core_ranks.specs.Ranks.{RankShape, Goes, Rests, awaits, goes, has_need, shifted}
use Rattle.law_core.specs.Ranked.{rank_at, rank_in}

-- what a step fills shifts who waited for it
abbrev pub shifted_by : Option (FutureShape × ParcelShape) → Configuration → RankShape → RankShape
shifted_by None d x = x
shifted_by (Some y) d x = shifted y.0 (rank_at (chase d.futures y.0)) x

-- When another one steps, whoever receives nothing, or did not rest, stands as before, but for those who
-- waited for the future that is filled: all of these stand by where its walk ends then.
abbrev pub StepsKeepRanks : Type 0
StepsKeepRanks = (c : Configuration) (n m : Name) (a : Activity) (e : Effect) → IsSound c → IsAt c m a → m ≢ n
    → intent_in c n ≡ Acts e → let d : Configuration = with_effect n e c in
    (requests_of d m ≡ requests_of c m) ⊎ (rank_in c m ≢ Rests)
    → rank_in d m ≡ shifted_by e.filled d (rank_in c m)

-- who receives, in a step that fills nothing, stands as before, or may step now and rested
abbrev pub ReceiversRank : Type 0
ReceiversRank = (c : Configuration) (n m : Name) (a : Activity) (e : Effect) → IsSound c → IsAt c m a → m ≢ n
    → intent_in c n ≡ Acts e → e.filled ≡ None → let d : Configuration = with_effect n e c in
    (rank_in d m ≡ rank_in c m) ⊎ ((rank_in c m ≡ Rests) × (rank_in d m ≡ Goes))

-- whatever another activity becomes by itself, or gets delivered, changes no rank but its own
abbrev pub WritesKeepRanks : Type 0
WritesKeepRanks = (c : Configuration) (n m : Name) (b : Activity) → m ≢ n
    → rank_in (record c { activities = put name_cmp n b c.activities }) m ≡ rank_in c m

-- who may step is running, and nothing is owed to it; a need is told, and who awaits without one
pub record Tells (c : Configuration) (n : Name) : Type 0 where
  pub going : goes (rank_in c n) ≡ (is_running (status_of c n) && is_none (need_to c n))
  pub needy : has_need (rank_in c n) ≡ is_some (need_to c n)
  pub awaiting : awaits (rank_in c n) ≡ (is_awaiting (status_of c n) && is_none (need_to c n))

abbrev pub RanksTell : Type 0
RanksTell = (c : Configuration) (n : Name) → Tells c n
