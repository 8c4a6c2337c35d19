-- Where an activity of a configuration stands, while nobody works on it.
use Rattle.std.specs.Prelude.{ℕ, List, Option, Some, None}
use Rattle.std.specs.FinMap.{find}
use Rattle.asp_model.specs.Names.{Name, FutureShape, name_cmp, future_cmp}
use Rattle.asp_model.specs.Chase.{Chase, Value, Unfilled, Cycle, Values, chase}
use Rattle.asp_model.specs.Configuration.{Activity, Configuration, RequestShape, requests_of}
use Rattle.asp_model.specs.Intent as intents
use Rattle.asp_model.specs.Intent.{Acts, Intent, StatusShape, intent}
use Rattle.def_journals.specs.Owed.{need_of}
use Rattle.core_ranks.specs.Ranks.{RankShape, Circles, Goes, HasNeed, Rests, Waits}

-- who awaits a future without a value waits for it
abbrev pub rank_awaiting : Values → FutureShape → RankShape
rank_awaiting values f = elim (find future_cmp f values) [ None ↦ Waits f | Some p ↦ Circles ]

abbrev pub rank_resting : Values → StatusShape → RankShape
rank_resting values (intents.Awaits f) = rank_awaiting values f
rank_resting values status = Rests

-- without a need: by what it intends
abbrev pub rank_by : Values → Intent → RankShape
rank_by values (Acts e) = Goes
rank_by values (intents.Rests status) = rank_resting values status

-- a need comes before an intent
abbrev pub rank_unless : Option (FutureShape × ℕ) → RankShape → RankShape
rank_unless None rank = rank
rank_unless (Some need) rank = HasNeed

-- of an activity that received these requests
abbrev pub rank_of : Values → List RequestShape → Name → Activity → RankShape
rank_of values requests n a = rank_unless (need_of (chase values) a) (rank_by values (intent (chase values) requests n a))

abbrev pub rank_in : Configuration → Name → RankShape
rank_in c n = elim (find name_cmp n c.activities) [ None ↦ Rests | Some a ↦ rank_of c.futures (requests_of c n) n a ]

-- where the walk from a future ends: of whoever waits for that future
abbrev pub rank_at : Chase → RankShape
rank_at (Value f p) = HasNeed
rank_at (Unfilled f) = Waits f
rank_at (Cycle f) = Circles
