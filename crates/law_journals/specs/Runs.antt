-- What the holders of a lawful history say of its run: the homes of futures, and which have a value.
use Rattle.std.specs.Prelude.{◌≡◌, ℕ, Some, is_some, IsSome}
use Rattle.std.specs.FinMap.{find}
use Rattle.asp_model.specs.Names.{Name, FutureShape, future_cmp}
use Rattle.asp_model.specs.Configuration.{Configuration, RequestShape}
use Rattle.asp_model.specs.History.{HistoryShape}
use Rattle.asp_model.specs.Intent.{Acts, Effect}
use Rattle.asp_model.specs.Step.{intent_in}
use Rattle.def_journals.specs.Edges.{HoldersShape, first_holders, has_filled, home_of}
use Rattle.def_journals.specs.Journals.{RunShape, first_in, run_of}
use Rattle.def_journals.specs.Passing.{holders_of}
use Rattle.law_steps.specs.Kept.{IsBegun, Stands}
use Rattle.law_steps.specs.Sound.{IsSound}
use Rattle.law_journals.specs.Fresh.{IsFresh}

-- an activity received the request whose answer the future is
abbrev pub IsHome : Configuration → FutureShape → Name → Type 0
IsHome c f m = (k : ℕ) × (r : RequestShape) × Stands c m k r × (r.future ≡ f)

pub record AreHoldersOf (c : Configuration) (h : HoldersShape) : Type 0 where
  -- the home of a future is who received its request
  pub homes : (f : FutureShape) (m : Name) → home_of f h.homes ≡ Some m → IsHome c f m
  pub requests : (m : Name) (k : ℕ) (r : RequestShape) → Stands c m k r → home_of r.future h.homes ≡ Some m
  -- exactly those that have a value are filled
  pub filled : (f : FutureShape) → has_filled f h.filled ≡ is_some (find future_cmp f c.futures)

-- so are those with which a run begins
abbrev pub FirstHoldersAre : Type 0
FirstHoldersAre = (c : Configuration) → IsSound c → AreHoldersOf c (first_holders c)

-- and those of each history
abbrev pub HoldersAreOfRuns : Type 0
HoldersAreOfRuns = (h : HistoryShape) (s : RunShape) → IsSound (first_in h).configuration
    → run_of h ≡ Some s → AreHoldersOf s.configuration (holders_of h)

-- they are those of each configuration with the same requests and values
abbrev pub HoldersStay : Type 0
HoldersStay = (c d : Configuration) (h : HoldersShape) → d.received ≡ c.received → d.futures ≡ c.futures
    → AreHoldersOf c h → AreHoldersOf d h

-- exactly the futures that were begun have a home
abbrev pub HomesAreOfBegun : Type 0
HomesAreOfBegun = (c : Configuration) (h : HoldersShape) (f : FutureShape) → IsSound c → AreHoldersOf c h
    → (IsBegun c f → IsSome (home_of f h.homes)) × (IsSome (home_of f h.homes) → IsBegun c f)

-- what an activity intends to send and to fill is fresh
abbrev pub EffectsAreFresh : Type 0
EffectsAreFresh = (c : Configuration) (h : HoldersShape) (n : Name) (e : Effect) → IsSound c → AreHoldersOf c h
    → intent_in c n ≡ Acts e → IsFresh h e
