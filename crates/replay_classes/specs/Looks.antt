-- What an activity does next, as it is told.
use Rattle.std.specs.Prelude.{◌≡◌, ◌<◌, Some, None, Bool, true, false, ℕ, List, slice_get}
use Rattle.asp_model.specs.Names.{Name}
use Rattle.asp_model.specs.Configuration.{Configuration}
use Rattle.asp_model.specs.Intent.{Intent, Effect, Acts, Rests}
use Rattle.asp_model.specs.Step.{intent_in}
use Rattle.asp_model.specs.Term.{Tree}
use Rattle.def_journals.specs.Journals.{number_of}
use Rattle.law_steps.specs.Steps.{IsPoll}
use Rattle.step_activity.specs.Outlook.{IsTo}
use Rattle.replay_population.specs.declared.population.Population.{Population}
use Rattle.replay_population.specs.Reached.{IsReachedPopulation}
use Rattle.replay_classes.specs.declared.looks.Look.{Look}
use Rattle.replay_classes.specs.declared.looks.Look.TheVariants as look

abbrev pub IsLook : Name → Intent → Look → Type 0
IsLook n (Acts e) look.Steps = (e.sent ≡ None) × (e.logged ≡ None)
IsLook n (Acts e) (look.Sends m) = IsTo e.sent m
IsLook n (Acts e) look.Polls = IsPoll n e
IsLook n (Rests s) look.Rests = Unit {0}
IsLook n p o = ⊥

-- the effect sends
abbrev pub Sends : Effect → Type 0
Sends e = e.sent ≡ None → ⊥

-- it acts and sends, exactly where that is so told
abbrev pub IsSendingIf : Intent → Bool → Type 0
IsSendingIf (Acts e) true = Sends e
IsSendingIf (Rests s) false = Unit {0}
IsSendingIf p b = ⊥

-- for each number whether its activity acts: if so, it sends
abbrev pub AreSenders : List Name → Configuration → List Bool → Type 0
AreSenders ns c bs = (n : Name) (k : ℕ) → number_of n ns ≡ Some k
    → (b : Bool) × (slice_get bs k ≡ Some b) × IsSendingIf (intent_in c n) b

-- so it is for the numbers below this one
abbrev pub AreSendersTo : List Name → Configuration → ℕ → List Bool → Type 0
AreSendersTo ns c count bs = (n : Name) (k : ℕ) → number_of n ns ≡ Some k → k < count
    → (b : Bool) × (slice_get bs k ≡ Some b) × IsSendingIf (intent_in c n) b
