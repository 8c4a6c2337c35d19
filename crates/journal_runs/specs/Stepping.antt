-- One step of an activity that is redone.
use Rattle.std.specs.Prelude.{◌≡◌, ◌⊎◌, ◌||◌, ◌++◌, ℕ, Bool, true, false, List, Some, None, is_some}
use Rattle.asp_model.specs.Names.{FutureShape, Name}
use Rattle.asp_model.specs.Term.{Tree}
use Rattle.asp_model.specs.Configuration.{Activity, Configuration}
use Rattle.asp_model.specs.Intent.{Acts, Effect, Rests, StatusShape}
use Rattle.asp_model.specs.Step.{intent_in, with_effect}
use Rattle.def_journals.specs.Communications.{communicates_next}
use Rattle.def_journals.specs.Journals.{number_of}
use Rattle.def_journals.specs.Owed.{need_to}
use Rattle.law_steps.specs.Reached.{IsThere}
use Rattle.law_core.specs.Commits.{made_by}
use Rattle.replay_population.specs.declared.population.Population.{Population}
use Rattle.replay_population.specs.Reached.{IsReachedPopulation}
use Rattle.journal_runs.specs.declared.stepping.Next.{Next}
use Rattle.journal_runs.specs.declared.stepping.Next.TheVariants as next

-- the population stands for a configuration that the program reaches, in which all names of its
-- roster are there, and this number is that of the name
pub record IsReducing (p : Population) (program : Tree) (c : Configuration) (number : ℕ) (n : Name) : Type 0 where
  pub reached : IsReachedPopulation p program c
  pub named : number_of n p.roster ≡ Some number
  pub there : (m : Name) (k : ℕ) → number_of m p.roster ≡ Some k → IsThere c m

-- for some program and configuration
abbrev pub IsReducingSome : Population → ℕ → Type 0
IsReducingSome p number = (program : Tree) × (c : Configuration) × (n : Name) × IsReducing p program c number n

-- the activity has a step
abbrev pub IsActing : Configuration → Name → Type 0
IsActing c n = (e : Effect) × (intent_in c n ≡ Acts e)

-- it has none
abbrev pub IsResting : Configuration → Name → Type 0
IsResting c n = (status : StatusShape) × (intent_in c n ≡ Rests status)

-- some value is owed to it
abbrev pub IsNeeding : Configuration → Name → Type 0
IsNeeding c n = (x : FutureShape × ℕ) × (need_to c n ≡ Some x)

-- what an activity can do next
abbrev pub IsNext : Configuration → Name → Next → Type 0
IsNext c n next.Contracts = (communicates_next c n ≡ false) × IsActing c n
IsNext c n next.Communicates = (communicates_next c n ≡ true) × IsActing c n
IsNext c n next.Needs = IsNeeding c n × IsActing c n
IsNext c n next.Rests = IsResting c n

-- it has a step, and where more shall follow, that is no communication or reads what is owed; or it
-- has none, or a communication and more shall follow
abbrev pub MayFollow : Configuration → Name → Bool → Bool → Type 0
MayFollow c n more true = IsActing c n × (more ≡ true → (communicates_next c n ≡ false) ⊎ IsNeeding c n)
MayFollow c n more false = IsResting c n ⊎ ((more ≡ true) × (communicates_next c n ≡ true))

-- an effect sends or makes something
abbrev pub gives : Effect → Bool
gives e = is_some e.sent || is_some e.made

-- whom an effect makes has no number among these names
abbrev pub IsNewIn : List Name → Effect → Type 0
IsNewIn ns e = (z : Name × Activity) → e.made ≡ Some z → number_of z.0 ns ≡ None

-- the population after an effect: whom it makes has the next number
pub record IsAfter (p : Population) (program : Tree) (ns : List Name) (c : Configuration) (number : ℕ) (n : Name)
    (e : Effect) : Type 0 where
  pub reducing : IsReducing p program (with_effect n e c) number n
  pub names : p.roster ≡ ns ++ made_by e.made

-- the step with this effect was taken, and gives nothing where more shall follow; or it gives
-- something, and more shall follow
abbrev pub IsActed : Population → Tree → List Name → Configuration → ℕ → Name → Effect → Bool → Bool → Type 0
IsActed p program ns c number n e more true = IsAfter p program ns c number n e × (more ≡ true → gives e ≡ false)
IsActed p program ns c number n e more false = (more ≡ true) × (gives e ≡ true)

-- a step was taken, which is no communication where more shall follow; or there is none, or it is a
-- communication and more shall follow
abbrev pub IsStepped : Population → Tree → List Name → Configuration → ℕ → Name → Bool → Bool → Type 0
IsStepped p program ns c number n more true =
    (e : Effect) × (intent_in c n ≡ Acts e) × IsAfter p program ns c number n e
    × (more ≡ true → communicates_next c n ≡ false)
IsStepped p program ns c number n more false = IsResting c n ⊎ ((more ≡ true) × (communicates_next c n ≡ true))
