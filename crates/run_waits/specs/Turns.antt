-- What an activity does next under given logs, or whom it needs first.
use Rattle.std.specs.Prelude.{◌≡◌, ℕ, List, Option, Some, None}
use Rattle.asp_model.specs.Names.{Name}
use Rattle.asp_model.specs.Configuration.{Configuration, ReceptionShape}
use Rattle.asp_model.specs.Intent.{Acts, Effect}
use Rattle.asp_model.specs.Step.{ListsShape, intent_in, step, with_effect}
use Rattle.def_journals.specs.Journals.{number_of}
use Rattle.law_cuts.specs.Wants.{wanted}
use Rattle.law_steps.specs.Reached.{IsThere}
use Rattle.run_waits.specs.declared.cuts.turns.Turn.{Turn}
use Rattle.run_waits.specs.declared.cuts.turns.Turn.TheVariants as turn

-- this is the number of whom it needs, if it needs somebody
abbrev pub IsWanted : Option Name → List Name → Option ℕ → Type 0
IsWanted w ns o = (m : Name) → w ≡ Some m → o ≡ number_of m ns

-- it takes a reduction, or cannot and needs the one with this number
abbrev pub IsTurn : ListsShape → Configuration → List Name → Name → Turn → Type 0
IsTurn lists c ns n turn.Steps = (e : Effect) × (intent_in c n ≡ Acts e) × (step (Some lists) c n ≡ Some (with_effect n e c))
IsTurn lists c ns n (turn.Wants o) = (step (Some lists) c n ≡ None) × IsWanted (wanted lists c n) ns o

-- it has a step that enters this in the log of one who is there
pub record IsEntering (c : Configuration) (n to : Name) (x : ReceptionShape) : Type 0 where
  pub effect : Effect
  pub intends : intent_in c n ≡ Acts effect
  pub logged : effect.logged ≡ Some (to, x)
  pub there : IsThere c to
