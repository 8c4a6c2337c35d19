-- Reductions that are split: behind contractions, and behind one step.
use Rattle.std.proofs.Common.{◌≡◌, ℕ, zero, suc, Bool, true, false, Option, Some, None, refl, ap, ◌∙◌}
use Rattle.asp_model.specs.Names.{Name}
use Rattle.asp_model.specs.Configuration.{Configuration}
use Rattle.asp_model.specs.Intent.{Acts, Intent, Rests}
use Rattle.asp_model.specs.Step.{may_log, step, with_effect}
use Rattle.def_journals.specs.Communications.{communicates_next}
use Rattle.def_journals.specs.Journals.{reduced}
use Rattle.law_steps.proofs.LinkedLemmas.{step_on}
use Rattle.law_steps.proofs.WholeLemmas.{right_of}
use Rattle.law_core.proofs.LocalLemmas.{run_reduced}
use Rattle.law_redo.specs.Reduced.{CommunicationsAreLast, LastsAreReduced, RestsAreReduced, RunsAreReduced, StepsAreReduced}

pub runs_are_reduced : RunsAreReduced
runs_are_reduced j r c n a b sound is run = run_reduced n j r c a b sound is run

pub lasts_are_reduced : LastsAreReduced
lasts_are_reduced c n e sound intends = step_on c n e (right_of c sound) sound.linked intends

module _ (c : Configuration) (n : Name) (r : ℕ) where
  abbrev then_reduced : Option Configuration → Option Configuration
  then_reduced o = elim o [ None ↦ None | Some d ↦ reduced (suc r) n d ]

  -- unless that is asked of others
  abbrev unless_asked : Bool → Option Configuration → Option Configuration
  unless_asked b o = elim b [ true ↦ None | false ↦ o ]

  quiet_reduced : communicates_next c n ≡ false → reduced (suc (suc r)) n c ≡ then_reduced (step None c n)
  quiet_reduced quiet = ap (λ b. unless_asked b (then_reduced (step None c n))) quiet

pub steps_are_reduced : StepsAreReduced
steps_are_reduced zero c n e sound quiet intends = lasts_are_reduced c n e sound intends
steps_are_reduced (suc r) c n e sound quiet intends =
    quiet_reduced c n r quiet ∙ ap (then_reduced c n r) (lasts_are_reduced c n e sound intends)

pub communications_are_last : CommunicationsAreLast
communications_are_last r c n asks = ap (λ b. unless_asked c n r b (then_reduced c n r (step None c n))) asks

abbrev step_by : Configuration → Name → Intent → Option Configuration
step_by c n p = elim p [
  | Rests status ↦ None
  | Acts e ↦ elim (may_log None c e.logged) [ true ↦ Some (with_effect n e c) | false ↦ None ]
]

pub rests_are_reduced : RestsAreReduced
rests_are_reduced zero c n status rests = ap (step_by c n) rests
rests_are_reduced (suc r) c n status rests = by (communicates_next c n)
  where
    none : step None c n ≡ None
    none = ap (step_by c n) rests

    by : (b : Bool) → unless_asked c n r b (then_reduced c n r (step None c n)) ≡ None
    by true = refl
    by false = ap (then_reduced c n r) none
