-- Commits are entries.
use Rattle.std.proofs.Common.{◌≡◌, ◌+◌, ◌-◌, ◌≤◌, ℕ, suc, true, false, Option, Some, None, sym, ap, ◌∙◌, arith}
use Rattle.std.proofs.lemmas.Bool.{le-leb}
use Rattle.asp_model.specs.Names.{Name}
use Rattle.asp_model.specs.Configuration.{Configuration}
use Rattle.asp_model.specs.Step.{step, with_effect}
use Rattle.def_journals.specs.Journals.{RunShape, back, committed, newcomers, reduced}
use Rattle.law_steps.specs.Sound.{IsSound}
use Rattle.law_steps.proofs.FrameLemmas.{effects_on}
use Rattle.law_steps.proofs.LinkedLemmas.{step_on}
use Rattle.law_steps.proofs.WholeLemmas.{right_of}
use Rattle.law_core.specs.Commits.{ActsAreCommits, RunsAreCommits, returned, with_activity}
use Rattle.law_core.proofs.LocalLemmas.{run_reduced, run_sound}
use Rattle.law_core.proofs.NewcomerLemmas.{absent_before, made_is_new, no_newcomer}

-- what was reduced within the grant comes back
module _ (s : RunShape) (k grant : ℕ) (n : Name) (r : ℕ) (d : Configuration) where
  comes_back : (x : Option Name) (o : Option ℕ) → x ≡ Some n → o ≡ Some grant → r ≤ grant → reduced r n s.configuration ≡ Some d → committed k r s x o ≡ Some (returned s k (grant - r) d (newcomers s.configuration d))
  comes_back x o named out within reduces =
      ap (λ x. committed k r s x o) named ∙ ap (committed k r s (Some n)) out
      ∙ ap (λ b. elim b [ true ↦ back s k (grant - r) (reduced r n s.configuration) | false ↦ None ]) (le-leb r grant within)
      ∙ ap (back s k (grant - r)) reduces

pub runs_are_commits : RunsAreCommits
runs_are_commits s k grant n r b h within =
    let d : Configuration = with_activity n b s.configuration in
    let same : r + 0 ≡ r = omega arith in
    let reduces : reduced r n s.configuration ≡ Some d = ap (λ j. reduced j n s.configuration) (sym same) ∙ run_reduced n r 0 s.configuration h.activity b h.sound h.there h.run in
    comes_back s k grant n r d _ _ h.named h.out within reduces
    ∙ ap (λ ns. Some (returned s k (grant - r) d ns)) (no_newcomer s.configuration n h.activity h.there b)

pub acts_are_commits : ActsAreCommits
acts_are_commits s k grant n r b e h within intends =
    let c : Configuration = with_activity n b s.configuration in
    let d : Configuration = with_effect n e c in
    let sound : IsSound c = run_sound n r s.configuration h.activity b h.sound h.there h.run in
    let right = right_of c sound in
    let steps : step None c n ≡ Some d = step_on c n e right sound.linked intends in
    let one : r + 1 ≡ suc r = omega arith in
    let reduces : reduced (suc r) n s.configuration ≡ Some d = ap (λ j. reduced j n s.configuration) (sym one) ∙ run_reduced n r 1 s.configuration h.activity b h.sound h.there h.run ∙ steps in
    comes_back s k grant n (suc r) d _ _ h.named h.out within reduces
    ∙ ap (λ ns. Some (returned s k (grant - suc r) d ns)) (made_is_new s.configuration n h.activity h.there b e (λ x is. absent_before s.configuration n x.0 b ((effects_on c n e right.sound intends).made x is)))
