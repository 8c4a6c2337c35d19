-- What a checkpoint counted is what was counted where a run goes on from it.
use Rattle.std.specs.Prelude.{◌≡◌, ◌↔◌, ℕ, ◌+◌, ◌-◌, ◌≤◌, Bool, List, [], ◌∷◌, Some, None, IsTrue, cond, map}
use Rattle.std.proofs.Common.{ap, sym, arith, refl, ◌∙◌}
use Rattle.std.specs.declared.cmp.Ordering.{Ordering}
use Rattle.std.specs.declared.cmp.Ordering.TheVariants.{Less, Equal, Greater}
use Rattle.std.specs.Ordering.{is_eq}
use Rattle.std.specs.FinMap.{find, put}
use Rattle.std.specs.FinMap.Entries.{by_order}
use Rattle.asp_model.specs.declared.limits.TheConstants.{MOST_REDUCTIONS}
use Rattle.asp_model.specs.Names.{Name, name_cmp}
use Rattle.asp_model.specs.Configuration.{Activity}
use Rattle.asp_model.specs.Replay.{total}
use Rattle.law_chases.proofs.FutureLemmas.{no_some}
use Rattle.law_journals.specs.Budgets.{spent_in}
use Rattle.law_frozen.specs.Frozen.{FrozenActivity, FrozenShape, each_named, thawed, thawed_activity}
use Rattle.law_checkpoints.specs.Sound.{IsSoundFrozen, StandOnce}
use Rattle.law_checkpoints.proofs.LookLemmas.{found_each, with_each}
use Rattle.checkpoint_checks.specs.Within.{counted}
use Rattle.run_files.specs.Files.{HasRoom}

abbrev sum : List (Name × Activity) → ℕ
sum xs = total (map (λ x. (x.0, x.1.reductions)) xs)

-- an activity more, of which there was none
sum_new : (n : Name) (b : Activity) (es : List (Name × Activity)) → find name_cmp n es ≡ None
    → sum (put name_cmp n b es) ≡ b.reductions + sum es
sum_new n b [] h = refl
sum_new n b (e ∷ es) h = by (name_cmp n e.0) h (sum_new n b es)
  where
    by : (r : Ordering) → cond (is_eq r) (Some e.1) (find name_cmp n es) ≡ None
        → (find name_cmp n es ≡ None → sum (put name_cmp n b es) ≡ b.reductions + sum es)
        → sum (by_order r ((n, b) ∷ e ∷ es) ((e.0, b) ∷ es) (e ∷ put name_cmp n b es)) ≡ b.reductions + sum (e ∷ es)
    by Less is rest = refl
    by Equal is rest = no_some (sym is)
    by Greater is rest = let more = rest is in omega (arith, more)

counted_each : (f : FrozenShape) (xs : List FrozenActivity) → StandOnce xs
    → sum (each_named (thawed_activity f) xs) ≡ counted xs
counted_each f [] once = refl
counted_each f (x ∷ xs) once =
    let new = found_each (thawed_activity f) x.name xs ∙ ap (with_each (thawed_activity f)) once.0 in
    sum_new x.name (thawed_activity f x) (each_named (thawed_activity f) xs) new
    ∙ ap (λ n. x.activity.reductions + n) (counted_each f xs once.1)

counted_is : (f : FrozenShape) → IsSoundFrozen f → spent_in (thawed f) ≡ counted f.activities
counted_is f sound = counted_each f f.activities sound.names.once

-- a test of what was counted tells whether there is room for a budget
pub room_is : (f : FrozenShape) (budget : ℕ) (b : Bool) → IsSoundFrozen f → budget ≤ MOST_REDUCTIONS
    → (IsTrue b ↔ (counted f.activities ≤ MOST_REDUCTIONS - budget)) → IsTrue b ↔ HasRoom f budget
room_is f budget b sound less is =
    let same = counted_is f sound in (
      λ t. let few = is.0 t in omega (arith, same, less, few),
      λ (few : HasRoom f budget). is.1 (omega (arith, same, less, few)),
    )
