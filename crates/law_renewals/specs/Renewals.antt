-- A lease that took more than its grant, where budget is left: it is lends and commits of single grants.
use Rattle.std.specs.Prelude.{◌≡◌, ◌<◌, ◌≤◌, ◌+◌, ◌-◌, ℕ, zero, suc, nat_le, true, false, min}
use Rattle.std.specs.Prelude.{List, [], ◌∷◌, ◌++◌, Some}
use Rattle.asp_model.specs.Names.{Name}
use Rattle.asp_model.specs.Configuration.{Activity}
use Rattle.asp_model.specs.History.{Committed, EntryShape, Lent}
use Rattle.asp_model.specs.declared.limits.TheConstants.{MOST_GRANTED}
use Rattle.def_journals.specs.Journals.{RunShape, all_entered, entered, granted, out_but}
use Rattle.def_journals.specs.Passing.{events_from}
use Rattle.activity_step.specs.Local.{LocalRun}
use Rattle.law_journals.specs.Entered.{IsIn, with_lease}
use Rattle.law_core.specs.Commits.{HasRun, with_activity}

-- an activity is in again, with its grant used: all of the budget that was left is left
abbrev pub used_up : RunShape → ℕ → Name → Activity → RunShape
used_up s k n a = record s { configuration = with_activity n a s.configuration; out = out_but k s.out }

-- and goes out again at once
abbrev pub renewed : RunShape → ℕ → Name → Activity → RunShape
renewed s k n a = with_lease (used_up s k n a) k

-- the entries of that
abbrev pub renewal : (k grant : ℕ) → List EntryShape
renewal k grant = Committed k grant ∷ Lent k ∷ []

-- one that is out took r contractions from a, which lead to b, and more than its grant: it has come so far
pub record IsRenewed (s : RunShape) (k grant : ℕ) (n : Name) (r : ℕ) (a b : Activity) : Type 0 where
  -- where its grant is used
  pub here : Activity
  pub used : LocalRun grant a here
  pub committed : entered (Committed k grant) s ≡ Some (used_up s k n here)
  pub back : IsIn (used_up s k n here) k n here
  pub lent : entered (Lent k) (used_up s k n here) ≡ Some (renewed s k n here)
  -- and what it took then, it took from there with its next grant
  pub goes_on : HasRun (renewed s k n here) k (granted s) n (r - grant) b
  pub from : goes_on.activity ≡ here

-- both entries are lawful while some budget is left
abbrev pub RenewalsAreLawful : Type 0
RenewalsAreLawful = (s : RunShape) (k grant : ℕ) (n : Name) (r : ℕ) (b : Activity)
    → (h : HasRun s k grant n r b) → grant < r → 0 < s.left → IsRenewed s k grant n r h.activity b

-- they tell nobody anything
abbrev pub RenewalsAreSilent : Type 0
RenewalsAreSilent = (s : RunShape) (k grant : ℕ) (n : Name) (r : ℕ) (b : Activity)
    → HasRun s k grant n r b → grant < r → 0 < s.left → events_from (renewal k grant) s ≡ []

-- the entries of r contractions with a grant, where so much is left: renewals as long as they are more than a grant
abbrev pub single_grants : (rounds k grant left r : ℕ) → List EntryShape
single_grants zero k grant left r = Committed k r ∷ []
single_grants (suc rounds) k grant left r = elim (nat_le r grant) [
  | true ↦ Committed k r ∷ []
  | false ↦ renewal k grant ++ single_grants rounds k (min MOST_GRANTED left) (left - min MOST_GRANTED left) (r - grant)
]

-- the run after a commit of r contractions in one
abbrev pub back_at : RunShape → (k grant : ℕ) → Name → ℕ → Activity → RunShape
back_at s k grant n r b = record s {
  configuration = with_activity n b s.configuration;
  left = (grant + s.left) - r;
  out = out_but k s.out;
}

-- so a lease may take its grant and all that is left, and its journal is that of single grants, word for word
abbrev pub LongLeasesAreLawful : Type 0
LongLeasesAreLawful = (s : RunShape) (k grant : ℕ) (n : Name) (r : ℕ) (b : Activity)
    → HasRun s k grant n r b → r ≤ grant + s.left
    → all_entered (single_grants r k grant s.left r) s ≡ Some (back_at s k grant n r b)
