-- A lease that goes on beyond its grant.
use Rattle.std.proofs.Common.{◌≡◌, ◌<◌, ◌≤◌, ◌+◌, ◌-◌, ◌==◌, ◌++◌, ◌∷◌, [], ℕ, zero, suc, Bool, true, false, min, nat_le, List, Option, Some, None, refl, sym, ap, subst, ◌∙◌, arith}
use Rattle.std.proofs.lemmas.Bool.{le-leb, leb-true}
use Rattle.std.proofs.lemmas.List.{append-nil}
use Rattle.asp_model.specs.Configuration.{Activity, Configuration}
use Rattle.asp_model.specs.History.{Committed, EntryShape, Lent}
use Rattle.asp_model.specs.Names.{Name, name_cmp}
use Rattle.asp_model.specs.Status.{is_running, status_of, status_of_intent}
use Rattle.asp_model.specs.declared.limits.TheConstants.{MOST_GRANTED}
use Rattle.def_journals.specs.Edges.{Event}
use Rattle.def_journals.specs.Journals.{RunShape, all_entered, entered, grant_of, granted, out_but}
use Rattle.def_journals.specs.Passing.{entry_events, events_from}
use Rattle.law_steps.specs.Reached.{IsAt}
use Rattle.law_chases.proofs.FutureLemmas.{none_true}
use Rattle.law_chases.proofs.MapLemmas.{find_same}
use Rattle.law_steps.proofs.NameLemmas.{name_same, name_total}
use Rattle.activity_step.specs.Local.{IsLocalStep, LocalRun}
use Rattle.law_journals.specs.Entered.{IsIn}
use Rattle.law_journals.proofs.EntryLemmas.{lends_are_entered}
use Rattle.law_core.specs.Commits.{HasRun, returned, with_activity}
use Rattle.law_core.proofs.CommitLemmas.{runs_are_commits}
use Rattle.law_core.proofs.EventLemmas.{runs_are_silent}
use Rattle.law_core.proofs.LocalLemmas.{local_in, run_sound, written_over}
use Rattle.law_renewals.specs.Renewals.{IsRenewed, LongLeasesAreLawful, RenewalsAreLawful, RenewalsAreSilent, back_at, renewal, renewed, single_grants, used_up}

number_itself : (k : ℕ) → (k == k) ≡ true
number_itself k = grind arith

-- Runs of contractions

-- a longer run is one of so many, and the rest
pub parted : (g r : ℕ) (a b : Activity) → g ≤ r → LocalRun r a b → (m : Activity) × LocalRun g a m × LocalRun (r - g) m b
parted zero r a b within run =
    let all : r ≡ r - 0 = omega arith in
    (a, refl, subst (λ j. LocalRun j a b) all run)
parted (suc g) zero a b within run = absurd (none_left g within)
  where
    none_left : (g : ℕ) → suc g ≤ 0 → ⊥
    none_left g h = omega (arith, h)
parted (suc g) (suc r) a b within run =
    let fewer : g ≤ r = omega (arith, within) in
    let rest = parted g r run.0 b fewer run.2 in
    let same : r - g ≡ suc r - suc g = omega arith in
    (rest.0, (run.0, run.1, rest.1), subst (λ j. LocalRun j rest.0 b) same rest.2)

-- who takes a contraction can
goes_first : (r : ℕ) (a b : Activity) → 0 < r → LocalRun r a b → (m : Activity) × IsLocalStep a m
goes_first zero a b some run = absurd (not_less some)
  where
    not_less : 0 < 0 → ⊥
    not_less h = omega (arith, h)
goes_first (suc r) a b some run = (run.0, run.1)

-- One renewal

module _ (s : RunShape) (k grant : ℕ) (n : Name) (r : ℕ) (b : Activity) (h : HasRun s k grant n r b) (more : grant < r) (some : 0 < s.left) where
  parts : (m : Activity) × LocalRun grant h.activity m × LocalRun (r - grant) m b
  parts = parted grant r h.activity b (omega (arith, more)) h.run

  abbrev here : Activity
  here = parts.0

  abbrev t : RunShape
  t = used_up s k n here

  whole_grant : HasRun s k grant n grant here
  whole_grant = record { sound = h.sound; named = h.named; out = h.out; activity = h.activity; there = h.there; run = parts.1 }

  comes_in : entered (Committed k grant) s ≡ Some t
  comes_in =
      let none : s.left + (grant - grant) ≡ s.left = omega arith in
      runs_are_commits s k grant n grant here whole_grant (omega arith)
      ∙ (λ i. Some (record { configuration = with_activity n here s.configuration; names = append-nil s.names i; left = none i; out = out_but k s.out }))

  at_here : IsAt t.configuration n here
  at_here = find_same name_cmp name_total name_same n here s.configuration.activities

  is_back : IsIn t k n here
  is_back = record { named = h.named; free = gone k s.out; there = at_here }
    where
      gone : (k : ℕ) (xs : List (ℕ × ℕ)) → grant_of k (out_but k xs) ≡ None
      gone k [] = refl
      gone k (x ∷ xs) = by (k == x.0) refl (gone k xs)
        where
          by : (b : Bool) → (k == x.0) ≡ b → grant_of k (out_but k xs) ≡ None → grant_of k (elim b [ true ↦ out_but k xs | false ↦ x ∷ out_but k xs ]) ≡ None
          by true e rest = rest
          by false e rest = ap (λ b. elim b [ true ↦ Some x.1 | false ↦ grant_of k (out_but k xs) ]) e ∙ rest

  runs_on : is_running (status_of t.configuration n) ≡ true
  runs_on =
      let next = goes_first (r - grant) here b (omega (arith, more)) parts.2 in
      ap (λ p. is_running (status_of_intent p)) (local_in t.configuration n here next.0 at_here next.1)

  goes_out : entered (Lent k) t ≡ Some (renewed s k n here)
  goes_out = lends_are_entered t k n here is_back runs_on some

  pub is_renewed : IsRenewed s k grant n r h.activity b
  is_renewed = record {
    here = here;
    used = parts.1;
    committed = comes_in;
    back = is_back;
    lent = goes_out;
    goes_on = record {
      sound = run_sound n grant s.configuration h.activity here h.sound h.there parts.1;
      named = h.named;
      out = ap (λ b. elim b [ true ↦ Some (granted s) | false ↦ grant_of k (out_but k s.out) ]) (number_itself k);
      activity = here;
      there = at_here;
      run = parts.2;
    };
    from = refl;
  }

  lend_tells_nothing : (o : Option RunShape) → elim o as (λ q. List Event) [ None ↦ [] | Some u ↦ [] ] ≡ []
  lend_tells_nothing None = refl
  lend_tells_nothing (Some u) = refl

  pub is_silent : events_from (renewal k grant) s ≡ []
  is_silent =
      ap (λ xs. xs ++ elim (entered (Committed k grant) s) [ None ↦ [] | Some u ↦ events_from (Lent k ∷ []) u ]) (runs_are_silent s k grant n grant here whole_grant)
      ∙ ap (λ o. elim o [ None ↦ [] | Some u ↦ events_from (Lent k ∷ []) u ]) comes_in
      ∙ lend_tells_nothing (entered (Lent k) t)

pub renewals_are_lawful : RenewalsAreLawful
renewals_are_lawful s k grant n r b h more some = is_renewed s k grant n r b h more some

pub renewals_are_silent : RenewalsAreSilent
renewals_are_silent s k grant n r b h more some = is_silent s k grant n r b h more some

-- One after another

-- who is taken out twice was out once
pub out_twice : (k : ℕ) (xs : List (ℕ × ℕ)) → out_but k (out_but k xs) ≡ out_but k xs
out_twice k [] = refl
out_twice k (x ∷ xs) = by (k == x.0) refl (out_twice k xs)
  where
    by : (b : Bool) → (k == x.0) ≡ b → out_but k (out_but k xs) ≡ out_but k xs
        → out_but k (elim b [ true ↦ out_but k xs | false ↦ x ∷ out_but k xs ]) ≡ elim b [ true ↦ out_but k xs | false ↦ x ∷ out_but k xs ]
    by true e rest = rest
    by false e rest = ap (λ b. elim b [ true ↦ out_but k (out_but k xs) | false ↦ x ∷ out_but k (out_but k xs) ]) e ∙ ap (λ ys. x ∷ ys) rest

two_entered : (x y : EntryShape) (zs : List EntryShape) (s t u : RunShape) → entered x s ≡ Some t → entered y t ≡ Some u → all_entered (x ∷ y ∷ zs) s ≡ all_entered zs u
two_entered x y zs s t u one two =
    ap (λ (o : Option RunShape). elim o [ None ↦ None | Some v ↦ all_entered (y ∷ zs) v ]) one
    ∙ ap (λ (o : Option RunShape). elim o [ None ↦ None | Some v ↦ all_entered zs v ]) two

-- contractions within the grant are one commit
last_commit : (s : RunShape) (k grant : ℕ) (n : Name) (r : ℕ) (b : Activity) → HasRun s k grant n r b → r ≤ grant → all_entered (Committed k r ∷ []) s ≡ Some (back_at s k grant n r b)
last_commit s k grant n r b h within =
    let rest : s.left + (grant - r) ≡ (grant + s.left) - r = omega (arith, within) in
    ap (λ (o : Option RunShape). elim o [ None ↦ None | Some v ↦ all_entered [] v ])
    (runs_are_commits s k grant n r b h within
    ∙ (λ i. Some (record { configuration = with_activity n b s.configuration; names = append-nil s.names i; left = rest i; out = out_but k s.out })))

-- behind a renewal, the run after the rest is that after all
same_end : (s : RunShape) (k grant : ℕ) (n : Name) (r : ℕ) (b : Activity) (h : HasRun s k grant n r b) → grant < r → r ≤ grant + s.left → (here : Activity)
    → back_at (renewed s k n here) k (granted s) n (r - grant) b ≡ back_at s k grant n r b
same_end s k grant n r b h more within here =
    let left : (granted s + (s.left - granted s)) - (r - grant) ≡ (grant + s.left) - r = omega (arith, more, within, least MOST_GRANTED s.left) in
    let out : out_but k ((k, granted s) ∷ out_but k s.out) ≡ out_but k s.out =
    ap (λ b. elim b [ true ↦ out_but k (out_but k s.out) | false ↦ (k, granted s) ∷ out_but k (out_but k s.out) ]) (number_itself k) ∙ out_twice k s.out in
    λ i. record { configuration = written_over s.configuration n h.sound.ordered.activities here b i; names = s.names; left = left i; out = out i }
  where
    least : (m n : ℕ) → min m n ≤ n
    least m n = omega arith

-- so many rounds are enough, where this is so of one fewer
abbrev pub OneFewer : ℕ → Type 0
OneFewer rounds = (s : RunShape) (k grant : ℕ) (n : Name) (r : ℕ) (b : Activity) → HasRun s k grant n r b → r ≤ grant + rounds → r ≤ grant + s.left
    → all_entered (single_grants rounds k grant s.left r) s ≡ Some (back_at s k grant n r b)

module _ (rounds : ℕ) (fewer : OneFewer rounds) (s : RunShape) (k grant : ℕ) (n : Name) (r : ℕ) (b : Activity) (h : HasRun s k grant n r b) (enough : r ≤ grant + suc rounds) (within : r ≤ grant + s.left) where
  longer : nat_le r grant ≡ false → all_entered (renewal k grant ++ single_grants rounds k (granted s) (s.left - granted s) (r - grant)) s ≡ Some (back_at s k grant n r b)
  longer is =
      let more : grant < r = grind (arith, is) in
      let some : 0 < s.left = omega (arith, more, within) in
      let one = is_renewed s k grant n r b h more some in
      let next : r - grant ≤ granted s + rounds = omega (arith, enough, some, most MOST_GRANTED s.left refl) in
      let budget : r - grant ≤ granted s + (s.left - granted s) = omega (arith, within) in
      two_entered (Committed k grant) (Lent k) (single_grants rounds k (granted s) (s.left - granted s) (r - grant)) s (used_up s k n one.here) (renewed s k n one.here) one.committed one.lent
      ∙ fewer (renewed s k n one.here) k (granted s) n (r - grant) b one.goes_on next budget
      ∙ ap Some (same_end s k grant n r b h more within one.here)
    where
      most : (m left : ℕ) → m ≡ 64 → 0 < left → 0 < min m left
      most m left e some = omega (arith, e, some)

  by_length : (c : Bool) → nat_le r grant ≡ c
      → all_entered (elim c [ true ↦ Committed k r ∷ [] | false ↦ renewal k grant ++ single_grants rounds k (granted s) (s.left - granted s) (r - grant) ]) s ≡ Some (back_at s k grant n r b)
  by_length true is = last_commit s k grant n r b h (grind (arith, is))
  by_length false is = longer is

in_grants : (rounds : ℕ) → OneFewer rounds
in_grants zero = λ s k grant n r b h enough within. last_commit s k grant n r b h (omega (arith, enough))
in_grants (suc rounds) = λ s k grant n r b h enough within. by_length rounds (in_grants rounds) s k grant n r b h enough within (nat_le r grant) refl

pub long_leases_are_lawful : LongLeasesAreLawful
long_leases_are_lawful s k grant n r b h within = in_grants r s k grant n r b h (omega arith) within
