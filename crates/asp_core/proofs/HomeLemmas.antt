-- Who is out by the history, and that nobody is.
use Rattle.std.proofs.Common.{◌≡◌, ◌∙◌, ◌==◌, ◌&&◌, ◌+◌, ◌++◌, ◌∷◌, [], ℕ, suc, not, Bool, true, false, List, Option, Some, None, refl, sym, ap, arith}
use Rattle.asp_model.specs.History.{Committed, Delivered, EntryShape, Lent}
use Rattle.asp_model.specs.Names.{Name}
use Rattle.asp_model.specs.Step.{name_at}
use Rattle.def_journals.specs.Journals.{RunShape, grant_of}
use Rattle.law_chases.proofs.FutureLemmas.{no_some, none_true, some_is}
use Rattle.law_journals.specs.Leases.{burst_from, burst_out, bursts_in, stays_out}
use Rattle.law_journals.proofs.BurstLemmas.{leases_are_one}
use Rattle.request_queue.specs.declared.request.Request.{Request}
use Rattle.core_seats.specs.Seats.{In, Out, SeatShape, seat_at}
use Rattle.step_activity.specs.declared.actor.Actor.{Actor}
use Rattle.core_state.specs.Cores.{IsSeated}
use Rattle.asp_core.specs.declared.cores.Core.{Core}
use Rattle.asp_core.specs.Cores.{IsHome, IsRun, code_of, entries_of, history_of}

-- The burst of a number, one entry later

same_number : (k : ℕ) → (k == k) ≡ true
same_number k = grind arith

more_from : (k count : ℕ) (burst : Option ℕ) (xs : List EntryShape) (e : EntryShape)
    → burst_from k count burst (xs ++ e ∷ []) ≡ burst_from k (count + bursts_in xs) (burst_from k count burst xs) (e ∷ [])
more_from k count burst [] e = ap (λ c. burst_from k c burst (e ∷ [])) (omega arith)
more_from k count burst (Lent j ∷ xs) e =
    let then : Option ℕ = elim (k == j) [ true ↦ Some (suc count) | false ↦ burst ] in
    let sum : suc count + bursts_in xs ≡ count + suc (bursts_in xs) = omega arith in
    more_from k (suc count) then xs e ∙ ap (λ c. burst_from k c (burst_from k (suc count) then xs) (e ∷ [])) sum
more_from k count burst (Committed j r ∷ xs) e = more_from k count (elim (k == j) [ true ↦ None | false ↦ burst ]) xs e
more_from k count burst (Delivered d ∷ xs) e = more_from k count burst xs e

-- who is lent is out with the next burst
pub out_lent : (k : ℕ) (entries : List EntryShape) → burst_out k (entries ++ Lent k ∷ []) ≡ Some (suc (bursts_in entries))
out_lent k entries =
    let none : 0 + bursts_in entries ≡ bursts_in entries = omega arith in
    more_from k 0 None entries (Lent k)
    ∙ ap (λ b. elim b as (λ q. Option ℕ) [ true ↦ Some (suc (0 + bursts_in entries)) | false ↦ burst_out k entries ]) (same_number k)
    ∙ ap (λ c. Some (suc c)) none

-- who comes back is not
pub out_back : (k r : ℕ) (entries : List EntryShape) → burst_out k (entries ++ Committed k r ∷ []) ≡ None
out_back k r entries =
    more_from k 0 None entries (Committed k r)
    ∙ ap (λ b. elim b as (λ q. Option ℕ) [ true ↦ None | false ↦ burst_out k entries ]) (same_number k)

-- and for all others it stays
pub out_other : (k : ℕ) (entries : List EntryShape) (e : EntryShape) → stays_out k (e ∷ []) ≡ true → burst_out k (entries ++ e ∷ []) ≡ burst_out k entries
out_other k entries e stays = more_from k 0 None entries e ∙ by e stays
  where
    apart : (b : Bool) → (not b && true) ≡ true → b ≡ false
    apart true h = none_true h
    apart false h = refl

    by : (e : EntryShape) → stays_out k (e ∷ []) ≡ true → burst_from k (0 + bursts_in entries) (burst_out k entries) (e ∷ []) ≡ burst_out k entries
    by (Lent j) h = ap (λ b. elim b as (λ q. Option ℕ) [ true ↦ Some (suc (0 + bursts_in entries)) | false ↦ burst_out k entries ]) (apart (k == j) h)
    by (Committed j r) h = ap (λ b. elim b as (λ q. Option ℕ) [ true ↦ None | false ↦ burst_out k entries ]) (apart (k == j) h)
    by (Delivered d) h = refl

pub false_not : (b : Bool) → not b ≡ true → b ≡ false
false_not true h = none_true h
false_not false h = refl

pub true_not : (b : Bool) → not b ≡ false → b ≡ true
true_not true h = refl
true_not false h = none_true (sym h)

-- who is out by the run is out by the history

module _ {P : Type 0} (x : Core P) (s : RunShape) (run : IsRun x s) where
  seated_out : (k : ℕ) (n : Name) (grant : ℕ) (o : Option (SeatShape Actor Request)) → grant_of k s.out ≡ Some grant → IsSeated (history_of x) (code_of x) s k n o
      → (burst : ℕ) × (burst_out k (entries_of x) ≡ Some burst)
  seated_out k n grant (Some (In a)) out is = no_some (sym is.free ∙ out)
  seated_out k n grant (Some (Out came)) out is =
      let h = history_of x in
      (is.burst, (leases_are_one h k is.burst is.burst is.run is.run is.lent is.lent).0)
  seated_out k n grant None out is = absurd is

  pub out_by : (k grant : ℕ) → grant_of k s.out ≡ Some grant → (burst : ℕ) × (burst_out k (entries_of x) ≡ Some burst)
  out_by k grant out = by (name_at s.names k) refl
    where
      by : (o : Option Name) → name_at s.names k ≡ o → (burst : ℕ) × (burst_out k (entries_of x) ≡ Some burst)
      by None none = no_some (sym (run.stand.core.populated.named_out k none) ∙ out)
      by (Some n) named = seated_out k n grant (seat_at x.state.seats k) out (run.stand.core.populated.seats k n named)

  nobody_out : ((k : ℕ) → burst_out k (entries_of x) ≡ None) → (out : List (ℕ × ℕ)) → s.out ≡ out → s.out ≡ []
  nobody_out none [] is = is
  nobody_out none (y ∷ ys) is =
      let here : grant_of y.0 s.out ≡ Some y.1 = ap (grant_of y.0) is ∙ ap (λ b. elim b as (λ q. Option ℕ) [ true ↦ Some y.1 | false ↦ grant_of y.0 ys ]) (same_number y.0) in
      let told = out_by y.0 y.1 here in
      no_some (sym (none y.0) ∙ told.1)

-- so where nobody is out by the history, nobody is out
pub home_by : {P : Type 0} (x : Core P) → ((k : ℕ) → burst_out k (entries_of x) ≡ None) → IsHome x
home_by x none = λ s run. nobody_out x s run none s.out refl

pub home_at : {P : Type 0} (x : Core P) (s : RunShape) → IsRun x s → s.out ≡ [] → IsHome x
home_at x s run none = λ t other. ap (λ (r : RunShape). r.out) (some_is (sym other.stand.core.run ∙ run.stand.core.run)) ∙ none
