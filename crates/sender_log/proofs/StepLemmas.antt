-- An activity line behind others.
use Rattle.std.proofs.Common.{◌≡◌, ℕ, ◌+◌, ◌<◌, Bool, true, false, [], ◌∷◌, ◌++◌, Option, Some, None, refl, ap, sym, arith}
use Rattle.std.specs.Prelude.{◌&&◌, nat_le}
use Rattle.std.proofs.lemmas.Bool.Decides.{nat_tests}
use Rattle.asp_model.specs.declared.limits.TheConstants.{MOST_REDUCTIONS}
use Rattle.asp_model.specs.Names.{Name}
use Rattle.asp_model.specs.Replay.{total}
use Rattle.asp_model.specs.ReadReport.{Progress, with_activity}
use Rattle.sender_log.specs.Progress.{with_entry}
use Rattle.sender_log.proofs.OrderLemmas.{total_more}

entry_if : Progress → Name × ℕ → Bool → Option Progress
entry_if p a b = elim b [ true ↦ Some (with_entry p a.0 a.1) | false ↦ None ]

over : (n : ℕ) → MOST_REDUCTIONS < n → nat_le n MOST_REDUCTIONS ≡ false
over n h = grind (arith, nat_tests)

and_false : (b c : Bool) → c ≡ false → (b && c) ≡ false
and_false true c e = e
and_false false c e = refl

pub entry_over : (fits : Name → Bool) (p : Progress) (a : Name × ℕ) → MOST_REDUCTIONS < total p.counts + a.1 → None ≡ with_activity fits p (Some a)
unfolding entry_if
entry_over fits p a h =
    let sum : total (p.counts ++ a ∷ []) ≡ total p.counts + a.1 = total_more p.counts a.0 a.1 in
    let more : MOST_REDUCTIONS < total (p.counts ++ a ∷ []) = omega arith in
    sym (ap (entry_if p a) (and_false (fits a.0) (nat_le (total (p.counts ++ a ∷ [])) MOST_REDUCTIONS) (over (total (p.counts ++ a ∷ [])) more)))
