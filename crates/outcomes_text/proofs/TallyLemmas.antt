-- One end more in a tally.
use Rattle.std.proofs.Common.{◌≡◌, ℕ, suc, ◌+◌, ◌≤◌, Bool, true, false, List, [], ◌∷◌, refl, ap, ◌∙◌, sym, arith, Option, Some}
use Rattle.std.specs.Prelude.{cond, string_bytes, string_eq}
use Rattle.std.specs.Map.{lookup}
use Rattle.std.specs.declared.alloc.Global.{Global}
use Rattle.std.specs.declared.string.String.{String}
use Rattle.indexmap.specs.IndexMap.{insert_entry}
use Rattle.asp_model.specs.Names.{Text, same_text}
use Rattle.outcomes_text.specs.declared.tally.Share.{Share}
use Rattle.outcomes_text.specs.Outcomes.{Outcome, with_end}
use Rattle.outcomes_text.specs.Tallies.{AreFew, AreWithin, outcome_in, outcomes_in, share_with}

abbrev Entries : Type 0
Entries = List (String Global × Share)

-- the outcome is counted
pub counted : (i : ℕ) (t : String Global) (es : Entries) → outcomes_in (insert_entry string_eq es t (share_with i (lookup (string_eq t) es))) ≡ with_end i (string_bytes t) (outcomes_in es)
counted i t [] = refl
counted i t (e ∷ es) = by (string_eq t e.0) refl (counted i t es)
  where
    found : Bool → Option Share
    found b = cond b (Some e.1) (lookup (string_eq t) es)

    entered : Bool → Share → Entries
    entered b s = cond b ((e.0, s) ∷ es) (e ∷ insert_entry string_eq es t s)

    ended : Bool → List Outcome
    ended b = cond b (record (outcome_in e) { ends = suc e.1.ends } ∷ outcomes_in es) (outcome_in e ∷ with_end i (string_bytes t) (outcomes_in es))

    by : (b : Bool) → string_eq t e.0 ≡ b → outcomes_in (insert_entry string_eq es t (share_with i (lookup (string_eq t) es))) ≡ with_end i (string_bytes t) (outcomes_in es)
        → outcomes_in (entered (string_eq t e.0) (share_with i (found (string_eq t e.0)))) ≡ ended (string_eq t e.0)
    by true is rest =
        let last : e.1.ends + 1 ≡ suc e.1.ends = omega arith in
        ap (λ (b : Bool). outcomes_in (entered b (share_with i (found b)))) is ∙ ap (λ (n : ℕ). record (outcome_in e) { ends = n } ∷ outcomes_in es) last ∙ ap ended (sym is)
    by false is rest =
        ap (λ (b : Bool). outcomes_in (entered b (share_with i (found b)))) is ∙ ap (λ (os : List Outcome). outcome_in e ∷ os) rest ∙ ap ended (sym is)

-- One end more

are_fewer : (n m : ℕ) (os : List Outcome) → n ≤ m → AreWithin n os → AreWithin m os
are_fewer n m [] le h = tt
are_fewer n m (o ∷ os) le h = (omega (arith, h.0, le), omega (arith, h.1, le), are_fewer n m os le h.2)

pub are_within : (n : ℕ) (t : Text) (os : List Outcome) → AreWithin n os → AreWithin (n + 1) (with_end n t os)
are_within n t [] h = (omega arith, omega arith, tt)
are_within n t (o ∷ os) h = by (same_text t o.text) (are_within n t os h.2)
  where
    by : (b : Bool) → AreWithin (n + 1) (with_end n t os) → AreWithin (n + 1) (cond b (record o { ends = suc o.ends } ∷ os) (o ∷ with_end n t os))
    by true rest = (omega (arith, h.0), omega (arith, h.1), are_fewer n (n + 1) os (omega arith) h.2)
    by false rest = (omega (arith, h.0), omega (arith, h.1), rest)

-- the one that is found has no more
pub few_found : (n : ℕ) (test : String Global → Bool) (es : Entries) → AreWithin n (outcomes_in es) → AreFew n (lookup test es)
few_found n test [] h = tt
few_found n test (e ∷ es) h = by (test e.0) (few_found n test es h.2)
  where
    by : (b : Bool) → AreFew n (lookup test es) → AreFew n (cond b (Some e.1) (lookup test es))
    by true rest = h.0
    by false rest = rest
