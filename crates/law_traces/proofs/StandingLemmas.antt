-- A verdict that is told is the end of a run.
use Rattle.std.proofs.Common.{◌≡◌, ℕ, Bool, true, false, List, [], ◌∷◌, Option, Some, None, is_some, refl, sym, ap, ◌∙◌}
use Rattle.std.specs.Prelude.{◌||◌}
use Rattle.asp_model.specs.Status.{VerdictShape, verdict_of}
use Rattle.def_journals.specs.Owed.{goes_on, is_any, next_owed}
use Rattle.law_chases.proofs.FutureLemmas.{no_some, none_true, some_is}
use Rattle.law_traces.specs.Standings.{Unfinished, Ended, least_out, standing_by, VerdictsAreEnds}

both_false : (a b : Bool) → (a || b) ≡ false → (a ≡ false) × (b ≡ false)
both_false true b h = none_true (sym h)
both_false false b h = (refl, h)

nobody : (out : List (ℕ × ℕ)) → is_any out ≡ false → out ≡ []
nobody [] h = refl
nobody (x ∷ xs) h = none_true (sym h)

abbrev told_unless : Bool → VerdictShape → Option VerdictShape
told_unless b v = elim b [ true ↦ None | false ↦ Some v ]

told_is : (b : Bool) (w v : VerdictShape) → told_unless b w ≡ Some v → (b ≡ false) × (w ≡ v)
told_is true w v h = no_some h
told_is false w v h = (refl, some_is h)

pub verdicts_are_ends : VerdictsAreEnds
verdicts_are_ends s h answers v told =
    let t = told_is (is_any s.out || (is_some (next_owed s h answers) || goes_on s)) (verdict_of s.configuration) v told in
    let p = both_false (is_any s.out) (is_some (next_owed s h answers) || goes_on s) t.0 in
    let q = both_false (is_some (next_owed s h answers)) (goes_on s) p.1 in
    ap (λ out. standing_by (least_out out) s) (nobody s.out p.0)
    ∙ ap (λ b. elim b [ true ↦ Unfinished | false ↦ Ended (verdict_of s.configuration) ]) q.1
    ∙ ap Ended t.1
