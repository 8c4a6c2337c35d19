-- Numbers below a limit that is below another.
use Rattle.std.proofs.Common.{◌≡◌, ℕ, zero, suc, ℤ, negsuc, ◌-◌, ◌<◌, ◌≤◌, Bool, true, false, length, Option, Some, None, refl, ap, sym, ◌∙◌, arith}
use Rattle.std.specs.Prelude.{IfSome, nat_lt}
use Rattle.std.proofs.lemmas.Bool.{le-leb}
use Rattle.std.proofs.lemmas.Bool.Decides.{nat_tests}
use Rattle.asp_model.specs.Names.{Text}
use Rattle.asp_model.specs.ReportLines.{count_of, number_of}
use Rattle.checkpoint_text.specs.Items.{Items}
use Rattle.checkpoint_text.specs.Reading.{negative_by}
use Rattle.text_lines.specs.Numbers.{number_below, only_below}

not_below : (n limit top : ℕ) → limit ≤ top → nat_lt n top ≡ false → nat_lt n limit ≡ false
not_below n limit top h e = grind (arith, nat_tests)

narrow_by : (limit top n : ℕ) (b : Bool) → limit ≤ top → nat_lt n top ≡ b
    → only_below limit (elim b [ true ↦ Some n | false ↦ None ]) ≡ only_below limit (Some n)
narrow_by limit top n true h e = refl
narrow_by limit top n false h e = ap (λ (t : Bool). elim t [ true ↦ Some n | false ↦ None ]) (sym (not_below n limit top h e))

narrow : (limit top : ℕ) (o : Option ℕ) → limit ≤ top → only_below limit (only_below top o) ≡ only_below limit o
narrow limit top None h = refl
narrow limit top (Some n) h = narrow_by limit top n (nat_lt n top) h refl

pub narrowed : (limit top : ℕ) (t : Text) (o : Option ℕ) → limit ≤ top → o ≡ number_below top t → only_below limit o ≡ number_below limit t
narrowed limit top t o h e = ap (only_below limit) e ∙ narrow limit top (number_of t) h

-- of at most eight digits

test_below : (n limit : ℕ) → n < limit → nat_lt n limit ≡ true
test_below n limit h = grind (arith, nat_tests)

kept_below : (limit : ℕ) (o : Option ℕ) → IfSome o (λ n. n < limit) → o ≡ only_below limit o
kept_below limit None h = refl
kept_below limit (Some n) h = sym (ap (λ (b : Bool). elim b [ true ↦ Some n | false ↦ None ]) (test_below n limit h))

pub counted : (limit : ℕ) (t : Text) (o : Option ℕ) → length t ≤ 8 → o ≡ count_of t → IfSome o (λ n. n < limit) → o ≡ number_below limit t
counted limit t o h e within =
    kept_below limit o within
    ∙ ap (only_below limit) (e ∙ ap (λ (b : Bool). elim b [ true ↦ number_of t | false ↦ None ]) (le-leb (length t) 8 h))

-- a number below zero
pub negated : (ws : Items) (n : ℕ) (z : ℤ) (o : Option ℕ) → Some n ≡ o → (n ≡ 0 → ⊥) → z ≡ negsuc (n - 1) → negative_by ws o ≡ Some (z, ws)
negated ws n z o e some is = ap (negative_by ws) (sym e) ∙ by n some ∙ ap (λ (k : ℤ). Some (k, ws)) (sym is)
  where
    by : (n : ℕ) → (n ≡ 0 → ⊥) → negative_by ws (Some n) ≡ Some (negsuc (n - 1), ws)
    by zero h = absurd (h refl)
    by (suc k) h =
        let less : k ≡ suc k - 1 = omega arith in
        ap (λ (m : ℕ). Some (negsuc m, ws)) less
