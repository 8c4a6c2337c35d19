-- Decimal numbers, written and read.
use Rattle.std.proofs.Common.{◌≡◌, ℕ, zero, suc, ◌<◌, ◌≤◌, ◌^◌, ◌/◌, ◌%◌, Bool, true, false, not, [], ◌∷◌, Some, None, refl, ap, ◌∙◌, get_or, length, arith, ℤ, pos, negsuc}
use Rattle.std.specs.Prelude.{◌==◌, nat_lt, nat_le, if◌then◌else◌}
use Rattle.std.specs.Str.{all_ascii_digits}
use Rattle.std.specs.Str.Parse.{digits_value}
use Rattle.std.specs.Char.{is_ascii_digit}
use Rattle.std.specs.Fmt.{decimal, signed_decimal, digits, digits_onto, digit_glyph}
use Rattle.std.proofs.lemmas.Bool.{and_parts, and_from, ne_eqb, leb-true, le-leb}
use Rattle.std.proofs.lemmas.Bool.Decides.{nat_tests}
use Rattle.std.proofs.lemmas.Fmt.{decimal_is_IsNumeral, decimal_digit, decimal_nonempty, first_decimal, length-decimal-le}
use Rattle.asp_model.specs.declared.limits.TheConstants.{MOST_REDUCTIONS}
use Rattle.asp_model.specs.Names.{Text}
use Rattle.asp_model.specs.WellFormed.{is_index}
use Rattle.asp_model.specs.ReportLines.{is_numeral, number_of, only_index, index_of, count_of}
use Rattle.law_reports.proofs.PartsLemmas.{lacks}

is_digit_glyph : (n : ℕ) → is_ascii_digit (digit_glyph false (n % 10)) ≡ true
is_digit_glyph n = grind (arith, nat_tests)

either_way : (b : Bool) (xs ys : Text) → all_ascii_digits xs ≡ true → all_ascii_digits ys ≡ true → all_ascii_digits (if b then xs else ys) ≡ true
either_way true xs ys p q = p
either_way false xs ys p q = q

digits_put : (k n : ℕ) (ds : Text) → all_ascii_digits ds ≡ true → all_ascii_digits (digits_onto k 10 false n ds) ≡ true
digits_put zero n ds h = h
digits_put (suc k) n ds h =
    let more : all_ascii_digits (digit_glyph false (n % 10) ∷ ds) ≡ true = and_from _ _ (is_digit_glyph n) h in
    either_way (n / 10 == 0) _ _ more (digits_put k (n / 10) (digit_glyph false (n % 10) ∷ ds) more)

pub decimal_digits : (n : ℕ) → all_ascii_digits (decimal n) ≡ true
unfolding digits
decimal_digits n = digits_put 64 n [] refl

-- a byte below the digits
pub digits_lack : (c : ℕ) → c < 48 → (ds : Text) → all_ascii_digits ds ≡ true → lacks c ds ≡ true
digits_lack c small [] h = refl
digits_lack c small (d ∷ ds) h =
    let p = and_parts (is_ascii_digit d) (all_ascii_digits ds) h in
    let at_least : 48 ≤ d = leb-true 48 d (and_parts (nat_le 48 d) (nat_le d 57) p.0).0 in
    and_from _ _ (ap not (ne_eqb d c (λ e. omega (arith, e)))) (digits_lack c small ds p.1)

pub decimal_lacks : (c n : ℕ) → c < 48 → lacks c (decimal n) ≡ true
decimal_lacks c n small = digits_lack c small (decimal n) (decimal_digits n)

pub signed_lacks_feed : (z : ℤ) → lacks 10 (signed_decimal z) ≡ true
signed_lacks_feed (pos n) = decimal_lacks 10 n (omega arith)
signed_lacks_feed (negsuc n) = decimal_lacks 10 (suc n) (omega arith)

-- Reading

numeral_from_digits : (ds : Text) → all_ascii_digits ds ≡ true → 0 < length ds → 48 < get_or ds 0 0 → is_numeral ds ≡ true
numeral_from_digits [] h some first = absurd (omega arith)
numeral_from_digits (d ∷ []) h some first = h
numeral_from_digits (d ∷ e ∷ ds) h some first = and_from _ _ (ap not (ne_eqb d 48 (λ i. omega (arith, i)))) h

decimal_is_numeral : (n : ℕ) → n < 2 ^ 64 → is_numeral (decimal n) ≡ true
decimal_is_numeral zero small = ap is_numeral (decimal_digit 0 (omega arith))
decimal_is_numeral (suc n) small = numeral_from_digits (decimal (suc n)) (decimal_digits (suc n)) (decimal_nonempty (suc n) small) (first_decimal (suc n) (omega arith) small)

pub number_is_read : (n : ℕ) → n < 2 ^ 64 → number_of (decimal n) ≡ Some n
number_is_read n small = ap (λ b. elim b [ true ↦ Some (digits_value 10 (decimal n)) | false ↦ None ]) (decimal_is_numeral n small) ∙ ap (λ m. Some m) (decimal_is_IsNumeral n small).1

pub index_is_read : (n : ℕ) → is_index n ≡ true → index_of (decimal n) ≡ Some n
index_is_read n h =
    let below : n < 2 ^ 32 = leb-true (suc n) (2 ^ 32) (and_parts (nat_le 1 n) (nat_lt n (2 ^ 32)) h).1 in
    ap only_index (number_is_read n (omega arith)) ∙ ap (λ b. elim b [ true ↦ Some n | false ↦ None ]) h

pub count_is_read : (n : ℕ) → n ≤ MOST_REDUCTIONS → count_of (decimal n) ≡ Some n
count_is_read n h =
    let short : length (decimal n) ≤ 8 = length-decimal-le 8 n (omega arith) (omega arith) (omega arith) in
    ap (λ b. elim b [ true ↦ number_of (decimal n) | false ↦ None ]) (le-leb (length (decimal n)) 8 short) ∙ number_is_read n (omega arith)
