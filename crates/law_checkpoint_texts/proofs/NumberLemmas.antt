-- Numbers of any size: whose decimals are those of a number of 64 bits, is that number.
use Rattle.std.proofs.Common.{◌≡◌, ℕ, ℤ, pos, negsuc, zero, suc, ◌+◌, ◌/◌, ◌%◌, ◌<◌, ◌≤◌, ◌^◌, Bool, true, false, [], ◌∷◌, length, drop, refl, sym, ap, ◌∙◌, arith, zero-add}
use Rattle.std.specs.Prelude.{nat_lt, if◌then◌else◌}
use Rattle.std.specs.Str.{all_ascii_digits}
use Rattle.std.specs.Str.Parse.{digits_value}
use Rattle.std.specs.Fmt.{decimal, signed_decimal, digits, digits_onto, digit_glyph}
use Rattle.std.proofs.lemmas.Bool.{ne_eqb, ltb-true, ltb-false}
use Rattle.std.proofs.lemmas.Fmt.{decimal_is_IsNumeral, decimal_is_IsNumeral_wide, length-decimal-le}
use Rattle.asp_model.specs.Names.{Text}
use Rattle.law_reports.proofs.DigitLemmas.{decimal_digits}
use Rattle.checkpoint_text.specs.Writable.{IsSigned}

-- A number of more than 64 digits has 64

some_power : (k : ℕ) → 1 ≤ 10 ^ k
some_power zero = omega arith
some_power (suc k) = let h : 1 ≤ 10 ^ k = some_power k in omega (arith, h)

by_last : ℕ → ℕ → Text → Bool → Text
by_last k n ds b =
    if b then (digit_glyph false (n % 10) ∷ ds) else (digits_onto k 10 false (n / 10) (digit_glyph false (n % 10) ∷ ds))

long_spelled : (k n : ℕ) (ds : Text) → 10 ^ k ≤ n → length (digits_onto k 10 false n ds) ≡ k + length ds
unfolding by_last
long_spelled zero n ds h = sym (zero-add (length ds))
long_spelled (suc k) n ds h =
    let some : 1 ≤ 10 ^ k = some_power k in
    let more : n / 10 ≡ 0 → ⊥ = λ e. omega (arith, h, some, e) in
    ap (λ (b : Bool). length (by_last k n ds b)) (ne_eqb (n / 10) 0 more)
    ∙ long_spelled k (n / 10) (digit_glyph false (n % 10) ∷ ds) (omega (arith, h))
    ∙ omega arith

long_decimal : (n : ℕ) → 10 ^ 64 ≤ n → length (decimal n) ≡ 64
unfolding digits
long_decimal n h = long_spelled 64 n [] h

-- Whose decimals are these

by_size : (n m : ℕ) → m < 2 ^ 64 → decimal n ≡ decimal m → (b : Bool) → nat_lt n (10 ^ 64) ≡ b → n ≡ m
by_size n m small e true t =
    sym (decimal_is_IsNumeral_wide n (ltb-true n (10 ^ 64) t)).1 ∙ ap (digits_value 10) e
    ∙ (decimal_is_IsNumeral m small).1
by_size n m small e false t =
    let long : length (decimal n) ≡ 64 = long_decimal n (ltb-false n (10 ^ 64) t) in
    let short : length (decimal m) ≤ 20 = length-decimal-le 20 m (omega arith) (omega arith) small in
    let same : length (decimal n) ≡ length (decimal m) = ap length e in
    absurd (omega (arith, long, short, same))

pub number_same : (n m : ℕ) → m < 2 ^ 64 → decimal n ≡ decimal m → n ≡ m
number_same n m small e = by_size n m small e (nat_lt n (10 ^ 64)) refl

-- With a sign

no_sign : (ds : Text) → all_ascii_digits (45 ∷ ds) ≡ true → ⊥
no_sign ds h = cc

pub signed_same : (y z : ℤ) → IsSigned z → signed_decimal y ≡ signed_decimal z → y ≡ z
signed_same (pos n) (pos m) small e = ap pos (number_same n m (omega (arith, small)) e)
signed_same (pos n) (negsuc m) small e =
    absurd (no_sign (decimal (suc m)) (ap all_ascii_digits (sym e) ∙ decimal_digits n))
signed_same (negsuc n) (pos m) small e = absurd (no_sign (decimal (suc n)) (ap all_ascii_digits e ∙ decimal_digits m))
signed_same (negsuc n) (negsuc m) small e =
    let same : suc n ≡ suc m = number_same (suc n) (suc m) (omega (arith, small)) (ap (drop 1) e) in
    ap negsuc (omega (arith, same))
