-- Numbers read digit by digit.
use Rattle.std.proofs.Common.{◌≡◌, ℕ, suc, Option, ◌+◌, ◌-◌, ◌*◌, ◌^◌, ◌<◌, ◌≤◌, Bool, true, false, not, List, [], ◌∷◌, ◌++◌, length, take, get_or, min, Some, None, refl, ap, sym, ◌∙◌, drop, arith}
use Rattle.std.specs.Prelude.{◌==◌, ◌&&◌, nat_lt}
use Rattle.std.specs.List.{list_all}
use Rattle.std.specs.Str.{all_ascii_digits}
use Rattle.std.specs.Str.Parse.{digits_value, digits_value_after}
use Rattle.std.specs.Char.{is_ascii_digit, digit_value}
use Rattle.std.specs.Int.{IsInRange}
use Rattle.std.proofs.lemmas.Bool.{and_parts, le-leb, leb-true}
use Rattle.std.proofs.lemmas.Bool.Decides.{nat_tests}
use Rattle.std.specs.Option.{unwrap_or}
use Rattle.std.proofs.lemmas.List.{take_more, take-append-drop}
use Rattle.std.proofs.lemmas.Str.Parse.{numerals_by_value, tells_all_ascii_digits, digits_value_short, digit_at}
use Rattle.asp_model.specs.ReportLines.{is_numeral, number_of, count_of}
use Rattle.text_lines.specs.Numbers.{only_below}

pub digits_are : (bs : List ℕ) → list_all is_ascii_digit bs ≡ all_ascii_digits bs
digits_are [] = refl
digits_are (b ∷ bs) = ap (λ t. is_ascii_digit b && t) (digits_are bs)

-- One digit or more

pub numeral_digits : (bs : List ℕ) → is_numeral bs ≡ true → all_ascii_digits bs ≡ true
numeral_digits [] h = refl
numeral_digits (b ∷ []) h = h
numeral_digits (b ∷ c ∷ bs) h = (and_parts (not (b == 48)) (all_ascii_digits (b ∷ c ∷ bs)) h).1

-- The value

pub digit_at_is : (ds : List ℕ) (i : ℕ) → all_ascii_digits ds ≡ true → i < length ds → IsInRange 48 57 (get_or ds i 0)
digit_at_is ds i h l = digit_at ds i ((numerals_by_value _ tells_all_ascii_digits).to ds h) l

after-append : (n : ℕ) (ds es : List ℕ) → digits_value_after 10 n (ds ++ es) ≡ digits_value_after 10 (digits_value_after 10 n ds) es
after-append n [] es = refl
after-append n (d ∷ ds) es = after-append (n * 10 + digit_value d) ds es

digit_value_is : (d : ℕ) → 48 ≤ d → d ≤ 57 → digit_value d ≡ d - 48
digit_value_is d h k = grind (arith, nat_tests)

capped : (x v e top : ℕ) → v ≡ min x top → min (v * 10 + e) top ≡ min (x * 10 + e) top
capped x v e top h = omega arith

-- one more digit, of a number that counts only below the top
pub value_more : (ds : List ℕ) (i d v top : ℕ) → all_ascii_digits ds ≡ true → i < length ds → d ≡ get_or ds i 0 → v ≡ min (digits_value 10 (take i ds)) top → min (v * 10 + (d - 48)) top ≡ min (digits_value 10 (take (i + 1) ds)) top
value_more ds i d v top h l e k =
    let in_range = digit_at_is ds i h l in
    let glyph : digit_value (get_or ds i 0) ≡ d - 48 = digit_value_is (get_or ds i 0) in_range.0 in_range.1 ∙ ap (λ x. x - 48) (sym e) in
    let more : digits_value 10 (take (i + 1) ds) ≡ digits_value 10 (take i ds) * 10 + (d - 48) =
    ap (digits_value 10) (take_more ds i 0 l) ∙ after-append 0 (take i ds) (get_or ds i 0 ∷ []) ∙ ap (λ x. digits_value 10 (take i ds) * 10 + x) glyph in
    capped (digits_value 10 (take i ds)) v (d - 48) top k ∙ ap (λ x. min x top) (sym more)

le_value_after : (n : ℕ) (ds : List ℕ) → n ≤ digits_value_after 10 n ds
le_value_after n [] = omega arith
le_value_after n (d ∷ ds) = omega (arith, le_value_after (n * 10 + digit_value d) ds)

-- one more digit
one_more : (ds : List ℕ) (i d v : ℕ) → all_ascii_digits ds ≡ true → i < length ds → d ≡ get_or ds i 0 - 48 → v ≡ digits_value 10 (take i ds) → v * 10 + d ≡ digits_value 10 (take (i + 1) ds)
one_more ds i d v h l e k =
    let in_range = digit_at_is ds i h l in
    let glyph : digit_value (get_or ds i 0) ≡ d = digit_value_is (get_or ds i 0) in_range.0 in_range.1 ∙ sym e in
    let more : digits_value 10 (take (i + 1) ds) ≡ digits_value 10 (take i ds) * 10 + d =
    ap (digits_value 10) (take_more ds i 0 l) ∙ after-append 0 (take i ds) (get_or ds i 0 ∷ []) ∙ ap (λ x. digits_value 10 (take i ds) * 10 + x) glyph in
    omega (arith, k, more)

-- the first digits write no more than all
first_value : (ds : List ℕ) (i : ℕ) → digits_value 10 (take i ds) ≤ digits_value 10 ds
first_value ds i =
    let whole : digits_value 10 ds ≡ digits_value_after 10 (digits_value 10 (take i ds)) (drop i ds) = ap (digits_value 10) (sym (take-append-drop i ds)) ∙ after-append 0 (take i ds) (drop i ds) in
    omega (arith, whole, le_value_after (digits_value 10 (take i ds)) (drop i ds))

-- Numbers below a bound

test_below : (n m : ℕ) → n < m → nat_lt n m ≡ true
test_below n m h = grind (arith, nat_tests)

test_above : (n m : ℕ) → m ≤ n → nat_lt n m ≡ false
test_above n m h = grind (arith, nat_tests)

above_test : (m n : ℕ) → nat_lt n m ≡ false → m ≤ n
above_test m n h = grind (arith, nat_tests)

some_is : (x y : ℕ) → Some x ≡ Some y → x ≡ y
some_is x y e = ap (λ o. unwrap_or o x) e

-- the number, below the bound
record IsBelow (bound n m : ℕ) : Type 0 where
  same : m ≡ n
  below : n < bound

below_both : (bound n m : ℕ) (b : Bool) → nat_lt n bound ≡ b → Some m ≡ elim b [ true ↦ Some n | false ↦ None ] → IsBelow bound n m
below_both bound n m true t e = record { same = some_is m n e; below = leb-true (suc n) bound t }
below_both bound n m false t e = absurd cc

is_below : (bound n m : ℕ) → Some m ≡ only_below bound (Some n) → IsBelow bound n m
is_below bound n m e = below_both bound n m (nat_lt n bound) refl e

pub below_is : (bound n m : ℕ) → m ≡ n → n < bound → Some m ≡ only_below bound (Some n)
below_is bound n m e h = ap (λ k. Some k) e ∙ sym (ap (λ b. elim b [ true ↦ Some n | false ↦ None ]) (test_below n bound h))

abbrev some_if : ℕ → Bool → Option ℕ
some_if n true = Some n
some_if n false = None

not_above : (bound n : ℕ) (b : Bool) → nat_lt n bound ≡ b → some_if n b ≡ None → bound ≤ n
not_above bound n true t e = absurd cc
not_above bound n false t e = above_test bound n t

pub above : (bound n : ℕ) → bound ≤ n → None ≡ only_below bound (Some n)
above bound n h = sym (ap (λ b. elim b [ true ↦ Some n | false ↦ None ]) (test_above n bound h))

pub more_below : (bound : ℕ) (ds : List ℕ) (i d v w : ℕ) → all_ascii_digits ds ≡ true → i < length ds → d ≡ get_or ds i 0 - 48 → Some v ≡ only_below bound (Some (digits_value 10 (take i ds))) → Some w ≡ only_below bound (Some (v * 10 + d)) → Some w ≡ only_below bound (Some (digits_value 10 (take (i + 1) ds)))
more_below bound ds i d v w h l e k m =
    let old = is_below bound (digits_value 10 (take i ds)) v k in
    m ∙ ap (λ n. only_below bound (Some n)) (one_more ds i d v h l e old.same)

-- too many digits
pub stops_above : (bound : ℕ) (ds : List ℕ) (i d v : ℕ) → all_ascii_digits ds ≡ true → i < length ds → d ≡ get_or ds i 0 - 48 → Some v ≡ only_below bound (Some (digits_value 10 (take i ds))) → None ≡ only_below bound (Some (v * 10 + d)) → None ≡ only_below bound (Some (digits_value 10 ds))
stops_above bound ds i d v h l e k m =
    let old = is_below bound (digits_value 10 (take i ds)) v k in
    let over : bound ≤ v * 10 + d = not_above bound (v * 10 + d) (nat_lt (v * 10 + d) bound) refl (sym m) in
    above bound (digits_value 10 ds) (omega (arith, over, one_more ds i d v h l e old.same, first_value ds (i + 1)))

pub short_value : (ds : List ℕ) → all_ascii_digits ds ≡ true → length ds ≤ 8 → digits_value 10 ds < 10 ^ 8
short_value ds h l = digits_value_short (numerals_by_value _ tells_all_ascii_digits) ds 8 h l

-- What is read

numeral_is : (t : List ℕ) (b : Bool) → b ≡ is_numeral t → b ≡ true → number_of t ≡ Some (digits_value 10 t)
numeral_is t b e h = ap (λ c. elim c [ true ↦ Some (digits_value 10 t) | false ↦ None ]) (sym e ∙ h)

pub a_count : (t : List ℕ) (b : Bool) (n : ℕ) → b ≡ is_numeral t → b ≡ true → length t ≤ 8 → n ≡ min (digits_value 10 t) (2 ^ 32) → Some n ≡ count_of t
a_count t b n e h l v =
    let small = short_value t (numeral_digits t (sym e ∙ h)) l in
    let same : n ≡ digits_value 10 t = omega arith in
    ap (λ m. Some m) same ∙ sym (ap (λ c. elim c [ true ↦ number_of t | false ↦ None ]) (le-leb (length t) 8 l) ∙ numeral_is t b e h)
