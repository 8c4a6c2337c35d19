-- Numbers items items: what is written of one is read items it, and what is read was written so.
use Rattle.std.proofs.Common.{◌≡◌, ℕ, ℤ, pos, negsuc, zero, suc, ◌+◌, ◌<◌, ◌≤◌, ◌^◌, Bool, true, false, not, [], ◌∷◌, ◌++◌, length, get_or, Option, Some, None, refl, sym, ap, subst, ◌∙◌, arith}
use Rattle.std.specs.Prelude.{◌==◌, ◌&&◌, nat_lt, nat_le, codes}
use Rattle.std.specs.Option.{unwrap_or}
use Rattle.std.specs.Fmt.{decimal}
use Rattle.std.specs.Char.{is_ascii_digit}
use Rattle.std.specs.Str.{all_ascii_digits}
use Rattle.std.specs.Str.Parse.{digits_value}
use Rattle.std.proofs.lemmas.Bool.{and_parts, leb-true, lt-ltb, ltb-true, ne_eqb, eqb-true, eq-eqb}
use Rattle.std.proofs.lemmas.Fmt.{decimal_nonempty, decimal-digits_value}
use Rattle.std.proofs.lemmas.Str.Parse.{numerals_by_value, tells_all_ascii_digits}
use Rattle.asp_model.specs.Names.{Text, same_text}
use Rattle.asp_model.specs.ReportLines.{is_numeral, number_of}
use Rattle.law_reports.proofs.DigitLemmas.{number_is_read, decimal_digits}
use Rattle.text_lines.specs.Numbers.{only_below, number_below}
use Rattle.text_lines.proofs.NumberLemmas.{numeral_digits}
use Rattle.checkpoint_text.specs.Items.{Items, number_items, signed_items}
use Rattle.checkpoint_text.specs.Reading.{first_read, number_to, negative_by, positive_by, signed_by, signed}
use Rattle.checkpoint_text.specs.Writable.{IsSigned}

-- What stands in an option

pub some_same : {X : Type 0} (x y : X) → Some x ≡ Some y → x ≡ y
some_same {X} x y e = ap (λ (o : Option X). unwrap_or o x) e

pub pair_same : {X Y : Type 0} (x u : X) (y v : Y) → ◌≡◌ {A = Option (X × Y)} (Some (x, y)) (Some (u, v)) → (x ≡ u) × (y ≡ v)
pair_same {X} {Y} x u y v e = (ap (λ (o : Option (X × Y)). (unwrap_or o (x, y)).0) e, ap (λ (o : Option (X × Y)). (unwrap_or o (x, y)).1) e)

-- Below a bound

pub below_of : (bound n : ℕ) → bound ≤ 2 ^ 64 → n < bound → number_below bound (decimal n) ≡ Some n
below_of bound n small h =
    ap (only_below bound) (number_is_read n (omega arith))
    ∙ ap (λ b. elim b [ true ↦ Some n | false ↦ None ]) (lt-ltb n bound h)

pub below_is_read : (bound n : ℕ) (ws : Items) → bound ≤ 2 ^ 64 → n < bound → number_to bound (number_items n ++ ws) ≡ Some (n, ws)
below_is_read bound n ws small h = ap (first_read ws) (below_of bound n small h)

some_by : ℕ → Bool → Option ℕ
some_by n b = elim b [ true ↦ Some n | false ↦ None ]

by_test : (n m : ℕ) (b : Bool) → some_by n b ≡ Some m → (b ≡ true) × (n ≡ m)
unfolding some_by
by_test n m true e = (refl, some_same n m e)
by_test n m false e = absurd cc

only_told : (bound : ℕ) (o : Option ℕ) (n : ℕ) → only_below bound o ≡ Some n → (o ≡ Some n) × (n < bound)
unfolding some_by
only_told bound None n e = absurd cc
only_told bound (Some m) n e =
    let t = by_test m n (nat_lt m bound) e in
    let below : m < bound = ltb-true m bound t.0 in
    (ap (λ k. Some k) t.1, omega (arith, t.1, below))

number_told : (t : Text) (n : ℕ) → number_of t ≡ Some n → (is_numeral t ≡ true) × (digits_value 10 t ≡ n)
unfolding some_by
number_told t n e = by_test (digits_value 10 t) n (is_numeral t) e

-- more digits than one do not begin with a 0
leading : (t : Text) → is_numeral t ≡ true → (0 < length t) × (get_or t 0 0 ≡ 48 → length t ≡ 1)
leading [] h = absurd cc
leading (b ∷ []) h = (omega arith, λ e. refl)
leading (b ∷ c ∷ bs) h =
    let p = and_parts (not (b == 48)) (all_ascii_digits (b ∷ c ∷ bs)) h in
    (omega arith, λ e. absurd (clash (b == 48) (eq-eqb b 48 e) p.0))
  where
    clash : (t : Bool) → t ≡ true → not t ≡ true → ⊥
    clash true f g = cc
    clash false f g = cc

pub numeral_is : (t : Text) (n : ℕ) → n < 2 ^ 64 → number_of t ≡ Some n → t ≡ decimal n
numeral_is t n small e =
    let r = number_told t n e in
    let front = leading t r.0 in
    let less : digits_value 10 t < 2 ^ 64 = omega (arith, r.1) in
    sym (decimal-digits_value (numerals_by_value _ tells_all_ascii_digits) t (numeral_digits t r.0) front.0 front.1 less) ∙ ap decimal r.1

pub below_told : (bound : ℕ) (t : Text) (n : ℕ) → bound ≤ 2 ^ 64 → number_below bound t ≡ Some n → (t ≡ decimal n) × (n < bound)
below_told bound t n small e =
    let r = only_told bound (number_of t) n e in
    (numeral_is t n (omega (arith, r.1)) r.0, r.1)

first_told : (o : Option ℕ) (n : ℕ) (ws us : Items) → first_read ws o ≡ Some (n, us) → (o ≡ Some n) × (ws ≡ us)
first_told None n ws us e = absurd cc
first_told (Some m) n ws us e =
    let same = pair_same m n ws us e in
    (ap (λ (k : ℕ). Some k) same.0, same.1)

pub below_is_written : (bound n : ℕ) (ws us : Items) → bound ≤ 2 ^ 64 → number_to bound ws ≡ Some (n, us) → (ws ≡ number_items n ++ us) × (n < bound)
below_is_written bound n [] us small e = absurd cc
below_is_written bound n (w ∷ ws) us small e =
    let r = first_told (number_below bound w) n ws us e in
    let t = below_told bound w n small r.0 in
    ((λ i. t.0 i ∷ r.1 i), t.1)

-- With a sign

not_minus : (c : ℕ) → 48 ≤ c → same_text (c ∷ []) (codes "-") ≡ false
not_minus c h = ap (λ b. b && true) (ne_eqb c 45 (λ e. omega (arith, e, h)))

is_minus : (c : ℕ) → same_text (c ∷ []) (codes "-") ≡ true → c ≡ 45
is_minus c e = eqb-true c 45 (and_parts (c == 45) true e).0

by_sign : Items → ℕ → Text → Bool → Option (ℤ × Items)
by_sign ws c cs b = elim b [ true ↦ negative_by ws (number_below (2 ^ 63 + 1) cs) | false ↦ positive_by ws (number_below (2 ^ 63) (c ∷ cs)) ]

unsigned : (ws : Items) (ds : Text) → all_ascii_digits ds ≡ true → 0 < length ds → signed_by ws ds ≡ positive_by ws (number_below (2 ^ 63) ds)
unfolding by_sign
unsigned ws [] h some = absurd (omega arith)
unsigned ws (c ∷ cs) h some =
    let p = and_parts (is_ascii_digit c) (all_ascii_digits cs) h in
    let at_least : 48 ≤ c = leb-true 48 c (and_parts (nat_le 48 c) (nat_le c 57) p.0).0 in
    ap (by_sign ws c cs) (not_minus c at_least)

pub signed_is_read : (z : ℤ) (ws : Items) → IsSigned z → signed (signed_items z ++ ws) ≡ Some (z, ws)
signed_is_read (pos n) ws h =
    unsigned ws (decimal n) (decimal_digits n) (decimal_nonempty n (omega arith)) ∙ ap (positive_by ws) (below_of (2 ^ 63) n (omega arith) h)
signed_is_read (negsuc n) ws h = ap (negative_by ws) (below_of (2 ^ 63 + 1) (suc n) (omega arith) (omega arith))

positive_told : (o : Option ℕ) (z : ℤ) (ws us : Items) → positive_by ws o ≡ Some (z, us) → (n : ℕ) × (o ≡ Some n) × (pos n ≡ z) × (ws ≡ us)
positive_told None z ws us e = absurd cc
positive_told (Some n) z ws us e =
    let same = pair_same (pos n) z ws us e in
    (n, refl, same.0, same.1)

negative_told : (o : Option ℕ) (z : ℤ) (ws us : Items) → negative_by ws o ≡ Some (z, us) → (n : ℕ) × (o ≡ Some (suc n)) × (negsuc n ≡ z) × (ws ≡ us)
negative_told None z ws us e = absurd cc
negative_told (Some zero) z ws us e = absurd cc
negative_told (Some (suc n)) z ws us e =
    let same = pair_same (negsuc n) z ws us e in
    (n, refl, same.0, same.1)

sign_told : (c : ℕ) (cs : Text) (z : ℤ) (ws us : Items) (b : Bool) → same_text (c ∷ []) (codes "-") ≡ b → by_sign ws c cs b ≡ Some (z, us)
    → ((c ∷ cs) ∷ ws ≡ signed_items z ++ us) × IsSigned z
unfolding by_sign
sign_told c cs z ws us true t e =
    let r = negative_told (number_below (2 ^ 63 + 1) cs) z ws us e in
    let n = below_told (2 ^ 63 + 1) cs (suc r.0) (omega arith) r.1 in
    let small : r.0 < 2 ^ 63 = omega (arith, n.1) in
    ((λ i. (is_minus c t i ∷ n.0 i) ∷ r.3 i) ∙ ap (λ (y : ℤ). signed_items y ++ us) r.2, subst IsSigned r.2 small)
sign_told c cs z ws us false t e =
    let r = positive_told (number_below (2 ^ 63) (c ∷ cs)) z ws us e in
    let n = below_told (2 ^ 63) (c ∷ cs) r.0 (omega arith) r.1 in
    ((λ i. n.0 i ∷ r.3 i) ∙ ap (λ (y : ℤ). signed_items y ++ us) r.2, subst IsSigned r.2 n.1)

pub signed_is_written : (z : ℤ) (ws us : Items) → signed ws ≡ Some (z, us) → (ws ≡ signed_items z ++ us) × IsSigned z
unfolding by_sign
signed_is_written z [] us e = absurd cc
signed_is_written z ([] ∷ ws) us e = absurd cc
signed_is_written z ((c ∷ cs) ∷ ws) us e = sign_told c cs z ws us (same_text (c ∷ []) (codes "-")) refl e
