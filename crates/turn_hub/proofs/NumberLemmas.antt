-- How often a number stands among numbers.
use Rattle.std.proofs.Common.{◌≡◌, ◌≢◌, ℕ, zero, suc, ◌+◌, ◌-◌, ◌<◌, ◌≤◌, cond, true, false, nat_lt, List, [], ◌∷◌, ◌++◌, length, refl, ap, ◌∙◌, eq-eqb, ne_eqb, arith}
use Rattle.std.proofs.lemmas.Bool.Decides.{nat_tests}
use Rattle.turn_hub.specs.Numbers.{times, once_below, behind, own}

pub times_here : (n : ℕ) (ns : List ℕ) → times n (n ∷ ns) ≡ 1 + times n ns
times_here n ns = ap (λ b. cond b 1 0 + times n ns) (eq-eqb n n refl)

pub times_else : (n m : ℕ) (ns : List ℕ) → n ≢ m → times n (m ∷ ns) ≡ times n ns
times_else n m ns ne = ap (λ b. cond b 1 0 + times n ns) (ne_eqb n m ne) ∙ (omega arith)

-- a number that does not stand there is not the first
pub times_none : (k n : ℕ) (ns : List ℕ) → times k (n ∷ ns) ≡ 0 → n ≢ k
times_none k n ns none same = let here = times_here k ns in let both : times k (n ∷ ns) ≡ times k (k ∷ ns) = ap (λ m. times k (m ∷ ns)) same in omega arith

pub times-append : (k : ℕ) (ms ns : List ℕ) → times k (ms ++ ns) ≡ times k ms + times k ns
times-append k [] ns = omega arith
times-append k (m ∷ ms) ns = let below = times-append k ms ns in omega arith

pub times_empty : (n : ℕ) (ns : List ℕ) → length ns ≡ 0 → times n ns ≡ 0
times_empty n [] none = refl
times_empty n (m ∷ ns) none = absurd (omega arith)

-- a seat's own number stands among its numbers
pub own_there : (ns : List ℕ) → 0 < length ns → 1 ≤ times (own ns) ns
own_there [] some_number = absurd (omega arith)
own_there (n ∷ ns) some_number = let here = times_here n ns in omega arith

pub length-behind : (n k : ℕ) → length (behind n k) ≡ k
length-behind n zero = refl
length-behind n (suc k) = let below = length-behind n k in omega arith

pub length_both : (ms ns : List ℕ) → length (ms ++ ns) ≡ length ms + length ns
length_both [] ns = omega arith
length_both (m ∷ ms) ns = let below = length_both ms ns in omega arith

-- as many numbers as parts
pub parts_length : (n parts : ℕ) (ns : List ℕ) → 0 < parts → ns ≡ n ∷ behind n (parts - 1) → length ns ≡ parts
parts_length n parts ns some_part is = let more = length-behind n (parts - 1) in let all : length ns ≡ suc (length (behind n (parts - 1))) = ap length is in omega arith

-- behind 0 stand the numbers from 1 to k, each once
pub behind_once : (k n : ℕ) → times n (0 ∷ behind 0 k) ≡ once_below (suc k) n
behind_once zero n = grind (arith, nat_tests)
behind_once (suc k) n = let below = behind_once k n in grind (arith, nat_tests)

pub once_at_most : (seats n : ℕ) → once_below seats n ≤ 1
once_at_most seats n = elim (nat_lt n seats) as (λ b. cond b 1 0 ≤ 1) [ true ↦ omega arith | false ↦ omega arith ]

pub once_there : (seats n : ℕ) → n < seats → once_below seats n ≡ 1
once_there seats n low = grind (arith, nat_tests)
