-- Notes of what was read, and moves in two parts.
use Rattle.std.proofs.Common.{◌≡◌, ◌≤◌, ◌+◌, ◌-◌, ◌==◌, ◌∷◌, ◌++◌, [], ℕ, zero, suc, nat_lt, true, false, List, map, refl, sym, ap, ◌∙◌, arith}
use Rattle.asp_model.specs.Configuration.{Activity}
use Rattle.law_peeks.specs.Needs.{Peek, with_peek}
use Rattle.law_peeks.specs.Moves.{Contracts, IsMoved, LeaseMove, Peeks, bare, contractions, peeks, trailing, unless_followed}
use Rattle.law_peeks.specs.Noted.{MovesArePartable, NotesGoOn, NotesTell, noted, noted_at, noted_from, noted_on}

-- Numbers

itself : (n : ℕ) → (n == n) ≡ true
itself n = grind arith

less : (n k : ℕ) → (n == suc (n + k)) ≡ false
less n k = grind arith

below : (n k : ℕ) → nat_lt n (suc (n + k)) ≡ true
below n k = grind arith

not_below : (n k : ℕ) → nat_lt (n + k) n ≡ false
not_below n k = grind arith

-- All that was read

all_noted : (ms : List LeaseMove) (n : ℕ) → peeks ms ≡ map (λ y. y.1) (noted_from n ms)
all_noted [] n = refl
all_noted (Contracts ∷ ms) n = all_noted ms (suc n)
all_noted (Peeks x ∷ ms) n = ap (λ xs. x ∷ xs) (all_noted ms n)

-- what is behind all contractions, where n were before
trails : (ms : List LeaseMove) (n k : ℕ) → n + contractions ms ≡ k → trailing ms ≡ noted_at k (noted_from n ms)
trails [] n k e = refl
trails (Contracts ∷ ms) n k e = trails ms (suc n) k (omega (arith, e))
trails (Peeks x ∷ ms) n k e = by (contractions ms) refl (trails ms n k e)
  where
    by : (j : ℕ) → contractions ms ≡ j → trailing ms ≡ noted_at k (noted_from n ms) → unless_followed (contractions ms) x (trailing ms) ≡ noted_at k ((n, x) ∷ noted_from n ms)
    by zero is rest =
        let same : k ≡ n = omega (arith, e, is) in
        (λ i. unless_followed (is i) x (rest i))
        ∙ ap (λ b. elim b [ true ↦ x ∷ noted_at k (noted_from n ms) | false ↦ noted_at k (noted_from n ms) ]) (sym (ap (λ j. n == j) same ∙ itself n))
    by (suc j) is rest =
        let more : k ≡ suc (n + j) = omega (arith, e, is) in
        (λ i. unless_followed (is i) x (rest i))
        ∙ ap (λ b. elim b [ true ↦ x ∷ noted_at k (noted_from n ms) | false ↦ noted_at k (noted_from n ms) ]) (sym (ap (λ m. n == m) more ∙ less n j))

pub notes_tell : NotesTell
notes_tell ms = (all_noted ms 0, trails ms 0 (contractions ms) (omega arith))

-- What is noted later

bare_notes : (r n : ℕ) → noted_from n (bare r) ≡ []
bare_notes zero n = refl
bare_notes (suc r) n = bare_notes r (suc n)

more_contractions : (ms : List LeaseMove) (r n : ℕ) → noted_from n (ms ++ bare r) ≡ noted_from n ms
more_contractions [] r n = bare_notes r n
more_contractions (Contracts ∷ ms) r n = more_contractions ms r (suc n)
more_contractions (Peeks x ∷ ms) r n = ap (λ ys. (n, x) ∷ ys) (more_contractions ms r n)

one_more : (ms : List LeaseMove) (x : Peek) (n k : ℕ) → n + contractions ms ≡ k → noted_from n (ms ++ Peeks x ∷ []) ≡ noted_from n ms ++ (k, x) ∷ []
one_more [] x n k e = let same : n ≡ k = omega (arith, e) in ap (λ j. (j, x) ∷ []) same
one_more (Contracts ∷ ms) x n k e = one_more ms x (suc n) k (omega (arith, e))
one_more (Peeks y ∷ ms) x n k e = ap (λ ys. (n, y) ∷ ys) (one_more ms x n k e)

pub notes_go_on : NotesGoOn
notes_go_on ms = (λ r. more_contractions ms r 0, λ x. one_more ms x 0 (contractions ms) (omega arith))

-- Two parts

-- counted from n, all that is noted behind n is kept
kept_on : (ms : List LeaseMove) (n k : ℕ) → noted_on n (noted_from (n + k) ms) ≡ noted_from k ms
kept_on [] n k = refl
kept_on (Contracts ∷ ms) n k =
    let one : suc (n + k) ≡ n + suc k = omega arith in
    ap (λ j. noted_on n (noted_from j ms)) one ∙ kept_on ms n (suc k)
kept_on (Peeks x ∷ ms) n k =
    let rest : (n + k) - n ≡ k = omega arith in
    ap (λ b. elim b [ true ↦ noted_on n (noted_from (n + k) ms) | false ↦ ((n + k) - n, x) ∷ noted_on n (noted_from (n + k) ms) ]) (not_below n k)
    ∙ (λ i. (rest i, x) ∷ kept_on ms n k i)

-- so it is where m were before all
record IsPartedFrom (m : ℕ) (ms : List LeaseMove) (a b : Activity) (g : ℕ) : Type 0 where
  first : List LeaseMove
  rest : List LeaseMove
  both : ms ≡ first ++ rest
  here : Activity
  before : IsMoved first a here
  behind : IsMoved rest here b
  count : contractions first ≡ g
  left : contractions rest ≡ contractions ms - g
  ends : trailing first ≡ []
  notes : noted rest ≡ noted_on (m + g) (noted_from m ms)

part : (m : ℕ) (ms : List LeaseMove) (a b : Activity) (g : ℕ) → IsMoved ms a b → g ≤ contractions ms → IsPartedFrom m ms a b g
part m ms a b zero run within =
    let none : m + 0 ≡ m = omega arith in record {
      first = [];
      rest = ms;
      both = refl;
      here = a;
      before = refl;
      behind = run;
      count = refl;
      left = omega arith;
      ends = refl;
      notes = sym (ap (λ j. noted_on j (noted_from m ms)) none ∙ ap (λ j. noted_on m (noted_from j ms)) (sym none) ∙ kept_on ms m 0);
    }
part m [] a b (suc g) run within = absurd (no_more within)
  where
    no_more : suc g ≤ 0 → ⊥
    no_more h = omega (arith, h)
part m (Contracts ∷ ms) a b (suc g) run within =
    let x = part (suc m) ms run.0 b g run.2 (omega (arith, within)) in
    let one : suc m + g ≡ m + suc g = omega arith in record {
      first = Contracts ∷ x.first;
      rest = x.rest;
      both = ap (λ ns. Contracts ∷ ns) x.both;
      here = x.here;
      before = (run.0, run.1, x.before);
      behind = x.behind;
      count = ap suc x.count;
      left = omega (arith, x.left);
      ends = x.ends;
      notes = x.notes ∙ ap (λ j. noted_on j (noted_from (suc m) ms)) one;
    }
part m (Peeks y ∷ ms) a b (suc g) run within =
    let x = part m ms (with_peek a y) b (suc g) run.1 within in
    let more : m + suc g ≡ suc (m + g) = omega arith in record {
      first = Peeks y ∷ x.first;
      rest = x.rest;
      both = ap (λ ns. Peeks y ∷ ns) x.both;
      here = x.here;
      before = (run.0, x.before);
      behind = x.behind;
      count = x.count;
      left = x.left;
      ends = (λ i. unless_followed (x.count i) y (x.ends i));
      notes =
          x.notes
          ∙ ap (λ c. elim c [ true ↦ noted_on (m + suc g) (noted_from m ms) | false ↦ (m - (m + suc g), y) ∷ noted_on (m + suc g) (noted_from m ms) ])
          (sym (ap (λ j. nat_lt m j) more ∙ below m g));
    }

pub moves_are_partable : MovesArePartable
moves_are_partable ms a b g run within =
    let x = part 0 ms a b g run within in
    let none : 0 + g ≡ g = omega arith in record {
      first = x.first;
      rest = x.rest;
      both = x.both;
      here = x.here;
      before = x.before;
      behind = x.behind;
      count = x.count;
      left = x.left;
      ends = x.ends;
      notes = x.notes ∙ ap (λ j. noted_on j (noted ms)) none;
    }
