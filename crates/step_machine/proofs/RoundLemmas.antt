-- The calls of a group of calls, and where their places lie.
use Rattle.std.proofs.Common.{◌≡◌, ℕ, zero, suc, ◌+◌, ◌-◌, ◌<◌, ◌≤◌, List, [], ◌∷◌, ◌++◌, Option, Some, None, length, map, take, drop, get_or, slice_range, refl, sym, ap, ◌∙◌, arith, length-append, length-drop, append_assoc}
use Rattle.std.proofs.lemmas.List.{drop-append-le, take-append-le, get_or_append_left, get_or-append-add}
use Rattle.std.proofs.Math.Seq.{drop-append_seam, take-append_seam, drop-cons}
use Rattle.asp_model.specs.Names.{Text}
use Rattle.asp_model.specs.Term.{Call, Trees, node, none, more, loc, locs_then}
use Rattle.asp_model.specs.Contraction.{broadcast, scattered}
use Rattle.step_machine.specs.declared.calls.Round.{Round}
use Rattle.step_machine.specs.declared.frames.Spread.{Spread}
use Rattle.step_machine.specs.declared.frames.Spread.TheVariants as spread
use Rattle.step_machine.specs.Calls.{IsRoundAt, beside_count, calls, pairs, rounds, round_in}

-- The calls of the definition

pub broadcast_calls : (l : Text) (ns ks : List ℕ) → broadcast l ns ks ≡ calls l (map (λ n. n ∷ ks) ns)
broadcast_calls l [] ks = refl
broadcast_calls l (n ∷ ns) ks = ap (more (node (Call l) (more (loc n) (locs_then ks none)))) (broadcast_calls l ns ks)

pub scattered_calls : (l : Text) (ns ks : List ℕ) → length ns ≡ length ks → scattered l ns ks ≡ Some (calls l (pairs ns ks))
scattered_calls l [] [] e = refl
scattered_calls l [] (k ∷ ks) e = absurd (omega (arith, e))
scattered_calls l (n ∷ ns) [] e = absurd (omega (arith, e))
scattered_calls l (n ∷ ns) (k ∷ ks) e =
    let same : length ns ≡ length ks = omega (arith, e) in
    ap (λ (o : Option Trees). elim o [ None ↦ None | Some ts ↦ Some (more (node (Call l) (more (loc n) (more (loc k) none))) ts) ]) (scattered_calls l ns ks same)

-- One call after the other

-- the places of the call with a number
abbrev pub round : Spread → (given members beside : List ℕ) → ℕ → List ℕ
round spread.Same given ns os r = get_or ns r 0 ∷ drop 1 given
round spread.Own given ns os r = get_or ns r 0 ∷ get_or os r 0 ∷ []

same_round : (given ns : List ℕ) (r : ℕ) → r < length ns → drop r (map (λ n. n ∷ drop 1 given) ns) ≡ (get_or ns r 0 ∷ drop 1 given) ∷ drop (suc r) (map (λ n. n ∷ drop 1 given) ns)
same_round given [] r lt = absurd (omega (arith, lt))
same_round given (n ∷ ns) zero lt = refl
same_round given (n ∷ ns) (suc r) lt = let less : r < length ns = omega (arith, lt) in same_round given ns r less

own_round : (ns os : List ℕ) (r : ℕ) → r < length ns → length os ≡ length ns → drop r (pairs ns os) ≡ (get_or ns r 0 ∷ get_or os r 0 ∷ []) ∷ drop (suc r) (pairs ns os)
own_round [] os r lt e = absurd (omega (arith, lt))
own_round (n ∷ ns) [] r lt e = absurd (omega (arith, e))
own_round (n ∷ ns) (k ∷ os) zero lt e = refl
own_round (n ∷ ns) (k ∷ os) (suc r) lt e = let less : r < length ns = omega (arith, lt) in let same : length os ≡ length ns = omega (arith, e) in own_round ns os r less same

pub next_round : (s : Spread) (given ns os : List ℕ) (r : ℕ) → r < length ns → length os ≡ beside_count s (length ns) → drop r (rounds s given ns os) ≡ round s given ns os r ∷ drop (suc r) (rounds s given ns os)
next_round spread.Same given ns os r lt e = same_round given ns r lt
next_round spread.Own given ns os r lt e = own_round ns os r lt e

same_over : (given ns : List ℕ) (r : ℕ) → length ns ≤ r → (let over : List (List ℕ) = [] in drop r (map (λ n. n ∷ drop 1 given) ns) ≡ over)
same_over given [] zero le = refl
same_over given [] (suc r) le = refl
same_over given (n ∷ ns) zero le = absurd (omega (arith, le))
same_over given (n ∷ ns) (suc r) le = let less : length ns ≤ r = omega (arith, le) in same_over given ns r less

own_over : (ns os : List ℕ) (r : ℕ) → length ns ≤ r → (let over : List (List ℕ) = [] in drop r (pairs ns os) ≡ over)
own_over [] os zero le = refl
own_over [] os (suc r) le = refl
own_over (n ∷ ns) os zero le = absurd (omega (arith, le))
own_over (n ∷ ns) [] (suc r) le = refl
own_over (n ∷ ns) (k ∷ os) (suc r) le = let less : length ns ≤ r = omega (arith, le) in own_over ns os r less

-- none is left
pub rounds_over : (s : Spread) (given ns os : List ℕ) (r : ℕ) → length ns ≤ r → (let over : List (List ℕ) = [] in drop r (rounds s given ns os) ≡ over)
rounds_over spread.Same given ns os r le = same_over given ns r le
rounds_over spread.Own given ns os r le = own_over ns os r le

-- Where they lie

pub range_within : (xs ys : List ℕ) (i j : ℕ) → i ≤ j → j ≤ length xs → slice_range (xs ++ ys) i j ≡ slice_range xs i j
range_within xs ys i j le within =
    let low : i ≤ length xs = omega (arith, le, within) in
    let size : length (drop i xs) ≡ length xs - i = length-drop i xs in
    let less : j - i ≤ length (drop i xs) = omega (arith, size, le, within) in
    ap (take (j - i)) (drop-append-le i xs ys low) ∙ take-append-le (j - i) (drop i xs) ys less

-- a part in the middle
middle : (a b c : List ℕ) → slice_range (a ++ (b ++ c)) (length a) (length a + length b) ≡ b
middle a b c =
    let size : length a + length b - length a ≡ length b = omega arith in
    ap (λ (n : ℕ). take n (drop (length a) (a ++ (b ++ c)))) size ∙ ap (take (length b)) (drop-append_seam a (b ++ c)) ∙ take-append_seam b c

one_part : (xs : List ℕ) (i : ℕ) → i < length xs → slice_range xs i (i + 1) ≡ get_or xs i 0 ∷ []
one_part xs i lt =
    let size : i + 1 - i ≡ 1 = omega arith in
    ap (λ (n : ℕ). take n (drop i xs)) size ∙ ap (take 1) (drop-cons xs i 0 lt)

-- behind a list, and before another
inside : (a b c : List ℕ) (i : ℕ) → i < length b → get_or (a ++ (b ++ c)) (length a + i) 0 ≡ get_or b i 0
inside a b c i lt = get_or-append-add a (b ++ c) i 0 ∙ get_or_append_left b c 0 i lt

same_given : (base given rest : List ℕ) → 1 ≤ length given → slice_range (base ++ (given ++ rest)) (length base + 1) (length base + length given) ≡ drop 1 given
same_given base [] rest le = absurd (omega (arith, le))
same_given base (g ∷ gs) rest le =
    let first : List ℕ = base ++ g ∷ [] in
    let size : length first ≡ length base + 1 = length-append base (g ∷ []) in
    let end : length base + suc (length gs) ≡ length first + length gs = omega (arith, size) in
    let regroup : base ++ (g ∷ (gs ++ rest)) ≡ first ++ (gs ++ rest) = sym (append_assoc base (g ∷ []) (gs ++ rest)) in
    (λ i. slice_range (regroup i) (sym size i) (end i)) ∙ middle first gs rest

-- what lies below, then the operands of a group of calls
abbrev pub laid : (base given ns os rs : List ℕ) → List ℕ
laid base given ns os rs = base ++ (given ++ ns ++ os ++ rs)

to_members : (base given ns os rs : List ℕ) → laid base given ns os rs ≡ (base ++ given) ++ (ns ++ (os ++ rs))
to_members base given ns os rs = ap (λ (l : List ℕ). base ++ l) (append_assoc (given ++ ns) os rs ∙ append_assoc given ns (os ++ rs)) ∙ sym (append_assoc base given (ns ++ (os ++ rs)))

to_beside : (base given ns os rs : List ℕ) → laid base given ns os rs ≡ ((base ++ given) ++ ns) ++ (os ++ rs)
to_beside base given ns os rs = to_members base given ns os rs ∙ sym (append_assoc (base ++ given) ns (os ++ rs))

to_given : (base given ns os rs : List ℕ) → laid base given ns os rs ≡ base ++ (given ++ (ns ++ (os ++ rs)))
to_given base given ns os rs = ap (λ (l : List ℕ). base ++ l) (append_assoc (given ++ ns) os rs ∙ append_assoc given ns (os ++ rs))

receiver_at : (base given ns os rs : List ℕ) (i : ℕ) → i < length ns → get_or (laid base given ns os rs) (length base + length given + i) 0 ≡ get_or ns i 0
receiver_at base given ns os rs i lt =
    let size : length (base ++ given) ≡ length base + length given = length-append base given in
    (λ j. get_or (to_members base given ns os rs j) (sym size j + i) 0) ∙ inside (base ++ given) ns (os ++ rs) i lt

beside_at : (base given ns os rs : List ℕ) (i : ℕ) → i < length os → get_or (laid base given ns os rs) (length base + length given + length ns + i) 0 ≡ get_or os i 0
beside_at base given ns os rs i lt =
    let size0 : length (base ++ given) ≡ length base + length given = length-append base given in
    let size1 : length ((base ++ given) ++ ns) ≡ length (base ++ given) + length ns = length-append (base ++ given) ns in
    let size : length base + length given + length ns ≡ length ((base ++ given) ++ ns) = omega (arith, size0, size1) in
    (λ j. get_or (to_beside base given ns os rs j) (size j + i) 0) ∙ inside ((base ++ given) ++ ns) os rs i lt

pub length-own : (given ns os rs : List ℕ) → length (given ++ ns ++ os ++ rs) ≡ length given + length ns + length os + length rs
length-own given ns os rs =
    let b : length (given ++ ns ++ os ++ rs) ≡ length (given ++ ns ++ os) + length rs = length-append (given ++ ns ++ os) rs in
    let d : length (given ++ ns ++ os) ≡ length (given ++ ns) + length os = length-append (given ++ ns) os in
    let e : length (given ++ ns) ≡ length given + length ns = length-append given ns in
    omega (arith, b, d, e)

-- the places of a call lie where they are looked for
pub round_found : (s : Spread) (base given ns os rs : List ℕ) (i : ℕ) (r : Round) → i < length ns → length os ≡ beside_count s (length ns) → IsRoundAt s (length base) (length given) (length ns) i r
    → round_in r (laid base given ns os rs) ≡ round s given ns os i
round_found spread.Same base given ns os rs i r lt e h =
    let all : List ℕ = laid base given ns os rs in
    let args : slice_range all (length base + 1) (length base + length given) ≡ drop 1 given =
    ap (λ (l : List ℕ). slice_range l (length base + 1) (length base + length given)) (to_given base given ns os rs) ∙ same_given base given (ns ++ (os ++ rs)) h.3 in
    (λ j. get_or all (h.0 j) 0 ∷ slice_range all (h.1 j) (h.2 j)) ∙ (λ j. receiver_at base given ns os rs i lt j ∷ args j)
round_found spread.Own base given ns os rs i r lt e h =
    let all : List ℕ = laid base given ns os rs in
    let less : i < length os = omega (arith, e, lt) in
    let k : ℕ = length base + length given + length ns + i in
    let first : r.first ≡ k = h.1 ∙ omega arith in
    let next : r.end ≡ k + 1 = h.2 ∙ omega arith in
    let whole : length all ≡ length base + length (given ++ ns ++ os ++ rs) = length-append base (given ++ ns ++ os ++ rs) in
    let within : k < length all = omega (arith, whole, length-own given ns os rs, less) in
    let arg : slice_range all k (k + 1) ≡ get_or os i 0 ∷ [] = one_part all k within ∙ ap (λ (n : ℕ). n ∷ []) (beside_at base given ns os rs i less) in
    (λ j. get_or all (h.0 j) 0 ∷ slice_range all (first j) (next j)) ∙ (λ j. receiver_at base given ns os rs i lt j ∷ arg j)

-- a call has as many places as its node was given
pub round_size : (s : Spread) (given ns os : List ℕ) (start members results i : ℕ) (r : Round) → IsRoundAt s start (length given) members results r → length (round s given ns os i) ≡ length given
round_size spread.Same given ns os start members results i r h = let size : length (drop 1 given) ≡ length given - 1 = length-drop 1 given in omega (arith, size, h.3)
round_size spread.Own given ns os start members results i r h = omega (arith, h.3)
