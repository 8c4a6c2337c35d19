-- Requests in places.
use Rattle.std.proofs.Common.{◌≡◌, ◌<◌, ◌≤◌, ◌+◌, ◌-◌, ◌++◌, ℕ, zero, suc, Bool, true, false, cond, List, [], ◌∷◌, Option, Some, None, IsSome, get_or, set, length, refl, sym, ap, subst, ◌∙◌, true≢false, arith}
use Rattle.std.proofs.lemmas.List.{length_push}
use Rattle.std.specs.Option.{option_map}
use Rattle.std.specs.Ordering.{is_eq, nat_cmp}
use Rattle.std.specs.BTreeMap.{is_at}
use Rattle.std.specs.declared.alloc.Global.{Global}
use Rattle.std.specs.declared.boxed.Box.{Box}
use Rattle.request_queue.specs.declared.request.Request.{Request}
use Rattle.request_queue.specs.Pending.{but, request_at}
use Rattle.request_queue.specs.Places.{Places, placed}
use Rattle.request_queue.proofs.NumberLemmas.{apart, itself, number_same}

abbrev Entries : Type 0
Entries = List (ℕ × Request)

abbrev pub within : Option (Box Request Global) → Option Request
within o = option_map (λ b. b.value) o

pub placed_more : (n : ℕ) (ps : Places) (b : Box Request Global) → placed n (ps ++ Some b ∷ []) ≡ placed n ps ++ (n + length ps, b.value) ∷ []
placed_more n [] b = let zero_more : n ≡ n + 0 = omega arith in λ i. (zero_more i, b.value) ∷ []
placed_more n (None ∷ ps) b = let more : suc n + length ps ≡ n + suc (length ps) = omega arith in placed_more (suc n) ps b ∙ ap (λ m. placed (suc n) ps ++ (m, b.value) ∷ []) more
placed_more n (Some a ∷ ps) b = let more : suc n + length ps ≡ n + suc (length ps) = omega arith in ap (λ (es : Entries). (n, a.value) ∷ es) (placed_more (suc n) ps b ∙ ap (λ m. placed (suc n) ps ++ (m, b.value) ∷ []) more)

pub placed_few : (n : ℕ) (ps : Places) → length (placed n ps) ≤ length ps
placed_few n [] = omega arith
placed_few n (None ∷ ps) = omega (arith, placed_few (suc n) ps)
placed_few n (Some b ∷ ps) = omega (arith, placed_few (suc n) ps)

-- what is there of a number, and what is left without it
abbrev Parts : ℕ → Entries → Option Request → Entries → Type 0
Parts m es o rest = (request_at m es ≡ o) × (but m es ≡ rest)

other_first : (m n : ℕ) (r : Request) (es : Entries) (o : Option Request) (rest : Entries) → (m ≡ n → ⊥) → Parts m es o rest → Parts m ((n, r) ∷ es) o ((n, r) ∷ rest)
other_first m n r es o rest never p = let e : is_at (nat_cmp m) n ≡ false = apart m n never in (ap (λ b. cond b (Some r) (request_at m es)) e ∙ p.0, ap (λ b. cond b es ((n, r) ∷ but m es)) e ∙ ap (λ (xs : Entries). (n, r) ∷ xs) p.1)

-- a number before the first place is not there
before : (m n : ℕ) (ps : Places) → m < n → Parts m (placed n ps) None (placed n ps)
before m n [] lt = (refl, refl)
before m n (None ∷ ps) lt = before m (suc n) ps (omega (arith, lt))
before m n (Some b ∷ ps) lt = other_first m n b.value (placed (suc n) ps) None (placed (suc n) ps) (λ e. omega (arith, lt, e)) (before m (suc n) ps (omega (arith, lt)))

-- a number tells its place
pub at_place : (n i : ℕ) (ps : Places) → Parts (n + i) (placed n ps) (within (get_or ps i None)) (placed n (set ps i None))
at_place n i [] = (refl, refl)
at_place n zero (None ∷ ps) = before (n + 0) (suc n) ps (omega arith)
at_place n (suc i) (None ∷ ps) = let more : suc n + i ≡ n + suc i = omega arith in subst (λ m. Parts m (placed (suc n) ps) (within (get_or ps i None)) (placed (suc n) (set ps i None))) more (at_place (suc n) i ps)
at_place n zero (Some b ∷ ps) =
    let zero_more : n ≡ n + 0 = omega arith in
    let e : is_at (nat_cmp (n + 0)) n ≡ true = subst (λ m. is_eq (nat_cmp m n) ≡ true) zero_more (itself n) in
    (ap (λ t. cond t (Some b.value) (request_at (n + 0) (placed (suc n) ps))) e, ap (λ t. cond t (placed (suc n) ps) ((n, b.value) ∷ but (n + 0) (placed (suc n) ps))) e)
at_place n (suc i) (Some b ∷ ps) =
    let more : suc n + i ≡ n + suc i = omega arith in
    let next = subst (λ m. Parts m (placed (suc n) ps) (within (get_or ps i None)) (placed (suc n) (set ps i None))) more (at_place (suc n) i ps) in
    other_first (n + suc i) n b.value (placed (suc n) ps) (within (get_or ps i None)) (placed (suc n) (set ps i None)) (λ e. omega (arith, e)) next

-- a number that is there has a place
pub has_place_from : (m n : ℕ) (ps : Places) → IsSome (request_at m (placed n ps)) → (n ≤ m) × (m < n + length ps)
has_place_from m n [] h = absurd (true≢false (sym h))
has_place_from m n (None ∷ ps) h = let next = has_place_from m (suc n) ps h in (omega (arith, next.0), omega (arith, next.1))
has_place_from m n (Some b ∷ ps) h = by (is_at (nat_cmp m) n) refl h (has_place_from m (suc n) ps)
  where
    by : (t : Bool) → is_at (nat_cmp m) n ≡ t → IsSome (cond t (Some b.value) (request_at m (placed (suc n) ps))) → (IsSome (request_at m (placed (suc n) ps)) → (suc n ≤ m) × (m < suc n + length ps)) → (n ≤ m) × (m < n + length (Some b ∷ ps))
    by true e h next = let same : m ≡ n = number_same m n e in (omega (arith, same), omega (arith, same))
    by false e h next = let far = next h in (omega (arith, far.0), omega (arith, far.1))

-- one less is there without it
pub one_less : (m : ℕ) (es : Entries) → IsSome (request_at m es) → length (but m es) + 1 ≡ length es
one_less m [] h = absurd (true≢false (sym h))
one_less m (e ∷ es) h = by (is_at (nat_cmp m) e.0) h (one_less m es)
  where
    by : (t : Bool) → IsSome (cond t (Some e.1) (request_at m es)) → (IsSome (request_at m es) → length (but m es) + 1 ≡ length es) → length (cond t es (e ∷ but m es)) + 1 ≡ length (e ∷ es)
    by true h next = omega arith
    by false h next = let shorter : length (but m es) + 1 ≡ length es = next h in omega (arith, shorter)

-- What the calls keep

-- one more request comes
pub pushed_places : (n a f : ℕ) (ps : Places) (b : Box Request Global) → n + length ps ≡ a → f ≡ length (placed n ps)
    → (n + length (ps ++ Some b ∷ []) ≡ a + 1) × (f + 1 ≡ length (placed n (ps ++ Some b ∷ []))) × (placed n (ps ++ Some b ∷ []) ≡ placed n ps ++ (a, b.value) ∷ [])
pushed_places n a f ps b follow filled =
    let entries : placed n (ps ++ Some b ∷ []) ≡ placed n ps ++ (a, b.value) ∷ [] = placed_more n ps b ∙ ap (λ m. placed n ps ++ (m, b.value) ∷ []) follow in
    let long : length (ps ++ Some b ∷ []) ≡ length ps + 1 = length_push ps (Some b) in
    let more : length (placed n ps ++ (a, b.value) ∷ []) ≡ length (placed n ps) + 1 = length_push (placed n ps) (a, b.value) in
    (omega (arith, long, follow), ap (λ m. m + 1) filled ∙ sym more ∙ ap length (sym entries), entries)

-- the request at a place leaves
pub emptied_places : (n m f : ℕ) (ps : Places) → f ≡ length (placed n ps) → IsSome (request_at m (placed n ps))
    → (m - n < length ps) × (request_at m (placed n ps) ≡ within (get_or ps (m - n) None)) × (but m (placed n ps) ≡ placed n (set ps (m - n) None)) × (0 < f) × (f - 1 ≡ length (placed n (set ps (m - n) None)))
emptied_places n m f ps filled there =
    let far = has_place_from m n ps there in
    let is : n + (m - n) ≡ m = omega (arith, far.0) in
    let parts = subst (λ k. (request_at k (placed n ps) ≡ within (get_or ps (m - n) None)) × (but k (placed n ps) ≡ placed n (set ps (m - n) None))) is (at_place n (m - n) ps) in
    let less : length (but m (placed n ps)) + 1 ≡ length (placed n ps) = one_less m (placed n ps) there in
    let rest : length (but m (placed n ps)) ≡ length (placed n (set ps (m - n) None)) = ap length parts.1 in
    (omega (arith, far.0, far.1), parts.0, parts.1, omega (arith, less, filled), omega (arith, less, filled, rest))

pub some_within : (o : Option (Box Request Global)) → IsSome (within o) → IsSome o
some_within None h = h
some_within (Some b) h = h
