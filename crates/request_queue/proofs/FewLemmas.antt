-- A few requests in a list, and others behind them.
use Rattle.std.proofs.Common.{◌≡◌, ◌<◌, ◌+◌, ◌++◌, ℕ, suc, Bool, true, false, cond, List, [], ◌∷◌, Option, Some, None, drop, get_or, length, refl, sym, ap, subst, ◌∙◌, arith}
use Rattle.std.specs.List.{remove}
use Rattle.std.specs.Option.{option_map}
use Rattle.std.specs.Ordering.{nat_cmp}
use Rattle.std.specs.BTreeMap.{is_at}
use Rattle.asp_model.specs.Intent.{Numbered}
use Rattle.asp_model.specs.Names.{Text}
use Rattle.asp_model.specs.Term.{has_text}
use Rattle.request_queue.specs.declared.few.Arrival.{Arrival}
use Rattle.request_queue.specs.declared.request.Request.{Request}
use Rattle.request_queue.specs.Few.{entries, place, told}
use Rattle.request_queue.specs.Pending.{but, oldest, request_at}
use Rattle.request_queue.specs.Requests.{request_shape}

abbrev Entries : Type 0
Entries = List (ℕ × Request)

-- The place of a number

-- what is left in a list from a place on tells the place
abbrev pub IsAhead : ℕ → List Arrival → ℕ → Type 0
IsAhead n xs i = place n xs ≡ option_map (λ k. i + k) (place n (drop i xs))

-- the request of a number stands at its place, and is taken out there
abbrev pub Stands : ℕ → List Arrival → ℕ → Type 0
Stands n xs i = (i < length xs) × ((d : Arrival) → request_at n (entries xs) ≡ Some (get_or xs i d).request) × (but n (entries xs) ≡ entries (remove xs i))

-- the same of a list with this first one, whose number it is or not
abbrev StandsBy : ℕ → Arrival → List Arrival → Bool → ℕ → Type 0
StandsBy n x xs b i = (i < length (x ∷ xs)) × ((d : Arrival) → cond b (Some x.request) (request_at n (entries xs)) ≡ Some (get_or (x ∷ xs) i d).request)
    × (cond b (entries xs) ((x.number, x.request) ∷ but n (entries xs)) ≡ entries (remove (x ∷ xs) i))

pub stands : (n : ℕ) (xs : List Arrival) (i : ℕ) → place n xs ≡ Some i → Stands n xs i
stands n [] i e = absurd cc
stands n (x ∷ xs) i e = by (is_at (nat_cmp n) x.number) (place n xs) (stands n xs) e
  where
    by : (b : Bool) (o : Option ℕ) → ((k : ℕ) → o ≡ Some k → Stands n xs k) → elim b as (λ _. Option ℕ) [ true ↦ Some 0 | false ↦ option_map suc o ] ≡ Some i → StandsBy n x xs b i
    by true o next e = subst (StandsBy n x xs true) here (omega arith, (λ d. refl), refl)
      where
        here : 0 ≡ i
        here = cc
    by false None next e = absurd cc
    by false (Some k) next e = let s = next k refl in subst (StandsBy n x xs false) there (omega (arith, s.0), s.1, ap (λ es. (x.number, x.request) ∷ es) s.2)
      where
        there : suc k ≡ i
        there = cc

abbrev pub IsAbsent : ℕ → Entries → Type 0
IsAbsent n es = (request_at n es ≡ None) × (but n es ≡ es)

-- nothing is there where a number has no place
pub absent : (n : ℕ) (xs : List Arrival) → place n xs ≡ None → IsAbsent n (entries xs)
absent n [] e = (refl, refl)
absent n (x ∷ xs) e = by (is_at (nat_cmp n) x.number) (place n xs) (absent n xs) e
  where
    by : (b : Bool) (o : Option ℕ) → (o ≡ None → IsAbsent n (entries xs)) → elim b as (λ _. Option ℕ) [ true ↦ Some 0 | false ↦ option_map suc o ] ≡ None
        → (cond b (Some x.request) (request_at n (entries xs)) ≡ None) × (cond b (entries xs) ((x.number, x.request) ∷ but n (entries xs)) ≡ entries (x ∷ xs))
    by true o next e = absurd cc
    by false None next e = ((next refl).0, ap (λ es. (x.number, x.request) ∷ es) (next refl).1)
    by false (Some k) next e = absurd cc

-- Others behind the few

abbrev pub number_in : List Text → Entries → Option ℕ
number_in asked es = option_map (λ x. x.0) (oldest asked (told es))

-- the first, where there is one
abbrev either : {A : Type 0} → Option A → Option A → Option A
either None o = o
either (Some x) o = Some x

led_number : (asked : List Text) (few others : Entries) → number_in asked (few ++ others) ≡ either (number_in asked few) (number_in asked others)
led_number asked [] others = refl
led_number asked (e ∷ es) others = by (has_text e.1.label.text asked) (led_number asked es others)
  where
    by : (b : Bool) → number_in asked (es ++ others) ≡ either (number_in asked es) (number_in asked others)
        → option_map (λ x. x.0) (elim b as (λ _. Option Numbered) [ true ↦ Some (e.0, request_shape e.1) | false ↦ oldest asked (told (es ++ others)) ])
        ≡ either (option_map (λ x. x.0) (elim b as (λ _. Option Numbered) [ true ↦ Some (e.0, request_shape e.1) | false ↦ oldest asked (told es) ])) (number_in asked others)
    by true next = refl
    by false next = next

-- a match among the few is the oldest
pub led_first : (asked : List Text) (few others : Entries) (n : ℕ) → Some n ≡ number_in asked few → Some n ≡ number_in asked (few ++ others)
led_first asked few others n e = ap (λ o. either o (number_in asked others)) e ∙ sym (led_number asked few others)

-- and where there is none, one among the others
pub led_next : (asked : List Text) (few others : Entries) → None ≡ number_in asked few → number_in asked others ≡ number_in asked (few ++ others)
led_next asked few others e = ap (λ o. either o (number_in asked others)) e ∙ sym (led_number asked few others)

-- the request of a number, and all but that one
abbrev pub Parts : ℕ → Entries → Option Request → Entries → Type 0
Parts n es o rest = (request_at n es ≡ o) × (but n es ≡ rest)

-- a request among the few leaves
pub taken_first : (n : ℕ) (few others : Entries) (r : Request) → Some r ≡ request_at n few → Parts n (few ++ others) (Some r) (but n few ++ others)
taken_first n [] others r e = absurd cc
taken_first n (x ∷ xs) others r e = by (is_at (nat_cmp n) x.0) e (taken_first n xs others r)
  where
    by : (b : Bool) → Some r ≡ cond b (Some x.1) (request_at n xs) → (Some r ≡ request_at n xs → Parts n (xs ++ others) (Some r) (but n xs ++ others))
        → (cond b (Some x.1) (request_at n (xs ++ others)) ≡ Some r) × (cond b (xs ++ others) (x ∷ but n (xs ++ others)) ≡ cond b xs (x ∷ but n xs) ++ others)
    by true e next = (sym e, refl)
    by false e next = ((next e).0, ap (λ es. x ∷ es) (next e).1)

-- and one that is not among them stands among the others
pub taken_next : (n : ℕ) (few others : Entries) → None ≡ request_at n few → Parts n (few ++ others) (request_at n others) (but n few ++ but n others)
taken_next n [] others e = (refl, refl)
taken_next n (x ∷ xs) others e = by (is_at (nat_cmp n) x.0) e (taken_next n xs others)
  where
    by : (b : Bool) → None ≡ cond b (Some x.1) (request_at n xs) → (None ≡ request_at n xs → Parts n (xs ++ others) (request_at n others) (but n xs ++ but n others))
        → (cond b (Some x.1) (request_at n (xs ++ others)) ≡ request_at n others) × (cond b (xs ++ others) (x ∷ but n (xs ++ others)) ≡ cond b xs (x ∷ but n xs) ++ but n others)
    by true e next = absurd cc
    by false e next = ((next e).0, ap (λ es. x ∷ es) (next e).1)
