-- Numbers of futures, when one more is met.
use Rattle.std.proofs.Common.{◌≡◌, ◌+◌, ◌<◌, ℕ, zero, suc, Bool, true, false, cond, List, [], ◌∷◌, ◌++◌, Option, Some, None, length, map, get_or, refl, sym, ap, subst, ◌∙◌, T, arith}
use Rattle.std.specs.Prelude.{◌||◌, if◌then◌else◌, not}
use Rattle.std.specs.List.{list_any, position_from, position_or_len}
use Rattle.indexmap.specs.IndexSet.{insert_key}
use Rattle.asp_model.specs.declared.name.FutureName.{FutureName}
use Rattle.asp_model.specs.contracts.name.FutureNamePartialEq.TheImpl as equality
use Rattle.asp_model.specs.FutureOrder.{eq_shape}
use Rattle.asp_model.specs.Names.{FutureShape, same_future}
use Rattle.asp_model.specs.Shapes.{future_shape}
use Rattle.law_chases.proofs.FutureLemmas.{future_itself, futures_tied, true_false}
use Rattle.future_table.specs.Numbers.{IsEntered, named, number_from, number_of}

abbrev pub same_one : FutureName → FutureName → Bool
same_one = equality.ghosts.eq

-- Numbers

abbrev pub here_or : Bool → ℕ → Option ℕ → Option ℕ
here_or b k o = elim b [ true ↦ Some k | false ↦ o ]

-- one more future at the end
pub number_more : (k : ℕ) (f g : FutureShape) (fs : List FutureShape) → number_from k g fs ≡ None → number_from k f (fs ++ g ∷ []) ≡ cond (same_future f g) (Some (k + length fs)) (number_from k f fs)
number_more k f g [] none = by (same_future f g)
  where
    zero_more : k ≡ k + 0
    zero_more = omega arith

    by : (b : Bool) → here_or b k None ≡ cond b (Some (k + 0)) None
    by true = ap Some zero_more
    by false = refl
number_more k f g (h ∷ fs) none = by (same_future g h) refl (same_future f h) refl none (number_more (suc k) f g fs)
  where
    suc_more : suc k + length fs ≡ k + suc (length fs)
    suc_more = omega arith

    apart : same_future g h ≡ false → same_future f h ≡ true → same_future f g ≡ true → ⊥
    apart a b c = subst T (sym b ∙ ap (λ x. same_future x h) (futures_tied f g c) ∙ a) tt

    past : (b : Bool) → same_future f g ≡ b → same_future g h ≡ false → same_future f h ≡ true → Some k ≡ cond b (Some (k + suc (length fs))) (Some k)
    past true e a b = absurd (apart a b e)
    past false e a b = refl

    by : (a : Bool) → same_future g h ≡ a → (b : Bool) → same_future f h ≡ b → here_or a k (number_from (suc k) g fs) ≡ None
        → (number_from (suc k) g fs ≡ None → number_from (suc k) f (fs ++ g ∷ []) ≡ cond (same_future f g) (Some (suc k + length fs)) (number_from (suc k) f fs))
        → here_or b k (number_from (suc k) f (fs ++ g ∷ [])) ≡ cond (same_future f g) (Some (k + suc (length fs))) (here_or b k (number_from (suc k) f fs))
    by true e b d none next = absurd cc
    by false e true d none next = past (same_future f g) refl e d
    by false e false d none next = next none ∙ ap (λ n. cond (same_future f g) (Some n) (number_from (suc k) f fs)) suc_more

-- what a number names, counted from k
abbrev IsAt : ℕ → ℕ → FutureShape → List FutureShape → Type 0
IsAt k n f fs = (i : ℕ) × (n ≡ k + i) × (i < length fs) × (named fs i ≡ f)

named_from : (k : ℕ) (f : FutureShape) (fs : List FutureShape) (n : ℕ) → number_from k f fs ≡ Some n → IsAt k n f fs
named_from k f [] n e = absurd cc
named_from k f (g ∷ gs) n e = by (same_future f g) refl e (named_from (suc k) f gs n)
  where
    by : (b : Bool) → same_future f g ≡ b → here_or b k (number_from (suc k) f gs) ≡ Some n → (number_from (suc k) f gs ≡ Some n → IsAt (suc k) n f gs) → IsAt k n f (g ∷ gs)
    by true d e next = let same : k ≡ n = cc in (0, omega (arith, same), omega arith, sym (futures_tied f g d))
    by false d e next = let x = next e in (suc x.0, omega (arith, x.1), omega (arith, x.2), x.3)

pub named_number : (f : FutureShape) (fs : List FutureShape) (n : ℕ) → number_of f fs ≡ Some n → (n < length fs) × (named fs n ≡ f)
named_number f fs n e =
    let x = named_from 0 f fs n e in
    let same : x.0 ≡ n = omega (arith, x.1) in
    (omega (arith, x.1, x.2), ap (named fs) (sym same) ∙ x.3)

-- each that is named has a number
pub number_named : (k : ℕ) (fs : List FutureShape) (i : ℕ) → i < length fs → number_from k (named fs i) fs ≡ None → ⊥
number_named k [] i lt e = omega (arith, lt)
number_named k (g ∷ gs) zero lt e = subst T (sym (ap (λ b. elim (here_or b k (number_from (suc k) g gs)) [ None ↦ false | Some n ↦ true ]) (future_itself g)) ∙ ap (λ o. elim o [ None ↦ false | Some n ↦ true ]) e) tt
number_named k (g ∷ gs) (suc i) lt e = by (same_future (named gs i) g) e (number_named (suc k) gs i (omega (arith, lt)))
  where
    by : (b : Bool) → here_or b k (number_from (suc k) (named gs i) gs) ≡ None → (number_from (suc k) (named gs i) gs ≡ None → ⊥) → ⊥
    by true e next = absurd cc
    by false e next = next e

pub named_before : (fs gs : List FutureShape) (i : ℕ) → i < length fs → named (fs ++ gs) i ≡ named fs i
named_before [] gs i lt = absurd (omega (arith, lt))
named_before (f ∷ fs) gs zero lt = refl
named_before (f ∷ fs) gs (suc i) lt = named_before fs gs i (omega (arith, lt))

pub named_last : (fs : List FutureShape) (g : FutureShape) → named (fs ++ g ∷ []) (length fs) ≡ g
named_last [] g = refl
named_last (f ∷ fs) g = named_last fs g

pub named_map : (fs : List FutureName) (i : ℕ) (f : FutureName) → i < length fs → get_or fs i f ≡ f → named (map future_shape fs) i ≡ future_shape f
named_map [] i f lt e = absurd (omega (arith, lt))
named_map (g ∷ gs) zero f lt e = ap future_shape e
named_map (g ∷ gs) (suc i) f lt e = named_map gs i f (omega (arith, lt)) e

-- The set of names

-- the set finds what the list has
pub number_position : (k : ℕ) (f : FutureName) (fs : List FutureName) → number_from k (future_shape f) (map future_shape fs) ≡ position_from (same_one f) k fs
number_position k f [] = refl
number_position k f (g ∷ gs) =
    here_cond (same_future (future_shape f) (future_shape g)) (number_from (suc k) (future_shape f) (map future_shape gs))
    ∙ (λ i. cond (sym (eq_shape f g) i) (Some k) ((ap (λ n. number_from n (future_shape f) (map future_shape gs)) one_more ∙ number_position (k + 1) f gs) i))
  where
    one_more : suc k ≡ k + 1
    one_more = omega arith

    here_cond : (b : Bool) (o : Option ℕ) → here_or b k o ≡ cond b (Some k) o
    here_cond true o = refl
    here_cond false o = refl

-- a future that the list lacks has no number
absent_none : (k : ℕ) (f : FutureName) (fs : List FutureName) → list_any (same_one f) fs ≡ false → number_from k (future_shape f) (map future_shape fs) ≡ None
absent_none k f [] none = refl
absent_none k f (g ∷ gs) none = by (same_one f g) (sym (eq_shape f g)) none (absent_none (suc k) f gs)
  where
    by : (b : Bool) → same_future (future_shape f) (future_shape g) ≡ b → (b || list_any (same_one f) gs) ≡ false
        → (list_any (same_one f) gs ≡ false → number_from (suc k) (future_shape f) (map future_shape gs) ≡ None) → here_or (same_future (future_shape f) (future_shape g)) k (number_from (suc k) (future_shape f) (map future_shape gs)) ≡ None
    by true d e next = absurd (true_false true refl e)
    by false d e next = ap (λ b. here_or b k (number_from (suc k) (future_shape f) (map future_shape gs))) d ∙ next e

-- the number that the set gives
pub entered_number : (k : ℕ) (f : FutureName) (fs : List FutureName) → number_from k (future_shape f) (map future_shape (insert_key same_one fs f)) ≡ Some (k + position_or_len (same_one f) fs)
entered_number k f [] = ap (λ b. here_or b k None) (future_itself (future_shape f)) ∙ ap Some zero_more
  where
    zero_more : k ≡ k + 0
    zero_more = omega arith
entered_number k f (g ∷ gs) = by (same_one f g) (sym (eq_shape f g)) (list_any (same_one f) gs) (entered_number (suc k) f gs)
  where
    zero_more : k ≡ k + 0
    zero_more = omega arith

    suc_more : suc k + position_or_len (same_one f) gs ≡ k + (1 + position_or_len (same_one f) gs)
    suc_more = omega arith

    past : (fs : List FutureName) → same_future (future_shape f) (future_shape g) ≡ false → number_from (suc k) (future_shape f) (map future_shape fs) ≡ Some (suc k + position_or_len (same_one f) gs)
        → number_from k (future_shape f) (map future_shape (g ∷ fs)) ≡ Some (k + (1 + position_or_len (same_one f) gs))
    past fs d e = ap (λ b. here_or b k (number_from (suc k) (future_shape f) (map future_shape fs))) d ∙ e ∙ ap Some suc_more

    by : (b : Bool) → same_future (future_shape f) (future_shape g) ≡ b → (l : Bool) → number_from (suc k) (future_shape f) (map future_shape (if l then gs else (gs ++ f ∷ []))) ≡ Some (suc k + position_or_len (same_one f) gs)
        → number_from k (future_shape f) (map future_shape (if b || l then g ∷ gs else (g ∷ gs ++ f ∷ []))) ≡ Some (k + cond (not b) (1 + position_or_len (same_one f) gs) 0)
    by true d l e = ap (λ b. here_or b k (number_from (suc k) (future_shape f) (map future_shape gs))) d ∙ ap Some zero_more
    by false d true e = past gs d e
    by false d false e = past (gs ++ f ∷ []) d e

pub entered_so : (f : FutureName) (fs new : List FutureName) (added : Bool) → added ≡ not (list_any (same_one f) fs) → new ≡ insert_key same_one fs f → IsEntered f fs new added
entered_so f fs new added is e = subst (IsEntered f fs new) (sym is) (by (list_any (same_one f) fs) refl e)
  where
    by : (b : Bool) → list_any (same_one f) fs ≡ b → new ≡ (if b then fs else (fs ++ f ∷ [])) → IsEntered f fs new (not b)
    by true d e = e
    by false d e = (absent_none 0 f fs d, e)
