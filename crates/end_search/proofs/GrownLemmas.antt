-- More ends leave what was found.
use Rattle.std.specs.Prelude.{◌≡◌, ◌⊎◌, Bool, true, false, T, ◌<◌, ◌+◌, ℕ, zero, suc, List, [], ◌∷◌, ◌++◌, length, take}
use Rattle.std.proofs.Common.{refl, sym, ap, subst, ◌∙◌, arith, inl, inr, ⊎_elim, append_assoc, slice_index_or}
use Rattle.std.proofs.lemmas.List.{append-nil, take_more}
use Rattle.end_search.specs.Found.{AreAll, IsWithin, AreApart, AreDistinct, Grows, IsClosed, AreClosed}

pub not_both : (b : Bool) → b ≡ true → b ≡ false → ⊥
not_both b p q = subst T (sym p ∙ q) tt

-- All of some

pub all_more : {E : Type 0} (P : E → Type 0) (xs : List E) (x : E) → AreAll P xs → P x → AreAll P (xs ++ x ∷ [])
all_more P [] x h p = (p, tt)
all_more P (y ∷ ys) x h p = (h.0, all_more P ys x h.1 p)

pub all_at : {E : Type 0} (P : E → Type 0) (xs : List E) (k : ℕ) (x y : E) → AreAll P xs → k < length xs → x ≡ slice_index_or xs k y → P x
all_at P [] k x y h lt is = absurd (omega (arith, lt))
all_at P (z ∷ zs) zero x y h lt is = subst P (sym is) h.0
all_at P (z ∷ zs) (suc k) x y h lt is = all_at P zs k x y h.1 (omega (arith, lt)) is

pub all_take : {E : Type 0} (P : E → Type 0) (xs : List E) (k : ℕ) (x : E) → k < length xs → x ≡ slice_index_or xs k x → AreAll P (take k xs) → P x → AreAll P (take (k + 1) xs)
all_take P xs k x lt is h p = subst (AreAll P) (sym (take_more xs k x lt ∙ ap (λ z. take k xs ++ z ∷ []) (sym is))) (all_more P (take k xs) x h p)

pub all_then : {E : Type 0} (P Q : E → Type 0) (xs : List E) → ((x : E) → P x → Q x) → AreAll P xs → AreAll Q xs
all_then P Q [] f h = tt
all_then P Q (x ∷ xs) f h = (f x h.0, all_then P Q xs f h.1)

pub all_whole : {E : Type 0} (P : E → Type 0) (xs : List E) (k : ℕ) → (k < length xs → ⊥) → AreAll P (take k xs) → AreAll P xs
all_whole P [] k le h = tt
all_whole P (x ∷ xs) zero le h = absurd (le (omega arith))
all_whole P (x ∷ xs) (suc k) le h = (h.0, all_whole P xs k (λ lt. le (omega (arith, lt))) h.1)

pub none_taken : {E : Type 0} (P : E → Type 0) (xs : List E) → AreAll P (take zero xs)
none_taken P [] = tt
none_taken P (x ∷ xs) = tt

-- the first so many of the old ones are those of the new ones
front_more : {E : Type 0} (P : E → Type 0) (xs ys : List E) (k : ℕ) (x : E) → k < length xs → x ≡ slice_index_or xs k x → AreAll P (take k xs) → P x → AreAll P (take (suc k) (xs ++ ys))
front_more P [] ys k x lt is h p = absurd (omega (arith, lt))
front_more P (z ∷ zs) ys zero x lt is h p = (subst P is p, none_taken P (zs ++ ys))
front_more P (z ∷ zs) ys (suc k) x lt is h p = (h.0, front_more P zs ys k x (omega (arith, lt)) is h.1 p)

pub all_front : {E : Type 0} (P : E → Type 0) (xs ys : List E) (k : ℕ) (x : E) → k < length xs → x ≡ slice_index_or xs k x → AreAll P (take k xs) → P x → AreAll P (take (k + 1) (xs ++ ys))
all_front P xs ys k x lt is h p = let e : suc k ≡ k + 1 = omega arith in subst (λ j. AreAll P (take j (xs ++ ys))) e (front_more P xs ys k x lt is h p)

-- Within the ends

within_more : {E O : Type 0} (begins : E → O → Type 0) (xs ys : List E) (o : O) → IsWithin begins xs o → IsWithin begins (xs ++ ys) o
within_more begins [] ys o h = absurd h
within_more begins (x ∷ xs) ys o (inl b) = inl b
within_more begins (x ∷ xs) ys o (inr h) = inr (within_more begins xs ys o h)

pub within_grown : {E O : Type 0} (begins : E → O → Type 0) (old new : List E) (o : O) → Grows begins old new → IsWithin begins old o → IsWithin begins new o
within_grown begins old new o g h = subst (λ l. IsWithin begins l o) g.is (within_more begins old g.more o h)

pub within_last : {E O : Type 0} (begins : E → O → Type 0) (xs : List E) (x : E) (o : O) → begins x o → IsWithin begins (xs ++ x ∷ []) o
within_last begins [] x o b = inl b
within_last begins (y ∷ ys) x o b = inr (within_last begins ys x o b)

pub within_at : {E O : Type 0} (begins : E → O → Type 0) (xs : List E) (k : ℕ) (x y : E) (o : O) → k < length xs → x ≡ slice_index_or xs k y → begins x o → IsWithin begins xs o
within_at begins [] k x y o lt is b = absurd (omega (arith, lt))
within_at begins (z ∷ zs) zero x y o lt is b = inl (subst (λ e. begins e o) is b)
within_at begins (z ∷ zs) (suc k) x y o lt is b = inr (within_at begins zs k x y o (omega (arith, lt)) is b)

within_apart : {E O : Type 0} (begins : E → O → Type 0) (xs : List E) (x : E) (o : O) → IsWithin begins (xs ++ x ∷ []) o → IsWithin begins xs o ⊎ begins x o
within_apart begins [] x o (inl b) = inr b
within_apart begins [] x o (inr h) = absurd h
within_apart begins (y ∷ ys) x o (inl b) = inl (inl b)
within_apart begins (y ∷ ys) x o (inr h) = ⊎_elim (λ a. inl (inr a)) (λ b. inr b) (within_apart begins ys x o h)

-- none of the first ends begins so, and the next one does not
pub none_more : {E O : Type 0} (begins : E → O → Type 0) (xs : List E) (k : ℕ) (x : E) (o : O) → k < length xs → x ≡ slice_index_or xs k x → (IsWithin begins (take k xs) o → ⊥) → (begins x o → ⊥) → IsWithin begins (take (k + 1) xs) o → ⊥
none_more begins xs k x o lt is none not h = ⊎_elim none not (within_apart begins (take k xs) x o (subst (λ l. IsWithin begins l o) (take_more xs k x lt ∙ ap (λ z. take k xs ++ z ∷ []) (sym is)) h))

pub none_whole : {E O : Type 0} (begins : E → O → Type 0) (xs : List E) (k : ℕ) (o : O) → (k < length xs → ⊥) → (IsWithin begins (take k xs) o → ⊥) → IsWithin begins xs o → ⊥
none_whole begins [] k o le none h = h
none_whole begins (x ∷ xs) zero o le none h = le (omega arith)
none_whole begins (x ∷ xs) (suc k) o le none (inl b) = none (inl b)
none_whole begins (x ∷ xs) (suc k) o le none (inr h) = none_whole begins xs k o (λ lt. le (omega (arith, lt))) (λ a. none (inr a)) h

-- Growth

pub grows_not : {E O : Type 0} (begins : E → O → Type 0) (l : List E) → Grows begins l l
grows_not begins l = record { more = []; is = append-nil l; distinct = λ d. d }

pub grows_on : {E O : Type 0} (begins : E → O → Type 0) (a b c : List E) → Grows begins a b → Grows begins b c → Grows begins a c
grows_on begins a b c g h = record {
  more = g.more ++ h.more;
  is = sym (append_assoc a g.more h.more) ∙ ap (λ l. l ++ h.more) g.is ∙ h.is;
  distinct = λ d. h.distinct (g.distinct d);
}

distinct_more : {E O : Type 0} (begins : E → O → Type 0) (xs : List E) (x : E) (o : O) → (IsWithin begins xs o → ⊥) → begins x o → AreDistinct begins xs → AreDistinct begins (xs ++ x ∷ [])
distinct_more begins [] x o none b d = (tt, tt)
distinct_more begins (y ∷ ys) x o none b d = (all_more (AreApart begins y) ys x d.0 (o, b, λ h. none (inl h)), distinct_more begins ys x o (λ h. none (inr h)) b d.1)

pub grows_by : {E O : Type 0} (begins : E → O → Type 0) (xs : List E) (x : E) (o : O) → (IsWithin begins xs o → ⊥) → begins x o → Grows begins xs (xs ++ x ∷ [])
grows_by begins xs x o none b = record { more = x ∷ []; is = refl; distinct = λ d. distinct_more begins xs x o none b d }

pub closed_grown : {E O : Type 0} (begins : E → O → Type 0) (offered : E → List O → Type 0) (old new some : List E) → Grows begins old new → AreClosed begins offered old some → AreClosed begins offered new some
closed_grown begins offered old new some g h = all_then (IsClosed begins offered old) (IsClosed begins offered new) some (λ e c. (c.0, c.1, all_then (IsWithin begins old) (IsWithin begins new) c.0 (λ o w. within_grown begins old new o g w) c.2)) h
