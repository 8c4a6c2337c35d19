-- The newest of the suspended services, which stand oldest first.
use Rattle.std.proofs.Common.{◌≡◌, ◌==◌, ℕ, zero, suc, true, not, List, [], ◌∷◌, ◌++◌, Option, Some, length, reverse, refl, sym, ap, ◌∙◌, arith}
use Rattle.std.specs.Prelude.{is_some}
use Rattle.std.proofs.lemmas.Bool.Decides.{nat_tests}
use Rattle.std.proofs.lemmas.List.{length-reverse, reverse-append, reverse-reverse}
use Rattle.asp_model.specs.Names.{FutureShape}
use Rattle.asp_model.specs.Configuration.{ServiceShape}
use Rattle.asp_model.specs.Intent.{newest, but_newest}
use Rattle.step_machine.specs.Items.{Item, Waits, Suspends, futures_of, services_of}

newest_last : (xs : List ServiceShape) (y : ServiceShape) → newest (xs ++ y ∷ []) ≡ Some y
newest_last [] y = refl
newest_last (x ∷ []) y = refl
newest_last (x ∷ z ∷ xs) y = newest_last (z ∷ xs) y

but_newest_last : (xs : List ServiceShape) (y : ServiceShape) → but_newest (xs ++ y ∷ []) ≡ xs
but_newest_last [] y = refl
but_newest_last (x ∷ []) y = refl
but_newest_last (x ∷ z ∷ xs) y = ap (λ (l : List ServiceShape). x ∷ l) (but_newest_last (z ∷ xs) y)

-- oldest first, the newest stands last
oldest_first : (xs : List ServiceShape) (y : ServiceShape) (ys : List ServiceShape) → reverse xs ≡ y ∷ ys → xs ≡ reverse ys ++ y ∷ []
oldest_first xs y ys e = sym (reverse-reverse xs) ∙ ap reverse e ∙ reverse-append (y ∷ []) ys

pub newest_is : (xs : List ServiceShape) (y : ServiceShape) (ys : List ServiceShape) → reverse xs ≡ y ∷ ys → newest xs ≡ Some y
newest_is xs y ys e = ap newest (oldest_first xs y ys e) ∙ newest_last (reverse ys) y

pub but_newest_is : (xs : List ServiceShape) (y : ServiceShape) (ys : List ServiceShape) → reverse xs ≡ y ∷ ys → reverse (but_newest xs) ≡ ys
but_newest_is xs y ys e = ap reverse (ap but_newest (oldest_first xs y ys e) ∙ but_newest_last (reverse ys) y) ∙ reverse-reverse ys

-- There is one where there are services

some_newest : (x : ServiceShape) (xs : List ServiceShape) → is_some (newest (x ∷ xs)) ≡ true
some_newest x [] = refl
some_newest x (y ∷ xs) = some_newest y xs

has_newest : (n : ℕ) (xs : List ServiceShape) → n ≡ length xs → not (n == 0) ≡ is_some (newest xs)
has_newest zero [] e = refl
has_newest zero (x ∷ xs) e = absurd (omega (arith, e))
has_newest (suc n) [] e = absurd (omega (arith, e))
has_newest (suc n) (x ∷ xs) e =
    let some : not (suc n == 0) ≡ true = grind (arith, nat_tests) in
    some ∙ sym (some_newest x xs)

same_count : (xs : List Item) → length (futures_of xs) ≡ length (services_of xs)
same_count [] = refl
same_count (Waits c ∷ xs) = same_count xs
same_count (Suspends f ∷ xs) = ap suc (same_count xs)

-- each suspended service has its future
pub is_suspended : (n : ℕ) (fs : List (Option FutureShape)) (items : List Item) (xs : List ServiceShape) → n ≡ length fs → reverse fs ≡ futures_of items → reverse xs ≡ services_of items → not (n == 0) ≡ is_some (newest xs)
is_suspended n fs items xs e f s =
    has_newest n xs (e ∙ sym (length-reverse fs) ∙ ap length f ∙ same_count items ∙ sym (ap length s) ∙ length-reverse xs)
