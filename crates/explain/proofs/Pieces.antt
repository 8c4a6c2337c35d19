-- Texts one behind the other.
use Rattle.std.proofs.Common.{◌≡◌, ℕ, ◌+◌, ◌<◌, List, [], ◌∷◌, ◌++◌, length, take, map, get_or, ap, sym, ◌∙◌, append_assoc}
use Rattle.std.proofs.lemmas.List.{append-nil, take_more}
use Rattle.std.specs.List.{concat}

concat-push : {X : Type 0} (f : X → List ℕ) (xs : List X) (x : X) → concat (map f (xs ++ x ∷ [])) ≡ concat (map f xs) ++ f x
concat-push f [] x = append-nil (f x)
concat-push f (y ∷ xs) x = ap (λ (l : List ℕ). f y ++ l) (concat-push f xs x) ∙ sym (append_assoc (f y) (concat (map f xs)) (f x))

-- a loop's step over texts
pub concat_more : {X : Type 0} (f : X → List ℕ) (xs : List X) (i : ℕ) (x : X) → i < length xs → x ≡ get_or xs i x → concat (map f (take (i + 1) xs)) ≡ concat (map f (take i xs)) ++ f x
concat_more f xs i x h e = ap (λ l. concat (map f l)) (take_more xs i x h) ∙ concat-push f (take i xs) (get_or xs i x) ∙ ap (λ y. concat (map f (take i xs)) ++ f y) (sym e)
