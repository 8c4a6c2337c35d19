-- What a sink has taken after several pieces.
use Rattle.std.proofs.Common.{◌≡◌, ℕ, zero, suc, ◌+◌, ◌<◌, List, [], ◌∷◌, ◌++◌, map, length, take, drop, get_or, Option, Some, None, refl, sym, ap, subst, ◌∙◌, append_assoc, arith}
use Rattle.std.proofs.lemmas.List.{map-append, take_more, take_at, take-append-drop, append-nil}
use Rattle.std.proofs.lemmas.List.Folds.{concat-append}
use Rattle.std.specs.List.{concat}
use Rattle.asp_edge.specs.Told.{SinkTells}
use Rattle.asp_edge.specs.Causes.{Appends, Took, TookFront}

appends_then : (a b c : Option (List ℕ)) (x y : List ℕ) → Appends a b x → Appends b c y → Appends a c (x ++ y)
appends_then None b c x y h g = tt
appends_then (Some o) b c x y h g = let P : Option (List ℕ) → Type 0 = λ d. Appends d c y in subst P h g ∙ ap Some (append_assoc o x y)

pub took_then : (a b c : SinkTells) (x y : List ℕ) → Took a b x → Took b c y → Took a c (x ++ y)
took_then a b c x y h g = record {
  taken = g.taken ∙ ap (λ (l : List ℕ). l ++ y) h.taken ∙ append_assoc a.taken x y;
  told = appends_then a.bytes b.bytes c.bytes x y h.told g.told;
}

-- one more piece
pub concat_more : {X : Type 0} (f : X → List ℕ) (xs : List X) (i : ℕ) (x : X) → i < length xs → x ≡ get_or xs i x → concat (map f (take (i + 1) xs)) ≡ concat (map f (take i xs)) ++ f x
concat_more {X = X} f xs i x h e =
    ap (λ (l : List X). concat (map f l)) (take_more xs i x h) ∙ ap concat (map-append f (take i xs) (get_or xs i x ∷ [])) ∙ concat-append (map f (take i xs)) (f (get_or xs i x) ∷ [])
    ∙ ap (λ (t : List ℕ). concat (map f (take i xs)) ++ t) (append-nil (f (get_or xs i x))) ∙ ap (λ (y : X). concat (map f (take i xs)) ++ f y) (sym e)

-- the whole text, from before a piece on
concat_at : {X : Type 0} (f : X → List ℕ) (xs : List X) (i : ℕ) (x : X) → i < length xs → x ≡ get_or xs i x → concat (map f xs) ≡ concat (map f (take i xs)) ++ (f x ++ concat (map f (drop (suc i) xs)))
concat_at f [] i x h e = absurd (omega arith)
concat_at f (y ∷ xs) zero x h e = ap (λ z. f z ++ concat (map f xs)) (sym e)
concat_at f (y ∷ xs) (suc i) x h e =
    let within : i < length xs = omega arith in
    ap (λ (l : List ℕ). f y ++ l) (concat_at f xs i x within e) ∙ sym (append_assoc (f y) (concat (map f (take i xs))) (f x ++ concat (map f (drop (suc i) xs))))

-- a front part of the middle is one of the whole
front_of : (x y z : List ℕ) (n : ℕ) → take (length (x ++ take n y)) (x ++ (y ++ z)) ≡ x ++ take n y
front_of x y z n =
    let whole : x ++ (y ++ z) ≡ (x ++ take n y) ++ (drop n y ++ z) =
    ap (λ (l : List ℕ). x ++ (l ++ z)) (sym (take-append-drop n y)) ∙ ap (λ (l : List ℕ). x ++ l) (append_assoc (take n y) (drop n y) z) ∙ sym (append_assoc x (take n y) (drop n y ++ z)) in
    ap (take (length (x ++ take n y))) whole ∙ take_at (x ++ take n y) (drop n y ++ z) (length (x ++ take n y)) refl

front_then : (a b c : SinkTells) (x y z : List ℕ) → Took a b x → TookFront b c y → TookFront a c (x ++ (y ++ z))
front_then a b c x y z h g = (length (x ++ take g.0 y), subst (Took a c) (sym (front_of x y z g.0)) (took_then a b c x (take g.0 y) h g.1))

-- a sink that failed in a piece has taken a front part of the whole
pub fails_in : {X : Type 0} (f : X → List ℕ) (xs : List X) (i : ℕ) (x : X) (a b c : SinkTells) → i < length xs → x ≡ get_or xs i x → Took a b (concat (map f (take i xs))) → TookFront b c (f x) → TookFront a c (concat (map f xs))
fails_in f xs i x a b c h e told front =
    subst (TookFront a c) (sym (concat_at f xs i x h e)) (front_then a b c (concat (map f (take i xs))) (f x) (concat (map f (drop (suc i) xs))) told front)
