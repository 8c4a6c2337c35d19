-- Items that are written one after another.
use Rattle.std.proofs.Common.{◌≡◌, ℕ, suc, ◌+◌, ◌<◌, ◌≤◌, List, [], ◌∷◌, ◌++◌, length, map, get_or, drop, refl, sym, ap, ◌∙◌, append_assoc}
use Rattle.std.proofs.lemmas.List.{append-nil, at_drop_more, at_drop_all}
use Rattle.std.proofs.lemmas.Grind.{flat_map-append}
use Rattle.std.specs.Prelude.{codes}
use Rattle.std.specs.List.{flat_map}
use Rattle.std.specs.Fmt.{decimal}
use Rattle.checkpoint_text.specs.Items.{Items, list_items, number_items}
use Rattle.checkpoint_text.specs.Writing.{words}

pub words_both : (ts us : Items) → words ts ++ words us ≡ words (ts ++ us)
words_both ts us = sym (flat_map-append (λ i. codes " " ++ i) ts us)

-- one after another
pub onward : (x : List ℕ) (ts us : Items) {y z : List ℕ} → y ≡ x ++ words ts → z ≡ y ++ words us → z ≡ x ++ words (ts ++ us)
onward x ts us e d = d ∙ ap (λ (y : List ℕ). y ++ words us) e ∙ append_assoc x (words ts) (words us) ∙ ap (λ (zs : List ℕ). x ++ zs) (words_both ts us)

-- a loop's step over a list
pub item_more : {A : Type 0} (f : A → Items) (xs : List A) (i : ℕ) (x : A) (s0 s1 : List ℕ) → i < length xs → x ≡ get_or xs i x → s1 ≡ s0 ++ words (f x)
    → s1 ++ words (flat_map f (drop (i + 1) xs)) ≡ s0 ++ words (flat_map f (drop i xs))
item_more {A = A} f xs i x s0 s1 h e put =
    ap (λ (y : List ℕ). y ++ words (flat_map f (drop (i + 1) xs))) put
    ∙ append_assoc s0 (words (f x)) (words (flat_map f (drop (i + 1) xs)))
    ∙ ap (λ (y : List ℕ). s0 ++ y) (words_both (f x) (flat_map f (drop (i + 1) xs)))
    ∙ ap (λ (y : A). s0 ++ words (flat_map f (y ∷ drop (i + 1) xs))) e
    ∙ sym (at_drop_more (λ (ys : List A). s0 ++ words (flat_map f ys)) xs i x h)

-- and its end, where the length was written before
pub list_over : {A : Type 0} (f : A → Items) (xs : List A) (i : ℕ) (x s1 s2 : List ℕ) → length xs ≤ i → s1 ≡ x ++ words (number_items (length xs))
    → s2 ++ words (flat_map f (drop i xs)) ≡ s1 ++ words (flat_map f xs) → s2 ≡ x ++ words (list_items f xs)
list_over {A = A} f xs i x s1 s2 h first e =
    onward x (number_items (length xs)) (flat_map f xs) first
    (sym (append-nil s2) ∙ sym (at_drop_all (λ (ys : List A). s2 ++ words (flat_map f ys)) xs i h) ∙ e)

-- a list of what is made of others
pub list_mapped : {A B : Type 0} (f : B → Items) (g : A → B) (xs : List A) → list_items f (map g xs) ≡ list_items (λ x. f (g x)) xs
list_mapped {A = A} f g xs = λ i. decimal (counts xs i) ∷ flats xs i
  where
    counts : (ys : List A) → length (map g ys) ≡ length ys
    counts [] = refl
    counts (y ∷ ys) = ap suc (counts ys)

    flats : (ys : List A) → flat_map f (map g ys) ≡ flat_map (λ x. f (g x)) ys
    flats [] = refl
    flats (y ∷ ys) = ap (λ ts. f (g y) ++ ts) (flats ys)

pub ruleset writing = (append-nil, append_assoc, flat_map-append)
