-- The numbers of labels in a map, from the last label to the first.
use Rattle.std.proofs.Common.{◌≡◌, ℕ, suc, ◌+◌, ◌<◌, Bool, true, false, cond, List, [], ◌∷◌, Option, Some, None, length, map, drop, get_or, refl, sym, ap, subst, ◌∙◌, arith}
use Rattle.std.proofs.Math.Seq.{drop-cons, drop-length}
use Rattle.std.specs.BTreeMap.{is_at}
use Rattle.std.specs.Cmp.Lexicographic.{nat_list_eq_equiv, texts_ties}
use Rattle.std.specs.Map.{lookup}
use Rattle.std.specs.Option.{option_map}
use Rattle.std.specs.Ordering.{is_eq}
use Rattle.asp_model.specs.declared.word.Label.{Label}
use Rattle.asp_model.specs.Names.{Text, same_text}
use Rattle.code_table.specs.Numbers.{number_of, number_in, label_order, AreNumbers}
use Rattle.code_table.proofs.LookupLemmas.{chosen, number_cons, get_map, map_size}

-- a number among labels of which so many others stand before
abbrev behind : ℕ → Option ℕ → Option ℕ
behind i o = option_map (λ k. i + k) o

-- the map has the numbers of the labels from this number on
abbrev pub AreFrom : ℕ → List Text → List (Label × ℕ) → Type 0
AreFrom i ls es = (l : Label) → number_in es l ≡ behind i (number_of l.text (drop i ls))

-- labels tie where their texts are one
tied : (l m : Label) → is_eq (label_order l m) ≡ same_text m.text l.text
tied l m = sym (texts_ties l.text m.text) ∙ nat_list_eq_equiv.symm l.text m.text

chosen_behind : (i : ℕ) (b : Bool) (o : Option ℕ) → cond b (Some i) (behind (suc i) o) ≡ behind i (chosen b o)
chosen_behind i true o = let same : i ≡ i + 0 = omega arith in ap Some same
chosen_behind i false None = refl
chosen_behind i false (Some k) = let same : suc i + k ≡ i + suc k = omega arith in ap Some same

pub none_yet : {A : Type 0} (name : A → Text) (xs : List A) (es : List (Label × ℕ)) → es ≡ [] → AreFrom (length xs) (map name xs) es
none_yet name xs es e l =
    ap (lookup (is_at (label_order l))) e
    ∙ sym (ap (λ (ls : List Text). behind (length xs) (number_of l.text ls)) (ap (λ (n : ℕ). drop n (map name xs)) (sym (map_size name xs)) ∙ drop-length (map name xs)))

one_more : (ls : List Text) (i : ℕ) (d : Text) (key : Label) (es fs : List (Label × ℕ)) → i < length ls → key.text ≡ get_or ls i d → AreFrom (suc i) ls es
    → ((l : Label) → number_in fs l ≡ cond (is_at (label_order key) l) (Some i) (number_in es l)) → AreFrom i ls fs
one_more ls i d key es fs lt is h updates l =
    let rest : List Text = drop (suc i) ls in
    updates l
    ∙ (λ j. cond (tied key l j) (Some i) (h l j))
    ∙ chosen_behind i (same_text l.text key.text) (number_of l.text rest)
    ∙ ap (behind i) (sym (number_cons l.text key.text rest))
    ∙ ap (λ (xs : List Text). behind i (number_of l.text xs)) ((λ j. is j ∷ rest) ∙ sym (drop-cons ls i d lt))

-- the label before those whose numbers are there is put in
pub put_before : {A : Type 0} (name : A → Text) (xs : List A) (i : ℕ) (x : A) (key : Label) (es fs : List (Label × ℕ)) → i < length xs → x ≡ get_or xs i x → key.text ≡ name x
    → AreFrom (suc i) (map name xs) es → ((l : Label) → number_in fs l ≡ cond (is_at (label_order key) l) (Some i) (number_in es l)) → AreFrom i (map name xs) fs
put_before name xs i x key es fs lt at is h updates =
    let less : i < length (map name xs) = subst (λ (k : ℕ). i < k) (sym (map_size name xs)) lt in
    one_more (map name xs) i (name x) key es fs less (is ∙ ap name at ∙ sym (get_map name xs i x lt)) h updates

from_first : (o : Option ℕ) → behind 0 o ≡ o
from_first None = refl
from_first (Some k) = let same : 0 + k ≡ k = omega arith in ap Some same

pub all_in : (ls : List Text) (es : List (Label × ℕ)) → AreFrom 0 ls es → AreNumbers ls es
all_in ls es h l = h l ∙ from_first (number_of l.text ls)
