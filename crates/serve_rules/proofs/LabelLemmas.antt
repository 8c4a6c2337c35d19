-- Labels that are asked for, walked in their order.
use Rattle.std.proofs.Common.{◌≡◌, ◌||◌, ◌<◌, ◌+◌, ℕ, zero, suc, Bool, true, false, List, [], ◌∷◌, ◌++◌, Option, Some, None, is_some, length, map, take, drop, get_or, refl, sym, ap, ◌∙◌, arith}
use Rattle.std.proofs.lemmas.List.{take_more}
use Rattle.std.proofs.lemmas.Slice.Eq.{bytes_eq-Decides}
use Rattle.std.specs.Cmp.Lexicographic.{nat_list_eq_equiv}
use Rattle.asp_model.specs.Names.{Text, same_text}
use Rattle.asp_model.specs.Store.{MethodShape}
use Rattle.asp_model.specs.Term.{has_text}
use Rattle.code_table.specs.Classes.{number_of}
use Rattle.code_table.specs.Pieces.{Piece}
use Rattle.code_table.specs.Tables.{seen_methods}
use Rattle.code_table.specs.declared.code.MethodCode.{MethodCode}
use Rattle.code_table.proofs.LookupLemmas.{chosen, number_cons}
use Rattle.serve_rules.specs.Labels.{LabelsAreOfObjects, method_text}

-- Texts that are equal

pub one_text : (x y : Text) → same_text x y ≡ true → x ≡ y
one_text x y e = (bytes_eq-Decides x y).0 e

abbrev pub map_more : {A : Type 0} → (A → Text) → List A → A → Type 0
map_more f xs x = map f (xs ++ x ∷ []) ≡ map f xs ++ f x ∷ []

mapped : {A : Type 0} (f : A → Text) (xs : List A) (x : A) → map_more f xs x
mapped f [] x = refl
mapped f (y ∷ xs) x = ap (λ ys. f y ∷ ys) (mapped f xs x)

-- the texts of one item more
taken_more : {A : Type 0} (f : A → Text) (xs : List A) (i : ℕ) (x : A) → i < length xs → x ≡ get_or xs i x → map f (take (i + 1) xs) ≡ map f (take i xs) ++ f x ∷ []
taken_more f xs i x lt at = ap (map f) (take_more xs i x lt) ∙ mapped f (take i xs) (get_or xs i x) ∙ ap (λ y. map f (take i xs) ++ f y ∷ []) (sym at)

-- two lists that are alike so far have one text more in common
pub alike_more : {A B : Type 0} (f : A → Text) (g : B → Text) (xs : List A) (ys : List B) (i : ℕ) (x : A) (y : B) → i < length xs → x ≡ get_or xs i x → i < length ys → y ≡ get_or ys i y → same_text (f x) (g y) ≡ true
    → map g (take i ys) ≡ map f (take i xs) → map g (take (i + 1) ys) ≡ map f (take (i + 1) xs)
alike_more f g xs ys i x y lx ax ly ay e h = taken_more g ys i y ly ay ∙ (λ j. h j ++ sym (one_text (f x) (g y) e) j ∷ []) ∙ sym (taken_more f xs i x lx ax)

-- Lists that are looked at in order

pub has_item : {A : Type 0} (name : A → Text) (xs : List A) (i : ℕ) (x : A) → i < length xs → x ≡ get_or xs i x → has_text (name x) (map name xs) ≡ true
has_item name [] i x lt at = absurd (omega (arith, lt))
has_item name (y ∷ ys) zero x lt at = ap (λ (z : Text). same_text (name x) z || has_text (name x) (map name ys)) (sym (ap name at)) ∙ ap (λ b. b || has_text (name x) (map name ys)) (nat_list_eq_equiv.refl (name x))
has_item name (y ∷ ys) (suc i) x lt at = let less : i < length ys = omega (arith, lt) in by (same_text (name x) (name y)) (has_text (name x) (map name ys)) (has_item name ys i x less at)
  where
    by : (b c : Bool) → c ≡ true → (b || c) ≡ true
    by true c h = refl
    by false c h = h

number_or : (b : Bool) (o : Option ℕ) → is_some (chosen b o) ≡ (b || is_some o)
number_or true o = refl
number_or false None = refl
number_or false (Some n) = refl

-- a text has a number where it is there
pub number_has : (l : Text) (xs : List Text) → is_some (number_of l xs) ≡ has_text l xs
number_has l [] = refl
number_has l (x ∷ xs) = ap is_some (number_cons l x xs) ∙ number_or (same_text l x) (number_of l xs) ∙ ap (λ b. same_text l x || b) (number_has l xs)

-- the methods of an object have the labels of its class
methods_seen : (ps : List Piece) (ms : List MethodCode) (ns : List ℕ) → map (λ (m : MethodShape). m.head.label) (seen_methods ps ms ns) ≡ map method_text ms
methods_seen ps [] ns = refl
methods_seen ps (m ∷ ms) ns = ap (λ (ls : List Text). method_text m ∷ ls) (methods_seen ps ms (drop (length m.captured.items) ns))

pub object_labels : LabelsAreOfObjects
object_labels ps k ns = methods_seen ps k.methods.items (drop (length k.fields.items) ns)
