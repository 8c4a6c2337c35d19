-- Texts cut at a byte.
use Rattle.std.proofs.Common.{◌≡◌, ℕ, Bool, true, false, not, List, [], ◌∷◌, ◌++◌, refl, ap, ◌∙◌, append_assoc}
use Rattle.std.specs.Prelude.{◌==◌}
use Rattle.std.specs.List.{list_all, join_with_byte, onto_first}
use Rattle.std.proofs.lemmas.Bool.{and_parts, and_from, not-true, eq-eqb}
use Rattle.asp_model.specs.Names.{Text}
use Rattle.asp_model.specs.Report.{text_of}
use Rattle.asp_model.specs.ReportLines.{parts}

-- the byte c is not in the text
abbrev pub lacks : ℕ → Text → Bool
lacks c = list_all (λ b. not (b == c))

pub lacks-append : (c : ℕ) (xs ys : Text) → lacks c xs ≡ true → lacks c ys ≡ true → lacks c (xs ++ ys) ≡ true
lacks-append c [] ys h g = g
lacks-append c (x ∷ xs) ys h g = let p = and_parts (not (x == c)) (lacks c xs) h in and_from _ _ p.0 (lacks-append c xs ys p.1 g)

cut : ℕ → ℕ → Text → Bool → List Text
cut c b bs t = elim t [ true ↦ [] ∷ parts c bs | false ↦ onto_first b (parts c bs) ]

pub parts_one : (c : ℕ) (xs : Text) → lacks c xs ≡ true → parts c xs ≡ xs ∷ []
unfolding cut
parts_one c [] h = refl
parts_one c (x ∷ xs) h = let p = and_parts (not (x == c)) (lacks c xs) h in ap (cut c x xs) (not-true (x == c) p.0) ∙ ap (onto_first x) (parts_one c xs p.1)

pub parts_at : (c : ℕ) (xs ys : Text) → lacks c xs ≡ true → parts c (xs ++ c ∷ ys) ≡ xs ∷ parts c ys
unfolding cut
parts_at c [] ys h = ap (cut c c ys) (eq-eqb c c refl)
parts_at c (x ∷ xs) ys h = let p = and_parts (not (x == c)) (lacks c xs) h in ap (cut c x (xs ++ c ∷ ys)) (not-true (x == c) p.0) ∙ ap (onto_first x) (parts_at c xs ys p.1)

-- texts with a byte between that none of them has
pub parts_joined : (c : ℕ) (x : Text) (xs : List Text) → list_all (lacks c) (x ∷ xs) ≡ true → parts c (join_with_byte c (x ∷ xs)) ≡ x ∷ xs
parts_joined c x [] h = parts_one c x (and_parts (lacks c x) true h).0
parts_joined c x (y ∷ xs) h = let p = and_parts (lacks c x) (list_all (lacks c) (y ∷ xs)) h in parts_at c x (join_with_byte c (y ∷ xs)) p.0 ∙ ap (λ (l : List Text). x ∷ l) (parts_joined c y xs p.1)

-- lines, each with its line feed
pub parts_lines : (lines : List Text) → list_all (lacks 10) lines ≡ true → parts 10 (text_of lines) ≡ lines ++ [] ∷ []
parts_lines [] h = refl
parts_lines (l ∷ lines) h =
    let p = and_parts (lacks 10 l) (list_all (lacks 10) lines) h in
    ap (parts 10) (append_assoc l (10 ∷ []) (text_of lines)) ∙ parts_at 10 l (text_of lines) p.0 ∙ ap (λ (ls : List Text). l ∷ ls) (parts_lines lines p.1)
