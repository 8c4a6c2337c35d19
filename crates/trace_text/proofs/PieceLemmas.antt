-- Pieces of a text, and the words of a line.
use Rattle.std.proofs.Common.{◌≡◌, true, ℕ, ◌+◌, ◌<◌, List, [], ◌∷◌, ◌++◌, map, take, get_or, length, None, Bor, Global, refl, ap, sym, ◌∙◌, arith, append_assoc}
use Rattle.std.specs.Prelude.{string_bytes}
use Rattle.std.specs.declared.string.String.{String}
use Rattle.std.specs.List.{concat, list_all}
use Rattle.std.proofs.lemmas.Bool.{and_from}
use Rattle.std.proofs.lemmas.List.Folds.{list_all-append}
use Rattle.std.proofs.lemmas.List.{append-nil, map-append, take_more}
use Rattle.asp_model.specs.declared.journal.Entry.{Entry}
use Rattle.asp_model.specs.History.{EntryShape}
use Rattle.asp_model.specs.Names.{Text}
use Rattle.asp_model.specs.Shapes.{entry_shape}
use Rattle.asp_model.specs.Report.{text_of, with_feed}
use Rattle.trace_text.specs.Traces.{entry_line, entry_of_words, has_numbers}

concat_last : (xs : List Text) (x : Text) → concat (xs ++ x ∷ []) ≡ concat xs ++ x
concat_last [] x = append-nil x
concat_last (y ∷ xs) x = ap (λ (t : Text). y ++ t) (concat_last xs x) ∙ sym (append_assoc y (concat xs) x)

-- one piece more
pub pieces_push : (old new : List (String Global)) (x : String Global) → new ≡ old ++ x ∷ [] → concat (map string_bytes new) ≡ concat (map string_bytes old) ++ string_bytes x
pieces_push old new x e =
    ap (λ (xs : List (String Global)). concat (map string_bytes xs)) e
    ∙ ap concat (map-append string_bytes old (x ∷ []))
    ∙ concat_last (map string_bytes old) (string_bytes x)

-- a text behind the last piece
pub adds : (full : List (String Global)) (old new : String Global) (piece : List ℕ) → string_bytes new ≡ string_bytes old ++ piece
    → concat (map string_bytes full) ++ string_bytes new ≡ (concat (map string_bytes full) ++ string_bytes old) ++ piece
adds full old new piece e = ap (λ (t : List ℕ). concat (map string_bytes full) ++ t) e ∙ sym (append_assoc (concat (map string_bytes full)) (string_bytes old) piece)

abbrev lines_to : List Entry → ℕ → List Text
lines_to xs i = map entry_line (map entry_shape (take i xs))

text_last : (ls : List Text) (l : Text) → text_of (ls ++ l ∷ []) ≡ text_of ls ++ with_feed l
text_last ls l = ap concat (map-append with_feed ls (l ∷ [])) ∙ concat_last (map with_feed ls) (with_feed l)

-- the line of one more entry
pub lines_more : (xs : List Entry) (i : ℕ) (x : Entry) → i < length xs → x ≡ get_or xs i x → text_of (lines_to xs (i + 1)) ≡ text_of (lines_to xs i) ++ with_feed (entry_line (entry_shape x))
lines_more xs i x h e =
    ap (λ (es : List Entry). text_of (map entry_line (map entry_shape es))) (take_more xs i x h)
    ∙ ap (λ (es : List EntryShape). text_of (map entry_line es)) (map-append entry_shape (take i xs) (get_or xs i x ∷ []))
    ∙ ap text_of (map-append entry_line (map entry_shape (take i xs)) (entry_shape (get_or xs i x) ∷ []))
    ∙ text_last (lines_to xs i) (entry_line (entry_shape (get_or xs i x)))
    ∙ ap (λ (y : Entry). text_of (lines_to xs i) ++ with_feed (entry_line (entry_shape y))) (sym e)

-- and its numbers
pub numbers_more : (xs : List Entry) (i : ℕ) (x : Entry) → i < length xs → x ≡ get_or xs i x → list_all has_numbers (map entry_shape (take i xs)) ≡ true → has_numbers (entry_shape x) ≡ true → list_all has_numbers (map entry_shape (take (i + 1) xs)) ≡ true
numbers_more xs i x h e before one =
    ap (λ (es : List Entry). list_all has_numbers (map entry_shape es)) (take_more xs i x h)
    ∙ ap (list_all has_numbers) (map-append entry_shape (take i xs) (get_or xs i x ∷ []))
    ∙ list_all-append has_numbers (map entry_shape (take i xs)) (entry_shape (get_or xs i x) ∷ [])
    ∙ and_from _ _ before (and_from _ _ (ap (λ (y : Entry). has_numbers (entry_shape y)) (sym e) ∙ one) refl)

pub text_end : (ls : List Text) (l : Text) → text_of (ls ++ l ∷ []) ≡ text_of ls ++ with_feed l
text_end = text_last

-- Lines that have too few words, or too many

pub few_words : (ws : List (Bor (List ℕ))) → length ws < 2 → None ≡ entry_of_words (map (λ w. w.now) ws)
few_words [] h = refl
few_words (a ∷ []) h = refl
few_words (a ∷ b ∷ ws) h = absurd (omega (arith, h))

pub many_words : (a b : Text) (ws : List (Bor (List ℕ))) → 2 < length ws → None ≡ entry_of_words (a ∷ b ∷ map (λ w. w.now) ws)
many_words a b [] h = absurd (omega (arith, h))
many_words a b (c ∷ []) h = absurd (omega (arith, h))
many_words a b (c ∷ d ∷ []) h = absurd (omega (arith, h))
many_words a b (c ∷ d ∷ e ∷ ws) h = refl
