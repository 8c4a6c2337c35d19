-- The text of lines, one line more.
use Rattle.std.proofs.Common.{◌≡◌, ℕ, ◌+◌, ◌<◌, List, [], ◌∷◌, ◌++◌, map, length, take, get_or, ap, ◌∙◌, sym}
use Rattle.std.specs.List.{concat}
use Rattle.std.proofs.lemmas.List.{append-nil, map-append, take_more}
use Rattle.std.proofs.lemmas.List.Folds.{concat-append}
use Rattle.asp_model.specs.Report.{text_of, with_feed}

text_append : (xs ys : List (List ℕ)) → text_of (xs ++ ys) ≡ text_of xs ++ text_of ys
text_append xs ys = ap concat (map-append with_feed xs ys) ∙ concat-append (map with_feed xs) (map with_feed ys)

pub text_more : (xs : List (List ℕ)) (i : ℕ) (x : List ℕ) → i < length xs → x ≡ get_or xs i x → text_of (take (i + 1) xs) ≡ text_of (take i xs) ++ with_feed x
text_more xs i x h e =
    ap text_of (take_more xs i x h) ∙ text_append (take i xs) (get_or xs i x ∷ [])
    ∙ ap (λ (l : List ℕ). text_of (take i xs) ++ text_of (l ∷ [])) (sym e)
    ∙ ap (λ (l : List ℕ). text_of (take i xs) ++ l) (append-nil (with_feed x))
