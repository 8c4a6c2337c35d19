-- The lines that are seen.
use Rattle.std.proofs.Common.{◌≡◌, ℕ, ◌+◌, ◌<◌, Bool, true, false, List, [], ◌∷◌, ◌++◌, map, length, take, get_or, ap, ◌∙◌, sym}
use Rattle.std.specs.Prelude.{cond, not}
use Rattle.std.specs.List.{concat, filter}
use Rattle.std.proofs.lemmas.List.{append-nil, map-append, take_more}
use Rattle.std.proofs.lemmas.List.Elements.{filter-append}
use Rattle.std.proofs.lemmas.List.Folds.{concat-append}
use Rattle.asp_model.specs.Report.{with_feed}
use Rattle.outcomes_text.specs.Outcomes.{is_log_line, seen_among}

pub seen_append : (xs ys : List (List ℕ)) → seen_among (xs ++ ys) ≡ seen_among xs ++ seen_among ys
seen_append xs ys =
    let keep : List ℕ → Bool = λ l. not (is_log_line l) in
    ap (λ (ls : List (List ℕ)). concat (map with_feed ls)) (filter-append keep xs ys)
    ∙ ap concat (map-append with_feed (filter keep xs) (filter keep ys))
    ∙ concat-append (map with_feed (filter keep xs)) (map with_feed (filter keep ys))

-- a loop's step
pub seen_more : (xs : List (List ℕ)) (i : ℕ) (x : List ℕ) → i < length xs → x ≡ get_or xs i x → seen_among (take (i + 1) xs) ≡ seen_among (take i xs) ++ seen_among (x ∷ [])
seen_more xs i x h e =
    ap seen_among (take_more xs i x h) ∙ seen_append (take i xs) (get_or xs i x ∷ [])
    ∙ ap (λ (l : List ℕ). seen_among (take i xs) ++ seen_among (l ∷ [])) (sym e)

pub seen_log : (l : List ℕ) → is_log_line l ≡ true → seen_among (l ∷ []) ≡ []
seen_log l e = ap (λ (b : Bool). concat (map with_feed (cond (not b) (l ∷ []) []))) e

pub seen_other : (l : List ℕ) → is_log_line l ≡ false → seen_among (l ∷ []) ≡ l ++ 10 ∷ []
seen_other l e = ap (λ (b : Bool). concat (map with_feed (cond (not b) (l ∷ []) []))) e ∙ append-nil (l ++ 10 ∷ [])
