-- Two lists of lexemes with the same tokens, the first with places that rise: a function of places leads from one to the other.
use Rattle.std.proofs.Common.{◌≡◌, ℕ, zero, suc, ◌+◌, ◌<◌, Bool, List, [], ◌∷◌, ◌++◌, length, take, refl, sym, ap, ◌∙◌, arith, if◌then◌else◌}
use Rattle.std.specs.Prelude.{◌==◌}
use Rattle.std.proofs.lemmas.Bool.{ne_eqb, eq-eqb}
use Rattle.syntax_tokens.specs.Tokens.{Lexeme, lexeme, tokens_in}
use Rattle.syntax_tokens.specs.Levels.{WalkShape, walk, walked, flat, level_after}
use Rattle.asp_print.proofs.MovingLemmas.{moved_all, moved_lexeme}
use Rattle.syntax_tokens.proofs.WordLemmas.{Each, IsGood}
use Rattle.syntax_tokens.proofs.LexerLemmas.{Rises}

pub good_before : (n : ℕ) (ls : List Lexeme) (l : Lexeme) → Rises n (ls ++ l ∷ []) → Each IsGood (tokens_in ls)
good_before n [] l h = tt
good_before n (k ∷ []) l h = (h.1, tt)
good_before n (k ∷ m ∷ ls) l h = (h.1, good_before (k.at + 1) (m ∷ ls) l h.2)

abbrev chosen_place : Bool → ℕ → ℕ → ℕ
chosen_place b x y = if b then x else y

-- the place in the second list of what stands at a place in the first
abbrev pub place_in : List Lexeme → List Lexeme → ℕ → ℕ
place_in [] us n = 0
place_in (l ∷ ls) [] n = 0
place_in (l ∷ ls) (u ∷ us) n = chosen_place (n == l.at) u.at (place_in ls us n)

-- above a place other places play no part
above : (f : ℕ → ℕ) (k x n : ℕ) (ls : List Lexeme) → k < n → Rises n ls → moved_all (λ m. chosen_place (m == k) x (f m)) ls ≡ moved_all f ls
above f k x n [] h r = refl
above f k x n (l ∷ []) h r = ap (λ (b : Bool). lexeme l.token (chosen_place b x (f l.at)) ∷ []) (ne_eqb l.at k (λ e. omega arith))
above f k x n (l ∷ m ∷ ls) h r =
    let here = ne_eqb l.at k (λ e. omega arith) in
    λ i. lexeme l.token (chosen_place (here i) x (f l.at)) ∷ above f k x (l.at + 1) (m ∷ ls) (omega arith) r.2 i

tail_rises : (n : ℕ) (l : Lexeme) (ls : List Lexeme) → Rises n (l ∷ ls) → Rises (l.at + 1) ls
tail_rises n l [] r = tt
tail_rises n l (m ∷ ls) r = r.2

pub found : (n : ℕ) (ls us : List Lexeme) → Rises n ls → tokens_in us ≡ tokens_in ls → moved_all (place_in ls us) ls ≡ us
found n [] [] r e = refl
found n [] (u ∷ us) r e = cc
found n (l ∷ ls) [] r e = cc
found n (l ∷ ls) (u ∷ us) r e =
    let token : l.token ≡ u.token = cc in
    let tokens : tokens_in us ≡ tokens_in ls = cc in
    let rest = above (place_in ls us) l.at u.at (l.at + 1) ls (omega arith) (tail_rises n l ls r) ∙ found (l.at + 1) ls us (tail_rises n l ls r) tokens in
    λ i. lexeme (token i) (chosen_place (eq-eqb l.at l.at refl i) u.at (place_in ls us l.at)) ∷ rest i

-- Levels

walk_moved : (f : ℕ → ℕ) (w : WalkShape) (ls : List Lexeme) → walk w (moved_all f ls) ≡ walk w ls
walk_moved f w [] = refl
walk_moved f w (l ∷ ls) = walk_moved f (walked w l.token) ls

take_both : (xs ys : List Lexeme) → take (length xs) (xs ++ ys) ≡ xs
take_both [] ys = refl
take_both (x ∷ xs) ys = ap (λ (zs : List Lexeme). x ∷ zs) (take_both xs ys)

take_moved : (f : ℕ → ℕ) (n : ℕ) (ls : List Lexeme) → take n (moved_all f ls) ≡ moved_all f (take n ls)
take_moved f zero ls = refl
take_moved f (suc n) [] = refl
take_moved f (suc n) (l ∷ ls) = ap (λ (zs : List Lexeme). moved_lexeme f l ∷ zs) (take_moved f n ls)

-- the level is that of the lexemes with their other places
pub level_moved : (f : ℕ → ℕ) (ls before behind : List Lexeme) → moved_all f ls ≡ before ++ behind → level_after before ≡ level_after (take (length before) ls)
level_moved f ls before behind e =
    ap level_after (sym (take_both before behind) ∙ ap (take (length before)) (sym e) ∙ take_moved f (length before) ls)
    ∙ ap (λ (w : WalkShape). w.level) (walk_moved f flat (take (length before) ls))
