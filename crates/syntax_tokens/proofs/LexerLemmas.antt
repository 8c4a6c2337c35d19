-- What holds of the tokens of any bytes: all but the last are read again from their text, and places rise.
use Rattle.std.proofs.Common.{◌≡◌, ℕ, ◌+◌, ◌-◌, ◌*◌, ◌^◌, ◌<◌, ◌≤◌, pos, Bool, true, false, List, [], ◌∷◌, ◌++◌, Option, Some, None, arith, if◌then◌else◌}
use Rattle.std.specs.Prelude.{◌==◌, nat_lt, IfSome}
use Rattle.std.proofs.lemmas.Bool.{ltb-true}
use Rattle.std.proofs.lemmas.Bool.Decides.{nat_tests}
use Rattle.syntax_tokens.specs.declared.token.Token.{Token}
use Rattle.syntax_tokens.specs.declared.token.Token.TheVariants as tokens
use Rattle.asp_model.specs.WellFormed.{is_printable}
use Rattle.syntax_tokens.specs.Bytes.{is_digit, is_letter, is_blank, is_inner, sign_token, word_token}
use Rattle.syntax_tokens.specs.Tokens.{Lexeme, lexeme, Scan, Between, InComment, AfterSlash, AfterColon, AfterEquals, InNumber, InWord, InText, Move, Goes, NoToken, TooLarge, digit, sign_move, between, with_token, move, at_end, after_move, lex, lexemes_of}
use Rattle.syntax_tokens.proofs.TableLemmas.{by_test, either, IsFixed, of_sign, of_word}
use Rattle.syntax_tokens.proofs.WordLemmas.{Each, IsPlain, IsWord, IsInner, IsGood}

-- Good tokens

fixed_good : (t : Token) → IsFixed t → IsGood t
fixed_good (tokens.Number n) h = absurd h
fixed_good (tokens.Name x) h = absurd h
fixed_good (tokens.Text x) h = absurd h
fixed_good tokens.End h = absurd h
fixed_good tokens.BadByte h = absurd h
fixed_good tokens.BadNumber h = absurd h
fixed_good t h = tt

word_good : (w : List ℕ) → IsWord w → IsGood (word_token w)
word_good w h = of_word IsGood fixed_good w (λ e. (h, e))

-- what was begun, at a place: it began before, and gives a good token
abbrev IsBegun : Scan → ℕ → Type 0
IsBegun Between at = Unit {0}
IsBegun InComment at = Unit {0}
IsBegun (AfterSlash start) at = start < at
IsBegun (AfterColon start) at = start < at
IsBegun (AfterEquals start) at = start < at
IsBegun (InNumber start n) at = (start < at) × (n < 2 ^ 63)
IsBegun (InWord start w) at = (start < at) × IsWord w
IsBegun (InText start x) at = (start < at) × Each IsPlain x

-- the least place of what comes
abbrev least : Scan → ℕ → ℕ
least Between at = at
least InComment at = at
least (AfterSlash start) at = start
least (AfterColon start) at = start
least (AfterEquals start) at = start
least (InNumber start n) at = start
least (InWord start w) at = start
least (InText start x) at = start

-- lexemes whose places rise from a place on; all but the last are good
abbrev pub Rises : ℕ → List Lexeme → Type 0
Rises n [] = Unit {0}
Rises n (l ∷ []) = n ≤ l.at
Rises n (l ∷ k ∷ ls) = (n ≤ l.at) × IsGood l.token × Rises (l.at + 1) (k ∷ ls)

-- good lexemes from a place on, and then what holds from the place behind them on
abbrev Comes : ℕ → List Lexeme → (ℕ → Type 0) → Type 0
Comes n [] P = P n
Comes n (l ∷ ls) P = (n ≤ l.at) × IsGood l.token × Comes (l.at + 1) ls P

-- what a byte at a place gives
abbrev Moves : ℕ → ℕ → Move → Type 0
Moves n at (Goes ts scan) = Comes n ts (λ k. (k ≤ least scan (at + 1)) × IsBegun scan (at + 1))
Moves n at (NoToken ts bad) = Comes n ts (λ k. k ≤ bad)
Moves n at (TooLarge ts bad) = Comes n ts (λ k. k ≤ bad)

sign_moves : (n at : ℕ) (o : Option Token) → n ≤ at → IfSome o IsGood → Moves n at (sign_move at o)
sign_moves n at None h k = h
sign_moves n at (Some t) h k = (h, k, (omega arith, tt))

small_digit : (b : ℕ) → is_digit b ≡ true → b - 48 < 2 ^ 63
small_digit b h = let d : b - 48 < 10 = grind (arith, nat_tests) in omega arith

between_moves : (n at b : ℕ) → n ≤ at → Moves n at (between at b)
unfolding between
between_moves n at b h =
    either (Moves n at) (is_blank b) (omega arith, tt)
    (by_test (Moves n at) (is_digit b) (λ d. (h, (omega arith, small_digit b d))) (λ _.
    by_test (Moves n at) (is_letter b) (λ l. (h, (omega arith, (l, tt)))) (λ _.
    either (Moves n at) (b == 47) (h, omega arith)
    (either (Moves n at) (b == 58) (h, omega arith)
    (either (Moves n at) (b == 61) (h, omega arith)
    (either (Moves n at) (b == 34) (h, (omega arith, tt))
    (sign_moves n at (sign_token b) h (of_sign IsGood fixed_good b))))))))

with_moves : (n at : ℕ) (l : Lexeme) (m : Move) → n ≤ l.at → IsGood l.token → Moves (l.at + 1) at m → Moves n at (with_token l m)
with_moves n at l (Goes ts s) h g k = (h, g, k)
with_moves n at l (NoToken ts bad) h g k = (h, g, k)
with_moves n at l (TooLarge ts bad) h g k = (h, g, k)

-- a token that is over, and then the byte behind it
over_moves : (n start at b : ℕ) (t : Token) → n ≤ start → start < at → IsGood t → Moves n at (with_token (lexeme t start) (between at b))
over_moves n start at b t h k g = with_moves n at (lexeme t start) (between at b) h g (between_moves (start + 1) at b (omega arith))

digit_moves : (n start at k b : ℕ) → n ≤ start → start < at → Moves n at (digit start k b)
digit_moves n start at k b h i =
    by_test (Moves n at) (nat_lt (k * 10 + (b - 48)) (2 ^ 63)) (λ d. (h, (omega arith, ltb-true (k * 10 + (b - 48)) (2 ^ 63) d))) (λ _. h)

inner_more : (bs : List ℕ) (b : ℕ) → Each IsInner bs → is_inner b ≡ true → Each IsInner (bs ++ b ∷ [])
inner_more [] b h k = (k, tt)
inner_more (c ∷ bs) b h k = (h.0, inner_more bs b h.1 k)

word_more : (w : List ℕ) (b : ℕ) → IsWord w → is_inner b ≡ true → IsWord (w ++ b ∷ [])
word_more [] b h k = absurd h
word_more (c ∷ w) b h k = (h.0, inner_more w b h.1 k)

plain_more : (x : List ℕ) (b : ℕ) → Each IsPlain x → IsPlain b → Each IsPlain (x ++ b ∷ [])
plain_more [] b h k = (k, tt)
plain_more (c ∷ x) b h k = (h.0, plain_more x b h.1 k)

comment_moves : (n at : ℕ) (b : Bool) → n ≤ at → Moves n at (Goes [] (if b then Between else InComment))
comment_moves n at true h = (omega arith, tt)
comment_moves n at false h = (omega arith, tt)

moves : (n : ℕ) (s : Scan) (at b : ℕ) → n ≤ least s at → IsBegun s at → Moves n at (move s at b)
moves n Between at b h k = between_moves n at b h
moves n InComment at b h k = comment_moves n at (b == 10) h
moves n (AfterSlash start) at b h k = either (Moves n at) (b == 47) (omega arith, tt) (over_moves n start at b tokens.Slash h k tt)
moves n (AfterColon start) at b h k = either (Moves n at) (b == 61) (h, tt, (omega arith, tt)) h
moves n (AfterEquals start) at b h k = either (Moves n at) (b == 61) (h, tt, (omega arith, tt)) (over_moves n start at b tokens.Equals h k tt)
moves n (InNumber start i) at b h k = either (Moves n at) (is_digit b) (digit_moves n start at i b h k.0) (over_moves n start at b (tokens.Number (pos i)) h k.0 k.1)
moves n (InWord start w) at b h k = by_test (Moves n at) (is_inner b) (λ d. (h, (omega arith, word_more w b k.1 d))) (λ _. over_moves n start at b (word_token w) h k.0 (word_good w k.1))
moves n (InText start x) at b h k =
    by_test (Moves n at) (b == 34) (λ _. (h, k.1, (omega arith, tt))) (λ quote.
    by_test (Moves n at) (is_printable b) (λ d. (h, (omega arith, plain_more x b k.1 (record { quote = quote; text = d })))) (λ _. let bad : n ≤ at = omega arith in bad))

ends : (n : ℕ) (s : Scan) (at : ℕ) → n ≤ least s at → IsBegun s at → Rises n (at_end s at)
ends n Between at h k = h
ends n InComment at h k = h
ends n (AfterSlash start) at h k = (h, tt, omega arith)
ends n (AfterColon start) at h k = h
ends n (AfterEquals start) at h k = (h, tt, omega arith)
ends n (InNumber start i) at h k = (h, k.1, omega arith)
ends n (InWord start w) at h k = (h, word_good w k.1, omega arith)
ends n (InText start x) at h k = let bad : n ≤ at = omega arith in bad

more_rises : (n : ℕ) (l : Lexeme) (ls : List Lexeme) → n ≤ l.at → IsGood l.token → Rises (l.at + 1) ls → Rises n (l ∷ ls)
more_rises n l [] h g k = h
more_rises n l (m ∷ ls) h g k = (h, g, k)

no_token : (at n : ℕ) (ts : List Lexeme) (bad : ℕ) → Moves n at (NoToken ts bad) → Rises n (ts ++ lexeme tokens.BadByte bad ∷ [])
no_token at n [] bad h = h
no_token at n (l ∷ ts) bad h = more_rises n l (ts ++ lexeme tokens.BadByte bad ∷ []) h.0 h.1 (no_token at (l.at + 1) ts bad h.2)

too_large : (at n : ℕ) (ts : List Lexeme) (bad : ℕ) → Moves n at (TooLarge ts bad) → Rises n (ts ++ lexeme tokens.BadNumber bad ∷ [])
too_large at n [] bad h = h
too_large at n (l ∷ ts) bad h = more_rises n l (ts ++ lexeme tokens.BadNumber bad ∷ []) h.0 h.1 (too_large at (l.at + 1) ts bad h.2)

module _ (at : ℕ) (go : Scan → List Lexeme) (to : (n : ℕ) (s : Scan) → n ≤ least s (at + 1) → IsBegun s (at + 1) → Rises n (go s)) where
  on_goes : (n : ℕ) (ts : List Lexeme) (s : Scan) → Moves n at (Goes ts s) → Rises n (ts ++ go s)
  on_goes n [] s h = to n s h.0 h.1
  on_goes n (l ∷ ts) s h = more_rises n l (ts ++ go s) h.0 h.1 (on_goes (l.at + 1) ts s h.2)

  goes : (n : ℕ) (m : Move) → Moves n at m → Rises n (after_move m go)
  goes n (Goes ts s) h = on_goes n ts s h
  goes n (NoToken ts bad) h = no_token at n ts bad h
  goes n (TooLarge ts bad) h = too_large at n ts bad h

lex_rises : (n : ℕ) (s : Scan) (at : ℕ) (bs : List ℕ) → n ≤ least s at → IsBegun s at → Rises n (lex s at bs)
unfolding lex
lex_rises n s at [] h k = ends n s at h k
lex_rises n s at (b ∷ bs) h k = goes at (λ next. lex next (at + 1) bs) (λ m next i j. lex_rises m next (at + 1) bs i j) n (move s at b) (moves n s at b h k)

pub lexemes_rise : (bytes : List ℕ) → Rises 0 (lexemes_of bytes)
lexemes_rise bytes = lex_rises 0 Between 0 bytes (omega arith) tt
