-- The tokens of a text, one byte on.
use Rattle.std.proofs.Common.{◌≡◌, ◌≢◌, ℕ, ◌+◌, ◌-◌, ◌*◌, ◌^◌, ◌<◌, ◌≤◌, pos, Bool, true, false, List, [], ◌∷◌, ◌++◌, Option, Some, None, length, get_or, refl, sym, ap, ◌∙◌, arith, if◌then◌else◌, ◌⊎◌, inl, inr}
use Rattle.std.specs.Prelude.{◌==◌}
use Rattle.std.proofs.lemmas.List.{at_drop_more, at_drop_all}
use Rattle.std.proofs.lemmas.Bool.{lt-ltb, le-ltb, ne_eqb}
use Rattle.std.proofs.lemmas.Bool.Decides.{nat_tests}
use Rattle.syntax_tokens.specs.declared.token.Token.{Token}
use Rattle.syntax_tokens.specs.declared.token.Token.TheVariants.{Number, Text, Slash, Equals, Assign, Same, BadByte, BadNumber}
use Rattle.asp_model.specs.WellFormed.{is_printable}
use Rattle.syntax_tokens.specs.Bytes.{is_digit, is_blank, is_letter, is_inner, sign_token, word_token}
use Rattle.syntax_tokens.specs.Tokens.{Lexeme, lexeme, lex, Scan, Between, InNumber, InWord, InText, InComment, AfterSlash, AfterColon, AfterEquals, Move, Goes, NoToken, TooLarge, move, after_move, at_end, with_token, digit, between, sign_move}
use Rattle.syntax_tokens.specs.Cursors.{from, IsAlone}

step : (s : Scan) (bs : List ℕ) (i : ℕ) → i < length bs → from s bs i ≡ after_move (move s i (get_or bs i 0)) (λ next. from next bs (i + 1))
unfolding lex
step s bs i h = at_drop_more (lex s i) bs i 0 h

pub ended : (s : Scan) (bs : List ℕ) (i : ℕ) → length bs ≤ i → from s bs i ≡ at_end s i
unfolding lex
ended s bs i h = at_drop_all (lex s i) bs i h

-- what a token that is over leaves
over : (t : Lexeme) (m : Move) (go : Scan → List Lexeme) → after_move (with_token t m) go ≡ t ∷ after_move m go
over t (Goes ts s) go = refl
over t (NoToken ts at) go = refl
over t (TooLarge ts at) go = refl

-- a choice by a test that is known
chosen : {A : Type 0} (b : Bool) (x y : A) → b ≡ true → (if b then x else y) ≡ x
chosen b x y h = rw h refl

passed : {A : Type 0} (b : Bool) (x y : A) → b ≡ false → (if b then x else y) ≡ y
passed b x y h = rw h refl

go_from : List ℕ → ℕ → Move → List Lexeme
go_from bs i m = after_move m (λ next. from next bs (i + 1))

-- the bytes of words and texts are ASCII
pub inner_ascii : (b : ℕ) → is_inner b ≡ true → b < 128
inner_ascii b e = grind (arith, nat_tests)

pub letter_ascii : (b : ℕ) → is_letter b ≡ true → b < 128
letter_ascii b e = grind (arith, nat_tests)

pub text_ascii : (b : ℕ) → is_printable b ≡ true → b < 128
text_ascii b e = grind (arith, nat_tests)

-- no byte of this kind stands at the place
abbrev pub Past : (ℕ → Bool) → List ℕ → ℕ → Type 0
Past test bs i = (length bs ≤ i) ⊎ ((i < length bs) × (test (get_or bs i 0) ≡ false))

-- a token that is over at a place
token_over : (s : Scan) (t : Lexeme) (bs : List ℕ) (i : ℕ) → i < length bs → move s i (get_or bs i 0) ≡ with_token t (between i (get_or bs i 0)) → from s bs i ≡ t ∷ from Between bs i
unfolding go_from
token_over s t bs i h e =
    step s bs i h ∙ ap (go_from bs i) e ∙ over t (between i (get_or bs i 0)) (λ next. from next bs (i + 1)) ∙ ap (λ (ts : List Lexeme). t ∷ ts) (sym (step Between bs i h))

token_ends : (s : Scan) (t : Lexeme) (bs : List ℕ) (i : ℕ) → length bs ≤ i → at_end s i ≡ t ∷ at_end Between i → from s bs i ≡ t ∷ from Between bs i
token_ends s t bs i h e = ended s bs i h ∙ e ∙ ap (λ (ts : List Lexeme). t ∷ ts) (sym (ended Between bs i h))

pub digit_more : (start n : ℕ) (bs : List ℕ) (i : ℕ) → i < length bs → is_digit (get_or bs i 0) ≡ true → n * 10 + (get_or bs i 0 - 48) < 2 ^ 63
    → from (InNumber start n) bs i ≡ from (InNumber start (n * 10 + (get_or bs i 0 - 48))) bs (i + 1)
unfolding go_from
digit_more start n bs i h d small =
    step (InNumber start n) bs i h ∙ ap (go_from bs i) (chosen (is_digit (get_or bs i 0)) (digit start n (get_or bs i 0)) (with_token (lexeme (Number (pos n)) start) (between i (get_or bs i 0))) d) ∙ rw (lt-ltb _ _ small) refl

pub digit_past : (start n : ℕ) (bs : List ℕ) (i : ℕ) → i < length bs → is_digit (get_or bs i 0) ≡ true → 2 ^ 63 ≤ n * 10 + (get_or bs i 0 - 48)
    → from (InNumber start n) bs i ≡ lexeme BadNumber start ∷ []
unfolding go_from
digit_past start n bs i h d big =
    step (InNumber start n) bs i h ∙ ap (go_from bs i) (chosen (is_digit (get_or bs i 0)) (digit start n (get_or bs i 0)) (with_token (lexeme (Number (pos n)) start) (between i (get_or bs i 0))) d) ∙ rw (le-ltb _ _ big) refl

pub number_is : (start n : ℕ) (bs : List ℕ) (i : ℕ) → Past is_digit bs i → from (InNumber start n) bs i ≡ lexeme (Number (pos n)) start ∷ from Between bs i
number_is start n bs i past =
    let t : Lexeme = lexeme (Number (pos n)) start in
    elim past [
      | inl h ↦ token_ends (InNumber start n) t bs i h refl
      | inr h ↦ token_over (InNumber start n) t bs i h.0 (passed (is_digit (get_or bs i 0)) (digit start n (get_or bs i 0)) (with_token t (between i (get_or bs i 0))) h.1)
    ]

pub word_more : (start : ℕ) (w bs : List ℕ) (i : ℕ) → i < length bs → is_inner (get_or bs i 0) ≡ true
    → from (InWord start w) bs i ≡ from (InWord start (w ++ get_or bs i 0 ∷ [])) bs (i + 1)
unfolding go_from
word_more start w bs i h d =
    step (InWord start w) bs i h ∙ ap (go_from bs i) (chosen (is_inner (get_or bs i 0)) (Goes [] (InWord start (w ++ get_or bs i 0 ∷ []))) (with_token (lexeme (word_token w) start) (between i (get_or bs i 0))) d)

pub word_is : (start : ℕ) (w bs : List ℕ) (i : ℕ) → Past is_inner bs i → from (InWord start w) bs i ≡ lexeme (word_token w) start ∷ from Between bs i
word_is start w bs i past =
    let t : Lexeme = lexeme (word_token w) start in
    elim past [
      | inl h ↦ token_ends (InWord start w) t bs i h refl
      | inr h ↦ token_over (InWord start w) t bs i h.0 (passed (is_inner (get_or bs i 0)) (Goes [] (InWord start (w ++ get_or bs i 0 ∷ []))) (with_token t (between i (get_or bs i 0))) h.1)
    ]

pub text_more : (start : ℕ) (w bs : List ℕ) (i : ℕ) → i < length bs → get_or bs i 0 ≢ 34 → is_printable (get_or bs i 0) ≡ true
    → from (InText start w) bs i ≡ from (InText start (w ++ get_or bs i 0 ∷ [])) bs (i + 1)
text_more start w bs i h quote d = step (InText start w) bs i h ∙ rw (ne_eqb _ _ quote, d) refl

pub text_bad : (start : ℕ) (w bs : List ℕ) (i : ℕ) → i < length bs → get_or bs i 0 ≢ 34 → is_printable (get_or bs i 0) ≡ false → from (InText start w) bs i ≡ lexeme BadByte i ∷ []
text_bad start w bs i h quote d = step (InText start w) bs i h ∙ rw (ne_eqb _ _ quote, d) refl

pub text_over : (start : ℕ) (w bs : List ℕ) (i : ℕ) → i < length bs → get_or bs i 0 ≡ 34 → from (InText start w) bs i ≡ lexeme (Text w) start ∷ from Between bs (i + 1)
text_over start w bs i h quote = step (InText start w) bs i h ∙ rw quote refl

pub comment_more : (bs : List ℕ) (i : ℕ) → i < length bs → get_or bs i 0 ≢ 10 → from InComment bs i ≡ from InComment bs (i + 1)
comment_more bs i h d = step InComment bs i h ∙ rw (ne_eqb _ _ d) refl

pub comment_over : (bs : List ℕ) (i : ℕ) → i < length bs → get_or bs i 0 ≡ 10 → from InComment bs i ≡ from Between bs (i + 1)
comment_over bs i h d = step InComment bs i h ∙ rw d refl

pub comment_end : (bs : List ℕ) (i : ℕ) → length bs ≤ i → from InComment bs i ≡ from Between bs i
comment_end bs i h = ended InComment bs i h ∙ sym (ended Between bs i h)

pub blank_more : (bs : List ℕ) (i : ℕ) → i < length bs → is_blank (get_or bs i 0) ≡ true → from Between bs i ≡ from Between bs (i + 1)
unfolding between
blank_more bs i h d = step Between bs i h ∙ rw d refl

pub digit_first : (bs : List ℕ) (i : ℕ) → i < length bs → is_blank (get_or bs i 0) ≡ false → is_digit (get_or bs i 0) ≡ true → from Between bs i ≡ from (InNumber i (get_or bs i 0 - 48)) bs (i + 1)
unfolding between
digit_first bs i h blank d = step Between bs i h ∙ rw (blank, d) refl

pub letter_first : (bs : List ℕ) (i : ℕ) → i < length bs → is_blank (get_or bs i 0) ≡ false → is_digit (get_or bs i 0) ≡ false → is_letter (get_or bs i 0) ≡ true
    → from Between bs i ≡ from (InWord i (get_or bs i 0 ∷ [])) bs (i + 1)
unfolding between
letter_first bs i h blank d letter = step Between bs i h ∙ rw (blank, d, letter) refl

pub colon_first : (bs : List ℕ) (i : ℕ) → i < length bs → get_or bs i 0 ≡ 58 → from Between bs i ≡ from (AfterColon i) bs (i + 1)
unfolding between
colon_first bs i h d = step Between bs i h ∙ rw d refl

pub equals_first : (bs : List ℕ) (i : ℕ) → i < length bs → get_or bs i 0 ≡ 61 → from Between bs i ≡ from (AfterEquals i) bs (i + 1)
unfolding between
equals_first bs i h d = step Between bs i h ∙ rw d refl

pub quote_first : (bs : List ℕ) (i : ℕ) → i < length bs → get_or bs i 0 ≡ 34 → from Between bs i ≡ from (InText i []) bs (i + 1)
unfolding between
quote_first bs i h d = step Between bs i h ∙ rw d refl

slash_first : (bs : List ℕ) (i : ℕ) → i < length bs → get_or bs i 0 ≡ 47 → from Between bs i ≡ from (AfterSlash i) bs (i + 1)
unfolding between
slash_first bs i h d = step Between bs i h ∙ rw d refl

alone_is : (bs : List ℕ) (i : ℕ) → i < length bs → IsAlone (get_or bs i 0) → from Between bs i ≡ after_move (sign_move i (sign_token (get_or bs i 0))) (λ next. from next bs (i + 1))
unfolding between
alone_is bs i h a = step Between bs i h ∙ rw (a.blank, a.digit, a.letter, ne_eqb _ _ a.slash, ne_eqb _ _ a.colon, ne_eqb _ _ a.equals, ne_eqb _ _ a.quote) refl

pub sign_is : (bs : List ℕ) (i : ℕ) (t : Token) → i < length bs → IsAlone (get_or bs i 0) → Some t ≡ sign_token (get_or bs i 0) → from Between bs i ≡ lexeme t i ∷ from Between bs (i + 1)
sign_is bs i t h a e = alone_is bs i h a ∙ ap (λ (x : Option Token). after_move (sign_move i x) (λ next. from next bs (i + 1))) (sym e)

pub sign_bad : (bs : List ℕ) (i : ℕ) → i < length bs → IsAlone (get_or bs i 0) → None ≡ sign_token (get_or bs i 0) → from Between bs i ≡ lexeme BadByte i ∷ []
sign_bad bs i h a e = alone_is bs i h a ∙ ap (λ (x : Option Token). after_move (sign_move i x) (λ next. from next bs (i + 1))) (sym e)

-- no byte of this code stands at the place
abbrev pub Lacks : ℕ → List ℕ → ℕ → Type 0
Lacks code bs i = (length bs ≤ i) ⊎ ((i < length bs) × (get_or bs i 0 ≢ code))

-- a second byte that belongs to the first
two : {A : Type 0} (f : ℕ → A) (i : ℕ) → f (i + 1 + 1) ≡ f (i + 2)
two f i = let e : i + 1 + 1 ≡ i + 2 = omega arith in ap f e

pub slash_comment : (bs : List ℕ) (i : ℕ) → i + 1 < length bs → get_or bs i 0 ≡ 47 → get_or bs (i + 1) 0 ≡ 47 → from Between bs i ≡ from InComment bs (i + 2)
slash_comment bs i h d e = slash_first bs i (omega arith) d ∙ (step (AfterSlash i) bs (i + 1) h ∙ rw e refl) ∙ two (from InComment bs) i

pub slash_alone : (bs : List ℕ) (i : ℕ) → i < length bs → get_or bs i 0 ≡ 47 → Lacks 47 bs (i + 1) → from Between bs i ≡ lexeme Slash i ∷ from Between bs (i + 1)
slash_alone bs i h d past =
    let t : Lexeme = lexeme Slash i in
    slash_first bs i h d
    ∙ elim past [
      | inl e ↦ token_ends (AfterSlash i) t bs (i + 1) e refl
      | inr e ↦ token_over (AfterSlash i) t bs (i + 1) e.0 (passed (get_or bs (i + 1) 0 == 47) (Goes [] InComment) (with_token t (between (i + 1) (get_or bs (i + 1) 0))) (ne_eqb _ _ e.1))
    ]

pub colon_equals : (bs : List ℕ) (i : ℕ) → i + 1 < length bs → get_or bs i 0 ≡ 58 → get_or bs (i + 1) 0 ≡ 61 → from Between bs i ≡ lexeme Assign i ∷ from Between bs (i + 2)
colon_equals bs i h d e =
    colon_first bs i (omega arith) d ∙ (step (AfterColon i) bs (i + 1) h ∙ rw e refl) ∙ two (λ n. lexeme Assign i ∷ from Between bs n) i

pub colon_alone : (bs : List ℕ) (i : ℕ) → i < length bs → get_or bs i 0 ≡ 58 → Lacks 61 bs (i + 1) → from Between bs i ≡ lexeme BadByte i ∷ []
colon_alone bs i h d past =
    colon_first bs i h d ∙ elim past [ inl e ↦ ended (AfterColon i) bs (i + 1) e | inr e ↦ step (AfterColon i) bs (i + 1) e.0 ∙ rw (ne_eqb _ _ e.1) refl ]

pub equals_equals : (bs : List ℕ) (i : ℕ) → i + 1 < length bs → get_or bs i 0 ≡ 61 → get_or bs (i + 1) 0 ≡ 61 → from Between bs i ≡ lexeme Same i ∷ from Between bs (i + 2)
equals_equals bs i h d e =
    equals_first bs i (omega arith) d ∙ (step (AfterEquals i) bs (i + 1) h ∙ rw e refl) ∙ two (λ n. lexeme Same i ∷ from Between bs n) i

pub equals_alone : (bs : List ℕ) (i : ℕ) → i < length bs → get_or bs i 0 ≡ 61 → Lacks 61 bs (i + 1) → from Between bs i ≡ lexeme Equals i ∷ from Between bs (i + 1)
equals_alone bs i h d past =
    let t : Lexeme = lexeme Equals i in
    equals_first bs i h d
    ∙ elim past [
      | inl e ↦ token_ends (AfterEquals i) t bs (i + 1) e refl
      | inr e ↦ token_over (AfterEquals i) t bs (i + 1) e.0 (passed (get_or bs (i + 1) 0 == 61) (Goes (lexeme Same i ∷ []) Between) (with_token t (between (i + 1) (get_or bs (i + 1) 0))) (ne_eqb _ _ e.1))
    ]
