-- The names, numbers and texts among the tokens of bytes are those of the language.
use Rattle.std.specs.Prelude.{◌≡◌, ℕ, ◌+◌, ◌*◌, ◌-◌, ◌^◌, ◌<◌, ◌||◌, ◌&&◌, not, ◌==◌, nat_lt, pos, codes, if◌then◌else◌, Bool, true, false, List, [], ◌∷◌, ◌++◌, Option, Some, None, IfSome}
use Rattle.std.specs.List.{list_all}
use Rattle.std.proofs.Common.{refl, ap, ◌∙◌, arith}
use Rattle.std.proofs.lemmas.Bool.{and_from, lt-ltb}
use Rattle.std.proofs.lemmas.Bool.Decides.{nat_tests}
use Rattle.std.proofs.lemmas.List.Folds.{list_all-append}
use Rattle.asp_model.specs.Term.{has_text}
use Rattle.asp_model.specs.WellFormed.{is_printable}
use Rattle.asp_model.specs.Readable.{is_numeral, is_identifier, reserved_words}
use Rattle.syntax_tokens.specs.declared.token.Token.{Token}
use Rattle.syntax_tokens.specs.declared.token.Token.TheVariants.{Number, Name, Text, Equals, Slash, BadByte, BadNumber}
use Rattle.syntax_tokens.specs.Bytes.{is_digit, is_letter, is_blank, is_inner, sign_token, is_word, reserved_token, word_token}
use Rattle.syntax_tokens.specs.Tokens.{Lexeme, lexeme, Scan, Between, InComment, AfterSlash, AfterColon, AfterEquals, InNumber, InWord, InText, Move, Goes, NoToken, TooLarge, digit, sign_move, between, with_token, move, at_end, after_move, lex, lexemes_of}
use Rattle.syntax_tokens.proofs.TableLemmas.{by_test, either, IsFixed, of_sign, of_word}
use Rattle.law_steps.specs.Linked.{Each}
use Rattle.law_chases.proofs.FutureLemmas.{none_true}
use Rattle.law_steps.proofs.EachLemmas.{each_both}

-- it writes a name, a number or a text of the language
abbrev pub is_sound_token : Token → Bool
is_sound_token (Number z) = is_numeral z
is_sound_token (Name x) = is_identifier x
is_sound_token (Text text) = list_all is_printable text
is_sound_token t = true

abbrev pub IsSoundToken : Token → Type 0
IsSoundToken t = is_sound_token t ≡ true

abbrev pub IsSoundLexeme : Lexeme → Type 0
IsSoundLexeme l = IsSoundToken l.token

-- Words

-- the bytes of a word
abbrev is_worded : List ℕ → Bool
is_worded [] = false
is_worded (b ∷ bs) = is_letter b && list_all is_inner bs

worded_more : (word : List ℕ) (b : ℕ) → is_worded word ≡ true → is_inner b ≡ true → is_worded (word ++ b ∷ []) ≡ true
worded_more [] b w e = none_true w
worded_more (c ∷ word) b w e = and_from _ _ (left_and (is_letter c) _ w) (list_all-append is_inner word (b ∷ []) ∙ and_from _ _ (right_and (is_letter c) _ w) (and_from _ _ e refl))
  where
    left_and : (x y : Bool) → (x && y) ≡ true → x ≡ true
    left_and true y e = refl
    left_and false y e = none_true e

    right_and : (x y : Bool) → (x && y) ≡ true → y ≡ true
    right_and true y e = e
    right_and false y e = none_true e

-- a choice that is none
no_choice : (b : Bool) (t : Token) (o : Option Token) → ◌≡◌ {A = Option Token} (if b then Some t else o) None → (b ≡ false) × (o ≡ None)
no_choice true t o e = cc
no_choice false t o e = (refl, e)

neither : (b c : Bool) → b ≡ false → c ≡ false → (b || c) ≡ false
neither true c e f = e
neither false c e f = f

-- what the table of reserved words has not is none of them
not_reserved : (w : List ℕ) → reserved_token w ≡ None → has_text w reserved_words ≡ false
not_reserved w e =
    let a = no_choice (is_word w (codes "let")) _ _ e in
    let b = no_choice (is_word w (codes "in")) _ _ a.1 in
    let c = no_choice (is_word w (codes "if")) _ _ b.1 in
    let d = no_choice (is_word w (codes "else")) _ _ c.1 in
    let f = no_choice (is_word w (codes "repeat")) _ _ d.1 in
    let g = no_choice (is_word w (codes "clone")) _ _ f.1 in
    let h = no_choice (is_word w (codes "active")) _ _ g.1 in
    let i = no_choice (is_word w (codes "serve")) _ _ h.1 in
    let j = no_choice (is_word w (codes "print")) _ _ i.1 in
    let k = no_choice (is_word w (codes "echo")) _ _ j.1 in
    let l = no_choice (is_word w (codes "group")) _ _ k.1 in
    let m = no_choice (is_word w (codes "scatter")) _ _ l.1 in
    let n = no_choice (is_word w (codes "size")) _ _ m.1 in
    let o = no_choice (is_word w (codes "member")) _ _ n.1 in
    let p = no_choice (is_word w (codes "waitall")) _ _ o.1 in
    let q = no_choice (is_word w (codes "pending")) _ _ p.1 in
    neither _ _ a.0 (neither _ _ b.0 (neither _ _ c.0 (neither _ _ d.0 (neither _ _ f.0 (neither _ _ h.0 (neither _ _ i.0 (neither _ _ g.0
    (neither _ _ j.0 (neither _ _ k.0 (neither _ _ l.0 (neither _ _ m.0 (neither _ _ n.0 (neither _ _ o.0 (neither _ _ p.0 (neither _ _ q.0 refl)))))))))))))))

name_sound : (w : List ℕ) → is_worded w ≡ true → reserved_token w ≡ None → is_identifier w ≡ true
unfolding is_identifier
name_sound [] w e = none_true w
name_sound (b ∷ bs) w e = and_from _ _ w (ap not (not_reserved (b ∷ bs) e))

fixed_sound : (t : Token) → IsFixed t → IsSoundToken t
fixed_sound (Number z) h = absurd h
fixed_sound (Name x) h = absurd h
fixed_sound (Text text) h = absurd h
fixed_sound t h = refl

word_sound : (word : List ℕ) → is_worded word ≡ true → IsSoundToken (word_token word)
word_sound word w = of_word IsSoundToken fixed_sound word (name_sound word w)

-- Scans

abbrev Scans : Scan → Type 0
Scans (InNumber start n) = nat_lt n (2 ^ 63) ≡ true
Scans (InWord start word) = is_worded word ≡ true
Scans (InText start text) = list_all is_printable text ≡ true
Scans s = Unit {0}

abbrev Moves : Move → Type 0
Moves (Goes ts s) = Each IsSoundLexeme ts × Scans s
Moves (NoToken ts at) = Each IsSoundLexeme ts
Moves (TooLarge ts at) = Each IsSoundLexeme ts

digit_below : (b : ℕ) → is_digit b ≡ true → b - 48 < 2 ^ 63
digit_below b e = grind (arith, nat_tests)

first_digit : (b : ℕ) → is_digit b ≡ true → nat_lt (b - 48) (2 ^ 63) ≡ true
first_digit b e = lt-ltb (b - 48) (2 ^ 63) (digit_below b e)

-- Moves

sign_moves : (at : ℕ) (o : Option Token) → IfSome o IsSoundToken → Moves (sign_move at o)
sign_moves at None h = tt
sign_moves at (Some t) h = ((h, tt), tt)

between_moves : (at b : ℕ) → Moves (between at b)
unfolding between
between_moves at b =
    either Moves (is_blank b) (tt, tt)
    (by_test Moves (is_digit b) (λ e. (tt, first_digit b e)) (λ _.
    by_test Moves (is_letter b) (λ e. (tt, and_from _ _ e refl)) (λ _.
    either Moves (b == 47) (tt, tt)
    (either Moves (b == 58) (tt, tt)
    (either Moves (b == 61) (tt, tt)
    (either Moves (b == 34) (tt, refl)
    (sign_moves at (sign_token b) (of_sign IsSoundToken fixed_sound b))))))))

with_moves : (l : Lexeme) (m : Move) → IsSoundLexeme l → Moves m → Moves (with_token l m)
with_moves l (Goes ts s) p h = ((p, h.0), h.1)
with_moves l (NoToken ts at) p h = (p, h)
with_moves l (TooLarge ts at) p h = (p, h)

digit_moves : (start n b : ℕ) → Moves (digit start n b)
digit_moves start n b = by_test Moves (nat_lt (n * 10 + (b - 48)) (2 ^ 63)) (λ e. (tt, e)) (λ _. tt)

text_more : (text : List ℕ) (b : ℕ) → list_all is_printable text ≡ true → is_printable b ≡ true → list_all is_printable (text ++ b ∷ []) ≡ true
text_more text b h p = list_all-append is_printable text (b ∷ []) ∙ and_from _ _ h (and_from _ _ p refl)

moves : (s : Scan) (at b : ℕ) → Scans s → Moves (move s at b)
moves Between at b h = between_moves at b
moves InComment at b h = (tt, either Scans (b == 10) tt tt)
moves (AfterSlash start) at b h = either Moves (b == 47) (tt, tt) (with_moves (lexeme Slash start) (between at b) refl (between_moves at b))
moves (AfterColon start) at b h = either Moves (b == 61) ((refl, tt), tt) tt
moves (AfterEquals start) at b h = either Moves (b == 61) ((refl, tt), tt) (with_moves (lexeme Equals start) (between at b) refl (between_moves at b))
moves (InNumber start n) at b h = either Moves (is_digit b) (digit_moves start n b) (with_moves (lexeme (Number (pos n)) start) (between at b) h (between_moves at b))
moves (InWord start word) at b h = by_test Moves (is_inner b) (λ e. (tt, worded_more word b h e)) (λ _. with_moves (lexeme (word_token word) start) (between at b) (word_sound word h) (between_moves at b))
moves (InText start text) at b h = either Moves (b == 34) ((h, tt), tt) (by_test Moves (is_printable b) (λ p. (tt, text_more text b h p)) (λ _. tt))

ends : (s : Scan) (at : ℕ) → Scans s → Each IsSoundLexeme (at_end s at)
ends Between at h = (refl, tt)
ends InComment at h = (refl, tt)
ends (AfterSlash start) at h = (refl, (refl, tt))
ends (AfterColon start) at h = (refl, tt)
ends (AfterEquals start) at h = (refl, (refl, tt))
ends (InNumber start n) at h = (h, (refl, tt))
ends (InWord start word) at h = (word_sound word h, (refl, tt))
ends (InText start text) at h = (refl, tt)

goes : (m : Move) (go : Scan → List Lexeme) → Moves m → ((s : Scan) → Scans s → Each IsSoundLexeme (go s)) → Each IsSoundLexeme (after_move m go)
goes (Goes ts s) go h to = each_both IsSoundLexeme ts (go s) h.0 (to s h.1)
goes (NoToken ts at) go h to = each_both IsSoundLexeme ts (lexeme BadByte at ∷ []) h (refl, tt)
goes (TooLarge ts at) go h to = each_both IsSoundLexeme ts (lexeme BadNumber at ∷ []) h (refl, tt)

lex_sound : (s : Scan) (at : ℕ) (bs : List ℕ) → Scans s → Each IsSoundLexeme (lex s at bs)
unfolding lex
lex_sound s at [] h = ends s at h
lex_sound s at (b ∷ bs) h = goes (move s at b) (λ next. lex next (at + 1) bs) (moves s at b h) (λ next k. lex_sound next (at + 1) bs k)

pub lexemes_sound : (bytes : List ℕ) → Each IsSoundLexeme (lexemes_of bytes)
lexemes_sound bytes = lex_sound Between 0 bytes tt
