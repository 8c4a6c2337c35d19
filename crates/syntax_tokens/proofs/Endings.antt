-- The lexemes of a text end with the end, or where no token stands, and only there.
use Rattle.std.proofs.Common.{◌≡◌, ℕ, ◌+◌, ◌-◌, ◌*◌, ◌^◌, pos, true, false, List, [], ◌∷◌, ◌++◌, Option, Some, None, refl, sym, subst}
use Rattle.std.specs.Prelude.{◌==◌, nat_lt, IfSome}
use Rattle.syntax_tokens.specs.declared.token.Token.{Token}
use Rattle.syntax_tokens.specs.declared.token.Token.TheVariants.{Number, Equals, Slash, End, BadByte, BadNumber}
use Rattle.asp_model.specs.WellFormed.{is_printable}
use Rattle.syntax_tokens.specs.Bytes.{is_digit, is_blank, is_letter, is_inner, sign_token, word_token}
use Rattle.syntax_tokens.specs.Tokens.{Lexeme, lexeme, lex, Scan, Between, InNumber, InWord, InText, InComment, AfterSlash, AfterColon, AfterEquals, Move, Goes, NoToken, TooLarge, move, after_move, at_end, with_token, digit, between, sign_move, lexemes_of}
use Rattle.syntax_tokens.specs.Cursors.{goes_on}
use Rattle.syntax_tokens.proofs.TableLemmas.{either, IsFixed, of_sign, of_word}

abbrev pub EndsWell : List Lexeme → Type 0
EndsWell [] = ⊥
EndsWell (l ∷ []) = goes_on l.token ≡ false
EndsWell (l ∷ m ∷ ls) = (goes_on l.token ≡ true) × EndsWell (m ∷ ls)

abbrev AllGo : List Lexeme → Type 0
AllGo [] = Unit {0}
AllGo (l ∷ ls) = (goes_on l.token ≡ true) × AllGo ls

abbrev GoesWell : Move → Type 0
GoesWell (Goes ts s) = AllGo ts
GoesWell (NoToken ts at) = AllGo ts
GoesWell (TooLarge ts at) = AllGo ts

abbrev HasMore : Token → Type 0
HasMore t = goes_on t ≡ true

fixed_goes : (t : Token) → IsFixed t → HasMore t
fixed_goes End h = absurd h
fixed_goes BadByte h = absurd h
fixed_goes BadNumber h = absurd h
fixed_goes t h = refl

pub word_goes : (w : List ℕ) → goes_on (word_token w) ≡ true
word_goes w = of_word HasMore fixed_goes w (λ _. refl)

-- a sign is no end
pub sign_goes_on : (b : ℕ) (t : Token) → Some t ≡ sign_token b → goes_on t ≡ true
sign_goes_on b t e = subst (λ o. IfSome o HasMore) (sym e) (of_sign HasMore fixed_goes b)

sign_well : (at : ℕ) (t : Option Token) → IfSome t HasMore → GoesWell (sign_move at t)
sign_well at (Some t) h = (h, tt)
sign_well at None h = tt

between_well : (at b : ℕ) → GoesWell (between at b)
unfolding between
between_well at b =
    either GoesWell (is_blank b) tt
    (either GoesWell (is_digit b) tt
    (either GoesWell (is_letter b) tt
    (either GoesWell (b == 47) tt
    (either GoesWell (b == 58) tt
    (either GoesWell (b == 61) tt
    (either GoesWell (b == 34) tt
    (sign_well at (sign_token b) (of_sign HasMore fixed_goes b))))))))

with_well : (t : Lexeme) (m : Move) → goes_on t.token ≡ true → GoesWell m → GoesWell (with_token t m)
with_well t (Goes ts s) e h = (e, h)
with_well t (NoToken ts at) e h = (e, h)
with_well t (TooLarge ts at) e h = (e, h)

digit_well : (start n b : ℕ) → GoesWell (digit start n b)
digit_well start n b = either GoesWell (nat_lt (n * 10 + (b - 48)) (2 ^ 63)) tt tt

move_well : (s : Scan) (at b : ℕ) → GoesWell (move s at b)
move_well Between at b = between_well at b
move_well InComment at b = tt
move_well (AfterSlash start) at b = either GoesWell (b == 47) tt (with_well (lexeme Slash start) (between at b) refl (between_well at b))
move_well (AfterColon start) at b = either GoesWell (b == 61) (refl, tt) tt
move_well (AfterEquals start) at b = either GoesWell (b == 61) (refl, tt) (with_well (lexeme Equals start) (between at b) refl (between_well at b))
move_well (InNumber start n) at b = either GoesWell (is_digit b) (digit_well start n b) (with_well (lexeme (Number (pos n)) start) (between at b) refl (between_well at b))
move_well (InWord start w) at b = either GoesWell (is_inner b) tt (with_well (lexeme (word_token w) start) (between at b) (word_goes w) (between_well at b))
move_well (InText start w) at b = either GoesWell (b == 34) (refl, tt) (either GoesWell (is_printable b) tt tt)

end_well : (s : Scan) (at : ℕ) → EndsWell (at_end s at)
end_well Between at = refl
end_well InComment at = refl
end_well (AfterSlash start) at = (refl, refl)
end_well (AfterColon start) at = refl
end_well (AfterEquals start) at = (refl, refl)
end_well (InNumber start n) at = (refl, refl)
end_well (InWord start w) at = (word_goes w, refl)
end_well (InText start w) at = refl

before_well : (l : Lexeme) (ls : List Lexeme) → goes_on l.token ≡ true → EndsWell ls → EndsWell (l ∷ ls)
before_well l [] e h = absurd h
before_well l (m ∷ ls) e h = (e, h)

more_well : (ts ls : List Lexeme) → AllGo ts → EndsWell ls → EndsWell (ts ++ ls)
more_well [] ls g h = h
more_well (t ∷ ts) ls g h = before_well t (ts ++ ls) g.0 (more_well ts ls g.1 h)

after_well : (m : Move) (go : Scan → List Lexeme) → GoesWell m → ((s : Scan) → EndsWell (go s)) → EndsWell (after_move m go)
after_well (Goes ts s) go g h = more_well ts (go s) g (h s)
after_well (NoToken ts at) go g h = more_well ts (lexeme BadByte at ∷ []) g refl
after_well (TooLarge ts at) go g h = more_well ts (lexeme BadNumber at ∷ []) g refl

lex_well : (bs : List ℕ) (s : Scan) (at : ℕ) → EndsWell (lex s at bs)
unfolding lex
lex_well [] s at = end_well s at
lex_well (b ∷ bs) s at = after_well (move s at b) (λ next. lex next (at + 1) bs) (move_well s at b) (λ next. lex_well bs next (at + 1))

pub text_ends : (bytes : List ℕ) → EndsWell (lexemes_of bytes)
text_ends bytes = lex_well bytes Between 0
