-- The text of a token is read as that token, where the text ends or a blank follows.
use Rattle.std.proofs.Common.{◌≡◌, ℕ, ◌+◌, ◌-◌, ◌*◌, ◌/◌, ◌%◌, ◌^◌, ◌<◌, ◌≤◌, pos, negsuc, Bool, true, false, List, [], ◌∷◌, ◌++◌, None, refl, sym, ap, ◌∙◌, subst, append_assoc, arith, if◌then◌else◌}
use Rattle.std.specs.Prelude.{◌==◌, nat_lt}
use Rattle.std.specs.Fmt.{decimal}
use Rattle.std.proofs.lemmas.List.{append-nil}
use Rattle.std.proofs.lemmas.Bool.{lt-ltb}
use Rattle.std.proofs.lemmas.Bool.Decides.{nat_tests}
use Rattle.std.proofs.lemmas.Fmt.{decimal_by_steps}
use Rattle.syntax_tokens.specs.declared.token.Token.{Token}
use Rattle.syntax_tokens.specs.declared.token.Token.TheVariants as tokens
use Rattle.asp_model.specs.WellFormed.{is_printable}
use Rattle.syntax_tokens.specs.Bytes.{is_digit, is_letter, is_blank, is_inner, reserved_token, named_token, word_token}
use Rattle.syntax_tokens.specs.Tokens.{lexeme, tokens_in, Scan, Between, AfterSlash, AfterEquals, InNumber, InWord, InText, Move, Goes, TooLarge, digit, between, with_token, move, at_end, after_move, lex}
use Rattle.syntax_tokens.specs.Texts.{token_text, text_of}

abbrev pub Each : {A : Type 0} → (A → Type 0) → List A → Type 0
Each P [] = Unit {0}
Each P (x ∷ xs) = P x × Each P xs

abbrev pub IsInner : ℕ → Type 0
IsInner b = is_inner b ≡ true

-- a byte of a text that does not end it
pub record IsPlain (b : ℕ) : Type 0 where
  pub quote : (b == 34) ≡ false
  pub text : is_printable b ≡ true

-- a letter, and then bytes of a word
abbrev pub IsWord : List ℕ → Type 0
IsWord [] = ⊥
IsWord (b ∷ bs) = (is_letter b ≡ true) × Each IsInner bs

-- a token that its text is read as
abbrev pub IsGood : Token → Type 0
IsGood (tokens.Number (pos n)) = n < 2 ^ 63
IsGood (tokens.Number (negsuc n)) = ⊥
IsGood (tokens.Name x) = IsWord x × (reserved_token x ≡ None)
IsGood (tokens.Text x) = Each IsPlain x
IsGood tokens.End = ⊥
IsGood tokens.BadByte = ⊥
IsGood tokens.BadNumber = ⊥
IsGood _ = Unit {0}

-- the end, or a blank
abbrev IsOver : List ℕ → Type 0
IsOver [] = Unit {0}
IsOver (b ∷ bs) = b ≡ 32

-- a token is read at a place, and then the rest
abbrev Reads : Token → ℕ → List ℕ → List ℕ → Type 0
Reads t at text rest = (next : ℕ) × (lex Between at (text ++ rest) ≡ lexeme t at ∷ lex Between next rest)

-- what was begun is over at the end or at a blank
over : (s : Scan) (t : Token) (start at : ℕ) (rest : List ℕ) → IsOver rest → at_end s at ≡ lexeme t start ∷ lexeme tokens.End at ∷ [] → move s at 32 ≡ Goes (lexeme t start ∷ []) Between
    → lex s at rest ≡ lexeme t start ∷ lex Between at rest
unfolding lex between
over s t start at [] h e d = e
over s t start at (b ∷ bs) h e d =
    let P : ℕ → Type 0 = λ c. lex s at (c ∷ bs) ≡ lexeme t start ∷ lex Between at (c ∷ bs) in
    subst P (sym h) (ap (λ (m : Move). after_move m (λ next. lex next (at + 1) bs)) d)

-- one byte on
on : (s next : Scan) (at b : ℕ) (bs : List ℕ) → move s at b ≡ Goes [] next → lex s at (b ∷ bs) ≡ lex next (at + 1) bs
unfolding lex
on s next at b bs e = ap (λ (m : Move). after_move m (λ to. lex to (at + 1) bs)) e

chosen : {A : Type 0} (b : Bool) (x y : A) → b ≡ true → (if b then x else y) ≡ x
chosen b x y h = rw h refl

-- Words

-- what a letter is not
record Begins (b : ℕ) : Type 0 where
  blank : is_blank b ≡ false
  digit : is_digit b ≡ false

letter_begins : (b : ℕ) → is_letter b ≡ true → Begins b
letter_begins b h = record { blank = grind (arith, nat_tests); digit = grind (arith, nat_tests) }

letter_move : (at b : ℕ) → is_letter b ≡ true → move Between at b ≡ Goes [] (InWord at (b ∷ []))
unfolding between
letter_move at b h = rw ((letter_begins b h).blank, (letter_begins b h).digit, h) refl

word_goes : (start at : ℕ) (w xs rest : List ℕ) → Each IsInner xs → IsOver rest → (next : ℕ) × (lex (InWord start w) at (xs ++ rest) ≡ lexeme (word_token (w ++ xs)) start ∷ lex Between next rest)
unfolding between
word_goes start at w [] rest h o = (at, over (InWord start w) (word_token w) start at rest o refl refl ∙ ap (λ (v : List ℕ). lexeme (word_token v) start ∷ lex Between at rest) (sym (append-nil w)))
word_goes start at w (x ∷ xs) rest h o =
    let next : Move = with_token (lexeme (word_token w) start) (between at x) in
    let more = word_goes start (at + 1) (w ++ x ∷ []) xs rest h.1 o in (
      more.0,
      on (InWord start w) (InWord start (w ++ x ∷ [])) at x (xs ++ rest) (chosen (is_inner x) (Goes [] (InWord start (w ++ x ∷ []))) next h.0) ∙ more.1
          ∙ ap (λ (v : List ℕ). lexeme (word_token v) start ∷ lex Between more.0 rest) (append_assoc w (x ∷ []) xs),
    )

name_is : (x : List ℕ) → reserved_token x ≡ None → word_token x ≡ tokens.Name x
unfolding word_token
name_is x e = ap (named_token x) e

name_reads : (x : List ℕ) (at : ℕ) (rest : List ℕ) → IsWord x → reserved_token x ≡ None → IsOver rest → Reads (tokens.Name x) at x rest
name_reads [] at rest h e o = absurd h
name_reads (b ∷ bs) at rest h e o =
    let more = word_goes at (at + 1) (b ∷ []) bs rest h.1 o in
    (more.0, on Between (InWord at (b ∷ [])) at b (bs ++ rest) (letter_move at b h.0) ∙ more.1 ∙ ap (λ (t : Token). lexeme t at ∷ lex Between more.0 rest) (name_is (b ∷ bs) e))

-- Texts

text_goes : (start at : ℕ) (w xs rest : List ℕ) → Each IsPlain xs → (next : ℕ) × (lex (InText start w) at (xs ++ 34 ∷ rest) ≡ lexeme (tokens.Text (w ++ xs)) start ∷ lex Between next rest)
unfolding lex
text_goes start at w [] rest h = (at + 1, ap (λ (v : List ℕ). lexeme (tokens.Text v) start ∷ lex Between (at + 1) rest) (sym (append-nil w)))
text_goes start at w (x ∷ xs) rest h =
    let more = text_goes start (at + 1) (w ++ x ∷ []) xs rest h.1 in (
      more.0,
      on (InText start w) (InText start (w ++ x ∷ [])) at x (xs ++ 34 ∷ rest) (rw (h.0.quote, h.0.text) refl) ∙ more.1
          ∙ ap (λ (v : List ℕ). lexeme (tokens.Text v) start ∷ lex Between more.0 rest) (append_assoc w (x ∷ []) xs),
    )

text_reads : (x : List ℕ) (at : ℕ) (rest : List ℕ) → Each IsPlain x → Reads (tokens.Text x) at (34 ∷ (x ++ 34 ∷ [])) rest
unfolding between
text_reads x at rest h =
    let more = text_goes at (at + 1) [] x rest h in
    (more.0, on Between (InText at []) at 34 ((x ++ 34 ∷ []) ++ rest) refl ∙ ap (lex (InText at []) (at + 1)) (append_assoc x (34 ∷ []) rest) ∙ more.1)

-- Numbers

-- bytes leave a number that was begun
abbrev Counts : ℕ → List ℕ → Type 0
Counts n ds = (at : ℕ) (rest : List ℕ) → n < 2 ^ 63 → (next : ℕ) × (lex Between at (ds ++ rest) ≡ lex (InNumber at n) next rest)

-- a digit's byte
record IsDigitOf (n b : ℕ) : Type 0 where
  blank : is_blank b ≡ false
  digit : is_digit b ≡ true
  value : b - 48 ≡ n

digit_of : (n : ℕ) → n < 10 → IsDigitOf n (48 + n)
digit_of n h = record { blank = grind (arith, nat_tests); digit = grind (arith, nat_tests); value = omega arith }

first_digit : (at n b : ℕ) → IsDigitOf n b → move Between at b ≡ Goes [] (InNumber at n)
unfolding between
first_digit at n b d = rw (d.blank, d.digit) (ap (λ (k : ℕ). Goes [] (InNumber at k)) d.value)

next_digit : (at start m n b : ℕ) → is_digit b ≡ true → m * 10 + (b - 48) ≡ n → n < 2 ^ 63 → move (InNumber start m) at b ≡ Goes [] (InNumber start n)
next_digit at start m n b d e h =
    chosen (is_digit b) (digit start m b) (with_token (lexeme (tokens.Number (pos m)) start) (between at b)) d
    ∙ ap (λ (k : ℕ). if nat_lt k (2 ^ 63) then Goes [] (InNumber start k) else TooLarge [] start) e
    ∙ chosen (nat_lt n (2 ^ 63)) (Goes [] (InNumber start n)) (TooLarge [] start) (lt-ltb _ _ h)

counts_one : (n : ℕ) → n < 10 → Counts n ((48 + n) ∷ [])
counts_one n h at rest small = (at + 1, on Between (InNumber at n) at (48 + n) rest (first_digit at n (48 + n) (digit_of n h)))

counts_more : (n : ℕ) (ds : List ℕ) → 10 ≤ n → Counts (n / 10) ds → Counts n (ds ++ (48 + n % 10) ∷ [])
counts_more n ds h front at rest small =
    let before = front at ((48 + n % 10) ∷ rest) (omega arith) in
    let d = digit_of (n % 10) (omega arith) in (
      before.0 + 1,
      ap (lex Between at) (append_assoc ds ((48 + n % 10) ∷ []) rest) ∙ before.1
          ∙ on (InNumber at (n / 10)) (InNumber at n) before.0 (48 + n % 10) rest (next_digit before.0 at (n / 10) n (48 + n % 10) d.digit (omega arith) small),
    )

number_reads : (n at : ℕ) (rest : List ℕ) → n < 2 ^ 63 → IsOver rest → Reads (tokens.Number (pos n)) at (decimal n) rest
unfolding between
number_reads n at rest h o =
    let x = decimal_by_steps Counts counts_one counts_more n (omega arith) at rest h in
    (x.0, x.1 ∙ over (InNumber at n) (tokens.Number (pos n)) at x.0 rest o refl refl)

-- Tokens

reads : (t : Token) (at : ℕ) (rest : List ℕ) → IsGood t → IsOver rest → Reads t at (token_text t) rest
unfolding lex between word_token
reads (tokens.Number (pos n)) at rest h o = number_reads n at rest h o
reads (tokens.Number (negsuc n)) at rest h o = absurd h
reads (tokens.Name x) at rest h o = name_reads x at rest h.0 h.1 o
reads (tokens.Text x) at rest h o = text_reads x at rest h
reads tokens.Open at rest h o = (at + 1, refl)
reads tokens.Close at rest h o = (at + 1, refl)
reads tokens.SquareOpen at rest h o = (at + 1, refl)
reads tokens.SquareClose at rest h o = (at + 1, refl)
reads tokens.BraceOpen at rest h o = (at + 1, refl)
reads tokens.BraceClose at rest h o = (at + 1, refl)
reads tokens.Comma at rest h o = (at + 1, refl)
reads tokens.Semicolon at rest h o = (at + 1, refl)
reads tokens.Dot at rest h o = (at + 1, refl)
reads tokens.Equals at rest h o = (at + 1, over (AfterEquals at) tokens.Equals at (at + 1) rest o refl refl)
reads tokens.Assign at rest h o = (at + 1 + 1, refl)
reads tokens.Plus at rest h o = (at + 1, refl)
reads tokens.Minus at rest h o = (at + 1, refl)
reads tokens.Star at rest h o = (at + 1, refl)
reads tokens.Slash at rest h o = (at + 1, over (AfterSlash at) tokens.Slash at (at + 1) rest o refl refl)
reads tokens.Percent at rest h o = (at + 1, refl)
reads tokens.Less at rest h o = (at + 1, refl)
reads tokens.Same at rest h o = (at + 1 + 1, refl)
reads tokens.Let at rest h o = (at + 1 + 1 + 1, over (InWord at (token_text tokens.Let)) tokens.Let at (at + 1 + 1 + 1) rest o refl refl)
reads tokens.In at rest h o = (at + 1 + 1, over (InWord at (token_text tokens.In)) tokens.In at (at + 1 + 1) rest o refl refl)
reads tokens.If at rest h o = (at + 1 + 1, over (InWord at (token_text tokens.If)) tokens.If at (at + 1 + 1) rest o refl refl)
reads tokens.Else at rest h o = (at + 1 + 1 + 1 + 1, over (InWord at (token_text tokens.Else)) tokens.Else at (at + 1 + 1 + 1 + 1) rest o refl refl)
reads tokens.Repeat at rest h o = (at + 1 + 1 + 1 + 1 + 1 + 1, over (InWord at (token_text tokens.Repeat)) tokens.Repeat at (at + 1 + 1 + 1 + 1 + 1 + 1) rest o refl refl)
reads tokens.Clone at rest h o = (at + 1 + 1 + 1 + 1 + 1, over (InWord at (token_text tokens.Clone)) tokens.Clone at (at + 1 + 1 + 1 + 1 + 1) rest o refl refl)
reads tokens.Active at rest h o = (at + 1 + 1 + 1 + 1 + 1 + 1, over (InWord at (token_text tokens.Active)) tokens.Active at (at + 1 + 1 + 1 + 1 + 1 + 1) rest o refl refl)
reads tokens.Serve at rest h o = (at + 1 + 1 + 1 + 1 + 1, over (InWord at (token_text tokens.Serve)) tokens.Serve at (at + 1 + 1 + 1 + 1 + 1) rest o refl refl)
reads tokens.Print at rest h o = (at + 1 + 1 + 1 + 1 + 1, over (InWord at (token_text tokens.Print)) tokens.Print at (at + 1 + 1 + 1 + 1 + 1) rest o refl refl)
reads tokens.Echo at rest h o = (at + 1 + 1 + 1 + 1, over (InWord at (token_text tokens.Echo)) tokens.Echo at (at + 1 + 1 + 1 + 1) rest o refl refl)
reads tokens.Group at rest h o = (at + 1 + 1 + 1 + 1 + 1, over (InWord at (token_text tokens.Group)) tokens.Group at (at + 1 + 1 + 1 + 1 + 1) rest o refl refl)
reads tokens.Scatter at rest h o = (at + 1 + 1 + 1 + 1 + 1 + 1 + 1, over (InWord at (token_text tokens.Scatter)) tokens.Scatter at (at + 1 + 1 + 1 + 1 + 1 + 1 + 1) rest o refl refl)
reads tokens.Size at rest h o = (at + 1 + 1 + 1 + 1, over (InWord at (token_text tokens.Size)) tokens.Size at (at + 1 + 1 + 1 + 1) rest o refl refl)
reads tokens.Member at rest h o = (at + 1 + 1 + 1 + 1 + 1 + 1, over (InWord at (token_text tokens.Member)) tokens.Member at (at + 1 + 1 + 1 + 1 + 1 + 1) rest o refl refl)
reads tokens.WaitAll at rest h o = (at + 1 + 1 + 1 + 1 + 1 + 1 + 1, over (InWord at (token_text tokens.WaitAll)) tokens.WaitAll at (at + 1 + 1 + 1 + 1 + 1 + 1 + 1) rest o refl refl)
reads tokens.Pending at rest h o = (at + 1 + 1 + 1 + 1 + 1 + 1 + 1, over (InWord at (token_text tokens.Pending)) tokens.Pending at (at + 1 + 1 + 1 + 1 + 1 + 1 + 1) rest o refl refl)
reads tokens.End at rest h o = absurd h
reads tokens.BadByte at rest h o = absurd h
reads tokens.BadNumber at rest h o = absurd h

-- tokens with one blank between two are read as these tokens
pub text_reads_as : (ts : List Token) (at : ℕ) → Each IsGood ts → tokens_in (lex Between at (text_of ts)) ≡ ts ++ tokens.End ∷ []
unfolding lex between
text_reads_as [] at h = refl
text_reads_as (t ∷ []) at h =
    let x = reads t at [] h.0 tt in
    ap (λ (bs : List ℕ). tokens_in (lex Between at bs)) (sym (append-nil (token_text t))) ∙ ap tokens_in x.1
text_reads_as (t ∷ u ∷ ts) at h =
    let x = reads t at (32 ∷ text_of (u ∷ ts)) h.0 refl in
    ap tokens_in x.1 ∙ ap (λ (us : List Token). t ∷ us) (text_reads_as (u ∷ ts) (x.0 + 1) h.1)
