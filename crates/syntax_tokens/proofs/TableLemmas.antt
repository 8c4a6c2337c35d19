-- What holds of each sign and reserved word holds of what the tables of signs and words answer.
use Rattle.std.specs.Prelude.{◌≡◌, ℕ, ◌==◌, codes, Bool, true, false, if◌then◌else◌, List, Option, Some, None, IfSome}
use Rattle.std.proofs.Common.{refl}
use Rattle.syntax_tokens.specs.declared.token.Token.{Token}
use Rattle.syntax_tokens.specs.declared.token.Token.TheVariants.{Number, Name, Text, End, BadByte, BadNumber}
use Rattle.syntax_tokens.specs.Bytes.{is_word, sign_token, reserved_token, named_token, word_token}

-- what holds of both choices, where each may take the test
pub by_test : {X : Type 0} (Q : X → Type 0) (b : Bool) {x y : X} → (b ≡ true → Q x) → (b ≡ false → Q y) → Q (if b then x else y)
by_test Q true h k = h refl
by_test Q false h k = k refl

-- and where none takes it
pub either : {X : Type 0} (Q : X → Type 0) (b : Bool) {x y : X} → Q x → Q y → Q (if b then x else y)
either Q true h k = h
either Q false h k = k

-- a sign or a reserved word
abbrev pub IsFixed : Token → Type 0
IsFixed (Number n) = ⊥
IsFixed (Name x) = ⊥
IsFixed (Text x) = ⊥
IsFixed End = ⊥
IsFixed BadByte = ⊥
IsFixed BadNumber = ⊥
IsFixed t = Unit {0}

module _ (P : Token → Type 0) (fixed : (t : Token) → IsFixed t → P t) where
  abbrev OfToken : Option Token → Type 0
  OfToken o = IfSome o P

  pub of_sign : (b : ℕ) → IfSome (sign_token b) P
  of_sign b =
      either OfToken (b == 40) (fixed _ tt)
      (either OfToken (b == 41) (fixed _ tt)
      (either OfToken (b == 91) (fixed _ tt)
      (either OfToken (b == 93) (fixed _ tt)
      (either OfToken (b == 123) (fixed _ tt)
      (either OfToken (b == 125) (fixed _ tt)
      (either OfToken (b == 44) (fixed _ tt)
      (either OfToken (b == 59) (fixed _ tt)
      (either OfToken (b == 46) (fixed _ tt)
      (either OfToken (b == 43) (fixed _ tt)
      (either OfToken (b == 45) (fixed _ tt)
      (either OfToken (b == 42) (fixed _ tt)
      (either OfToken (b == 37) (fixed _ tt)
      (either OfToken (b == 60) (fixed _ tt) tt)))))))))))))

  of_reserved : (w : List ℕ) → IfSome (reserved_token w) P
  of_reserved w =
      either OfToken (is_word w (codes "let")) (fixed _ tt)
      (either OfToken (is_word w (codes "in")) (fixed _ tt)
      (either OfToken (is_word w (codes "if")) (fixed _ tt)
      (either OfToken (is_word w (codes "else")) (fixed _ tt)
      (either OfToken (is_word w (codes "repeat")) (fixed _ tt)
      (either OfToken (is_word w (codes "clone")) (fixed _ tt)
      (either OfToken (is_word w (codes "active")) (fixed _ tt)
      (either OfToken (is_word w (codes "serve")) (fixed _ tt)
      (either OfToken (is_word w (codes "print")) (fixed _ tt)
      (either OfToken (is_word w (codes "echo")) (fixed _ tt)
      (either OfToken (is_word w (codes "group")) (fixed _ tt)
      (either OfToken (is_word w (codes "scatter")) (fixed _ tt)
      (either OfToken (is_word w (codes "size")) (fixed _ tt)
      (either OfToken (is_word w (codes "member")) (fixed _ tt)
      (either OfToken (is_word w (codes "waitall")) (fixed _ tt)
      (either OfToken (is_word w (codes "pending")) (fixed _ tt) tt)))))))))))))))

  of_named : (w : List ℕ) (o : Option Token) → reserved_token w ≡ o → IfSome o P → (reserved_token w ≡ None → P (Name w)) → P (named_token w o)
  of_named w None e h k = k e
  of_named w (Some t) e h k = h

  -- and of a word, where it holds of the words that are names
  pub of_word : (w : List ℕ) → (reserved_token w ≡ None → P (Name w)) → P (word_token w)
  unfolding word_token
  of_word w k = of_named w (reserved_token w) refl (of_reserved w) k
