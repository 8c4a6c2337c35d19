-- No token has a line feed.
use Rattle.std.proofs.Common.{◌≡◌, ℕ, pos, negsuc, Bool, true, false, not, List, [], ◌∷◌, refl, sym, ap, ◌∙◌, arith}
use Rattle.std.specs.Prelude.{◌==◌}
use Rattle.std.proofs.lemmas.Bool.{and_from, false≢true, eqb-true}
use Rattle.asp_model.specs.WellFormed.{is_printable}
use Rattle.asp_model.specs.Readable.{is_letter, is_inner}
use Rattle.syntax_tokens.specs.declared.token.Token.{Token}
use Rattle.syntax_tokens.specs.declared.token.Token.TheVariants as tokens
use Rattle.syntax_tokens.specs.Texts.{token_text, text_of}
use Rattle.syntax_tokens.proofs.WordLemmas.{Each, IsInner, IsPlain, IsWord, IsGood}
use Rattle.law_reports.proofs.PartsLemmas.{lacks, lacks-append}
use Rattle.law_reports.proofs.DigitLemmas.{decimal_lacks}

-- a byte that passes a test which a line feed does not
no_feed : (P : ℕ → Bool) → P 10 ≡ false → (b : ℕ) → P b ≡ true → not (b == 10) ≡ true
no_feed P lacking b h = by (b == 10) refl
  where
    by : (t : Bool) → (b == 10) ≡ t → not t ≡ true
    by true e = absurd (false≢true (sym lacking ∙ ap P (sym (eqb-true b 10 e)) ∙ h))
    by false e = refl

inner_lacks : (bs : List ℕ) → Each IsInner bs → lacks 10 bs ≡ true
inner_lacks [] h = refl
inner_lacks (b ∷ bs) h = and_from _ _ (no_feed is_inner refl b h.0) (inner_lacks bs h.1)

word_lacks : (bs : List ℕ) → IsWord bs → lacks 10 bs ≡ true
word_lacks [] h = absurd h
word_lacks (b ∷ bs) h = and_from _ _ (no_feed is_letter refl b h.0) (inner_lacks bs h.1)

plain_lacks : (bs : List ℕ) → Each IsPlain bs → lacks 10 bs ≡ true
plain_lacks [] h = refl
plain_lacks (b ∷ bs) h = and_from _ _ (no_feed is_printable refl b h.0.text) (plain_lacks bs h.1)

token_lacks : (t : Token) → IsGood t → lacks 10 (token_text t) ≡ true
token_lacks (tokens.Number (pos n)) h = decimal_lacks 10 n (omega arith)
token_lacks (tokens.Number (negsuc n)) h = absurd h
token_lacks (tokens.Name x) h = word_lacks x h.0
token_lacks (tokens.Text x) h = and_from _ _ refl (lacks-append 10 x (34 ∷ []) (plain_lacks x h) refl)
token_lacks t h = refl

pub text_lacks : (ts : List Token) → Each IsGood ts → lacks 10 (text_of ts) ≡ true
text_lacks [] h = refl
text_lacks (t ∷ []) h = token_lacks t h.0
text_lacks (t ∷ u ∷ ts) h =
    lacks-append 10 (token_text t) (32 ∷ text_of (u ∷ ts)) (token_lacks t h.0)
    (and_from _ _ refl (text_lacks (u ∷ ts) h.1))
