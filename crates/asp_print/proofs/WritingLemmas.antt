-- Tokens that are written one after another, and the text without its last blank.
use Rattle.std.proofs.Common.{◌≡◌, ℕ, zero, suc, ◌+◌, ◌-◌, ◌<◌, ◌≤◌, List, [], ◌∷◌, ◌++◌, map, length, get_or, take, drop, replicate, refl, sym, ap, ◌∙◌, append_assoc, arith}
use Rattle.std.proofs.lemmas.List.{append-nil, at_drop_more, at_drop_all}
use Rattle.std.proofs.lemmas.Grind.{flat_map-append}
use Rattle.asp_model.specs.Marked.{Marked, marked}
use Rattle.syntax_tokens.specs.declared.token.Token.{Token}
use Rattle.syntax_tokens.specs.declared.token.Token.TheVariants as tokens
use Rattle.syntax_tokens.specs.Texts.{token_text, text_of}
use Rattle.asp_print.specs.Tokens.{enclosed, behind_each, led_by, mark_of, node_tokens, tokens_of}
use Rattle.asp_print.specs.Parts.{with_blank, written}

pub written_both : (ts us : List Token) → written ts ++ written us ≡ written (ts ++ us)
written_both ts us = sym (flat_map-append (λ t. with_blank (token_text t)) ts us)

-- one after another
pub onward : (x : List ℕ) (ts us : List Token) {y z : List ℕ} → y ≡ x ++ written ts → z ≡ y ++ written us → z ≡ x ++ written (ts ++ us)
onward x ts us e d = d ∙ ap (λ (y : List ℕ). y ++ written us) e ∙ append_assoc x (written ts) (written us) ∙ ap (λ (zs : List ℕ). x ++ zs) (written_both ts us)

pub led_is : (sign : Token) (ps : List (List Token)) → led_by (sign ∷ []) sign ps ≡ behind_each sign ps
led_is sign [] = refl
led_is sign (p ∷ ps) = refl

-- a loop's step over pieces
pub led_more : {A : Type 0} (g : A → List Token) (lead : List Token) (sign : Token) (xs : List A) (i : ℕ) (x : A) (s0 s1 s2 : List ℕ) → i < length xs → x ≡ get_or xs i x
    → s1 ≡ s0 ++ written lead → s2 ≡ s1 ++ written (g x)
    → s2 ++ written (led_by (sign ∷ []) sign (map g (drop (i + 1) xs))) ≡ s0 ++ written (led_by lead sign (map g (drop i xs)))
led_more {A = A} g lead sign xs i x s0 s1 s2 h e first second =
    let rest : List (List Token) = map g (drop (i + 1) xs) in
    let both : s2 ≡ s0 ++ written (lead ++ g x) = onward s0 lead (g x) first second in
    ap (λ (ts : List Token). s2 ++ written ts) (led_is sign rest)
    ∙ ap (λ (y : List ℕ). y ++ written (behind_each sign rest)) both
    ∙ append_assoc s0 (written (lead ++ g x)) (written (behind_each sign rest))
    ∙ ap (λ (y : List ℕ). s0 ++ y) (written_both (lead ++ g x) (behind_each sign rest))
    ∙ ap (λ (ts : List Token). s0 ++ written ts) (append_assoc lead (g x) (behind_each sign rest))
    ∙ ap (λ (y : A). s0 ++ written (led_by lead sign (map g (y ∷ drop (i + 1) xs)))) e
    ∙ sym (at_drop_more (λ (ys : List A). s0 ++ written (led_by lead sign (map g ys))) xs i x h)

-- a loop's end
pub led_over : {A : Type 0} (g : A → List Token) (lead : List Token) (sign : Token) (xs : List A) (i : ℕ) (s whole : List ℕ) → length xs ≤ i
    → s ++ written (led_by lead sign (map g (drop i xs))) ≡ whole → s ≡ whole
led_over {A = A} g lead sign xs i s whole h e = sym (append-nil s) ∙ sym (at_drop_all (λ (ys : List A). s ++ written (led_by lead sign (map g ys))) xs i h) ∙ e

-- Parentheses

same_end : {A : Type 0} (n : ℕ) (x : A) → replicate n x ++ x ∷ [] ≡ x ∷ replicate n x
same_end zero x = refl
same_end {A = A} (suc n) x = ap (λ (xs : List A). x ∷ xs) (same_end n x)

pub enclosed_is : (n : ℕ) (ts : List Token) → enclosed n ts ≡ replicate n tokens.Open ++ (ts ++ replicate n tokens.Close)
enclosed_is zero ts = sym (append-nil ts)
enclosed_is (suc n) ts =
    let opens : List Token = replicate n tokens.Open in
    let closes : List Token = replicate n tokens.Close in
    ap (λ (us : List Token). tokens.Open ∷ (us ++ tokens.Close ∷ [])) (enclosed_is n ts)
    ∙ ap (λ (us : List Token). tokens.Open ∷ us) (append_assoc opens (ts ++ closes) (tokens.Close ∷ []) ∙ ap (λ (us : List Token). opens ++ us) (append_assoc ts closes (tokens.Close ∷ []) ∙ ap (λ (us : List Token). ts ++ us) (same_end n tokens.Close)))

pub term_is : (t : Marked) → tokens_of t ≡ replicate (mark_of t).parentheses tokens.Open ++ (node_tokens t ++ replicate (mark_of t).parentheses tokens.Close)
term_is (marked h m ts) = enclosed_is m.parentheses (node_tokens (marked h m ts))

pub put_laid : (n : ℕ) (ts ds us : List Token) → replicate n tokens.Open ++ (ts ++ ((ds ++ (replicate n tokens.Close ++ tokens.Assign ∷ [])) ++ us)) ≡ enclosed n (ts ++ ds) ++ tokens.Assign ∷ us
put_laid n ts ds us =
    let opens : List Token = replicate n tokens.Open in
    let closes : List Token = replicate n tokens.Close in
    let more : List Token = tokens.Assign ∷ us in
    sym (ap (λ (vs : List Token). vs ++ more) (enclosed_is n (ts ++ ds))
    ∙ append_assoc opens ((ts ++ ds) ++ closes) more
    ∙ ap (λ (vs : List Token). opens ++ vs)
    (append_assoc (ts ++ ds) closes more ∙ append_assoc ts ds (closes ++ more)
    ∙ ap (λ (vs : List Token). ts ++ vs) (sym (append_assoc ds (closes ++ tokens.Assign ∷ []) us ∙ ap (λ (vs : List Token). ds ++ vs) (append_assoc closes (tokens.Assign ∷ []) us)))))

-- The last blank

pub written_text : (t : Token) (ts : List Token) → written (t ∷ ts) ≡ text_of (t ∷ ts) ++ 32 ∷ []
written_text t [] = append-nil (with_blank (token_text t))
written_text t (u ∷ ts) =
    append_assoc (token_text t) (32 ∷ []) (written (u ∷ ts))
    ∙ ap (λ (bs : List ℕ). token_text t ++ 32 ∷ bs) (written_text u ts)
    ∙ sym (append_assoc (token_text t) (32 ∷ text_of (u ∷ ts)) (32 ∷ []))

none_left : (bs : List ℕ) → length bs ≤ 0 → bs ≡ []
none_left [] h = refl
none_left (b ∷ bs) h = absurd (omega arith)

last_is : (bs : List ℕ) (b : ℕ) → get_or (bs ++ b ∷ []) (length bs) 0 ≡ b
last_is [] b = refl
last_is (c ∷ bs) b = last_is bs b

all_but : (bs us : List ℕ) → take (length bs) (bs ++ us) ≡ bs
all_but [] us = refl
all_but (b ∷ bs) us = ap (λ (cs : List ℕ). b ∷ cs) (all_but bs us)

length_more : (bs : List ℕ) (b : ℕ) → length (bs ++ b ∷ []) ≡ suc (length bs)
length_more [] b = refl
length_more (c ∷ bs) b = ap suc (length_more bs b)

-- what a `pop` leaves
pub popped : (ts : List Token) (old new : List ℕ) (n : ℕ) → old ≡ written ts → n ≡ length old → length new ≤ n → (0 < n → get_or old (n - 1) 0 < 128 → new ≡ take (n - 1) old) → new ≡ text_of ts
popped [] old new n e l short cut = let empty : length new ≤ 0 = omega (arith, ap length e) in none_left new empty
popped (t ∷ ts) old new n e l short cut =
    let whole : old ≡ text_of (t ∷ ts) ++ 32 ∷ [] = e ∙ written_text t ts in
    let count : n ≡ suc (length (text_of (t ∷ ts))) = l ∙ ap length whole ∙ length_more (text_of (t ∷ ts)) 32 in
    let before : n - 1 ≡ length (text_of (t ∷ ts)) = omega arith in
    let last : get_or old (n - 1) 0 ≡ 32 = (λ i. get_or (whole i) (before i) 0) ∙ last_is (text_of (t ∷ ts)) 32 in
    cut (omega arith) (omega arith) ∙ (λ i. take (before i) (whole i)) ∙ all_but (text_of (t ∷ ts)) (32 ∷ [])

pub ruleset writing = (append-nil, append_assoc)
