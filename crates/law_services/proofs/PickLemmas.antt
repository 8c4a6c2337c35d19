-- Requests that are picked out of a list, and the first that was not served.
use Rattle.std.specs.Prelude.{◌≡◌, ℕ, zero, suc, ◌+◌, ◌<◌, ◌&&◌, ◌||◌, ◌==◌, not, Bool, true, false, List, [], ◌∷◌, ◌++◌, Option, Some, None, length, map, slice_get, filter, cond}
use Rattle.std.proofs.Common.{refl, sym, ap, subst, ◌∙◌, arith, append_assoc}
use Rattle.std.proofs.lemmas.List.{append-nil, map-append}
use Rattle.std.proofs.lemmas.List.Elements.{filter-append}
use Rattle.std.proofs.lemmas.Bool.{eq-eqb, eqb-true, false_from_ne_true}
use Rattle.asp_model.specs.Names.{Name, FutureShape, Text, same_name, same_future}
use Rattle.asp_model.specs.Term.{has_text}
use Rattle.asp_model.specs.Parcel.{has_place}
use Rattle.asp_model.specs.Configuration.{RequestShape, label_of}
use Rattle.asp_model.specs.Intent.{Numbered, oldest_match}
use Rattle.law_steps.proofs.NameLemmas.{name_itself}
use Rattle.law_chases.proofs.FutureLemmas.{no_some, future_itself, futures_tied, none_true, true_false}
use Rattle.law_services.specs.Services.{arrival_of, has_one_of}

-- Beginnings

abbrev pub Begins : List RequestShape → List RequestShape → Type 0
Begins xs ys = (zs : List RequestShape) × (xs ++ zs ≡ ys)

pub begins_itself : (xs : List RequestShape) → Begins xs xs
begins_itself xs = ([], append-nil xs)

pub begins_then : (xs ys zs : List RequestShape) → Begins xs ys → Begins ys zs → Begins xs zs
begins_then xs ys zs p q = (p.0 ++ q.0, sym (append_assoc xs p.0 q.0) ∙ ap (λ l. l ++ q.0) p.1 ∙ q.1)

-- Picked

-- with one request more, where it is so
abbrev pub take_if : Bool → RequestShape → List RequestShape → List RequestShape
take_if b r rs = cond b (r ∷ rs) rs

pub begins_filter : (P : RequestShape → Bool) (xs ys : List RequestShape) → Begins xs ys → Begins (filter P xs) (filter P ys)
begins_filter P xs ys h = (filter P h.0, sym (filter-append P xs h.0) ∙ ap (filter P) h.1)

both_by : (P Q : RequestShape → Bool) (x : RequestShape) (l m : List RequestShape) → filter P l ≡ filter Q m → (p q : Bool) → P x ≡ p → Q x ≡ q → filter P (take_if q x l) ≡ filter Q (take_if p x m)
both_by P Q x l m ih true true e d = ap (λ b. take_if b x (filter P l)) e ∙ ap (λ k. x ∷ k) ih ∙ sym (ap (λ b. take_if b x (filter Q m)) d)
both_by P Q x l m ih true false e d = ih ∙ sym (ap (λ b. take_if b x (filter Q m)) d)
both_by P Q x l m ih false true e d = ap (λ b. take_if b x (filter P l)) e ∙ ih
both_by P Q x l m ih false false e d = ih

pub filter_both : (P Q : RequestShape → Bool) (xs : List RequestShape) → filter P (filter Q xs) ≡ filter Q (filter P xs)
filter_both P Q [] = refl
filter_both P Q (x ∷ xs) = both_by P Q x (filter Q xs) (filter P xs) (filter_both P Q xs) (P x) (Q x) refl refl

-- By their senders

abbrev pub sent_by : Name → RequestShape → Bool
sent_by n r = same_name n r.sender

abbrev pub from : Name → List RequestShape → List RequestShape
from n = filter (sent_by n)

abbrev pub senders : List RequestShape → List Name
senders = map (λ r. r.sender)

abbrev first_or : Name → List Name → Name
first_or n [] = n
first_or n (m ∷ ms) = m

abbrev others : List Name → List Name
others [] = []
others (m ∷ ms) = ms

abbrev head_or : RequestShape → List RequestShape → RequestShape
head_or r [] = r
head_or r (x ∷ xs) = x

abbrev tail : List RequestShape → List RequestShape
tail [] = []
tail (x ∷ xs) = xs

abbrev is_empty : {X : Type 0} → List X → Bool
is_empty [] = true
is_empty (x ∷ xs) = false

tail_by : (b : Bool) (u w : RequestShape) (us ws : List RequestShape) → Begins (take_if b u us) (take_if b w ws) → Begins us ws
tail_by true u w us ws h = (h.0, ap tail h.1)
tail_by false u w us ws h = h

-- where senders come in one order, and each sender's requests in theirs, all come in one order
pub one_order : (us ws : List RequestShape) (more : List Name) → senders us ++ more ≡ senders ws → ((n : Name) → Begins (from n us) (from n ws)) → Begins us ws
one_order [] ws more k h = (ws, refl)
one_order (u ∷ us) [] more k h = none_true (ap is_empty k)
one_order (u ∷ us) (w ∷ ws) more k h =
    let s : u.sender ≡ w.sender = ap (first_or u.sender) k in
    let t : same_name u.sender w.sender ≡ true = ap (same_name u.sender) (sym s) ∙ name_itself u.sender in
    let x : Begins (take_if true u (from u.sender us)) (take_if true w (from u.sender ws)) =
    subst (λ b. Begins (take_if true u (from u.sender us)) (take_if b w (from u.sender ws))) t (subst (λ b. Begins (take_if b u (from u.sender us)) (take_if (same_name u.sender w.sender) w (from u.sender ws))) (name_itself u.sender) (h u.sender)) in
    let first : u ≡ w = ap (head_or u) x.1 in
    let y = one_order us ws more (ap others k) (λ n. tail_by (same_name n u.sender) u w (from n us) (from n ws)
    (subst (λ m. Begins (take_if (same_name n u.sender) u (from n us)) (take_if (same_name n m) w (from n ws))) (sym s) (h n))) in
    (y.0, (λ i. first i ∷ y.1 i))

senders_told : (rs : List RequestShape) → senders rs ≡ map (λ x. x.sender) (map arrival_of rs)
senders_told [] = refl
senders_told (r ∷ rs) = ap (λ l. r.sender ∷ l) (senders_told rs)

-- and where what arrives is told the same
pub told_order : (us vs ws : List RequestShape) → Begins us vs → map arrival_of vs ≡ map arrival_of ws → ((n : Name) → Begins (from n us) (from n ws)) → Begins us ws
told_order us vs ws k e h = one_order us ws (senders k.0)
    (sym (map-append (λ r. r.sender) us k.0) ∙ ap senders k.1 ∙ senders_told vs ∙ ap (map (λ x. x.sender)) e ∙ sym (senders_told ws)) h

-- Numbers of requests, and their futures

abbrev pub future_in : Option RequestShape → Option FutureShape
future_in None = None
future_in (Some r) = Some r.future

abbrev pub future_at : List RequestShape → ℕ → Option FutureShape
future_at rs k = future_in (slice_get rs k)

abbrev pub futures_at : List RequestShape → List ℕ → List (Option FutureShape)
futures_at rs ks = map (future_at rs) ks

abbrev pub is_that : FutureShape → Option FutureShape → Bool
is_that f None = false
is_that f (Some g) = same_future f g

abbrev pub has_future : FutureShape → List (Option FutureShape) → Bool
has_future f [] = false
has_future f (o ∷ os) = is_that f o || has_future f os

pub slice_front : (rs qs : List RequestShape) (k : ℕ) → k < length rs → slice_get (rs ++ qs) k ≡ slice_get rs k
slice_front [] qs k lt = absurd (omega (arith, lt))
slice_front (r ∷ rs) qs zero lt = refl
slice_front (r ∷ rs) qs (suc k) lt = slice_front rs qs k (omega (arith, lt))

or_by : (b x y : Bool) → x ≡ y → elim b [ true ↦ true | false ↦ x ] ≡ (b || y)
or_by true x y p = refl
or_by false x y p = p

-- no two requests have one future
abbrev pub AreApart : List RequestShape → Type 0
AreApart rs = (i j : ℕ) (r q : RequestShape) → slice_get rs i ≡ Some r → slice_get rs j ≡ Some q → r.future ≡ q.future → i ≡ j

is_told : (rs : List RequestShape) → AreApart rs → (i j : ℕ) (r : RequestShape) → slice_get rs i ≡ Some r → (o : Option RequestShape) → slice_get rs j ≡ o → is_that r.future (future_in o) ≡ true → i ≡ j
is_told rs apart i j r at None is h = none_true h
is_told rs apart i j r at (Some q) is h = apart i j r q at is (futures_tied r.future q.future h)

number_told : (rs : List RequestShape) → AreApart rs → (i j : ℕ) (r : RequestShape) → slice_get rs i ≡ Some r → (i == j) ≡ is_that r.future (future_at rs j)
number_told rs apart i j r at = elim (i == j) as (λ b. (i == j) ≡ b → b ≡ is_that r.future (future_at rs j)) [
  | true ↦ λ e. sym (ap (λ k. is_that r.future (future_at rs k)) (sym (eqb-true i j e)) ∙ ap (λ o. is_that r.future (future_in o)) at ∙ future_itself r.future)
  | false ↦ λ e. sym (false_from_ne_true (is_that r.future (future_at rs j)) (λ h. true_false (i == j) (eq-eqb i j (is_told rs apart i j r at (slice_get rs j) refl h)) e))
] refl

-- a number was served where the future of its request was
pub served_told : (rs : List RequestShape) (ks : List ℕ) → AreApart rs → (i : ℕ) (r : RequestShape) → slice_get rs i ≡ Some r → has_place i ks ≡ has_future r.future (futures_at rs ks)
served_told rs [] apart i r at = refl
served_told rs (k ∷ ks) apart i r at =
    ap (λ b. elim b [ true ↦ true | false ↦ has_place i ks ]) (number_told rs apart i k r at)
    ∙ or_by (is_that r.future (future_at rs k)) (has_place i ks) (has_future r.future (futures_at rs ks)) (served_told rs ks apart i r at)

-- The first that was not served

abbrev pub pick_if : Bool → RequestShape → Option RequestShape → Option RequestShape
pick_if true r o = o
pick_if false r o = Some r

-- the first whose future is none of these
abbrev pub first_but : List (Option FutureShape) → List RequestShape → Option RequestShape
first_but fs [] = None
first_but fs (r ∷ rs) = pick_if (has_future r.future fs) r (first_but fs rs)

pick_more : (b : Bool) (x r : RequestShape) (o p : Option RequestShape) → (o ≡ Some r → p ≡ Some r) → pick_if b x o ≡ Some r → pick_if b x p ≡ Some r
pick_more true x r o p ih h = ih h
pick_more false x r o p ih h = h

pub first_more : (fs : List (Option FutureShape)) (xs ys : List RequestShape) (r : RequestShape) → first_but fs xs ≡ Some r → first_but fs (xs ++ ys) ≡ Some r
first_more fs [] ys r h = no_some h
first_more fs (x ∷ xs) ys r h = pick_more (has_future x.future fs) x r (first_but fs xs) (first_but fs (xs ++ ys)) (first_more fs xs ys r) h

pub first_begins : (fs : List (Option FutureShape)) (xs ys : List RequestShape) (r : RequestShape) → Begins xs ys → first_but fs xs ≡ Some r → first_but fs ys ≡ Some r
first_begins fs xs ys r k h = ap (first_but fs) (sym k.1) ∙ first_more fs xs k.0 r h

abbrev pub second : Option Numbered → Option RequestShape
second None = None
second (Some x) = Some x.1

abbrev matched : Bool → Numbered → Option Numbered → Option Numbered
matched b x o = elim b [ true ↦ Some x | false ↦ o ]

match_by : (fs : List (Option FutureShape)) (k : ℕ) (r : RequestShape) (o : Option Numbered) (l : List RequestShape) → second o ≡ first_but fs l → (p t : Bool) → has_future r.future fs ≡ p → second (matched (not p && t) (k, r) o) ≡ first_but fs (take_if t r l)
match_by fs k r o l ih true true e = ih ∙ sym (ap (λ b. pick_if b r (first_but fs l)) e)
match_by fs k r o l ih true false e = ih
match_by fs k r o l ih false true e = sym (ap (λ b. pick_if b r (first_but fs l)) e)
match_by fs k r o l ih false false e = ih

pub matches : (labels : List Text) (served : List ℕ) (fs : List (Option FutureShape)) (k : ℕ) (rs : List RequestShape) → ((i j : ℕ) (r : RequestShape) → j ≡ i + k → slice_get rs i ≡ Some r → has_place j served ≡ has_future r.future fs) → second (oldest_match labels served k rs) ≡ first_but fs (filter (has_one_of labels) rs)
matches labels served fs k [] h = refl
matches labels served fs k (r ∷ rs) h =
    let ih = matches labels served fs (suc k) rs (λ i j q p at. h (suc i) j q (omega (arith, p)) at) in
    ap (λ p. second (matched (not p && has_text (label_of r) labels) (k, r) (oldest_match labels served (suc k) rs))) (h 0 k r (omega arith) refl)
    ∙ match_by fs k r (oldest_match labels served (suc k) rs) (filter (has_one_of labels) rs) ih (has_future r.future fs) (has_text (label_of r) labels) refl

-- the oldest match is the first of those with one of the labels whose future is none of those served
pub match_told : (labels : List Text) (served : List ℕ) (rs : List RequestShape) → AreApart rs → second (oldest_match labels served 0 rs) ≡ first_but (futures_at rs served) (filter (has_one_of labels) rs)
match_told labels served rs apart = matches labels served (futures_at rs served) 0 rs (λ i j r p at. served_told rs served apart j r (subst (λ k. slice_get rs k ≡ Some r) (omega (arith, p)) at))
