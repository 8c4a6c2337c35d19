-- Short texts with one key are one text.
use Rattle.std.proofs.Common.{◌≡◌, ℕ, zero, suc, ◌+◌, ◌*◌, ◌^◌, ◌<◌, ◌==◌, if◌then◌else◌, Bool, true, false, List, [], ◌∷◌, Some, None, length, map, drop, get_or, refl, sym, ap, ◌∙◌, arith}
use Rattle.std.specs.Bool.{one_answer}
use Rattle.std.specs.Prelude.{nat_le, nat_lt}
use Rattle.std.specs.Option.{option_map}
use Rattle.std.proofs.Math.Seq.{drop-cons}
use Rattle.std.proofs.lemmas.Bool.{false≢true, le-ltb, leb-false, lt-ltb}
use Rattle.std.proofs.lemmas.Bool.Decides.{Decides-eqb, Decides-ltb}
use Rattle.std.proofs.lemmas.Slice.Eq.{bytes_eq-Decides}
use Rattle.asp_model.specs.Names.{Text, same_text}
use Rattle.code_table.specs.declared.class.Class.{Class}
use Rattle.code_table.specs.declared.code.MethodCode.{MethodCode}
use Rattle.code_table.specs.declared.keys.KeyedLabel.{KeyedLabel}
use Rattle.code_table.specs.Classes.{field_number, method_number}
use Rattle.code_table.specs.Keys.{key_number, keys_before, longer, text_key}
use Rattle.code_table.specs.Numbers.{number_of}
use Rattle.code_table.specs.Tables.{head_of, text_of}
use Rattle.code_table.proofs.LookupLemmas.{chosen, number_cons}

-- A key and its parts

parted : (x y z : Bool) (b k : ℕ) → nat_le 256 b ≡ x → (k == 0) ≡ y → ((if x then 0 else (if y then 0 else (if z then 0 else 256 * k + b))) ≡ 0 → ⊥)
    → (b < 256) × (k ≡ 0 → ⊥) × ((if x then 0 else (if y then 0 else (if z then 0 else 256 * k + b))) ≡ 256 * k + b)
parted true y z b k byte some h = absurd (h refl)
parted false true z b k byte some h = absurd (h refl)
parted false false true b k byte some h = absurd (h refl)
parted false false false b k byte some h = (leb-false 256 b byte, λ e. false≢true (sym some ∙ (Decides-eqb k 0).1 e), refl)

parts_of : (b k : ℕ) → (longer b k ≡ 0 → ⊥) → (b < 256) × (k ≡ 0 → ⊥) × (longer b k ≡ 256 * k + b)
parts_of b k h = parted (nat_le 256 b) (k == 0) (nat_le (2 ^ 55) k) b k refl refl h

digits : (x y k m : ℕ) → x < 256 → y < 256 → 256 * k + x ≡ 256 * m + y → (x ≡ y) × (k ≡ m)
digits x y k m less more e =
    let rest : k ≡ m = omega (arith, less, more, e) in
    let first : x ≡ y = omega (arith, rest, e) in
    (first, rest)

no_digits : (x k : ℕ) → (k ≡ 0 → ⊥) → 256 * k + x ≡ 1 → ⊥
no_digits x zero some e = some refl
no_digits x (suc k) some e = omega (arith, e)

-- texts with one key that is not 0
key_tells : (a b : Text) → text_key a ≡ text_key b → (text_key a ≡ 0 → ⊥) → a ≡ b
key_tells [] [] e h = refl
key_tells [] (y ∷ ys) e h =
    let p = parts_of y (text_key ys) (λ z. h (e ∙ z)) in
    absurd (no_digits y (text_key ys) p.1 (sym p.2 ∙ sym e))
key_tells (x ∷ xs) [] e h =
    let p = parts_of x (text_key xs) h in
    absurd (no_digits x (text_key xs) p.1 (sym p.2 ∙ e))
key_tells (x ∷ xs) (y ∷ ys) e h =
    let p = parts_of x (text_key xs) h in
    let q = parts_of y (text_key ys) (λ z. h (e ∙ z)) in
    let d = digits x y (text_key xs) (text_key ys) p.0 q.0 (sym p.2 ∙ e ∙ q.2) in
    let tails : xs ≡ ys = key_tells xs ys d.1 p.1 in
    λ i. d.0 i ∷ tails i

-- to compare keys is to compare texts
same_by_key : (l x : Text) → (text_key l ≡ 0 → ⊥) → (text_key l == text_key x) ≡ same_text l x
same_by_key l x h =
    let keys = Decides-eqb (text_key l) (text_key x) in
    one_answer (text_key l == text_key x) (same_text l x) ((λ e. key_tells l x (keys.0 e) h), (λ e. keys.1 (ap text_key e))) (bytes_eq-Decides l x)

-- Numbers by keys

less_next : (p n : ℕ) → nat_lt (suc p) (suc n) ≡ nat_lt p n
less_next p n =
    let more = Decides-ltb (suc p) (suc n) in
    one_answer (nat_lt (suc p) (suc n)) (nat_lt p n) ((λ e. let lt : suc p < suc n = more.0 e in omega (arith, lt)), (λ lt. more.1 (omega (arith, lt)))) (Decides-ltb p n)

moved : (b : Bool) (p : ℕ) → (if b then Some (suc p) else None) ≡ option_map suc (if b then Some p else None)
moved true p = refl
moved false p = refl

step : (b : Bool) (p n : ℕ) → (let q : ℕ = elim b [ true ↦ 0 | false ↦ suc p ] in (if nat_lt q (suc n) then Some q else None) ≡ chosen b (if nat_lt p n then Some p else None))
step true p n = let less : 0 < suc n = omega arith in ap (λ (b : Bool). if b then Some 0 else None) (lt-ltb 0 (suc n) less)
step false p n = ap (λ (b : Bool). if b then Some (suc p) else None) (less_next p n) ∙ moved (nat_lt p n) p

by_keys : (l : Text) (ls : List Text) → (text_key l ≡ 0 → ⊥) → key_number (map text_key ls) (text_key l) ≡ number_of l ls
by_keys l [] h = let none : nat_lt 0 0 ≡ false = le-ltb 0 0 (omega arith) in ap (λ (b : Bool). if b then Some 0 else None) none
by_keys l (x ∷ ls) h =
    step (text_key l == text_key x) (keys_before (map text_key ls) (text_key l)) (length (map text_key ls))
    ∙ (λ j. chosen (same_by_key l x h j) (by_keys l ls h j))
    ∙ sym (number_cons l x ls)

keys_of : {A : Type 0} (name : A → Text) (xs : List A) → map (λ x. text_key (name x)) xs ≡ map text_key (map name xs)
keys_of name [] = refl
keys_of name (x ∷ xs) = ap (λ (ks : List ℕ). text_key (name x) ∷ ks) (keys_of name xs)

named_by : {A : Type 0} (name : A → Text) (xs : List A) (l : KeyedLabel) (ks : List ℕ) → ks ≡ map (λ x. text_key (name x)) xs → (l.key ≡ 0 → ⊥) → key_number ks l.key ≡ number_of l.label.text (map name xs)
named_by name xs l ks are h =
    (λ j. key_number ((are ∙ keys_of name xs) j) (l.keyed j))
    ∙ by_keys l.label.text (map name xs) (λ e. h (l.keyed ∙ e))

pub field_by_key : (k : Class) (l : KeyedLabel) (ks : List ℕ) → ks ≡ k.field_keys.items → (l.key ≡ 0 → ⊥) → key_number ks l.key ≡ field_number l.label.text k
field_by_key k l ks are h = named_by text_of k.fields.items l ks (are ∙ k.fields_keyed) h

pub method_by_key : (k : Class) (l : KeyedLabel) (ks : List ℕ) → ks ≡ k.method_keys.items → (l.key ≡ 0 → ⊥) → key_number ks l.key ≡ method_number l.label.text k
method_by_key k l ks are h = named_by (λ (m : MethodCode). (head_of m).label) k.methods.items l ks (are ∙ k.methods_keyed) h

-- The key of a text, from its last byte on

pub key_before : (bytes : Text) (i : ℕ) (b key : ℕ) → i < length bytes → b ≡ get_or bytes i b → key ≡ text_key (drop (suc i) bytes) → longer b key ≡ text_key (drop i bytes)
key_before bytes i b key lt at is = (λ j. longer (at j) (is j)) ∙ ap text_key (sym (drop-cons bytes i b lt))
