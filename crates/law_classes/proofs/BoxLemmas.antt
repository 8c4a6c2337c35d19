-- Requests by classes, and which of them wait.
use Rattle.std.specs.Prelude.{◌≡◌, ◌==◌, ◌<◌, ◌≤◌, ◌+◌, ◌&&◌, not, ℕ, suc, true, false, Bool, List, [], ◌∷◌, ◌++◌, Option, Some, None, length}
use Rattle.std.proofs.Common.{refl, sym, ap, subst, ◌∙◌, arith}
use Rattle.std.proofs.lemmas.Bool.{eqb-true, eq-eqb}
use Rattle.std.proofs.lemmas.List.{append-nil}
use Rattle.std.specs.Option.{option_map}
use Rattle.asp_model.specs.Names.{Text}
use Rattle.asp_model.specs.Term.{has_text}
use Rattle.asp_model.specs.Parcel.{has_place}
use Rattle.asp_model.specs.Configuration.{RequestShape}
use Rattle.asp_model.specs.Intent.{Numbered, oldest_match}
use Rattle.law_chases.proofs.FutureLemmas.{no_some, some_is, true_false}
use Rattle.law_classes.specs.Alike.{in_class, waiting, AreSameBoxes}

-- labels of this class
abbrev pub OneClass : (Text → ℕ) → ℕ → List Text → Type 0
OneClass K κ ls = (l : Text) → has_text l ls ≡ true → K l ≡ κ

-- The oldest match is the first of those who wait

abbrev pub first_with : List Text → List RequestShape → Option RequestShape
first_with ls [] = None
first_with ls (r ∷ rs) = elim (has_text r.label ls) [ true ↦ Some r | false ↦ first_with ls rs ]

abbrev pub request_in : Option Numbered → Option RequestShape
request_in = option_map (λ x. x.1)

pub match_first : (ls : List Text) (s : List ℕ) (k : ℕ) (rs : List RequestShape) → request_in (oldest_match ls s k rs) ≡ first_with ls (waiting s k rs)
match_first ls s k [] = refl
match_first ls s k (r ∷ rs) = elim (has_place k s) as (λ b. request_in (elim (not b && has_text r.label ls) [ true ↦ Some (k, r) | false ↦ oldest_match ls s (suc k) rs ]) ≡ first_with ls (elim b [ true ↦ waiting s (suc k) rs | false ↦ r ∷ waiting s (suc k) rs ])) [
  | true ↦ match_first ls s (suc k) rs
  | false ↦ elim (has_text r.label ls) as (λ c. request_in (elim c [ true ↦ Some (k, r) | false ↦ oldest_match ls s (suc k) rs ]) ≡ elim c [ true ↦ Some r | false ↦ first_with ls (waiting s (suc k) rs) ]) [ true ↦ refl | false ↦ match_first ls s (suc k) rs ]
]

not_in : (K : Text → ℕ) (κ : ℕ) (ls : List Text) (r : RequestShape) → OneClass K κ ls → (K r.label == κ) ≡ false → (b : Bool) → has_text r.label ls ≡ b → b ≡ false
not_in K κ ls r one out true is = absurd (true_false (K r.label == κ) (eq-eqb (K r.label) κ (one r.label is)) out)
not_in K κ ls r one out false is = refl

outside : (K : Text → ℕ) (κ : ℕ) (ls : List Text) (r : RequestShape) → OneClass K κ ls → (K r.label == κ) ≡ false → has_text r.label ls ≡ false
outside K κ ls r one out = not_in K κ ls r one out (has_text r.label ls) refl

pub first_in : (K : Text → ℕ) (κ : ℕ) (ls : List Text) (rs : List RequestShape) → OneClass K κ ls → first_with ls rs ≡ first_with ls (in_class K κ rs)
first_in K κ ls [] one = refl
first_in K κ ls (r ∷ rs) one = elim (K r.label == κ) as (λ b. (K r.label == κ) ≡ b → first_with ls (r ∷ rs) ≡ first_with ls (elim b [ true ↦ r ∷ in_class K κ rs | false ↦ in_class K κ rs ])) [
  | true ↦ λ e. elim (has_text r.label ls) as (λ c. elim c [ true ↦ Some r | false ↦ first_with ls rs ] ≡ elim c [ true ↦ Some r | false ↦ first_with ls (in_class K κ rs) ]) [ true ↦ refl | false ↦ first_in K κ ls rs one ]
  | false ↦ λ e. ap (λ c. elim c [ true ↦ Some r | false ↦ first_with ls rs ]) (outside K κ ls r one e) ∙ first_in K κ ls rs one
] refl

-- the same is served on both sides
pub same_first : (K : Text → ℕ) (κ : ℕ) (ls : List Text) (rs : List RequestShape) (s : List ℕ) (qs : List RequestShape) (t : List ℕ) → OneClass K κ ls → AreSameBoxes K rs s qs t → request_in (oldest_match ls s 0 rs) ≡ request_in (oldest_match ls t 0 qs)
same_first K κ ls rs s qs t one b =
    match_first ls s 0 rs ∙ first_in K κ ls (waiting s 0 rs) one ∙ ap (first_with ls) (b.waits κ) ∙ sym (first_in K κ ls (waiting t 0 qs) one) ∙ sym (match_first ls t 0 qs)

-- One request more

pub class_more : (K : Text → ℕ) (κ : ℕ) (rs : List RequestShape) (q : RequestShape) → in_class K κ (rs ++ q ∷ []) ≡ in_class K κ rs ++ in_class K κ (q ∷ [])
class_more K κ [] q = refl
class_more K κ (r ∷ rs) q = elim (K r.label == κ) as (λ b. elim b [ true ↦ r ∷ in_class K κ (rs ++ q ∷ []) | false ↦ in_class K κ (rs ++ q ∷ []) ] ≡ elim b [ true ↦ r ∷ in_class K κ rs | false ↦ in_class K κ rs ] ++ in_class K κ (q ∷ [])) [
  | true ↦ ap (λ l. r ∷ l) (class_more K κ rs q)
  | false ↦ class_more K κ rs q
]

abbrev pub AreBelow : List ℕ → ℕ → Type 0
AreBelow s n = (k : ℕ) → has_place k s ≡ true → k < n

not_below : (s : List ℕ) (k n : ℕ) → AreBelow s n → n ≤ k → (b : Bool) → has_place k s ≡ b → b ≡ false
not_below s k n below le true is = absurd (omega (arith, below k is, le))
not_below s k n below le false is = refl

pub waits_more : (s : List ℕ) (k : ℕ) (rs : List RequestShape) (q : RequestShape) → AreBelow s (k + length rs) → waiting s k (rs ++ q ∷ []) ≡ waiting s k rs ++ q ∷ []
waits_more s k [] q below = ap (λ b. elim b [ true ↦ [] | false ↦ q ∷ [] ]) (not_below s k (k + 0) below (omega arith) (has_place k s) refl)
waits_more s k (r ∷ rs) q below =
    let more = waits_more s (suc k) rs q (λ j h. omega (arith, below j h)) in
    elim (has_place k s) as (λ b. elim b [ true ↦ waiting s (suc k) (rs ++ q ∷ []) | false ↦ r ∷ waiting s (suc k) (rs ++ q ∷ []) ] ≡ elim b [ true ↦ waiting s (suc k) rs | false ↦ r ∷ waiting s (suc k) rs ] ++ q ∷ []) [
      | true ↦ more
      | false ↦ ap (λ l. r ∷ l) more
    ]

pub boxes_more : (K : Text → ℕ) (rs : List RequestShape) (s : List ℕ) (qs : List RequestShape) (t : List ℕ) (q : RequestShape) → AreBelow s (length rs) → AreBelow t (length qs) → AreSameBoxes K rs s qs t → AreSameBoxes K (rs ++ q ∷ []) s (qs ++ q ∷ []) t
boxes_more K rs s qs t q below other b = record {
  received = λ κ. class_more K κ rs q ∙ ap (λ l. l ++ in_class K κ (q ∷ [])) (b.received κ) ∙ sym (class_more K κ qs q);
  waits = λ κ.
      ap (in_class K κ) (waits_more s 0 rs q (λ k h. omega (arith, below k h))) ∙ class_more K κ (waiting s 0 rs) q
      ∙ ap (λ l. l ++ in_class K κ (q ∷ [])) (b.waits κ)
      ∙ sym (ap (in_class K κ) (waits_more t 0 qs q (λ k h. omega (arith, other k h))) ∙ class_more K κ (waiting t 0 qs) q);
}

-- One is served

abbrev without_first : List Text → List RequestShape → List RequestShape
without_first ls [] = []
without_first ls (r ∷ rs) = elim (has_text r.label ls) [ true ↦ rs | false ↦ r ∷ without_first ls rs ]

other_place : (i k : ℕ) (s : List ℕ) → (k ≡ i → ⊥) → has_place k (i ∷ s) ≡ has_place k s
other_place i k s apart = by_test (k == i) refl
  where
    by_test : (b : Bool) → (k == i) ≡ b → elim b [ true ↦ true | false ↦ has_place k s ] ≡ has_place k s
    by_test true e = absurd (apart (eqb-true k i e))
    by_test false e = refl

own_place : (k : ℕ) (s : List ℕ) → has_place k (k ∷ s) ≡ true
own_place k s = ap (λ b. elim b [ true ↦ true | false ↦ has_place k s ]) (eq-eqb k k refl)

waits_behind : (s : List ℕ) (i k : ℕ) (rs : List RequestShape) → i < k → waiting (i ∷ s) k rs ≡ waiting s k rs
waits_behind s i k [] lt = refl
waits_behind s i k (r ∷ rs) lt =
    ap (λ b. elim b [ true ↦ waiting (i ∷ s) (suc k) rs | false ↦ r ∷ waiting (i ∷ s) (suc k) rs ]) (other_place i k s (λ p. omega (arith, lt, p)))
    ∙ ap (λ l. elim (has_place k s) [ true ↦ l | false ↦ r ∷ l ]) (waits_behind s i (suc k) rs (omega (arith, lt)))

first_is : (x y : Numbered) → Some x ≡ Some y → x.0 ≡ y.0
first_is x y h = ap (λ z. z.0) (some_is h)

match_from : (ls : List Text) (s : List ℕ) (k : ℕ) (rs : List RequestShape) (x : Numbered) → oldest_match ls s k rs ≡ Some x → k ≤ x.0
match_from ls s k [] x h = no_some h
match_from ls s k (q ∷ rs) x h = elim (not (has_place k s) && has_text q.label ls) as (λ b. elim b [ true ↦ Some (k, q) | false ↦ oldest_match ls s (suc k) rs ] ≡ Some x → k ≤ x.0) [
  | true ↦ λ h. let p : k ≡ x.0 = first_is (k, q) x h in omega (arith, p)
  | false ↦ λ h. let le : suc k ≤ x.0 = match_from ls s (suc k) rs x h in omega (arith, le)
] h

served_first : (ls : List Text) (s : List ℕ) (k : ℕ) (rs : List RequestShape) (x : Numbered) → oldest_match ls s k rs ≡ Some x → waiting (x.0 ∷ s) k rs ≡ without_first ls (waiting s k rs)
served_first ls s k [] x h = no_some h
served_first ls s k (q ∷ rs) x h = elim (has_place k s) as (λ b. has_place k s ≡ b → elim (not b && has_text q.label ls) [ true ↦ Some (k, q) | false ↦ oldest_match ls s (suc k) rs ] ≡ Some x → waiting (x.0 ∷ s) k (q ∷ rs) ≡ without_first ls (elim b [ true ↦ waiting s (suc k) rs | false ↦ q ∷ waiting s (suc k) rs ])) [
  | true ↦ λ e h.
      let le : suc k ≤ x.0 = match_from ls s (suc k) rs x h in
      ap (λ b. elim b [ true ↦ waiting (x.0 ∷ s) (suc k) rs | false ↦ q ∷ waiting (x.0 ∷ s) (suc k) rs ]) (other_place x.0 k s (λ p. omega (arith, le, p)) ∙ e) ∙ served_first ls s (suc k) rs x h
  | false ↦ λ e h. elim (has_text q.label ls) as (λ c. elim c [ true ↦ Some (k, q) | false ↦ oldest_match ls s (suc k) rs ] ≡ Some x → waiting (x.0 ∷ s) k (q ∷ rs) ≡ elim c [ true ↦ waiting s (suc k) rs | false ↦ q ∷ without_first ls (waiting s (suc k) rs) ]) [
    | true ↦ λ h.
        let p : k ≡ x.0 = first_is (k, q) x h in
        subst (λ j. waiting (j ∷ s) k (q ∷ rs) ≡ waiting s (suc k) rs) p
        (ap (λ b. elim b [ true ↦ waiting (k ∷ s) (suc k) rs | false ↦ q ∷ waiting (k ∷ s) (suc k) rs ]) (own_place k s) ∙ waits_behind s k (suc k) rs (omega arith))
    | false ↦ λ h.
        let le : suc k ≤ x.0 = match_from ls s (suc k) rs x h in
        ap (λ b. elim b [ true ↦ waiting (x.0 ∷ s) (suc k) rs | false ↦ q ∷ waiting (x.0 ∷ s) (suc k) rs ]) (other_place x.0 k s (λ p. omega (arith, le, p)) ∙ e) ∙ ap (λ l. q ∷ l) (served_first ls s (suc k) rs x h)
  ] h
] refl h

class_same : (K : Text → ℕ) (κ : ℕ) (ls : List Text) (rs : List RequestShape) → OneClass K κ ls → in_class K κ (without_first ls rs) ≡ without_first ls (in_class K κ rs)
class_same K κ ls [] one = refl
class_same K κ ls (r ∷ rs) one = elim (K r.label == κ) as (λ b. (K r.label == κ) ≡ b → in_class K κ (without_first ls (r ∷ rs)) ≡ without_first ls (elim b [ true ↦ r ∷ in_class K κ rs | false ↦ in_class K κ rs ])) [
  | true ↦ λ e. elim (has_text r.label ls) as (λ c. in_class K κ (elim c [ true ↦ rs | false ↦ r ∷ without_first ls rs ]) ≡ elim c [ true ↦ in_class K κ rs | false ↦ r ∷ without_first ls (in_class K κ rs) ]) [
    | true ↦ refl
    | false ↦ ap (λ b. elim b [ true ↦ r ∷ in_class K κ (without_first ls rs) | false ↦ in_class K κ (without_first ls rs) ]) e ∙ ap (λ l. r ∷ l) (class_same K κ ls rs one)
  ]
  | false ↦ λ e.
      ap (λ c. in_class K κ (elim c [ true ↦ rs | false ↦ r ∷ without_first ls rs ])) (outside K κ ls r one e)
      ∙ ap (λ b. elim b [ true ↦ r ∷ in_class K κ (without_first ls rs) | false ↦ in_class K κ (without_first ls rs) ]) e
      ∙ class_same K κ ls rs one
] refl

class_other : (K : Text → ℕ) (κ μ : ℕ) (ls : List Text) (rs : List RequestShape) → OneClass K κ ls → (κ ≡ μ → ⊥) → in_class K μ (without_first ls rs) ≡ in_class K μ rs
class_other K κ μ ls [] one apart = refl
class_other K κ μ ls (r ∷ rs) one apart = elim (has_text r.label ls) as (λ c. has_text r.label ls ≡ c → in_class K μ (elim c [ true ↦ rs | false ↦ r ∷ without_first ls rs ]) ≡ in_class K μ (r ∷ rs)) [
  | true ↦ λ e. by_test (K r.label == μ) refl (λ p. apart (sym (one r.label e) ∙ p))
  | false ↦ λ e. ap (λ l. elim (K r.label == μ) [ true ↦ r ∷ l | false ↦ l ]) (class_other K κ μ ls rs one apart)
] refl
  where
    by_test : (b : Bool) → (K r.label == μ) ≡ b → (K r.label ≡ μ → ⊥) → in_class K μ rs ≡ elim b [ true ↦ r ∷ in_class K μ rs | false ↦ in_class K μ rs ]
    by_test true e out = absurd (out (eqb-true (K r.label) μ e))
    by_test false e out = refl

pub boxes_served : (K : Text → ℕ) (κ : ℕ) (ls : List Text) (rs : List RequestShape) (s : List ℕ) (qs : List RequestShape) (t : List ℕ) (x y : Numbered) → OneClass K κ ls → oldest_match ls s 0 rs ≡ Some x → oldest_match ls t 0 qs ≡ Some y → AreSameBoxes K rs s qs t → AreSameBoxes K rs (x.0 ∷ s) qs (y.0 ∷ t)
boxes_served K κ ls rs s qs t x y one m w b = record { received = b.received; waits = waits }
  where
    by_test : (μ : ℕ) (c : Bool) → (κ == μ) ≡ c → in_class K μ (without_first ls (waiting s 0 rs)) ≡ in_class K μ (without_first ls (waiting t 0 qs))
    by_test μ true e = subst (λ v. in_class K v (without_first ls (waiting s 0 rs)) ≡ in_class K v (without_first ls (waiting t 0 qs))) (eqb-true κ μ e) (class_same K κ ls (waiting s 0 rs) one ∙ ap (without_first ls) (b.waits κ) ∙ sym (class_same K κ ls (waiting t 0 qs) one))
    by_test μ false e =
        let apart : κ ≡ μ → ⊥ = λ p. true_false (κ == μ) (eq-eqb κ μ p) e in
        class_other K κ μ ls (waiting s 0 rs) one apart ∙ b.waits μ ∙ sym (class_other K κ μ ls (waiting t 0 qs) one apart)

    waits : (μ : ℕ) → in_class K μ (waiting (x.0 ∷ s) 0 rs) ≡ in_class K μ (waiting (y.0 ∷ t) 0 qs)
    waits μ = ap (in_class K μ) (served_first ls s 0 rs x m) ∙ by_test μ (κ == μ) refl ∙ sym (ap (in_class K μ) (served_first ls t 0 qs y w))

-- One that nobody asks for changes nothing of what is served

abbrev only_if : Bool → RequestShape → List RequestShape
only_if b q = elim b [ true ↦ q ∷ [] | false ↦ [] ]

other_class : (K : Text → ℕ) (κ : ℕ) (q : RequestShape) → (K q.label ≡ κ → ⊥) → in_class K κ (q ∷ []) ≡ []
other_class K κ q apart = by_test (K q.label == κ) refl
  where
    by_test : (b : Bool) → (K q.label == κ) ≡ b → only_if b q ≡ []
    by_test true e = absurd (apart (eqb-true (K q.label) κ e))
    by_test false e = refl

pub first_kept : (K : Text → ℕ) (κ : ℕ) (ls : List Text) (rs : List RequestShape) (s : List ℕ) (q : RequestShape) → OneClass K κ ls → AreBelow s (length rs) → (K q.label ≡ κ → ⊥) → request_in (oldest_match ls s 0 rs) ≡ request_in (oldest_match ls s 0 (rs ++ q ∷ []))
first_kept K κ ls rs s q one below apart =
    let more = waits_more s 0 rs q (λ k h. omega (arith, below k h)) in
    let same : in_class K κ (waiting s 0 rs ++ q ∷ []) ≡ in_class K κ (waiting s 0 rs) = class_more K κ (waiting s 0 rs) q ∙ ap (λ l. in_class K κ (waiting s 0 rs) ++ l) (other_class K κ q apart) ∙ append-nil (in_class K κ (waiting s 0 rs)) in
    match_first ls s 0 rs ∙ first_in K κ ls (waiting s 0 rs) one
    ∙ sym (match_first ls s 0 (rs ++ q ∷ []) ∙ ap (first_with ls) more ∙ first_in K κ ls (waiting s 0 rs ++ q ∷ []) one ∙ ap (first_with ls) same)
