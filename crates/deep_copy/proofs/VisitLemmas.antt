-- A visit as a relation, which a loop over a stack follows.
use Rattle.std.proofs.Common.{◌≡◌, ℕ, zero, suc, ◌+◌, ◌<◌, ◌≤◌, nat_eq, Bool, true, false, not, ◌||◌, List, [], ◌∷◌, ◌++◌, length, drop, reverse, refl, sym, ap, subst, ◌∙◌, T, arith, ⊎_elim, length-append}
use Rattle.std.specs.List.{list_any, refill}
use Rattle.std.proofs.lemmas.Bool.{eq-eqb, cases_lt}
use Rattle.std.proofs.lemmas.List.{reverse-append, reverse-reverse, length-reverse, take_at}
use Rattle.asp_model.specs.Store.{Store, cell, reached}
use Rattle.asp_model.specs.Parcel.{has_place, walk, visit, visit_order}
use Rattle.law_steps.specs.Closed.{AreBelow, IsClosedStore}
use Rattle.law_steps.proofs.EachLemmas.{each_both}
use Rattle.law_steps.proofs.MovedLemmas.{cell_below}

-- from what is to be visited and what was seen to the order
pub data Visits (s : Store) : List ℕ → List ℕ → List ℕ → Type 0 where
  over : {seen : List ℕ} → Visits s [] seen seen
  again : {p : ℕ} {ps seen out : List ℕ} → has_place p seen ≡ true → Visits s ps seen out → Visits s (p ∷ ps) seen out
  fresh : {p : ℕ} {ps seen out : List ℕ} → has_place p seen ≡ false → Visits s (reached (cell s p) ++ ps) (seen ++ p ∷ []) out → Visits s (p ∷ ps) seen out

pub ends : {s : Store} {seen out : List ℕ} → Visits s [] seen out → seen ≡ out
ends over = refl

clash : {b : Bool} {C : Type 0} → b ≡ true → b ≡ false → C
clash e d = absurd (subst T (sym e ∙ d) tt)

goes_again : {s : Store} {p : ℕ} {ps seen out : List ℕ} → has_place p seen ≡ true → Visits s (p ∷ ps) seen out → Visits s ps seen out
goes_again e (again d v) = v
goes_again e (fresh d v) = clash e d

goes_on : {s : Store} {p : ℕ} {ps seen out : List ℕ} → has_place p seen ≡ false → Visits s (p ∷ ps) seen out → Visits s (reached (cell s p) ++ ps) (seen ++ p ∷ []) out
goes_on e (again d v) = clash d e
goes_on e (fresh d v) = v

-- What was seen

abbrev or_else : Bool → Bool → Bool
or_else b c = elim b [ true ↦ true | false ↦ c ]

has_or : (q : ℕ) (xs : List ℕ) (p : ℕ) → has_place q (xs ++ p ∷ []) ≡ or_else (has_place q xs) (nat_eq q p)
has_or q [] p = elim (nat_eq q p) as (λ b. or_else b false ≡ b) [ true ↦ refl | false ↦ refl ]
has_or q (x ∷ xs) p = elim (nat_eq q x) as (λ b. or_else b (has_place q (xs ++ p ∷ [])) ≡ or_else (or_else b (has_place q xs)) (nat_eq q p)) [ true ↦ refl | false ↦ has_or q xs p ]

-- as a set tells it
pub has_any : (q : ℕ) (xs : List ℕ) → list_any (nat_eq q) xs ≡ has_place q xs
has_any q [] = refl
has_any q (x ∷ xs) = elim (nat_eq q x) as (λ b. (b || list_any (nat_eq q) xs) ≡ or_else b (has_place q xs)) [ true ↦ refl | false ↦ has_any q xs ]

-- What is left to do

abbrev weigh : Bool → ℕ → ℕ
weigh true n = 0
weigh false n = suc n

-- each place below k that was not seen weighs one and what it reaches
abbrev pub left : Store → ℕ → List ℕ → ℕ
left s zero seen = 0
left s (suc k) seen = weigh (has_place k seen) (length (reached (cell s k))) + left s k seen

abbrev unseen : ℕ → List ℕ → ℕ
unseen zero seen = 0
unseen (suc k) seen = weigh (has_place k seen) 0 + unseen k seen

lighter : (a b : Bool) (n : ℕ) → weigh (or_else a b) n ≤ weigh a n
lighter true b n = omega arith
lighter false true n = omega arith
lighter false false n = omega arith

unseen_less : (k p : ℕ) (seen : List ℕ) → unseen k (seen ++ p ∷ []) ≤ unseen k seen
unseen_less zero p seen = omega arith
unseen_less (suc k) p seen = let e = ap (λ b. weigh b 0) (has_or k seen p) in omega (arith, e, lighter (has_place k seen) (nat_eq k p) 0, unseen_less k p seen)

-- a place that was just seen weighs nothing
seen_weighs : (k p n : ℕ) (seen : List ℕ) → p ≡ k → has_place p seen ≡ false → weigh (has_place k (seen ++ p ∷ [])) n ≡ 0
seen_weighs k p n seen same e = ap (λ b. weigh b n) (has_or k seen p ∙ ap (λ b. or_else b (nat_eq k p)) (subst (λ q. has_place q seen ≡ false) same e) ∙ eq-eqb k p (sym same))

unseen_drops : (k p : ℕ) (seen : List ℕ) → p < k → has_place p seen ≡ false → suc (unseen k (seen ++ p ∷ [])) ≤ unseen k seen
unseen_drops zero p seen lt e = absurd (omega arith)
unseen_drops (suc k) p seen lt e = ⊎_elim
    (λ l. let d = ap (λ b. weigh b 0) (has_or k seen p) in omega (arith, d, lighter (has_place k seen) (nat_eq k p) 0, unseen_drops k p seen l e))
    (λ l. let same : p ≡ k = omega arith in
    let b : weigh (has_place k seen) 0 ≡ 1 = ap (λ b. weigh b 0) (subst (λ q. has_place q seen ≡ false) same e) in
    omega (arith, seen_weighs k p 0 seen same e, b, unseen_less k p seen))
    (cases_lt p k)

all_seen : (k p : ℕ) (seen : List ℕ) → p < k → unseen k seen ≤ 0 → has_place p seen ≡ true
all_seen k p seen lt le = elim (has_place p seen) as (λ b. has_place p seen ≡ b → b ≡ true) [ true ↦ λ e. refl | false ↦ λ e. absurd (omega (arith, unseen_drops k p seen lt e)) ] refl

unseen_most : (k : ℕ) (seen : List ℕ) → unseen k seen ≤ k
unseen_most zero seen = omega arith
unseen_most (suc k) seen = let e = elim (has_place k seen) as (λ b. weigh b 0 ≤ 1) [ true ↦ omega arith | false ↦ omega arith ] in omega (arith, e, unseen_most k seen)

left_less : (s : Store) (k p : ℕ) (seen : List ℕ) → left s k (seen ++ p ∷ []) ≤ left s k seen
left_less s zero p seen = omega arith
left_less s (suc k) p seen = let e = ap (λ b. weigh b (length (reached (cell s k)))) (has_or k seen p) in omega (arith, e, lighter (has_place k seen) (nat_eq k p) (length (reached (cell s k))), left_less s k p seen)

left_drops : (s : Store) (k p : ℕ) (seen : List ℕ) → p < k → has_place p seen ≡ false → left s k (seen ++ p ∷ []) + suc (length (reached (cell s p))) ≤ left s k seen
left_drops s zero p seen lt e = absurd (omega arith)
left_drops s (suc k) p seen lt e = ⊎_elim
    (λ l. let d = ap (λ b. weigh b (length (reached (cell s k)))) (has_or k seen p) in omega (arith, d, lighter (has_place k seen) (nat_eq k p) (length (reached (cell s k))), left_drops s k p seen l e))
    (λ l. let same : p ≡ k = omega arith in
    let b : weigh (has_place k seen) (length (reached (cell s k))) ≡ suc (length (reached (cell s p))) = ap (λ b. weigh b (length (reached (cell s k)))) (subst (λ q. has_place q seen ≡ false) same e) ∙ ap (λ q. suc (length (reached (cell s q)))) (sym same) in
    omega (arith, seen_weighs k p (length (reached (cell s k))) seen same e, b, left_less s k p seen))
    (cases_lt p k)

-- The definition's visit

module _ (s : Store) (closed : IsClosedStore s) where
  none_new : (ps seen : List ℕ) → AreBelow (length s) ps → unseen (length s) seen ≤ 0 → Visits s ps seen seen
  none_new [] seen h le = over
  none_new (p ∷ ps) seen h le = again (all_seen (length s) p seen h.0 le) (none_new ps seen h.1 le)

  walks : (next : List ℕ → List ℕ → List ℕ) (seen : List ℕ) → ((q : ℕ) (ps : List ℕ) → AreBelow (length s) ps → q < length s → has_place q seen ≡ false → Visits s ps (seen ++ q ∷ []) (next ps (seen ++ q ∷ []))) → (qs : List ℕ) → AreBelow (length s) qs → Visits s qs seen (walk next s qs seen)
  walks next seen to [] h = over
  walks next seen to (q ∷ qs) h = elim (has_place q seen) as (λ b. has_place q seen ≡ b → Visits s (q ∷ qs) seen (elim b [ true ↦ walk next s qs seen | false ↦ next (reached (cell s q) ++ qs) (seen ++ q ∷ []) ])) [
    | true ↦ λ e. again e (walks next seen to qs h.1)
    | false ↦ λ e. fresh e (to q (reached (cell s q) ++ qs) (each_both (λ i. i < length s) (reached (cell s q)) qs (cell_below (length s) s closed q) h.1) h.0 e)
  ] refl

  visits : (n : ℕ) (ps seen : List ℕ) → AreBelow (length s) ps → unseen (length s) seen ≤ n → Visits s ps seen (visit n s ps seen)
  visits zero ps seen h le = none_new ps seen h le
  visits (suc n) ps seen h le = walks (visit n s) seen (λ q qs g lt e. visits n qs (seen ++ q ∷ []) g (omega (arith, unseen_drops (length s) q seen lt e))) ps h

  pub order_visits : (roots : List ℕ) → AreBelow (length s) roots → Visits s roots [] (visit_order s roots)
  order_visits roots h = visits (length s) roots [] h (unseen_most (length s) [])

-- The loop

-- a stack, what was seen, and the order that they lead to
pub record Going (s : Store) (stack seen out : List ℕ) : Type 0 where
  pub visits : Visits s (reverse stack) seen out
  pub below : AreBelow (length s) (reverse stack)
  pub seen_below : AreBelow (length s) seen

pub begins : (s : Store) (roots stack seen : List ℕ) → stack ≡ reverse roots → seen ≡ [] → IsClosedStore s → AreBelow (length s) roots → Going s stack seen (visit_order s roots)
begins s roots stack seen e d closed h =
    let r : reverse stack ≡ roots = ap reverse e ∙ reverse-reverse roots in
    record {
      visits = subst (λ x. Visits s x seen (visit_order s roots)) (sym r) (subst (λ x. Visits s roots x (visit_order s roots)) (sym d) (order_visits s closed roots h));
      below = subst (AreBelow (length s)) (sym r) h;
      seen_below = subst (AreBelow (length s)) (sym d) tt;
    }

-- a list that is written over as a whole
pub written_over : (xs ws : List ℕ) → length ws ≡ length xs → refill (length xs) xs ws ≡ ws
written_over xs ws e = take_at ws (drop (length ws) xs) (length xs) e

popped : (old new : List ℕ) (p : ℕ) → old ≡ new ++ p ∷ [] → reverse old ≡ p ∷ reverse new
popped old new p e = ap reverse e ∙ reverse-append new (p ∷ [])

pushed : (mid new ps : List ℕ) → mid ≡ new ++ reverse ps → reverse mid ≡ ps ++ reverse new
pushed mid new ps e = ap reverse e ∙ reverse-append new (reverse ps) ∙ ap (λ x. x ++ reverse new) (reverse-reverse ps)

module _ (s : Store) (old new seen out : List ℕ) (p : ℕ) (e : old ≡ new ++ p ∷ []) (g : Going s old seen out) where
  top : Visits s (p ∷ reverse new) seen out
  top = subst (λ x. Visits s x seen out) (popped old new p e) g.visits

  rest : AreBelow (length s) (p ∷ reverse new)
  rest = subst (AreBelow (length s)) (popped old new p e) g.below

  pub top_below : p < length s
  top_below = rest.0

  -- the place was seen before
  pub keeps_old : has_place p seen ≡ true → Going s new seen out
  keeps_old h = record { visits = goes_again h top; below = rest.1; seen_below = g.seen_below }

  -- the place is new, and what it reaches comes next
  pub keeps_new : (mid : List ℕ) → IsClosedStore s → mid ≡ new ++ reverse (reached (cell s p)) → has_place p seen ≡ false → Going s mid (seen ++ p ∷ []) out
  keeps_new mid closed m h = record {
    visits = subst (λ x. Visits s x (seen ++ p ∷ []) out) (sym (pushed mid new (reached (cell s p)) m)) (goes_on h top);
    below = subst (AreBelow (length s)) (sym (pushed mid new (reached (cell s p)) m)) (each_both (λ i. i < length s) (reached (cell s p)) (reverse new) (cell_below (length s) s closed p) rest.1);
    seen_below = each_both (λ i. i < length s) seen (p ∷ []) g.seen_below (rest.0, tt);
  }

  pub falls : (mid : List ℕ) → mid ≡ new ++ reverse (reached (cell s p)) → has_place p seen ≡ false → length mid + left s (length s) (seen ++ p ∷ []) < length old + left s (length s) seen
  falls mid m h =
      let a : length old ≡ length new + 1 = ap length e ∙ length-append new (p ∷ []) in
      let b : length mid ≡ length new + length (reached (cell s p)) = ap length m ∙ length-append new (reverse (reached (cell s p))) ∙ ap (λ n. length new + n) (length-reverse (reached (cell s p))) in
      omega (arith, a, b, left_drops s (length s) p seen rest.0 h)

pub new_false : (b r : Bool) → r ≡ not b → r ≡ true → b ≡ false
new_false true r e d = absurd (subst T (sym d ∙ e) tt)
new_false false r e d = refl

pub old_true : (b r : Bool) → r ≡ not b → r ≡ false → b ≡ true
old_true true r e d = refl
old_true false r e d = absurd (subst T (sym e ∙ d) tt)
