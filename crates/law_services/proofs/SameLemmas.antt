-- An activity that stands alike in two configurations, and what steps leave of that.
use Rattle.std.specs.Prelude.{◌≡◌, ◌≢◌, ℕ, zero, suc, ◌+◌, ◌-◌, ◌<◌, ◌≤◌, ◌==◌, true, false, T, List, [], ◌∷◌, ◌++◌, Option, Some, None, length}
use Rattle.std.proofs.Common.{refl, sym, ap, subst, ◌∙◌, arith, inl, inr, ⊎_elim, ◌⊎◌}
use Rattle.std.proofs.lemmas.List.{append-nil}
use Rattle.std.proofs.lemmas.List.Elements.{filter-append}
use Rattle.std.proofs.lemmas.Bool.{eq-eqb}
use Rattle.std.specs.FinMap.{find, is_sorted}
use Rattle.asp_model.specs.Names.{Name, FutureShape, future_cmp, same_name}
use Rattle.asp_model.specs.Parcel.{ParcelShape, has_place}
use Rattle.asp_model.specs.Chase.{Values, Chase, Value, Cycle, walk_end, cycle_of, chase}
use Rattle.asp_model.specs.Configuration.{RequestShape, Activity, Configuration, requests_of}
use Rattle.asp_model.specs.Step.{step}
use Rattle.law_steps.specs.Reached.{Steps, IsAt, HasValue}
use Rattle.law_steps.specs.Linked.{IsLinked}
use Rattle.law_steps.proofs.NameLemmas.{name_case, names_apart}
use Rattle.law_chases.proofs.FutureLemmas.{future_total, future_same}
use Rattle.law_chases.proofs.MapLemmas as Maps
use Rattle.law_chases.proofs.ChaseLemmas.{MoreFilled, end_kept}
use Rattle.law_chases.proofs.EndLemmas.{chases_end}
use Rattle.law_chases.proofs.FilledLemmas.{no_cycle_value}
use Rattle.law_steps.proofs.PersistLemmas.{KeepsValues}
use Rattle.law_steps.proofs.FactLemmas.{face}
use Rattle.law_steps.proofs.SoundLemmas.{Sound}
use Rattle.law_steps.proofs.FrameLemmas.{others_on, requests_grow, fills_on}
use Rattle.law_steps.proofs.LinkedLemmas.{move_linked}
use Rattle.law_steps.proofs.ReachedLemmas.{Right, step_right}
use Rattle.law_services.specs.Correct.{bare}
use Rattle.law_services.proofs.PickLemmas.{Begins, take_if, begins_itself, begins_then, sent_by, from, future_in, future_at, futures_at, slice_front}

-- in the same state, what was served had the same futures, and the same was sent to each
pub record Same (c x : Configuration) (n : Name) : Type 0 where
  pub here : Activity
  pub there : Activity
  pub at : IsAt c n here
  pub at_too : IsAt x n there
  pub alike : bare here ≡ bare there
  pub served : futures_at (requests_of c n) here.served ≡ futures_at (requests_of x n) there.served
  pub sent : (m : Name) → from n (requests_of c m) ≡ from n (requests_of x m)

pub same_back : (c x : Configuration) (n : Name) → Same c x n → Same x c n
same_back c x n s = record { here = s.there; there = s.here; at = s.at_too; at_too = s.at; alike = sym s.alike; served = sym s.served; sent = λ m. sym (s.sent m) }

-- Numbers below the length

pub futures_stay : (rs qs : List RequestShape) (ks : List ℕ) → ((k : ℕ) → has_place k ks ≡ true → k < length rs) → futures_at (rs ++ qs) ks ≡ futures_at rs ks
futures_stay rs qs [] h = refl
futures_stay rs qs (k ∷ ks) h =
    let first : future_at (rs ++ qs) k ≡ future_at rs k = ap future_in (slice_front rs qs k (h k (has_first k ks))) in
    let rest = futures_stay rs qs ks (λ j p. h j (has_later j k ks p)) in
    (λ i. first i ∷ rest i)
  where
    has_first : (k : ℕ) (ks : List ℕ) → has_place k (k ∷ ks) ≡ true
    has_first k ks = ap (λ b. elim b [ true ↦ true | false ↦ has_place k ks ]) (eq-eqb k k refl)

    has_later : (j k : ℕ) (ks : List ℕ) → has_place j ks ≡ true → has_place j (k ∷ ks) ≡ true
    has_later j k ks p = elim (j == k) as (λ b. elim b [ true ↦ true | false ↦ has_place j ks ] ≡ true) [ true ↦ refl | false ↦ p ]

-- what an activity has served is there
pub served_below : (c : Configuration) (n : Name) (a : Activity) → Sound c → IsAt c n a → (k : ℕ) → has_place k a.served ≡ true → k < length (requests_of c n)
served_below c n a s at k h = s.served n k (ap (λ o. has_place k (face o).served) at ∙ h)

-- Steps of others

-- one more request from another is none from this one
from_other : (n l : Name) (rs : List RequestShape) (r : RequestShape) → n ≢ l → r.sender ≡ l → from n (rs ++ r ∷ []) ≡ from n rs
from_other n l rs r apart by =
    filter-append (sent_by n) rs (r ∷ [])
    ∙ ap (λ b. from n rs ++ take_if b r []) (ap (same_name n) by ∙ names_apart n l apart)
    ∙ append-nil (from n rs)

-- a step of another leaves it alike
pub same_beside : (c x y : Configuration) (l n : Name) → Right x → step None x l ≡ Some y → n ≢ l → Same c x n → Same c y n
same_beside c x y l n r h apart s = record {
  here = s.here;
  there = s.there;
  at = s.at;
  at_too = others_on None x y l n s.there r.sound h apart s.at_too;
  alike = s.alike;
  served = s.served ∙ sym (⊎_elim
      (λ p. ap (λ rs. futures_at rs s.there.served) p)
      (λ q. ap (λ rs. futures_at rs s.there.served) q.1 ∙ futures_stay (requests_of x n) (q.0 ∷ []) s.there.served (served_below x n s.there r.sound s.at_too))
      (requests_grow None x y l n h));
  sent = λ m. s.sent m ∙ sym (⊎_elim
      (λ p. ap (from n) p)
      (λ q. ap (from n) q.1 ∙ from_other n l (requests_of x m) q.0 apart q.2)
      (requests_grow None x y l m h));
}

-- Growth

pub record Grows (c d : Configuration) : Type 0 where
  pub requests : (q : Name) → Begins (requests_of c q) (requests_of d q)
  pub values : (f : FutureShape) (p : ParcelShape) → HasValue c f p → HasValue d f p

pub grows_itself : (c : Configuration) → Grows c c
grows_itself c = record { requests = λ q. begins_itself (requests_of c q); values = λ f p h. h }

pub grows_then : (c d e : Configuration) → Grows c d → Grows d e → Grows c e
grows_then c d e x y = record { requests = λ q. begins_then _ _ _ (x.requests q) (y.requests q); values = λ f p h. y.values f p (x.values f p h) }

pub grows_step : (c d : Configuration) (n : Name) → Right c → step None c n ≡ Some d → Grows c d
grows_step c d n r h = record {
  requests = λ q. ⊎_elim (λ p. ([], append-nil _ ∙ sym p)) (λ x. (x.0 ∷ [], sym x.1)) (requests_grow None c d n q h);
  values = λ f p is. ⊎_elim
      (λ same. ap (find future_cmp f) same ∙ is)
      (λ x. ap (find future_cmp f) x.3 ∙ Maps.put_extends future_cmp future_total future_same x.0 x.1 c.futures x.2 f p is)
      (fills_on None c d n r.sound h);
}

value_end : (vs : Values) (f y : FutureShape) (p : ParcelShape) (o : Option Chase) → walk_end (suc (length vs)) vs f ≡ o → elim o [ Some c ↦ c | None ↦ Cycle (cycle_of vs f) ] ≡ Value y p → walk_end (suc (length vs)) vs f ≡ Some (Value y p)
value_end vs f y p (Some c) is h = is ∙ ap Some h
value_end vs f y p None is h = no_cycle_value h

-- values stay values, however many futures are filled
pub values_keep : (vs ws : Values) → MoreFilled vs ws → T (is_sorted future_cmp ws) → KeepsValues (chase vs) (chase ws)
values_keep vs ws more sorted f y p h =
    chases_end ws (suc (length vs)) f (Value y p) sorted (end_kept vs ws more (suc (length vs)) (suc (length vs)) (omega arith) f (Value y p) tt (value_end vs f y p (walk_end (suc (length vs)) vs f) refl h))

-- Runs by the number of steps

pub record Run (R : ℕ → Configuration) : Type 0 where
  pub right : Right (R 0)
  pub linked : IsLinked (R 0)
  pub goes : (k : ℕ) → (R (suc k) ≡ R k) ⊎ ((n : Name) × (step None (R k) n ≡ Some (R (suc k))))

module _ (R : ℕ → Configuration) (run : Run R) where
  pub right_at : (k : ℕ) → Right (R k)
  right_at zero = run.right
  right_at (suc k) = ⊎_elim (λ p. subst Right (sym p) (right_at k)) (λ x. step_right None x.0 (R k) (R (suc k)) x.1 (right_at k)) (run.goes k)

  pub linked_at : (k : ℕ) → IsLinked (R k)
  linked_at zero = run.linked
  linked_at (suc k) = ⊎_elim (λ p. subst IsLinked (sym p) (linked_at k)) (λ x. move_linked (Steps None x.0) (R k) (R (suc k)) x.1 (right_at k) (linked_at k)) (run.goes k)

  pub grows_on : (m j : ℕ) → Grows (R j) (R (m + j))
  grows_on zero j = subst (λ k. Grows (R j) (R k)) (omega arith) (grows_itself (R j))
  grows_on (suc m) j =
      let e : suc (m + j) ≡ suc m + j = omega arith in
      subst (λ k. Grows (R j) (R k)) e (grows_then (R j) (R (m + j)) (R (suc (m + j))) (grows_on m j)
      (⊎_elim (λ p. subst (Grows (R (m + j))) (sym p) (grows_itself (R (m + j)))) (λ x. grows_step (R (m + j)) (R (suc (m + j))) x.0 (right_at (m + j)) x.1) (run.goes (m + j))))

  pub grows_to : (j k : ℕ) → j ≤ k → Grows (R j) (R k)
  grows_to j k le = let e : (k - j) + j ≡ k = omega (arith, le) in subst (λ i. Grows (R j) (R i)) e (grows_on (k - j) j)

  -- the next step of an activity that stands alike, if it takes one
  abbrev pub NextOf : Configuration → Name → (j k : ℕ) → Type 0
  NextOf c n j k = Same c (R k) n ⊎ ((i : ℕ) × (j ≤ i) × (suc i ≤ k) × Same c (R i) n × (step None (R i) n ≡ Some (R (suc i))))

  next_on : (c : Configuration) (n : Name) (m j : ℕ) → Same c (R j) n → NextOf c n j (m + j)
  next_on c n zero j s = inl (subst (λ k. Same c (R k) n) (omega arith) s)
  next_on c n (suc m) j s =
      let e : suc (m + j) ≡ suc m + j = omega arith in
      subst (NextOf c n j) e (⊎_elim
      (λ t. ⊎_elim
      (λ p. inl (subst (λ z. Same c z n) (sym p) t))
      (λ x. ⊎_elim
      (λ same. inr (m + j, omega arith, omega arith, t, subst (λ z. step None (R (m + j)) z ≡ Some (R (suc (m + j)))) (sym same) x.1))
      (λ apart. inl (same_beside c (R (m + j)) (R (suc (m + j))) x.0 n (right_at (m + j)) x.1 apart t))
      (name_case n x.0))
      (run.goes (m + j)))
      (λ x. inr (x.0, x.1, omega (arith, x.2), x.3, x.4))
      (next_on c n m j s))

  pub next_to : (c : Configuration) (n : Name) (j k : ℕ) → j ≤ k → Same c (R j) n → NextOf c n j k
  next_to c n j k le s = let e : (k - j) + j ≡ k = omega (arith, le) in subst (NextOf c n j) e (next_on c n (k - j) j s)
