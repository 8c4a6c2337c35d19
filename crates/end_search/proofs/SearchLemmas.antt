-- What the loops of the search keep, and one turn of each.
use Rattle.std.specs.Prelude.{◌≡◌, ◌<◌, ◌≤◌, ℕ, zero, suc, ◌+◌, List, [], ◌∷◌, ◌++◌, length, take}
use Rattle.std.proofs.Common.{refl, sym, ap, subst, ◌∙◌, arith, slice_index_or, length-append}
use Rattle.std.proofs.lemmas.List.{append-nil}
use Rattle.end_search.specs.Found.{AreFound, IsWithin, AreWithin, Grows, IsClosed, AreClosed}
use Rattle.end_search.proofs.GrownLemmas.{all_more, all_take, all_then, all_whole, all_front, none_taken, within_grown, within_last, grows_not, grows_on, grows_by, closed_grown}

-- An end that is met

pub record Met {E O : Type 0} (ended : E → Type 0) (begins : E → O → Type 0) (most : ℕ) (old new : List E) (o : O) : Type 0 where
  pub found : AreFound ended most new
  pub grows : Grows begins old new
  pub within : IsWithin begins new o

pub met : {E O : Type 0} (ended : E → Type 0) (begins : E → O → Type 0) (most : ℕ) (old new : List E) (e : E) (o : O) → AreFound ended most old → suc (length old) ≤ most → (IsWithin begins old o → ⊥) → ended e → begins e o → new ≡ old ++ e ∷ [] → Met ended begins most old new o
met {E} ended begins most old new e o found room none end b items =
    let len : length (old ++ e ∷ []) ≤ most = omega (arith, room, length-append old (e ∷ [])) in
    subst (λ (l : List E). Met ended begins most old l o) (sym items) (record {
      found = record { ends = all_more ended old e found.ends end; room = len };
      grows = grows_by begins old e o none b;
      within = within_last begins old e o b;
    })

-- What the loops keep

pub record Meeting {E O : Type 0} (ended : E → Type 0) (begins : E → O → Type 0) (most : ℕ) (old now : List E) (done : List O) : Type 0 where
  pub found : AreFound ended most now
  pub grows : Grows begins old now
  pub within : AreWithin begins now done

pub record Closing {E O : Type 0} (ended : E → Type 0) (begins : E → O → Type 0) (offered : E → List O → Type 0) (most : ℕ) (old now : List E) (done : ℕ) : Type 0 where
  pub found : AreFound ended most now
  pub grows : Grows begins old now
  pub closed : AreClosed begins offered now (take done now)

-- One turn of each loop

pub meeting : {E O : Type 0} (ended : E → Type 0) (begins : E → O → Type 0) (most : ℕ) (old now new : List E) (offers : List O) (k : ℕ) (o : O) → k < length offers → o ≡ slice_index_or offers k o → Meeting ended begins most old now (take k offers) → AreFound ended most new → Grows begins now new → IsWithin begins new o → Meeting ended begins most old new (take (k + 1) offers)
meeting ended begins most old now new offers k o lt is m found grows within = record {
  found = found;
  grows = grows_on begins old now new m.grows grows;
  within = all_take (IsWithin begins new) offers k o lt is (all_then (IsWithin begins now) (IsWithin begins new) (take k offers) (λ p w. within_grown begins now new p grows w) m.within) within;
}

pub met_all : {E O : Type 0} (ended : E → Type 0) (begins : E → O → Type 0) (most : ℕ) (old now : List E) (offers : List O) (k : ℕ) → (k < length offers → ⊥) → Meeting ended begins most old now (take k offers) → AreWithin begins now offers
met_all ended begins most old now offers k le m = all_whole (IsWithin begins now) offers k le m.within

pub meeting_begun : {E O : Type 0} (ended : E → Type 0) (begins : E → O → Type 0) (most : ℕ) (old : List E) (offers : List O) → AreFound ended most old → Meeting ended begins most old old (take zero offers)
meeting_begun ended begins most old offers found = record { found = found; grows = grows_not begins old; within = none_taken (IsWithin begins old) offers }

pub closing_begun : {E O : Type 0} (ended : E → Type 0) (begins : E → O → Type 0) (offered : E → List O → Type 0) (most : ℕ) (old : List E) → AreFound ended most old → Closing ended begins offered most old old zero
closing_begun ended begins offered most old found = record { found = found; grows = grows_not begins old; closed = none_taken (IsClosed begins offered old) old }

pub closing : {E O : Type 0} (ended : E → Type 0) (begins : E → O → Type 0) (offered : E → List O → Type 0) (most : ℕ) (old now new : List E) (k : ℕ) (e : E) (os : List O) → k < length now → e ≡ slice_index_or now k e → Closing ended begins offered most old now k → AreFound ended most new → Grows begins now new → offered e os → AreWithin begins new os → Closing ended begins offered most old new (k + 1)
closing {E} ended begins offered most old now new k e os lt is m found grows all within = record {
  found = found;
  grows = grows_on begins old now new m.grows grows;
  closed = subst (λ (l : List E). AreClosed begins offered new (take (k + 1) l)) grows.is (all_front (IsClosed begins offered new) now grows.more k e lt is (closed_grown begins offered now new (take k now) grows m.closed) (os, all, within));
}

pub closed : {E O : Type 0} (ended : E → Type 0) (begins : E → O → Type 0) (offered : E → List O → Type 0) (most : ℕ) (old now : List E) (k : ℕ) → length now ≤ k → Closing ended begins offered most old now k → AreClosed begins offered now now
closed ended begins offered most old now k le m = all_whole (IsClosed begins offered now) now k (λ lt. omega (arith, lt, le)) m.closed

-- Given ends

empty_of : {E : Type 0} (xs : List E) → length xs ≡ 0 → xs ≡ []
empty_of [] h = refl
empty_of (x ∷ xs) h = absurd (omega (arith, h))

-- where there is no room none is added
pub none_added : {E O : Type 0} (begins : E → O → Type 0) (old new : List E) → Grows begins old new → length new ≤ length old → new ≡ old
none_added {E} begins old new g le =
    let h : length new ≡ length (old ++ g.more) = ap length (sym g.is) in
    sym g.is ∙ ap (λ (m : List E). old ++ m) (empty_of g.more (omega (arith, h, length-append old g.more, le))) ∙ append-nil old
