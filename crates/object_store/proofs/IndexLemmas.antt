-- Changes of one future's places.
use Rattle.std.proofs.Common.{◌≡◌, ℕ, Bool, true, false, cond, List, [], Option, Some, None, IsSome, refl, sym, ap, subst, ◌∙◌}
use Rattle.asp_model.specs.declared.name.FutureName.{FutureName}
use Rattle.asp_model.specs.Order.{same_future_same}
use Rattle.asp_model.specs.FutureOrder.{eq_shape}
use Rattle.asp_model.specs.Shapes.{future_shape}
use Rattle.indexmap.specs.IndexMap.{IndexMap, WritesThrough, get}
use Rattle.object_store.specs.Index.{is_same, or_none}
use Rattle.object_store.specs.Places.{places_of}
use Rattle.object_store.specs.declared.places.Places.{Places}

abbrev pub Held : Type 0
Held = FutureName → Option Places

abbrev pub changed_so : (List ℕ → List ℕ) → Bool → List ℕ → List ℕ
changed_so change same places = elim same [ true ↦ change places | false ↦ places ]

pub is_same_same : (f g : FutureName) → is_same f g ≡ true → f ≡ g
is_same_same f g e =
    let s = same_future_same (future_shape f) (future_shape g) (sym (eq_shape f g) ∙ e) in
    λ i. record { by = (s i).by; index = (s i).index }

-- the places of one future are these, and those of the others stay
pub changed : (f : FutureName) (change : List ℕ → List ℕ) (old new : Held) (places : Places) → places_of places ≡ change (or_none (old f)) → ((g : FutureName) → new g ≡ cond (is_same f g) (Some places) (old g)) → (g : FutureName) → or_none (new g) ≡ changed_so change (is_same f g) (or_none (old g))
changed f change old new places e updates g = by (is_same f g) refl
  where
    by : (b : Bool) → is_same f g ≡ b → or_none (new g) ≡ changed_so change b (or_none (old g))
    by true p = ap or_none (updates g ∙ ap (λ b. cond b (Some places) (old g)) p) ∙ e ∙ ap (λ h. change (or_none (old h))) (is_same_same f g p)
    by false p = ap or_none (updates g ∙ ap (λ b. cond b (Some places) (old g)) p)

-- the places of one future are written twice
pub again : (f : FutureName) (change : List ℕ → List ℕ) (first last : List ℕ) (old mid new : FutureName → List ℕ) → last ≡ change (old f) → ((g : FutureName) → mid g ≡ changed_so (λ _. first) (is_same f g) (old g))
    → ((g : FutureName) → new g ≡ changed_so (λ _. last) (is_same f g) (mid g)) → (g : FutureName) → new g ≡ changed_so change (is_same f g) (old g)
again f change first last old mid new e one two g = by (is_same f g) refl
  where
    by : (b : Bool) → is_same f g ≡ b → new g ≡ changed_so change b (old g)
    by true p = two g ∙ ap (λ b. changed_so (λ _. last) b (mid g)) p ∙ e ∙ ap (λ h. change (old h)) (is_same_same f g p)
    by false p = two g ∙ ap (λ b. changed_so (λ _. last) b (mid g)) p ∙ one g ∙ ap (λ b. changed_so (λ _. first) b (old g)) p

-- nothing changes where a future has no places, and the change makes none
pub unchanged : (f : FutureName) (change : List ℕ → List ℕ) (old new : Held) → change (or_none (old f)) ≡ or_none (old f) → ((g : FutureName) → new g ≡ old g) → (g : FutureName) → or_none (new g) ≡ changed_so change (is_same f g) (or_none (old g))
unchanged f change old new e same g = by (is_same f g) refl
  where
    by : (b : Bool) → is_same f g ≡ b → or_none (new g) ≡ changed_so change b (or_none (old g))
    by true p = ap or_none (same g) ∙ sym (subst (λ h. change (or_none (old h)) ≡ or_none (old h)) (is_same_same f g p) e)
    by false p = ap or_none (same g)

-- the places of one future were written through what the map lent
pub written : {S : Type 0} (f : FutureName) (change : List ℕ → List ℕ) (old new : IndexMap FutureName Places S) (was places : Places) → Some was ≡ get is_same old f → places_of places ≡ change (places_of was) → WritesThrough is_same (is_same f) old places new → (g : FutureName) → or_none (get is_same new g) ≡ changed_so change (is_same f g) (or_none (get is_same old g))
written f change old new was places found e writes =
    let there : IsSome (get is_same old f) = subst (λ (o : Option Places). IsSome o) found refl in
    changed f change (get is_same old) (get is_same new) places (e ∙ ap (λ o. change (or_none o)) found) (writes.3 there).0

-- a future with no places is forgotten
pub forgotten : (f : FutureName) (old new : Held) → or_none (old f) ≡ [] → ((g : FutureName) → new g ≡ cond (is_same f g) None (old g)) → (g : FutureName) → or_none (new g) ≡ or_none (old g)
forgotten f old new none updates g = by (is_same f g) refl
  where
    by : (b : Bool) → is_same f g ≡ b → or_none (new g) ≡ or_none (old g)
    by true p = ap or_none (updates g ∙ ap (λ b. cond b None (old g)) p) ∙ sym (subst (λ h. or_none (old h) ≡ []) (is_same_same f g p) none)
    by false p = ap or_none (updates g ∙ ap (λ b. cond b None (old g)) p)

pub same_so : (b : Bool) (places : List ℕ) → changed_so (λ xs. xs) b places ≡ places
same_so true places = refl
same_so false places = refl
