use Rattle.std.proofs.Common.{◌≡◌, ◌∙◌, ◌∷◌, [], Result, Ok, Err, IsSome, Some, None, ℕ, true, cond, refl, sym, ap, subst}
use Rattle.std.specs.Prelude.{OnErr, OnOk}
use Rattle.asp_model.specs.declared.name.FutureName.{FutureName}
use Rattle.asp_model.specs.FutureOrder.{eq_shape}
use Rattle.asp_model.specs.Shapes.{future_shape}
use Rattle.indexmap.specs.IndexMap.{get}
use Rattle.object_store.specs.Index.{is_same, or_none, places_in}
use Rattle.object_store.specs.Places.{places_of, with_place}
use Rattle.object_store.specs.declared.places.Places.TheVariants.{At}
use Rattle.object_store.proofs.IndexLemmas.{Held, again, changed, same_so}
use Rattle.object_store.proofs.StoredLemmas.{same_future_itself}
use Rattle.object_store.proofs.index.Index.insert.Goals as goal

on_ok : {T E P Q : Type 0} (r : Result T E) → (P → Q) → OnOk r P → OnOk r Q
on_ok (Ok v) f p = f p
on_ok (Err e) f p = tt

on_err : {T E P Q : Type 0} (r : Result T E) → (P → Q) → OnErr r P → OnErr r Q
on_err (Ok v) f p = tt
on_err (Err e) f p = f p

-- only this place is written of the future
abbrev Writes : FutureName → ℕ → Held → Held → Type 0
Writes f p old new = (g : FutureName) → new g ≡ cond (is_same f g) (Some (At p)) (old g)

pub put_more-requires : goal.put_more-requires
put_more-requires c =
    let f = c.args.future.now in
    let old : Held = get is_same c.args.self.now.held in
    let mid : Held = get is_same c.insert.new.self in
    let writes : Writes f c.args.place old mid = subst (λ (k : FutureName). Writes k c.args.place old mid) c.in_ok-name.ensures.name c.in_ok-insert.ensures.updates.0 in
    let itself : is_same f f ≡ true = eq_shape f f ∙ same_future_itself (future_shape f) in
    record { known = subst IsSome (sym (writes f ∙ ap (λ b. cond b (Some (At c.args.place)) (old f)) itself)) refl }

pub returns-in-None-clause-places : goal.returns-in-None-clause-places
returns-in-None-clause-places c =
    let f = c.args.future.now in
    let old : Held = get is_same c.args.self.now.held in
    let mid : Held = get is_same c.insert.new.self in
    let writes : Writes f c.args.place old mid = subst (λ (k : FutureName). Writes k c.args.place old mid) c.in_ok-name.ensures.name c.in_ok-insert.ensures.updates.0 in
    let none : old f ≡ None = ap old (sym c.in_ok-name.ensures.name) ∙ sym c.in_ok-insert.ensures.old ∙ c.in-None.is in
    changed f (with_place c.args.place) old mid (At c.args.place) (sym (ap (λ o. with_place c.args.place (or_none o)) none)) writes

pub returns-in-Some-clause-places : goal.returns-in-Some-clause-places
returns-in-Some-clause-places c =
    let f = c.args.future.now in
    let p = c.args.place in
    let old : Held = get is_same c.args.self.now.held in
    let mid : Held = get is_same c.insert.new.self in
    let writes : Writes f p old mid = subst (λ (k : FutureName). Writes k p old mid) c.in_ok-name.ensures.name c.in_ok-insert.ensures.updates.0 in
    let one = changed f (λ _. p ∷ []) old mid (At p) refl writes in
    let was : Some c.in-Some.known ≡ old f = sym c.in-Some.is ∙ c.in_ok-insert.ensures.old ∙ ap old c.in_ok-name.ensures.name in
    on_ok c.put_more.result (λ two. again f (with_place p) (p ∷ []) (with_place p (places_of c.in-Some.known)) (places_in c.args.self.now) (λ g. or_none (mid g)) (places_in c.put_more.new.self) (ap (λ o. with_place p (or_none o)) was) one two) c.put_more.ensures.places

pub returns-in-Some-clause-err : goal.returns-in-Some-clause-err
returns-in-Some-clause-err c =
    let f = c.args.future.now in
    let p = c.args.place in
    let old : Held = get is_same c.args.self.now.held in
    let mid : Held = get is_same c.insert.new.self in
    let writes : Writes f p old mid = subst (λ (k : FutureName). Writes k p old mid) c.in_ok-name.ensures.name c.in_ok-insert.ensures.updates.0 in
    let one = changed f (λ _. p ∷ []) old mid (At p) refl writes in
    let was : Some c.in-Some.known ≡ old f = sym c.in-Some.is ∙ c.in_ok-insert.ensures.old ∙ ap old c.in_ok-name.ensures.name in
    on_err c.put_more.result (λ two g. again f (λ xs. xs) (p ∷ []) (places_of c.in-Some.known) (places_in c.args.self.now) (λ g. or_none (mid g)) (places_in c.put_more.new.self) (ap or_none was) one two g ∙ same_so (is_same f g) (places_in c.args.self.now g)) c.put_more.ensures.err
