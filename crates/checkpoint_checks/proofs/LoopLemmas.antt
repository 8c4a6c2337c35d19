-- One item more of a loop, and lists as the code goes over them.
use Rattle.std.specs.Prelude.{◌≡◌, ℕ, ◌+◌, ◌<◌, ◌&&◌, not, Bool, true, false, List, [], ◌∷◌, ◌++◌, Option, Some, map}
use Rattle.std.specs.List.{flat_map, list_all}
use Rattle.std.proofs.Common.{refl, sym, ap, ◌∙◌, drop, get_or, length}
use Rattle.std.proofs.lemmas.List.{at_drop_more}
use Rattle.asp_model.specs.declared.name.FutureName.{FutureName}
use Rattle.asp_model.specs.Names.{FutureShape, Name}
use Rattle.asp_model.specs.Configuration.{RequestShape, ServiceShape}
use Rattle.asp_model.specs.Parcel.{ParcelShape}
use Rattle.checkpoint_items.specs.Lines.{home_shape}
use Rattle.checkpoint_reading.specs.declared.parts.ParcelText.{ParcelText}
use Rattle.checkpoint_reading.specs.declared.parts.RequestText.{RequestText}
use Rattle.checkpoint_reading.specs.Cells.{request_shape, value_shape}
use Rattle.checkpoint_parts.specs.declared.parts.ServiceText.{ServiceText}
use Rattle.checkpoint_parts.specs.Shapes.{service_shape}
use Rattle.law_frozen.specs.Frozen.{FrozenActivity}
use Rattle.law_checkpoints.specs.Standing.{future_in, standing_at}
use Rattle.checkpoint_checks.proofs.FreshLemmas.{fresh_both, with_both}
use Rattle.checkpoint_checks.specs.Maps.{Futures, Homes, with_future, with_futures, with_home, with_homes}
use Rattle.checkpoint_checks.specs.Homes.{ascend_from, home_future, is_after, value_future}
use Rattle.checkpoint_checks.specs.Standing.{are_fresh, request_future, service_futures}

module _ {X : Type 0} (xs : List X) (i : ℕ) (x : X) (h : i < length xs) (e : x ≡ get_or xs i x) where
  -- what is left of a list begins with the item
  left_is : {A : Type 0} (f : List X → A) → f (drop i xs) ≡ f (x ∷ drop (i + 1) xs)
  left_is f = at_drop_more f xs i x h ∙ ap (λ y. f (y ∷ drop (i + 1) xs)) (sym e)

  pub ascend_more : (f : X → FutureShape) (last : Option FutureShape) → is_after last (f x) ≡ true
      → ascend_from (Some (f x)) (map f (drop (i + 1) xs)) ≡ ascend_from last (map f (drop i xs))
  ascend_more f last a = sym (left_is (λ ys. ascend_from last (map f ys)) ∙ ap (λ b. b && ascend_from (Some (f x)) (map f (drop (i + 1) xs))) a)

  pub homes_more : (f : X → FutureShape × Name) (look next : Homes) → next ≡ with_home look (f x).0 (f x).1
      → with_homes next (map f (drop (i + 1) xs)) ≡ with_homes look (map f (drop i xs))
  homes_more f look next n = ap (λ l. with_homes l (map f (drop (i + 1) xs))) n ∙ sym (left_is (λ ys. with_homes look (map f ys)))

  pub met_more : (f : X → FutureShape) (set next : Futures) → next ≡ with_future set (f x)
      → with_futures next (map f (drop (i + 1) xs)) ≡ with_futures set (map f (drop i xs))
  met_more f set next n = ap (λ s. with_futures s (map f (drop (i + 1) xs))) n ∙ sym (left_is (λ ys. with_futures set (map f ys)))

  pub fresh_more : (f : X → FutureShape) (set next : Futures) → next ≡ with_future set (f x) → not (set (f x)) ≡ true
      → are_fresh next (map f (drop (i + 1) xs)) ≡ are_fresh set (map f (drop i xs))
  fresh_more f set next n a = ap (λ s. are_fresh s (map f (drop (i + 1) xs))) n
      ∙ sym (left_is (λ ys. are_fresh set (map f ys)) ∙ ap (λ b. b && are_fresh (with_future set (f x)) (map f (drop (i + 1) xs))) a)

  pub all_more : (p : X → Bool) → p x ≡ true → list_all p (drop (i + 1) xs) ≡ list_all p (drop i xs)
  all_more p a = sym (left_is (list_all p) ∙ ap (λ b. b && list_all p (drop (i + 1) xs)) a)

  pub all_fails : (p : X → Bool) → p x ≡ false → list_all p (drop i xs) ≡ false
  all_fails p a = left_is (list_all p) ∙ ap (λ b. b && list_all p (drop (i + 1) xs)) a

-- Futures of activities

abbrev pub all_standing : {X : Type 0} → (X → FrozenActivity) → List X → List FutureShape
all_standing g ys = flat_map standing_at (map g ys)

module _ {X : Type 0} (xs : List X) (i : ℕ) (x : X) (h : i < length xs) (e : x ≡ get_or xs i x) (g : X → FrozenActivity) (set : Futures) where
  pub all_met : (next : Futures) → next ≡ with_futures set (standing_at (g x))
      → with_futures next (all_standing g (drop (i + 1) xs)) ≡ with_futures set (all_standing g (drop i xs))
  all_met next n = ap (λ s. with_futures s (all_standing g (drop (i + 1) xs))) n
      ∙ sym (left_is xs i x h e (λ ys. with_futures set (all_standing g ys)) ∙ with_both (standing_at (g x)) (all_standing g (drop (i + 1) xs)) set)

  pub all_fresh : (next : Futures) → next ≡ with_futures set (standing_at (g x)) → are_fresh set (standing_at (g x)) ≡ true
      → are_fresh next (all_standing g (drop (i + 1) xs)) ≡ are_fresh set (all_standing g (drop i xs))
  all_fresh next n a = ap (λ s. are_fresh s (all_standing g (drop (i + 1) xs))) n
      ∙ sym (left_is xs i x h e (λ ys. are_fresh set (all_standing g ys)) ∙ fresh_both (standing_at (g x)) (all_standing g (drop (i + 1) xs)) set
      ∙ ap (λ b. b && are_fresh (with_futures set (standing_at (g x))) (all_standing g (drop (i + 1) xs))) a)

  pub none_fresh : are_fresh set (standing_at (g x)) ≡ false → are_fresh set (all_standing g (drop i xs)) ≡ false
  none_fresh a = left_is xs i x h e (λ ys. are_fresh set (all_standing g ys)) ∙ fresh_both (standing_at (g x)) (all_standing g (drop (i + 1) xs)) set
      ∙ ap (λ b. b && are_fresh (with_futures set (standing_at (g x))) (all_standing g (drop (i + 1) xs))) a

-- Keys

pub home_keys : (hs : List (FutureName × Name)) → map (λ (h : FutureShape × Name). h.0) (map home_shape hs) ≡ map home_future hs
home_keys [] = refl
home_keys (h ∷ hs) = ap (λ gs. home_future h ∷ gs) (home_keys hs)

pub value_keys : (vs : List (FutureName × ParcelText)) → map (λ (v : FutureShape × ParcelShape). v.0) (map value_shape vs) ≡ map value_future vs
value_keys [] = refl
value_keys (v ∷ vs) = ap (λ gs. value_future v ∷ gs) (value_keys vs)

pub request_keys : (rs : List RequestText) → map (λ (r : RequestShape). r.future) (map request_shape rs) ≡ map request_future rs
request_keys [] = refl
request_keys (r ∷ rs) = ap (λ gs. request_future r ∷ gs) (request_keys rs)

pub service_keys : (vs : List ServiceText) → flat_map (λ (v : ServiceShape). future_in v.future) (map service_shape vs) ≡ flat_map service_futures vs
service_keys [] = refl
service_keys (v ∷ vs) = ap (λ gs. service_futures v ++ gs) (service_keys vs)

pub ruleset key_laws = (home_keys, value_keys, request_keys, service_keys)
