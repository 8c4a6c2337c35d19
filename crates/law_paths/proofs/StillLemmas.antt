-- What is related stays related: terms, services, requests and new activities.
use Rattle.std.specs.Prelude.{◌≡◌, ℕ, suc, ◌&&◌, not, true, false, List, [], ◌∷◌, Option, Some, None, map}
use Rattle.std.proofs.Common.{refl, subst}
use Rattle.asp_model.specs.Names.{FutureShape, Text}
use Rattle.asp_model.specs.Term.{Head, Tree, Call, Serve, Repeat, has_text, Trees}
use Rattle.asp_model.specs.Split.{Context, Redex}
use Rattle.asp_model.specs.Store.{CellShape, Store, MethodShape}
use Rattle.asp_model.specs.Parcel.{has_place}
use Rattle.asp_model.specs.Chase.{Chase}
use Rattle.asp_model.specs.Configuration.{RequestShape, ServiceShape}
use Rattle.asp_model.specs.Intent.{start_term, Numbered, oldest_match, method_labels, labels_served, newest, but_newest}
use Rattle.law_steps.specs.Closed.{IsClosedParcel}
use Rattle.def_paths.specs.Places.{Place, side_by}
use Rattle.def_paths.specs.Agree.{Pairs, no_pair, pair, MayBoth, neither, both, RequestsAgree}
use Rattle.law_paths.specs.Links.{IsClosedSide}
use Rattle.law_paths.specs.Alike.{AreAlike, at_locs, at_node, no_more, one_more, AlikeHeads, loc_heads, same_heads, AlikeContexts, AlikeRedexes, AlikeMethods, AlikeCells, numbers, objects, references, groups, AreAlikeBelow}
use Rattle.law_paths.proofs.PairLemmas.{pairs_weaker}
use Rattle.law_paths.proofs.GrownLemmas.{closed_over}
use Rattle.law_paths.proofs.OnwardLemmas.{Stored, Sides}
use Rattle.law_paths.proofs.ActivityLemmas.{AlikeServices}

-- Places that stay related

module _ (L M : ℕ → ℕ → Type 0) (to : (i j : ℕ) → L i j → M i j) where
  mutual
    pub still_alike : (t u : Tree) → AreAlike L t u → AreAlike M t u
    still_alike _ _ (at_locs r b) = at_locs (to _ _ r) (still_below _ _ b)
    still_alike _ _ (at_node h e b) = at_node h e (still_below _ _ b)

    still_below : (ts us : Trees) → AreAlikeBelow L ts us → AreAlikeBelow M ts us
    still_below _ _ no_more = no_more
    still_below _ _ (one_more a b) = one_more (still_alike _ _ a) (still_below _ _ b)

  pub still_heads : (h k : Head) → AlikeHeads L h k → AlikeHeads M h k
  still_heads _ _ (loc_heads r) = loc_heads (to _ _ r)
  still_heads _ _ (same_heads h e) = same_heads h e

  pub still_context : (x y : Context) → AlikeContexts L x y → AlikeContexts M x y
  still_context x y c = record { head = still_heads x.head y.head c.head; before = pairs_weaker L M to _ _ c.before; behind = still_below _ _ c.behind }

  pub still_contexts : (cs ds : List Context) → Pairs (AlikeContexts L) cs ds → Pairs (AlikeContexts M) cs ds
  still_contexts cs ds = pairs_weaker (AlikeContexts L) (AlikeContexts M) still_context cs ds

  pub still_service : (v w : ServiceShape) → AlikeServices L v w → AlikeServices M v w
  still_service v w e = record { contexts = still_contexts v.contexts w.contexts e.contexts; future = e.future }

  pub still_services : (vs ws : List ServiceShape) → Pairs (AlikeServices L) vs ws → Pairs (AlikeServices M) vs ws
  still_services vs ws = pairs_weaker (AlikeServices L) (AlikeServices M) still_service vs ws

  pub still_redex : (x y : Redex) → AlikeRedexes L x y → AlikeRedexes M x y
  still_redex x y e = record { head = e.head; own = e.own; places = pairs_weaker L M to _ _ e.places; behind = still_below _ _ e.behind }

-- Services

module _ (L : ℕ → ℕ → Type 0) where
  pub newest_alike : (vs ws : List ServiceShape) → Pairs (AlikeServices L) vs ws → MayBoth (AlikeServices L) (newest vs) (newest ws)
  newest_alike _ _ no_pair = neither
  newest_alike _ _ (pair e no_pair) = both e
  newest_alike _ _ (pair e (pair f rs)) = newest_alike _ _ (pair f rs)

  pub but_newest_alike : (vs ws : List ServiceShape) → Pairs (AlikeServices L) vs ws → Pairs (AlikeServices L) (but_newest vs) (but_newest ws)
  but_newest_alike _ _ no_pair = no_pair
  but_newest_alike _ _ (pair e no_pair) = no_pair
  but_newest_alike _ _ (pair e (pair f rs)) = pair e (but_newest_alike _ _ (pair f rs))

  pub labels_alike : (ms ns : List MethodShape) → Pairs (AlikeMethods L) ms ns → map (λ m. m.head.label) ms ≡ map (λ m. m.head.label) ns
  labels_alike _ _ no_pair = refl
  labels_alike _ _ (pair e es) = λ i. (e.head i).label ∷ labels_alike _ _ es i

  pub method_labels_alike : (c d : CellShape) → AlikeCells L c d → method_labels c ≡ method_labels d
  method_labels_alike _ _ (objects fs ms) = labels_alike _ _ ms
  method_labels_alike _ _ (numbers z) = refl
  method_labels_alike _ _ (references n) = refl
  method_labels_alike _ _ (groups ps) = refl

  pub served_alike : (labels : List Text) (c d : CellShape) → AlikeCells L c d → labels_served labels c ≡ labels_served labels d
  served_alike [] c d e = method_labels_alike c d e
  served_alike (l ∷ ls) c d e = refl

-- Requests

module _ (k l : FutureShape → Chase) where
  abbrev pub NumberedAgree : Numbered → Numbered → Type 0
  NumberedAgree x y = (x.0 ≡ y.0) × RequestsAgree k l x.1 y.1 × IsClosedParcel x.1.arguments × IsClosedParcel y.1.arguments

  abbrev pub PendingAgree : RequestShape → RequestShape → Type 0
  PendingAgree r s = RequestsAgree k l r s × IsClosedParcel r.arguments × IsClosedParcel s.arguments

  pub match_case : (labels : List Text) (served : List ℕ) (n : ℕ) (r s : RequestShape) (o p : Option Numbered) → r.label ≡ s.label → PendingAgree r s → MayBoth NumberedAgree o p
      → MayBoth NumberedAgree (elim (not (has_place n served) && has_text r.label labels) [ true ↦ Some (n, r) | false ↦ o ]) (elim (not (has_place n served) && has_text s.label labels) [ true ↦ Some (n, s) | false ↦ p ])
  match_case labels served n r s o p e x m = subst (λ w. MayBoth NumberedAgree (elim (not (has_place n served) && has_text r.label labels) [ true ↦ Some (n, r) | false ↦ o ]) (elim (not (has_place n served) && has_text w labels) [ true ↦ Some (n, s) | false ↦ p ])) e
      (elim (not (has_place n served) && has_text r.label labels) as (λ b. MayBoth NumberedAgree (elim b [ true ↦ Some (n, r) | false ↦ o ]) (elim b [ true ↦ Some (n, s) | false ↦ p ])) [ true ↦ both (refl, x.0, x.1, x.2) | false ↦ m ])

  pub match_alike : (labels : List Text) (served : List ℕ) (n : ℕ) (rs ss : List RequestShape) → Pairs PendingAgree rs ss → MayBoth NumberedAgree (oldest_match labels served n rs) (oldest_match labels served n ss)
  match_alike labels served n _ _ no_pair = neither
  match_alike labels served n _ _ (pair {x = r} {y = s} x xs) = match_case labels served n r s _ _ x.0.label x (match_alike labels served (suc n) _ _ xs)

-- a new activity

abbrev pub Nowhere : Place → Place → Type 0
Nowhere p q = ⊥

pub nowhere_sides : (k l : FutureShape → Chase) (s s' : Store) → IsClosedSide (side_by k s) → IsClosedSide (side_by l s') → Sides (side_by k []) (side_by l []) Nowhere
nowhere_sides k l s s' h g = record {
  link = record { left = λ p q r. absurd r; right = λ p q r. absurd r; same = λ p q r. absurd r; next = λ p q r. absurd r; once = λ p q r x y. absurd x; back = λ p q r x y. absurd x };
  left = closed_over (side_by k s) [] h tt;
  right = closed_over (side_by l s') [] g tt;
}

pub start_alike : (L : ℕ → ℕ → Type 0) (service : Option Text) → L 0 0 → AreAlike L (start_term service 0) (start_term service 0)
start_alike L None r = at_node Repeat refl (one_more (at_node (Serve []) refl no_more) no_more)
start_alike L (Some l) r = at_node (Call l) refl (one_more (at_locs r no_more) no_more)

pub both_first : (R : Place → Place → Type 0) (i j : ℕ) (xs ys : List ℕ) → Pairs (Stored R) (i ∷ xs) (j ∷ ys) → Stored R i j
both_first R i j xs ys (pair r rs) = r
