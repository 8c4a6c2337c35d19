-- Places of spots.
use Rattle.std.proofs.Common.{◌≡◌, ℕ, zero, suc, ◌+◌, ◌≤◌, List, [], ◌∷◌, ◌++◌, length, refl, sym, ap, ◌∙◌, arith, length-append, append_assoc}
use Rattle.std.proofs.lemmas.List.{get_or_append_left, append-nil}
use Rattle.def_paths.specs.Places.{Place, In_store, inner}
use Rattle.run_ends.specs.declared.entered.Spot.{Spot}
use Rattle.run_ends.specs.Spots.{numbered_place, spot_place, places_from, places_of, IsSpot}

-- Growth

from_push : (ps : List Place) (ss : List Spot) (s : Spot) → places_from ps (ss ++ s ∷ []) ≡ places_from ps ss ++ spot_place (places_from ps ss) s ∷ []
from_push ps [] s = refl
from_push ps (t ∷ ss) s = from_push (ps ++ spot_place ps t ∷ []) ss s

pub places_of-push : (ss : List Spot) (s : Spot) → places_of (ss ++ s ∷ []) ≡ places_of ss ++ spot_place (places_of ss) s ∷ []
unfolding places_of
places_of-push ss s = from_push [] ss s

length_from : (ps : List Place) (ss : List Spot) → length (places_from ps ss) ≡ length ps + length ss
length_from ps [] = omega arith
length_from ps (s ∷ ss) = omega (arith, length_from (ps ++ spot_place ps s ∷ []) ss, length-append ps (spot_place ps s ∷ []))

pub length-places_of : (ss : List Spot) → length (places_of ss) ≡ length ss
unfolding places_of
length-places_of ss = omega (arith, length_from [] ss)

-- places of spots stay where more are entered

stays_from : (ps : List Place) (ss : List Spot) → (more : List Place) × (places_from ps ss ≡ ps ++ more)
stays_from ps [] = ([], sym (append-nil ps))
stays_from ps (s ∷ ss) =
    let rest = stays_from (ps ++ spot_place ps s ∷ []) ss in
    (spot_place ps s ∷ rest.0, rest.1 ∙ append_assoc ps (spot_place ps s ∷ []) rest.0)

from_more : (ps : List Place) (ss ts : List Spot) → places_from ps (ss ++ ts) ≡ places_from (places_from ps ss) ts
from_more ps [] ts = refl
from_more ps (s ∷ ss) ts = from_more (ps ++ spot_place ps s ∷ []) ss ts

pub places_of-append : (ss ts : List Spot) → (more : List Place) × (places_of (ss ++ ts) ≡ places_of ss ++ more)
unfolding places_of
places_of-append ss ts =
    let rest = stays_from (places_from [] ss) ts in
    (rest.0, from_more [] ss ts ∙ rest.1)

numbered_stays : (ps more : List Place) (home c : ℕ) → home ≤ length ps → numbered_place (ps ++ more) home c ≡ numbered_place ps home c
numbered_stays ps more zero c h = refl
numbered_stays ps more (suc k) c h = ap (λ (p : Place). inner p c) (get_or_append_left ps more (In_store 0) k (omega arith))

-- a spot's place stays
pub spot_stays : (ss ts : List Spot) (s : Spot) → IsSpot (length ss) s → spot_place (places_of (ss ++ ts)) s ≡ spot_place (places_of ss) s
spot_stays ss ts s h =
    let more = places_of-append ss ts in
    let within : s.home ≤ length (places_of ss) = omega (arith, h.within, length-places_of ss) in
    ap (λ (ps : List Place). spot_place ps s) more.1 ∙ numbered_stays (places_of ss) more.0 s.home s.cell within
