-- Requests in order, lent and with their numbers.
use denote.Ref.{Bor}
use Rattle.std.proofs.Common.{◌≡◌, ◌++◌, ℕ, suc, List, [], ◌∷◌, Some, None, map, refl, ap}
use Rattle.request_queue.specs.declared.request.Request.{Request}
use Rattle.request_queue.specs.Places.{Places, placed}
use Rattle.request_queue.specs.Requests.{lent_shapes, request_shape, shapes_of}
use Rattle.request_queue.specs.Few.{told}

-- the numbers of the places do not show
pub shapes_placed : (n m : ℕ) (ps : Places) → shapes_of (placed n ps) ≡ shapes_of (placed m ps)
shapes_placed n m [] = refl
shapes_placed n m (None ∷ ps) = shapes_placed (suc n) (suc m) ps
shapes_placed n m (Some b ∷ ps) = ap (λ rs. request_shape b.value ∷ rs) (shapes_placed (suc n) (suc m) ps)

-- one more is lent
pub lent_more : (xs : List (Bor Request)) (x : Bor Request) (e : ℕ × Request) (es : List (ℕ × Request)) → x.now ≡ e.1 → lent_shapes (xs ++ x ∷ []) ++ shapes_of es ≡ lent_shapes xs ++ shapes_of (e ∷ es)
lent_more [] x e es is = ap (λ r. request_shape r ∷ shapes_of es) is
lent_more (y ∷ xs) x e es is = ap (λ rs. request_shape y.now ∷ rs) (lent_more xs x e es is)

pub shapes_append : (xs ys : List (ℕ × Request)) → shapes_of (xs ++ ys) ≡ shapes_of xs ++ shapes_of ys
shapes_append [] ys = refl
shapes_append (x ∷ xs) ys = ap (λ rs. request_shape x.1 ∷ rs) (shapes_append xs ys)

pub shapes_waiting : (es : List (ℕ × Request)) → map (λ x. x.1) (told es) ≡ shapes_of es
shapes_waiting [] = refl
shapes_waiting (e ∷ es) = ap (λ rs. request_shape e.1 ∷ rs) (shapes_waiting es)
