-- Walks over lists whose elements are written one by one.
use Rattle.std.specs.Global.{Vec}
use Rattle.std.specs.Prelude.{set}
use Rattle.std.proofs.Common.{◌≡◌, ℕ, zero, suc, ◌+◌, ◌<◌, ◌≤◌, Bool, List, [], ◌∷◌, ◌++◌, length, get_or, map, take, drop, refl, sym, ap, ◌∙◌, arith}
use Rattle.std.proofs.lemmas.List.{append-nil, drop_all, drop_more, drop-set-lt, take_all, take_more_set}
use Rattle.asp_model.specs.Term.{Tree}
use Rattle.term_opening.specs.Opening.{emptied, goes_on, done_at, emptied_all, done_all}

-- what is left behind the one that was written
left_more : {X : Type 0} (xs : List X) (i : ℕ) (y : X) → drop (i + 1) (set xs i y) ≡ drop (i + 1) xs
left_more xs i y = drop-set-lt (i + 1) xs i y (omega arith)

seam : {X Y : Type 0} (f : X → Y) (xs : List X) (y : X) (zs : List Y) → map f (xs ++ y ∷ []) ++ zs ≡ map f xs ++ (f y ∷ zs)
seam f [] y zs = refl
seam f (x ∷ xs) y zs = ap (λ ws. f x ∷ ws) (seam f xs y zs)

-- what is emptied, one by one
pub emptied_more : {X : Type 0} (f : X → Tree) (xs : List X) (i : ℕ) (d y : X) (on next : Bool) → i < length xs
    → f y ≡ emptied on (f (get_or xs i d)) → next ≡ goes_on on (f (get_or xs i d))
    → map f (take (i + 1) (set xs i y)) ++ emptied_all next (map f (drop (i + 1) (set xs i y))) ≡ map f (take i xs) ++ emptied_all on (map f (drop i xs))
emptied_more f xs i d y on next lt is goes =
    (λ j. map f (take_more_set xs i y lt j) ++ emptied_all (goes j) (map f (left_more xs i y j)))
    ∙ seam f (take i xs) y (emptied_all (goes_on on (f (get_or xs i d))) (map f (drop (i + 1) xs)))
    ∙ ap (λ z. map f (take i xs) ++ (z ∷ emptied_all (goes_on on (f (get_or xs i d))) (map f (drop (i + 1) xs)))) is
    ∙ ap (λ ws. map f (take i xs) ++ emptied_all on (map f ws)) (sym (drop_more xs i d lt))

pub done_more : {X : Type 0} (f : X → Tree) (xs : List X) (i : ℕ) (d y : X) (on next : Bool) (ps qs : List ℕ) → i < length xs
    → qs ≡ done_at on ps (f (get_or xs i d)) → next ≡ goes_on on (f (get_or xs i d))
    → done_all next qs (map f (drop (i + 1) (set xs i y))) ≡ done_all on ps (map f (drop i xs))
done_more f xs i d y on next ps qs lt is goes =
    (λ j. done_all (goes j) (is j) (map f (left_more xs i y j)))
    ∙ ap (λ ws. done_all on ps (map f ws)) (sym (drop_more xs i d lt))

-- a part that writing does not change
pub part_kept : {X Y : Type 0} (f : X → Y) (xs : List X) (i : ℕ) (d y : X) → i < length xs → f y ≡ f (get_or xs i d) → map f (set xs i y) ≡ map f xs
part_kept f [] i d y lt is = refl
part_kept f (z ∷ xs) zero d y lt is = ap (λ w. w ∷ map f xs) is
part_kept f (z ∷ xs) (suc i) d y lt is = let less : i < length xs = omega (arith, lt) in ap (λ ws. f z ∷ ws) (part_kept f xs i d y less is)

-- The end of a walk

pub all_walked : {X Y : Type 0} (f : X → Y) (rest : List X → List Y) (xs : List X) (i : ℕ) (ys : List Y) → length xs ≤ i → rest [] ≡ [] → map f (take i xs) ++ rest (drop i xs) ≡ ys → map f xs ≡ ys
all_walked f rest xs i ys end none is =
    sym (append-nil (map f xs))
    ∙ ap (λ zs. map f xs ++ zs) (sym none)
    ∙ (λ j. map f (sym (take_all i xs end) j) ++ rest (sym (drop_all i xs end) j))
    ∙ is

-- Lists that are written over as a whole

written : {X : Type 0} (xs new : List X) (n : ℕ) → length new ≡ length xs → n ≡ length xs → take n (new ++ drop (length new) xs) ≡ new
written xs new n same long =
    ap (λ ys. take n (new ++ ys)) (drop_all (length new) xs (omega (arith, same))) ∙ ap (take n) (append-nil new) ∙ take_all n new (omega (arith, same, long))

pub vec_written : {X Y : Type 0} (f : X → Y) (v : Vec X) (seen new : List X) (ys : List Y) → seen ≡ v.items → length new ≡ length seen → map f new ≡ ys → map f (take v.len (new ++ drop (length new) v.items)) ≡ ys
vec_written f v seen new ys was same is = let long : length new ≡ length v.items = same ∙ ap length was in ap (map f) (written v.items new v.len long v.ok.0) ∙ is
