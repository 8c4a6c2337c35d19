-- The pending requests of an activity, and the items of its parts.
use Rattle.std.proofs.Common.{◌≡◌, ℕ, suc, Bool, true, false, List, [], ◌∷◌, refl, ap}
use Rattle.asp_model.specs.Configuration.{RequestShape}
use Rattle.asp_model.specs.Intent.{Numbered}
use Rattle.asp_model.specs.Parcel.{has_place}
use Rattle.law_frozen.specs.Pending as frozen
use Rattle.request_queue.specs.Pending.{pending_of}

by_test : (b : Bool) (r : Numbered) (xs ys : List Numbered) → xs ≡ ys
    → ◌≡◌ {A = List Numbered} (elim b [ true ↦ xs | false ↦ r ∷ xs ]) (elim b [ true ↦ ys | false ↦ r ∷ ys ])
by_test true r xs ys e = e
by_test false r xs ys e = ap (λ (zs : List Numbered). r ∷ zs) e

-- the queue's pending requests are those of the law
pub pending_same : (served : List ℕ) (k : ℕ) (rs : List RequestShape) → pending_of served k rs ≡ frozen.pending_of served k rs
pending_same served k [] = refl
pending_same served k (r ∷ rs) = by_test (has_place k served) (k, r) (pending_of served (suc k) rs) (frozen.pending_of served (suc k) rs) (pending_same served (suc k) rs)
