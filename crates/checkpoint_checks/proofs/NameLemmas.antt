-- A name by its last number.
use Rattle.std.specs.Prelude.{◌≡◌, ℕ, [], ◌∷◌, ◌++◌}
use Rattle.std.proofs.Common.{refl, ap}
use Rattle.asp_model.specs.Names.{Name}
use Rattle.checkpoint_checks.specs.Maps.{Activities}
use Rattle.checkpoint_checks.specs.Names.{created_by, is_created, parted_behind}

parted_more : (k : ℕ) (front : Name) (last : ℕ) → parted_behind k (front ++ last ∷ []) ≡ (k ∷ front, last)
parted_more k [] last = refl
parted_more k (i ∷ front) last = ap (λ r. (k ∷ r.0, r.1)) (parted_more i front last)

pub created_at : (look : Activities) (front : Name) (last : ℕ) → is_created look (front ++ last ∷ []) ≡ created_by look (front, last)
created_at look [] last = refl
created_at look (k ∷ front) last = ap (created_by look) (parted_more k front last)

pub ruleset parted_is = (created_at)
