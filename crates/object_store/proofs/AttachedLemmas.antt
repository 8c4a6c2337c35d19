-- Shared cells, with their places where they go.
use Rattle.std.proofs.Common.{◌≡◌, ℕ, zero, suc, ◌+◌, ◌<◌, ◌≤◌, [], ◌∷◌, ◌++◌, length, map, take, drop, append-nil, refl, sym, ap, ◌∙◌, arith}
use Rattle.code_table.specs.Cells.{CodedStore, cell_at, moved_coded}

-- there are as many as are counted
pub attached_length : (f : ℕ → ℕ) (from count : ℕ) (cs : CodedStore) → from + count ≤ length cs → length (map (moved_coded f) (take count (drop from cs))) ≡ count
attached_length f zero zero cs le = refl
attached_length f zero (suc n) [] le = absurd (omega (arith, le))
attached_length f zero (suc n) (c ∷ cs) le = ap suc (attached_length f zero n cs (omega (arith, le)))
attached_length f (suc k) n [] le = absurd (omega (arith, le))
attached_length f (suc k) n (c ∷ cs) le = attached_length f k n cs (omega (arith, le))

-- the cell with a number is one of all, with its places where they go
pub attached_cell : (f : ℕ → ℕ) (from count : ℕ) (cs : CodedStore) (i p : ℕ) → p ≡ from + i → i < count → from + count ≤ length cs → moved_coded f (cell_at cs p) ≡ cell_at (map (moved_coded f) (take count (drop from cs))) i
attached_cell f zero zero cs i p e lt le = absurd (omega (arith, lt))
attached_cell f zero (suc n) [] i p e lt le = absurd (omega (arith, le))
attached_cell f zero (suc n) (c ∷ cs) zero zero e lt le = refl
attached_cell f zero (suc n) (c ∷ cs) zero (suc p) e lt le = absurd (omega (arith, e))
attached_cell f zero (suc n) (c ∷ cs) (suc i) zero e lt le = absurd (omega (arith, e))
attached_cell f zero (suc n) (c ∷ cs) (suc i) (suc p) e lt le = attached_cell f zero n cs i p (omega (arith, e)) (omega (arith, lt)) (omega (arith, le))
attached_cell f (suc k) n [] i p e lt le = absurd (omega (arith, le))
attached_cell f (suc k) n (c ∷ cs) i zero e lt le = absurd (omega (arith, e))
attached_cell f (suc k) n (c ∷ cs) i (suc p) e lt le = attached_cell f k n cs i p (omega (arith, e)) lt (omega (arith, le))

-- fewer of them
pub attached_first : (f : ℕ → ℕ) (n count : ℕ) (cs : CodedStore) → n ≤ count → map (moved_coded f) (take n cs) ≡ take n (map (moved_coded f) (take count cs))
attached_first f zero count cs le = refl
attached_first f (suc n) zero cs le = absurd (omega (arith, le))
attached_first f (suc n) (suc m) [] le = refl
attached_first f (suc n) (suc m) (c ∷ cs) le = ap (λ (s : CodedStore). moved_coded f c ∷ s) (attached_first f n m cs (omega (arith, le)))

none_behind : (n : ℕ) (cs : CodedStore) → length cs ≤ n → drop n cs ≡ []
none_behind zero [] le = refl
none_behind zero (c ∷ cs) le = absurd (omega (arith, le))
none_behind (suc n) [] le = refl
none_behind (suc n) (c ∷ cs) le = none_behind n cs (omega (arith, le))

-- where none is behind, none is attached
pub none_attached : (f : ℕ → ℕ) (from : ℕ) (s cs : CodedStore) → length cs ≤ from → s ≡ s ++ map (moved_coded f) (drop from cs)
none_attached f from s cs le = sym (ap (λ (u : CodedStore). s ++ map (moved_coded f) u) (none_behind from cs le) ∙ append-nil s)

pub behind_length : (f : ℕ → ℕ) (from : ℕ) (cs : CodedStore) → from ≤ length cs → from + length (map (moved_coded f) (drop from cs)) ≡ length cs
behind_length f zero [] le = refl
behind_length f zero (c ∷ cs) le = let rest = behind_length f zero cs (omega arith) in omega (arith, rest)
behind_length f (suc k) [] le = absurd (omega (arith, le))
behind_length f (suc k) (c ∷ cs) le = let rest = behind_length f k cs (omega (arith, le)) in omega (arith, rest)
