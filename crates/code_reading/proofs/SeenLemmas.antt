-- What stands in slots, by trees.
use Rattle.std.proofs.Common.{◌≡◌, ℕ, zero, suc, ◌<◌, ◌≤◌, List, [], ◌∷◌, ◌++◌, length, map, get_or, refl, sym, ap, arith}
use Rattle.asp_model.specs.Term.{Tree, more, trees}
use Rattle.code_laws.specs.Shown.{tree_or}
use Rattle.code_reading.specs.declared.seen.Seen.{Seen}
use Rattle.code_reading.specs.Decoded.{seen_tree, trees_then}

pub tree_kept : (d : Tree) (k : ℕ) (kept : List Seen) (s : Seen) → k < length kept → s ≡ get_or kept k s → tree_or d k (map seen_tree kept) ≡ seen_tree s
tree_kept d k [] s lt e = absurd (omega (arith, lt))
tree_kept d zero (x ∷ kept) s lt e = ap seen_tree (sym e)
tree_kept d (suc k) (x ∷ kept) s lt e = let less : k < length kept = omega (arith, lt) in tree_kept d k kept s less e

pub tree_past : (d : Tree) (k : ℕ) (kept : List Seen) → length kept ≤ k → tree_or d k (map seen_tree kept) ≡ d
tree_past d k [] le = refl
tree_past d zero (x ∷ kept) le = absurd (omega (arith, le))
tree_past d (suc k) (x ∷ kept) le = let less : length kept ≤ k = omega (arith, le) in tree_past d k kept less

pub trees_append : (xs ys : List Tree) → trees (xs ++ ys) ≡ trees_then xs (trees ys)
trees_append [] ys = refl
trees_append (x ∷ xs) ys = ap (more x) (trees_append xs ys)
