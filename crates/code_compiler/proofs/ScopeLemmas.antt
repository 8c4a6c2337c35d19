-- Names and their slots.
use Rattle.std.proofs.Common.{◌≡◌, ℕ, zero, suc, ◌+◌, ◌<◌, ◌≤◌, true, List, [], ◌∷◌, ◌++◌, length, take, get_or, refl, sym, ap, ◌∙◌, arith, append_assoc}
use Rattle.std.proofs.lemmas.List.{append-nil}
use Rattle.std.specs.List.{flat_map}
use Rattle.asp_model.specs.Names.{Text}
use Rattle.asp_model.specs.Term.{Environment, Var, leaf, has_text}
use Rattle.code_table.specs.declared.code.Capture.{Capture}
use Rattle.code_table.specs.declared.code.Leaf.{Leaf}
use Rattle.code_table.specs.declared.code.Leaf.TheVariants as leaves
use Rattle.code_table.specs.Pieces.{at_slot, leaf_tree, captured_trees}
use Rattle.code_table.specs.Fitting.{text_at, captured_names, leaf_name, LeafFits, CapturesFit}
use Rattle.code_table.specs.Uses.{leaf_use, use_at}
use Rattle.code_compiler.specs.Compiled.{AreAmong, variables}

-- What a method captured

at_variable : (k : ℕ) (xs : List Text) → k < length xs → at_slot k (variables xs) ≡ leaf (Var (text_at k xs))
at_variable k [] h = absurd (omega (arith, h))
at_variable zero (x ∷ xs) h = refl
at_variable (suc k) (x ∷ xs) h = let less : k < length xs = omega (arith, h) in at_variable k xs less

leaf_variable : (xs : List Text) (scope : Environment) (l : Leaf) → LeafFits xs scope l → leaf_tree (variables xs) l ≡ leaf (Var (leaf_name xs l))
leaf_variable xs scope (leaves.Own k x) h = refl
leaf_variable xs scope (leaves.Kept k) h = at_variable k xs h.0

pub leaf_is : (x : Text) (xs : List Text) (scope : Environment) (l : Leaf) → LeafFits xs scope l → x ≡ leaf_name xs l → leaf_tree (variables xs) l ≡ leaf (Var x)
leaf_is x xs scope l h e = leaf_variable xs scope l h ∙ ap (λ (y : Text). leaf (Var y)) (sym e)

pub captured_are : (xs : List Text) (scope : Environment) (cs : List Capture) → CapturesFit xs scope cs → captured_trees (variables xs) cs ≡ variables (captured_names cs)
captured_are xs scope [] h = refl
captured_are xs scope (c ∷ cs) h = λ i. leaf_is c.name xs scope c.leaf h.0 h.1 i ∷ captured_are xs scope cs h.2 i

pub among_at : (xs ys : List Text) (i : ℕ) (y : Text) → i < length ys → y ≡ get_or ys i y → AreAmong xs ys → has_text y xs ≡ true
among_at xs [] i y h e a = absurd (omega (arith, h))
among_at xs (z ∷ ys) zero y h e a = ap (λ (x : Text). has_text x xs) e ∙ a.0
among_at xs (z ∷ ys) (suc i) y h e a = let less : i < length ys = omega (arith, h) in among_at xs ys i y less e a.1

pub captures_snoc : (xs : List Text) (scope : Environment) (cs : List Capture) (c : Capture) → CapturesFit xs scope cs → LeafFits xs scope c.leaf → c.name ≡ leaf_name xs c.leaf → CapturesFit xs scope (cs ++ c ∷ [])
captures_snoc xs scope [] c h f e = (f, e, tt)
captures_snoc xs scope (d ∷ cs) c h f e = (h.0, h.1, captures_snoc xs scope cs c h.2 f e)

pub captured_snoc : (cs : List Capture) (c : Capture) → captured_names (cs ++ c ∷ []) ≡ captured_names cs ++ c.name ∷ []
captured_snoc [] c = refl
captured_snoc (d ∷ cs) c = ap (λ (xs : List Text). d.name ∷ xs) (captured_snoc cs c)

pub used_past : (cs : List Capture) (k : ℕ) → length cs ≤ k → use_at cs k ≡ []
used_past [] k h = refl
used_past (c ∷ cs) zero h = absurd (omega (arith, h))
used_past (c ∷ cs) (suc k) h = let less : length cs ≤ k = omega (arith, h) in used_past cs k less

pub used_at : (cs : List Capture) (k : ℕ) (c : Capture) → k < length cs → c ≡ get_or cs k c → leaf_use c.leaf ≡ use_at cs k
used_at [] k c h e = absurd (omega (arith, h))
used_at (d ∷ cs) zero c h e = ap (λ (x : Capture). leaf_use x.leaf) e
used_at (d ∷ cs) (suc k) c h e = let less : k < length cs = omega (arith, h) in used_at cs k c less e

uses_more : (cs : List Capture) (ks : List ℕ) (i : ℕ) (k : ℕ) → i < length ks → k ≡ get_or ks i 0 → flat_map (use_at cs) (take (suc i) ks) ≡ flat_map (use_at cs) (take i ks) ++ use_at cs k
uses_more cs [] i k h e = absurd (omega (arith, h))
uses_more cs (x ∷ ks) zero k h e = append-nil (use_at cs x) ∙ ap (use_at cs) (sym e)
uses_more cs (x ∷ ks) (suc i) k h e =
    let less : i < length ks = omega (arith, h) in
    ap (λ (l : List ℕ). use_at cs x ++ l) (uses_more cs ks i k less e) ∙ sym (append_assoc (use_at cs x) (flat_map (use_at cs) (take i ks)) (use_at cs k))

pub uses_step : (cs : List Capture) (ks : List ℕ) (i : ℕ) (k : ℕ) → i < length ks → k ≡ get_or ks i 0 → flat_map (use_at cs) (take (i + 1) ks) ≡ flat_map (use_at cs) (take i ks) ++ use_at cs k
uses_step cs ks i k h e = let next : i + 1 ≡ suc i = omega arith in ap (λ (j : ℕ). flat_map (use_at cs) (take j ks)) next ∙ uses_more cs ks i k h e
