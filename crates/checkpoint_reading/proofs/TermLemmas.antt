-- Terms level by level.
use Rattle.std.proofs.Common.{◌≡◌, ℕ, zero, suc, ◌+◌, ◌-◌, ◌^◌, ◌<◌, ◌≤◌, List, [], ◌∷◌, ◌++◌, length, map, Option, Some, None, Result, refl, ap, sym, subst, ◌∙◌, arith}
use Rattle.checkpoint_text.specs.Items.{Items}
use Rattle.checkpoint_text.specs.Reading.{Reader, chosen, kinds, number_to, object_tree, reader_at, term, term_to}
use Rattle.std.specs.Global.{Vec}
use Rattle.asp_model.specs.declared.word.Label.{Label}
use Rattle.asp_model.specs.declared.term.Mark.{Mark}
use Rattle.asp_model.specs.declared.term.Term.{Term}
use Rattle.asp_model.specs.declared.term.Term.TheVariants.{Make}
use Rattle.asp_model.specs.declared.term.Method.{Method}
use Rattle.asp_model.specs.Shapes.{tree_of}
use Rattle.asp_model.specs.Term as term_tree
use Rattle.asp_model.specs.Term.{MethodHead, Tree, node, trees}
use Rattle.asp_model.specs.Names.{Text}
use Rattle.code_table.specs.Parts.{body_tree, field_label, field_tree, method_head}
use Rattle.code_table.proofs.TermTrees.{make_is}
use Rattle.checkpoint_items.specs.declared.error.ReadError.{ReadError}
use Rattle.checkpoint_items.specs.Answers.{Finds, Refuses}
use Rattle.checkpoint_items.proofs.ListLemmas.{moved, refused_by}
use Rattle.checkpoint_reading.specs.Terms.{field_pair, level, method_pair}

found_same : {X Y : Type 0} (f : Y → X) (a b : Option (X × Items)) (us : Items) (r : Result Y ReadError) → a ≡ b → Finds f b us r → Finds f a us r
found_same {X = X} f a b us r e h = subst (λ (o : Option (X × Items)). Finds f o us r) (sym e) h

-- as many levels as there is memory for make each term
all_levels : level 200 ≡ term
unfolding level term
all_levels = refl

opened : (depth : ℕ) (ws : Items) → 0 < depth → level depth ws ≡ chosen (number_to (2 ^ 64) ws) (reader_at (kinds (level (depth - 1))))
unfolding level
opened depth ws h =
    let one : depth + 24800 ≡ suc ((depth - 1) + 24800) = omega arith in
    ap (λ (k : ℕ). term_to k ws) one

-- behind the number of its kind
at_kind : (depth kind : ℕ) (ws us : Items) → 0 < depth → number_to (2 ^ 64) ws ≡ Some (kind, us) → level depth ws ≡ reader_at (kinds (level (depth - 1))) kind us
at_kind depth kind ws us h e = opened depth ws h ∙ ap (λ (o : Option (ℕ × Items)). chosen o (reader_at (kinds (level (depth - 1))))) e

pub no_kind : (depth : ℕ) (ws : Items) (e : ReadError) → 0 < depth → Refuses (number_to (2 ^ 64) ws) e → Refuses (level depth ws) e
no_kind depth ws e h r =
    moved (level depth ws) _ e (opened depth ws h)
    (refused_by (λ (o : Option (ℕ × Items)). chosen o (reader_at (kinds (level (depth - 1))))) refl (number_to (2 ^ 64) ws) e r)

past : {X : Type 0} (ps : List (Reader X)) (k : ℕ) (ws : Items) → length ps ≤ k → reader_at ps k ws ≡ None
past [] k ws h = refl
past (p ∷ ps) zero ws h = absurd (omega arith)
past (p ∷ ps) (suc k) ws h = past ps k ws (omega arith)

pub unknown_kind : (depth kind : ℕ) (ws us : Items) → 0 < depth → number_to (2 ^ 64) ws ≡ Some (kind, us) → 24 ≤ kind → level depth ws ≡ None
unknown_kind depth kind ws us h e k = at_kind depth kind ws us h e ∙ past (kinds (level (depth - 1))) kind us k

pub read_on : (depth kind : ℕ) (ws us vs : Items) (r : Result Term ReadError) → 0 < depth → number_to (2 ^ 64) ws ≡ Some (kind, us)
    → Finds tree_of (reader_at (kinds (level (depth - 1))) kind us) vs r → Finds tree_of (level depth ws) vs r
read_on depth kind ws us vs r h e f = found_same tree_of (level depth ws) (reader_at (kinds (level (depth - 1))) kind us) vs r (at_kind depth kind ws us h e) f

pub as_term : (ws us : Items) (r : Result Term ReadError) → Finds tree_of (level 200 ws) us r → Finds tree_of (term ws) us r
as_term ws us r f = found_same tree_of (term ws) (level 200 ws) us r (ap (λ (p : Reader Tree). p ws) (sym all_levels)) f

-- Nodes

-- a tree that was told, and the items behind it
abbrev pub as_told : Items → Tree → Option (Tree × Items)
as_told us t = Some (t, us)

pub as_tree : {us : Items} (a b : Tree) → b ≡ a → as_told us a ≡ as_told us b
as_tree {us = us} a b e = ap (as_told us) (sym e)

map_map : {A B C : Type 0} (f : A → B) (g : B → C) (h : A → C) → ((x : A) → g (f x) ≡ h x) → (xs : List A) → map g (map f xs) ≡ map h xs
map_map f g h e [] = refl
map_map f g h e (x ∷ xs) = λ i. e x i ∷ map_map f g h e xs i

pub object_is : (fs : Vec (Label × Term)) (ms : Vec Method) (m : Mark) → tree_of (Make fs ms m) ≡ object_tree (map field_pair fs.items) (map method_pair ms.items)
object_is fs ms m =
    make_is fs ms m
    ∙ sym (λ i. node (term_tree.Make (map_map field_pair (λ (x : Text × Tree). x.0) field_label (λ x. refl) fs.items i) (map_map method_pair (λ (x : MethodHead × Tree). x.0) method_head (λ x. refl) ms.items i))
    (trees (map_map field_pair (λ (x : Text × Tree). x.1) field_tree (λ x. refl) fs.items i ++ map_map method_pair (λ (x : MethodHead × Tree). x.1) body_tree (λ x. refl) ms.items i)))
