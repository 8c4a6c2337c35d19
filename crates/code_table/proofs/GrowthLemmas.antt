-- Tables that grow.
use Rattle.std.proofs.Common.{◌≡◌, ℕ, suc, ◌+◌, ◌<◌, ◌≤◌, ◌==◌, Bool, List, [], ◌∷◌, ◌++◌, length, refl, sym, ap, subst, ◌∙◌, arith}
use Rattle.code_table.specs.declared.code.Child.{Child}
use Rattle.code_table.specs.declared.code.Child.TheVariants as child
use Rattle.code_table.specs.declared.code.Kind.{Kind}
use Rattle.code_table.specs.declared.code.Kind.TheVariants as kind
use Rattle.code_table.specs.declared.code.MethodCode.{MethodCode}
use Rattle.code_table.specs.declared.code.Node.{Node}
use Rattle.code_table.specs.Pieces.{Piece, also, method}
use Rattle.code_table.specs.Fitting.{Fits, captured_names, body_scope, body_height}
use Rattle.code_table.specs.Uses.{uses}
use Rattle.code_table.specs.Tables.{this_or, piece_at, piece_of, pieces_of, head_of, bodies_of, node_piece, forest, pieces}
use Rattle.code_table.specs.Sound.{IsBelow, AllBelow, MethodsBelow, KindBelow, IsOrdered, IsSoundMethod, MethodsSound, KindSound, ClassesSound}
use Rattle.code_table.proofs.TableLemmas.{same, forest_keeps, child_keeps}

pub forest_append : (ps : List Piece) (xs ys : List Node) → forest ps (xs ++ ys) ≡ forest (forest ps xs) ys
forest_append ps [] ys = refl
forest_append ps (x ∷ xs) ys = forest_append (node_piece ps x ∷ ps) xs ys

length_forest : (ps : List Piece) (ns : List Node) → length (forest ps ns) ≡ length ps + length ns
length_forest ps [] = omega arith
length_forest ps (n ∷ ns) = let next : suc (length ps) + length ns ≡ length ps + suc (length ns) = omega arith in length_forest (node_piece ps n ∷ ps) ns ∙ next

pub length-pieces : (ns : List Node) → length (pieces ns) ≡ length ns
length-pieces ns = let zero_add : 0 + length ns ≡ length ns = omega arith in length_forest [] ns ∙ zero_add

-- a table that grows keeps the pieces of its numbers
pub number_kept : (ns added : List Node) (i : ℕ) → i < length ns → piece_at (pieces (ns ++ added)) i ≡ piece_at (pieces ns) i
number_kept ns added i h = ap (λ (ps : List Piece). piece_at ps i) (forest_append [] ns added) ∙ forest_keeps (pieces ns) added i (subst (λ (n : ℕ). i < n) (sym (length-pieces ns)) h)

pub child_kept : (ns added : List Node) (c : Child) → IsBelow (length ns) c → piece_of (pieces (ns ++ added)) c ≡ piece_of (pieces ns) c
child_kept ns added c h = ap (λ (ps : List Piece). piece_of ps c) (forest_append [] ns added) ∙ child_keeps (pieces ns) added c (subst (λ (n : ℕ). IsBelow n c) (sym (length-pieces ns)) h)

-- the piece of a node that was put behind others
pub last_piece : (ns : List Node) (n : Node) → piece_at (pieces (ns ++ n ∷ [])) (length ns) ≡ node_piece (pieces ns) n
last_piece ns n =
    ap (λ (ps : List Piece). piece_at ps (length ns)) (forest_append [] ns (n ∷ []))
    ∙ ap (λ (k : ℕ). this_or (length ns == k) (node_piece (pieces ns) n) (piece_at (pieces ns) (length ns))) (length-pieces ns)
    ∙ ap (λ (b : Bool). this_or b (node_piece (pieces ns) n) (piece_at (pieces ns) (length ns))) (same (length ns))

ordered_more : (m : ℕ) (ms : List Node) (n : Node) → IsOrdered m ms → AllBelow (m + length ms) n.children.items → KindBelow (m + length ms) n.kind → IsOrdered m (ms ++ n ∷ [])
ordered_more m [] n o h g = let at : m + 0 ≡ m = omega arith in (subst (λ (k : ℕ). AllBelow k n.children.items) at h, subst (λ (k : ℕ). KindBelow k n.kind) at g, tt)
ordered_more m (x ∷ ms) n o h g =
    let at : m + suc (length ms) ≡ suc m + length ms = omega arith in
    (o.0, o.1, ordered_more (suc m) ms n o.2 (subst (λ (k : ℕ). AllBelow k n.children.items) at h) (subst (λ (k : ℕ). KindBelow k n.kind) at g))

pub ordered_put : (ns : List Node) (n : Node) → IsOrdered 0 ns → AllBelow (length ns) n.children.items → KindBelow (length ns) n.kind → IsOrdered 0 (ns ++ n ∷ [])
ordered_put ns n o h g =
    let at : length ns ≡ 0 + length ns = omega arith in
    ordered_more 0 ns n o (subst (λ (k : ℕ). AllBelow k n.children.items) at h) (subst (λ (k : ℕ). KindBelow k n.kind) at g)

-- what stands below a number stands below a higher one

pub below_more : (m n : ℕ) (c : Child) → m ≤ n → IsBelow m c → IsBelow n c
below_more m n (child.Leaf l) le h = tt
below_more m n (child.Node i) le h = omega (arith, h, le)

pub all_below_more : (m n : ℕ) (cs : List Child) → m ≤ n → AllBelow m cs → AllBelow n cs
all_below_more m n [] le h = tt
all_below_more m n (c ∷ cs) le h = (below_more m n c le h.0, all_below_more m n cs le h.1)

pub methods_below_more : (m n : ℕ) (ms : List MethodCode) → m ≤ n → MethodsBelow m ms → MethodsBelow n ms
methods_below_more m n [] le h = tt
methods_below_more m n (x ∷ xs) le h = (below_more m n x.body le h.0, methods_below_more m n xs le h.1)

pub methods_below_append : (m : ℕ) (xs ys : List MethodCode) → MethodsBelow m xs → MethodsBelow m ys → MethodsBelow m (xs ++ ys)
methods_below_append m [] ys h g = g
methods_below_append m (x ∷ xs) ys h g = (h.0, methods_below_append m xs ys h.1 g)

pub all_below_append : (m : ℕ) (xs ys : List Child) → AllBelow m xs → AllBelow m ys → AllBelow m (xs ++ ys)
all_below_append m [] ys h g = g
all_below_append m (x ∷ xs) ys h g = (h.0, all_below_append m xs ys h.1 g)

-- what stands in a table that grows stays what it is

pub children_kept : (ns added : List Node) (cs : List Child) → AllBelow (length ns) cs → pieces_of (pieces (ns ++ added)) cs ≡ pieces_of (pieces ns) cs
children_kept ns added [] h = refl
children_kept ns added (c ∷ cs) h = λ i. also (child_kept ns added c h.0 i) (children_kept ns added cs h.1 i)

pub bodies_kept : (ns added : List Node) (ms : List MethodCode) → MethodsBelow (length ns) ms → bodies_of (pieces (ns ++ added)) ms ≡ bodies_of (pieces ns) ms
bodies_kept ns added [] h = refl
bodies_kept ns added (m ∷ ms) h = λ i. method (head_of m) m.captured.items (child_kept ns added m.body h.0 i) (bodies_kept ns added ms h.1 i)

sound_kept : (ps qs : List Piece) (m : MethodCode) → piece_of qs m.body ≡ piece_of ps m.body → IsSoundMethod ps m → IsSoundMethod qs m
sound_kept ps qs m e s = record {
  fits = subst (Fits (captured_names m.captured.items) (body_scope m.captured.items (head_of m)) (body_height m.captured.items (head_of m))) (sym e) s.fits;
  uses = s.uses ∙ ap uses (sym e);
}

pub methods_sound_kept : (ns added : List Node) (ms : List MethodCode) → MethodsBelow (length ns) ms → MethodsSound (pieces ns) ms → MethodsSound (pieces (ns ++ added)) ms
methods_sound_kept ns added [] h s = tt
methods_sound_kept ns added (m ∷ ms) h s = (sound_kept (pieces ns) (pieces (ns ++ added)) m (child_kept ns added m.body h.0) s.0, methods_sound_kept ns added ms h.1 s.1)

kind_sound_kept : (ns added : List Node) (k : Kind) → KindBelow (length ns) k → KindSound (pieces ns) k → KindSound (pieces (ns ++ added)) k
kind_sound_kept ns added (kind.Make k) h s = (methods_sound_kept ns added k.value.methods.items h s.0, s.1)
kind_sound_kept ns added _ h s = tt

kind_below_more : (m n : ℕ) (k : Kind) → m ≤ n → KindBelow m k → KindBelow n k
kind_below_more m n (kind.Make k) le h = methods_below_more m n k.value.methods.items le h
kind_below_more m n _ le h = tt

classes_kept : (ns added : List Node) (m : ℕ) (xs : List Node) → m + length xs ≤ length ns → IsOrdered m xs → ClassesSound (pieces ns) xs → ClassesSound (pieces (ns ++ added)) xs
classes_kept ns added m [] le o s = tt
classes_kept ns added m (x ∷ xs) le o s =
    let here : m ≤ length ns = omega (arith, le) in
    let later : suc m + length xs ≤ length ns = omega (arith, le) in
    (kind_sound_kept ns added x.kind (kind_below_more m (length ns) x.kind here o.1) s.0, classes_kept ns added (suc m) xs later o.2 s.1)

classes_put : (ps : List Piece) (xs : List Node) (n : Node) → ClassesSound ps xs → KindSound ps n.kind → ClassesSound ps (xs ++ n ∷ [])
classes_put ps [] n s k = (k, tt)
classes_put ps (x ∷ xs) n s k = (s.0, classes_put ps xs n s.1 k)

-- a sound node behind others
pub sound_put : (ns : List Node) (n : Node) → IsOrdered 0 ns → ClassesSound (pieces ns) ns → KindBelow (length ns) n.kind → KindSound (pieces ns) n.kind → ClassesSound (pieces (ns ++ n ∷ [])) (ns ++ n ∷ [])
sound_put ns n o s h k =
    let all : 0 + length ns ≤ length ns = omega arith in
    classes_put (pieces (ns ++ n ∷ [])) ns n (classes_kept ns (n ∷ []) 0 ns all o s) (kind_sound_kept ns (n ∷ []) n.kind h k)
