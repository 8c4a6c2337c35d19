-- Nodes, and terms to a depth.
use Rattle.std.proofs.Common.{◌≡◌, ℕ, zero, suc, ◌+◌, ◌<◌, ◌≤◌, ◌^◌, List, [], ◌∷◌, ◌++◌, length, Some, refl, sym, ap, ◌∙◌, append_assoc, arith}
use Rattle.std.specs.Fmt.{decimal}
use Rattle.std.proofs.lemmas.List.{append-nil}
use Rattle.asp_model.specs.Names.{Text}
use Rattle.asp_model.specs.Term.{MethodHead, Head, Loc, Hole, Var, Number, Make, Get, Put, Call, Clone, Active, Serve, Let, Steps, If, Repeat, Operate, Print, Echo, Group, Scatter, Size, Member, WaitAll, Pending, Tree, Trees, node, none, more, trees, leaf, one, two, loc, child_count}
use Rattle.checkpoint_text.specs.Items.{Items, terms_items, head_items, list_items, text_items, option_items, pair_items, term_items, items_below}
use Rattle.checkpoint_text.specs.Reading.{Reader, reads, both, list_of, text, variant, reader_at, method_with, object_tree, kinds, term_to}
use Rattle.checkpoint_text.proofs.TermLemmas.{sign_items, below_none, below_one, below_two, below_three, listed, trees_listed, all_listed, below_are}
use Rattle.checkpoint_text.proofs.ObjectLemmas.{object_items, object_again, zipped, behind}
use Rattle.law_checkpoint_texts.proofs.SureLemmas.{IsSureOf, IsAny, both_sure, signed_sure, list_sure, at_variant, nothing_sure, value_sure}
use Rattle.law_checkpoint_texts.proofs.TermLemmas.{text_sure, texts_sure, optional_text_sure, place_sure, sign_sure, HasArities, HaveArities, arities_below, zip_arities, behind_arities, object_sure}

-- Items of a node in another order of brackets

two_items : (a b : Items) → a ++ (b ++ []) ≡ a ++ b
two_items a b = ap (λ (items : Items). a ++ items) (append-nil b)

three_items : (a b c : Items) → a ++ (b ++ (c ++ [])) ≡ a ++ (b ++ c)
three_items a b c = ap (λ (items : Items). a ++ items) (two_items b c)

named_items : (a b c : Items) → (a ++ b) ++ (c ++ []) ≡ a ++ (b ++ c)
named_items a b c = append_assoc a b (c ++ []) ∙ three_items a b c

-- nodes, by how many terms stand below
module _ {X : Type 0} {q : Reader X} {f : X → Items} {S : X → Type 0} (s : IsSureOf q f S) (h : Head) (g : X → Tree)
    (ts : Trees) (ws : Items) (r : Tree × Items) where
  leaf_sure : (x : X) → child_count ts ≡ 0 → S x → head_items h [] ≡ f x → g x ≡ leaf h
      → reads q g (head_items h (items_below ts) ++ ws) ≡ Some r → r ≡ (node h ts, ws)
  leaf_sure x n good same is e =
      let v = below_none HasArities ts n in
      value_sure s g x (head_items h (items_below ts)) ws r (node h ts) good
      (ap (λ (us : Trees). head_items h (items_below us)) v ∙ same) (is ∙ ap (node h) (sym v)) e

  one_sure : (x : Tree → X) → child_count ts ≡ 1 → HaveArities ts → ((t : Tree) → HasArities t → S (x t))
      → ((t : Tree) → head_items h (items_below (more t none)) ≡ f (x t)) → ((t : Tree) → g (x t) ≡ one h t)
      → reads q g (head_items h (items_below ts) ++ ws) ≡ Some r → r ≡ (node h ts, ws)
  one_sure x n a good same is e =
      let v = below_one HasArities ts n (arities_below ts a) in
      value_sure s g (x v.0) (head_items h (items_below ts)) ws r (node h ts) (good v.0 v.2)
      (ap (λ (us : Trees). head_items h (items_below us)) v.1 ∙ same v.0) (is v.0 ∙ ap (node h) (sym v.1)) e

  two_sure : (x : Tree → Tree → X) → child_count ts ≡ 2 → HaveArities ts
      → ((t u : Tree) → HasArities t → HasArities u → S (x t u))
      → ((t u : Tree) → head_items h (items_below (more t (more u none))) ≡ f (x t u))
      → ((t u : Tree) → g (x t u) ≡ two h t u)
      → reads q g (head_items h (items_below ts) ++ ws) ≡ Some r → r ≡ (node h ts, ws)
  two_sure x n a good same is e =
      let v = below_two HasArities ts n (arities_below ts a) in
      value_sure s g (x v.0 v.1) (head_items h (items_below ts)) ws r (node h ts) (good v.0 v.1 v.3 v.4)
      (ap (λ (us : Trees). head_items h (items_below us)) v.2 ∙ same v.0 v.1) (is v.0 v.1 ∙ ap (node h) (sym v.2)) e

module _ (p : Reader Tree) (s : IsSureOf p term_items HasArities) where
  bare_sure : (h : Head) (ts : Trees) (ws : Items) (r : Tree × Items) → head_items h ≡ head_items Clone
      → child_count ts ≡ 1 → HaveArities ts → reads p (one h) (head_items h (items_below ts) ++ ws) ≡ Some r
      → r ≡ (node h ts, ws)
  bare_sure h ts ws r same n a e = one_sure s h (one h) ts ws r (λ t. t) n a (λ t q. q)
      (λ t. ap (λ (f : List Items → Items). f (items_below (more t none))) same ∙ append-nil (term_items t))
      (λ t. refl) e

  pair_sure : IsSureOf (both p p) (pair_items term_items term_items) (λ r. HasArities r.0 × HasArities r.1)
  pair_sure = both_sure s s

  put_sure : IsSureOf (both p (both text p)) (pair_items term_items (pair_items text_items term_items))
      (λ r. HasArities r.0 × (IsAny r.1.0 × HasArities r.1.1))
  put_sure = both_sure s (both_sure text_sure s)

  listed_items : (ts : Trees) → terms_items (items_below ts) ≡ list_items term_items (listed HasArities ts)
  listed_items ts =
      ap (λ (us : Trees). terms_items (items_below us)) (sym (trees_listed HasArities ts))
      ∙ below_are (listed HasArities ts)

  listed_sure : (h : Head) (ts : Trees) (ws : Items) (r : Tree × Items) → head_items h ≡ terms_items → HaveArities ts
      → reads (list_of p) (λ us. node h (trees us)) (head_items h (items_below ts) ++ ws) ≡ Some r → r ≡ (node h ts, ws)
  listed_sure h ts ws r same a e =
      value_sure (list_sure s) (λ us. node h (trees us)) (listed HasArities ts) (head_items h (items_below ts)) ws r
      (node h ts) (all_listed HasArities ts (arities_below ts a))
      (ap (λ (f : List Items → Items). f (items_below ts)) same ∙ listed_items ts)
      (ap (node h) (trees_listed HasArities ts)) e

  call_sure : (l : Text) (ts : Trees) (ws : Items) (r : Tree × Items) → 1 ≤ child_count ts → HaveArities ts
      → reads (both p (both text (list_of p))) (λ r. node (Call r.1.0) (more r.0 (trees r.1.1)))
      (head_items (Call l) (items_below ts) ++ ws) ≡ Some r → r ≡ (node (Call l) ts, ws)
  call_sure l none ws r n a e = absurd (omega arith)
  call_sure l (more t ts) ws r n a e =
      value_sure (both_sure s (both_sure text_sure (list_sure s))) (λ r. node (Call r.1.0) (more r.0 (trees r.1.1)))
      (t, (l, listed HasArities ts)) (head_items (Call l) (items_below (more t ts))) ws r
      (node (Call l) (more t ts))
      (a.0, (tt, all_listed HasArities ts (arities_below ts a.1)))
      (append_assoc (term_items t) (text_items l) (terms_items (items_below ts))
      ∙ ap (λ (items : Items). term_items t ++ (text_items l ++ items)) (listed_items ts))
      (ap (λ (us : Trees). node (Call l) (more t us)) (trees_listed HasArities ts)) e

  if_sure : (ts : Trees) (ws : Items) (r : Tree × Items) → child_count ts ≡ 3 → HaveArities ts
      → reads (both p (both p p)) (λ r. node If (more r.0 (more r.1.0 (more r.1.1 none))))
      (head_items If (items_below ts) ++ ws) ≡ Some r → r ≡ (node If ts, ws)
  if_sure ts ws r n a e =
      let v = below_three HasArities ts n (arities_below ts a) in
      value_sure (both_sure s pair_sure) (λ r. node If (more r.0 (more r.1.0 (more r.1.1 none)))) (v.0, (v.1, v.2))
      (head_items If (items_below ts)) ws r (node If ts) (v.4, (v.5, v.6))
      (ap (λ (us : Trees). head_items If (items_below us)) v.3
      ∙ three_items (term_items v.0) (term_items v.1) (term_items v.2)) (ap (node If) (sym v.3)) e

  made_sure : (ls : List Text) (ms : List MethodHead) (ts : Trees) (ws : Items) (r : Tree × Items)
      → child_count ts ≡ length ls + length ms → HaveArities ts
      → reads (both (list_of (both text p)) (list_of (method_with p))) (λ r. object_tree r.0 r.1)
      (head_items (Make ls ms) (items_below ts) ++ ws) ≡ Some r → r ≡ (node (Make ls ms) ts, ws)
  made_sure ls ms ts ws r n a e =
      let below = arities_below ts a in
      value_sure (object_sure p s) (λ r. object_tree r.0 r.1) (zipped ls ts, zipped ms (behind ls ts))
      (head_items (Make ls ms) (items_below ts)) ws r (node (Make ls ms) ts)
      (zip_arities ls ts below, zip_arities ms (behind ls ts) (behind_arities ls ts below)) (object_items ls ms ts n)
      (object_again ls ms ts n) e

  at : (k : ℕ) (h : Head) (ts : Trees) (ws : Items) (r : Tree × Items) → k < 2 ^ 64
      → term_items (node h ts) ≡ decimal k ∷ head_items h (items_below ts)
      → variant (kinds p) (term_items (node h ts) ++ ws) ≡ Some r
      → reader_at (kinds p) k (head_items h (items_below ts) ++ ws) ≡ Some r
  at k h ts ws r below same e =
      at_variant k (kinds p) (head_items h (items_below ts)) ws r below
      (ap (λ (items : Items). variant (kinds p) (items ++ ws)) (sym same) ∙ e)

  node_sure : (h : Head) (ts : Trees) (ws : Items) (r : Tree × Items) → HasArities (node h ts)
      → variant (kinds p) (term_items (node h ts) ++ ws) ≡ Some r → r ≡ (node h ts, ws)
  node_sure (Loc n) ts ws r g e =
      leaf_sure place_sure (Loc n) loc ts ws r n g.0 tt refl refl (at 0 (Loc n) ts ws r (omega arith) refl e)
  node_sure Hole ts ws r g e =
      nothing_sure (leaf Hole) ws r (at 1 Hole ts ws r (omega arith) refl e)
      ∙ (λ i. (node Hole (sym (below_none HasArities ts g.0) i), ws))
  node_sure (Var x) ts ws r g e =
      leaf_sure text_sure (Var x) (λ y. leaf (Var y)) ts ws r x g.0 tt refl refl
      (at 2 (Var x) ts ws r (omega arith) refl e)
  node_sure (Number n) ts ws r g e =
      leaf_sure signed_sure (Number n) (λ y. leaf (Number y)) ts ws r n g.0 tt refl refl
      (at 3 (Number n) ts ws r (omega arith) refl e)
  node_sure (Make ls ms) ts ws r g e = made_sure ls ms ts ws r g.0 g.1 (at 4 (Make ls ms) ts ws r (omega arith) refl e)
  node_sure (Get l) ts ws r g e =
      one_sure (both_sure s text_sure) (Get l) (λ r. one (Get r.1) r.0) ts ws r (λ t. (t, l)) g.0 g.1 (λ t q. (q, tt))
      (λ t. append-nil (term_items t ++ text_items l)) (λ t. refl) (at 5 (Get l) ts ws r (omega arith) refl e)
  node_sure (Put l) ts ws r g e =
      two_sure put_sure (Put l) (λ r. two (Put r.1.0) r.0 r.1.1) ts ws r (λ t u. (t, (l, u))) g.0 g.1
      (λ t u q v. (q, (tt, v))) (λ t u. named_items (term_items t) (text_items l) (term_items u)) (λ t u. refl)
      (at 6 (Put l) ts ws r (omega arith) refl e)
  node_sure (Call l) ts ws r g e = call_sure l ts ws r g.0 g.1 (at 7 (Call l) ts ws r (omega arith) refl e)
  node_sure Clone ts ws r g e = bare_sure Clone ts ws r refl g.0 g.1 (at 8 Clone ts ws r (omega arith) refl e)
  node_sure (Active o) ts ws r g e =
      one_sure (both_sure s optional_text_sure) (Active o) (λ r. one (Active r.1) r.0) ts ws r (λ t. (t, o)) g.0 g.1
      (λ t q. (q, tt))
      (λ t. ap (λ (items : Items). items ++ option_items text_items o) (append-nil (term_items t))) (λ t. refl)
      (at 9 (Active o) ts ws r (omega arith) refl e)
  node_sure (Serve ls) ts ws r g e =
      leaf_sure texts_sure (Serve ls) (λ y. leaf (Serve y)) ts ws r ls g.0 tt refl refl
      (at 10 (Serve ls) ts ws r (omega arith) refl e)
  node_sure (Let x) ts ws r g e =
      two_sure (both_sure text_sure pair_sure) (Let x) (λ r. two (Let r.0) r.1.0 r.1.1) ts ws r
      (λ t u. (x, (t, u))) g.0 g.1 (λ t u q v. (tt, (q, v)))
      (λ t u. three_items (text_items x) (term_items t) (term_items u)) (λ t u. refl)
      (at 11 (Let x) ts ws r (omega arith) refl e)
  node_sure Steps ts ws r g e = listed_sure Steps ts ws r refl g.1 (at 12 Steps ts ws r (omega arith) refl e)
  node_sure If ts ws r g e = if_sure ts ws r g.0 g.1 (at 13 If ts ws r (omega arith) refl e)
  node_sure Repeat ts ws r g e = bare_sure Repeat ts ws r refl g.0 g.1 (at 14 Repeat ts ws r (omega arith) refl e)
  node_sure (Operate o) ts ws r g e =
      two_sure (both_sure sign_sure pair_sure) (Operate o) (λ r. two (Operate r.0) r.1.0 r.1.1) ts ws r
      (λ t u. (o, (t, u))) g.0 g.1 (λ t u q v. (tt, (q, v)))
      (λ t u. three_items (sign_items o) (term_items t) (term_items u)) (λ t u. refl)
      (at 15 (Operate o) ts ws r (omega arith) refl e)
  node_sure Print ts ws r g e = bare_sure Print ts ws r refl g.0 g.1 (at 16 Print ts ws r (omega arith) refl e)
  node_sure (Echo x) ts ws r g e =
      leaf_sure text_sure (Echo x) (λ y. leaf (Echo y)) ts ws r x g.0 tt refl refl
      (at 17 (Echo x) ts ws r (omega arith) refl e)
  node_sure Group ts ws r g e = listed_sure Group ts ws r refl g.1 (at 18 Group ts ws r (omega arith) refl e)
  node_sure (Scatter l) ts ws r g e =
      two_sure put_sure (Scatter l) (λ r. two (Scatter r.1.0) r.0 r.1.1) ts ws r (λ t u. (t, (l, u))) g.0 g.1
      (λ t u q v. (q, (tt, v))) (λ t u. named_items (term_items t) (text_items l) (term_items u)) (λ t u. refl)
      (at 19 (Scatter l) ts ws r (omega arith) refl e)
  node_sure Size ts ws r g e = bare_sure Size ts ws r refl g.0 g.1 (at 20 Size ts ws r (omega arith) refl e)
  node_sure Member ts ws r g e =
      two_sure pair_sure Member (λ r. two Member r.0 r.1) ts ws r (λ t u. (t, u)) g.0 g.1 (λ t u q v. (q, v))
      (λ t u. two_items (term_items t) (term_items u)) (λ t u. refl) (at 21 Member ts ws r (omega arith) refl e)
  node_sure WaitAll ts ws r g e = bare_sure WaitAll ts ws r refl g.0 g.1 (at 22 WaitAll ts ws r (omega arith) refl e)
  node_sure (Pending ls) ts ws r g e =
      leaf_sure texts_sure (Pending ls) (λ y. leaf (Pending y)) ts ws r ls g.0 tt refl refl
      (at 23 (Pending ls) ts ws r (omega arith) refl e)

  one_node : (t : Tree) (ws : Items) (r : Tree × Items) → HasArities t → variant (kinds p) (term_items t ++ ws) ≡ Some r
      → r ≡ (t, ws)
  one_node (node h ts) ws r g e = node_sure h ts ws r g e

  each_sure : IsSureOf (variant (kinds p)) term_items HasArities
  each_sure = record { sure = one_node }

-- to a depth: a deeper term is not read
none_sure : (t : Tree) (ws : Items) (r : Tree × Items) → HasArities t → term_to 0 (term_items t ++ ws) ≡ Some r
    → r ≡ (t, ws)
none_sure t ws r g e = absurd cc

pub term_sure : (depth : ℕ) → IsSureOf (term_to depth) term_items HasArities
term_sure zero = record { sure = none_sure }
term_sure (suc depth) =
    let s = each_sure (term_to depth) (term_sure depth) in
    record { sure = λ t ws r g e. s.sure t ws r g e }
