-- Nodes: what stands behind each kind's number, and terms to a depth.
use Rattle.std.proofs.Common.{◌≡◌, ℕ, zero, suc, ◌+◌, ◌<◌, ◌^◌, List, [], ◌∷◌, ◌++◌, Option, Some, refl, sym, ap, ◌∙◌, append_assoc, arith}
use Rattle.std.specs.Fmt.{decimal}
use Rattle.std.proofs.lemmas.List.{append-nil}
use Rattle.asp_model.specs.Names.{Text}
use Rattle.asp_model.specs.Term.{MethodHead, Head, Loc, Hole, Var, Number, Make, Get, Put, Call, Clone, Active, Serve, Let, Steps, If, Repeat, Operate, Print, Echo, Group, Scatter, Size, Member, WaitAll, Pending, Tree, Trees, node, none, more, trees, leaf, one, two, loc, child_count}
use Rattle.checkpoint_text.specs.Items.{Items, number_items, signed_items, list_items, text_items, option_items, pair_items, terms_items, head_items, term_items, items_below}
use Rattle.checkpoint_text.specs.Reading.{Reader, told, reads, nothing, both, signed, list_of, text, option_of, variant, reader_at, place, sign, method_with, object_tree, kinds, term_to}
use Rattle.checkpoint_text.specs.Writable.{IsList, IsOptional, IsPlace, IsSigned, IsText, AllBelow, IsNode, IsTermTo}
use Rattle.checkpoint_text.proofs.CodecLemmas.{IsCodec, both_codec, list_codec, option_codec, IsVariant, AreVariants, variant_gives, variant_tells, nothing_tells, reads_tells}
use Rattle.checkpoint_text.proofs.TermLemmas.{text_codec, texts_codec, place_codec, signed_codec, sign_items, IsSign, sign_codec, below_none, below_one, below_two, below_three, listed, trees_listed, length_listed, all_listed, below_trees, count_trees, below_are}
use Rattle.checkpoint_text.proofs.ObjectLemmas.{IsObject, object_by, object_codec, object_items, object_again, object_parts, object_written, object_is_node, zipped, behind}

-- Items of a node in another order of brackets

two_items : (a b : Items) → a ++ (b ++ []) ≡ a ++ b
two_items a b = ap (λ (items : Items). a ++ items) (append-nil b)

three_items : (a b c : Items) → a ++ (b ++ (c ++ [])) ≡ a ++ (b ++ c)
three_items a b c = ap (λ (items : Items). a ++ items) (two_items b c)

named_items : (a b c : Items) → (a ++ b) ++ (c ++ []) ≡ a ++ (b ++ c)
named_items a b c = append_assoc a b (c ++ []) ∙ three_items a b c

-- a node of a kind, by what stands behind the kind's number
kind_gives : {X : Type 0} (r : Reader X) (f : X → Items) (P : X → Type 0) → IsCodec r f P → (h : X → Tree) (x : X) (items ws : Items) (u : Tree)
    → P x → items ≡ f x → h x ≡ u → reads r h (items ++ ws) ≡ Some (u, ws)
kind_gives r f P c h x items ws u good e q =
    ap (λ (bs : Items). told h (r (bs ++ ws))) e ∙ ap (told h) (c.gives x ws good) ∙ ap {B = Option (Tree × Items)} (λ v. Some (v, ws)) q

module _ (p : Reader Tree) (Q : Tree → Type 0) (c : IsCodec p term_items Q) where
  -- Fields of nodes

  pair_codec : IsCodec (both p p) (pair_items term_items term_items) (λ r. Q r.0 × Q r.1)
  pair_codec = both_codec p p term_items term_items Q Q c c

  triple_codec : IsCodec (both p (both p p)) (pair_items term_items (pair_items term_items term_items)) (λ r. Q r.0 × (Q r.1.0 × Q r.1.1))
  triple_codec = both_codec p (both p p) term_items (pair_items term_items term_items) Q (λ r. Q r.0 × Q r.1) c pair_codec

  labelled_codec : IsCodec (both p text) (pair_items term_items text_items) (λ r. Q r.0 × IsText r.1)
  labelled_codec = both_codec p text term_items text_items Q IsText c text_codec

  put_codec : IsCodec (both p (both text p)) (pair_items term_items (pair_items text_items term_items)) (λ r. Q r.0 × (IsText r.1.0 × Q r.1.1))
  put_codec = both_codec p (both text p) term_items (pair_items text_items term_items) Q (λ r. IsText r.0 × Q r.1) c
      (both_codec text p text_items term_items IsText Q text_codec c)

  terms_codec : IsCodec (list_of p) (list_items term_items) (IsList Q)
  terms_codec = list_codec p term_items Q c

  call_codec : IsCodec (both p (both text (list_of p))) (pair_items term_items (pair_items text_items (list_items term_items))) (λ r. Q r.0 × (IsText r.1.0 × IsList Q r.1.1))
  call_codec = both_codec p (both text (list_of p)) term_items (pair_items text_items (list_items term_items)) Q (λ r. IsText r.0 × IsList Q r.1) c
      (both_codec text (list_of p) text_items (list_items term_items) IsText (IsList Q) text_codec terms_codec)

  active_codec : IsCodec (both p (option_of text)) (pair_items term_items (option_items text_items)) (λ r. Q r.0 × IsOptional IsText r.1)
  active_codec = both_codec p (option_of text) term_items (option_items text_items) Q (IsOptional IsText) c (option_codec text text_items IsText text_codec)

  let_codec : IsCodec (both text (both p p)) (pair_items text_items (pair_items term_items term_items)) (λ r. IsText r.0 × (Q r.1.0 × Q r.1.1))
  let_codec = both_codec text (both p p) text_items (pair_items term_items term_items) IsText (λ r. Q r.0 × Q r.1) text_codec pair_codec

  operate_codec : IsCodec (both sign (both p p)) (pair_items sign_items (pair_items term_items term_items)) (λ r. IsSign r.0 × (Q r.1.0 × Q r.1.1))
  operate_codec = both_codec sign (both p p) sign_items (pair_items term_items term_items) IsSign (λ r. Q r.0 × Q r.1) sign_codec pair_codec

  -- What is read of a node

  bare_tells : (k : ℕ) (h : Head) → term_items (leaf h) ≡ decimal k ∷ [] → IsNode Q (leaf h) → IsVariant term_items (IsNode Q) k (nothing (leaf h))
  bare_tells k h same good = nothing_tells term_items (IsNode Q) k (leaf h) same good

  one_tells : (k : ℕ) (h : Head) → ((t : Tree) → term_items (one h t) ≡ decimal k ∷ (term_items t ++ [])) → ((t : Tree) → Q t → IsNode Q (one h t)) → IsVariant term_items (IsNode Q) k (reads p (one h))
  one_tells k h same good = reads_tells term_items (IsNode Q) k p term_items Q (one h) c
      (λ t. same t ∙ ap (λ (items : Items). decimal k ∷ items) (append-nil (term_items t))) good

  two_tells : (k : ℕ) (h : Head) → ((t u : Tree) → term_items (two h t u) ≡ decimal k ∷ (term_items t ++ (term_items u ++ []))) → ((t u : Tree) → Q t → Q u → IsNode Q (two h t u))
      → IsVariant term_items (IsNode Q) k (reads (both p p) (λ r. two h r.0 r.1))
  two_tells k h same good = reads_tells term_items (IsNode Q) k (both p p) (pair_items term_items term_items) (λ r. Q r.0 × Q r.1) (λ r. two h r.0 r.1) pair_codec
      (λ r. same r.0 r.1 ∙ ap (λ (items : Items). decimal k ∷ items) (two_items (term_items r.0) (term_items r.1))) (λ r g. good r.0 r.1 g.0 g.1)

  list_tells : (k : ℕ) (h : Head) → ((ts : Trees) → term_items (node h ts) ≡ decimal k ∷ terms_items (items_below ts)) → ((ts : List Tree) → IsList Q ts → IsNode Q (node h (trees ts)))
      → IsVariant term_items (IsNode Q) k (reads (list_of p) (λ ts. node h (trees ts)))
  list_tells k h same good = reads_tells term_items (IsNode Q) k (list_of p) (list_items term_items) (IsList Q) (λ ts. node h (trees ts)) terms_codec
      (λ ts. same (trees ts) ∙ ap (λ (items : Items). decimal k ∷ items) (below_are ts)) good

  listed_is : (ts : List Tree) → IsList Q ts → (child_count (trees ts) < 2 ^ 64) × AllBelow Q (trees ts)
  listed_is ts h = (omega (arith, count_trees ts, h.0), below_trees Q ts h.1)

  nodes_tell : AreVariants term_items (IsNode Q) 0 (kinds p)
  nodes_tell = (
    reads_tells term_items (IsNode Q) 0 place number_items IsPlace loc place_codec (λ n. refl) (λ n h. (h, refl, tt)),
    (
      bare_tells 1 Hole refl (tt, refl, tt),
      (
        reads_tells term_items (IsNode Q) 2 text text_items IsText (λ x. leaf (Var x)) text_codec (λ x. refl) (λ x h. (h, refl, tt)),
        (
          reads_tells term_items (IsNode Q) 3 signed signed_items IsSigned (λ n. leaf (Number n)) signed_codec (λ n. refl) (λ n h. (h, refl, tt)),
          (
            reads_tells term_items (IsNode Q) 4 (both (list_of (both text p)) (list_of (method_with p))) (object_by p Q c) (IsObject p Q c) (λ r. object_tree r.0 r.1) (object_codec p Q c) (λ r. object_written r.0 r.1) (λ r h. object_is_node Q r.0 r.1 h.0 h.1),
            (
              reads_tells term_items (IsNode Q) 5 (both p text) (pair_items term_items text_items) (λ r. Q r.0 × IsText r.1) (λ r. one (Get r.1) r.0) labelled_codec (λ r. ap (λ (items : Items). decimal 5 ∷ items) (append-nil (term_items r.0 ++ text_items r.1))) (λ r h. (h.1, refl, (h.0, tt))),
              (
                reads_tells term_items (IsNode Q) 6 (both p (both text p)) (pair_items term_items (pair_items text_items term_items)) (λ r. Q r.0 × (IsText r.1.0 × Q r.1.1)) (λ r. two (Put r.1.0) r.0 r.1.1) put_codec (λ r. ap (λ (items : Items). decimal 6 ∷ items) (named_items (term_items r.0) (text_items r.1.0) (term_items r.1.1))) (λ r h. (h.1.0, refl, (h.0, (h.1.1, tt)))),
                (
                  reads_tells term_items (IsNode Q) 7 (both p (both text (list_of p))) (pair_items term_items (pair_items text_items (list_items term_items))) (λ r. Q r.0 × (IsText r.1.0 × IsList Q r.1.1)) (λ r. node (Call r.1.0) (more r.0 (trees r.1.1))) call_codec
                      (λ r. ap (λ (items : Items). decimal 7 ∷ items) (append_assoc (term_items r.0) (text_items r.1.0) (terms_items (items_below (trees r.1.1))) ∙ ap (λ (items : Items). term_items r.0 ++ (text_items r.1.0 ++ items)) (below_are r.1.1)))
                      (λ r h. let l = listed_is r.1.1 h.1.1 in (h.1.0, (omega arith, omega (arith, l.0)), (h.0, l.1))),
                  (
                    one_tells 8 Clone (λ t. refl) (λ t h. (tt, refl, (h, tt))),
                    (
                      reads_tells term_items (IsNode Q) 9 (both p (option_of text)) (pair_items term_items (option_items text_items)) (λ r. Q r.0 × IsOptional IsText r.1) (λ r. one (Active r.1) r.0) active_codec (λ r. ap (λ (items : Items). decimal 9 ∷ (items ++ option_items text_items r.1)) (append-nil (term_items r.0))) (λ r h. (h.1, refl, (h.0, tt))),
                      (
                        reads_tells term_items (IsNode Q) 10 (list_of text) (list_items text_items) (IsList IsText) (λ ls. leaf (Serve ls)) texts_codec (λ ls. refl) (λ ls h. (h, refl, tt)),
                        (
                          reads_tells term_items (IsNode Q) 11 (both text (both p p)) (pair_items text_items (pair_items term_items term_items)) (λ r. IsText r.0 × (Q r.1.0 × Q r.1.1)) (λ r. two (Let r.0) r.1.0 r.1.1) let_codec (λ r. ap (λ (items : Items). decimal 11 ∷ items) (three_items (text_items r.0) (term_items r.1.0) (term_items r.1.1))) (λ r h. (h.0, refl, (h.1.0, (h.1.1, tt)))),
                          (
                            list_tells 12 Steps (λ ts. refl) (λ ts h. let l = listed_is ts h in (tt, l.0, l.1)),
                            (
                              reads_tells term_items (IsNode Q) 13 (both p (both p p)) (pair_items term_items (pair_items term_items term_items)) (λ r. Q r.0 × (Q r.1.0 × Q r.1.1)) (λ r. node If (more r.0 (more r.1.0 (more r.1.1 none)))) triple_codec (λ r. ap (λ (items : Items). decimal 13 ∷ items) (three_items (term_items r.0) (term_items r.1.0) (term_items r.1.1))) (λ r h. (tt, refl, (h.0, (h.1.0, (h.1.1, tt))))),
                              (
                                one_tells 14 Repeat (λ t. refl) (λ t h. (tt, refl, (h, tt))),
                                (
                                  reads_tells term_items (IsNode Q) 15 (both sign (both p p)) (pair_items sign_items (pair_items term_items term_items)) (λ r. IsSign r.0 × (Q r.1.0 × Q r.1.1)) (λ r. two (Operate r.0) r.1.0 r.1.1) operate_codec (λ r. ap (λ (items : Items). decimal 15 ∷ items) (three_items (sign_items r.0) (term_items r.1.0) (term_items r.1.1))) (λ r h. (tt, refl, (h.1.0, (h.1.1, tt)))),
                                  (
                                    one_tells 16 Print (λ t. refl) (λ t h. (tt, refl, (h, tt))),
                                    (
                                      reads_tells term_items (IsNode Q) 17 text text_items IsText (λ x. leaf (Echo x)) text_codec (λ x. refl) (λ x h. (h, refl, tt)),
                                      (
                                        list_tells 18 Group (λ ts. refl) (λ ts h. let l = listed_is ts h in (tt, l.0, l.1)),
                                        (
                                          reads_tells term_items (IsNode Q) 19 (both p (both text p)) (pair_items term_items (pair_items text_items term_items)) (λ r. Q r.0 × (IsText r.1.0 × Q r.1.1)) (λ r. two (Scatter r.1.0) r.0 r.1.1) put_codec (λ r. ap (λ (items : Items). decimal 19 ∷ items) (named_items (term_items r.0) (text_items r.1.0) (term_items r.1.1))) (λ r h. (h.1.0, refl, (h.0, (h.1.1, tt)))),
                                          (
                                            one_tells 20 Size (λ t. refl) (λ t h. (tt, refl, (h, tt))),
                                            (
                                              two_tells 21 Member (λ t u. refl) (λ t u h g. (tt, refl, (h, (g, tt)))),
                                              (
                                                one_tells 22 WaitAll (λ t. refl) (λ t h. (tt, refl, (h, tt))),
                                                (
                                                  reads_tells term_items (IsNode Q) 23 (list_of text) (list_items text_items) (IsList IsText) (λ ls. leaf (Pending ls)) texts_codec (λ ls. refl) (λ ls h. (h, refl, tt)),
                                                  tt,
                                                ),
                                              ),
                                            ),
                                          ),
                                        ),
                                      ),
                                    ),
                                  ),
                                ),
                              ),
                            ),
                          ),
                        ),
                      ),
                    ),
                  ),
                ),
              ),
            ),
          ),
        ),
      ),
    ),
  )

  -- What a node is read of

  one_gives : (k : ℕ) (h : Head) (ts : Trees) (ws : Items) → head_items h ≡ head_items Clone → child_count ts ≡ 1 → AllBelow Q ts → reads p (one h) (head_items h (items_below ts) ++ ws) ≡ Some (node h ts, ws)
  one_gives k h ts ws same n a =
      let v = below_one Q ts n a in
      kind_gives p term_items Q c (one h) v.0 (head_items h (items_below ts)) ws (node h ts) v.2
      (ap (λ (f : List Items → Items). f (items_below ts)) same ∙ ap (λ (us : Trees). head_items Clone (items_below us)) v.1 ∙ append-nil (term_items v.0)) (ap (node h) (sym v.1))

  two_gives : {X : Type 0} (r : Reader X) (f : X → Items) (P : X → Type 0) → IsCodec r f P → (h : Head) (g : X → Tree) (x : Tree → Tree → X) (ts : Trees) (ws : Items) → child_count ts ≡ 2 → AllBelow Q ts
      → ((t u : Tree) → Q t → Q u → P (x t u)) → ((t u : Tree) → head_items h (items_below (more t (more u none))) ≡ f (x t u)) → ((t u : Tree) → g (x t u) ≡ two h t u)
      → reads r g (head_items h (items_below ts) ++ ws) ≡ Some (node h ts, ws)
  two_gives r f P d h g x ts ws n a good same is =
      let v = below_two Q ts n a in
      kind_gives r f P d g (x v.0 v.1) (head_items h (items_below ts)) ws (node h ts) (good v.0 v.1 v.3 v.4)
      (ap (λ (us : Trees). head_items h (items_below us)) v.2 ∙ same v.0 v.1) (is v.0 v.1 ∙ ap (node h) (sym v.2))

  listed_items : (ts : Trees) → terms_items (items_below ts) ≡ list_items term_items (listed Q ts)
  listed_items ts = ap (λ (us : Trees). terms_items (items_below us)) (sym (trees_listed Q ts)) ∙ below_are (listed Q ts)

  listed_good : (ts : Trees) → child_count ts < 2 ^ 64 → AllBelow Q ts → IsList Q (listed Q ts)
  listed_good ts n a = (omega (arith, length_listed Q ts, n), all_listed Q ts a)

  list_gives : (h : Head) (ts : Trees) (ws : Items) → head_items h ≡ terms_items → child_count ts < 2 ^ 64 → AllBelow Q ts → reads (list_of p) (λ us. node h (trees us)) (head_items h (items_below ts) ++ ws) ≡ Some (node h ts, ws)
  list_gives h ts ws same n a =
      kind_gives (list_of p) (list_items term_items) (IsList Q) terms_codec (λ us. node h (trees us)) (listed Q ts) (head_items h (items_below ts)) ws (node h ts) (listed_good ts n a)
      (ap (λ (f : List Items → Items). f (items_below ts)) same ∙ listed_items ts) (ap (node h) (trees_listed Q ts))

  leaf_gives : {X : Type 0} (r : Reader X) (f : X → Items) (P : X → Type 0) → IsCodec r f P → (h : Head) (g : X → Tree) (x : X) (ts : Trees) (ws : Items) → child_count ts ≡ 0
      → P x → head_items h [] ≡ f x → g x ≡ leaf h → reads r g (head_items h (items_below ts) ++ ws) ≡ Some (node h ts, ws)
  leaf_gives r f P d h g x ts ws n good same is =
      let e = below_none Q ts n in
      kind_gives r f P d g x (head_items h (items_below ts)) ws (node h ts) good
      (ap (λ (us : Trees). head_items h (items_below us)) e ∙ same) (is ∙ ap (node h) (sym e))

  call_gives : (l : Text) (ts : Trees) (ws : Items) → IsText l → 0 < child_count ts → child_count ts < 2 ^ 64 + 1 → AllBelow Q ts
      → reads (both p (both text (list_of p))) (λ r. node (Call r.1.0) (more r.0 (trees r.1.1))) (head_items (Call l) (items_below ts) ++ ws) ≡ Some (node (Call l) ts, ws)
  call_gives l none ws h some n a = absurd (omega arith)
  call_gives l (more t ts) ws h some n a =
      kind_gives (both p (both text (list_of p))) (pair_items term_items (pair_items text_items (list_items term_items))) (λ r. Q r.0 × (IsText r.1.0 × IsList Q r.1.1)) call_codec
      (λ r. node (Call r.1.0) (more r.0 (trees r.1.1))) (t, (l, listed Q ts)) (head_items (Call l) (items_below (more t ts))) ws (node (Call l) (more t ts)) (a.0, (h, listed_good ts (omega arith) a.1))
      (append_assoc (term_items t) (text_items l) (terms_items (items_below ts)) ∙ ap (λ (items : Items). term_items t ++ (text_items l ++ items)) (listed_items ts))
      (ap (λ (us : Trees). node (Call l) (more t us)) (trees_listed Q ts))

  if_gives : (ts : Trees) (ws : Items) → child_count ts ≡ 3 → AllBelow Q ts → reads (both p (both p p)) (λ r. node If (more r.0 (more r.1.0 (more r.1.1 none)))) (head_items If (items_below ts) ++ ws) ≡ Some (node If ts, ws)
  if_gives ts ws n a =
      let v = below_three Q ts n a in
      kind_gives (both p (both p p)) (pair_items term_items (pair_items term_items term_items)) (λ r. Q r.0 × (Q r.1.0 × Q r.1.1)) triple_codec
      (λ r. node If (more r.0 (more r.1.0 (more r.1.1 none)))) (v.0, (v.1, v.2)) (head_items If (items_below ts)) ws (node If ts) (v.4, (v.5, v.6))
      (ap (λ (us : Trees). head_items If (items_below us)) v.3 ∙ three_items (term_items v.0) (term_items v.1) (term_items v.2)) (ap (node If) (sym v.3))

  labelled_gives : {X : Type 0} (r : Reader X) (f : X → Items) (P : X → Type 0) → IsCodec r f P → (h : Head) (g : X → Tree) (x : Tree → X) (ts : Trees) (ws : Items) → child_count ts ≡ 1 → AllBelow Q ts
      → ((t : Tree) → Q t → P (x t)) → ((t : Tree) → head_items h (items_below (more t none)) ≡ f (x t)) → ((t : Tree) → g (x t) ≡ one h t)
      → reads r g (head_items h (items_below ts) ++ ws) ≡ Some (node h ts, ws)
  labelled_gives r f P d h g x ts ws n a good same is =
      let v = below_one Q ts n a in
      kind_gives r f P d g (x v.0) (head_items h (items_below ts)) ws (node h ts) (good v.0 v.2)
      (ap (λ (us : Trees). head_items h (items_below us)) v.1 ∙ same v.0) (is v.0 ∙ ap (node h) (sym v.1))

  object_gives : (ls : List Text) (ms : List MethodHead) (ts : Trees) (ws : Items) → IsNode Q (node (Make ls ms) ts)
      → reads (both (list_of (both text p)) (list_of (method_with p))) (λ r. object_tree r.0 r.1) (head_items (Make ls ms) (items_below ts) ++ ws) ≡ Some (node (Make ls ms) ts, ws)
  object_gives ls ms ts ws h =
      kind_gives (both (list_of (both text p)) (list_of (method_with p))) (object_by p Q c) (IsObject p Q c) (object_codec p Q c) (λ r. object_tree r.0 r.1) (zipped ls ts, zipped ms (behind ls ts))
      (head_items (Make ls ms) (items_below ts)) ws (node (Make ls ms) ts) (object_parts Q ls ms ts h.1 h.0.0 h.0.1 h.2) (object_items ls ms ts h.1) (object_again ls ms ts h.1)

  variant_of : (k : ℕ) (h : Head) (ts : Trees) (ws : Items) → k < 2 ^ 64 → term_items (node h ts) ≡ decimal k ∷ head_items h (items_below ts)
      → reader_at (kinds p) k (head_items h (items_below ts) ++ ws) ≡ Some (node h ts, ws) → variant (kinds p) (term_items (node h ts) ++ ws) ≡ Some (node h ts, ws)
  variant_of k h ts ws below same e = ap (λ (items : Items). variant (kinds p) (items ++ ws)) same ∙ variant_gives k (kinds p) (head_items h (items_below ts)) ws (node h ts) below e

  node_gives : (h : Head) (ts : Trees) (ws : Items) → IsNode Q (node h ts) → variant (kinds p) (term_items (node h ts) ++ ws) ≡ Some (node h ts, ws)
  node_gives (Loc n) ts ws g = variant_of 0 (Loc n) ts ws (omega arith) refl (leaf_gives place number_items IsPlace place_codec (Loc n) loc n ts ws g.1 g.0 refl refl)
  node_gives Hole ts ws g = variant_of 1 Hole ts ws (omega arith) refl (ap {B = Option (Tree × Items)} (λ us. Some (node Hole us, ws)) (sym (below_none Q ts g.1)))
  node_gives (Var x) ts ws g = variant_of 2 (Var x) ts ws (omega arith) refl (leaf_gives text text_items IsText text_codec (Var x) (λ y. leaf (Var y)) x ts ws g.1 g.0 refl refl)
  node_gives (Number n) ts ws g = variant_of 3 (Number n) ts ws (omega arith) refl (leaf_gives signed signed_items IsSigned signed_codec (Number n) (λ y. leaf (Number y)) n ts ws g.1 g.0 refl refl)
  node_gives (Make ls ms) ts ws g = variant_of 4 (Make ls ms) ts ws (omega arith) refl (object_gives ls ms ts ws g)
  node_gives (Get l) ts ws g = variant_of 5 (Get l) ts ws (omega arith) refl
      (labelled_gives (both p text) (pair_items term_items text_items) (λ r. Q r.0 × IsText r.1) labelled_codec (Get l) (λ r. one (Get r.1) r.0) (λ t. (t, l)) ts ws g.1 g.2 (λ t q. (q, g.0)) (λ t. append-nil (term_items t ++ text_items l)) (λ t. refl))
  node_gives (Put l) ts ws g = variant_of 6 (Put l) ts ws (omega arith) refl
      (two_gives (both p (both text p)) (pair_items term_items (pair_items text_items term_items)) (λ r. Q r.0 × (IsText r.1.0 × Q r.1.1)) put_codec (Put l) (λ r. two (Put r.1.0) r.0 r.1.1) (λ t u. (t, (l, u))) ts ws g.1 g.2 (λ t u q r. (q, (g.0, r))) (λ t u. named_items (term_items t) (text_items l) (term_items u)) (λ t u. refl))
  node_gives (Call l) ts ws g = variant_of 7 (Call l) ts ws (omega arith) refl (call_gives l ts ws g.0 g.1.0 g.1.1 g.2)
  node_gives Clone ts ws g = variant_of 8 Clone ts ws (omega arith) refl (one_gives 8 Clone ts ws refl g.1 g.2)
  node_gives (Active s) ts ws g = variant_of 9 (Active s) ts ws (omega arith) refl
      (labelled_gives (both p (option_of text)) (pair_items term_items (option_items text_items)) (λ r. Q r.0 × IsOptional IsText r.1) active_codec (Active s) (λ r. one (Active r.1) r.0) (λ t. (t, s)) ts ws g.1 g.2 (λ t q. (q, g.0)) (λ t. ap (λ (items : Items). items ++ option_items text_items s) (append-nil (term_items t))) (λ t. refl))
  node_gives (Serve ls) ts ws g = variant_of 10 (Serve ls) ts ws (omega arith) refl (leaf_gives (list_of text) (list_items text_items) (IsList IsText) texts_codec (Serve ls) (λ y. leaf (Serve y)) ls ts ws g.1 g.0 refl refl)
  node_gives (Let x) ts ws g = variant_of 11 (Let x) ts ws (omega arith) refl
      (two_gives (both text (both p p)) (pair_items text_items (pair_items term_items term_items)) (λ r. IsText r.0 × (Q r.1.0 × Q r.1.1)) let_codec (Let x) (λ r. two (Let r.0) r.1.0 r.1.1) (λ t u. (x, (t, u))) ts ws g.1 g.2 (λ t u q r. (g.0, (q, r))) (λ t u. three_items (text_items x) (term_items t) (term_items u)) (λ t u. refl))
  node_gives Steps ts ws g = variant_of 12 Steps ts ws (omega arith) refl (list_gives Steps ts ws refl g.1 g.2)
  node_gives If ts ws g = variant_of 13 If ts ws (omega arith) refl (if_gives ts ws g.1 g.2)
  node_gives Repeat ts ws g = variant_of 14 Repeat ts ws (omega arith) refl (one_gives 14 Repeat ts ws refl g.1 g.2)
  node_gives (Operate s) ts ws g = variant_of 15 (Operate s) ts ws (omega arith) refl
      (two_gives (both sign (both p p)) (pair_items sign_items (pair_items term_items term_items)) (λ r. IsSign r.0 × (Q r.1.0 × Q r.1.1)) operate_codec (Operate s) (λ r. two (Operate r.0) r.1.0 r.1.1) (λ t u. (s, (t, u))) ts ws g.1 g.2 (λ t u q r. (tt, (q, r))) (λ t u. three_items (sign_items s) (term_items t) (term_items u)) (λ t u. refl))
  node_gives Print ts ws g = variant_of 16 Print ts ws (omega arith) refl (one_gives 16 Print ts ws refl g.1 g.2)
  node_gives (Echo x) ts ws g = variant_of 17 (Echo x) ts ws (omega arith) refl (leaf_gives text text_items IsText text_codec (Echo x) (λ y. leaf (Echo y)) x ts ws g.1 g.0 refl refl)
  node_gives Group ts ws g = variant_of 18 Group ts ws (omega arith) refl (list_gives Group ts ws refl g.1 g.2)
  node_gives (Scatter l) ts ws g = variant_of 19 (Scatter l) ts ws (omega arith) refl
      (two_gives (both p (both text p)) (pair_items term_items (pair_items text_items term_items)) (λ r. Q r.0 × (IsText r.1.0 × Q r.1.1)) put_codec (Scatter l) (λ r. two (Scatter r.1.0) r.0 r.1.1) (λ t u. (t, (l, u))) ts ws g.1 g.2 (λ t u q r. (q, (g.0, r))) (λ t u. named_items (term_items t) (text_items l) (term_items u)) (λ t u. refl))
  node_gives Size ts ws g = variant_of 20 Size ts ws (omega arith) refl (one_gives 20 Size ts ws refl g.1 g.2)
  node_gives Member ts ws g = variant_of 21 Member ts ws (omega arith) refl
      (two_gives (both p p) (pair_items term_items term_items) (λ r. Q r.0 × Q r.1) pair_codec Member (λ r. two Member r.0 r.1) (λ t u. (t, u)) ts ws g.1 g.2 (λ t u q r. (q, r)) (λ t u. two_items (term_items t) (term_items u)) (λ t u. refl))
  node_gives WaitAll ts ws g = variant_of 22 WaitAll ts ws (omega arith) refl (one_gives 22 WaitAll ts ws refl g.1 g.2)
  node_gives (Pending ls) ts ws g = variant_of 23 (Pending ls) ts ws (omega arith) refl (leaf_gives (list_of text) (list_items text_items) (IsList IsText) texts_codec (Pending ls) (λ y. leaf (Pending y)) ls ts ws g.1 g.0 refl refl)

  each_gives : (t : Tree) (ws : Items) → IsNode Q t → variant (kinds p) (term_items t ++ ws) ≡ Some (t, ws)
  each_gives (node h ts) ws g = node_gives h ts ws g

  pub node_codec : IsCodec (variant (kinds p)) term_items (IsNode Q)
  node_codec = record { gives = λ t ws g. each_gives t ws g; tells = variant_tells term_items (IsNode Q) (kinds p) nodes_tell }

-- to a depth

none_gives : (t : Tree) (ws : Items) → ⊥ → term_to 0 (term_items t ++ ws) ≡ Some (t, ws)
none_gives t ws h = absurd h

none_tells : (t : Tree) (ws us : Items) → term_to 0 ws ≡ Some (t, us) → (ws ≡ term_items t ++ us) × ⊥
none_tells t ws us e = absurd cc

pub term_codec : (depth : ℕ) → IsCodec (term_to depth) term_items (IsTermTo depth)
term_codec zero = record { gives = none_gives; tells = none_tells }
term_codec (suc depth) =
    let c = node_codec (term_to depth) (IsTermTo depth) (term_codec depth) in
    record { gives = λ t ws g. c.gives t ws g; tells = λ t ws us e. c.tells t ws us e }
