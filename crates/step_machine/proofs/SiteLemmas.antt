-- Redexes below a node, which need no frame.
use Rattle.std.proofs.Common.{◌≡◌, ◌<◌, ◌+◌, ℕ, List, [], ◌∷◌, ◌++◌, take, drop, length, true, refl, sym, ap, subst, ◌∙◌, arith, append_assoc, length-append}
use Rattle.std.proofs.lemmas.List.{append-nil, take_all}
use Rattle.std.specs.Prelude.{ℤ}
use Rattle.asp_model.specs.Shapes.{sign_shape}
use Rattle.asp_model.specs.Term.{Operate, Tree, loc}
use Rattle.asp_model.specs.Split.{Splits, plug}
use Rattle.asp_model.specs.Configuration.{ServiceShape}
use Rattle.asp_model.specs.declared.term.Sign.{Sign}
use Rattle.code_table.specs.declared.code.Kind.{Kind}
use Rattle.code_table.specs.declared.code.Kind.TheVariants as kind
use Rattle.code_table.specs.declared.code.Leaf.{Leaf}
use Rattle.code_table.specs.declared.code.Node.{Node}
use Rattle.code_table.specs.Pieces.{Piece, variable}
use Rattle.code_table.specs.Tables.{kind_head, kind_piece, node_piece, piece_at, pieces, pieces_of}
use Rattle.code_laws.specs.Nodes.{in_place, nth, parts}
use Rattle.code_laws.specs.Places.{leaf_place}
use Rattle.code_laws.proofs.NodeLemmas.{is_term}
use Rattle.step_machine.specs.declared.frames.Frame.{Frame}
use Rattle.step_machine.specs.declared.frames.Focus.TheVariants as focus
use Rattle.step_machine.specs.declared.frames.Form.TheVariants as form
use Rattle.step_machine.specs.declared.frames.Nested.{Nested}
use Rattle.step_machine.specs.declared.frames.Nested.TheVariants as nested
use Rattle.step_machine.specs.Sites.{Gives, IsNested, IsRedexOf, IsVariable, number_redex, places_redex}
use Rattle.step_machine.specs.Rows.{IsAtRedex, is_simple, place_view}
use Rattle.step_machine.specs.Stacks.{last, piece_from}
use Rattle.step_machine.specs.Standing.{View, Standing}
use Rattle.step_machine.specs.Views.{entered_view}
use Rattle.step_machine.proofs.StackLemmas.{but_last_seam, last_seam}
use Rattle.step_machine.proofs.MoveLemmas.{entered, passed}
use Rattle.step_machine.proofs.RowLemmas.{value_row}
use Rattle.step_machine.proofs.CallLemmas.{closes}

-- at a node below a node, whose first terms have these places
abbrev within_view : (number from done inner : ℕ) → List ℕ → View → View
within_view number from done inner ps v = record (entered_view number from done inner v) { operands = v.operands ++ ps; focus = focus.Node inner 0 (length ps) }

-- it is entered
goes_in : (k : List Node) (v : View) (number from done inner : ℕ) (t : Tree) (vs : List ServiceShape) → Standing k v t vs → v.focus ≡ focus.Node number from done
    → done < in_place (piece_from k number from) → nth done (parts (piece_from k number from)) ≡ piece_at (pieces k) inner
    → Standing k (within_view number from done inner [] v) t vs
goes_in k v number from done inner t vs h at lt part =
    subst (λ (ops : List ℕ). Standing k (record (entered_view number from done inner v) { operands = ops }) t vs) (sym (append-nil v.operands))
    (entered k v number from done inner t vs h at lt part (is_term k inner))

-- its next term is a variable
passes_in : (k : List Node) (v : View) (number from done inner : ℕ) (ps : List ℕ) (l : Leaf) (p : ℕ) (t : Tree) (vs : List ServiceShape) → Standing k (within_view number from done inner ps v) t vs
    → length ps < in_place (piece_from k inner 0) → nth (length ps) (parts (piece_from k inner 0)) ≡ variable l → p ≡ leaf_place (drop v.base v.env) l
    → Standing k (within_view number from done inner (ps ++ p ∷ []) v) t vs
passes_in k v number from done inner ps l p t vs h lt part place =
    let w : View = within_view number from done inner ps v in
    let has : Standing k (record w { operands = v.operands ++ ps ++ p ∷ []; focus = focus.Node inner 0 (length ps + 1) }) t vs =
    subst (λ (q : ℕ). Standing k (record w { operands = v.operands ++ ps ++ q ∷ []; focus = focus.Node inner 0 (length ps + 1) }) t vs) (sym place) (passed k w inner 0 (length ps) l t vs h refl lt part) in
    subst (λ (n : ℕ). Standing k (record w { operands = v.operands ++ (ps ++ p ∷ []); focus = focus.Node inner 0 n }) t vs) (sym (length-append ps (p ∷ [])))
    (subst (λ (ops : List ℕ). Standing k (record w { operands = ops; focus = focus.Node inner 0 (length ps + 1) }) t vs) (append_assoc v.operands ps (p ∷ [])) has)

-- all its terms are done: its contraction and its frame come to the same as a place below the node
gives : (k : List Node) (v : View) (number from done inner : ℕ) (ps : List ℕ) (n : Node) (t : Tree) (vs : List ServiceShape) → Standing k (within_view number from done inner ps v) t vs
    → length ps ≡ in_place (piece_from k inner 0) → piece_at (pieces k) inner ≡ node_piece (pieces k) n → is_simple n.kind ≡ true
    → Gives k t vs v number from done (places_redex (kind_head n.kind) ps)
gives k v number from done inner ps n t vs h full is simple =
    let w : View = within_view number from done inner ps v in
    let frame : Frame = record { form = form.Terms; node = number; from = from; done = done; base = v.base; height = length v.env } in
    let row : IsAtRedex k w t vs (length ps) (places_redex (kind_head n.kind) (last (length ps) w.operands)) = value_row k w inner 0 (length ps) n t vs h refl full is simple in
    let all : take (length v.env) v.env ≡ v.env = take_all (length v.env) v.env (omega arith) in
    record {
      contexts = row.contexts;
      splits = row.splits ∙ ap (λ (ks : List ℕ). Splits row.contexts (places_redex (kind_head n.kind) ks)) (last_seam v.operands ps);
      place = λ p.
          let placed : Standing k (place_view (length ps) p w) (plug row.contexts (loc p)) vs = row.place p in
          let closed = closes k (place_view (length ps) p w) v.frames frame p (plug row.contexts (loc p)) vs tt placed refl refl in
          subst (λ (env : List ℕ). Standing k (record v { env = env; operands = v.operands ++ p ∷ []; focus = focus.Node number from (done + 1) }) (plug row.contexts (loc p)) vs) all
          (subst (λ (ops : List ℕ). Standing k (record v { env = take (length v.env) v.env; operands = ops ++ p ∷ []; focus = focus.Node number from (done + 1) }) (plug row.contexts (loc p)) vs) (but_last_seam v.operands ps) closed);
    }

-- The redexes

-- the piece of a node of this kind
piece_is : (k : List Node) (inner : ℕ) (n : Node) (x : Kind) → piece_at (pieces k) inner ≡ node_piece (pieces k) n → n.kind ≡ x
    → piece_from k inner 0 ≡ kind_piece (pieces k) x (pieces_of (pieces k) n.children.items)
piece_is k inner n x is kind_is = is ∙ ap (λ (y : Kind). kind_piece (pieces k) y (pieces_of (pieces k) n.children.items)) kind_is

-- a number
gives_number : (k : List Node) (v : View) (number from done inner : ℕ) (n : Node) (z : ℤ) (t : Tree) (vs : List ServiceShape) → Standing k v t vs → v.focus ≡ focus.Node number from done
    → done < in_place (piece_from k number from) → nth done (parts (piece_from k number from)) ≡ piece_at (pieces k) inner → piece_at (pieces k) inner ≡ node_piece (pieces k) n → n.kind ≡ kind.Number z
    → Gives k t vs v number from done (number_redex z)
gives_number k v number from done inner n z t vs h at lt part is number_is =
    let full : 0 ≡ in_place (piece_from k inner 0) = sym (ap in_place (piece_is k inner n (kind.Number z) is number_is)) in
    subst (λ (x : Kind). Gives k t vs v number from done (places_redex (kind_head x) [])) number_is
    (gives k v number from done inner [] n t vs (goes_in k v number from done inner t vs h at lt part) full is (ap is_simple number_is))

-- at a sign behind its first term
at_sign : (k : List Node) (v : View) (number from done inner : ℕ) (n : Node) (s : Sign) (p : ℕ) (t : Tree) (vs : List ServiceShape) → Standing k v t vs → v.focus ≡ focus.Node number from done
    → done < in_place (piece_from k number from) → nth done (parts (piece_from k number from)) ≡ piece_at (pieces k) inner → piece_at (pieces k) inner ≡ node_piece (pieces k) n → n.kind ≡ kind.Operate s
    → IsVariable (pieces k) (drop v.base v.env) n.children.items 0 p → Standing k (within_view number from done inner (p ∷ []) v) t vs
at_sign k v number from done inner n s p t vs h at lt part is sign_is x =
    let piece_eq = piece_is k inner n (kind.Operate s) is sign_is in
    let two : 2 ≡ in_place (piece_from k inner 0) = sym (ap in_place piece_eq) in
    passes_in k v number from done inner [] x.leaf p t vs (goes_in k v number from done inner t vs h at lt part) (omega (arith, two)) (ap (λ (q : Piece). nth 0 (parts q)) piece_eq ∙ x.is) x.place

-- at a sign whose terms are places
gives_sign : (k : List Node) (v : View) (number from done inner : ℕ) (n : Node) (s : Sign) (p q : ℕ) (t : Tree) (vs : List ServiceShape) → piece_at (pieces k) inner ≡ node_piece (pieces k) n → n.kind ≡ kind.Operate s
    → Standing k (within_view number from done inner (p ∷ q ∷ []) v) t vs → Gives k t vs v number from done (places_redex (Operate (sign_shape s)) (p ∷ q ∷ []))
gives_sign k v number from done inner n s p q t vs is sign_is h =
    let two : 2 ≡ in_place (piece_from k inner 0) = sym (ap in_place (piece_is k inner n (kind.Operate s) is sign_is)) in
    subst (λ (x : Kind). Gives k t vs v number from done (places_redex (kind_head x) (p ∷ q ∷ []))) sign_is
    (gives k v number from done inner (p ∷ q ∷ []) n t vs h two is (ap is_simple sign_is))

-- what entering a node of variables and numbers, its contractions and its frame come to
pub nested_gives : (k : List Node) (v : View) (number from done inner : ℕ) (n : Node) (r : Nested) (t : Tree) (vs : List ServiceShape) → Standing k v t vs → v.focus ≡ focus.Node number from done
    → done < in_place (piece_from k number from) → nth done (parts (piece_from k number from)) ≡ piece_at (pieces k) inner → piece_at (pieces k) inner ≡ node_piece (pieces k) n
    → IsRedexOf k (drop v.base v.env) n r → IsNested k t vs v number from done r
nested_gives k v number from done inner n (nested.Number z) t vs h at lt part is x = gives_number k v number from done inner n z t vs h at lt part is x
nested_gives k v number from done inner n (nested.Get l p) t vs h at lt part is x =
    let piece_eq = piece_is k inner n (kind.Get l.now) is x.0 in
    let one : 1 ≡ in_place (piece_from k inner 0) = sym (ap in_place piece_eq) in
    let there : Standing k (within_view number from done inner (p ∷ []) v) t vs =
    passes_in k v number from done inner [] x.1.leaf p t vs (goes_in k v number from done inner t vs h at lt part) (omega (arith, one)) (ap (λ (q : Piece). nth 0 (parts q)) piece_eq ∙ x.1.is) x.1.place in
    subst (λ (y : Kind). Gives k t vs v number from done (places_redex (kind_head y) (p ∷ []))) x.0
    (gives k v number from done inner (p ∷ []) n t vs there one is (ap is_simple x.0))
nested_gives k v number from done inner n (nested.Operate s p q) t vs h at lt part is x =
    let piece_eq = piece_is k inner n (kind.Operate s) is x.0 in
    let two : 2 ≡ in_place (piece_from k inner 0) = sym (ap in_place piece_eq) in
    let first : Standing k (within_view number from done inner (p ∷ []) v) t vs = at_sign k v number from done inner n s p t vs h at lt part is x.0 x.1 in
    gives_sign k v number from done inner n s p q t vs is x.0
    (passes_in k v number from done inner (p ∷ []) x.2.leaf q t vs first (omega (arith, two)) (ap (λ (y : Piece). nth 1 (parts y)) piece_eq ∙ x.2.is) x.2.place)
nested_gives k v number from done inner n (nested.OperateNumber s p z) t vs h at lt part is x =
    let piece_eq = piece_is k inner n (kind.Operate s) is x.0 in
    let two : 2 ≡ in_place (piece_from k inner 0) = sym (ap in_place piece_eq) in
    let w : View = within_view number from done inner (p ∷ []) v in
    let first : Standing k w t vs = at_sign k v number from done inner n s p t vs h at lt part is x.0 x.1 in
    let one : Gives k t vs w inner 0 1 (number_redex z) =
    gives_number k w inner 0 1 x.2.inner x.2.number.node z t vs first refl (omega (arith, two)) (ap (λ (y : Piece). nth 1 (parts y)) piece_eq ∙ x.2.is) x.2.number.is x.2.number.number in
    record {
      contexts = one.contexts;
      splits = one.splits;
      second = λ q.
          gives_sign k v number from done inner n s p q (plug one.contexts (loc q)) vs is x.0
          (subst (λ (ops : List ℕ). Standing k (record w { operands = ops; focus = focus.Node inner 0 2 }) (plug one.contexts (loc q)) vs) (append_assoc v.operands (p ∷ []) (q ∷ [])) (one.place q));
    }
