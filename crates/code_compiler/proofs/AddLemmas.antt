-- What compiling terms one after the other adds, and what a node adds.
use Rattle.std.proofs.Common.{◌≡◌, ℕ, zero, suc, ◌+◌, ◌<◌, ◌≤◌, List, [], ◌∷◌, ◌++◌, length, map, refl, sym, ap, subst, ◌∙◌, arith, take, get_or, ◌-◌, Result, Ok, Err, OnOk, IfOk, append_assoc, length-append}
use Rattle.std.proofs.lemmas.List.{append-nil, take_more}
use Rattle.std.proofs.Math.Seq.{take-append_seam}
use Rattle.std.specs.Global.{Vec}
use Rattle.asp_model.specs.Names.{Text}
use Rattle.asp_model.specs.Term.{Head, Tree, Trees, node, none, more, leaf, trees, Environment, binders, child_count}
use Rattle.asp_model.specs.Term as term
use Rattle.asp_model.specs.Readable.{HasArity}
use Rattle.code_table.specs.declared.code.Child.{Child}
use Rattle.code_table.specs.declared.code.Child.TheVariants as child
use Rattle.code_table.specs.declared.code.Kind.{Kind}
use Rattle.code_table.specs.declared.code.Kind.TheVariants as kind
use Rattle.code_table.specs.declared.code.Leaf.{Leaf}
use Rattle.code_table.specs.declared.code.Node.{Node}
use Rattle.code_table.specs.Pieces.{Piece, piece, Pieces, nothing, also, count, tree, below}
use Rattle.code_table.specs.Fitting.{IsNode, names, LeafFits, leaf_name, Fits, AllFit}
use Rattle.code_table.specs.Uses.{leaf_use, uses, uses_below}
use Rattle.code_table.specs.Tables.{piece_at, piece_of, pieces_of, kind_head, kind_piece, node_piece, pieces}
use Rattle.code_table.specs.Sound.{AllBelow, KindBelow, KindSound}
use Rattle.code_table.proofs.GrowthLemmas.{last_piece, ordered_put, all_below_more, all_below_append, children_kept, sound_put}
use Rattle.code_compiler.proofs.ScopeLemmas.{leaf_is}
use Rattle.code_compiler.specs.Closed.{IsClosed, AreClosed}
use Rattle.code_compiler.specs.Compiled.{Body, names_in, SameScope, IsPlain, IsTable, Grows, IsPut, variables, StandFor, Adds, EndsTable}

pub both_ok : {A E : Type 0} (r : Result A E) (P Q R : Type 0) → OnOk r P → OnOk r Q → (P → Q → R) → OnOk r R
both_ok (Ok a) P Q R p q f = f p q
both_ok (Err e) P Q R p q f = tt

-- Trees behind trees

abbrev pub then : Trees → Trees → Trees
then none us = us
then (more t ts) us = more t (then ts us)

pub trees_append : (ts us : List Tree) → then (trees ts) (trees us) ≡ trees (ts ++ us)
trees_append [] us = refl
trees_append (t ∷ ts) us = ap (more t) (trees_append ts us)

below_then : (vs : List Tree) (ps : Pieces) (us : Trees) → below vs ps us ≡ then (below vs ps none) us
below_then vs nothing us = refl
below_then vs (also p ps) us = ap (more (tree vs p)) (below_then vs ps us)

below_append : (vs : List Tree) (ps : List Piece) (xs ys : List Child) → below vs (pieces_of ps (xs ++ ys)) none ≡ then (below vs (pieces_of ps xs) none) (below vs (pieces_of ps ys) none)
below_append vs ps [] ys = refl
below_append vs ps (x ∷ xs) ys = ap (more (tree vs (piece_of ps x))) (below_append vs ps xs ys)

fits_append : (xs : List Text) (scope : Environment) (h : ℕ) (ps : List Piece) (cs ds : List Child) → AllFit xs scope h [] (pieces_of ps cs) → AllFit xs scope h [] (pieces_of ps ds) → AllFit xs scope h [] (pieces_of ps (cs ++ ds))
fits_append xs scope h ps [] ds f g = g
fits_append xs scope h ps (c ∷ cs) ds f g = (f.0, fits_append xs scope h ps cs ds f.1 g)

uses_append : (ps : List Piece) (cs ds : List Child) → uses_below (pieces_of ps (cs ++ ds)) ≡ uses_below (pieces_of ps cs) ++ uses_below (pieces_of ps ds)
uses_append ps [] ds = refl
uses_append ps (c ∷ cs) ds = ap (λ (us : List ℕ). uses (piece_of ps c) ++ us) (uses_append ps cs ds) ∙ sym (append_assoc (uses (piece_of ps c)) (uses_below (pieces_of ps cs)) (uses_below (pieces_of ps ds)))

-- Tables that grow

pub grows_not : (ns : List Node) → Grows ns ns
grows_not ns = record { added = []; grown = sym (append-nil ns); table = λ t. t }

pub grows_more : (ns ms ls : List Node) → Grows ns ms → Grows ms ls → Grows ns ls
grows_more ns ms ls g h = record {
  added = g.added ++ h.added;
  grown = h.grown ∙ ap (λ (l : List Node). l ++ h.added) g.grown ∙ append_assoc ns g.added h.added;
  table = λ t. h.table (g.table t);
}

pub longer : (ns ms : List Node) → Grows ns ms → length ns ≤ length ms
longer ns ms g = let e : length ms ≡ length ns + length g.added = ap length g.grown ∙ length-append ns g.added in omega (arith, e)

pub stays : (ns ms : List Node) (cs : List Child) → Grows ns ms → AllBelow (length ns) cs → pieces_of (pieces ms) cs ≡ pieces_of (pieces ns) cs
stays ns ms cs g h = ap (λ (l : List Node). pieces_of (pieces l) cs) g.grown ∙ children_kept ns g.added cs h

pub put_grows : (ns : List Node) (n : Node) → AllBelow (length ns) n.children.items → KindBelow (length ns) n.kind → (IsTable ns → KindSound (pieces ns) n.kind) → Grows ns (ns ++ n ∷ [])
put_grows ns n cs k s = record {
  added = n ∷ [];
  grown = refl;
  table = λ t. record { ordered = ordered_put ns n t.ordered cs k; classes = sound_put ns n t.ordered t.classes k (s t) };
}

-- Terms one after the other

pub same_self : (a : Body) → SameScope a a
same_self a = record { captured = refl; bound = refl }

pub same_then : (a b c : Body) → SameScope a b → SameScope b c → SameScope a c
same_then a b c s t = record { captured = t.captured ∙ s.captured; bound = t.bound ∙ s.bound }

pub stand_same : (a b : Body) (ps : Pieces) (ts : List Tree) → SameScope a b → StandFor b.captured b.bound ps ts → StandFor a.captured a.bound ps ts
stand_same a b ps ts s h = subst (λ (xs : List Text). StandFor xs a.bound ps ts) s.captured (subst (λ (bs : Environment). StandFor b.captured bs ps ts) s.bound h)

pub stand_append : (xs : List Text) (bs : Environment) (ps : List Piece) (cs ds : List Child) (ts us : List Tree) → StandFor xs bs (pieces_of ps cs) ts → StandFor xs bs (pieces_of ps ds) us → StandFor xs bs (pieces_of ps (cs ++ ds)) (ts ++ us)
stand_append xs bs ps cs ds ts us f g = record {
  terms = below_append (variables xs) ps cs ds ∙ (λ i. then (f.terms i) (g.terms i)) ∙ trees_append ts us;
  fits = fits_append xs bs (length xs + length bs) ps cs ds f.fits g.fits;
}

pub adds_none : (a : Body) (ns : List Node) (cs : List Child) → Adds a a ns ns cs cs []
adds_none a ns cs = record {
  same = same_self a;
  grows = grows_not ns;
  new = [];
  children = sym (append-nil cs);
  before = tt;
  stand = record { terms = refl; fits = tt };
  uses = sym (append-nil a.uses);
}

pub adds_more : (a b c : Body) (ns ms ls : List Node) (cs ds es : List Child) (ts us : List Tree) → Adds a b ns ms cs ds ts → Adds b c ms ls ds es us → Adds a c ns ls cs es (ts ++ us)
adds_more a b c ns ms ls cs ds es ts us x y =
    let kept : pieces_of (pieces ls) x.new ≡ pieces_of (pieces ms) x.new = stays ms ls x.new y.grows x.before in
    record {
      same = same_then a b c x.same y.same;
      grows = grows_more ns ms ls x.grows y.grows;
      new = x.new ++ y.new;
      children = y.children ∙ ap (λ (l : List Child). l ++ y.new) x.children ∙ append_assoc cs x.new y.new;
      before = all_below_append (length ls) x.new y.new (all_below_more (length ms) (length ls) x.new (longer ms ls y.grows) x.before) y.before;
      stand = stand_append a.captured a.bound (pieces ls) x.new y.new ts us
          (subst (λ (p : Pieces). StandFor a.captured a.bound p ts) (sym kept) x.stand) (stand_same a b (pieces_of (pieces ls) y.new) us x.same y.stand);
      uses = y.uses ∙ ap (λ (l : List ℕ). l ++ uses_below (pieces_of (pieces ls) y.new)) (x.uses ∙ ap (λ (p : Pieces). a.uses ++ uses_below p) (sym kept))
          ∙ append_assoc a.uses (uses_below (pieces_of (pieces ls) x.new)) (uses_below (pieces_of (pieces ls) y.new)) ∙ ap (λ (l : List ℕ). a.uses ++ l) (sym (uses_append (pieces ls) x.new y.new));
    }

-- A node

pub count_trees : (ts : List Tree) → child_count (trees ts) ≡ length ts
count_trees [] = refl
count_trees (t ∷ ts) = ap suc (count_trees ts)

count_below : (vs : List Tree) (ps : Pieces) → child_count (below vs ps none) ≡ count ps
count_below vs nothing = refl
count_below vs (also p ps) = ap suc (count_below vs ps)

pub count_stand : (xs : List Text) (bs : Environment) (ps : Pieces) (ts : List Tree) → StandFor xs bs ps ts → count ps ≡ length ts
count_stand xs bs ps ts s = sym (count_below (variables xs) ps) ∙ ap child_count s.terms ∙ count_trees ts

plain_piece : (k : Kind) (n : ℕ) (ps : List Piece) (us : Pieces) → IsPlain k n → kind_piece ps k us ≡ piece (kind_head k) us
plain_piece (kind.Make k) n ps us h = absurd h
plain_piece _ n ps us h = refl

plain_node : (k : Kind) (n : ℕ) → IsPlain k n → IsNode (kind_head k)
plain_node (kind.Make k) n h = absurd h
plain_node _ n h = tt

plain_binders : (k : Kind) (n : ℕ) → IsPlain k n → binders (kind_head k) ≡ []
plain_binders (kind.Make k) n h = absurd h
plain_binders (kind.Let x) n h = absurd h
plain_binders _ n h = refl

plain_arity : (k : Kind) (n : ℕ) → IsPlain k n → HasArity (kind_head k) n
plain_arity (kind.Make k) n h = absurd h
plain_arity (kind.Let x) n h = absurd h
plain_arity _ n h = h

plain_below : (k : Kind) (n m : ℕ) → IsPlain k n → KindBelow m k
plain_below (kind.Make k) n m h = absurd h
plain_below _ n m h = tt

plain_sound : (k : Kind) (n : ℕ) (ps : List Piece) → IsPlain k n → KindSound ps k
plain_sound (kind.Make k) n ps h = absurd h
plain_sound _ n ps h = tt

-- the child of a node that was put
pub ends : (ms : List Node) (n : Node) → length (ms ++ n ∷ []) ≡ suc (length ms)
ends ms n = let e : length (ms ++ n ∷ []) ≡ length ms + 1 = length-append ms (n ∷ []) in omega (arith, e)

-- a node that was put adds its term, where its piece is that of the term
pub put_adds : (a b : Body) (ns ms ks : List Node) (cs es : List Child) (n : Node) (t : Tree) → SameScope a b → Grows ns ms → Grows ms (ms ++ n ∷ [])
    → ks ≡ ms ++ n ∷ [] → es ≡ cs ++ child.Node (length ms) ∷ []
    → tree (variables a.captured) (node_piece (pieces ms) n) ≡ t → Fits a.captured a.bound (length a.captured + length a.bound) (node_piece (pieces ms) n)
    → b.uses ≡ a.uses ++ uses (node_piece (pieces ms) n)
    → Adds a b ns ks cs es (t ∷ [])
put_adds a b ns ms ks cs es n t same g h pushed child_is term fits used =
    let all : List Node = ms ++ n ∷ [] in
    let here : length ms < length all = let e : length all ≡ suc (length ms) = ends ms n in omega (arith, e) in
    let is : piece_at (pieces all) (length ms) ≡ node_piece (pieces ms) n = last_piece ms n in
    subst (λ (l : List Node). Adds a b ns l cs es (t ∷ [])) (sym pushed) (record {
      same = same;
      grows = grows_more ns ms all g h;
      new = child.Node (length ms) ∷ [];
      children = child_is;
      before = (here, tt);
      stand = record {
        terms = (λ i. more (tree (variables a.captured) (is i)) none) ∙ ap (λ (u : Tree). more u none) term;
        fits = (subst (Fits a.captured a.bound (length a.captured + length a.bound)) (sym is) fits, tt);
      };
      uses = used ∙ ap (λ (p : Piece). a.uses ++ uses p) (sym is) ∙ ap (λ (l : List ℕ). a.uses ++ l) (sym (append-nil (uses (piece_at (pieces all) (length ms)))));
    })

-- over the children of a node
above : (a b : Body) (ns ms : List Node) (cs es : List Child) (n : Node) (ts : List Tree) → Adds a b ns ms [] n.children.items ts → IsPlain n.kind (length ts)
    → es ≡ cs ++ child.Node (length ms) ∷ [] → Adds a b ns (ms ++ n ∷ []) cs es (node (kind_head n.kind) (trees ts) ∷ [])
above a b ns ms cs es n ts x plain child_is =
    let k : Kind = n.kind in
    let row : Vec Child = n.children in
    let xs : List Text = a.captured in
    let scope : Environment = a.bound in
    let h : ℕ = length xs + length a.bound in
    let ps : Pieces = pieces_of (pieces ms) row.items in
    let new : x.new ≡ row.items = sym x.children in
    let stand : StandFor xs a.bound ps ts = subst (λ (l : List Child). StandFor xs a.bound (pieces_of (pieces ms) l) ts) new x.stand in
    let size : count ps ≡ length ts = count_stand xs a.bound ps ts stand in
    let is : node_piece (pieces ms) n ≡ piece (kind_head k) ps = plain_piece k (length ts) (pieces ms) ps plain in
    let before : AllBelow (length ms) row.items = subst (AllBelow (length ms)) new x.before in
    let all : AllFit xs scope h (binders (kind_head k)) ps = subst (λ (l : List (List Text)). AllFit xs scope h l ps) (sym (plain_binders k (length ts) plain)) stand.fits in
    let arity : HasArity (kind_head k) (count ps) = subst (HasArity (kind_head k)) (sym size) (plain_arity k (length ts) plain) in
    let fits : Fits xs scope h (piece (kind_head k) ps) = (plain_node k (length ts) plain, arity, all) in
    put_adds a b ns ms (ms ++ n ∷ []) cs es n (node (kind_head k) (trees ts)) x.same x.grows
    (put_grows ms n before (plain_below k (length ts) (length ms) plain) (λ t. plain_sound k (length ts) (pieces ms) plain)) refl child_is
    (ap (tree (variables xs)) is ∙ ap (node (kind_head k)) stand.terms) (subst (Fits xs scope h) (sym is) fits)
    (x.uses ∙ (λ i. a.uses ++ uses_below (pieces_of (pieces ms) (new i))) ∙ ap (λ (p : Piece). a.uses ++ uses p) (sym is))

pub node_added : {at : ℕ} (a b : Body) (ns ms ks : List Node) (cs es : List Child) (k : Kind) (row : Vec Child) (ts : List Tree) → Adds a b ns ms [] row.items ts → IsPlain k (length ts)
    → IsPut ms ks k row at → es ≡ cs ++ child.Node (length ms) ∷ [] → Adds a b ns ks cs es (node (kind_head k) (trees ts) ∷ [])
node_added a b ns ms ks cs es k row ts x plain put child_is =
    let here : Adds a b ns ms [] put.node.children.items ts = subst (λ (v : Vec Child). Adds a b ns ms [] v.items ts) (sym put.below_is) x in
    let added : Adds a b ns (ms ++ put.node ∷ []) cs es (node (kind_head put.node.kind) (trees ts) ∷ []) =
    above a b ns ms cs es put.node ts here (subst (λ (q : Kind). IsPlain q (length ts)) (sym put.kind_is) plain) child_is in
    subst (λ (l : List Node). Adds a b ns l cs es (node (kind_head k) (trees ts) ∷ [])) (sym put.pushed)
    (subst (λ (q : Kind). Adds a b ns (ms ++ put.node ∷ []) cs es (node (kind_head q) (trees ts) ∷ [])) put.kind_is added)

-- A variable

pub variable_added : (a b : Body) (ns : List Node) (cs ds : List Child) (x : Text) (l : Leaf) → LeafFits a.captured a.bound l → x ≡ leaf_name a.captured l
    → SameScope a b → b.uses ≡ a.uses ++ leaf_use l → ds ≡ cs ++ child.Leaf l ∷ [] → Adds a b ns ns cs ds (leaf (term.Var x) ∷ [])
variable_added a b ns cs ds x l fits name same used child_is = record {
  same = same;
  grows = grows_not ns;
  new = child.Leaf l ∷ [];
  children = child_is;
  before = (tt, tt);
  stand = record { terms = ap (λ (u : Tree). more u none) (leaf_is x a.captured a.bound l fits name); fits = (fits, tt) };
  uses = used ∙ ap (λ (us : List ℕ). a.uses ++ us) (sym (append-nil (leaf_use l)));
}

-- The last child

pub ends_node : (m i : ℕ) (cs ds : List Child) → ds ≡ cs ++ child.Node i ∷ [] → suc i ≡ m → EndsTable m ds
ends_node m i cs ds e h = subst (EndsTable m) (sym e) (go cs)
  where
    go : (cs : List Child) → EndsTable m (cs ++ child.Node i ∷ [])
    go [] = h
    go (c ∷ []) = h
    go (c ∷ d ∷ cs) = go (d ∷ cs)

pub ends_leaf : (m : ℕ) (l : Leaf) (cs ds : List Child) → ds ≡ cs ++ child.Leaf l ∷ [] → EndsTable m ds
ends_leaf m l cs ds e = subst (EndsTable m) (sym e) (go cs)
  where
    go : (cs : List Child) → EndsTable m (cs ++ child.Leaf l ∷ [])
    go [] = tt
    go (c ∷ []) = tt
    go (c ∷ d ∷ cs) = go (d ∷ cs)

pub ends_put : (ms ks : List Node) (n : Node) (cs ds : List Child) → ks ≡ ms ++ n ∷ [] → ds ≡ cs ++ child.Node (length ms) ∷ [] → EndsTable (length ks) ds
ends_put ms ks n cs ds e h = ends_node (length ks) (length ms) cs ds h (sym (ap length e ∙ ends ms n))

-- A binding

one_child : (vs : List Tree) (ps : List Piece) (new : List Child) (t : Tree) → below vs (pieces_of ps new) none ≡ more t none → (c : Child) × (new ≡ c ∷ [])
one_child vs ps [] t e = cc
one_child vs ps (c ∷ []) t e = (c, refl)
one_child vs ps (c ∷ d ∷ cs) t e = cc

-- the piece of a term
pub record OnePiece (a : Body) (ps : List Piece) (new : List Child) (t : Tree) : Type 0 where
  pub child : Child
  pub is : new ≡ child ∷ []
  pub term : tree (variables a.captured) (piece_of ps child) ≡ t
  pub fits : Fits a.captured a.bound (length a.captured + length a.bound) (piece_of ps child)

pub one_piece : (a : Body) (ps : List Piece) (new : List Child) (t : Tree) → StandFor a.captured a.bound (pieces_of ps new) (t ∷ []) → OnePiece a ps new t
one_piece a ps new t s =
    let xs : List Text = a.captured in
    let x : (c : Child) × (new ≡ c ∷ []) = one_child (variables xs) ps new t s.terms in
    let here : StandFor xs a.bound (pieces_of ps (x.0 ∷ [])) (t ∷ []) = subst (λ (l : List Child). StandFor xs a.bound (pieces_of ps l) (t ∷ [])) x.1 s in
    record { child = x.0; is = x.1; term = first (tree (variables xs) (piece_of ps x.0)) t here.terms; fits = here.fits.0 }
  where
    first : (u t : Tree) → more u none ≡ more t none → u ≡ t
    first u t e = cc

fits_at : (xs : List Text) (scope : Environment) (h k : ℕ) (p : Piece) → h ≡ k → Fits xs scope h p → Fits xs scope k p
fits_at xs scope h k p e f = subst (λ (n : ℕ). Fits xs scope n p) e f

-- the first term stands in the body a, and the second where a name is bound behind its other ones
pub let_added : {at : ℕ} (a b c d e : Body) (ns ms ls ks : List Node) (cs es : List Child) (x : Text) (row : Vec Child) (ds : List Child) (t u : Tree)
    → Adds a b ns ms [] ds (t ∷ []) → SameScope b c → b.uses ≡ c.uses
    → d.captured ≡ c.captured → d.bound ≡ (x, length c.captured + length c.bound) ∷ c.bound → d.uses ≡ c.uses
    → (f : Body) → Adds d e ms ls ds row.items (u ∷ []) → SameScope a f → f.uses ≡ e.uses
    → IsPut ls ks (kind.Let x) row at → es ≡ cs ++ child.Node (length ls) ∷ [] → Adds a f ns ks cs es (node (term.Let x) (more t (more u none)) ∷ [])
let_added a b c d e ns ms ls ks cs es x row ds t u first same_c uses_c captured_d bound_d uses_d f second same_f uses_f put child_is =
    let n : Node = put.node in
    let xs : List Text = a.captured in
    let scope : Environment = a.bound in
    let h : ℕ = length xs + length a.bound in
    let ac : SameScope a c = same_then a b c first.same same_c in
    let captured : d.captured ≡ xs = captured_d ∙ ac.captured in
    let bound : d.bound ≡ (x, h) ∷ a.bound = bound_d ∙ (λ i. (x, length (ac.captured i) + length (ac.bound i)) ∷ ac.bound i) in
    let inner : d.bound ≡ (x, h) ∷ scope = bound in
    let size : length d.bound ≡ suc (length a.bound) = ap length bound in
    let same_size : length d.captured ≡ length xs = ap length captured in
    let height : length d.captured + length d.bound ≡ h + 1 = omega (arith, size, same_size) in
    let kept : pieces_of (pieces ls) first.new ≡ pieces_of (pieces ms) first.new = stays ms ls first.new second.grows first.before in
    let p : OnePiece a (pieces ls) first.new t = one_piece a (pieces ls) first.new t (subst (λ (q : Pieces). StandFor xs a.bound q (t ∷ [])) (sym kept) first.stand) in
    let q : OnePiece d (pieces ls) second.new u = one_piece d (pieces ls) second.new u second.stand in
    let both : row.items ≡ p.child ∷ q.child ∷ [] = second.children ∙ (λ i. (first.children ∙ p.is) i ++ q.is i) in
    let old : AllBelow (length ls) (p.child ∷ []) = subst (AllBelow (length ls)) p.is (all_below_more (length ms) (length ls) first.new (longer ms ls second.grows) first.before) in
    let last : AllBelow (length ls) (q.child ∷ []) = subst (AllBelow (length ls)) q.is second.before in
    let before : AllBelow (length ls) row.items = subst (AllBelow (length ls)) (sym both) (old.0, last) in
    let pp : Piece = piece_of (pieces ls) p.child in
    let qq : Piece = piece_of (pieces ls) q.child in
    let is : node_piece (pieces ls) n ≡ piece (term.Let x) (also pp (also qq nothing)) =
    (λ i. kind_piece (pieces ls) (put.kind_is i) (pieces_of (pieces ls) (put.below_is i).items)) ∙ ap (λ (l : List Child). piece (term.Let x) (pieces_of (pieces ls) l)) both in
    let none_more : h ≡ h + 0 = omega arith in
    let q_here : Fits xs ((x, h) ∷ scope) (h + 1) qq = fits_at xs ((x, h) ∷ scope) (length d.captured + length d.bound) (h + 1) qq height
    (subst (λ (ys : List Text). Fits ys ((x, h) ∷ scope) (length d.captured + length d.bound) qq) captured (subst (λ (e : Environment). Fits d.captured e (length d.captured + length d.bound) qq) inner q.fits)) in
    let fits : Fits xs scope h (piece (term.Let x) (also pp (also qq nothing))) = (tt, refl, (fits_at xs scope h (h + 0) pp none_more p.fits, (q_here, tt))) in
    let q_term : tree (variables xs) qq ≡ u = ap (λ (ys : List Text). tree (variables ys) qq) (sym captured) ∙ q.term in
    let first_uses : uses_below (pieces_of (pieces ms) first.new) ≡ uses pp = ap uses_below (sym kept) ∙ ap (λ (l : List Child). uses_below (pieces_of (pieces ls) l)) p.is ∙ append-nil (uses pp) in
    let second_uses : uses_below (pieces_of (pieces ls) second.new) ≡ uses qq ++ [] = ap (λ (l : List Child). uses_below (pieces_of (pieces ls) l)) q.is in
    put_adds a f ns ls ks cs es n (node (term.Let x) (more t (more u none))) same_f (grows_more ns ms ls first.grows second.grows)
    (put_grows ls n (subst (λ (v : Vec Child). AllBelow (length ls) v.items) (sym put.below_is) before) (subst (KindBelow (length ls)) (sym put.kind_is) tt)
    (λ t. subst (KindSound (pieces ls)) (sym put.kind_is) tt)) put.pushed child_is
    (ap (tree (variables xs)) is ∙ (λ i. node (term.Let x) (more (p.term i) (more (q_term i) none)))) (subst (Fits xs scope h) (sym is) fits)
    (uses_f ∙ second.uses ∙ (λ i. (uses_d ∙ sym uses_c ∙ first.uses ∙ ap (λ (l : List ℕ). a.uses ++ l) first_uses) i ++ second_uses i) ∙ append_assoc a.uses (uses pp) (uses qq ++ [])
    ∙ ap (λ (p : Piece). a.uses ++ uses p) (sym is))

-- Steps of loops

pub map_step : {A B : Type 0} (f : A → B) (xs : List A) (i : ℕ) (x : A) → i < length xs → x ≡ get_or xs i x → map f (take i xs) ++ f x ∷ [] ≡ map f (take (i + 1) xs)
map_step f xs i x h e = sym (ap (map f) (take_more xs i x h) ∙ map_append f (take i xs) (get_or xs i x ∷ []) ∙ ap (λ y. map f (take i xs) ++ f y ∷ []) (sym e))
  where
    map_append : {A B : Type 0} (f : A → B) (xs ys : List A) → map f (xs ++ ys) ≡ map f xs ++ map f ys
    map_append f [] ys = refl
    map_append f (x ∷ xs) ys = ap (λ (zs : List _). f x ∷ zs) (map_append f xs ys)

pub map_length : {A B : Type 0} (f : A → B) (xs : List A) → length (map f xs) ≡ length xs
map_length f [] = refl
map_length f (x ∷ xs) = ap suc (map_length f xs)

pub popped : {A : Type 0} (xs ys : List A) (x : A) (n : ℕ) → ys ≡ xs ++ x ∷ [] → n ≡ length ys → take (n - 1) ys ≡ xs
popped xs ys x n e h =
    let size : length ys ≡ length xs + 1 = ap length e ∙ length-append xs (x ∷ []) in
    let m : n - 1 ≡ length xs = omega (arith, size, h) in
    (λ i. take (m i) (e i)) ∙ take-append_seam xs (x ∷ [])

-- Bodies with one scope

pub same_names : (a b : Body) → SameScope a b → names_in b ≡ names_in a
same_names a b s = λ i. names (s.bound i) ++ s.captured i

pub same_closed : (a b : Body) (t : Tree) → SameScope a b → IsClosed (names_in a) t → IsClosed (names_in b) t
same_closed a b t s c = subst (λ (ns : List Text). IsClosed ns t) (sym (same_names a b s)) c

pub same_closed_below : (a b : Body) (ns : List (List Text)) (ts : Trees) → SameScope a b → AreClosed (names_in a) ns ts → AreClosed (names_in b) ns ts
same_closed_below a b ns ts s c = subst (λ (l : List Text). AreClosed l ns ts) (sym (same_names a b s)) c

pub closed_at : {A : Type 0} (f : A → Tree) (ns : List Text) (xs : List A) (i : ℕ) (x : A) → i < length xs → x ≡ get_or xs i x → AreClosed ns [] (trees (map f xs)) → IsClosed ns (f x)
closed_at f ns [] i x h e c = absurd (omega (arith, h))
closed_at f ns (y ∷ xs) zero x h e c = subst (λ z. IsClosed ns (f z)) (sym e) c.0
closed_at f ns (y ∷ xs) (suc i) x h e c = let less : i < length xs = omega (arith, h) in closed_at f ns xs i x less e c.1

-- a row behind no child
pub row_of : (a b : Body) (ns ms : List Node) (cs ds : List Child) (ts : List Tree) → cs ≡ [] → Adds a b ns ms cs ds ts → Adds a b ns ms [] ds ts
row_of a b ns ms cs ds ts e x = subst (λ (l : List Child). Adds a b ns ms l ds ts) e x

pub if_ok : {A E : Type 0} (r : Result A E) (P Q : A → Type 0) → IfOk r P → ((x : A) → P x → Q x) → IfOk r Q
if_ok (Ok a) P Q p f = f a p
if_ok (Err e) P Q p f = tt
