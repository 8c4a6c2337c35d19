-- What compiling methods adds, and what an object adds.
use Rattle.std.proofs.Common.{◌≡◌, ℕ, suc, ◌+◌, List, [], ◌∷◌, ◌++◌, length, map, refl, sym, ap, subst, ◌∙◌, arith, append_assoc}
use Rattle.std.proofs.lemmas.List.{append-nil}
use Rattle.std.specs.Global.{Box, Vec}
use Rattle.std.specs.List.{flat_map}
use Rattle.asp_model.specs.Names.{Text}
use Rattle.asp_model.specs.Term.{MethodHead, Tree, Trees, node, none, more, trees, Environment}
use Rattle.asp_model.specs.Term as term
use Rattle.code_table.specs.declared.code.Capture.{Capture}
use Rattle.code_table.specs.declared.code.Child.{Child}
use Rattle.code_table.specs.declared.code.Child.TheVariants as child
use Rattle.code_table.specs.declared.class.Class.{Class}
use Rattle.code_table.specs.declared.code.Kind.TheVariants as kind
use Rattle.code_table.specs.declared.code.MethodCode.{MethodCode}
use Rattle.code_table.specs.declared.code.Node.{Node}
use Rattle.code_table.specs.Pieces.{Piece, object, Pieces, nothing, also, Bodies, count, heads_of, captured_trees, tree, below, bodies}
use Rattle.code_table.specs.Fitting.{Fits, BodiesFit, captured_names, head_names, body_scope, body_height, slots_from}
use Rattle.code_table.specs.Uses.{use_at, uses, uses_below, uses_in}
use Rattle.code_table.specs.Tables.{labels_of, head_of, piece_of, pieces_of, bodies_of, kind_piece, node_piece, pieces}
use Rattle.code_table.specs.Sound.{IsBelow, AllBelow, KindBelow, MethodsSound, StartFrom, KindSound}
use Rattle.code_table.proofs.GrowthLemmas.{all_below_more, methods_below_more, methods_below_append, bodies_kept, methods_sound_kept}
use Rattle.code_compiler.proofs.SlotLemmas.{length-slots}
use Rattle.code_compiler.specs.Compiled.{Body, IsPut, variables, scope_of, StandFor, Adds, heads_of_code, captured_count, AddsMethods, IsMethod}
use Rattle.code_compiler.proofs.ScopeLemmas.{captured_are}
use Rattle.code_compiler.proofs.AddLemmas.{then, trees_append, grows_not, grows_more, longer, same_self, same_then, OnePiece, one_piece, put_adds, put_grows, stays, count_stand}

-- Methods one after the other

map_append : {A B : Type 0} (f : A → B) (xs ys : List A) → map f (xs ++ ys) ≡ map f xs ++ map f ys
map_append f [] ys = refl
map_append f (x ∷ xs) ys = ap (λ (zs : List _). f x ∷ zs) (map_append f xs ys)

bodies_append : (vs : List Tree) (ps : List Piece) (xs ys : List MethodCode) → bodies vs (bodies_of ps (xs ++ ys)) ≡ then (bodies vs (bodies_of ps xs)) (bodies vs (bodies_of ps ys))
bodies_append vs ps [] ys = refl
bodies_append vs ps (m ∷ xs) ys = ap (more (tree (captured_trees vs m.captured.items) (piece_of ps m.body))) (bodies_append vs ps xs ys)

fit_append : (xs : List Text) (scope : Environment) (ps : List Piece) (qs bs : List MethodCode) → BodiesFit xs scope (bodies_of ps qs) → BodiesFit xs scope (bodies_of ps bs) → BodiesFit xs scope (bodies_of ps (qs ++ bs))
fit_append xs scope ps [] bs f g = g
fit_append xs scope ps (m ∷ qs) bs f g = (f.0, f.1, fit_append xs scope ps qs bs f.2 g)

sound_append : (ps : List Piece) (qs bs : List MethodCode) → MethodsSound ps qs → MethodsSound ps bs → MethodsSound ps (qs ++ bs)
sound_append ps [] bs f g = g
sound_append ps (m ∷ qs) bs f g = (f.0, sound_append ps qs bs f.1 g)

start_append : (s : ℕ) (qs bs : List MethodCode) → StartFrom s qs → StartFrom (s + captured_count qs) bs → StartFrom s (qs ++ bs)
start_append s [] bs f g = let e : s + 0 ≡ s = omega arith in subst (λ (k : ℕ). StartFrom k bs) e g
start_append s (m ∷ qs) bs f g =
    let size : ℕ = length m.captured.items in
    let e : s + (size + captured_count qs) ≡ (s + size) + captured_count qs = omega arith in
    (f.0, start_append (s + size) qs bs f.1 (subst (λ (k : ℕ). StartFrom k bs) e g))

used_append : (ps : List Piece) (qs bs : List MethodCode) → uses_in (bodies_of ps (qs ++ bs)) ≡ uses_in (bodies_of ps qs) ++ uses_in (bodies_of ps bs)
used_append ps [] bs = refl
used_append ps (m ∷ qs) bs =
    let here : List ℕ = flat_map (use_at m.captured.items) (uses (piece_of ps m.body)) in
    ap (λ (l : List ℕ). here ++ l) (used_append ps qs bs) ∙ sym (append_assoc here (uses_in (bodies_of ps qs)) (uses_in (bodies_of ps bs)))

pub count_append : (qs bs : List MethodCode) → captured_count (qs ++ bs) ≡ captured_count qs + captured_count bs
count_append [] bs = omega arith
count_append (m ∷ qs) bs = let e : captured_count (qs ++ bs) ≡ captured_count qs + captured_count bs = count_append qs bs in omega (arith, e)

pub no_methods_added : (a : Body) (ns : List Node) (s : ℕ) → AddsMethods a a ns ns s [] [] []
no_methods_added a ns s = record {
  same = same_self a;
  grows = grows_not ns;
  heads_are = refl;
  terms = refl;
  before = tt;
  fits = tt;
  sound = tt;
  starts = tt;
  uses = sym (append-nil a.uses);
}

pub methods_more : (a b c : Body) (ns ms ls : List Node) (s k : ℕ) (qs bs : List MethodCode) (hs is : List MethodHead) (ts us : List Tree)
    → AddsMethods a b ns ms s qs hs ts → AddsMethods b c ms ls k bs is us → k ≡ s + captured_count qs → AddsMethods a c ns ls s (qs ++ bs) (hs ++ is) (ts ++ us)
methods_more a b c ns ms ls s k qs bs hs is ts us x y at =
    let xs : List Text = a.captured in
    let kept : bodies_of (pieces ls) qs ≡ bodies_of (pieces ms) qs = ap (λ (l : List Node). bodies_of (pieces l) qs) y.grows.grown ∙ bodies_kept ms y.grows.added qs x.before in
    let sound : MethodsSound (pieces ls) qs = subst (λ (l : List Node). MethodsSound (pieces l) qs) (sym y.grows.grown) (methods_sound_kept ms y.grows.added qs x.before x.sound) in
    let fits : BodiesFit xs (scope_of a) (bodies_of (pieces ls) bs) =
    subst (λ (ys : List Text). BodiesFit ys (scope_of a) (bodies_of (pieces ls) bs)) x.same.captured (subst (λ (e : Environment). BodiesFit b.captured e (bodies_of (pieces ls) bs)) x.same.bound y.fits) in
    record {
      same = same_then a b c x.same y.same;
      grows = grows_more ns ms ls x.grows y.grows;
      heads_are = map_append head_of qs bs ∙ (λ i. x.heads_are i ++ y.heads_are i);
      terms = bodies_append (variables xs) (pieces ls) qs bs
          ∙ (λ i. then ((ap (bodies (variables xs)) kept ∙ x.terms) i) ((ap (λ (ys : List Text). bodies (variables ys) (bodies_of (pieces ls) bs)) (sym x.same.captured) ∙ y.terms) i)) ∙ trees_append ts us;
      before = methods_below_append (length ls) qs bs (methods_below_more (length ms) (length ls) qs (longer ms ls y.grows) x.before) y.before;
      fits = fit_append xs (scope_of a) (pieces ls) qs bs (subst (BodiesFit xs (scope_of a)) (sym kept) x.fits) fits;
      sound = sound_append (pieces ls) qs bs sound y.sound;
      starts = start_append s qs bs x.starts (subst (λ (j : ℕ). StartFrom j bs) at y.starts);
      uses = y.uses ∙ ap (λ (l : List ℕ). l ++ uses_in (bodies_of (pieces ls) bs)) (x.uses ∙ ap (λ (p : Bodies). a.uses ++ uses_in p) (sym kept))
          ∙ append_assoc a.uses (uses_in (bodies_of (pieces ls) qs)) (uses_in (bodies_of (pieces ls) bs)) ∙ ap (λ (l : List ℕ). a.uses ++ l) (sym (used_append (pieces ls) qs bs));
    }

-- One method

name_count : (cs : List Capture) → length (captured_names cs) ≡ length cs
name_count [] = refl
name_count (c ∷ cs) = ap suc (name_count cs)

pub method_added : (a b inner after : Body) (ns ms : List Node) (start : ℕ) (head : MethodHead) (code : Child) (m : MethodCode) (t : Tree)
    → scope_of inner ≡ slots_from (length inner.captured) (head_names head) → inner.uses ≡ [] → Adds inner after ns ms [] (code ∷ []) (t ∷ [])
    → IsMethod a b after.captured after.uses start head code m
    → AddsMethods a b ns ms start (m ∷ []) (head ∷ []) (t ∷ [])
method_added a b inner after ns ms start head code m t slots unused x y =
    let ps : List Piece = pieces ms in
    let xs : List Text = a.captured in
    let cs : List Capture = m.captured.items in
    let p : OnePiece inner ps x.new t = one_piece inner ps x.new t x.stand in
    let one : code ∷ [] ≡ p.child ∷ [] = x.children ∙ p.is in
    let child_is : p.child ≡ m.body = only p.child code one ∙ sym y.code_is in
    let q : Piece = piece_of ps m.body in
    let at : piece_of ps p.child ≡ q = ap (piece_of ps) child_is in
    let names : inner.captured ≡ captured_names cs = sym x.same.captured ∙ sym y.names_are in
    let size : length inner.captured ≡ length cs = ap length names ∙ name_count cs in
    let scope : scope_of inner ≡ body_scope cs (head_of m) = slots ∙ (λ i. slots_from (size i) (head_names (sym y.head_is i))) in
    let heads : length inner.bound ≡ length (head_names (head_of m)) =
    ap length slots ∙ length-slots (length inner.captured) (head_names head) ∙ ap (λ (h : MethodHead). length (head_names h)) (sym y.head_is) in
    let height : length inner.captured + length inner.bound ≡ body_height cs (head_of m) = λ i. size i + heads i in
    let fits : Fits (captured_names cs) (body_scope cs (head_of m)) (body_height cs (head_of m)) q =
    fits_at (λ i. names i) scope height at p.fits in
    let body_uses : uses_below (pieces_of ps x.new) ≡ uses q = ap (λ (l : List Child). uses_below (pieces_of ps l)) p.is ∙ append-nil (uses (piece_of ps p.child)) ∙ ap uses at in
    let all_uses : m.uses.items ≡ uses q = y.uses_are ∙ x.uses ∙ (λ i. unused i ++ body_uses i) in
    let term_is : tree (captured_trees (variables xs) cs) q ≡ t =
    ap (λ (vs : List Tree). tree vs q) (captured_are xs (scope_of a) cs y.fit ∙ ap variables (sym names)) ∙ ap (tree (variables inner.captured)) (sym at) ∙ p.term in
    let before : AllBelow (length ms) (p.child ∷ []) = subst (AllBelow (length ms)) p.is x.before in
    record {
      same = y.same;
      grows = x.grows;
      heads_are = ap (λ (h : MethodHead). h ∷ []) y.head_is;
      terms = ap (λ (u : Tree). more u none) term_is;
      before = (subst (IsBelow (length ms)) child_is before.0, tt);
      fits = (y.fit, fits, tt);
      sound = (record { fits = fits; uses = all_uses }, tt);
      starts = (y.start_is, tt);
      uses = y.passed ∙ ap (λ (us : List ℕ). a.uses ++ flat_map (use_at cs) us) all_uses ∙ ap (λ (l : List ℕ). a.uses ++ l) (sym (append-nil (flat_map (use_at cs) (uses q))));
    }
  where
    only : (c d : Child) → d ∷ [] ≡ c ∷ [] → c ≡ d
    only c d e = cc

    fits_at : {xs ys : List Text} {d e : Environment} {h k : ℕ} {p q : Piece} → xs ≡ ys → d ≡ e → h ≡ k → p ≡ q → Fits xs d h p → Fits ys e k q
    fits_at x d h p f = subst (λ (r : Type 0). r) (λ i. Fits (x i) (d i) (h i) (p i)) f

-- An object

heads_in_code : (ps : List Piece) (ms : List MethodCode) → heads_of (bodies_of ps ms) ≡ heads_of_code ms
heads_in_code ps [] = refl
heads_in_code ps (m ∷ ms) = ap (λ (hs : List MethodHead). head_of m ∷ hs) (heads_in_code ps ms)

below_trees : (vs : List Tree) (ps : Pieces) (us : Trees) → below vs ps us ≡ then (below vs ps none) us
below_trees vs nothing us = refl
below_trees vs (also p ps) us = ap (more (tree vs p)) (below_trees vs ps us)

map_size : {A B : Type 0} (f : A → B) (xs : List A) → length (map f xs) ≡ length xs
map_size f [] = refl
map_size f (x ∷ xs) = ap suc (map_size f xs)

pub object_added : {at : ℕ} (a b c : Body) (ns ms ls ks : List Node) (cs es : List Child) (row : Vec Child) (k : Box Class) (start : ℕ) (labels : List Text) (heads : List MethodHead) (ts us : List Tree)
    → Adds a b ns ms [] row.items ts → AddsMethods b c ms ls start k.value.methods.items heads us → labels_of k.value ≡ labels → length labels ≡ length ts → start ≡ length k.value.fields.items
    → IsPut ls ks (kind.Make k) row at → es ≡ cs ++ child.Node (length ls) ∷ []
    → Adds a c ns ks cs es (node (term.Make labels heads) (trees (ts ++ us)) ∷ [])
object_added a b c ns ms ls ks cs es row k start labels heads ts us x y labels_are size start_is put child_is =
    let n : Node = put.node in
    let codes : List MethodCode = k.value.methods.items in
    let xs : List Text = a.captured in
    let vs : List Tree = variables xs in
    let ps : List Piece = pieces ls in
    let fs : Pieces = pieces_of ps row.items in
    let bs : Bodies = bodies_of ps codes in
    let new : x.new ≡ row.items = sym x.children in
    let before : AllBelow (length ms) row.items = subst (AllBelow (length ms)) new x.before in
    let kept : fs ≡ pieces_of (pieces ms) row.items = stays ms ls row.items y.grows before in
    let stand : StandFor xs a.bound fs ts =
    subst (λ (q : Pieces). StandFor xs a.bound q ts) (sym kept) (subst (λ (l : List Child). StandFor xs a.bound (pieces_of (pieces ms) l) ts) new x.stand) in
    let field_count : length (labels_of k.value) ≡ count fs = ap length labels_are ∙ size ∙ sym (count_stand xs a.bound fs ts stand) in
    let bodies_fit : BodiesFit xs (scope_of a) bs =
    subst (λ (ys : List Text). BodiesFit ys (scope_of a) bs) x.same.captured (subst (λ (e : Environment). BodiesFit b.captured e bs) x.same.bound y.fits) in
    let bodies_are : bodies vs bs ≡ trees us = ap (λ (ys : List Text). bodies (variables ys) bs) (sym x.same.captured) ∙ y.terms in
    let heads_are : heads_of bs ≡ heads = heads_in_code ps codes ∙ y.heads_are in
    let is : node_piece ps n ≡ object (labels_of k.value) fs bs = λ i. kind_piece ps (put.kind_is i) (pieces_of ps (put.below_is i).items) in
    let term_is : tree vs (node_piece ps n) ≡ node (term.Make labels heads) (trees (ts ++ us)) =
    ap (tree vs) is ∙ (λ i. node (term.Make (labels_are i) (heads_are i)) ((below_trees vs fs (bodies vs bs) ∙ (λ j. then (stand.terms j) (bodies_are j)) ∙ trees_append ts us) i)) in
    let fits : Fits xs a.bound (length xs + length a.bound) (node_piece ps n) = subst (Fits xs a.bound (length xs + length a.bound)) (sym is) (field_count, stand.fits, bodies_fit) in
    let old : AllBelow (length ls) row.items = all_below_more (length ms) (length ls) row.items (longer ms ls y.grows) before in
    let sound : KindSound ps (kind.Make k) = (y.sound, subst (λ (j : ℕ). StartFrom j codes) start_is y.starts) in
    let field_uses : uses_below (pieces_of (pieces ms) x.new) ≡ uses_below fs = ap (λ (l : List Child). uses_below (pieces_of (pieces ms) l)) new ∙ ap uses_below (sym kept) in
    put_adds a c ns ls ks cs es n (node (term.Make labels heads) (trees (ts ++ us))) (same_then a b c x.same y.same) (grows_more ns ms ls x.grows y.grows)
    (put_grows ls n (subst (λ (v : Vec Child). AllBelow (length ls) v.items) (sym put.below_is) old) (subst (KindBelow (length ls)) (sym put.kind_is) y.before)
    (λ t. subst (KindSound ps) (sym put.kind_is) sound)) put.pushed child_is term_is fits
    (y.uses ∙ ap (λ (l : List ℕ). l ++ uses_in bs) (x.uses ∙ ap (λ (l : List ℕ). a.uses ++ l) field_uses) ∙ append_assoc a.uses (uses_below fs) (uses_in bs) ∙ ap (λ (p : Piece). a.uses ++ uses p) (sym is))

-- a row of one term has one child
pub one_child_long : (a b : Body) (ns ms : List Node) (cs ds : List Child) (t : Tree) → cs ≡ [] → Adds a b ns ms cs ds (t ∷ []) → length ds ≡ 1
one_child_long a b ns ms cs ds t e x =
    let p : OnePiece a (pieces ms) x.new t = one_piece a (pieces ms) x.new t x.stand in
    ap length (x.children ∙ (λ i. e i ++ p.is i))
