-- A machine at a redex, and at what its row makes of it.
use Rattle.std.proofs.Common.{◌≡◌, ℕ, zero, suc, ◌+◌, ◌-◌, ◌≤◌, Bool, true, false, List, [], ◌∷◌, ◌++◌, Option, Some, None, length, take, drop, reverse, inl, refl, sym, ap, subst, ◌∙◌, arith, length-append, append_assoc}
use Rattle.std.proofs.lemmas.List.{drop-append-le}
use Rattle.std.proofs.Math.Seq.{drop-append_seam}
use Rattle.std.proofs.lemmas.Bool.{false≢true}
use Rattle.std.specs.Prelude.{ℤ, pos, negsuc}
use Rattle.asp_model.specs.Names.{Text}
use Rattle.asp_model.specs.Term.{Call, Let, Steps, If, Repeat, Tree, Trees, none, more, loc, locs_then, child_count, Environment}
use Rattle.asp_model.specs.Split.{Context, Redex, Stands, Splits, split, plug}
use Rattle.asp_model.specs.Store.{Store, Field, MethodShape, Number, Object, cell}
use Rattle.asp_model.specs.Contraction.{Contraction, Becomes, Needs, allots, contract, row, if_row, call_row, method_found, method_at, is_future, first_future}
use Rattle.asp_model.specs.Configuration.{ServiceShape}
use Rattle.code_table.specs.declared.code.Child.{Child}
use Rattle.code_table.specs.declared.code.Child.TheVariants as child
use Rattle.code_table.specs.declared.class.Class.{Class}
use Rattle.code_table.specs.declared.code.Kind.{Kind}
use Rattle.code_table.specs.declared.code.Kind.TheVariants as kind
use Rattle.code_table.specs.declared.code.MethodCode.{MethodCode}
use Rattle.code_table.specs.declared.code.Node.{Node}
use Rattle.code_table.specs.Pieces.{Piece, variable, piece, object, Pieces, nothing, also, count, heads_of}
use Rattle.code_table.specs.Fitting.{Runs, term_in, captured_names, body_scope}
use Rattle.code_table.specs.Tables.{kind_head, kind_piece, node_piece, pieces, piece_at, piece_of, pieces_of, labels_of, bodies_of, object_of, head_of, with_places}
use Rattle.code_table.specs.Sound.{IsSoundMethod}
use Rattle.code_laws.specs.Places.{kept_places}
use Rattle.code_laws.specs.Nodes.{IsTerm, in_place, is_strict, nth, after, behind_in, redex_in, sequel, unrolled}
use Rattle.code_laws.specs.Splitting.{redex_node}
use Rattle.code_laws.proofs.OpenLemmas.{count_locs}
use Rattle.code_laws.proofs.SplitLemmas.{splits_one_way}
use Rattle.code_laws.proofs.TurnLemmas.{leaf_term, begins, splits_here}
use Rattle.code_laws.proofs.NodeLemmas.{is_term, none_left}
use Rattle.code_laws.proofs.MakeLemmas.{makes}
use Rattle.code_laws.proofs.BodyLemmas.{Entered, entered, calls}
use Rattle.code_laws.proofs.BranchLemmas.{let_enters, let_runs, sequence_goes_on, sequel_runs, choice_goes_on, branches_run, repetition_goes_on, unrolled_runs, nth_after, after_after, count_after}
use Rattle.step_machine.specs.declared.frames.Frame.{Frame}
use Rattle.step_machine.specs.declared.frames.Focus.TheVariants as focus
use Rattle.step_machine.specs.declared.frames.Form.{Form}
use Rattle.step_machine.specs.Views.{IsAlone}
use Rattle.step_machine.specs.Items.{Item, Waits, Suspends, contexts_of}
use Rattle.step_machine.specs.Sequences.{later}
use Rattle.step_machine.specs.Stacks.{piece_from, last, but_last, top, IsItem, IsStack}
use Rattle.step_machine.specs.Standing.{View, IsBegun, Standing}
use Rattle.step_machine.specs.Services.{Below, IsAtSome}
use Rattle.step_machine.specs.Rows.{is_simple, chosen, toward, without_last, place_view, child_view, node_view, bound_view, called_view, IsAtRedex, IsAtIf, Contracts}
use Rattle.step_machine.proofs.StackLemmas.{last_none, but_last_none, last_size, stack_grows, stack_cut}
use Rattle.step_machine.proofs.MoveLemmas.{at_focus, are_contexts}

-- Where it stands

later_term : (from : ℕ) (p : Piece) → IsTerm p → IsTerm (later from p)
later_term zero p h = h
later_term (suc n) (variable l) h = absurd h
later_term (suc n) (piece Steps ps) h = tt
later_term (suc n) (piece Repeat ps) h = tt
later_term (suc n) (piece hd ps) h = tt
later_term (suc n) (object ls fs ms) h = tt

pub stand_place : (k : List Node) (v : View) (vs : List ServiceShape) (b : Below k v vs) (p : ℕ) → v.base ≤ length v.env → Standing k (record v { focus = focus.Place p }) (plug (contexts_of b.items) (loc p)) vs
stand_place k v vs b p low = record {
  items = b.items;
  inner = loc p;
  low = low;
  enough = omega arith;
  focus = refl;
  stack = subst (λ (l : List ℕ). IsStack k (reverse v.frames) v.env l b.items) (sym (but_last_none v.operands)) b.stack;
  futures = b.futures;
  term = refl;
  suspended = b.suspended;
}

pub stand_node : (k : List Node) (v : View) (vs : List ServiceShape) (b : Below k v vs) (number from : ℕ) (xs : List Text) (scope : Environment) → v.base ≤ length v.env → Runs xs scope (drop v.base v.env) (piece_from k number from)
    → Standing k (record v { focus = focus.Node number from 0 }) (plug (contexts_of b.items) (term_in xs scope (drop v.base v.env) (piece_from k number from))) vs
stand_node k v vs b number from xs scope low runs =
    let ns : List ℕ = drop v.base v.env in
    let p : Piece = piece_from k number from in
    let none_done : last 0 v.operands ≡ [] = last_none v.operands in
    record {
      items = b.items;
      inner = redex_node (redex_in xs scope ns p []);
      low = low;
      enough = omega arith;
      focus = record { names = xs; scope = scope; runs = runs; most = subst (λ (l : List ℕ). length l ≤ in_place p) (sym none_done) (omega arith); is = ap (λ (l : List ℕ). redex_node (redex_in xs scope ns p l)) (sym none_done) };
      stack = subst (λ (l : List ℕ). IsStack k (reverse v.frames) v.env l b.items) (sym (but_last_none v.operands)) b.stack;
      futures = b.futures;
      term = ap (plug (contexts_of b.items)) (begins xs scope ns p (later_term from (piece_at (pieces k) number) (is_term k number)) runs);
      suspended = b.suspended;
    }

pub stand_child : (k : List Node) (v : View) (vs : List ServiceShape) (b : Below k v vs) (c : Child) (xs : List Text) (scope : Environment) → v.base ≤ length v.env → Runs xs scope (drop v.base v.env) (piece_of (pieces k) c)
    → Standing k (record v { focus = toward (drop v.base v.env) c }) (plug (contexts_of b.items) (term_in xs scope (drop v.base v.env) (piece_of (pieces k) c))) vs
stand_child k v vs b (child.Leaf l) xs scope low runs =
    let ns : List ℕ = drop v.base v.env in
    subst (λ (t : Tree). Standing k (record v { focus = toward ns (child.Leaf l) }) (plug (contexts_of b.items) t) vs) (sym (leaf_term xs scope ns l runs))
    (stand_place k v vs b (Rattle.code_laws.specs.Places.leaf_place ns l) low)
stand_child k v vs b (child.Node i) xs scope low runs = stand_node k v vs b i 0 xs scope low runs

-- At a redex

pub record Found (k : List Node) (v : View) (number from done : ℕ) (t : Tree) (vs : List ServiceShape) : Type 0 where
  pub names : List Text
  pub scope : Environment
  pub runs : Runs names scope (drop v.base v.env) (piece_from k number from)
  pub low : v.base ≤ length v.env
  pub enough : done ≤ length v.operands
  pub below : Below k (without_last done v) vs
  pub splits : split t ≡ Splits (contexts_of below.items) (redex_in names scope (drop v.base v.env) (piece_from k number from) (last done v.operands))

pub found : (k : List Node) (v : View) (number from done : ℕ) (t : Tree) (vs : List ServiceShape) → Standing k v t vs → v.focus ≡ focus.Node number from done → done ≡ in_place (piece_from k number from) → Found k v number from done t vs
found k v number from done t vs h0 at full =
    let h : Standing k (record v { focus = focus.Node number from done }) t vs = at_focus k v (focus.Node number from done) t vs at h0 in
    let b : IsBegun k (drop v.base v.env) (last done v.operands) number from h.inner = h.focus in
    let enough : done ≤ length v.operands = h.enough in
    let ns : List ℕ = drop v.base v.env in
    let p : Piece = piece_from k number from in
    record {
      names = b.names;
      scope = b.scope;
      runs = b.runs;
      low = h.low;
      enough = enough;
      below = record { items = h.items; stack = h.stack; futures = h.futures; suspended = h.suspended };
      splits = ap split (h.term ∙ ap (plug (contexts_of h.items)) b.is)
          ∙ splits_here (contexts_of h.items) b.names b.scope ns p (last done v.operands) (are_contexts k (reverse v.frames) v.env (but_last done v.operands) h.items h.stack) (later_term from (piece_at (pieces k) number) (is_term k number)) b.runs
          (last_size done v.operands enough ∙ full);
    }

pub at_some : (k : List Node) (v : View) (number from done : ℕ) (t : Tree) (vs : List ServiceShape) → Standing k v t vs → v.focus ≡ focus.Node number from done → done ≡ in_place (piece_from k number from) → IsAtSome k v t vs done
at_some k v number from done t vs h at full =
    let f : Found k v number from done t vs = found k v number from done t vs h at full in
    record { redex = redex_in f.names f.scope (drop v.base v.env) (piece_from k number from) (last done v.operands); low = f.low; below = f.below; splits = f.splits }

-- and each place may take the place of the redex
pub some_redex : (k : List Node) (v : View) (t : Tree) (vs : List ServiceShape) (n : ℕ) (x : IsAtSome k v t vs n) → IsAtRedex k v t vs n x.redex
some_redex k v t vs n x = record { contexts = contexts_of x.below.items; splits = x.splits; place = λ p. stand_place k (without_last n v) vs x.below p x.low }

-- Rows of which all terms are reduced in place

simple_strict : (k : Kind) → is_simple k ≡ true → is_strict (kind_head k) ≡ true
simple_strict (kind.Make k) e = absurd (false≢true e)
simple_strict (kind.Let x) e = absurd (false≢true e)
simple_strict kind.Steps e = absurd (false≢true e)
simple_strict kind.If e = absurd (false≢true e)
simple_strict kind.Repeat e = absurd (false≢true e)
simple_strict k e = refl

pub simple_from : (from : ℕ) (ps : List Piece) (k : Kind) (us : Pieces) → is_simple k ≡ true → later from (kind_piece ps k us) ≡ piece (kind_head k) us
simple_from from ps (kind.Make k) us e = absurd (false≢true e)
simple_from from ps (kind.Let x) us e = absurd (false≢true e)
simple_from from ps kind.Steps us e = absurd (false≢true e)
simple_from from ps kind.If us e = absurd (false≢true e)
simple_from from ps kind.Repeat us e = absurd (false≢true e)
simple_from zero ps k us e = refl
simple_from (suc n) ps k us e = refl

pub simple_splits : (k : List Node) (v : View) (number from done : ℕ) (n : Node) (t : Tree) (vs : List ServiceShape) (f : Found k v number from done t vs) → done ≡ in_place (piece_from k number from)
    → piece_at (pieces k) number ≡ node_piece (pieces k) n → is_simple n.kind ≡ true
    → split t ≡ Splits (contexts_of f.below.items) (record { head = kind_head n.kind; places = last done v.operands; behind = none })
simple_splits k v number from done n t vs f full is simple =
    let ns : List ℕ = drop v.base v.env in
    let us : Pieces = pieces_of (pieces k) n.children.items in
    let ops : List ℕ = last done v.operands in
    let piece_is : piece_from k number from ≡ piece (kind_head n.kind) us = ap (later from) is ∙ simple_from from (pieces k) n.kind us simple in
    let runs : Runs f.names f.scope ns (piece (kind_head n.kind) us) = subst (Runs f.names f.scope ns) piece_is f.runs in
    let all : length ops ≡ in_place (piece (kind_head n.kind) us) = last_size done v.operands f.enough ∙ full ∙ ap in_place piece_is in
    let behind : behind_in f.names f.scope ns (piece (kind_head n.kind) us) (length ops) ≡ none = none_left f.names f.scope ns (kind_head n.kind) us (length ops) (simple_strict n.kind simple) runs all in
    let contexts : List Context = contexts_of f.below.items in
    f.splits ∙ ap (λ (p : Piece). Splits contexts (redex_in f.names f.scope ns p ops)) piece_is ∙ ap (λ (us : Trees). Splits contexts (record { head = kind_head n.kind; places = ops; behind = us })) behind

-- a redex whose terms are all places
pub value_row : (k : List Node) (v : View) (number from done : ℕ) (n : Node) (t : Tree) (vs : List ServiceShape) → Standing k v t vs → v.focus ≡ focus.Node number from done → done ≡ in_place (piece_from k number from)
    → piece_at (pieces k) number ≡ node_piece (pieces k) n → is_simple n.kind ≡ true
    → IsAtRedex k v t vs done (record { head = kind_head n.kind; places = last done v.operands; behind = none })
value_row k v number from done n t vs h at full is simple =
    let f : Found k v number from done t vs = found k v number from done t vs h at full in
    record {
      contexts = contexts_of f.below.items;
      splits = simple_splits k v number from done n t vs f full is simple;
      place = λ p. stand_place k (without_last done v) vs f.below p f.low;
    }

-- Objects

pub record IsAtObject (k : List Node) (v : View) (t : Tree) (vs : List ServiceShape) (n : ℕ) (c : Class) : Type 0 where
  pub redex : Redex
  pub at : IsAtRedex k v t vs n redex
  pub row_is : (s : Store) → contract s redex ≡ allots s (object_of (pieces k) c (last n v.operands ++ kept_places (drop v.base v.env) c.methods.items)) []

pub object_from : (from : ℕ) (ls : List Text) (us : Pieces) (ms : Rattle.code_table.specs.Pieces.Bodies) → later from (object ls us ms) ≡ object ls us ms
object_from zero ls us ms = refl
object_from (suc n) ls us ms = refl

pub object_row : (k : List Node) (v : View) (number from done : ℕ) (n : Node) (c : Class) (t : Tree) (vs : List ServiceShape) → Standing k v t vs → v.focus ≡ focus.Node number from done → done ≡ in_place (piece_from k number from)
    → piece_at (pieces k) number ≡ object (labels_of c) (pieces_of (pieces k) n.children.items) (bodies_of (pieces k) c.methods.items)
    → IsAtObject k v t vs done c
object_row k v number from done n c t vs h at full is =
    let f : Found k v number from done t vs = found k v number from done t vs h at full in
    let ns : List ℕ = drop v.base v.env in
    let us : Pieces = pieces_of (pieces k) n.children.items in
    let q : Piece = object (labels_of c) us (bodies_of (pieces k) c.methods.items) in
    let ops : List ℕ = last done v.operands in
    let piece_is : piece_from k number from ≡ q = ap (later from) is ∙ object_from from (labels_of c) us (bodies_of (pieces k) c.methods.items) in
    let runs : Runs f.names f.scope ns q = subst (Runs f.names f.scope ns) piece_is f.runs in
    let all : length ops ≡ count us = last_size done v.operands f.enough ∙ full ∙ ap in_place piece_is in
    let contexts : List Context = contexts_of f.below.items in
    record {
      redex = redex_in f.names f.scope ns q ops;
      at = record {
        contexts = contexts;
        splits = f.splits ∙ ap (λ (p : Piece). Splits contexts (redex_in f.names f.scope ns p ops)) piece_is;
        place = λ p. stand_place k (without_last done v) vs f.below p f.low;
      };
      row_is = λ s. makes c us (pieces k) f.names f.scope ns ops s runs all;
    }

-- Bindings, sequences, choices, repetitions

pub let_from : (from : ℕ) (x : Text) (us : Pieces) → later from (piece (Let x) us) ≡ piece (Let x) us
let_from zero x us = refl
let_from (suc n) x us = refl

if_from : (from : ℕ) (us : Pieces) → later from (piece If us) ≡ piece If us
if_from zero us = refl
if_from (suc n) us = refl

pub let_row : (k : List Node) (v : View) (number from done place : ℕ) (x : Text) (us : Pieces) (c : Child) (t : Tree) (vs : List ServiceShape) (s : Store) → Standing k v t vs → v.focus ≡ focus.Node number from done → done ≡ in_place (piece_from k number from)
    → piece_at (pieces k) number ≡ piece (Let x) us → last done v.operands ≡ place ∷ [] → nth 1 us ≡ piece_of (pieces k) c
    → Contracts k t vs s s [] (bound_view done place c v)
let_row k v number from done place x us c t vs s h at full is operands_are body =
    let f : Found k v number from done t vs = found k v number from done t vs h at full in
    let ns : List ℕ = drop v.base v.env in
    let p : Piece = piece (Let x) us in
    let piece_is : piece_from k number from ≡ p = ap (later from) is ∙ let_from from x us in
    let runs : Runs f.names f.scope ns p = subst (Runs f.names f.scope ns) piece_is f.runs in
    let contexts : List Context = contexts_of f.below.items in
    let grown : View = record (without_last done v) { env = v.env ++ place ∷ [] } in
    let low : v.base ≤ length v.env = f.low in
    let lower : v.base ≤ length (v.env ++ place ∷ []) = simp length-append (omega (arith, low)) in
    let here : drop v.base (v.env ++ place ∷ []) ≡ ns ++ place ∷ [] = drop-append-le v.base v.env (place ∷ []) low in
    let scope : Environment = (x, length ns) ∷ f.scope in
    let runs0 : Runs f.names scope (ns ++ place ∷ []) (nth 1 us) = let_runs f.names f.scope ns x us place runs in
    let runs1 : Runs f.names scope (drop v.base grown.env) (piece_of (pieces k) c) = subst (λ (l : List ℕ). Runs f.names scope l (piece_of (pieces k) c)) (sym here) (subst (Runs f.names scope (ns ++ place ∷ [])) body runs0) in
    let b : Below k grown vs = record { items = f.below.items; stack = stack_grows k (reverse v.frames) v.env (but_last done v.operands) (place ∷ []) f.below.items f.below.stack; futures = f.below.futures; suspended = f.below.suspended } in
    let becomes : Tree = term_in f.names scope (ns ++ place ∷ []) (nth 1 us) in
    let becomes_is : term_in f.names scope (drop v.base grown.env) (piece_of (pieces k) c) ≡ becomes = ap (λ (l : List ℕ). term_in f.names scope l (piece_of (pieces k) c)) here ∙ ap (term_in f.names scope (ns ++ place ∷ [])) (sym body) in
    record {
      contexts = contexts;
      redex = redex_in f.names f.scope ns p (place ∷ []);
      becomes = becomes;
      splits = f.splits ∙ (λ i. Splits contexts (redex_in f.names f.scope ns (piece_is i) (operands_are i)));
      is = let_enters f.names f.scope ns x us place s runs;
      after = subst (λ (u : Tree). Standing k (bound_view done place c v) (plug contexts u) vs) becomes_is (stand_child k grown vs b c f.names scope lower runs1);
    }

abbrev first_or : ℕ → Option ℕ → Bool → Option ℕ
first_or i o b = elim b [ true ↦ Some i | false ↦ o ]

abbrev needs_or : Contraction → Option ℕ → Contraction
needs_or c o = elim o [ Some n ↦ Needs n | None ↦ c ]

abbrev pub contracted : Store → ℕ → Contraction → Bool → Contraction
contracted s i c b = needs_or c (first_or i (first_future s []) b)

-- the one strict operand is no future
pub one_strict : (s : Store) (i : ℕ) (c : Contraction) → is_future (cell s i) ≡ false → contracted s i c (is_future (cell s i)) ≡ c
one_strict s i c e = ap (contracted s i c) e

branch_runs : (xs : List Text) (scope : Environment) (ns : List ℕ) (us : Pieces) (z : ℤ) → Runs xs scope ns (nth 1 us) × Runs xs scope ns (nth 2 us) → Runs xs scope ns (nth (chosen z) us)
branch_runs xs scope ns us (pos zero) r = r.1
branch_runs xs scope ns us (pos (suc n)) r = r.0
branch_runs xs scope ns us (negsuc n) r = r.0

branch_is : (xs : List Text) (scope : Environment) (ns : List ℕ) (us : Pieces) (s : Store) (z : ℤ) → if_row s (term_in xs scope ns (nth 1 us)) (term_in xs scope ns (nth 2 us)) (Number z) ≡ Becomes (term_in xs scope ns (nth (chosen z) us)) s []
branch_is xs scope ns us s (pos zero) = refl
branch_is xs scope ns us s (pos (suc n)) = refl
branch_is xs scope ns us s (negsuc n) = refl

pub if_row_here : (k : List Node) (v : View) (number from done place : ℕ) (z : ℤ) (us : Pieces) (c : Child) (t : Tree) (vs : List ServiceShape) (s : Store) → Standing k v t vs → v.focus ≡ focus.Node number from done → done ≡ in_place (piece_from k number from)
    → piece_at (pieces k) number ≡ piece If us → last done v.operands ≡ place ∷ [] → cell s place ≡ Number z → nth (chosen z) us ≡ piece_of (pieces k) c
    → Contracts k t vs s s [] (child_view done c v)
if_row_here k v number from done place z us c t vs s h at full is operands_are cell_is branch =
    let f : Found k v number from done t vs = found k v number from done t vs h at full in
    let ns : List ℕ = drop v.base v.env in
    let p : Piece = piece If us in
    let piece_is : piece_from k number from ≡ p = ap (later from) is ∙ if_from from us in
    let runs : Runs f.names f.scope ns p = subst (Runs f.names f.scope ns) piece_is f.runs in
    let contexts : List Context = contexts_of f.below.items in
    let runs1 : Runs f.names f.scope ns (piece_of (pieces k) c) = subst (Runs f.names f.scope ns) branch (branch_runs f.names f.scope ns us z (branches_run f.names f.scope ns us runs)) in
    let becomes : Tree = term_in f.names f.scope ns (nth (chosen z) us) in
    let r : Redex = redex_in f.names f.scope ns p (place ∷ []) in
    let no_future : is_future (cell s place) ≡ false = ap is_future cell_is in
    record {
      contexts = contexts;
      redex = r;
      becomes = becomes;
      splits = f.splits ∙ (λ i. Splits contexts (redex_in f.names f.scope ns (piece_is i) (operands_are i)));
      is = one_strict s place (row s r.head r.places r.behind) no_future ∙ choice_goes_on f.names f.scope ns us place s runs
          ∙ ap (if_row s (term_in f.names f.scope ns (nth 1 us)) (term_in f.names f.scope ns (nth 2 us))) cell_is ∙ branch_is f.names f.scope ns us s z;
      after = subst (λ (u : Tree). Standing k (child_view done c v) (plug contexts u) vs) (ap (term_in f.names f.scope ns) (sym branch)) (stand_child k (without_last done v) vs f.below c f.names f.scope f.low runs1);
    }

two_branches : (k : List Node) (v : View) (done : ℕ) (t : Tree) (vs : List ServiceShape) (xs : List Text) (scope : Environment) (ns ops : List ℕ) (us : Pieces) → Runs xs scope ns (piece If us) → length ops ≡ 1 → (contexts : List Context)
    → split t ≡ Splits contexts (redex_in xs scope ns (piece If us) ops) → ops ≡ last done v.operands → ((p : ℕ) → Standing k (place_view done p v) (plug contexts (loc p)) vs) → IsAtIf k v t vs done
two_branches k v done t vs xs scope ns ops nothing r size cs e o place = let three : 0 ≡ 3 = r.fits.1 in absurd (omega (arith, three))
two_branches k v done t vs xs scope ns ops (also p nothing) r size cs e o place = let three : 1 ≡ 3 = r.fits.1 in absurd (omega (arith, three))
two_branches k v done t vs xs scope ns ops (also p (also a nothing)) r size cs e o place = let three : 2 ≡ 3 = r.fits.1 in absurd (omega (arith, three))
two_branches k v done t vs xs scope ns [] (also p (also a (also b nothing))) r size cs e o place = absurd (omega (arith, size))
two_branches k v done t vs xs scope ns (i ∷ []) (also p (also a (also b nothing))) r size cs e o place =
    let x : Tree = term_in xs scope ns a in
    let y : Tree = term_in xs scope ns b in
    record {
      first = x;
      second = y;
      at = record {
        contexts = cs;
        splits = e ∙ ap (λ (ns : List ℕ). Splits cs (record { head = If; places = ns; behind = more x (more y none) })) o;
        place = place;
      };
    }
two_branches k v done t vs xs scope ns (i ∷ j ∷ ks) (also p (also a (also b nothing))) r size cs e o place = absurd (omega (arith, size))
two_branches k v done t vs xs scope ns ops (also p (also a (also b (also u ps)))) r size cs e o place = let three : suc (suc (suc (suc (count ps)))) ≡ 3 = r.fits.1 in absurd (omega (arith, three))

-- a condition that is read
pub if_at : (k : List Node) (v : View) (number from done : ℕ) (us : Pieces) (t : Tree) (vs : List ServiceShape) → Standing k v t vs → v.focus ≡ focus.Node number from done → done ≡ in_place (piece_from k number from)
    → piece_at (pieces k) number ≡ piece If us → IsAtIf k v t vs done
if_at k v number from done us t vs h at full is =
    let f : Found k v number from done t vs = found k v number from done t vs h at full in
    let ns : List ℕ = drop v.base v.env in
    let ops : List ℕ = last done v.operands in
    let piece_is : piece_from k number from ≡ piece If us = ap (later from) is ∙ if_from from us in
    let runs : Runs f.names f.scope ns (piece If us) = subst (Runs f.names f.scope ns) piece_is f.runs in
    let one : length ops ≡ 1 = last_size done v.operands f.enough ∙ full ∙ ap in_place piece_is in
    let contexts : List Context = contexts_of f.below.items in
    two_branches k v done t vs f.names f.scope ns ops us runs one contexts (f.splits ∙ ap (λ (p : Piece). Splits contexts (redex_in f.names f.scope ns p ops)) piece_is) refl (λ p. stand_place k (without_last done v) vs f.below p f.low)

-- a sequence that goes on with its last term
pub last_term_row : (k : List Node) (v : View) (number from done place : ℕ) (qs : Pieces) (c : Child) (t : Tree) (vs : List ServiceShape) (s : Store) → Standing k v t vs → v.focus ≡ focus.Node number from done → done ≡ in_place (piece_from k number from)
    → piece_from k number from ≡ piece Steps qs → last done v.operands ≡ place ∷ [] → sequel (after 1 qs) ≡ piece_of (pieces k) c
    → Contracts k t vs s s [] (child_view done c v)
last_term_row k v number from done place qs c t vs s h at full piece_is operands_are next =
    let f : Found k v number from done t vs = found k v number from done t vs h at full in
    let ns : List ℕ = drop v.base v.env in
    let p : Piece = piece Steps qs in
    let runs : Runs f.names f.scope ns p = subst (Runs f.names f.scope ns) piece_is f.runs in
    let contexts : List Context = contexts_of f.below.items in
    let runs1 : Runs f.names f.scope ns (piece_of (pieces k) c) = subst (Runs f.names f.scope ns) next (sequel_runs f.names f.scope ns qs runs) in
    record {
      contexts = contexts;
      redex = redex_in f.names f.scope ns p (place ∷ []);
      becomes = term_in f.names f.scope ns (sequel (after 1 qs));
      splits = f.splits ∙ (λ i. Splits contexts (redex_in f.names f.scope ns (piece_is i) (operands_are i)));
      is = sequence_goes_on f.names f.scope ns qs place s runs;
      after = subst (λ (u : Tree). Standing k (child_view done c v) (plug contexts u) vs) (ap (term_in f.names f.scope ns) (sym next)) (stand_child k (without_last done v) vs f.below c f.names f.scope f.low runs1);
    }

-- a sequence that goes on with several terms, or with the repetition that it came from
pub next_terms_row : (k : List Node) (v : View) (number from done place next : ℕ) (qs : Pieces) (t : Tree) (vs : List ServiceShape) (s : Store) → Standing k v t vs → v.focus ≡ focus.Node number from done → done ≡ in_place (piece_from k number from)
    → piece_from k number from ≡ piece Steps qs → last done v.operands ≡ place ∷ [] → sequel (after 1 qs) ≡ piece_from k number next
    → Contracts k t vs s s [] (node_view done number next v)
next_terms_row k v number from done place next qs t vs s h at full piece_is operands_are next_is =
    let f : Found k v number from done t vs = found k v number from done t vs h at full in
    let ns : List ℕ = drop v.base v.env in
    let p : Piece = piece Steps qs in
    let runs : Runs f.names f.scope ns p = subst (Runs f.names f.scope ns) piece_is f.runs in
    let contexts : List Context = contexts_of f.below.items in
    let runs1 : Runs f.names f.scope ns (piece_from k number next) = subst (Runs f.names f.scope ns) next_is (sequel_runs f.names f.scope ns qs runs) in
    record {
      contexts = contexts;
      redex = redex_in f.names f.scope ns p (place ∷ []);
      becomes = term_in f.names f.scope ns (sequel (after 1 qs));
      splits = f.splits ∙ (λ i. Splits contexts (redex_in f.names f.scope ns (piece_is i) (operands_are i)));
      is = sequence_goes_on f.names f.scope ns qs place s runs;
      after = subst (λ (u : Tree). Standing k (node_view done number next v) (plug contexts u) vs) (ap (term_in f.names f.scope ns) (sym next_is)) (stand_node k (without_last done v) vs f.below number next f.names f.scope f.low runs1);
    }

pub sequence_from : (from : ℕ) (us : Pieces) → later from (piece Steps us) ≡ piece Steps (after from us)
sequence_from zero us = refl
sequence_from (suc n) us = refl

one_left : (ps : Pieces) → count ps ≡ 1 → sequel ps ≡ nth 0 ps
one_left nothing e = absurd (omega (arith, e))
one_left (also p nothing) e = refl
one_left (also p (also q ps)) e = absurd (omega (arith, e))

more_left : (ps : Pieces) → 2 ≤ count ps → sequel ps ≡ piece Steps ps
more_left nothing e = absurd (omega (arith, e))
more_left (also p nothing) e = absurd (omega (arith, e))
more_left (also p (also q ps)) e = refl

-- the sequence has one term more, or several
pub steps_last : (k : List Node) (v : View) (number from done place : ℕ) (us : Pieces) (c : Child) (t : Tree) (vs : List ServiceShape) (s : Store) → Standing k v t vs → v.focus ≡ focus.Node number from done → done ≡ in_place (piece_from k number from)
    → piece_at (pieces k) number ≡ piece Steps us → last done v.operands ≡ place ∷ [] → from + 2 ≡ count us → nth (from + 1) us ≡ piece_of (pieces k) c
    → Contracts k t vs s s [] (child_view done c v)
steps_last k v number from done place us c t vs s h at full is operands_are two next =
    let qs : Pieces = after from us in
    let left : Pieces = after 1 qs in
    let after_is : left ≡ after (from + 1) us = after_after from 1 us in
    let size : count (after (from + 1) us) ≡ count us - (from + 1) = count_after (from + 1) us in
    let one : count left ≡ 1 = ap count after_is ∙ size ∙ omega (arith, two) in
    let zeros : from + 1 + 0 ≡ from + 1 = omega arith in
    let first : sequel left ≡ piece_of (pieces k) c = one_left left one ∙ ap (nth 0) after_is ∙ nth_after (from + 1) 0 us ∙ ap (λ (i : ℕ). nth i us) zeros ∙ next in
    last_term_row k v number from done place qs c t vs s h at full (ap (later from) is ∙ sequence_from from us) operands_are first

pub steps_more : (k : List Node) (v : View) (number from done place : ℕ) (us : Pieces) (t : Tree) (vs : List ServiceShape) (s : Store) → Standing k v t vs → v.focus ≡ focus.Node number from done → done ≡ in_place (piece_from k number from)
    → piece_at (pieces k) number ≡ piece Steps us → last done v.operands ≡ place ∷ [] → (from + 2 ≡ count us → ⊥)
    → Contracts k t vs s s [] (node_view done number (from + 1) v)
steps_more k v number from done place us t vs s h at full is operands_are not_last =
    let f : Found k v number from done t vs = found k v number from done t vs h at full in
    let qs : Pieces = after from us in
    let left : Pieces = after 1 qs in
    let piece_is : piece_from k number from ≡ piece Steps qs = ap (later from) is ∙ sequence_from from us in
    let runs : Runs f.names f.scope (drop v.base v.env) (piece Steps qs) = subst (Runs f.names f.scope (drop v.base v.env)) piece_is f.runs in
    let two : 2 ≤ count qs = runs.fits.1 in
    let all : count qs ≡ count us - from = count_after from us in
    let after_is : left ≡ after (from + 1) us = after_after from 1 us in
    let size : count (after (from + 1) us) ≡ count us - (from + 1) = count_after (from + 1) us in
    let several : 2 ≤ count left = subst (λ (n : ℕ). 2 ≤ n) (sym (ap count after_is ∙ size)) (omega (arith, two, all, not_last)) in
    let next : sequel left ≡ piece_from k number (from + 1) = more_left left several ∙ ap (piece Steps) after_is ∙ sym (sequence_from (from + 1) us) ∙ ap (later (from + 1)) (sym is) in
    next_terms_row k v number from done place (from + 1) qs t vs s h at full piece_is operands_are next

-- the sequence that a repetition became is done with its first term
pub again_row : (k : List Node) (v : View) (number from done place : ℕ) (us : Pieces) (t : Tree) (vs : List ServiceShape) (s : Store) → Standing k v t vs → v.focus ≡ focus.Node number from done → done ≡ in_place (piece_from k number from)
    → piece_at (pieces k) number ≡ piece Repeat us → last done v.operands ≡ place ∷ []
    → Contracts k t vs s s [] (node_view done number 0 v)
again_row k v number zero done place us t vs s h at full is operands_are =
    let none_done : done ≡ 0 = full ∙ ap in_place is in
    let one : length (last done v.operands) ≡ 1 = ap length operands_are in
    let none_last : length (last 0 v.operands) ≡ 0 = ap length (last_none v.operands) in
    let same : length (last done v.operands) ≡ length (last 0 v.operands) = ap (λ (n : ℕ). length (last n v.operands)) none_done in
    absurd (omega (arith, one, none_last, same))
again_row k v number (suc n) done place us t vs s h at full is operands_are =
    next_terms_row k v number (suc n) done place 0 (also (nth 0 us) (also (piece Repeat us) nothing)) t vs s h at full (ap (later (suc n)) is) operands_are (sym is)

pub repeat_row : (k : List Node) (v : View) (number done : ℕ) (us : Pieces) (t : Tree) (vs : List ServiceShape) (s : Store) → Standing k v t vs → v.focus ≡ focus.Node number 0 done → done ≡ in_place (piece_from k number 0)
    → piece_at (pieces k) number ≡ piece Repeat us
    → Contracts k t vs s s [] (node_view done number 1 v)
repeat_row k v number done us t vs s h at full is =
    let f : Found k v number 0 done t vs = found k v number 0 done t vs h at full in
    let ns : List ℕ = drop v.base v.env in
    let runs : Runs f.names f.scope ns (piece Repeat us) = subst (Runs f.names f.scope ns) is f.runs in
    let contexts : List Context = contexts_of f.below.items in
    let none_done : done ≡ 0 = full ∙ ap in_place is in
    let operands_are : last done v.operands ≡ [] = ap (λ (n : ℕ). last n v.operands) none_done ∙ last_none v.operands in
    let later_is : unrolled us ≡ piece_from k number 1 = ap (later 1) (sym is) in
    let runs1 : Runs f.names f.scope ns (piece_from k number 1) = subst (Runs f.names f.scope ns) later_is (unrolled_runs f.names f.scope ns us runs) in
    record {
      contexts = contexts;
      redex = redex_in f.names f.scope ns (piece Repeat us) [];
      becomes = term_in f.names f.scope ns (unrolled us);
      splits = f.splits ∙ (λ i. Splits contexts (redex_in f.names f.scope ns (is i) (operands_are i)));
      is = repetition_goes_on f.names f.scope ns us s runs;
      after = subst (λ (u : Tree). Standing k (node_view done number 1 v) (plug contexts u) vs) (ap (term_in f.names f.scope ns) (sym later_is)) (stand_node k (without_last done v) vs f.below number 1 f.names f.scope f.low runs1);
    }

-- Calls

-- a call becomes the body of the method, in an environment of its own behind what the frames need
pub call_enters : (k : List Node) (v : View) (n i : ℕ) (ks : List ℕ) (l : Text) (t : Tree) (vs : List ServiceShape) (s : Store) (b0 : Below k (without_last n v) vs)
    → split t ≡ Splits (contexts_of b0.items) (record { head = Call l; places = i ∷ ks; behind = none }) → last n v.operands ≡ i ∷ ks
    → (fields : List Field) (methods : List MethodShape) → cell s i ≡ Object fields methods
    → (m : MethodCode) (cs : List ℕ) → method_at l methods ≡ Some (with_places (pieces k) m cs)
    → IsSoundMethod (pieces k) m → length cs ≡ length m.captured.items → length ks ≡ length m.parameters.items
    → Contracts k t vs s s [] (called_view n cs m.body v)
call_enters k v n i ks l t vs s b0 splits operands_are fields methods cell_is m cs method_is sound size arity =
    let r : Redex = record { head = Call l; places = i ∷ ks; behind = none } in
    let ns : List ℕ = cs ++ i ∷ ks in
    let low : List ℕ = take (top (reverse v.frames)) v.env in
    let env_is : low ++ ns ≡ low ++ cs ++ last n v.operands = ap (λ (l : List ℕ). low ++ (cs ++ l)) (sym operands_are) ∙ sym (append_assoc low cs (last n v.operands)) in
    let stack1 : IsStack k (reverse v.frames) (low ++ ns) (but_last n v.operands) b0.items = stack_grows k (reverse v.frames) low (but_last n v.operands) ns b0.items (stack_cut k (reverse v.frames) v.env (but_last n v.operands) b0.items b0.stack) in
    let w : View = record (without_last n v) { env = low ++ ns; base = length low } in
    let b : Below k w vs = record { items = b0.items; stack = stack1; futures = b0.futures; suspended = b0.suspended } in
    let here : drop (length low) (low ++ ns) ≡ ns = drop-append_seam low ns in
    let e : Entered (pieces k) m cs i ks = entered (pieces k) m cs i ks sound size arity in
    let xs : List Text = captured_names m.captured.items in
    let scope : Environment = body_scope m.captured.items (head_of m) in
    let runs : Runs xs scope (drop (length low) (low ++ ns)) (piece_of (pieces k) m.body) = subst (λ (l : List ℕ). Runs xs scope l (piece_of (pieces k) m.body)) (sym here) e.runs in
    let becomes : Tree = term_in xs scope ns (piece_of (pieces k) m.body) in
    let lowest : length low ≤ length (low ++ ns) = simp length-append (omega arith) in
    let standing0 : Standing k (child_view 0 m.body w) (plug (contexts_of b.items) (term_in xs scope (drop (length low) (low ++ ns)) (piece_of (pieces k) m.body))) vs =
    subst (λ (l : List ℕ). Standing k (record w { operands = l; focus = toward (drop (length low) (low ++ ns)) m.body }) (plug (contexts_of b.items) (term_in xs scope (drop (length low) (low ++ ns)) (piece_of (pieces k) m.body))) vs) (sym (but_last_none w.operands)) (stand_child k w vs b m.body xs scope lowest runs) in
    let standing1 : Standing k (child_view 0 m.body w) (plug (contexts_of b.items) becomes) vs = subst (λ (l : List ℕ). Standing k (child_view 0 m.body w) (plug (contexts_of b.items) (term_in xs scope l (piece_of (pieces k) m.body))) vs) here standing0 in
    let ops_are : but_last 0 (but_last n v.operands) ≡ but_last n v.operands = but_last_none (but_last n v.operands) in
    let standing : Standing k (called_view n cs m.body v) (plug (contexts_of b.items) becomes) vs =
    subst (λ (x : List ℕ × List ℕ). Standing k (record v { env = x.0; operands = x.1; base = length low; focus = toward (drop (length low) x.0) m.body }) (plug (contexts_of b.items) becomes) vs) (λ j. (env_is j, ops_are j)) standing1 in
    let no_future : is_future (cell s i) ≡ false = ap is_future cell_is in
    record {
      contexts = contexts_of b0.items;
      redex = r;
      becomes = becomes;
      splits = splits;
      is = one_strict s i (call_row s l i ks (cell s i)) no_future ∙ ap (call_row s l i ks) cell_is ∙ ap (method_found s i ks) method_is ∙ calls (pieces k) m cs i ks s sound size arity;
      after = standing;
    }

-- The call that a service begins with

pub record AtAsked (k : List Node) (v : View) (n : ℕ) (t : Tree) (vs : List ServiceShape) : Type 0 where
  pub below : Below k (without_last n v) vs
  pub splits : split t ≡ Splits (contexts_of below.items) (record { head = Call v.asked; places = last n v.operands; behind = none })
  pub low : v.base ≤ length v.env

pub asked : (k : List Node) (v : View) (n : ℕ) (t : Tree) (vs : List ServiceShape) → Standing k v t vs → v.focus ≡ focus.Asked n → AtAsked k v n t vs
asked k v n t vs h0 at =
    let h : Standing k (record v { focus = focus.Asked n }) t vs = at_focus k v (focus.Asked n) t vs at h0 in
    let ops : List ℕ = last n v.operands in
    let r : Redex = record { head = Call v.asked; places = ops; behind = none } in
    let all : child_count (locs_then ops none) ≡ length ops + 0 = count_locs ops none in
    let whole : length ops + 0 ≡ length ops = omega arith in
    record {
      below = record { items = h.items; stack = h.stack; futures = h.futures; suspended = h.suspended };
      splits = ap split (h.term ∙ ap (plug (contexts_of h.items)) h.focus) ∙ splits_one_way (contexts_of h.items) r (are_contexts k (reverse v.frames) v.env (but_last n v.operands) h.items h.stack) (refl, inl (all ∙ whole));
      low = h.low;
    }

pub asked_some : (k : List Node) (v : View) (n : ℕ) (t : Tree) (vs : List ServiceShape) → AtAsked k v n t vs → IsAtSome k v t vs n
asked_some k v n t vs a = record { redex = record { head = Call v.asked; places = last n v.operands; behind = none }; low = a.low; below = a.below; splits = a.splits }

pub asked_redex : (k : List Node) (v : View) (n : ℕ) (t : Tree) (vs : List ServiceShape) → AtAsked k v n t vs → IsAtRedex k v t vs n (record { head = Call v.asked; places = last n v.operands; behind = none })
asked_redex k v n t vs a = record { contexts = contexts_of a.below.items; splits = a.splits; place = λ p. stand_place k (without_last n v) vs a.below p a.low }

-- A place in no frames

alone_contexts : (k : List Node) (fs : List Frame) (env operands : List ℕ) (xs : List Item) → IsStack k fs env operands xs → IsAlone fs → (let none : List Context = [] in contexts_of xs ≡ none)
alone_contexts k [] env operands [] h a = refl
alone_contexts k [] env operands (x ∷ xs) h a = absurd h
alone_contexts k (f ∷ fs) env operands [] h a = absurd h
alone_contexts k (f ∷ fs) env operands (Suspends g ∷ xs) h a = refl
alone_contexts k (f ∷ fs) env operands (Waits c ∷ xs) h a = absurd (subst (λ (x : Form). IsItem k (drop f.base (take f.height env)) (last f.done operands) x f.node f.from (Waits c)) a h.1)

pub rests : (k : List Node) (v : View) (p : ℕ) (t : Tree) (vs : List ServiceShape) → Standing k v t vs → v.focus ≡ focus.Place p → IsAlone (reverse v.frames) → split t ≡ Stands p
rests k v p t vs h0 at alone =
    let h : Standing k (record v { focus = focus.Place p }) t vs = at_focus k v (focus.Place p) t vs at h0 in
    ap split (h.term ∙ ap (plug (contexts_of h.items)) h.focus ∙ ap (λ (cs : List Context). plug cs (loc p)) (alone_contexts k (reverse v.frames) v.env (but_last 0 v.operands) h.items h.stack alone))
