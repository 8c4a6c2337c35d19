-- Activities that begin.
use Rattle.std.proofs.Common.{◌≡◌, ◌+◌, ℕ, zero, suc, List, None, Some, [], ◌∷◌, ◌++◌, length, refl, sym, ap, subst, ◌∙◌, arith}
use Rattle.asp_model.specs.Names.{Text}
use Rattle.asp_model.specs.Term.{Head, Make, Repeat, Serve, Var, Tree, Trees, node, none, more, Environment, binders, node_in, put_in, put_below}
use Rattle.asp_model.specs.Intent.{start_term}
use Rattle.code_table.specs.declared.code.Capture.{Capture}
use Rattle.code_table.specs.declared.code.Leaf.{Leaf}
use Rattle.code_table.specs.declared.code.Leaf.TheVariants as leaves
use Rattle.code_table.specs.declared.code.Node.{Node}
use Rattle.code_table.specs.Fitting.{IsNode, Fits, AllFit, BodiesFit, Runs, captured_names, body_scope, body_height, slots_from, term_in}
use Rattle.code_table.specs.Pieces.{Piece, variable, piece, object, Pieces, nothing, also, Bodies, no_method, method, heads_of, at_slot, leaf_tree, captured_trees, tree, below, bodies}
use Rattle.code_table.specs.Sound.{IsSound, root_of, service_number}
use Rattle.code_table.specs.Tables.{pieces, piece_at}
use Rattle.step_machine.specs.Standing.{Standing}
use Rattle.step_machine.specs.Services.{Below, asked_view}
use Rattle.step_machine.proofs.RowLemmas.{stand_node}
use Rattle.step_machine.proofs.ServiceLemmas.{asks}
use Rattle.activity_step.specs.Starting.{start_view}

-- Putting in no names changes nothing

abbrev AllFixed : List Tree → Type 0
AllFixed ts = (k : ℕ) → put_in [] (at_slot k ts) ≡ at_slot k ts

node_fixed : (h : Head) (ts : Trees) → IsNode h → node_in [] h ts ≡ node h ts
node_fixed (Var x) ts is = absurd is
node_fixed h ts is = refl

leaf_fixed : (ts : List Tree) (l : Leaf) → AllFixed ts → put_in [] (leaf_tree ts l) ≡ leaf_tree ts l
leaf_fixed ts (leaves.Own k x) a = refl
leaf_fixed ts (leaves.Kept k) a = a k

captured_fixed : (ts : List Tree) (cs : List Capture) → AllFixed ts → AllFixed (captured_trees ts cs)
captured_fixed ts [] a k = refl
captured_fixed ts (c ∷ cs) a zero = leaf_fixed ts c.leaf a
captured_fixed ts (c ∷ cs) a (suc k) = captured_fixed ts cs a k

mutual
  piece_fixed : (xs : List Text) (scope : Environment) (h : ℕ) (ts : List Tree) (p : Piece) → AllFixed ts → Fits xs scope h p → put_in [] (tree ts p) ≡ tree ts p
  piece_fixed xs scope h ts (variable l) a f = leaf_fixed ts l a
  piece_fixed xs scope h ts (piece hd ps) a f = node_fixed hd (put_below [] (binders hd) (below ts ps none)) f.0 ∙ ap (node hd) (all_fixed xs scope h (binders hd) (binders hd) ts ps none a f.2 (λ b. refl))
  piece_fixed xs scope h ts (object ls fs ms) a f =
      let hd : Head = Make ls (heads_of ms) in
      ap (node hd) (all_fixed xs scope h [] (binders hd) ts fs (bodies ts ms) a f.1 (λ b. bodies_fixed xs scope b ts ms a f.2))

  all_fixed : (xs : List Text) (scope : Environment) (h : ℕ) (fit bound : List (List Text)) (ts : List Tree) (ps : Pieces) (us : Trees) → AllFixed ts → AllFit xs scope h fit ps
      → ((b : List (List Text)) → put_below [] b us ≡ us) → put_below [] bound (below ts ps us) ≡ below ts ps us
  all_fixed xs scope h fit bound ts nothing us a f e = e bound
  all_fixed xs scope h [] [] ts (also p ps) us a f e = λ i. more (piece_fixed xs scope h ts p a f.0 i) (all_fixed xs scope h [] [] ts ps us a f.1 e i)
  all_fixed xs scope h [] (b ∷ bound) ts (also p ps) us a f e = λ i. more (piece_fixed xs scope h ts p a f.0 i) (all_fixed xs scope h [] bound ts ps us a f.1 e i)
  all_fixed xs scope h (ys ∷ fit) [] ts (also p ps) us a f e =
      λ i. more (piece_fixed xs (slots_from h ys ++ scope) (h + length ys) ts p a f.0 i) (all_fixed xs scope h fit [] ts ps us a f.1 e i)
  all_fixed xs scope h (ys ∷ fit) (b ∷ bound) ts (also p ps) us a f e =
      λ i. more (piece_fixed xs (slots_from h ys ++ scope) (h + length ys) ts p a f.0 i) (all_fixed xs scope h fit bound ts ps us a f.1 e i)

  bodies_fixed : (xs : List Text) (scope : Environment) (bound : List (List Text)) (ts : List Tree) (ms : Bodies) → AllFixed ts → BodiesFit xs scope ms → put_below [] bound (bodies ts ms) ≡ bodies ts ms
  bodies_fixed xs scope bound ts no_method a f = refl
  bodies_fixed xs scope [] ts (method m cs b ms) a f =
      λ i. more (piece_fixed (captured_names cs) (body_scope cs m) (body_height cs m) (captured_trees ts cs) b (captured_fixed ts cs a) f.1 i) (bodies_fixed xs scope [] ts ms a f.2 i)
  bodies_fixed xs scope (ys ∷ bound) ts (method m cs b ms) a f =
      λ i. more (piece_fixed (captured_names cs) (body_scope cs m) (body_height cs m) (captured_trees ts cs) b (captured_fixed ts cs a) f.1 i) (bodies_fixed xs scope bound ts ms a f.2 i)

-- a piece that may run in no environment stands there for its tree
pub closed_term : (p : Piece) → Fits [] [] 0 p → term_in [] [] [] p ≡ tree [] p
closed_term p f = piece_fixed [] [] 0 [] p (λ k. refl) f

-- An activity at a node of no environment

-- a node that may run in no environment stands for its tree
pub node_stands : (k : List Node) (number : ℕ) → Fits [] [] 0 (piece_at (pieces k) number) → Standing k (start_view number) (tree [] (piece_at (pieces k) number)) []
node_stands k number fits =
    let b : Below k (start_view number) [] = record { items = []; stack = refl; futures = refl; suspended = refl } in
    let runs : Runs [] [] [] (piece_at (pieces k) number) = record { low = omega arith; within = tt; fits = fits } in
    subst (λ (t : Tree). Standing k (start_view number) t []) (closed_term (piece_at (pieces k) number) fits) (stand_node k (start_view number) [] b number 0 [] [] (omega arith) runs)

-- the program stands at its node
pub program_stands : (k : List Node) → IsSound k → Standing k (start_view (root_of k)) (tree [] (piece_at (pieces k) (root_of k))) []
program_stands k sound = node_stands k (root_of k) sound.root

-- What an activity that is made begins with

pub service_stands : (k : List Node) → IsSound k → Standing k (start_view service_number) (start_term None 0) []
service_stands k sound =
    let p : Piece = piece Repeat (also (piece (Serve []) nothing) nothing) in
    let fits : Fits [] [] 0 p = (tt, refl, ((tt, refl, tt), tt)) in
    subst (λ (q : Piece). Standing k (start_view service_number) (tree [] q) []) sound.service (node_stands k service_number (subst (Fits [] [] 0) (sym sound.service) fits))

pub call_stands : (k : List Node) (number : ℕ) (l : Text) → Standing k (asked_view l (0 ∷ []) (start_view number)) (start_term (Some l) 0) []
call_stands k number l =
    let b : Below k (start_view number) [] = record { items = []; stack = refl; futures = refl; suspended = refl } in
    asks k (start_view number) [] b l (0 ∷ []) (omega arith)
