-- The laws of code in environments.
use Rattle.std.specs.Prelude.{◌≡◌, ℕ, ◌<◌, ◌≤◌, List, [], ◌∷◌, ◌++◌, Some, length, take}
use Rattle.asp_model.specs.Names.{Text}
use Rattle.asp_model.specs.Term.{Let, Make, Steps, If, Repeat, Tree, Environment, loc, put_in, without}
use Rattle.asp_model.specs.Split.{Context, Splits, split, plug, plugged}
use Rattle.asp_model.specs.Store.{Store, cell}
use Rattle.asp_model.specs.Contraction.{Becomes, allots, if_row, method_found, row}
use Rattle.code_table.specs.declared.class.Class.{Class}
use Rattle.code_table.specs.declared.code.MethodCode.{MethodCode}
use Rattle.code_table.specs.Pieces.{Piece, piece, object, Pieces, count, heads_of}
use Rattle.code_table.specs.Fitting.{names, captured_names, body_scope, Under, Runs, term_in}
use Rattle.code_table.specs.Tables.{labels_of, head_of, bodies_of, piece_of, with_places, object_of}
use Rattle.code_table.specs.Sound.{IsSoundMethod}
use Rattle.code_laws.specs.Places.{kept_places}
use Rattle.code_laws.specs.Nodes.{IsTerm, nth, after, parts, in_place, behind_in, redex_in, context_in, sequel, unrolled}
use Rattle.code_laws.specs.Splitting.{redex_node, AreContexts}

-- to put in two environments one after the other is to put in both
abbrev pub PutsTwice : Type 0
PutsTwice = (t : Tree) (d e : Environment) → put_in d (put_in (without (names d) e) t) ≡ put_in (d ++ e) t

-- places behind those of a scope are not looked at, and may be cut
abbrev pub EnvironmentsGrow : Type 0
EnvironmentsGrow = (xs : List Text) (scope : Environment) (ns ms : List ℕ) (p : Piece) → length xs ≤ length ns → Under (length ns) scope → term_in xs scope (ns ++ ms) p ≡ term_in xs scope ns p

abbrev pub EnvironmentsAreCut : Type 0
EnvironmentsAreCut = (xs : List Text) (scope : Environment) (h : ℕ) (ns : List ℕ) (p : Piece) → length xs ≤ h → Under h scope → term_in xs scope (take h ns) p ≡ term_in xs scope ns p

-- a node begins as itself with none of its terms done
abbrev pub NodesBegin : Type 0
NodesBegin = (xs : List Text) (scope : Environment) (ns : List ℕ) (p : Piece) → IsTerm p → Runs xs scope ns p → term_in xs scope ns p ≡ redex_node (redex_in xs scope ns p [])

-- as long as some are left, the next one runs in the node's own environment, and stands in a context
abbrev pub NextTermsStand : Type 0
NextTermsStand = (xs : List Text) (scope : Environment) (ns : List ℕ) (p : Piece) (done : List ℕ) → Runs xs scope ns p → length done < in_place p
    → Runs xs scope ns (nth (length done) (parts p)) × (redex_node (redex_in xs scope ns p done) ≡ plugged (context_in xs scope ns p done) (term_in xs scope ns (nth (length done) (parts p))))

-- its place in the context is one more term that is done
abbrev pub PlacesAreTaken : Type 0
PlacesAreTaken = (xs : List Text) (scope : Environment) (ns : List ℕ) (p : Piece) (done : List ℕ) (n : ℕ) → plugged (context_in xs scope ns p done) (loc n) ≡ redex_node (redex_in xs scope ns p (done ++ n ∷ []))

-- with all of them done, the whole term splits into the node as its redex
abbrev pub NodesAreRedexes : Type 0
NodesAreRedexes = (contexts : List Context) (xs : List Text) (scope : Environment) (ns : List ℕ) (p : Piece) (done : List ℕ) → AreContexts contexts → IsTerm p → Runs xs scope ns p → length done ≡ in_place p
    → split (plug contexts (redex_node (redex_in xs scope ns p done))) ≡ Splits contexts (redex_in xs scope ns p done)

-- an object that is made is of the class, over its fields' places and those that its methods capture
abbrev pub ObjectsAreMade : Type 0
ObjectsAreMade = (k : Class) (fs : Pieces) (ps : List Piece) (xs : List Text) (scope : Environment) (ns places : List ℕ) (s : Store)
    → (let p = object (labels_of k) fs (bodies_of ps k.methods.items) in
    Runs xs scope ns p → length places ≡ count fs
    → row s (Make (labels_of k) (heads_of (bodies_of ps k.methods.items))) places (behind_in xs scope ns p (length places)) ≡ allots s (object_of ps k (places ++ kept_places ns k.methods.items)) [])

-- a method that is found and has so many parameters becomes its body, behind what it captured, its object and the arguments
abbrev pub BodiesAreEntered : Type 0
BodiesAreEntered = (ps : List Piece) (m : MethodCode) (cs : List ℕ) (i : ℕ) (ks : List ℕ) (s : Store) → IsSoundMethod ps m → length cs ≡ length m.captured.items → length ks ≡ length m.parameters.items
    → (let xs = captured_names m.captured.items in let scope = body_scope m.captured.items (head_of m) in
    Runs xs scope (cs ++ i ∷ ks) (piece_of ps m.body) × (method_found s i ks (Some (with_places ps m cs)) ≡ Becomes (term_in xs scope (cs ++ i ∷ ks) (piece_of ps m.body)) s []))

-- the body of a binding runs in the environment with one place more
abbrev pub BindingsAreEntered : Type 0
BindingsAreEntered = (xs : List Text) (scope : Environment) (ns : List ℕ) (x : Text) (ps : Pieces) (i : ℕ) (s : Store) → Runs xs scope ns (piece (Let x) ps)
    → (let bound = (x, length ns) ∷ scope in
    Runs xs bound (ns ++ i ∷ []) (nth 1 ps) × (row s (Let x) (i ∷ []) (behind_in xs scope ns (piece (Let x) ps) 1) ≡ Becomes (term_in xs bound (ns ++ i ∷ []) (nth 1 ps)) s []))

-- a sequence goes on with its other terms
abbrev pub SequencesGoOn : Type 0
SequencesGoOn = (xs : List Text) (scope : Environment) (ns : List ℕ) (ps : Pieces) (i : ℕ) (s : Store) → Runs xs scope ns (piece Steps ps)
    → Runs xs scope ns (sequel (after 1 ps)) × (row s Steps (i ∷ []) (behind_in xs scope ns (piece Steps ps) 1) ≡ Becomes (term_in xs scope ns (sequel (after 1 ps))) s [])

-- a choice leads to one of its branches
abbrev pub ChoicesGoOn : Type 0
ChoicesGoOn = (xs : List Text) (scope : Environment) (ns : List ℕ) (ps : Pieces) (i : ℕ) (s : Store) → Runs xs scope ns (piece If ps)
    → (Runs xs scope ns (nth 1 ps) × Runs xs scope ns (nth 2 ps)) × (row s If (i ∷ []) (behind_in xs scope ns (piece If ps) 1) ≡ if_row s (term_in xs scope ns (nth 1 ps)) (term_in xs scope ns (nth 2 ps)) (cell s i))

-- a repetition becomes its term, and then itself
abbrev pub RepetitionsGoOn : Type 0
RepetitionsGoOn = (xs : List Text) (scope : Environment) (ns : List ℕ) (ps : Pieces) (s : Store) → Runs xs scope ns (piece Repeat ps)
    → Runs xs scope ns (unrolled ps) × (row s Repeat [] (behind_in xs scope ns (piece Repeat ps) 0) ≡ Becomes (term_in xs scope ns (unrolled ps)) s [])
