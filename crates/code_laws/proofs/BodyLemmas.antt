-- A method that is called: its body stands in an environment of its own.
use Rattle.std.proofs.Common.{◌≡◌, ℕ, zero, suc, ◌+◌, ◌≤◌, List, [], ◌∷◌, ◌++◌, Option, Some, None, length, map, take, drop, get_or, refl, sym, ap, subst, ◌∙◌, arith, get_or-drop, length-append}
use Rattle.std.proofs.Math.Seq.{drop-append_seam, take-append_seam}
use Rattle.asp_model.specs.Names.{Text}
use Rattle.asp_model.specs.Term.{Tree, Environment, loc, put_in}
use Rattle.asp_model.specs.Store.{Store}
use Rattle.asp_model.specs.Contraction.{Becomes, bindings, invoked, method_found}
use Rattle.code_table.specs.declared.code.Capture.{Capture}
use Rattle.code_table.specs.declared.code.MethodCode.{MethodCode}
use Rattle.code_table.specs.Pieces.{Piece, tree}
use Rattle.code_table.specs.Fitting.{slots_from, placed, captured_names, head_names, body_scope, body_height, Fits, Runs, term_in}
use Rattle.code_table.specs.Tables.{head_of, piece_of, with_places}
use Rattle.code_table.specs.Sound.{IsSoundMethod}
use Rattle.code_laws.proofs.ScopeLemmas.{under_from}
use Rattle.std.proofs.lemmas.List.{length-map}

next : (h : ℕ) (ns : List ℕ) → drop (suc h) ns ≡ drop 1 (drop h ns)
next zero ns = refl
next (suc h) [] = refl
next (suc h) (n ∷ ns) = next h ns

here_at : (h : ℕ) (ns : List ℕ) (k : ℕ) (ks : List ℕ) → drop h ns ≡ k ∷ ks → get_or ns h 0 ≡ k
here_at h ns k ks e =
    let at : h + 0 ≡ h = omega arith in
    sym (get_or-drop h ns 0 0 ∙ ap (λ (i : ℕ). get_or ns i 0) at) ∙ ap (λ (l : List ℕ). get_or l 0 0) e

-- names that stand in slots are bound to what stands there
pub bound_from : (xs : List Text) (ks ns : List ℕ) (h : ℕ) → length xs ≡ length ks → drop h ns ≡ ks → bindings xs ks ≡ Some (placed ns (slots_from h xs))
bound_from [] [] ns h size e = refl
bound_from [] (k ∷ ks) ns h size e = absurd (omega (arith, size))
bound_from (x ∷ xs) [] ns h size e = absurd (omega (arith, size))
bound_from (x ∷ xs) (k ∷ ks) ns h size e =
    let less : length xs ≡ length ks = omega (arith, size) in
    let rest : drop (suc h) ns ≡ ks = next h ns ∙ ap (drop 1) e in
    ap (also_bound x k) (bound_from xs ks ns (suc h) less rest) ∙ ap (λ (n : ℕ). Some ((x, n) ∷ placed ns (slots_from (suc h) xs))) (sym (here_at h ns k ks e))
  where
    also_bound : Text → ℕ → Option Environment → Option Environment
    also_bound x k o = elim o [ None ↦ None | Some bs ↦ Some ((x, k) ∷ bs) ]

-- where there are more of the one than of the other, nothing is bound
pub unbound : (xs : List Text) (ks : List ℕ) → (length xs ≡ length ks → ⊥) → bindings xs ks ≡ None
unbound [] [] h = absurd (h refl)
unbound [] (k ∷ ks) h = refl
unbound (x ∷ xs) [] h = refl
unbound (x ∷ xs) (k ∷ ks) h = ap (λ (o : Option Environment). elim o [ None ↦ None | Some bs ↦ Some ((x, k) ∷ bs) ]) (unbound xs ks (λ e. h (ap suc e)))

-- a method's body behind what it captured, its object and its arguments
pub record Entered (ps : List Piece) (m : MethodCode) (cs : List ℕ) (i : ℕ) (ks : List ℕ) : Type 0 where
  pub bound : bindings (head_names (head_of m)) (i ∷ ks) ≡ Some (placed (cs ++ i ∷ ks) (body_scope m.captured.items (head_of m)))
  pub is : put_in (placed (cs ++ i ∷ ks) (body_scope m.captured.items (head_of m))) (with_places ps m cs).body
      ≡ term_in (captured_names m.captured.items) (body_scope m.captured.items (head_of m)) (cs ++ i ∷ ks) (piece_of ps m.body)
  pub runs : Runs (captured_names m.captured.items) (body_scope m.captured.items (head_of m)) (cs ++ i ∷ ks) (piece_of ps m.body)

pub entered : (ps : List Piece) (m : MethodCode) (cs : List ℕ) (i : ℕ) (ks : List ℕ) → IsSoundMethod ps m → length cs ≡ length m.captured.items → length ks ≡ length m.parameters.items → Entered ps m cs i ks
entered ps m cs i ks sound size arity =
    let captures : List Capture = m.captured.items in
    let xs : List Text = head_names (head_of m) in
    let scope : Environment = body_scope captures (head_of m) in
    let ns : List ℕ = cs ++ i ∷ ks in
    let p : Piece = piece_of ps m.body in
    let named : length (captured_names captures) ≡ length captures = length-map captures (λ c. c.name) in
    let longer : length ns ≡ length cs + suc (length ks) = length-append cs (i ∷ ks) in
    let whole : body_height captures (head_of m) ≡ length ns = omega (arith, longer, size, arity) in
    let fills : length captures + length xs ≤ length ns = omega (arith, longer, size, arity) in
    let same : length xs ≡ length (i ∷ ks) = ap suc (sym arity) in
    let last : drop (length captures) ns ≡ i ∷ ks = ap (λ (k : ℕ). drop k ns) (sym size) ∙ drop-append_seam cs (i ∷ ks) in
    let first : take (length (captured_names captures)) ns ≡ cs = ap (λ (k : ℕ). take k ns) (named ∙ sym size) ∙ take-append_seam cs (i ∷ ks) in
    record {
      bound = bound_from xs (i ∷ ks) ns (length captures) same last;
      is = ap (λ (ds : List ℕ). put_in (placed ns scope) (tree (map loc ds) p)) (sym first);
      runs = record {
        low = omega (arith, named, longer, size);
        within = under_from (length captures) (length ns) xs fills;
        fits = subst (λ (h : ℕ). Fits (captured_names captures) scope h p) whole sound.fits;
      };
    }

-- a call of a method that was found becomes its body
pub calls : (ps : List Piece) (m : MethodCode) (cs : List ℕ) (i : ℕ) (ks : List ℕ) (s : Store) → IsSoundMethod ps m → length cs ≡ length m.captured.items → length ks ≡ length m.parameters.items
    → method_found s i ks (Some (with_places ps m cs)) ≡ Becomes (term_in (captured_names m.captured.items) (body_scope m.captured.items (head_of m)) (cs ++ i ∷ ks) (piece_of ps m.body)) s []
calls ps m cs i ks s sound size arity =
    let e : Entered ps m cs i ks = entered ps m cs i ks sound size arity in
    ap (invoked s (with_places ps m cs).body) e.bound ∙ ap (λ (t : Tree). Becomes t s []) e.is
