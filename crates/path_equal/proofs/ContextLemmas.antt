-- What stands behind the first terms of a node.
use Rattle.std.proofs.Common.{◌≡◌, ℕ, zero, suc, ◌+◌, ◌<◌, ◌≤◌, Bool, true, false, nat_lt, List, [], ◌∷◌, ◌++◌, Some, None, length, map, drop, get_or, refl, sym, ap, subst, ◌∙◌, arith}
use Rattle.std.proofs.Math.Seq.{drop-nil}
use Rattle.std.proofs.lemmas.List.{append-nil}
use Rattle.std.specs.List.{flat_map}
use Rattle.asp_model.specs.Term.{Hole, Loc, Repeat, Steps, Tree, Trees, none, more, loc, own_locations, locations, locations_below, locs_then}
use Rattle.std.proofs.lemmas.Bool.Decides.{nat_tests}
use Rattle.std.specs.Prelude.{◌==◌}
use Rattle.asp_model.specs.Names.{Text}
use Rattle.asp_model.specs.Split.{Context}
use Rattle.asp_model.specs.Term.{Environment}
use Rattle.code_table.specs.declared.code.Child.{Child}
use Rattle.code_table.specs.declared.code.Kind.{Kind}
use Rattle.code_table.specs.declared.code.Kind.TheVariants as kind
use Rattle.code_table.specs.declared.code.Node.{Node}
use Rattle.code_table.specs.Fitting.{Fits, Runs}
use Rattle.code_table.specs.Pieces.{Piece, variable, piece, object, Pieces, count, nothing}
use Rattle.code_table.specs.Sound.{AllBelow}
use Rattle.code_table.specs.Tables.{bodies_of, kind_piece, piece_at, pieces, pieces_of, this_or}
use Rattle.code_table.proofs.GrowthLemmas.{length-pieces}
use Rattle.code_laws.specs.Nodes.{IsTerm, behind_in, head_in, in_place, later, nth, parts, rest, unrolled}
use Rattle.code_laws.specs.Shown.{shown, shown_below, shown_bodies, shown_terms}
use Rattle.code_laws.proofs.NodeLemmas.{is_term}
use Rattle.code_laws.proofs.ShownLemmas.{behind_is}
use Rattle.code_laws.proofs.TurnLemmas.{in_place_most}
use Rattle.code_reading.specs.Decoded.{gone}
use Rattle.code_reading.proofs.BehindLemmas.{count_parts, gone_piece, later_term, rolled_piece}
use Rattle.step_machine.specs.Sequences as sequences
use Rattle.step_machine.specs.Stacks.{IsWaiting, piece_from}
use Rattle.step_machine.specs.Standing.{IsBegun}
use Rattle.path_equal.specs.declared.search.Search.{Search}
use Rattle.path_equal.specs.Held.{child_held, methods_behind}
use Rattle.path_equal.specs.Searches.{searched}
use Rattle.path_equal.proofs.HeldLemmas.{children_found}
use Rattle.path_equal.proofs.SearchLemmas.{searched_both}

pub drop_twice : {X : Type 0} (m n : ℕ) (xs : List X) → drop m (drop n xs) ≡ drop (n + m) xs
drop_twice m zero xs = let same : 0 + m ≡ m = omega arith in sym (ap (λ k. drop k xs) same)
drop_twice m (suc n) [] = drop-nil m ∙ sym (drop-nil (suc n + m))
drop_twice {X} m (suc n) (x ∷ xs) = let step : suc n + m ≡ suc (n + m) = omega arith in drop_twice m n xs ∙ sym (ap (λ (k : ℕ). drop k (x ∷ xs)) step)

-- Ordinary nodes

rest_shown : (ts : List Tree) (ps : List Piece) (cs : List Child) (vs : Trees) (n : ℕ) → n ≤ length cs → rest n (shown_below ts (pieces_of ps cs) vs) ≡ shown_below ts (pieces_of ps (drop n cs)) vs
rest_shown ts ps cs vs zero le = refl
rest_shown ts ps [] vs (suc n) le = absurd (omega (arith, le))
rest_shown ts ps (c ∷ cs) vs (suc n) le = let less : n ≤ length cs = omega (arith, le) in rest_shown ts ps cs vs n less

rest_kind : (ns : List ℕ) (ps : List Piece) (k : Kind) (cs : List Child) (n : ℕ) → n ≤ length cs
    → locations_below (rest n (shown_terms (map loc ns) (kind_piece ps k (pieces_of ps cs)))) ≡ flat_map (child_held ns ps) (drop n cs) ++ locations_below (methods_behind ns ps k)
rest_kind ns ps (kind.Make k) cs n le =
    let vs : Trees = shown_bodies (map loc ns) (bodies_of ps k.value.methods.items) in
    ap locations_below (rest_shown (map loc ns) ps cs vs n le) ∙ children_found ns ps (drop n cs) vs
rest_kind ns ps k cs n le = ap locations_below (rest_shown (map loc ns) ps cs none n le) ∙ children_found ns ps (drop n cs) none

-- behind the first terms, and the ones that are gone
pub others_left : (ns : List ℕ) (ps : List Piece) (k : Kind) (cs : List Child) (from g done holes : ℕ) (p : Piece) → p ≡ kind_piece ps k (pieces_of ps cs) → gone k from ≡ Some g → done + holes ≤ count (parts (later from p))
    → flat_map (child_held ns ps) (drop holes (drop done (drop g cs))) ++ locations_below (methods_behind ns ps k) ≡ locations_below (rest (done + holes) (shown_terms (map loc ns) (later from p)))
others_left ns ps k cs from g done holes p at e le =
    let left : List Child = drop g cs in
    let is : later from p ≡ kind_piece ps k (pieces_of ps left) = ap (later from) at ∙ gone_piece ps k cs from g e in
    let most : done + holes ≤ length left = subst (λ (m : ℕ). done + holes ≤ m) (ap (λ (q : Piece). count (parts q)) is ∙ count_parts ps k left) le in
    ap (λ (ds : List Child). flat_map (child_held ns ps) ds ++ locations_below (methods_behind ns ps k)) (drop_twice holes done left)
    ∙ sym (ap (λ (q : Piece). locations_below (rest (done + holes) (shown_terms (map loc ns) q))) is ∙ rest_kind ns ps k left (done + holes) most)

-- A `repeat` that has become a sequence

pub rolled_left : (ts : List Tree) (ps : List Piece) (k : Kind) (cs : List Child) (from n : ℕ) (p : Piece) → p ≡ kind_piece ps k (pieces_of ps cs) → gone k from ≡ None → n ≤ count (parts (later from p))
    → (n ≤ 2) × (locations_below (rest n (more (shown ts (nth 0 (pieces_of ps cs))) (more (shown ts p) none))) ≡ locations_below (rest n (shown_terms ts (later from p))))
rolled_left ts ps k cs from n p at e le =
    let below : Pieces = pieces_of ps cs in
    let both : (kind_piece ps k below ≡ piece Repeat below) × (later from (kind_piece ps k below) ≡ unrolled below) = rolled_piece ps k below from e in
    let is : later from p ≡ unrolled below = ap (later from) at ∙ both.1 in (
      subst (λ (q : Piece). n ≤ count (parts q)) is le,
      ap (λ (q : Piece). locations_below (rest n (more (shown ts (nth 0 below)) (more (shown ts q) none)))) (at ∙ both.0) ∙ sym (ap (λ (q : Piece). locations_below (rest n (shown_terms ts q))) is),
    )

pub roll_all : (t u : Tree) (n : ℕ) → n ≡ 0 → locations t ++ locations u ≡ locations_below (rest n (more t (more u none)))
roll_all t u n e = ap (λ (xs : List ℕ). locations t ++ xs) (sym (append-nil (locations u))) ∙ sym (ap (λ (m : ℕ). locations_below (rest m (more t (more u none)))) e)

pub roll_last : (t u : Tree) (n : ℕ) → n ≡ 1 → locations u ≡ locations_below (rest n (more t (more u none)))
roll_last t u n e = sym (append-nil (locations u)) ∙ sym (ap (λ (m : ℕ). locations_below (rest m (more t (more u none)))) e)

pub roll_none : (t u : Tree) (n : ℕ) → n ≡ 2 → [] ≡ locations_below (rest n (more t (more u none)))
roll_none t u n e = sym (ap (λ (m : ℕ). locations_below (rest m (more t (more u none)))) e)

pub first_missing : (ts : List Tree) (ps : List Piece) (cs : List Child) → length cs ≡ 0 → [] ≡ locations (shown ts (nth 0 (pieces_of ps cs)))
first_missing ts ps [] e = refl
first_missing ts ps (c ∷ cs) e = absurd (omega (arith, e))

pub first_there : (ns : List ℕ) (ps : List Piece) (cs : List Child) (c : Child) → 0 < length cs → c ≡ get_or cs 0 c → child_held ns ps c ≡ locations (shown (map loc ns) (nth 0 (pieces_of ps cs)))
first_there ns ps [] c lt e = absurd (omega (arith, lt))
first_there ns ps (d ∷ cs) c lt e = ap (child_held ns ps) e

pub all_below_drop : (m : ℕ) (cs : List Child) (k : ℕ) → AllBelow m cs → AllBelow m (drop k cs)
all_below_drop m cs zero h = h
all_below_drop m [] (suc k) h = tt
all_below_drop m (c ∷ cs) (suc k) h = all_below_drop m cs k h.1

-- Nodes of a machine

same_later : (from : ℕ) (p : Piece) → later from p ≡ sequences.later from p
same_later zero p = refl
same_later (suc n) (variable l) = refl
same_later (suc n) (piece Steps ps) = refl
same_later (suc n) (piece Repeat ps) = refl
same_later (suc n) (piece hd ps) = refl
same_later (suc n) (object ls fs ms) = refl

this_term : (b : Bool) (p q : Piece) → b ≡ false → this_or b p q ≡ q
this_term true p q e = absurd cc
this_term false p q e = refl

past_end : (ps : List Piece) (i : ℕ) → length ps ≤ i → piece_at ps i ≡ piece Hole nothing
past_end [] i le = refl
past_end (p ∷ ps) i le =
    let less : length ps ≤ i = omega (arith, le) in
    let other : (i == length ps) ≡ false = grind arith in this_term (i == length ps) p (piece_at ps i) other ∙ past_end ps i less

-- the piece of a number that the code does not have
pub beyond : (k : List Node) (number : ℕ) → length k ≤ number → piece_at (pieces k) number ≡ piece Hole nothing
beyond k number le = let less : length (pieces k) ≤ number = omega (arith, le, length-pieces k) in past_end (pieces k) number less

no_run : (xs : List Text) (scope : Environment) (ns : List ℕ) (from : ℕ) → Runs xs scope ns (sequences.later from (piece Hole nothing)) → ⊥
no_run xs scope ns zero r = r.fits.0
no_run xs scope ns (suc n) r = r.fits.0

-- what runs is a node of the code
pub runs_within : (k : List Node) (xs : List Text) (scope : Environment) (ns : List ℕ) (number from : ℕ) → Runs xs scope ns (piece_from k number from) → number < length k
runs_within k xs scope ns number from r = by (nat_lt number (length k)) refl
  where
    by : (b : Bool) → nat_lt number (length k) ≡ b → number < length k
    by true e = grind (arith, nat_tests)
    by false e =
        let past : length k ≤ number = grind (arith, nat_tests) in
        absurd (no_run xs scope ns from (subst (λ (p : Piece). Runs xs scope ns (sequences.later from p)) (beyond k number past) r))

pub head_own : (xs : List Text) (scope : Environment) (h : ℕ) (p : Piece) → Fits xs scope h p → own_locations (head_in p) ≡ []
head_own xs scope h (variable l) f = refl
head_own xs scope h (piece (Loc n) ps) f = absurd f.0
head_own xs scope h (piece hd ps) f = refl
head_own xs scope h (object ls fs ms) f = refl

pub locs_below : (ns : List ℕ) (ts : Trees) → locations_below (locs_then ns ts) ≡ ns ++ locations_below ts
locs_below [] ts = refl
locs_below (n ∷ ns) ts = ap (λ (xs : List ℕ). n ∷ xs) (locs_below ns ts)

-- what stands behind as many terms of a node that runs
abbrev Behind : (k : List Node) (ns : List ℕ) (number from n : ℕ) → List ℕ
Behind k ns number from n = locations_below (rest n (shown_terms (map loc ns) (later from (piece_at (pieces k) number))))

behind_runs : (k : List Node) (xs : List Text) (scope : Environment) (ns : List ℕ) (number from n : ℕ) → Runs xs scope ns (piece_from k number from) → locations_below (behind_in xs scope ns (piece_from k number from) n) ≡ Behind k ns number from n
behind_runs k xs scope ns number from n r =
    let p : Piece = piece_at (pieces k) number in
    let term : IsTerm (piece_from k number from) = subst IsTerm (same_later from p) (later_term from p (is_term k number)) in
    ap locations_below (behind_is xs scope ns (piece_from k number from) n term r)
    ∙ ap (λ (q : Piece). locations_below (rest n (shown_terms (map loc ns) q))) (sym (same_later from p))

most_parts : (k : List Node) (xs : List Text) (scope : Environment) (ns : List ℕ) (number from n : ℕ) → Runs xs scope ns (piece_from k number from) → n ≤ in_place (piece_from k number from) → n ≤ count (parts (later from (piece_at (pieces k) number)))
most_parts k xs scope ns number from n r le =
    let most : in_place (piece_from k number from) ≤ count (parts (piece_from k number from)) = in_place_most xs scope ns (piece_from k number from) r in
    subst (λ (q : Piece). n ≤ count (parts q)) (sym (same_later from (piece_at (pieces k) number))) (omega (arith, le, most))

-- a node whose first terms are done
pub begun_found : (k : List Node) (ns own : List ℕ) (number from n : ℕ) (t : Tree) (start middle end : Search) → IsBegun k ns own number from t → n ≡ length own → middle ≡ searched own start
    → (number < length k → n + 0 ≤ count (parts (later from (piece_at (pieces k) number))) → end ≡ searched (Behind k ns number from (n + 0)) middle) → end ≡ searched (locations t) start
begun_found k ns own number from n t start middle end b size first last =
    let p : Piece = piece_from k number from in
    let same : n + 0 ≡ length own = omega (arith, size) in
    let within : number < length k = runs_within k b.names b.scope ns number from b.runs in
    let low : n + 0 ≤ in_place p = omega (arith, size, b.most) in
    let behind : locations_below (behind_in b.names b.scope ns p (length own)) ≡ Behind k ns number from (n + 0) = behind_runs k b.names b.scope ns number from (length own) b.runs ∙ ap (Behind k ns number from) (sym same) in
    let all : locations t ≡ own ++ Behind k ns number from (n + 0) =
    ap locations b.is ∙ ap (λ (xs : List ℕ). xs ++ locations_below (locs_then own (behind_in b.names b.scope ns p (length own)))) (head_own b.names b.scope (length ns) p b.runs.fits)
    ∙ locs_below own (behind_in b.names b.scope ns p (length own)) ∙ ap (λ (xs : List ℕ). own ++ xs) behind in
    last within (most_parts k b.names b.scope ns number from (n + 0) b.runs low) ∙ ap (searched (Behind k ns number from (n + 0))) first
    ∙ sym (ap (λ (xs : List ℕ). searched xs start) all ∙ searched_both own (Behind k ns number from (n + 0)) start)

-- a node round the next of its terms
pub waiting_found : (k : List Node) (ns own : List ℕ) (number from n : ℕ) (c : Context) (start end : Search) → IsWaiting k ns own number from c → n ≡ length own
    → (number < length k → n + 1 ≤ count (parts (later from (piece_at (pieces k) number))) → end ≡ searched (Behind k ns number from (n + 1)) start) → end ≡ searched (locations_below c.behind) start
waiting_found k ns own number from n c start end w size last =
    let p : Piece = piece_from k number from in
    let same : n + 1 ≡ suc (length own) = omega (arith, size) in
    let within : number < length k = runs_within k w.names w.scope ns number from w.runs in
    let low : n + 1 ≤ in_place p = omega (arith, size, w.unfinished) in
    let behind : locations_below c.behind ≡ Behind k ns number from (n + 1) =
    ap (λ (x : Context). locations_below x.behind) w.is ∙ behind_runs k w.names w.scope ns number from (suc (length own)) w.runs ∙ ap (Behind k ns number from) (sym same) in
    last within (most_parts k w.names w.scope ns number from (n + 1) w.runs low) ∙ sym (ap (λ (xs : List ℕ). searched xs start) behind)
