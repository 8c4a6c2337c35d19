-- What a binding, a sequence, a choice and a repetition lead to.
use Rattle.std.proofs.Common.{◌≡◌, ℕ, zero, suc, ◌+◌, ◌-◌, ◌<◌, ◌≤◌, List, [], ◌∷◌, ◌++◌, length, map, take, refl, sym, ap, subst, ◌∙◌, arith, length-append}
use Rattle.std.proofs.Math.Seq.{get_or-append_seam}
use Rattle.std.proofs.lemmas.List.{take-append-le}
use Rattle.asp_model.specs.Names.{Text}
use Rattle.asp_model.specs.Term.{Let, Steps, If, Repeat, Tree, Trees, Environment, loc, put_in}
use Rattle.asp_model.specs.Store.{Store, cell}
use Rattle.asp_model.specs.Contraction.{Becomes, if_row, row}
use Rattle.code_table.specs.Pieces.{Piece, piece, Pieces, nothing, also, count, tree}
use Rattle.code_table.specs.Fitting.{placed, Fits, Under, Runs, term_in}
use Rattle.code_laws.specs.Nodes.{nth, after, behind_in, sequel, unrolled}
use Rattle.code_laws.proofs.TwiceLemmas.{put_twice}
use Rattle.code_laws.proofs.ScopeLemmas.{under_more, placed_more}

-- Bindings

-- the body of a binding, in the environment with one place more
pub let_term : (xs : List Text) (scope : Environment) (ns : List ℕ) (x : Text) (q : Piece) (i : ℕ) → length xs ≤ length ns → Under (length ns) scope
    → put_in ((x, i) ∷ []) (put_in (Rattle.asp_model.specs.Term.without (x ∷ []) (placed ns scope)) (tree (map loc (take (length xs) ns)) q)) ≡ term_in xs ((x, length ns) ∷ scope) (ns ++ i ∷ []) q
let_term xs scope ns x q i low within =
    let new : List ℕ = ns ++ i ∷ [] in
    let e : Environment = placed ns scope in
    let bound_is : (x, i) ∷ e ≡ placed new ((x, length ns) ∷ scope) = sym (λ j. (x, get_or-append_seam ns i [] 0 j) ∷ placed_more ns (i ∷ []) scope within j) in
    let kept_is : take (length xs) ns ≡ take (length xs) new = sym (take-append-le (length xs) ns (i ∷ []) low) in
    put_twice (tree (map loc (take (length xs) ns)) q) ((x, i) ∷ []) e ∙ (λ j. put_in (bound_is j) (tree (map loc (kept_is j)) q))

pub let_enters : (xs : List Text) (scope : Environment) (ns : List ℕ) (x : Text) (ps : Pieces) (i : ℕ) (s : Store) → Runs xs scope ns (piece (Let x) ps)
    → row s (Let x) (i ∷ []) (behind_in xs scope ns (piece (Let x) ps) 1) ≡ Becomes (term_in xs ((x, length ns) ∷ scope) (ns ++ i ∷ []) (nth 1 ps)) s []
let_enters xs scope ns x nothing i s r = let two : 0 ≡ 2 = r.fits.1 in absurd (omega (arith, two))
let_enters xs scope ns x (also p nothing) i s r = let two : 1 ≡ 2 = r.fits.1 in absurd (omega (arith, two))
let_enters xs scope ns x (also p (also q nothing)) i s r = ap (λ (t : Tree). Becomes t s []) (let_term xs scope ns x q i r.low r.within)
let_enters xs scope ns x (also p (also q (also u ps))) i s r = let two : suc (suc (suc (count ps))) ≡ 2 = r.fits.1 in absurd (omega (arith, two))

pub let_runs : (xs : List Text) (scope : Environment) (ns : List ℕ) (x : Text) (ps : Pieces) (i : ℕ) → Runs xs scope ns (piece (Let x) ps) → Runs xs ((x, length ns) ∷ scope) (ns ++ i ∷ []) (nth 1 ps)
let_runs xs scope ns x nothing i r = let two : 0 ≡ 2 = r.fits.1 in absurd (omega (arith, two))
let_runs xs scope ns x (also p nothing) i r = let two : 1 ≡ 2 = r.fits.1 in absurd (omega (arith, two))
let_runs xs scope ns x (also p (also q ps)) i r =
    let new : List ℕ = ns ++ i ∷ [] in
    let longer : length ns + 1 ≡ length new = sym (length-append ns (i ∷ [])) in
    let low : length xs ≤ length ns = r.low in
    let here : length ns < length new = omega (arith, longer) in
    let grows : length ns ≤ length new = omega (arith, longer) in
    let bound : Environment = (x, length ns) ∷ scope in
    record {
      low = omega (arith, longer, low);
      within = (here, under_more (length ns) (length new) scope grows r.within);
      fits = subst (λ (h : ℕ). Fits xs bound h q) longer r.fits.2.1.0;
    }

-- Sequences

pub sequence_goes_on : (xs : List Text) (scope : Environment) (ns : List ℕ) (ps : Pieces) (i : ℕ) (s : Store) → Runs xs scope ns (piece Steps ps)
    → row s Steps (i ∷ []) (behind_in xs scope ns (piece Steps ps) 1) ≡ Becomes (term_in xs scope ns (sequel (after 1 ps))) s []
sequence_goes_on xs scope ns nothing i s r = let two : 2 ≤ 0 = r.fits.1 in absurd (omega (arith, two))
sequence_goes_on xs scope ns (also p nothing) i s r = let two : 2 ≤ 1 = r.fits.1 in absurd (omega (arith, two))
sequence_goes_on xs scope ns (also p (also q nothing)) i s r = refl
sequence_goes_on xs scope ns (also p (also q (also u ps))) i s r = refl

pub sequel_runs : (xs : List Text) (scope : Environment) (ns : List ℕ) (ps : Pieces) → Runs xs scope ns (piece Steps ps) → Runs xs scope ns (sequel (after 1 ps))
sequel_runs xs scope ns nothing r = let two : 2 ≤ 0 = r.fits.1 in absurd (omega (arith, two))
sequel_runs xs scope ns (also p nothing) r = let two : 2 ≤ 1 = r.fits.1 in absurd (omega (arith, two))
sequel_runs xs scope ns (also p (also q nothing)) r = record { low = r.low; within = r.within; fits = r.fits.2.1.0 }
sequel_runs xs scope ns (also p (also q (also u ps))) r =
    let two : 2 ≤ suc (suc (count ps)) = omega arith in record { low = r.low; within = r.within; fits = (tt, two, r.fits.2.1) }

-- Choices

pub choice_goes_on : (xs : List Text) (scope : Environment) (ns : List ℕ) (ps : Pieces) (i : ℕ) (s : Store) → Runs xs scope ns (piece If ps)
    → row s If (i ∷ []) (behind_in xs scope ns (piece If ps) 1) ≡ if_row s (term_in xs scope ns (nth 1 ps)) (term_in xs scope ns (nth 2 ps)) (cell s i)
choice_goes_on xs scope ns nothing i s r = let three : 0 ≡ 3 = r.fits.1 in absurd (omega (arith, three))
choice_goes_on xs scope ns (also p nothing) i s r = let three : 1 ≡ 3 = r.fits.1 in absurd (omega (arith, three))
choice_goes_on xs scope ns (also p (also a nothing)) i s r = let three : 2 ≡ 3 = r.fits.1 in absurd (omega (arith, three))
choice_goes_on xs scope ns (also p (also a (also b nothing))) i s r = refl
choice_goes_on xs scope ns (also p (also a (also b (also u ps)))) i s r = let three : suc (suc (suc (suc (count ps)))) ≡ 3 = r.fits.1 in absurd (omega (arith, three))

-- both branches
pub branches_run : (xs : List Text) (scope : Environment) (ns : List ℕ) (ps : Pieces) → Runs xs scope ns (piece If ps) → Runs xs scope ns (nth 1 ps) × Runs xs scope ns (nth 2 ps)
branches_run xs scope ns nothing r = let three : 0 ≡ 3 = r.fits.1 in absurd (omega (arith, three))
branches_run xs scope ns (also p nothing) r = let three : 1 ≡ 3 = r.fits.1 in absurd (omega (arith, three))
branches_run xs scope ns (also p (also a nothing)) r = let three : 2 ≡ 3 = r.fits.1 in absurd (omega (arith, three))
branches_run xs scope ns (also p (also a (also b ps))) r =
    (record { low = r.low; within = r.within; fits = r.fits.2.1.0 }, record { low = r.low; within = r.within; fits = r.fits.2.1.1.0 })

-- Repetitions

pub repetition_goes_on : (xs : List Text) (scope : Environment) (ns : List ℕ) (ps : Pieces) (s : Store) → Runs xs scope ns (piece Repeat ps)
    → row s Repeat [] (behind_in xs scope ns (piece Repeat ps) 0) ≡ Becomes (term_in xs scope ns (unrolled ps)) s []
repetition_goes_on xs scope ns nothing s r = let one : 0 ≡ 1 = r.fits.1 in absurd (omega (arith, one))
repetition_goes_on xs scope ns (also p nothing) s r = refl
repetition_goes_on xs scope ns (also p (also q ps)) s r = let one : suc (suc (count ps)) ≡ 1 = r.fits.1 in absurd (omega (arith, one))

pub unrolled_runs : (xs : List Text) (scope : Environment) (ns : List ℕ) (ps : Pieces) → Runs xs scope ns (piece Repeat ps) → Runs xs scope ns (unrolled ps)
unrolled_runs xs scope ns nothing r = let one : 0 ≡ 1 = r.fits.1 in absurd (omega (arith, one))
unrolled_runs xs scope ns (also p ps) r =
    let two : 2 ≤ 2 = omega arith in record { low = r.low; within = r.within; fits = (tt, two, (r.fits.2.0, ((tt, r.fits.1, r.fits.2), tt))) }

-- once its term is done, the repetition stands again
pub repeats_again : (ps : Pieces) → sequel (after 1 (also (nth 0 ps) (also (piece Repeat ps) nothing))) ≡ piece Repeat ps
repeats_again ps = refl

-- Pieces from a number on

pub nth_after : (k n : ℕ) (ps : Pieces) → nth n (after k ps) ≡ nth (k + n) ps
nth_after zero n ps = let same : n ≡ 0 + n = omega arith in ap (λ (i : ℕ). nth i ps) same
nth_after (suc k) n nothing = refl
nth_after (suc k) n (also p ps) = let same : suc (k + n) ≡ suc k + n = omega arith in nth_after k n ps ∙ ap (λ (i : ℕ). nth i (also p ps)) same

pub after_after : (k n : ℕ) (ps : Pieces) → after n (after k ps) ≡ after (k + n) ps
after_after zero n ps = let same : n ≡ 0 + n = omega arith in ap (λ (i : ℕ). after i ps) same
after_after (suc k) zero nothing = let same : suc k ≡ suc k + 0 = omega arith in ap (λ (i : ℕ). after i nothing) same
after_after (suc k) (suc n) nothing = let same : suc (k + suc n) ≡ suc k + suc n = omega arith in ap (λ (i : ℕ). after i nothing) same
after_after (suc k) n (also p ps) = let same : suc (k + n) ≡ suc k + n = omega arith in after_after k n ps ∙ ap (λ (i : ℕ). after i (also p ps)) same

pub count_after : (k : ℕ) (ps : Pieces) → count (after k ps) ≡ count ps - k
count_after zero ps = let same : count ps ≡ count ps - 0 = omega arith in same
count_after (suc k) nothing = let same : 0 ≡ 0 - suc k = omega arith in same
count_after (suc k) (also p ps) = let same : count ps - k ≡ suc (count ps) - suc k = omega arith in count_after k ps ∙ same
