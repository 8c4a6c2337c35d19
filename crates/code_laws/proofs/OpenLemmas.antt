-- The terms below a node, one after the other: a node whose first terms are done is a redex, or a context of the next one.
use Rattle.std.proofs.Common.{◌≡◌, ℕ, zero, suc, ◌+◌, ◌<◌, ◌≤◌, List, [], ◌∷◌, ◌++◌, length, map, take, drop, refl, sym, ap, subst, ◌∙◌, arith}
use Rattle.std.proofs.Math.Seq.{drop-nil}
use Rattle.asp_model.specs.Names.{Text}
use Rattle.asp_model.specs.Term.{Head, Loc, Var, Make, Call, Let, Group, Tree, Trees, node, none, more, loc, locs_then, child_count, Environment, binders, without, put_in, put_below}
use Rattle.asp_model.specs.Readable.{HasArity}
use Rattle.asp_model.specs.Split.{reduced_count}
use Rattle.code_table.specs.Pieces.{Pieces, nothing, also, count, tree, below}
use Rattle.code_table.specs.Fitting.{slots_from, placed, head_names, IsNode, Fits, AllFit, Runs, term_in}
use Rattle.code_laws.specs.Nodes.{nth, rest}
use Rattle.code_laws.proofs.CaptureLemmas.{without_none}

-- How many terms stand below

pub count_below : (ts : List Tree) (ps : Pieces) (us : Trees) → child_count (below ts ps us) ≡ count ps + child_count us
count_below ts nothing us = let same : child_count us ≡ 0 + child_count us = omega arith in same
count_below ts (also p ps) us = let same : suc (count ps + child_count us) ≡ suc (count ps) + child_count us = omega arith in ap suc (count_below ts ps us) ∙ same

pub count_put : (e : Environment) (bound : List (List Text)) (ts : Trees) → child_count (put_below e bound ts) ≡ child_count ts
count_put e bound none = refl
count_put e [] (more t ts) = ap suc (count_put e [] ts)
count_put e (xs ∷ bound) (more t ts) = ap suc (count_put e bound ts)

pub count_rest : (n : ℕ) (ts : Trees) → n ≤ child_count ts → n + child_count (rest n ts) ≡ child_count ts
count_rest zero ts le = omega arith
count_rest (suc n) none le = absurd (omega (arith, le))
count_rest (suc n) (more t ts) le =
    let less : n ≤ child_count ts = omega (arith, le) in
    let ih : n + child_count (rest n ts) ≡ child_count ts = count_rest n ts less in omega (arith, ih)

pub count_locs : (ns : List ℕ) (ts : Trees) → child_count (locs_then ns ts) ≡ length ns + child_count ts
count_locs [] ts = let same : child_count ts ≡ 0 + child_count ts = omega arith in same
count_locs (n ∷ ns) ts = let same : suc (length ns + child_count ts) ≡ suc (length ns) + child_count ts = omega arith in ap suc (count_locs ns ts) ∙ same

-- how many are reduced in place is told by how many there are
pub reduced_same : (h : Head) (ts us : Trees) → child_count ts ≡ child_count us → reduced_count h ts ≡ reduced_count h us
reduced_same (Call l) ts us e = e
reduced_same Group ts us e = e
reduced_same h ts us e = refl

one_of : (n : ℕ) → n ≡ 1 → 1 ≤ n
one_of n e = omega (arith, e)

two_of : (n : ℕ) → n ≡ 2 → 2 ≤ n
two_of n e = omega (arith, e)

none_of : (n : ℕ) → 0 ≤ n
none_of n = omega arith

all_of : (ps : Pieces) → child_count (below [] ps none) ≤ count ps
all_of ps = let all : child_count (below [] ps none) ≡ count ps + 0 = count_below [] ps none in omega (arith, all)

-- a node has the terms that are reduced in place
pub in_place_within : (h : Head) (ps : Pieces) → IsNode h → HasArity h (count ps) → reduced_count h (below [] ps none) ≤ count ps
in_place_within (Make fields methods) ps i a = absurd i
in_place_within (Call l) ps i a = all_of ps
in_place_within Group ps i a = all_of ps
in_place_within (Rattle.asp_model.specs.Term.Get l) ps i a = one_of (count ps) a
in_place_within (Rattle.asp_model.specs.Term.Put l) ps i a = two_of (count ps) a
in_place_within Rattle.asp_model.specs.Term.Clone ps i a = one_of (count ps) a
in_place_within (Rattle.asp_model.specs.Term.Active l) ps i a = one_of (count ps) a
in_place_within (Let x) ps i a = let two : 2 ≤ count ps = two_of (count ps) a in omega (arith, two)
in_place_within Rattle.asp_model.specs.Term.Steps ps i a = let two : 2 ≤ count ps = a in omega (arith, two)
in_place_within Rattle.asp_model.specs.Term.If ps i a = let three : count ps ≡ 3 = a in omega (arith, three)
in_place_within (Rattle.asp_model.specs.Term.Operate s) ps i a = two_of (count ps) a
in_place_within Rattle.asp_model.specs.Term.Print ps i a = one_of (count ps) a
in_place_within (Rattle.asp_model.specs.Term.Scatter l) ps i a = two_of (count ps) a
in_place_within Rattle.asp_model.specs.Term.Size ps i a = one_of (count ps) a
in_place_within Rattle.asp_model.specs.Term.Member ps i a = two_of (count ps) a
in_place_within Rattle.asp_model.specs.Term.WaitAll ps i a = one_of (count ps) a
in_place_within h ps i a = none_of (count ps)

-- What is bound in the terms below

abbrev pub first_bound : List (List Text) → List Text
first_bound [] = []
first_bound (xs ∷ bound) = xs

pub none_first : (n : ℕ) → first_bound (drop n []) ≡ []
none_first n = ap first_bound (drop-nil n)

-- nothing is bound in what is reduced in place
pub nothing_bound : (h : Head) (ts : Trees) (n : ℕ) → IsNode h → n < reduced_count h ts → first_bound (drop n (binders h)) ≡ []
nothing_bound (Make fields methods) ts n i lt = absurd i
nothing_bound (Let x) ts zero i lt = refl
nothing_bound (Let x) ts (suc n) i lt = absurd (omega (arith, lt))
nothing_bound h ts n i lt = none_first n

abbrev unbound : Text → List Text
unbound l = []

pub fields_bound : (ls : List Text) (bound : List (List Text)) (n : ℕ) → n < length ls → first_bound (drop n (map unbound ls ++ bound)) ≡ []
fields_bound [] bound n lt = absurd (omega (arith, lt))
fields_bound (l ∷ ls) bound zero lt = refl
fields_bound (l ∷ ls) bound (suc n) lt = let less : n < length ls = omega (arith, lt) in fields_bound ls bound n less

-- the next term, under its names, and those behind it
pub next_term : (e : Environment) (bound : List (List Text)) (ts : List Tree) (ps : Pieces) (us : Trees) (n : ℕ) → n < count ps
    → put_below e (drop n bound) (rest n (below ts ps us)) ≡ more (put_in (without (first_bound (drop n bound)) e) (tree ts (nth n ps))) (put_below e (drop (suc n) bound) (rest (suc n) (below ts ps us)))
next_term e bound ts nothing us n lt = absurd (omega (arith, lt))
next_term e [] ts (also p ps) us zero lt = ap (λ (d : Environment). more (put_in d (tree ts p)) (put_below e [] (below ts ps us))) (sym (without_none e))
next_term e (xs ∷ bound) ts (also p ps) us zero lt = refl
next_term e [] ts (also p ps) us (suc n) lt =
    let less : n < count ps = omega (arith, lt) in
    ap (λ (b : List (List Text)). put_below e b (rest n (below ts ps us))) (sym (drop-nil n)) ∙ next_term e [] ts ps us n less
    ∙ ap (λ (b : List (List Text)). more (put_in (without (first_bound b) e) (tree ts (nth n ps))) (put_below e (drop (suc n) []) (rest (suc n) (below ts ps us)))) (drop-nil n)
next_term e (xs ∷ bound) ts (also p ps) us (suc n) lt = let less : n < count ps = omega (arith, lt) in next_term e bound ts ps us n less

-- and it fits there
pub part_fits : (xs : List Text) (scope : Environment) (h : ℕ) (bound : List (List Text)) (ps : Pieces) (n : ℕ) → AllFit xs scope h bound ps → n < count ps
    → Fits xs (slots_from h (first_bound (drop n bound)) ++ scope) (h + length (first_bound (drop n bound))) (nth n ps)
part_fits xs scope h bound nothing n f lt = absurd (omega (arith, lt))
part_fits xs scope h [] (also p ps) zero f lt = let same : h ≡ h + 0 = omega arith in subst (λ (k : ℕ). Fits xs scope k p) same f.0
part_fits xs scope h (ys ∷ bound) (also p ps) zero f lt = f.0
part_fits xs scope h [] (also p ps) (suc n) f lt =
    let less : n < count ps = omega (arith, lt) in
    subst (λ (b : List (List Text)). Fits xs (slots_from h (first_bound b) ++ scope) (h + length (first_bound b)) (nth n ps)) (drop-nil n) (part_fits xs scope h [] ps n f.1 less)
part_fits xs scope h (ys ∷ bound) (also p ps) (suc n) f lt = let less : n < count ps = omega (arith, lt) in part_fits xs scope h bound ps n f.1 less

-- a term below a node in which nothing is bound stands in the node's own environment
pub part_runs : (xs : List Text) (scope : Environment) (ns : List ℕ) (bound : List (List Text)) (ps : Pieces) (n : ℕ) → length xs ≤ length ns → Rattle.code_table.specs.Fitting.Under (length ns) scope
    → AllFit xs scope (length ns) bound ps → n < count ps → first_bound (drop n bound) ≡ [] → Runs xs scope ns (nth n ps)
part_runs xs scope ns bound ps n low within f lt e =
    let here : Fits xs scope (length ns + 0) (nth n ps) =
    subst (λ (ys : List Text). Fits xs (slots_from (length ns) ys ++ scope) (length ns + length ys) (nth n ps)) e (part_fits xs scope (length ns) bound ps n f lt) in
    let same : length ns + 0 ≡ length ns = omega arith in
    record { low = low; within = within; fits = subst (λ (k : ℕ). Fits xs scope k (nth n ps)) same here }

pub part_term : (xs : List Text) (scope : Environment) (ns : List ℕ) (bound : List (List Text)) (ps : Pieces) (us : Trees) (n : ℕ) → n < count ps → first_bound (drop n bound) ≡ []
    → (let ts = map loc (take (length xs) ns) in
    put_below (placed ns scope) (drop n bound) (rest n (below ts ps us)) ≡ more (term_in xs scope ns (nth n ps)) (put_below (placed ns scope) (drop (suc n) bound) (rest (suc n) (below ts ps us))))
part_term xs scope ns bound ps us n lt e =
    let ts : List Tree = map loc (take (length xs) ns) in
    let env : Environment = placed ns scope in
    next_term env bound ts ps us n lt
    ∙ ap (λ (ys : List Text). more (put_in (without ys env) (tree ts (nth n ps))) (put_below env (drop (suc n) bound) (rest (suc n) (below ts ps us)))) e
    ∙ ap (λ (d : Environment). more (put_in d (tree ts (nth n ps))) (put_below env (drop (suc n) bound) (rest (suc n) (below ts ps us)))) (without_none env)
