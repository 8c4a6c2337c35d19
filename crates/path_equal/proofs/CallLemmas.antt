-- The places of groups of calls.
use Rattle.std.proofs.Common.{◌≡◌, ℕ, zero, suc, ◌+◌, ◌-◌, ◌<◌, ◌≤◌, List, [], ◌∷◌, ◌++◌, length, take, drop, refl, sym, ap, ◌∙◌, arith, append_assoc, length-drop}
use Rattle.std.proofs.Math.Seq.{drop-append_seam, take-append_seam}
use Rattle.std.proofs.lemmas.List.{append-nil, drop-map}
use Rattle.asp_model.specs.Names.{Text}
use Rattle.asp_model.specs.Split.{Context}
use Rattle.asp_model.specs.Term.{Tree, Trees, none, locations, locations_below, locs_then}
use Rattle.code_table.specs.declared.code.Node.{Node}
use Rattle.code_table.specs.Tables.{piece_at, pieces}
use Rattle.code_laws.specs.Nodes.{in_place}
use Rattle.step_machine.specs.declared.frames.Spread.{Spread}
use Rattle.step_machine.specs.declared.frames.Spread.TheVariants as spread
use Rattle.step_machine.specs.Calls.{IsCalling, IsDealt, IsLaid, beside_count, called_label, calls, calls_behind, pairs, rounds}
use Rattle.step_machine.proofs.RoundLemmas.{next_round, round, rounds_over}
use Rattle.path_equal.specs.declared.calls.Laid.{Laid}
use Rattle.path_equal.specs.declared.search.Search.{Search}
use Rattle.path_equal.specs.Contexts.{IsLaidOut, all_of, call_places}
use Rattle.path_equal.specs.Searches.{searched}
use Rattle.path_equal.proofs.ContextLemmas.{beyond, drop_twice, locs_below}
use Rattle.path_equal.proofs.SearchLemmas.{searched_both}

-- The operands

pub none_given : (k : List Node) (number : ℕ) → length k ≤ number → 0 ≡ in_place (piece_at (pieces k) number)
none_given k number le = sym (ap in_place (beyond k number le))

take_first : (xs ys : List ℕ) (n : ℕ) → n ≡ length xs → take n (xs ++ ys) ≡ xs
take_first xs ys n e = ap (λ (m : ℕ). take m (xs ++ ys)) e ∙ take-append_seam xs ys

drop_first : (xs ys : List ℕ) (n : ℕ) → n ≡ length xs → drop n (xs ++ ys) ≡ ys
drop_first xs ys n e = ap (λ (m : ℕ). drop m (xs ++ ys)) e ∙ drop-append_seam xs ys

-- the parts, by how many each has
pub parts_are : (k : List Node) (s : Spread) (number members : ℕ) (own : List ℕ) (l : IsLaid k s number members own) (x : Laid) (given beside : ℕ) (called left : List ℕ)
    → given ≡ in_place (piece_at (pieces k) number) → beside ≡ beside_count s members → called ≡ drop given own → left ≡ drop members called
    → x.given.now ≡ take given own → x.members.now ≡ take members called → x.beside.now ≡ take beside left → x.results.now ≡ drop beside left → IsLaidOut k s number members own l x
parts_are k s number members own l x given beside called left given_is beside_is called_is left_is a b c d =
    let own_is : own ≡ l.given ++ (l.receivers ++ (l.beside ++ l.results)) = l.are ∙ append_assoc (l.given ++ l.receivers) l.beside l.results ∙ append_assoc l.given l.receivers (l.beside ++ l.results) in
    let first : given ≡ length l.given = given_is ∙ sym l.given_size in
    let third : beside ≡ length l.beside = beside_is ∙ sym l.beside_size in
    let called_are : called ≡ l.receivers ++ (l.beside ++ l.results) = called_is ∙ ap (drop given) own_is ∙ drop_first l.given (l.receivers ++ (l.beside ++ l.results)) given first in
    let left_are : left ≡ l.beside ++ l.results = left_is ∙ ap (drop members) called_are ∙ drop_first l.receivers (l.beside ++ l.results) members (sym l.size) in
    record {
      given = a ∙ ap (take given) own_is ∙ take_first l.given (l.receivers ++ (l.beside ++ l.results)) given first;
      members = b ∙ ap (take members) called_are ∙ take_first l.receivers (l.beside ++ l.results) members (sym l.size);
      beside = c ∙ ap (take beside) left_are ∙ take_first l.beside l.results beside third;
      results = d ∙ ap (drop beside) left_are ∙ drop_first l.beside l.results beside third;
    }

-- Calls one by one

round_is : (s : Spread) (given ns ks : List ℕ) (i : ℕ) → call_places s given ns ks i ≡ round s given ns ks i
round_is spread.Same given ns ks i = refl
round_is spread.Own given ns ks i = refl

-- one more call is passed
pub next_call : (s : Spread) (given ns ks : List ℕ) (i : ℕ) (start old new : Search) → i < length ns → length ks ≡ beside_count s (length ns)
    → searched (all_of (drop i (rounds s given ns ks))) old ≡ searched (all_of (rounds s given ns ks)) start → new ≡ searched (call_places s given ns ks i) old
    → searched (all_of (drop (i + 1) (rounds s given ns ks))) new ≡ searched (all_of (rounds s given ns ks)) start
next_call s given ns ks i start old new lt size before step =
    let all : List (List ℕ) = rounds s given ns ks in
    let one : i + 1 ≡ suc i = omega arith in
    let here : drop i all ≡ call_places s given ns ks i ∷ drop (suc i) all = next_round s given ns ks i lt size ∙ ap (λ (r : List ℕ). r ∷ drop (suc i) all) (sym (round_is s given ns ks i)) in
    (λ j. searched (all_of (drop (one j) all)) (step j))
    ∙ sym (searched_both (call_places s given ns ks i) (all_of (drop (suc i) all)) old)
    ∙ sym (ap (λ (rs : List (List ℕ)). searched (all_of rs) old) here) ∙ before

pub calls_over : (s : Spread) (given ns ks : List ℕ) (i : ℕ) (start old : Search) → length ns ≤ i → searched (all_of (drop i (rounds s given ns ks))) old ≡ searched (all_of (rounds s given ns ks)) start
    → old ≡ searched (all_of (rounds s given ns ks)) start
calls_over s given ns ks i start old le before = sym (ap (λ (rs : List (List ℕ)). searched (all_of rs) old) (rounds_over s given ns ks i le)) ∙ before

-- Calls that are left

pairs_left : (ns ks : List ℕ) (n : ℕ) → pairs (drop n ns) (drop n ks) ≡ drop n (pairs ns ks)
pairs_left ns ks zero = refl
pairs_left [] ks (suc n) = refl
pairs_left (x ∷ ns) [] (suc n) = none_beside (drop n ns)
  where
    none_beside : (xs : List ℕ) → pairs xs [] ≡ []
    none_beside [] = refl
    none_beside (x ∷ xs) = refl
pairs_left (x ∷ ns) (y ∷ ks) (suc n) = pairs_left ns ks n

rounds_left : (s : Spread) (given ns ks : List ℕ) (n : ℕ) → rounds s given (drop n ns) (drop n ks) ≡ drop n (rounds s given ns ks)
rounds_left spread.Same given ns ks n = sym (drop-map (λ m. m ∷ drop 1 given) n ns)
rounds_left spread.Own given ns ks n = pairs_left ns ks n

count_left : (s : Spread) (ns ks : List ℕ) (n : ℕ) → length ks ≡ beside_count s (length ns) → length (drop n ks) ≡ beside_count s (length (drop n ns))
count_left spread.Same ns ks n e = length-drop n ks ∙ omega (arith, e)
count_left spread.Own ns ks n e = length-drop n ks ∙ ap (λ (m : ℕ). m - n) e ∙ sym (length-drop n ns)

-- the calls behind those that have results, and the holes
pub left_over : (s : Spread) (given ns ks : List ℕ) (done holes : ℕ) (members beside : List ℕ) (start end : Search) → members ≡ drop holes (drop done ns) → beside ≡ drop holes (drop done ks)
    → (length beside ≡ beside_count s (length members) → end ≡ searched (all_of (rounds s given members beside)) start)
    → length ks ≡ beside_count s (length ns) → end ≡ searched (all_of (drop (done + holes) (rounds s given ns ks))) start
left_over s given ns ks done holes members beside start end members_are beside_are last size =
    let ns_are : members ≡ drop (done + holes) ns = members_are ∙ drop_twice holes done ns in
    let ks_are : beside ≡ drop (done + holes) ks = beside_are ∙ drop_twice holes done ks in
    let same : length beside ≡ beside_count s (length members) = ap length ks_are ∙ count_left s ns ks (done + holes) size ∙ ap (λ (xs : List ℕ). beside_count s (length xs)) (sym ns_are) in
    last same ∙ (λ j. searched (all_of (rounds s given (ns_are j) (ks_are j))) start) ∙ ap (λ (rs : List (List ℕ)). searched (all_of rs) start) (rounds_left s given ns ks (done + holes))

-- Terms

calls_below : (l : Text) (rs : List (List ℕ)) → locations_below (calls l rs) ≡ all_of rs
calls_below l [] = refl
calls_below l (r ∷ rs) = λ j. (locs_below r none ∙ append-nil r) j ++ calls_below l rs j

pub places_found : (ns : List ℕ) → locations_below (locs_then ns none) ≡ ns
places_found ns = locs_below ns none ∙ append-nil ns

-- what is behind the results and the holes
behind_found : (k : List Node) (s : Spread) (number members : ℕ) (own : List ℕ) (l : IsLaid k s number members own) (x : Laid) (holes n : ℕ) (start end : Search) → IsLaidOut k s number members own l x → n ≡ length l.results + holes
    → (length x.beside.now ≡ beside_count s (length x.members.now) → end ≡ searched (all_of (drop (length x.results.now + holes) (rounds s x.given.now x.members.now x.beside.now))) start)
    → end ≡ searched (locations_below (calls_behind k s number members own l n)) start
behind_found k s number members own l x holes n start end out size last =
    let beside : length x.beside.now ≡ beside_count s (length x.members.now) = ap length out.beside ∙ l.beside_size ∙ ap (beside_count s) (sym l.size ∙ sym (ap length out.members)) in
    let same : length x.results.now + holes ≡ n = ap (λ (r : List ℕ). length r + holes) out.results ∙ sym size in
    last beside ∙ (λ j. searched (all_of (drop (same j) (rounds s (out.given j) (out.members j) (out.beside j)))) start)
    ∙ sym (ap (λ (xs : List ℕ). searched xs start) (calls_below (called_label (piece_at (pieces k) number)) (drop n (rounds s l.given l.receivers l.beside))))

-- a group of calls, of which the first have their results
pub dealt_found : (k : List Node) (s : Spread) (own : List ℕ) (number members : ℕ) (t : Tree) (d : IsDealt k s own number members t) (x : Laid) (start middle end : Search) → IsLaidOut k s number members own d.laid x → middle ≡ searched x.results.now start
    → (length x.beside.now ≡ beside_count s (length x.members.now) → end ≡ searched (all_of (drop (length x.results.now + 0) (rounds s x.given.now x.members.now x.beside.now))) middle)
    → end ≡ searched (locations t) start
dealt_found k s own number members t d x start middle end out first last =
    let n : ℕ = length d.laid.results in
    let behind : Trees = calls_behind k s number members own d.laid n in
    behind_found k s number members own d.laid x 0 n middle end out (omega arith) last ∙ ap (searched (locations_below behind)) (first ∙ ap (λ (xs : List ℕ). searched xs start) out.results)
    ∙ sym (ap (λ (xs : List ℕ). searched xs start) (ap locations d.is ∙ locs_below d.laid.results behind) ∙ searched_both d.laid.results (locations_below behind) start)

-- the same round the next call
pub calling_before : (k : List Node) (s : Spread) (own : List ℕ) (number members : ℕ) (c : Context) (d : IsCalling k s own number members c) (x : Laid) → IsLaidOut k s number members own d.laid x → x.results.now ≡ c.before
calling_before k s own number members c d x out = out.results ∙ sym (ap (λ (y : Context). y.before) d.is)

pub calling_behind : (k : List Node) (s : Spread) (own : List ℕ) (number members : ℕ) (c : Context) (d : IsCalling k s own number members c) (x : Laid) (start end : Search) → IsLaidOut k s number members own d.laid x
    → (length x.beside.now ≡ beside_count s (length x.members.now) → end ≡ searched (all_of (drop (length x.results.now + 1) (rounds s x.given.now x.members.now x.beside.now))) start)
    → end ≡ searched (locations_below c.behind) start
calling_behind k s own number members c d x start end out last =
    behind_found k s number members own d.laid x 1 (suc (length d.laid.results)) start end out (omega arith) last
    ∙ sym (ap (λ (y : Context). searched (locations_below y.behind) start) d.is)
