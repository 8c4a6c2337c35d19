-- Groups of calls, and their terms.
use Rattle.std.proofs.Common.{◌≡◌, ℕ, suc, ◌+◌, ◌<◌, ◌≤◌, List, [], ◌∷◌, ◌++◌, length, map, drop, refl, sym, ap, subst, ◌∙◌, arith, append_assoc}
use Rattle.asp_model.specs.Names.{Text}
use Rattle.asp_model.specs.Term.{Call, Group, Hole, Tree, Trees, leaf, loc, locs_then, more, node, none, trees}
use Rattle.asp_model.specs.Split.{Context}
use Rattle.code_table.specs.declared.code.Node.{Node}
use Rattle.code_table.specs.Tables.{piece_at, pieces}
use Rattle.code_laws.specs.Nodes.{in_place}
use Rattle.step_machine.specs.declared.calls.Round.{Round}
use Rattle.step_machine.specs.declared.frames.Spread.{Spread}
use Rattle.step_machine.specs.Calls.{IsCalling, IsDealt, IsLaid, IsRoundAt, beside_count, called_label, calls, round_in, rounds}
use Rattle.step_machine.specs.Stacks.{last}
use Rattle.step_machine.proofs.RoundLemmas.{length-own, next_round, round, round_found, rounds_over}
use Rattle.step_machine.proofs.StackLemmas.{last_seam}
use Rattle.code_reading.specs.Groups.{call_trees}
use Rattle.code_reading.specs.Shown.{hole_tree}
use Rattle.code_reading.proofs.TermLemmas.{locs_alone}

-- Terms

pub calls_are : (l : Text) (rs : List (List ℕ)) → trees (call_trees l rs) ≡ calls l rs
calls_are l [] = refl
calls_are l (r ∷ rs) = ap (more (node (Call l) (locs_then r none))) (calls_are l rs)

pub locs_before : (ns : List ℕ) (us : List Tree) → trees (map loc ns ++ us) ≡ locs_then ns (trees us)
locs_before [] us = refl
locs_before (n ∷ ns) us = ap (more (loc n)) (locs_before ns us)

-- Operands

pub results_are : (k : List Node) (s : Spread) (number members : ℕ) (own : List ℕ) (l : IsLaid k s number members own) (n : ℕ) → length own ≡ in_place (piece_at (pieces k) number) + members + beside_count s members + n → last n own ≡ l.results
results_are k s number members own l n size =
    let sum : length own ≡ length l.given + length l.receivers + length l.beside + length l.results = ap length l.are ∙ length-own l.given l.receivers l.beside l.results in
    let given : length l.given ≡ in_place (piece_at (pieces k) number) = l.given_size in
    let members_are : length l.receivers ≡ members = l.size in
    let beside : length l.beside ≡ beside_count s members = l.beside_size in
    let same : n ≡ length l.results = omega (arith, size, sum, given, members_are, beside) in
    (λ i. last (same i) (l.are i)) ∙ last_seam (l.given ++ l.receivers ++ l.beside) l.results

-- the tree of the call behind so many others
pub call_is : (k : List Node) (s : Spread) (number members : ℕ) (own : List ℕ) (l : IsLaid k s number members own) (i : ℕ) (r : Round) (given : ℕ) (label : Text) (places : List ℕ) → length l.given ≡ given → i < members → IsRoundAt s 0 given members i r → places ≡ round_in r own
    → call_trees label (drop i (rounds s l.given l.receivers l.beside)) ≡ node (Call label) (trees (map loc places)) ∷ call_trees label (drop (suc i) (rounds s l.given l.receivers l.beside))
call_is k s number members own l i r given label places given_is lt at places_are =
    let less : i < length l.receivers = subst (λ (n : ℕ). i < n) (sym l.size) lt in
    let beside : length l.beside ≡ beside_count s (length l.receivers) = l.beside_size ∙ ap (beside_count s) (sym l.size) in
    let at0 : IsRoundAt s 0 (length l.given) (length l.receivers) i r = subst (λ (p : ℕ × ℕ). IsRoundAt s 0 p.0 p.1 i r) (λ j. (sym given_is j, sym l.size j)) at in
    let here : places ≡ round s l.given l.receivers l.beside i = places_are ∙ ap (round_in r) l.are ∙ round_found s [] l.given l.receivers l.beside l.results i r less beside at0 in
    ap (call_trees label) (next_round s l.given l.receivers l.beside i less beside)
    ∙ ap (λ (ts : Trees). node (Call label) ts ∷ call_trees label (drop (suc i) (rounds s l.given l.receivers l.beside))) (ap (λ (ns : List ℕ). locs_then ns none) (sym here) ∙ sym (locs_alone places))

-- no call is left
pub calls_over : (k : List Node) (s : Spread) (number members : ℕ) (own : List ℕ) (l : IsLaid k s number members own) (i : ℕ) (label : Text) → members ≤ i → (let over : List Tree = [] in call_trees label (drop i (rounds s l.given l.receivers l.beside)) ≡ over)
calls_over k s number members own l i label le = ap (call_trees label) (rounds_over s l.given l.receivers l.beside i (subst (λ (n : ℕ). n ≤ i) (sym l.size) le))

-- Groups

pub dealt_is : (k : List Node) (s : Spread) (own : List ℕ) (number members : ℕ) (t : Tree) (label : Text) (us : List Tree) (d : IsDealt k s own number members t) → called_label (piece_at (pieces k) number) ≡ label
    → us ≡ map loc d.laid.results ++ call_trees label (drop (length d.laid.results) (rounds s d.laid.given d.laid.receivers d.laid.beside)) → node Group (trees us) ≡ t
dealt_is k s own number members t label us d label_is us_are =
    let left : List (List ℕ) = drop (length d.laid.results) (rounds s d.laid.given d.laid.receivers d.laid.beside) in
    ap (λ (ts : List Tree). node Group (trees ts)) us_are
    ∙ ap (node Group) (locs_before d.laid.results (call_trees label left) ∙ ap (locs_then d.laid.results) (calls_are label left ∙ ap (λ (l : Text). calls l left) (sym label_is)))
    ∙ sym d.is

pub calling_is : (k : List Node) (s : Spread) (own : List ℕ) (number members : ℕ) (c : Context) (label : Text) (us : List Tree) (d : IsCalling k s own number members c) → called_label (piece_at (pieces k) number) ≡ label
    → us ≡ (map loc d.laid.results ++ leaf Hole ∷ []) ++ call_trees label (drop (suc (length d.laid.results)) (rounds s d.laid.given d.laid.receivers d.laid.beside)) → node Group (trees us) ≡ hole_tree c
calling_is k s own number members c label us d label_is us_are =
    let left : List (List ℕ) = drop (suc (length d.laid.results)) (rounds s d.laid.given d.laid.receivers d.laid.beside) in
    ap (λ (ts : List Tree). node Group (trees ts)) (us_are ∙ append_assoc (map loc d.laid.results) (leaf Hole ∷ []) (call_trees label left))
    ∙ ap (node Group) (locs_before d.laid.results (leaf Hole ∷ call_trees label left) ∙ ap (λ (ts : Trees). locs_then d.laid.results (more (leaf Hole) ts)) (calls_are label left ∙ ap (λ (l : Text). calls l left) (sym label_is)))
    ∙ sym (ap hole_tree d.is)
