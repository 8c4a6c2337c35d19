-- Where an activity stands, from where its machine stands.
use Rattle.std.proofs.Common.{◌≡◌, ℕ, zero, suc, true, List, [], ◌∷◌, Option, Some, None, length, reverse, drop, refl, sym, ap, subst, ◌∙◌, arith}
use Rattle.std.proofs.lemmas.Bool.{false≢true}
use Rattle.std.specs.Borrow.{Bor}
use Rattle.std.specs.Option.{option_map}
use Rattle.asp_model.specs.Names.{Text}
use Rattle.asp_model.specs.declared.word.Label.{Label}
use Rattle.asp_model.specs.Term.{Call, Group, If, Let, Repeat, Steps, more, none}
use Rattle.asp_model.specs.Split.{Splits}
use Rattle.asp_model.specs.Configuration as model
use Rattle.code_table.specs.declared.code.Kind.{Kind}
use Rattle.code_table.specs.declared.code.Kind.TheVariants as kind
use Rattle.code_table.specs.declared.code.Node.{Node}
use Rattle.code_table.specs.Fitting.{Runs}
use Rattle.code_table.specs.Pieces.{Bodies, Piece, Pieces, also, nothing, object, piece}
use Rattle.code_table.specs.Tables.{bodies_of, kind_head, kind_piece, labels_of, pieces, pieces_of, piece_at, text_of}
use Rattle.code_laws.specs.Nodes.{after, in_place, nth, operand_count, redex_in}
use Rattle.code_laws.proofs.BranchLemmas.{let_enters, repetition_goes_on, sequence_goes_on}
use Rattle.step_machine.specs.Sequences.{later}
use Rattle.step_machine.specs.Items.{contexts_of}
use Rattle.step_machine.specs.Calls.{called_label}
use Rattle.step_machine.specs.Spreads.{IsAtCall, IsAtResults}
use Rattle.step_machine.specs.Views.{all_done}
use Rattle.step_machine.specs.declared.frames.Spread.{Spread}
use Rattle.step_machine.proofs.CallLemmas.{at_calls, called, results}
use Rattle.step_machine.specs.Rows.{AtNode, IsAtIf, IsAtRedex, is_simple}
use Rattle.step_machine.specs.Stacks.{last, piece_from}
use Rattle.step_machine.specs.Standing.{View, Standing}
use Rattle.step_machine.specs.declared.frames.Focus.TheVariants as focus
use Rattle.step_machine.proofs.StackLemmas.{last_none, last_size}
use Rattle.step_machine.proofs.RowLemmas.{AtAsked, Found, asked, found, let_from, object_from, sequence_from, value_row}
use Rattle.step_rows.specs.declared.redex.Redex.{Redex}
use Rattle.step_rows.specs.declared.redex.Redex.TheVariants as redex
use Rattle.step_rows.specs.Decisions.{value_redex}
use Rattle.step_rows.specs.Redexes.{IsFree, IsRedex}
use Rattle.activity_step.specs.Shown.{IsShown, goes}
use Rattle.activity_step.specs.Standings.{IsAt}
use Rattle.activity_step.proofs.TermLemmas.{choice_at, node_is, simple_size}

-- Redexes that contract, whatever stands at their places

one_place : (ns : List ℕ) → length ns ≡ 1 → (i : ℕ) × (ns ≡ i ∷ [])
one_place [] e = absurd (omega (arith, e))
one_place (i ∷ []) e = (i, refl)
one_place (i ∷ k ∷ ns) e = absurd (omega (arith, e))

-- an activity at a node whose terms that are reduced in place are done
record Here : Type 0 where
  code : List Node
  view : View
  number : ℕ
  from : ℕ
  done : ℕ
  node : Node
  activity : model.Activity
  standing : Standing code view activity.term (reverse activity.services)
  at : AtNode code view number from done node

abbrev operands : Here → List ℕ
operands w = last w.done w.view.operands

abbrev piece_here : Here → Piece
piece_here w = piece_from w.code w.number w.from

abbrev places : Here → List ℕ
places w = drop w.view.base w.view.env

found_here : (w : Here) → Found w.code w.view w.number w.from w.done w.activity.term (reverse w.activity.services)
found_here w = found w.code w.view w.number w.from w.done w.activity.term (reverse w.activity.services) w.standing w.at.focus w.at.full

node_here : (w : Here) (q : Kind) → w.node.kind ≡ q → piece_at (pieces w.code) w.number ≡ kind_piece (pieces w.code) q (pieces_of (pieces w.code) w.node.children.items)
node_here w q is = node_is w.code w.view w.number w.from w.done w.node q w.at is

-- all its terms are places
value_at : (w : Here) (q : Kind) → w.node.kind ≡ q → is_simple q ≡ true → (r : Redex) → IsRedex (value_redex (kind_head q) (operands w)) r → IsAt w.activity r
value_at w q is simple r shown =
    let p : Kind = w.node.kind in
    let row : IsAtRedex w.code w.view w.activity.term (reverse w.activity.services) w.done (value_redex (kind_head p) (operands w)) =
    value_row w.code w.view w.number w.from w.done w.node w.activity.term (reverse w.activity.services) w.standing w.at.focus w.at.full w.at.node (ap is_simple is ∙ simple) in
    record { contexts = row.contexts; redex = value_redex (kind_head p) (operands w); splits = row.splits; is = subst (λ (p : Kind). IsRedex (value_redex (kind_head p) (operands w)) r) (sym is) shown }

no_operand : (w : Here) (q : Kind) → w.node.kind ≡ q → is_simple q ≡ true → operand_count q (length w.node.children.items) ≡ 0 → operands w ≡ []
no_operand w q is simple zero_many =
    let size : w.done ≡ 0 = simple_size w.code w.view w.number w.from w.done w.node w.at (ap is_simple is ∙ simple) ∙ ap (λ (p : Kind). operand_count p (length w.node.children.items)) is ∙ zero_many in
    ap (λ (i : ℕ). last i w.view.operands) size ∙ last_none w.view.operands

-- at a piece that contracts
free_at : (w : Here) (f : Found w.code w.view w.number w.from w.done w.activity.term (reverse w.activity.services)) (p : Piece) (ops : List ℕ) → piece_here w ≡ p → operands w ≡ ops → IsFree (redex_in f.names f.scope (places w) p ops) → IsAt w.activity redex.Goes
free_at w f p ops piece_is operands_are free = record {
  contexts = contexts_of f.below.items;
  redex = redex_in f.names f.scope (places w) p ops;
  splits = f.splits ∙ (λ i. Splits (contexts_of f.below.items) (redex_in f.names f.scope (places w) (piece_is i) (operands_are i)));
  is = free;
}

one_operand : (w : Here) (f : Found w.code w.view w.number w.from w.done w.activity.term (reverse w.activity.services)) (p : Piece) → piece_here w ≡ p → in_place p ≡ 1 → (i : ℕ) × (operands w ≡ i ∷ [])
one_operand w f p is one = one_place (operands w) (last_size w.done w.view.operands f.enough ∙ w.at.full ∙ ap in_place is ∙ one)

make_at : (w : Here) (ls : List Text) (us : Pieces) (ms : Bodies) → piece_at (pieces w.code) w.number ≡ object ls us ms → IsAt w.activity redex.Goes
make_at w ls us ms is =
    let piece_is : piece_here w ≡ object ls us ms = ap (later w.from) is ∙ object_from w.from ls us ms in
    free_at w (found_here w) (object ls us ms) (operands w) piece_is refl (record { operands = refl; members = λ s. refl; goes = λ s. (_, _, _, refl) })

let_at : (w : Here) (y : Text) (us : Pieces) → piece_at (pieces w.code) w.number ≡ piece (Let y) us → IsAt w.activity redex.Goes
let_at w y us is =
    let f : Found w.code w.view w.number w.from w.done w.activity.term (reverse w.activity.services) = found_here w in
    let p : Piece = piece (Let y) us in
    let piece_is : piece_here w ≡ p = ap (later w.from) is ∙ let_from w.from y us in
    let runs : Runs f.names f.scope (places w) p = subst (Runs f.names f.scope (places w)) piece_is f.runs in
    let one : (i : ℕ) × (operands w ≡ i ∷ []) = one_operand w f p piece_is refl in
    free_at w f p (one.0 ∷ []) piece_is one.1 (record { operands = refl; members = λ s. refl; goes = λ s. (_, _, _, let_enters f.names f.scope (places w) y us one.0 s runs) })

sequence_at : (w : Here) (us : Pieces) → piece_here w ≡ piece Steps us → IsAt w.activity redex.Goes
sequence_at w us piece_is =
    let f : Found w.code w.view w.number w.from w.done w.activity.term (reverse w.activity.services) = found_here w in
    let p : Piece = piece Steps us in
    let runs : Runs f.names f.scope (places w) p = subst (Runs f.names f.scope (places w)) piece_is f.runs in
    let one : (i : ℕ) × (operands w ≡ i ∷ []) = one_operand w f p piece_is refl in
    free_at w f p (one.0 ∷ []) piece_is one.1 (record { operands = refl; members = λ s. refl; goes = λ s. (_, _, _, sequence_goes_on f.names f.scope (places w) us one.0 s runs) })

repetition_at : (w : Here) (us : Pieces) → piece_here w ≡ piece Repeat us → IsAt w.activity redex.Goes
repetition_at w us piece_is =
    let f : Found w.code w.view w.number w.from w.done w.activity.term (reverse w.activity.services) = found_here w in
    let p : Piece = piece Repeat us in
    let runs : Runs f.names f.scope (places w) p = subst (Runs f.names f.scope (places w)) piece_is f.runs in
    let none_done : w.done ≡ 0 = w.at.full ∙ ap in_place piece_is in
    let operands_are : operands w ≡ [] = ap (λ (i : ℕ). last i w.view.operands) none_done ∙ last_none w.view.operands in
    free_at w f p [] piece_is operands_are (record { operands = refl; members = λ s. refl; goes = λ s. (_, _, _, repetition_goes_on f.names f.scope (places w) us s runs) })

-- a repetition, or the sequence that it became
repeat_at : (from : ℕ) (w : Here) (us : Pieces) → w.from ≡ from → piece_at (pieces w.code) w.number ≡ piece Repeat us → IsAt w.activity redex.Goes
repeat_at zero w us e is = repetition_at w us (ap (λ (i : ℕ). later i (piece_at (pieces w.code) w.number)) e ∙ is)
repeat_at (suc m) w us e is = sequence_at w (also (nth 0 us) (also (piece Repeat us) nothing)) (ap (λ (i : ℕ). later i (piece_at (pieces w.code) w.number)) e ∙ ap (later (suc m)) is)

goes_at : (w : Here) (q : Kind) → w.node.kind ≡ q → goes q ≡ true → IsAt w.activity redex.Goes
goes_at w (kind.Number z) is e =
    value_at w (kind.Number z) is refl redex.Goes (subst (λ (ns : List ℕ). IsFree (value_redex (kind_head (kind.Number z)) ns)) (sym (no_operand w (kind.Number z) is refl refl)) (record { operands = refl; members = λ s. refl; goes = λ s. (_, _, _, refl) }))
goes_at w (kind.Echo y) is e =
    value_at w (kind.Echo y) is refl redex.Goes (subst (λ (ns : List ℕ). IsFree (value_redex (kind_head (kind.Echo y)) ns)) (sym (no_operand w (kind.Echo y) is refl refl)) (record { operands = refl; members = λ s. refl; goes = λ s. (_, _, _, refl) }))
goes_at w kind.Group is e = value_at w kind.Group is refl redex.Goes (record { operands = refl; members = λ s. refl; goes = λ s. (_, _, _, refl) })
goes_at w (kind.Make c) is e = make_at w (labels_of c.value) (pieces_of (pieces w.code) w.node.children.items) (bodies_of (pieces w.code) c.value.methods.items) (node_here w (kind.Make c) is)
goes_at w (kind.Let y) is e = let_at w y (pieces_of (pieces w.code) w.node.children.items) (node_here w (kind.Let y) is)
goes_at w kind.Steps is e =
    let us : Pieces = pieces_of (pieces w.code) w.node.children.items in
    sequence_at w (after w.from us) (ap (later w.from) (node_here w kind.Steps is) ∙ sequence_from w.from us)
goes_at w kind.Repeat is e = repeat_at w.from w (pieces_of (pieces w.code) w.node.children.items) refl (node_here w kind.Repeat is)
goes_at w q is e = absurd (false≢true e)

-- the condition is a place, and both branches stand behind it
choice_shown : (w : Here) (i : ℕ) → w.node.kind ≡ kind.If → operands w ≡ i ∷ [] → IsAt w.activity (redex.If i)
choice_shown w i is operands_are =
    let c : IsAtIf w.code w.view w.activity.term (reverse w.activity.services) w.done = choice_at w.code w.view w.number w.from w.done w.node w.activity.term (reverse w.activity.services) w.standing w.at is in
    record {
      contexts = c.at.contexts;
      redex = record { head = If; places = operands w; behind = more c.first (more c.second none) };
      splits = c.at.splits;
      is = (c.first, c.second, ap (λ (ns : List ℕ). record { head = If; places = ns; behind = more c.first (more c.second none) }) operands_are);
    }

shown_here : (w : Here) (r : Redex) → IsShown w.node.kind (operands w) r → IsAt w.activity r
shown_here w redex.Goes s = goes_at w w.node.kind refl s
shown_here w (redex.If i) s = choice_shown w i s.0 s.1
shown_here w (redex.Get i l) s = value_at w w.node.kind refl s.0 (redex.Get i l) s.1
shown_here w (redex.Put i l k) s = value_at w w.node.kind refl s.0 (redex.Put i l k) s.1
shown_here w (redex.Call i l ks) s = value_at w w.node.kind refl s.0 (redex.Call i l ks) s.1
shown_here w (redex.Clone i) s = value_at w w.node.kind refl s.0 (redex.Clone i) s.1
shown_here w (redex.Active i l) s = value_at w w.node.kind refl s.0 (redex.Active i l) s.1
shown_here w (redex.Serve ls) s = value_at w w.node.kind refl s.0 (redex.Serve ls) s.1
shown_here w (redex.Operate x i k) s = value_at w w.node.kind refl s.0 (redex.Operate x i k) s.1
shown_here w (redex.Print i) s = value_at w w.node.kind refl s.0 (redex.Print i) s.1
shown_here w (redex.Scatter i l k) s = value_at w w.node.kind refl s.0 (redex.Scatter i l k) s.1
shown_here w (redex.Size i) s = value_at w w.node.kind refl s.0 (redex.Size i) s.1
shown_here w (redex.Member i k) s = value_at w w.node.kind refl s.0 (redex.Member i k) s.1
shown_here w (redex.WaitAll i) s = value_at w w.node.kind refl s.0 (redex.WaitAll i) s.1
shown_here w (redex.Pending ls) s = value_at w w.node.kind refl s.0 (redex.Pending ls) s.1

-- what a node shows is where an activity stands
pub shown_at : (k : List Node) (v : View) (number from n : ℕ) (x : Node) (a : model.Activity) (r : Redex) → Standing k v a.term (reverse a.services) → AtNode k v number from n x → IsShown x.kind (last n v.operands) r → IsAt a r
shown_at k v number from n x a r h at s = shown_here (record { code = k; view = v; number = number; from = from; done = n; node = x; activity = a; standing = h; at = at }) r s

-- the call that a service begins with
pub asked_at : (k : List Node) (v : View) (n i : ℕ) (ks : Bor (List ℕ)) (l : Bor Label) (a : model.Activity) → Standing k v a.term (reverse a.services) → v.focus ≡ focus.Asked n → v.asked ≡ l.now.text → last n v.operands ≡ i ∷ ks.now → IsAt a (redex.Call i l ks)
asked_at k v n i ks l a h at label operands_are =
    let x : AtAsked k v n a.term (reverse a.services) = asked k v n a.term (reverse a.services) h at in
    record {
      contexts = contexts_of x.below.items;
      redex = value_redex (Call v.asked) (last n v.operands);
      splits = x.splits;
      is = λ j. value_redex (Call (label j)) (operands_are j);
    }

-- the call of a member
pub called_at : (k : List Node) (v : View) (number n i : ℕ) (ks : Bor (List ℕ)) (l : Bor Label) (a : model.Activity) → Standing k v a.term (reverse a.services) → v.focus ≡ focus.Called number n → called_label (piece_at (pieces k) number) ≡ l.now.text
    → last n v.operands ≡ i ∷ ks.now → IsAt a (redex.Call i l ks)
called_at k v number n i ks l a h at label operands_are =
    let x : IsAtCall k v number n (called_label (piece_at (pieces k) number)) a.term (reverse a.services) = called k v number n a.term (reverse a.services) h at in
    record {
      contexts = contexts_of x.below.items;
      redex = value_redex (Call (called_label (piece_at (pieces k) number))) (last n v.operands);
      splits = x.splits;
      is = λ j. value_redex (Call (label j)) (operands_are j);
    }

-- a group of calls that all have their results
pub results_at : (k : List Node) (v : View) (s : Spread) (number members done : ℕ) (a : model.Activity) → Standing k v a.term (reverse a.services) → v.focus ≡ focus.Calls s number members done → done ≡ all_done k s number members → IsAt a redex.Goes
results_at k v s number members done a h at full =
    let x : IsAtResults k v members done a.term (reverse a.services) = results k v s number members done a.term (reverse a.services) (at_calls k v s number members done a.term (reverse a.services) h at) full in
    record {
      contexts = contexts_of x.below.items;
      redex = value_redex Group (last members v.operands);
      splits = x.splits;
      is = record { operands = refl; members = λ s. refl; goes = λ s. (_, _, _, refl) };
    }

-- What a node shows

pub active_shown : (l : Option Label) (r : Option (Bor Label)) → option_map (λ (x : Bor Label). x.now) r ≡ l → option_map text_of l ≡ option_map (λ (x : Bor Label). x.now.text) r
active_shown l None e = ap (option_map text_of) (sym e)
active_shown l (Some x) e = ap (option_map text_of) (sym e)
