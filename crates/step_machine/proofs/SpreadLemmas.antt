-- A call on a group, and a `scatter`, as they become groups of calls.
use Rattle.std.proofs.Common.{◌≡◌, ℕ, ◌+◌, ◌≤◌, true, false, List, [], ◌∷◌, ◌++◌, length, take, reverse, refl, sym, ap, subst, ◌∙◌, arith, length-append, append_assoc}
use Rattle.std.proofs.lemmas.List.{append-nil}
use Rattle.code_table.specs.declared.keys.KeyedLabel.{KeyedLabel}
use Rattle.asp_model.specs.Names.{Text}
use Rattle.asp_model.specs.Term.{Call, Group, Scatter, Tree, Trees, none, node}
use Rattle.asp_model.specs.Split.{Context, Splits, plug}
use Rattle.asp_model.specs.Store as store
use Rattle.asp_model.specs.Store.{CellShape, Store, cell}
use Rattle.asp_model.specs.Contraction.{broadcast, call_row, contract, is_future, scattered, sizes_compared}
use Rattle.asp_model.specs.Configuration.{ServiceShape}
use Rattle.code_table.specs.declared.code.Kind.TheVariants as kind
use Rattle.code_table.specs.declared.code.Node.{Node}
use Rattle.code_table.specs.Pieces.{Pieces, piece}
use Rattle.code_table.specs.Tables.{kind_head, pieces, pieces_of, piece_at}
use Rattle.code_laws.specs.Nodes.{in_place}
use Rattle.step_machine.specs.declared.frames.Spread.{Spread}
use Rattle.step_machine.specs.declared.frames.Spread.TheVariants as spread
use Rattle.step_machine.specs.Items.{contexts_of}
use Rattle.step_machine.specs.Calls.{IsDealt, IsLaid, beside_count, called_label, calls, pairs, rounds}
use Rattle.step_machine.specs.Sequences.{later}
use Rattle.step_machine.specs.Stacks.{IsStack, but_last, last, piece_from, top}
use Rattle.step_machine.specs.Standing.{View, Standing}
use Rattle.step_machine.specs.Services.{Below}
use Rattle.step_machine.specs.Rows.{AtNode, Contracts, is_simple, without_last}
use Rattle.step_machine.specs.Spreads.{IsAtCall, spread_view}
use Rattle.step_machine.proofs.StackLemmas.{last_size, last_seam, but_last_seam, stack_cut}
use Rattle.step_machine.proofs.RoundLemmas.{broadcast_calls, scattered_calls}
use Rattle.step_machine.proofs.CallLemmas.{two_parts}
use Rattle.step_machine.proofs.RowLemmas.{Found, found, one_strict, simple_from, simple_splits}

-- the calls stand where the redex stood
stand_spread : (k : List Node) (v : View) (vs : List ServiceShape) (s : Spread) (number n : ℕ) (ns os : List ℕ) (b : Below k (without_last n v) vs) → n ≤ length v.operands → n ≡ in_place (piece_at (pieces k) number) → length os ≡ beside_count s (length ns)
    → Standing k (spread_view s number n ns os v) (plug (contexts_of b.items) (node Group (calls (called_label (piece_at (pieces k) number)) (rounds s (last n v.operands) ns os)))) vs
stand_spread k v vs s number n ns os b enough whole beside =
    let given : List ℕ = last n v.operands in
    let base : List ℕ = but_last n v.operands in
    let own : List ℕ = given ++ ns ++ os in
    let done : ℕ = n + length ns + length os in
    let all : List ℕ = v.operands ++ ns ++ os in
    let low : List ℕ = take (top (reverse v.frames)) v.env in
    let given_size : length given ≡ n = last_size n v.operands enough in
    let size0 : length own ≡ length (given ++ ns) + length os = length-append (given ++ ns) os in
    let size1 : length (given ++ ns) ≡ length given + length ns = length-append given ns in
    let size : length own ≡ done = omega (arith, given_size, size0, size1) in
    let parts : all ≡ base ++ own = ap (λ (l : List ℕ). l ++ ns ++ os) (two_parts n v.operands) ∙ ap (λ (l : List ℕ). l ++ os) (append_assoc base given ns) ∙ append_assoc base (given ++ ns) os in
    let own_is : last done all ≡ own = (λ i. last (sym size i) (parts i)) ∙ last_seam base own in
    let left : but_last done all ≡ base = (λ i. but_last (sym size i) (parts i)) ∙ but_last_seam base own in
    let inner : Tree = node Group (calls (called_label (piece_at (pieces k) number)) (rounds s given ns os)) in
    let laid : IsLaid k s number (length ns) own = record { given = given; receivers = ns; beside = os; results = []; given_size = given_size ∙ whole; size = refl; beside_size = beside; are = sym (append-nil own) } in
    let dealt : IsDealt k s own number (length ns) inner = record { laid = laid; most = omega arith; is = refl } in
    let longer0 : length all ≡ length (v.operands ++ ns) + length os = length-append (v.operands ++ ns) os in
    let longer1 : length (v.operands ++ ns) ≡ length v.operands + length ns = length-append v.operands ns in
    record {
      items = b.items;
      inner = inner;
      low = omega arith;
      enough = omega (arith, longer0, longer1, enough);
      focus = subst (λ (l : List ℕ). IsDealt k s l number (length ns) inner) (sym own_is) dealt;
      stack = subst (λ (l : List ℕ). IsStack k (reverse v.frames) low l b.items) (sym left) (stack_cut k (reverse v.frames) v.env base b.items b.stack);
      futures = b.futures;
      term = refl;
      suspended = b.suspended;
    }

-- a node that calls
pub at_call : (k : List Node) (v : View) (number from n : ℕ) (x : Node) (l : KeyedLabel) (t : Tree) (vs : List ServiceShape) → Standing k v t vs → AtNode k v number from n x → x.kind ≡ kind.Call l → IsAtCall k v number n l.label.text t vs
at_call k v number from n x l t vs h at is =
    let f : Found k v number from n t vs = found k v number from n t vs h at.focus at.full in
    let simple : is_simple x.kind ≡ true = ap is_simple is in
    let head_is : kind_head x.kind ≡ Call l.label.text = ap kind_head is in
    let us : Pieces = pieces_of (pieces k) x.children.items in
    let piece0 : piece_at (pieces k) number ≡ piece (Call l.label.text) us = at.node ∙ simple_from 0 (pieces k) x.kind us simple ∙ ap (λ hd. piece hd us) head_is in
    let piece1 : piece_from k number from ≡ piece (Call l.label.text) us = ap (later from) at.node ∙ simple_from from (pieces k) x.kind us simple ∙ ap (λ hd. piece hd us) head_is in
    record {
      below = f.below;
      low = f.low;
      enough = f.enough;
      label = ap called_label piece0;
      whole = at.full ∙ ap in_place (piece1 ∙ sym piece0);
      splits = simple_splits k v number from n x t vs f at.full at.node simple ∙ ap (λ hd. Splits (contexts_of f.below.items) (record { head = hd; places = last n v.operands; behind = none })) head_is;
    }

-- a call on a group becomes a call of each member
pub group_call : (k : List Node) (v : View) (number n i : ℕ) (ks ns : List ℕ) (l : Text) (t : Tree) (vs : List ServiceShape) (s : Store) → IsAtCall k v number n l t vs → last n v.operands ≡ i ∷ ks → cell s i ≡ store.Group ns
    → Contracts k t vs s s [] (spread_view spread.Same number n ns [] v)
group_call k v number n i ks ns l t vs s a operands_are cell_is =
    let no_future : is_future (cell s i) ≡ false = ap is_future cell_is in
    let trees_are : calls (called_label (piece_at (pieces k) number)) (rounds spread.Same (last n v.operands) ns []) ≡ broadcast l ns ks =
    (λ j. calls (a.label j) (rounds spread.Same (operands_are j) ns [])) ∙ sym (broadcast_calls l ns ks) in
    record {
      contexts = contexts_of a.below.items;
      redex = record { head = Call l; places = i ∷ ks; behind = none };
      becomes = node Group (broadcast l ns ks);
      splits = a.splits ∙ ap (λ (ops : List ℕ). Splits (contexts_of a.below.items) (record { head = Call l; places = ops; behind = none })) operands_are;
      is = one_strict s i (call_row s l i ks (cell s i)) no_future ∙ ap (call_row s l i ks) cell_is;
      after = subst (λ (ts : Trees). Standing k (spread_view spread.Same number n ns [] v) (plug (contexts_of a.below.items) (node Group ts)) vs) trees_are (stand_spread k v vs spread.Same number n ns [] a.below a.enough a.whole refl);
    }

-- a `scatter` of two groups of one size becomes a call of each member with a member of the other
pub scatters : (k : List Node) (v : View) (number from n : ℕ) (ns ks : List ℕ) (x : Node) (q : KeyedLabel) (t : Tree) (vs : List ServiceShape) (s : Store) → Standing k v t vs → AtNode k v number from n x → x.kind ≡ kind.Scatter q
    → length ns ≡ length ks → contract s (record { head = Scatter q.label.text; places = last n v.operands; behind = none }) ≡ sizes_compared s (scattered q.label.text ns ks)
    → Contracts k t vs s s [] (spread_view spread.Own number n ns ks v)
scatters k v number from n ns ks x q t vs s h at is same row_is =
    let l : Text = q.label.text in
    let simple : is_simple x.kind ≡ true = ap is_simple is in
    let head_is : kind_head x.kind ≡ Scatter l = ap kind_head is in
    let f : Found k v number from n t vs = found k v number from n t vs h at.focus at.full in
    let us : Pieces = pieces_of (pieces k) x.children.items in
    let piece0 : piece_at (pieces k) number ≡ piece (Scatter l) us = at.node ∙ simple_from 0 (pieces k) x.kind us simple ∙ ap (λ hd. piece hd us) head_is in
    let piece1 : piece_from k number from ≡ piece (Scatter l) us = ap (later from) at.node ∙ simple_from from (pieces k) x.kind us simple ∙ ap (λ hd. piece hd us) head_is in
    let label : called_label (piece_at (pieces k) number) ≡ l = ap called_label piece0 in
    let whole : n ≡ in_place (piece_at (pieces k) number) = at.full ∙ ap in_place (piece1 ∙ sym piece0) in
    let contexts : List Context = contexts_of f.below.items in
    record {
      contexts = contexts;
      redex = record { head = Scatter l; places = last n v.operands; behind = none };
      becomes = node Group (calls l (pairs ns ks));
      splits = simple_splits k v number from n x t vs f at.full at.node simple ∙ ap (λ hd. Splits contexts (record { head = hd; places = last n v.operands; behind = none })) head_is;
      is = row_is ∙ ap (sizes_compared s) (scattered_calls l ns ks same);
      after = subst (λ (w : Text). Standing k (spread_view spread.Own number n ns ks v) (plug contexts (node Group (calls w (pairs ns ks)))) vs) label (stand_spread k v vs spread.Own number n ns ks f.below f.enough whole (sym same));
    }
