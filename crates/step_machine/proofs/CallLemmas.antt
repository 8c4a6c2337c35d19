-- Machines at groups of calls.
use Rattle.std.proofs.Common.{◌≡◌, ℕ, suc, ◌+◌, ◌-◌, ◌<◌, ◌≤◌, List, [], ◌∷◌, ◌++◌, length, take, drop, reverse, inl, refl, sym, ap, subst, ◌∙◌, arith, length-append, append_assoc}
use Rattle.std.proofs.lemmas.List.{reverse-append, take_all, length-take-le, take-append-drop}
use Rattle.asp_model.specs.Names.{Text}
use Rattle.asp_model.specs.Term.{Call, Group, Tree, Trees, none, more, node, loc, locs_then, child_count}
use Rattle.asp_model.specs.Split.{Context, Redex, Splits, split, plug, plugged}
use Rattle.asp_model.specs.Configuration.{ServiceShape}
use Rattle.code_table.specs.declared.code.Node.{Node}
use Rattle.code_table.specs.Tables.{pieces, piece_at}
use Rattle.code_laws.specs.Nodes.{in_place}
use Rattle.code_laws.proofs.OpenLemmas.{count_locs}
use Rattle.code_laws.proofs.SplitLemmas.{locs_snoc, splits_one_way}
use Rattle.step_machine.specs.declared.frames.Frame.{Frame}
use Rattle.step_machine.specs.declared.frames.Focus.TheVariants as focus
use Rattle.step_machine.specs.declared.frames.Form.{Form}
use Rattle.step_machine.specs.declared.frames.Form.TheVariants as form
use Rattle.step_machine.specs.declared.frames.Spread.{Spread}
use Rattle.step_machine.specs.Items.{Item, Waits, Suspends, contexts_of, services_of, futures_of}
use Rattle.step_machine.specs.Calls.{IsCalled, IsCalling, IsDealt, IsLaid, beside_count, called_label, calls, calls_behind}
use Rattle.step_machine.specs.Stacks.{last, but_last, IsItem, IsWithin, IsStack}
use Rattle.step_machine.specs.Standing.{View, Standing}
use Rattle.step_machine.specs.Views.{IsOpen, all_done, dealt_view, onward}
use Rattle.step_machine.specs.Services.{Below, IsAtSome}
use Rattle.step_machine.specs.Rows.{IsAtRedex, without_last}
use Rattle.step_machine.specs.Spreads.{IsAtCall, IsAtResults}
use Rattle.step_machine.proofs.StackLemmas.{but_last_none, last_size, last_more, but_last_more, last_seam, but_last_seam}
use Rattle.step_machine.proofs.RoundLemmas.{length-own, next_round, round, rounds_over}
use Rattle.step_machine.proofs.MoveLemmas.{at_focus, are_contexts, closed}
use Rattle.step_machine.proofs.RowLemmas.{stand_place}

-- The result of a call

-- the innermost frame, where it waits for a call
record PoppedCall (k : List Node) (s : Spread) (f : Frame) (fs : List Frame) (env operands : List ℕ) (items : List Item) : Type 0 where
  context : Context
  others : List Item
  are : items ≡ Waits context ∷ others
  within : IsWithin f env operands
  calling : IsCalling k s (last f.done operands) f.node f.from context
  below : IsStack k fs (take f.height env) (but_last f.done operands) others

popped_call : (k : List Node) (s : Spread) (f : Frame) (fs : List Frame) (env operands : List ℕ) (xs : List Item) → f.form ≡ form.Calls s → IsStack k (f ∷ fs) env operands xs → PoppedCall k s f fs env operands xs
popped_call k s f fs env operands [] e h = absurd h
popped_call k s f fs env operands (Suspends g ∷ xs) e h =
    absurd (subst (λ (x : Form). IsItem k (drop f.base (take f.height env)) (last f.done operands) x f.node f.from (Suspends g)) e h.1)
popped_call k s f fs env operands (Waits c ∷ xs) e h = record {
  context = c;
  others = xs;
  are = refl;
  within = h.0;
  calling = subst (λ (x : Form). IsItem k (drop f.base (take f.height env)) (last f.done operands) x f.node f.from (Waits c)) e h.1;
  below = h.2;
}

-- one result more
one_result : (k : List Node) (s : Spread) (number members place : ℕ) (own more_own : List ℕ) (c : Context) → more_own ≡ own ++ place ∷ [] → IsCalling k s own number members c → IsDealt k s more_own number members (plugged c (loc place))
one_result k s number members place own more_own c grown w =
    let x : IsLaid k s number members own = w.laid in
    let results : List ℕ = x.results ++ place ∷ [] in
    let one : length results ≡ length x.results + 1 = length-append x.results (place ∷ []) in
    let next : suc (length x.results) ≡ length results = omega (arith, one) in
    let unfinished : length x.results < members = w.unfinished in
    let y : IsLaid k s number members more_own = record {
      given = x.given;
      receivers = x.receivers;
      beside = x.beside;
      results = results;
      given_size = x.given_size;
      size = x.size;
      beside_size = x.beside_size;
      are = grown ∙ ap (λ (l : List ℕ). l ++ place ∷ []) x.are ∙ append_assoc (x.given ++ x.receivers ++ x.beside) x.results (place ∷ []);
    } in
    record {
      laid = y;
      most = omega (arith, one, unfinished);
      is = ap (λ (d : Context). plugged d (loc place)) w.is ∙ ap (node Group) (sym (locs_snoc x.results place (calls_behind k s number members own x (suc (length x.results)))))
          ∙ ap (λ (n : ℕ). node Group (locs_then results (calls_behind k s number members own x n))) next;
    }

-- a place goes to the innermost frame, which waits for the result of a call
closed_call : (k : List Node) (v : View) (fs : List Frame) (f : Frame) (s : Spread) (place : ℕ) (t : Tree) (vs : List ServiceShape) → Standing k v t vs → v.focus ≡ focus.Place place → v.frames ≡ fs ++ f ∷ [] → f.form ≡ form.Calls s
    → Standing k (record v { frames = fs; env = take f.height v.env; operands = v.operands ++ place ∷ []; base = f.base; focus = focus.Calls s f.node f.from (f.done + 1) }) t vs
closed_call k v fs f s place t vs h0 at framed calls_is =
    let h : Standing k (record v { focus = focus.Place place }) t vs = at_focus k v (focus.Place place) t vs at h0 in
    let stack0 : IsStack k (reverse v.frames) v.env v.operands h.items = subst (λ (l : List ℕ). IsStack k (reverse v.frames) v.env l h.items) (but_last_none v.operands) h.stack in
    let stack1 : IsStack k (f ∷ reverse fs) v.env v.operands h.items = subst (λ (l : List Frame). IsStack k l v.env v.operands h.items) (ap reverse framed ∙ reverse-append fs (f ∷ [])) stack0 in
    let w : PoppedCall k s f (reverse fs) v.env v.operands h.items = popped_call k s f (reverse fs) v.env v.operands h.items calls_is stack1 in
    let wi : IsWithin f v.env v.operands = w.within in
    let high : f.height ≤ length v.env = wi.high in
    let lower : f.base ≤ f.height = wi.low in
    let enough : f.done ≤ length v.operands = wi.done in
    let low : List ℕ = take f.height v.env in
    let size : length low ≡ f.height = length-take-le f.height v.env high in
    let all : List ℕ = v.operands ++ place ∷ [] in
    let longer : length all ≡ length v.operands + 1 = length-append v.operands (place ∷ []) in
    record {
      items = w.others;
      inner = plugged w.context (loc place);
      low = omega (arith, lower, size);
      enough = omega (arith, longer, enough);
      focus = one_result k s f.node f.from place (last f.done v.operands) (last (f.done + 1) all) w.context (last_more f.done v.operands place enough) w.calling;
      stack = subst (λ (l : List ℕ). IsStack k (reverse fs) low l w.others) (sym (but_last_more f.done v.operands place enough)) w.below;
      futures = h.futures ∙ ap futures_of w.are;
      term = h.term ∙ ap (plug (contexts_of h.items)) h.focus ∙ ap (λ (xs : List Item). plug (contexts_of xs) (loc place)) w.are;
      suspended = h.suspended ∙ ap services_of w.are;
    }

-- a place goes to the innermost frame
closes_by : (k : List Node) (v : View) (fs : List Frame) (f : Frame) (place : ℕ) (t : Tree) (vs : List ServiceShape) (x : Form) → f.form ≡ x → IsOpen x → Standing k v t vs → v.focus ≡ focus.Place place → v.frames ≡ fs ++ f ∷ []
    → Standing k (record v { frames = fs; env = take f.height v.env; operands = v.operands ++ place ∷ []; base = f.base; focus = onward x f.node f.from (f.done + 1) }) t vs
closes_by k v fs f place t vs form.Terms e o h at framed = closed k v fs f place t vs h at framed e
closes_by k v fs f place t vs (form.Calls s) e o h at framed = closed_call k v fs f s place t vs h at framed e
closes_by k v fs f place t vs form.Service e o h at framed = absurd o

pub closes : (k : List Node) (v : View) (fs : List Frame) (f : Frame) (place : ℕ) (t : Tree) (vs : List ServiceShape) → IsOpen f.form → Standing k v t vs → v.focus ≡ focus.Place place → v.frames ≡ fs ++ f ∷ []
    → Standing k (record v { frames = fs; env = take f.height v.env; operands = v.operands ++ place ∷ []; base = f.base; focus = onward f.form f.node f.from (f.done + 1) }) t vs
closes k v fs f place t vs o h at framed = closes_by k v fs f place t vs f.form refl o h at framed

-- The next call

-- what lies below, and what is its own
pub two_parts : (n : ℕ) (ks : List ℕ) → ks ≡ but_last n ks ++ last n ks
two_parts n ks = sym (take-append-drop (length ks - n) ks)

pub record AtCalls (k : List Node) (v : View) (s : Spread) (number members done : ℕ) (t : Tree) (vs : List ServiceShape) : Type 0 where
  pub below : Below k (without_last done v) vs
  pub low : v.base ≤ length v.env
  pub enough : done ≤ length v.operands
  pub inner : Tree
  pub dealt : IsDealt k s (last done v.operands) number members inner
  pub term : t ≡ plug (contexts_of below.items) inner
  pub counted : done ≡ in_place (piece_at (pieces k) number) + members + beside_count s members + length dealt.laid.results

pub at_calls : (k : List Node) (v : View) (s : Spread) (number members done : ℕ) (t : Tree) (vs : List ServiceShape) → Standing k v t vs → v.focus ≡ focus.Calls s number members done → AtCalls k v s number members done t vs
at_calls k v s number members done t vs h0 at =
    let h : Standing k (record v { focus = focus.Calls s number members done }) t vs = at_focus k v (focus.Calls s number members done) t vs at h0 in
    let d : IsDealt k s (last done v.operands) number members h.inner = h.focus in
    let x : IsLaid k s number members (last done v.operands) = d.laid in
    let enough : done ≤ length v.operands = h.enough in
    let own : length (last done v.operands) ≡ done = last_size done v.operands enough in
    let sum : length (last done v.operands) ≡ length x.given + length x.receivers + length x.beside + length x.results = ap length x.are ∙ length-own x.given x.receivers x.beside x.results in
    let given : length x.given ≡ in_place (piece_at (pieces k) number) = x.given_size in
    let members_are : length x.receivers ≡ members = x.size in
    let beside : length x.beside ≡ beside_count s members = x.beside_size in
    record {
      below = record { items = h.items; stack = h.stack; futures = h.futures; suspended = h.suspended };
      low = h.low;
      enough = enough;
      inner = h.inner;
      dealt = d;
      term = h.term;
      counted = omega (arith, own, sum, given, members_are, beside);
    }

-- the next call is entered, at these places
pub deals : (k : List Node) (v : View) (s : Spread) (number members done : ℕ) (t : Tree) (vs : List ServiceShape) (a : AtCalls k v s number members done t vs) (places : List ℕ) → length a.dealt.laid.results < members
    → places ≡ round s a.dealt.laid.given a.dealt.laid.receivers a.dealt.laid.beside (length a.dealt.laid.results) → length places ≡ length a.dealt.laid.given → Standing k (dealt_view s number members done places v) t vs
deals k v s number members done t vs a places lt places_are whole =
    let own : List ℕ = last done v.operands in
    let d : IsDealt k s own number members a.inner = a.dealt in
    let x : IsLaid k s number members own = d.laid in
    let b : Below k (without_last done v) vs = a.below in
    let label : Text = called_label (piece_at (pieces k) number) in
    let r : ℕ = length x.results in
    let c : Context = record { head = Group; before = x.results; behind = calls_behind k s number members own x (suc r) } in
    let inner : Tree = node (Call label) (locs_then places none) in
    let less : r < length x.receivers = subst (λ (n : ℕ). r < n) (sym x.size) lt in
    let beside : length x.beside ≡ beside_count s (length x.receivers) = x.beside_size ∙ ap (beside_count s) (sym x.size) in
    let next : calls_behind k s number members own x r ≡ more inner c.behind =
    ap (calls label) (next_round s x.given x.receivers x.beside r less beside) ∙ ap (λ (l : List ℕ). more (node (Call label) (locs_then l none)) c.behind) (sym places_are) in
    let frame : Frame = record { form = form.Calls s; node = number; from = members; done = done; base = v.base; height = length v.env } in
    let all : take (length v.env) v.env ≡ v.env = take_all (length v.env) v.env (omega arith) in
    let longer : length (v.operands ++ places) ≡ length v.operands + length places = length-append v.operands places in
    let within : IsWithin frame v.env v.operands = record { low = a.low; high = omega arith; done = a.enough } in
    let calling : IsCalling k s own number members c = record { laid = x; unfinished = lt; is = refl } in
    let below : IsStack k (reverse v.frames) (take (length v.env) v.env) (but_last done v.operands) b.items = subst (λ (l : List ℕ). IsStack k (reverse v.frames) l (but_last done v.operands) b.items) (sym all) b.stack in
    let stack0 : IsStack k (frame ∷ reverse v.frames) v.env v.operands (Waits c ∷ b.items) = (within, calling, below) in
    let stack1 : IsStack k (reverse (v.frames ++ frame ∷ [])) v.env v.operands (Waits c ∷ b.items) = subst (λ (fs : List Frame). IsStack k fs v.env v.operands (Waits c ∷ b.items)) (sym (reverse-append v.frames (frame ∷ []))) stack0 in
    record {
      items = Waits c ∷ b.items;
      inner = inner;
      low = a.low;
      enough = omega (arith, longer);
      focus = subst (λ (l : List ℕ). IsCalled k l number inner) (sym (last_seam v.operands places)) (record { whole = whole ∙ x.given_size; is = refl });
      stack = subst (λ (l : List ℕ). IsStack k (reverse (v.frames ++ frame ∷ [])) v.env l (Waits c ∷ b.items)) (sym (but_last_seam v.operands places)) stack1;
      futures = b.futures;
      term = a.term ∙ ap (plug (contexts_of b.items)) (d.is ∙ ap (λ (ts : Trees). node Group (locs_then x.results ts)) next);
      suspended = b.suspended;
    }

-- The call of a member

pub called : (k : List Node) (v : View) (number n : ℕ) (t : Tree) (vs : List ServiceShape) → Standing k v t vs → v.focus ≡ focus.Called number n → IsAtCall k v number n (called_label (piece_at (pieces k) number)) t vs
called k v number n t vs h0 at =
    let h : Standing k (record v { focus = focus.Called number n }) t vs = at_focus k v (focus.Called number n) t vs at h0 in
    let ops : List ℕ = last n v.operands in
    let x : IsCalled k ops number h.inner = h.focus in
    let r : Redex = record { head = Call (called_label (piece_at (pieces k) number)); places = ops; behind = none } in
    let all : child_count (locs_then ops none) ≡ length ops + 0 = count_locs ops none in
    let counted : length ops + 0 ≡ length ops = omega arith in
    let enough : n ≤ length v.operands = h.enough in
    record {
      below = record { items = h.items; stack = h.stack; futures = h.futures; suspended = h.suspended };
      low = h.low;
      enough = enough;
      label = refl;
      whole = sym (last_size n v.operands enough) ∙ x.whole;
      splits = ap split (h.term ∙ ap (plug (contexts_of h.items)) x.is) ∙ splits_one_way (contexts_of h.items) r (are_contexts k (reverse v.frames) v.env (but_last n v.operands) h.items h.stack) (refl, inl (all ∙ counted));
    }

pub call_some : (k : List Node) (v : View) (number n : ℕ) (l : Text) (t : Tree) (vs : List ServiceShape) → IsAtCall k v number n l t vs → IsAtSome k v t vs n
call_some k v number n l t vs a = record { redex = record { head = Call l; places = last n v.operands; behind = none }; low = a.low; below = a.below; splits = a.splits }

pub call_redex : (k : List Node) (v : View) (number n : ℕ) (l : Text) (t : Tree) (vs : List ServiceShape) → IsAtCall k v number n l t vs → IsAtRedex k v t vs n (record { head = Call l; places = last n v.operands; behind = none })
call_redex k v number n l t vs a = record { contexts = contexts_of a.below.items; splits = a.splits; place = λ p. stand_place k (without_last n v) vs a.below p a.low }

-- All results

pub results : (k : List Node) (v : View) (s : Spread) (number members done : ℕ) (t : Tree) (vs : List ServiceShape) → AtCalls k v s number members done t vs → done ≡ all_done k s number members → IsAtResults k v members done t vs
results k v s number members done t vs a full =
    let own : List ℕ = last done v.operands in
    let d : IsDealt k s own number members a.inner = a.dealt in
    let x : IsLaid k s number members own = d.laid in
    let b : Below k (without_last done v) vs = a.below in
    let counted : done ≡ in_place (piece_at (pieces k) number) + members + beside_count s members + length x.results = a.counted in
    let there : length x.results ≡ members = omega (arith, counted, full) in
    let over : length x.receivers ≤ length x.results = subst (λ (n : ℕ). n ≤ length x.results) (sym x.size) (omega (arith, there)) in
    let none_left : calls_behind k s number members own x (length x.results) ≡ none = ap (calls (called_label (piece_at (pieces k) number))) (rounds_over s x.given x.receivers x.beside (length x.results) over) in
    let first : List ℕ = x.given ++ x.receivers ++ x.beside in
    let front : List ℕ = but_last done v.operands ++ first in
    let parts : v.operands ≡ front ++ x.results = two_parts done v.operands ∙ ap (λ (o : List ℕ). but_last done v.operands ++ o) x.are ∙ sym (append_assoc (but_last done v.operands) first x.results) in
    let results_are : x.results ≡ last members v.operands = sym (last_seam front x.results) ∙ (λ i. last (there i) (sym parts i)) in
    let r : Redex = record { head = Group; places = x.results; behind = none } in
    let all : child_count (locs_then x.results none) ≡ length x.results + 0 = count_locs x.results none in
    let plain : length x.results + 0 ≡ length x.results = omega arith in
    record {
      low = a.low;
      below = b;
      splits = ap split (a.term ∙ ap (plug (contexts_of b.items)) (d.is ∙ ap (λ (ts : Trees). node Group (locs_then x.results ts)) none_left))
          ∙ splits_one_way (contexts_of b.items) r (are_contexts k (reverse v.frames) v.env (but_last done v.operands) b.items b.stack) (refl, inl (all ∙ plain))
          ∙ ap (λ (ks : List ℕ). Splits (contexts_of b.items) (record { head = Group; places = ks; behind = none })) results_are;
    }

pub results_some : (k : List Node) (v : View) (members done : ℕ) (t : Tree) (vs : List ServiceShape) → IsAtResults k v members done t vs → IsAtSome k v t vs done
results_some k v members done t vs a = record { redex = record { head = Group; places = last members v.operands; behind = none }; low = a.low; below = a.below; splits = a.splits }

pub results_redex : (k : List Node) (v : View) (members done : ℕ) (t : Tree) (vs : List ServiceShape) → IsAtResults k v members done t vs → IsAtRedex k v t vs done (record { head = Group; places = last members v.operands; behind = none })
results_redex k v members done t vs a = record { contexts = contexts_of a.below.items; splits = a.splits; place = λ p. stand_place k (without_last done v) vs a.below p a.low }
