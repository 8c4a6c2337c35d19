-- Moves of a machine within its term.
use Rattle.std.proofs.Common.{◌≡◌, ℕ, suc, ◌+◌, ◌<◌, ◌≤◌, List, [], ◌∷◌, ◌++◌, length, take, drop, reverse, refl, sym, ap, subst, ◌∙◌, arith, length-append}
use Rattle.std.proofs.lemmas.List.{reverse-append, take_all, length-take-le}
use Rattle.asp_model.specs.Term.{Group, Tree, Trees, more, loc, locs_then, child_count}
use Rattle.asp_model.specs.Split.{Context, plug, plugged}
use Rattle.asp_model.specs.Configuration.{ServiceShape}
use Rattle.code_table.specs.declared.code.Leaf.{Leaf}
use Rattle.code_table.specs.declared.code.Node.{Node}
use Rattle.code_table.specs.Pieces.{Piece, variable}
use Rattle.code_table.specs.Fitting.{Runs, term_in}
use Rattle.code_table.specs.Tables.{pieces, piece_at}
use Rattle.code_laws.specs.Places.{leaf_place}
use Rattle.code_laws.specs.Nodes.{IsTerm, parts, nth, in_place, redex_in, context_in}
use Rattle.code_laws.specs.Splitting.{redex_node, IsContext, AreContexts}
use Rattle.code_laws.proofs.OpenLemmas.{count_locs}
use Rattle.code_laws.proofs.TurnLemmas.{leaf_term, begins, child_runs, opens, goes_on, is_context}
use Rattle.step_machine.specs.declared.frames.Frame.{Frame}
use Rattle.step_machine.specs.declared.frames.Focus.{Focus}
use Rattle.step_machine.specs.declared.frames.Focus.TheVariants as focus
use Rattle.step_machine.specs.declared.frames.Form.{Form}
use Rattle.step_machine.specs.declared.frames.Form.TheVariants as form
use Rattle.step_machine.specs.Items.{Item, Waits, Suspends, contexts_of, services_of, futures_of}
use Rattle.step_machine.specs.Calls.{calls_behind}
use Rattle.step_machine.specs.Stacks.{piece_from, last, but_last, IsWaiting, IsItem, IsWithin, IsStack}
use Rattle.step_machine.specs.Standing.{View, IsBegun, Standing}
use Rattle.step_machine.proofs.StackLemmas.{last_none, but_last_none, last_size, last_more, but_last_more, Popped, popped}

-- with the focus that it has
pub at_focus : (k : List Node) (v : View) (g : Focus) (t : Tree) (vs : List ServiceShape) → v.focus ≡ g → Standing k v t vs → Standing k (record v { focus = g }) t vs
at_focus k v g t vs e h = subst (λ (f : Focus). Standing k (record v { focus = f }) t vs) e h

-- a place goes to the innermost frame
pub closed : (k : List Node) (v : View) (fs : List Frame) (f : Frame) (place : ℕ) (t : Tree) (vs : List ServiceShape) → Standing k v t vs → v.focus ≡ focus.Place place → v.frames ≡ fs ++ f ∷ [] → f.form ≡ form.Terms
    → Standing k (record v { frames = fs; env = take f.height v.env; operands = v.operands ++ place ∷ []; base = f.base; focus = focus.Node f.node f.from (f.done + 1) }) t vs
closed k v fs f place t vs h0 at framed terms =
    let h : Standing k (record v { focus = focus.Place place }) t vs = at_focus k v (focus.Place place) t vs at h0 in
    let stack0 : IsStack k (reverse v.frames) v.env v.operands h.items = subst (λ (l : List ℕ). IsStack k (reverse v.frames) v.env l h.items) (but_last_none v.operands) h.stack in
    let stack1 : IsStack k (f ∷ reverse fs) v.env v.operands h.items = subst (λ (l : List Frame). IsStack k l v.env v.operands h.items) (ap reverse framed ∙ reverse-append fs (f ∷ [])) stack0 in
    let w : Popped k f (reverse fs) v.env v.operands h.items = popped k f (reverse fs) v.env v.operands h.items terms stack1 in
    let low : List ℕ = take f.height v.env in
    let ns : List ℕ = drop f.base low in
    let done : List ℕ = last f.done v.operands in
    let p : Piece = piece_from k f.node f.from in
    let wait : IsWaiting k ns done f.node f.from w.context = w.waiting in
    let wi : IsWithin f v.env v.operands = w.within in
    let high : f.height ≤ length v.env = wi.high in
    let lower : f.base ≤ f.height = wi.low in
    let enough : f.done ≤ length v.operands = wi.done in
    let size : length low ≡ f.height = length-take-le f.height v.env high in
    let all : List ℕ = v.operands ++ place ∷ [] in
    let longer : length all ≡ length v.operands + 1 = length-append v.operands (place ∷ []) in
    let one_more : last (f.done + 1) all ≡ done ++ place ∷ [] = last_more f.done v.operands place enough in
    let unfinished : length done < in_place p = wait.unfinished in
    let sized : length (last (f.done + 1) all) ≡ length done + 1 = ap length one_more ∙ length-append done (place ∷ []) in
    let inner : Tree = redex_node (redex_in wait.names wait.scope ns p (last (f.done + 1) all)) in
    record {
      items = w.others;
      inner = inner;
      low = omega (arith, lower, size);
      enough = omega (arith, longer, enough);
      focus = record { names = wait.names; scope = wait.scope; runs = wait.runs; most = omega (arith, sized, unfinished); is = refl };
      stack = subst (λ (l : List ℕ). IsStack k (reverse fs) low l w.others) (sym (but_last_more f.done v.operands place enough)) w.below;
      futures = h.futures ∙ ap futures_of w.are;
      term = h.term ∙ ap (plug (contexts_of h.items)) h.focus ∙ ap (λ (xs : List Item). plug (contexts_of xs) (loc place)) w.are ∙ ap (λ (c : Context). plug (contexts_of w.others) (plugged c (loc place))) wait.is
          ∙ ap (plug (contexts_of w.others)) (goes_on wait.names wait.scope ns p done place ∙ ap (λ (ks : List ℕ). redex_node (redex_in wait.names wait.scope ns p ks)) (sym one_more));
      suspended = h.suspended ∙ ap services_of w.are;
    }

-- the next term below a node is a variable, whose place goes to the operands
pub passed : (k : List Node) (v : View) (number from done : ℕ) (l : Leaf) (t : Tree) (vs : List ServiceShape) → Standing k v t vs → v.focus ≡ focus.Node number from done
    → done < in_place (piece_from k number from) → nth done (parts (piece_from k number from)) ≡ variable l
    → Standing k (record v { operands = v.operands ++ leaf_place (drop v.base v.env) l ∷ []; focus = focus.Node number from (done + 1) }) t vs
passed k v number from done l t vs h0 at lt part =
    let h : Standing k (record v { focus = focus.Node number from done }) t vs = at_focus k v (focus.Node number from done) t vs at h0 in
    let ns : List ℕ = drop v.base v.env in
    let place : ℕ = leaf_place ns l in
    let p : Piece = piece_from k number from in
    let b : IsBegun k ns (last done v.operands) number from h.inner = h.focus in
    let enough : done ≤ length v.operands = h.enough in
    let size : length (last done v.operands) ≡ done = last_size done v.operands enough in
    let less : length (last done v.operands) < in_place p = omega (arith, size, lt) in
    let all : List ℕ = v.operands ++ place ∷ [] in
    let longer : length all ≡ length v.operands + 1 = length-append v.operands (place ∷ []) in
    let one_more : last (done + 1) all ≡ last done v.operands ++ place ∷ [] = last_more done v.operands place enough in
    let sized : length (last (done + 1) all) ≡ length (last done v.operands) + 1 = ap length one_more ∙ length-append (last done v.operands) (place ∷ []) in
    let child_is : nth (length (last done v.operands)) (parts p) ≡ variable l = ap (λ (n : ℕ). nth n (parts p)) size ∙ part in
    let runs : Runs b.names b.scope ns (variable l) = subst (Runs b.names b.scope ns) child_is (child_runs b.names b.scope ns p (length (last done v.operands)) b.runs less) in
    let here : term_in b.names b.scope ns (nth (length (last done v.operands)) (parts p)) ≡ loc place = ap (term_in b.names b.scope ns) child_is ∙ leaf_term b.names b.scope ns l runs in
    let step : redex_node (redex_in b.names b.scope ns p (last done v.operands)) ≡ redex_node (redex_in b.names b.scope ns p (last (done + 1) all)) =
    opens b.names b.scope ns p (last done v.operands) b.runs less ∙ ap (plugged (context_in b.names b.scope ns p (last done v.operands))) here
    ∙ goes_on b.names b.scope ns p (last done v.operands) place ∙ ap (λ (ks : List ℕ). redex_node (redex_in b.names b.scope ns p ks)) (sym one_more) in
    record {
      items = h.items;
      inner = redex_node (redex_in b.names b.scope ns p (last (done + 1) all));
      low = h.low;
      enough = omega (arith, longer, enough);
      focus = record { names = b.names; scope = b.scope; runs = b.runs; most = omega (arith, sized, less); is = refl };
      stack = subst (λ (l : List ℕ). IsStack k (reverse v.frames) v.env l h.items) (sym (but_last_more done v.operands place enough)) h.stack;
      futures = h.futures;
      term = h.term ∙ ap (plug (contexts_of h.items)) (b.is ∙ step);
      suspended = h.suspended;
    }

-- the next term below a node is a node, for which a frame waits
pub entered : (k : List Node) (v : View) (number from done inner_number : ℕ) (t : Tree) (vs : List ServiceShape) → Standing k v t vs → v.focus ≡ focus.Node number from done
    → done < in_place (piece_from k number from) → nth done (parts (piece_from k number from)) ≡ piece_at (pieces k) inner_number → IsTerm (piece_at (pieces k) inner_number)
    → Standing k (record v { frames = v.frames ++ record { form = form.Terms; node = number; from = from; done = done; base = v.base; height = length v.env } ∷ []; focus = focus.Node inner_number 0 0 }) t vs
entered k v number from done i t vs h0 at lt part is_term =
    let h : Standing k (record v { focus = focus.Node number from done }) t vs = at_focus k v (focus.Node number from done) t vs at h0 in
    let ns : List ℕ = drop v.base v.env in
    let p : Piece = piece_from k number from in
    let q : Piece = piece_at (pieces k) i in
    let ops : List ℕ = last done v.operands in
    let b : IsBegun k ns ops number from h.inner = h.focus in
    let enough : done ≤ length v.operands = h.enough in
    let size : length ops ≡ done = last_size done v.operands enough in
    let less : length ops < in_place p = omega (arith, size, lt) in
    let child_is : nth (length ops) (parts p) ≡ q = ap (λ (n : ℕ). nth n (parts p)) size ∙ part in
    let runs : Runs b.names b.scope ns q = subst (Runs b.names b.scope ns) child_is (child_runs b.names b.scope ns p (length ops) b.runs less) in
    let c : Context = context_in b.names b.scope ns p ops in
    let here : term_in b.names b.scope ns (nth (length ops) (parts p)) ≡ redex_node (redex_in b.names b.scope ns q []) = ap (term_in b.names b.scope ns) child_is ∙ begins b.names b.scope ns q is_term runs in
    let frame : Frame = record { form = form.Terms; node = number; from = from; done = done; base = v.base; height = length v.env } in
    let all : take (length v.env) v.env ≡ v.env = take_all (length v.env) v.env (omega arith) in
    let none_done : last 0 v.operands ≡ [] = last_none v.operands in
    let within : IsWithin frame v.env v.operands = record { low = h.low; high = omega arith; done = enough } in
    let waiting0 : IsWaiting k ns ops number from c = record { names = b.names; scope = b.scope; runs = b.runs; unfinished = less; is = refl } in
    let waiting : IsWaiting k (drop v.base (take (length v.env) v.env)) ops number from c = subst (λ (l : List ℕ). IsWaiting k (drop v.base l) ops number from c) (sym all) waiting0 in
    let below : IsStack k (reverse v.frames) (take (length v.env) v.env) (but_last done v.operands) h.items = subst (λ (l : List ℕ). IsStack k (reverse v.frames) l (but_last done v.operands) h.items) (sym all) h.stack in
    let stack0 : IsStack k (frame ∷ reverse v.frames) v.env v.operands (Waits c ∷ h.items) = (within, waiting, below) in
    let stack1 : IsStack k (reverse (v.frames ++ frame ∷ [])) v.env v.operands (Waits c ∷ h.items) = subst (λ (fs : List Frame). IsStack k fs v.env v.operands (Waits c ∷ h.items)) (sym (reverse-append v.frames (frame ∷ []))) stack0 in
    record {
      items = Waits c ∷ h.items;
      inner = redex_node (redex_in b.names b.scope ns q []);
      low = h.low;
      enough = omega arith;
      focus = record { names = b.names; scope = b.scope; runs = runs; most = subst (λ (l : List ℕ). length l ≤ in_place q) (sym none_done) (omega arith); is = ap (λ (l : List ℕ). redex_node (redex_in b.names b.scope ns q l)) (sym none_done) };
      stack = subst (λ (l : List ℕ). IsStack k (reverse (v.frames ++ frame ∷ [])) v.env l (Waits c ∷ h.items)) (sym (but_last_none v.operands)) stack1;
      futures = h.futures;
      term = h.term ∙ ap (plug (contexts_of h.items)) (b.is ∙ opens b.names b.scope ns p ops b.runs less ∙ ap (plugged c) here);
      suspended = h.suspended;
    }

-- all terms of a group are reduced in place
before_calls : (ns : List ℕ) (ts : Trees) → IsContext (record { head = Group; before = ns; behind = ts })
before_calls ns ts = let all : child_count (locs_then ns (more (loc 0) ts)) ≡ length ns + suc (child_count ts) = count_locs ns (more (loc 0) ts) in omega (arith, all)

-- the contexts of a stack are those of a redex
pub are_contexts : (k : List Node) (fs : List Frame) (env operands : List ℕ) (xs : List Item) → IsStack k fs env operands xs → AreContexts (contexts_of xs)
are_contexts k [] env operands [] h = tt
are_contexts k [] env operands (x ∷ xs) h = absurd h
are_contexts k (f ∷ fs) env operands [] h = absurd h
are_contexts k (f ∷ fs) env operands (Suspends g ∷ xs) h = tt
are_contexts k (f ∷ fs) env operands (Waits c ∷ xs) h =
    (waits f.form h.1, are_contexts k fs (take f.height env) (but_last f.done operands) xs h.2)
  where
    ns : List ℕ
    ns = drop f.base (take f.height env)

    waits : (x : Form) → IsItem k (drop f.base (take f.height env)) (last f.done operands) x f.node f.from (Waits c) → IsContext c
    waits form.Service w = absurd w
    waits (form.Calls s) w = subst IsContext (sym w.is) (before_calls w.laid.results (calls_behind k s f.node f.from (last f.done operands) w.laid (suc (length w.laid.results))))
    waits form.Terms w = subst IsContext (sym w.is) (is_context w.names w.scope (drop f.base (take f.height env)) (piece_from k f.node f.from) (last f.done operands) w.runs w.unfinished)

-- so many terms are done as lie on the operands, and no more than are reduced in place
pub at_most : (k : List Node) (v : View) (number from done : ℕ) (t : Tree) (vs : List ServiceShape) → Standing k v t vs → v.focus ≡ focus.Node number from done → done ≤ in_place (piece_from k number from)
at_most k v number from done t vs h0 at =
    let h : Standing k (record v { focus = focus.Node number from done }) t vs = at_focus k v (focus.Node number from done) t vs at h0 in
    let b : IsBegun k (drop v.base v.env) (last done v.operands) number from h.inner = h.focus in
    let enough : done ≤ length v.operands = h.enough in
    subst (λ (n : ℕ). n ≤ in_place (piece_from k number from)) (last_size done v.operands enough) b.most
