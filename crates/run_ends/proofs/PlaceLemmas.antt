-- The term of a machine is a place exactly where the machine looks at one and no frame waits.
use Rattle.std.proofs.Common.{◌≡◌, ℕ, ◌<◌, true, false, List, [], ◌∷◌, Some, None, length, take, drop, refl, sym, ap, subst, ◌∙◌, arith}
use Rattle.std.specs.Prelude.{reverse}
use Rattle.std.proofs.lemmas.Bool.{false≢true}
use Rattle.asp_model.specs.Names.{Text}
use Rattle.asp_model.specs.Term.{Head, Loc, Tree, Trees, Environment, node, more, loc, locs_then}
use Rattle.asp_model.specs.Split.{Context, plugged, plug, reduced_count}
use Rattle.asp_model.specs.Configuration.{ServiceShape}
use Rattle.asp_model.specs.Intent.{Done}
use Rattle.code_table.specs.declared.code.Node.{Node}
use Rattle.code_table.specs.Pieces.{Piece, variable, piece, object}
use Rattle.code_table.specs.Fitting.{IsNode, Fits}
use Rattle.code_laws.specs.Nodes.{head_in}
use Rattle.code_laws.specs.Splitting.{is_loc, AreContexts}
use Rattle.step_machine.specs.declared.frames.Focus.{Focus}
use Rattle.step_machine.specs.declared.frames.Focus.TheVariants as focus
use Rattle.step_machine.specs.declared.frames.Form.{Form}
use Rattle.step_machine.specs.declared.frames.Form.TheVariants as form
use Rattle.step_machine.specs.declared.frames.Frame.{Frame}
use Rattle.step_machine.specs.Items.{Item, Waits, Suspends, contexts_of}
use Rattle.step_machine.specs.Stacks.{IsItem, IsStack, piece_from, last, but_last}
use Rattle.step_machine.specs.Standing.{View, Standing, IsFocus, taken}
use Rattle.step_machine.proofs.MoveLemmas.{are_contexts}
use Rattle.def_paths.specs.Snapshots.{result_in}
use Rattle.run_ends.specs.Ends.{is_service, none_waits}

-- Terms that are no places

abbrev head_of : Tree → Head
head_of (node h ts) = h

abbrev IsNoPlace : Tree → Type 0
IsNoPlace t = is_loc (head_of t) ≡ false

no_result : (t : Tree) → IsNoPlace t → result_in Done t ≡ None
no_result (node (Loc n) ts) e = absurd (false≢true (sym e))
no_result (node h ts) e = refl

more_than_none : (h : Head) (ts : Trees) (n : ℕ) → n < reduced_count h ts → is_loc h ≡ false
more_than_none (Loc m) ts n h = absurd (omega arith)
more_than_none g ts n h = refl

plugged_no_place : (cs : List Context) (t : Tree) → AreContexts cs → IsNoPlace t → IsNoPlace (plug cs t)
plugged_no_place [] t h e = e
plugged_no_place (c ∷ cs) t h e = plugged_no_place cs (plugged c t) h.1 (more_than_none c.head (locs_then c.before (more (loc 0) c.behind)) (length c.before) h.0)

waiting_no_place : (c : Context) (cs : List Context) (t : Tree) → AreContexts (c ∷ cs) → IsNoPlace (plug (c ∷ cs) t)
waiting_no_place c cs t h = plugged_no_place cs (plugged c t) h.1 (more_than_none c.head (locs_then c.before (more (loc 0) c.behind)) (length c.before) h.0)

node_no_place : (h : Head) → IsNode h → is_loc h ≡ false
node_no_place (Loc n) i = absurd i
node_no_place h i = refl

begun_no_place : (xs : List Text) (scope : Environment) (n : ℕ) (p : Piece) → Fits xs scope n p → is_loc (head_in p) ≡ false
begun_no_place xs scope n (variable l) f = refl
begun_no_place xs scope n (piece h ps) f = node_no_place h f.0
begun_no_place xs scope n (object ls fs ms) f = refl

-- what a machine looks at is no place, where it does not look at one
abbrev IsNoPlaceFocus : Focus → Type 0
IsNoPlaceFocus (focus.Place p) = ⊥
IsNoPlaceFocus f = Unit {0}

focus_no_place : (k : List Node) (asked : Text) (ns operands : List ℕ) (f : Focus) (t : Tree) → IsNoPlaceFocus f → IsFocus k asked ns operands f t → IsNoPlace t
focus_no_place k asked ns operands (focus.Place p) t n h = absurd n
focus_no_place k asked ns operands (focus.Node number from done) t n h = subst IsNoPlace (sym h.is) (begun_no_place h.names h.scope (length ns) (piece_from k number from) h.runs.fits)
focus_no_place k asked ns operands (focus.Asked m) t n h = subst IsNoPlace (sym h) refl
focus_no_place k asked ns operands (focus.Calls s number members done) t n h = subst IsNoPlace (sym h.is) refl
focus_no_place k asked ns operands (focus.Called number m) t n h = subst IsNoPlace (sym h.is) refl

-- Stacks

waits : (k : List Node) (ns operands : List ℕ) (x : Form) (number from : ℕ) (i : Item) → is_service x ≡ false → IsItem k ns operands x number from i → (c : Context) × (i ≡ Waits c)
waits k ns operands form.Service number from i e h = absurd cc
waits k ns operands form.Terms number from (Waits c) e h = (c, refl)
waits k ns operands form.Terms number from (Suspends f) e h = absurd h
waits k ns operands (form.Calls s) number from (Waits c) e h = (c, refl)
waits k ns operands (form.Calls s) number from (Suspends f) e h = absurd h

-- a frame that waits has a context
some_wait : (k : List Node) (fs : List Frame) (env operands : List ℕ) (xs : List Item) → none_waits fs ≡ false → IsStack k fs env operands xs → (c : Context) × (cs : List Context) × (contexts_of xs ≡ c ∷ cs)
some_wait k [] env operands xs e h = absurd cc
some_wait k (f ∷ fs) env operands [] e h = absurd h
some_wait k (f ∷ fs) env operands (x ∷ xs) e h =
    let w = waits k (drop f.base (take f.height env)) (last f.done operands) f.form f.node f.from x e h.1 in
    (w.0, contexts_of xs, ap (λ (i : Item). contexts_of (i ∷ xs)) w.1)

service_suspends : (k : List Node) (ns operands : List ℕ) (x : Form) (number from : ℕ) (i : Item) (xs : List Item) → is_service x ≡ true → IsItem k ns operands x number from i → (let none : List Context = [] in contexts_of (i ∷ xs) ≡ none)
service_suspends k ns operands form.Terms number from i xs e h = absurd cc
service_suspends k ns operands (form.Calls s) number from i xs e h = absurd cc
service_suspends k ns operands form.Service number from (Waits c) xs e h = absurd h
service_suspends k ns operands form.Service number from (Suspends f) xs e h = refl

-- no context stands round the term where none waits
none_round : (k : List Node) (fs : List Frame) (env operands : List ℕ) (xs : List Item) → none_waits fs ≡ true → IsStack k fs env operands xs → (let none : List Context = [] in contexts_of xs ≡ none)
none_round k [] env operands [] e h = refl
none_round k [] env operands (x ∷ xs) e h = absurd h
none_round k (f ∷ fs) env operands [] e h = absurd h
none_round k (f ∷ fs) env operands (x ∷ xs) e h = service_suspends k (drop f.base (take f.height env)) (last f.done operands) f.form f.node f.from x xs e h.1

-- Machines

-- it looks at this place, and no frame waits
pub at_place : (k : List Node) (v : View) (t : Tree) (vs : List ServiceShape) (p : ℕ) → Standing k v t vs → v.focus ≡ focus.Place p → none_waits (reverse v.frames) ≡ true → Some p ≡ result_in Done t
at_place k v t vs p h at alone =
    let inner : IsFocus k v.asked (drop v.base v.env) (last (taken v.focus) v.operands) (focus.Place p) h.inner = subst (λ (f : Focus). IsFocus k v.asked (drop v.base v.env) (last (taken v.focus) v.operands) f h.inner) at h.focus in
    let none = none_round k (reverse v.frames) v.env (but_last (taken v.focus) v.operands) h.items alone h.stack in
    let term : t ≡ loc p = h.term ∙ ap (λ (cs : List Context). plug cs h.inner) none ∙ inner in
    sym (ap (result_in Done) term)

-- a frame waits
pub behind_frames : (k : List Node) (v : View) (t : Tree) (vs : List ServiceShape) → Standing k v t vs → none_waits (reverse v.frames) ≡ false → None ≡ result_in Done t
behind_frames k v t vs h some =
    let w = some_wait k (reverse v.frames) v.env (but_last (taken v.focus) v.operands) h.items some h.stack in
    let are : AreContexts (w.0 ∷ w.1) = subst AreContexts w.2 (are_contexts k (reverse v.frames) v.env (but_last (taken v.focus) v.operands) h.items h.stack) in
    let term : t ≡ plug (w.0 ∷ w.1) h.inner = h.term ∙ ap (λ (cs : List Context). plug cs h.inner) w.2 in
    sym (no_result t (subst IsNoPlace (sym term) (waiting_no_place w.0 w.1 h.inner are)))

-- it looks at something else
pub elsewhere : (k : List Node) (v : View) (t : Tree) (vs : List ServiceShape) (f : Focus) → Standing k v t vs → v.focus ≡ f → IsNoPlaceFocus f → None ≡ result_in Done t
elsewhere k v t vs f h at other =
    let no : IsNoPlaceFocus v.focus = subst IsNoPlaceFocus (sym at) other in
    let inner : IsNoPlace h.inner = focus_no_place k v.asked (drop v.base v.env) (last (taken v.focus) v.operands) v.focus h.inner no h.focus in
    let are = are_contexts k (reverse v.frames) v.env (but_last (taken v.focus) v.operands) h.items h.stack in
    sym (no_result t (subst IsNoPlace (sym h.term) (plugged_no_place (contexts_of h.items) h.inner are inner)))
