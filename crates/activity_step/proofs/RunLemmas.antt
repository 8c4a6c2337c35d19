-- Runs of contractions.
use Rattle.std.proofs.Common.{◌≡◌, ◌≤◌, ◌+◌, ◌-◌, ◌++◌, ℕ, zero, suc, Bool, true, false, List, [], ◌∷◌, length, map, reverse, refl, sym, ap, subst, ◌∙◌, arith}
use Rattle.std.proofs.lemmas.Bool.{false≢true}
use Rattle.std.specs.Arc.{arc_value}
use Rattle.std.specs.Prelude.{Err, IfOk, Ok, OnOk, Result}
use Rattle.asp_model.specs.Split.{Context, Redex, Splits, split, plug}
use Rattle.asp_model.specs.Term.{Tree, loc}
use Rattle.asp_model.specs.Store.{Store}
use Rattle.asp_model.specs.Contraction.{LineShape}
use Rattle.asp_model.specs.Shapes.{line_shape}
use Rattle.code_table.specs.Cells.{held_future}
use Rattle.std.specs.Option.{option_map}
use Rattle.code_table.specs.Cells.{CodedCell}
use Rattle.code_table.specs.Shapes.{cell_of, store_of}
use Rattle.code_table.proofs.CodedLemmas.{length-store_of, store_of-append}
use Rattle.step_machine.specs.Rows.{IsAtRedex, place_view}
use Rattle.step_machine.specs.Services.{IsAtSome}
use Rattle.step_machine.specs.Standing.{View, Standing, view_of}
use Rattle.step_machine.proofs.RowLemmas.{some_redex}
use Rattle.code_table.specs.declared.code.Node.{Node}
use Rattle.asp_model.specs.Configuration as model
use Rattle.asp_model.specs.Configuration.{ServiceShape}
use Rattle.activity_step.specs.declared.activity.Activity.{Activity}
use Rattle.activity_step.specs.declared.state.State.{State}
use Rattle.activity_step.specs.declared.advance.Advance.{Advance}
use Rattle.activity_step.specs.declared.advance.Advance.TheVariants as advance
use Rattle.activity_step.specs.Local.{IsLocalStep, LocalRun}
use Rattle.activity_step.specs.Advances.{AreTaken, Contracted, Stands, Reduced, Told, IsAdvance}
use Rattle.activity_step.specs.Activities.{StandsFor, IsToldAt, IsHalted, IsNext, IsRunning, IsStepped, IsStopped, IsAfter, IsUsed, IsRun, reduces, with_new_cell}

-- one run behind another
pub goes_on : (n m : ℕ) (a b c : model.Activity) → LocalRun n a b → LocalRun m b c → LocalRun (n + m) a c
goes_on zero m a b c e r = let same : m ≡ 0 + m = omega arith in subst (λ (i : ℕ). LocalRun i a c) same (subst (λ (x : model.Activity). LocalRun m x c) (sym e) r)
goes_on (suc n) m a b c r q =
    let same : suc (n + m) ≡ suc n + m = omega arith in
    let all : LocalRun (suc (n + m)) a c = (r.0, r.1, goes_on n m r.0 b c r.2 q) in
    subst (λ (i : ℕ). LocalRun i a c) same all

-- more contractions behind others
pub more_taken : (k : List Node) (x y : State) (n m : ℕ) (t : Tree) (vs : List ServiceShape) (s : Store) (ls : List LineShape) → AreTaken k x t vs s ls n
    → ((u : Tree) (q : Store) (added : List LineShape) → Stands k x u vs q added → AreTaken k y u vs q added m) → AreTaken k y t vs s ls (n + m)
more_taken k x y zero m t vs s ls h f = let same : m ≡ 0 + m = omega arith in subst (AreTaken k y t vs s ls) same (f t s ls h)
more_taken k x y (suc n) m t vs s ls h f =
    let same : suc (n + m) ≡ suc n + m = omega arith in
    let one : Contracted t s = h.0 in
    let all : AreTaken k y t vs s ls (suc (n + m)) = (one, more_taken k x y n m (plug one.contexts one.becomes) vs one.store (ls ++ one.added) h.1 f) in
    subst (AreTaken k y t vs s ls) same all

-- the contractions of a state are a run of its activity
pub taken_run : (x : Activity) (y : State) (c n : ℕ) (a : model.Activity) → option_map held_future x.present ≡ a.present → x.active ≡ a.active → c ≡ a.reductions + n
    → AreTaken (arc_value x.code) y a.term (reverse a.services) a.store a.lines n → IsRunning (record x { state = y; count = c }) a n
taken_run x y c zero a present active count t = record { here = a; run = refl; stands = record { state = t; present = present; active = active; count = omega (arith, count) } }
taken_run x y c (suc n) a present active count t =
    let one : Contracted a.term a.store = t.0 in
    let next : model.Activity = record a { term = plug one.contexts one.becomes; store = one.store; lines = a.lines ++ one.added; reductions = suc a.reductions } in
    let r : IsRunning (record x { state = y; count = c }) next n = taken_run x y c n next present active (omega (arith, count)) t.1 in
    let step : IsLocalStep a next = record { contexts = one.contexts; redex = one.redex; becomes = one.becomes; store = one.store; added = one.added; splits = one.splits; is = one.is; after = refl } in
    record { here = r.here; run = (next, step, r.run); stands = r.stands }

pub stepped : (x : Activity) (y : State) (n : ℕ) (a : model.Activity) → StandsFor x a → n ≡ suc x.count → Reduced (arc_value x.code) y a.term (reverse a.services) a.store a.lines → IsStepped (record x { state = y; count = n }) a
stepped x y n a h e r = record {
  next = record a { term = plug r.contexts r.becomes; store = r.store; lines = a.lines ++ r.added; reductions = suc a.reductions };
  step = record { contexts = r.contexts; redex = r.redex; becomes = r.becomes; store = r.store; added = r.added; splits = r.splits; is = r.is; after = refl };
  stands = record { state = r.after; present = h.present; active = h.active; count = e ∙ ap suc h.count };
}

told_at : (x : Activity) (y : State) (a : model.Activity) (r : Advance) → StandsFor x a → Told (arc_value x.code) y a.term (reverse a.services) a.store a.lines r → IsToldAt a r
told_at x y a r h t = record { contexts = t.contexts; redex = t.redex; splits = t.splits; is = t.is }

kept : (x : Activity) (y : State) (a : model.Activity) → StandsFor x a → Stands (arc_value x.code) y a.term (reverse a.services) a.store a.lines → StandsFor (record x { state = y }) a
kept x y a h s = record { state = s; present = h.present; active = h.active; count = h.count }

could_step : (a : model.Activity) → IsToldAt a advance.Reduces → (b : model.Activity) × IsLocalStep a b
could_step a t =
    let u = t.is.0 in
    let s = t.is.1 in
    let added = t.is.2 in (
      record a { term = plug t.contexts u; store = s; lines = a.lines ++ added; reductions = suc a.reductions },
      record { contexts = t.contexts; redex = t.redex; becomes = u; store = s; added = added; splits = t.splits; is = t.is.3; after = refl },
    )

-- what a advance tells of an activity, where it took no contraction
pub stops : (x : Activity) (y : State) (a : model.Activity) (go : Bool) (r : Advance) → StandsFor x a → IsAdvance (arc_value x.code) y a.term (reverse a.services) a.store a.lines go r → (go ≡ true → reduces r ≡ true → ⊥) → IsStopped (record x { state = y }) a r
stops x y a true advance.Reduces h t n = absurd (n refl refl)
stops x y a false advance.Reduces h t n = record { stands = kept x y a h t.kept; stop = could_step a (told_at x y a advance.Reduces h t) }
stops x y a go (advance.Rests p) h t n = record { stands = kept x y a h t.kept; stop = t.splits }
stops x y a go (advance.Faults f) h t n = record { stands = kept x y a h t.kept; stop = told_at x y a (advance.Faults f) h t }
stops x y a go (advance.Needs p) h t n = record { stands = kept x y a h t.kept; stop = told_at x y a (advance.Needs p) h t }
stops x y a go (advance.Creates p) h t n = record { stands = kept x y a h t.kept; stop = told_at x y a (advance.Creates p) h t }
stops x y a go advance.Sends h t n = record { stands = kept x y a h t.kept; stop = told_at x y a advance.Sends h t }
stops x y a go advance.Serves h t n = record { stands = kept x y a h t.kept; stop = told_at x y a advance.Serves h t }
stops x y a go advance.Polls h t n = record { stands = kept x y a h t.kept; stop = told_at x y a advance.Polls h t }

pub after_stop : (x : Activity) (a : model.Activity) (go : Bool) (r : Advance) → (go ≡ true → reduces r ≡ true → ⊥) → IsStopped x a r → IsAfter x a go r
after_stop x a true advance.Reduces n s = absurd (n refl refl)
after_stop x a false advance.Reduces n s = s
after_stop x a true (advance.Rests p) n s = s
after_stop x a true (advance.Faults f) n s = s
after_stop x a true (advance.Needs p) n s = s
after_stop x a true (advance.Creates p) n s = s
after_stop x a true advance.Sends n s = s
after_stop x a true advance.Serves n s = s
after_stop x a true advance.Polls n s = s
after_stop x a false (advance.Rests p) n s = s
after_stop x a false (advance.Faults f) n s = s
after_stop x a false (advance.Needs p) n s = s
after_stop x a false (advance.Creates p) n s = s
after_stop x a false advance.Sends n s = s
after_stop x a false advance.Serves n s = s
after_stop x a false advance.Polls n s = s

pub after_step : (x : Activity) (a : model.Activity) (go : Bool) (r : Advance) → go ≡ true → reduces r ≡ true → IsStepped x a → IsAfter x a go r
after_step x a true advance.Reduces g e s = s
after_step x a true (advance.Rests p) g e s = absurd (false≢true e)
after_step x a true (advance.Faults f) g e s = absurd (false≢true e)
after_step x a true (advance.Needs p) g e s = absurd (false≢true e)
after_step x a true (advance.Creates p) g e s = absurd (false≢true e)
after_step x a true advance.Sends g e s = absurd (false≢true e)
after_step x a true advance.Serves g e s = absurd (false≢true e)
after_step x a true advance.Polls g e s = absurd (false≢true e)
after_step x a false r g e s = absurd (false≢true g)

-- the advance that took a contraction
pub reduced_advance : (k : List Rattle.code_table.specs.declared.code.Node.Node) (y : State) (a : model.Activity) (go : Bool) (r : Advance) → IsAdvance k y a.term (reverse a.services) a.store a.lines go r → go ≡ true → reduces r ≡ true → Reduced k y a.term (reverse a.services) a.store a.lines
reduced_advance k y a true advance.Reduces t g e = t
reduced_advance k y a true (advance.Rests p) t g e = absurd (false≢true e)
reduced_advance k y a true (advance.Faults f) t g e = absurd (false≢true e)
reduced_advance k y a true (advance.Needs p) t g e = absurd (false≢true e)
reduced_advance k y a true (advance.Creates p) t g e = absurd (false≢true e)
reduced_advance k y a true advance.Sends t g e = absurd (false≢true e)
reduced_advance k y a true advance.Serves t g e = absurd (false≢true e)
reduced_advance k y a true advance.Polls t g e = absurd (false≢true e)
reduced_advance k y a false r t g e = absurd (false≢true g)

halted : (x : Activity) (a b : model.Activity) (n : ℕ) (r : Advance) → LocalRun n a b → IsStopped x b r → IsHalted x a (n + 1 - 1) r
halted x a b n r run h = let same : n ≡ n + 1 - 1 = omega arith in record { here = b; run = subst (λ (i : ℕ). LocalRun i a b) same run; stopped = h }

-- behind some contractions, a step is one more, or a stop
pub next_of : (x : Activity) (a b : model.Activity) (n : ℕ) (r : Advance) → LocalRun n a b → IsAfter x b true r → IsNext x a (n + 1) r
next_of x a b n advance.Reduces run h = record { here = h.next; run = goes_on n 1 a b h.next run (h.next, h.step, refl); stands = h.stands }
next_of x a b n (advance.Rests p) run h = halted x a b n (advance.Rests p) run h
next_of x a b n (advance.Faults f) run h = halted x a b n (advance.Faults f) run h
next_of x a b n (advance.Needs p) run h = halted x a b n (advance.Needs p) run h
next_of x a b n (advance.Creates p) run h = halted x a b n (advance.Creates p) run h
next_of x a b n advance.Sends run h = halted x a b n advance.Sends run h
next_of x a b n advance.Serves run h = halted x a b n advance.Serves run h
next_of x a b n advance.Polls run h = halted x a b n advance.Polls run h

pub next_taken : (x : Activity) (a : model.Activity) (n : ℕ) (r : Advance) → IsNext x a n r → reduces r ≡ true → IsRunning x a n
next_taken x a n advance.Reduces h e = h
next_taken x a n (advance.Rests p) h e = absurd (false≢true e)
next_taken x a n (advance.Faults f) h e = absurd (false≢true e)
next_taken x a n (advance.Needs p) h e = absurd (false≢true e)
next_taken x a n (advance.Creates p) h e = absurd (false≢true e)
next_taken x a n advance.Sends h e = absurd (false≢true e)
next_taken x a n advance.Serves h e = absurd (false≢true e)
next_taken x a n advance.Polls h e = absurd (false≢true e)

-- a run that stops before all contractions were taken
pub stopped_run : (x : Activity) (a b : model.Activity) (n most m : ℕ) (r : Advance) → LocalRun n a b → n + (m - 1) ≤ most → IsNext x b m r → reduces r ≡ false → IsRun x a most r
stopped_run x a b n most m advance.Reduces run le h e = absurd (false≢true (sym e))
stopped_run x a b n most m (advance.Rests p) run le h e = record { count = n + (m - 1); end = h.here; run = goes_on n (m - 1) a b h.here run h.run; within = le; stands = h.stopped.stands; stop = h.stopped.stop; used = tt }
stopped_run x a b n most m (advance.Faults f) run le h e = record { count = n + (m - 1); end = h.here; run = goes_on n (m - 1) a b h.here run h.run; within = le; stands = h.stopped.stands; stop = h.stopped.stop; used = tt }
stopped_run x a b n most m (advance.Needs p) run le h e = record { count = n + (m - 1); end = h.here; run = goes_on n (m - 1) a b h.here run h.run; within = le; stands = h.stopped.stands; stop = h.stopped.stop; used = tt }
stopped_run x a b n most m (advance.Creates p) run le h e = record { count = n + (m - 1); end = h.here; run = goes_on n (m - 1) a b h.here run h.run; within = le; stands = h.stopped.stands; stop = h.stopped.stop; used = tt }
stopped_run x a b n most m advance.Sends run le h e = record { count = n + (m - 1); end = h.here; run = goes_on n (m - 1) a b h.here run h.run; within = le; stands = h.stopped.stands; stop = h.stopped.stop; used = tt }
stopped_run x a b n most m advance.Serves run le h e = record { count = n + (m - 1); end = h.here; run = goes_on n (m - 1) a b h.here run h.run; within = le; stands = h.stopped.stands; stop = h.stopped.stop; used = tt }
stopped_run x a b n most m advance.Polls run le h e = record { count = n + (m - 1); end = h.here; run = goes_on n (m - 1) a b h.here run h.run; within = le; stands = h.stopped.stands; stop = h.stopped.stop; used = tt }

all_used : (n : ℕ) (r : Advance) → IsUsed n n r
all_used n advance.Reduces = refl
all_used n (advance.Rests p) = tt
all_used n (advance.Faults f) = tt
all_used n (advance.Needs p) = tt
all_used n (advance.Creates p) = tt
all_used n advance.Sends = tt
all_used n advance.Serves = tt
all_used n advance.Polls = tt

stop_of : (x : Activity) (b : model.Activity) (r : Advance) → IsAfter x b false r → IsStopped x b r
stop_of x b advance.Reduces h = h
stop_of x b (advance.Rests p) h = h
stop_of x b (advance.Faults f) h = h
stop_of x b (advance.Needs p) h = h
stop_of x b (advance.Creates p) h = h
stop_of x b advance.Sends h = h
stop_of x b advance.Serves h = h
stop_of x b advance.Polls h = h

-- a run whose contractions were all taken
pub full_run : (x : Activity) (a b : model.Activity) (most : ℕ) (r : Advance) → LocalRun most a b → IsAfter x b false r → IsRun x a most r
full_run x a b most r run h =
    let s : IsStopped x b r = stop_of x b r h in
    record { count = most; end = b; run = run; within = omega arith; stands = s.stands; stop = s.stop; used = all_used most r }

-- by the code that it is
pub some_of : (k m : List Node) (old new : View) (n : ℕ) (t : Tree) (vs : List ServiceShape) → m ≡ k → Standing k old t vs → ((t : Tree) (vs : List ServiceShape) → Standing m old t vs → IsAtSome m new t vs n) → IsAtSome k new t vs n
some_of k m old new n t vs e h f = subst (λ (q : List Node). (t : Tree) (vs : List ServiceShape) → Standing q old t vs → IsAtSome q new t vs n) e f t vs h

-- the redex became a new cell
pub cell_became : (x y : Activity) (a : model.Activity) (v : View) (n p : ℕ) (contexts : List Context) (redex : Redex) (c : CodedCell) → StandsFor x a → split a.term ≡ Splits contexts redex
    → IsAtSome (arc_value x.code) v a.term (reverse a.services) n → view_of y.state.machine ≡ place_view n p v → p ≡ length x.state.store.cells → y.state.store.cells ≡ x.state.store.cells ++ c ∷ []
    → y.state.lines ≡ x.state.lines → y.code ≡ x.code → y.present ≡ x.present → y.active ≡ x.active → y.count ≡ suc x.count
    → StandsFor y (with_new_cell contexts (cell_of (arc_value x.code) c) a)
cell_became x y a v n p contexts redex c h splits at view place cells lines code present active count =
    let k : List Node = arc_value x.code in
    let size : p ≡ length a.store = place ∙ sym (length-store_of k x.state.store.cells) ∙ ap length h.state.store in
    let some : IsAtRedex k v a.term (reverse a.services) n at.redex = some_redex k v a.term (reverse a.services) n at in
    let same : some.contexts ≡ contexts = let both : Splits some.contexts at.redex ≡ Splits contexts redex = sym some.splits ∙ splits in cc in
    let standing0 : Standing k (place_view n p v) (plug some.contexts (loc p)) (reverse a.services) = some.place p in
    let standing1 : Standing k (place_view n p v) (plug contexts (loc (length a.store))) (reverse a.services) =
    subst (λ (t : Tree). Standing k (place_view n p v) t (reverse a.services)) (λ i. plug (same i) (loc (size i))) standing0 in
    let standing2 : Standing k (view_of y.state.machine) (plug contexts (loc (length a.store))) (reverse a.services) = subst (λ (w : View). Standing k w (plug contexts (loc (length a.store))) (reverse a.services)) (sym view) standing1 in
    let stored : store_of k y.state.store.cells ≡ a.store ++ cell_of k c ∷ [] = ap (store_of k) cells ∙ store_of-append k x.state.store.cells (c ∷ []) ∙ ap (λ (s : Store). s ++ cell_of k c ∷ []) h.state.store in
    let shape : Stands k y.state (plug contexts (loc (length a.store))) (reverse a.services) (a.store ++ cell_of k c ∷ []) a.lines = record { machine = standing2; store = stored; lines = ap (λ l. map line_shape l.items) lines ∙ h.state.lines } in
    record {
      state = subst (λ q. Stands (arc_value q) y.state (plug contexts (loc (length a.store))) (reverse a.services) (a.store ++ cell_of k c ∷ []) a.lines) (sym code) shape;
      present = ap (option_map held_future) present ∙ h.present;
      active = active ∙ h.active;
      count = count ∙ ap suc h.count;
    }

-- What came of a call, of which only that memory was refused is noted

pub noted_is : {T E : Type 0} (r i : Result T E) (x y : Activity) (P : Activity → T → Type 0) → r ≡ i → OnOk r (x ≡ y) → IfOk i (P y) → IfOk r (P x)
noted_is (Err e) i x y P same kept h = tt
noted_is (Ok v) i x y P same kept h =
    let here : P y v = subst (λ q. IfOk q (P y)) (sym same) h in subst (λ (z : Activity). P z v) (sym kept) here
