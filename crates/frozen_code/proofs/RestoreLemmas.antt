-- Frames that are made anew, from the outermost inward.
use Rattle.std.proofs.Common.{◌≡◌, Result, Ok, Err, OnOk, ℕ, suc, ◌+◌, ◌-◌, ◌≤◌, List, [], ◌∷◌, ◌++◌, Option, length, take, drop, reverse, refl, sym, ap, subst, ◌∙◌, arith, length-append, append_assoc}
use Rattle.std.proofs.lemmas.List.{append-nil, reverse-append, reverse-reverse, take_all}
use Rattle.std.proofs.Math.Seq.{drop-append_seam}
use Rattle.std.specs.Option.{option_map}
use Rattle.asp_model.specs.Names.{FutureShape}
use Rattle.asp_model.specs.Term.{Tree, loc}
use Rattle.asp_model.specs.Split.{Context, Redex, plug}
use Rattle.asp_model.specs.Configuration.{ServiceShape}
use Rattle.code_table.specs.Cells.{held_future}
use Rattle.code_table.specs.declared.code.Node.{Node}
use Rattle.code_laws.specs.Splitting.{redex_node, IsContext, IsRedex}
use Rattle.step_machine.specs.declared.frames.Frame.{Frame}
use Rattle.step_machine.specs.declared.frames.Focus.TheVariants as focus
use Rattle.step_machine.specs.declared.frames.Form.TheVariants as form
use Rattle.step_machine.specs.Items.{Item, Suspends, Waits, contexts_of}
use Rattle.step_machine.specs.Services.{Below}
use Rattle.step_machine.specs.Stacks.{IsStack, IsWaiting, IsWithin, last, but_last}
use Rattle.step_machine.specs.Standing.{IsBegun, Standing, View}
use Rattle.step_machine.proofs.StackLemmas.{last_none, last_seam, but_last_none, but_last_seam, stack_grows}
use Rattle.frozen_code.specs.Held.{HoldsContext, HoldsRedex, IsHeld}
use Rattle.frozen_code.specs.declared.held.Held.{Held}
use Rattle.frozen_code.specs.declared.machines.Innermost.{Innermost}
use Rattle.frozen_code.specs.declared.machines.Innermost.TheVariants as innermost
use Rattle.frozen_code.specs.declared.machines.Suspended.{Suspended}
use Rattle.frozen_code.specs.Restoring.{HasItem, HasItems, HasServed, HasSome, HoldAll, HoldServices, HoldsInnermost, HoldsService, IsBare, begun_view, empty_view, held_frame, held_view, rested_view, served_frame, served_view, stacked, waiting_on}
use Rattle.frozen_code.proofs.HeldLemmas.{begun, waits}

-- the frame of a context stands inside the others
pub holds : (k : List Node) (v : View) (vs : List ServiceShape) (b : Below k v vs) (number : ℕ) (ns done : List ℕ) (c : Context) → HoldsContext k number ns done c
    → HasItem k v (held_view number ns done v) vs vs b (Waits c)
holds k v vs b number ns done c h =
    let frame : Frame = held_frame number ns done v in
    let env : List ℕ = v.env ++ ns in
    let operands : List ℕ = v.operands ++ done in
    let wide : length env ≡ length v.env + length ns = length-append v.env ns in
    let more : length operands ≡ length v.operands + length done = length-append v.operands done in
    let whole : take (length env) env ≡ env = take_all (length env) env (omega arith) in
    let own : drop (length v.env) (take (length env) env) ≡ ns = ap (drop (length v.env)) whole ∙ drop-append_seam v.env ns in
    let held : IsHeld k number ns c.head (suc (length c.before)) c.behind = subst (λ (n : ℕ). IsHeld k number ns c.head (suc n) c.behind) (ap length (sym h.0)) h.2 in
    let waiting0 : IsWaiting k ns done number 0 c = subst (λ (l : List ℕ). IsWaiting k ns l number 0 c) h.0 (waits k number ns c h.1 held) in
    let waiting1 : IsWaiting k (drop (length v.env) (take (length env) env)) done number 0 c = subst (λ (l : List ℕ). IsWaiting k l done number 0 c) (sym own) waiting0 in
    let waiting : IsWaiting k (drop (length v.env) (take (length env) env)) (last (length done) operands) number 0 c = subst (λ (l : List ℕ). IsWaiting k (drop (length v.env) (take (length env) env)) l number 0 c) (sym (last_seam v.operands done)) waiting1 in
    let within : IsWithin frame env operands = record { low = omega (arith, wide); high = omega arith; done = omega (arith, more) } in
    let grown : IsStack k (reverse v.frames) env v.operands b.items = stack_grows k (reverse v.frames) v.env v.operands ns b.items b.stack in
    let cut : IsStack k (reverse v.frames) (take (length env) env) v.operands b.items = subst (λ (l : List ℕ). IsStack k (reverse v.frames) l v.operands b.items) (sym whole) grown in
    let below : IsStack k (reverse v.frames) (take (length env) env) (but_last (length done) operands) b.items = subst (λ (l : List ℕ). IsStack k (reverse v.frames) (take (length env) env) l b.items) (sym (but_last_seam v.operands done)) cut in
    let stack : IsStack k (frame ∷ reverse v.frames) env operands (Waits c ∷ b.items) = (within, waiting, below) in
    record {
      below = record {
        items = Waits c ∷ b.items;
        stack = subst (λ (fs : List Frame). IsStack k fs env operands (Waits c ∷ b.items)) (sym (reverse-append v.frames (frame ∷ []))) stack;
        futures = b.futures;
        suspended = b.suspended;
      };
      items = refl;
    }

-- and a redex inside all of them makes the whole term
pub stands : (k : List Node) (v : View) (vs : List ServiceShape) (b : Below k v vs) (number : ℕ) (ns done : List ℕ) (r : Redex) → HoldsRedex k number ns done r
    → Standing k (begun_view number ns done v) (plug (contexts_of b.items) (redex_node r)) vs
stands k v vs b number ns done r h =
    let env : List ℕ = v.env ++ ns in
    let operands : List ℕ = v.operands ++ done in
    let wide : length env ≡ length v.env + length ns = length-append v.env ns in
    let more : length operands ≡ length v.operands + length done = length-append v.operands done in
    let held : IsHeld k number ns r.head (length r.places) r.behind = subst (λ (n : ℕ). IsHeld k number ns r.head n r.behind) (ap length (sym h.0)) h.2 in
    let begun0 : IsBegun k ns done number 0 (redex_node r) = subst (λ (l : List ℕ). IsBegun k ns l number 0 (redex_node r)) h.0 (begun k number ns r h.1 held) in
    let begun1 : IsBegun k (drop (length v.env) env) done number 0 (redex_node r) = subst (λ (l : List ℕ). IsBegun k l done number 0 (redex_node r)) (sym (drop-append_seam v.env ns)) begun0 in
    let grown : IsStack k (reverse v.frames) env v.operands b.items = stack_grows k (reverse v.frames) v.env v.operands ns b.items b.stack in
    record {
      items = b.items;
      inner = redex_node r;
      low = omega (arith, wide);
      enough = omega (arith, more);
      focus = subst (λ (l : List ℕ). IsBegun k (drop (length v.env) env) l number 0 (redex_node r)) (sym (last_seam v.operands done)) begun1;
      stack = subst (λ (l : List ℕ). IsStack k (reverse v.frames) env l b.items) (sym (but_last_seam v.operands done)) grown;
      futures = b.futures;
      term = refl;
      suspended = b.suspended;
    }

-- what holds of a view holds after a call that leaves that view
pub on_view : {A E V : Type 0} (r : Result A E) (new view : V) (P : V → Type 0) → OnOk r (new ≡ view) → P view → OnOk r (P new)
on_view (Ok a) new view P e h = subst P (sym e) h
on_view (Err x) new view P e h = tt

-- one more of the nodes is held
pub one_more : (k : List Node) (vs : List ServiceShape) (first old new : View) (b : Below k first vs) (cs : List Context) (x : Held) (left : List Held)
    → (s : HasSome k (x ∷ left) first old vs b cs)
    → ((c : Context) (now : Below k old vs) → HoldsContext k x.node x.places.items x.done.items c → HasItem k old new vs vs now (Waits c))
    → HasSome k left first new vs b cs
one_more k vs first old new b cs x left s step = by s.rest s.holds s.items
  where
    by : (rest : List Context) → HoldAll k (x ∷ left) rest → stacked rest s.below.items ≡ stacked cs b.items → HasSome k left first new vs b cs
    by [] h e = absurd h
    by (c ∷ rest) h e =
        let i : HasItem k old new vs vs s.below (Waits c) = step c s.below h.0 in
        record { rest = rest; holds = h.1; below = i.below; items = ap (stacked rest) i.items ∙ e }

-- all of them are
pub all_held : (k : List Node) (vs : List ServiceShape) (first new : View) (b : Below k first vs) (cs : List Context) → HasSome k [] first new vs b cs → HasItems k first new vs b cs
all_held k vs first new b cs s = by s.rest s.holds s.items
  where
    by : (rest : List Context) → HoldAll k [] rest → stacked rest s.below.items ≡ stacked cs b.items → HasItems k first new vs b cs
    by [] h e = record { below = s.below; items = e }
    by (c ∷ rest) h e = absurd h

-- the contexts so far wait for the end of a service
pub serves : (k : List Node) (v : View) (vs : List ServiceShape) (b : Below k v vs) (f : Option FutureShape)
    → HasItem k v (served_view f v) vs (record { contexts = contexts_of b.items; future = f } ∷ vs) b (Suspends f)
serves k v vs b f =
    let frame : Frame = served_frame v in
    let service : ServiceShape = record { contexts = contexts_of b.items; future = f } in
    let all : take (length v.env) v.env ≡ v.env = take_all (length v.env) v.env (omega arith) in
    let within : IsWithin frame v.env v.operands = record { low = omega arith; high = omega arith; done = omega arith } in
    let below0 : IsStack k (reverse v.frames) (take (length v.env) v.env) v.operands b.items = subst (λ (e : List ℕ). IsStack k (reverse v.frames) e v.operands b.items) (sym all) b.stack in
    let below : IsStack k (reverse v.frames) (take (length v.env) v.env) (but_last 0 v.operands) b.items = subst (λ (o : List ℕ). IsStack k (reverse v.frames) (take (length v.env) v.env) o b.items) (sym (but_last_none v.operands)) below0 in
    let stack : IsStack k (frame ∷ reverse v.frames) v.env v.operands (Suspends f ∷ b.items) = (within, last_none v.operands, below) in
    record {
      below = record {
        items = Suspends f ∷ b.items;
        stack = subst (λ (fs : List Frame). IsStack k fs v.env v.operands (Suspends f ∷ b.items)) (sym (reverse-append v.frames (frame ∷ []))) stack;
        futures = reverse-append v.futures (f ∷ []) ∙ ap (λ (gs : List (Option FutureShape)). f ∷ gs) b.futures;
        suspended = ap (λ (ws : List ServiceShape). service ∷ ws) b.suspended;
      };
      items = refl;
    }

-- or the term is a place
pub rests : (k : List Node) (v : View) (vs : List ServiceShape) (b : Below k v vs) (place : ℕ) → Standing k (rested_view place v) (plug (contexts_of b.items) (loc place)) vs
rests k v vs b place = record {
  items = b.items;
  inner = loc place;
  low = omega arith;
  enough = omega arith;
  focus = refl;
  stack = subst (λ (l : List ℕ). IsStack k (reverse v.frames) v.env l b.items) (sym (but_last_none v.operands)) b.stack;
  futures = b.futures;
  term = refl;
  suspended = b.suspended;
}

-- Whole machines

-- what follows where a call succeeds
pub on_ok : {A E P Q : Type 0} (r : Result A E) → (P → Q) → OnOk r P → OnOk r Q
on_ok (Ok a) f h = f h
on_ok (Err x) f h = tt

first_last : (A : Type 0) (x : A) (xs ys : List A) → reverse xs ++ x ∷ ys ≡ reverse (x ∷ xs) ++ ys
first_last A x xs ys = sym (append_assoc (reverse xs) (x ∷ []) ys) ∙ ap (λ (zs : List A). zs ++ ys) (sym (reverse-append (x ∷ []) xs))

-- the contexts of a stack, innermost first
pub stacked_contexts : (cs : List Context) (xs : List Item) → contexts_of (stacked cs xs) ≡ reverse cs ++ contexts_of xs
stacked_contexts [] xs = refl
stacked_contexts (c ∷ cs) xs = stacked_contexts cs (Waits c ∷ xs) ∙ first_last Context c cs (contexts_of xs)

pub waiting_is : (vs ws : List ServiceShape) → waiting_on vs ws ≡ reverse vs ++ ws
waiting_is [] ws = refl
waiting_is (v ∷ vs) ws = waiting_is vs (v ∷ ws) ∙ first_last ServiceShape v vs ws

-- contexts alone, where none stood before
pub bare_contexts : (k : List Node) (old new : View) (vs : List ServiceShape) (s : IsBare k old vs) (cs : List Context) (h : HasItems k old new vs s.below (reverse cs)) → contexts_of h.below.items ≡ cs
bare_contexts k old new vs s cs h = ap contexts_of h.items ∙ stacked_contexts (reverse cs) s.below.items ∙ ap (λ (l : List Context). reverse (reverse cs) ++ l) s.bare ∙ append-nil (reverse (reverse cs)) ∙ reverse-reverse cs

-- one service more is suspended
pub suspends : (k : List Node) (old mid new : View) (vs : List ServiceShape) (v : ServiceShape) (f : Option FutureShape) (s : IsBare k old vs) (h : HasItems k old mid vs s.below (reverse v.contexts)) → f ≡ v.future
    → HasItem k mid new vs (record { contexts = contexts_of h.below.items; future = f } ∷ vs) h.below (Suspends f) → IsBare k new (v ∷ vs)
suspends k old mid new vs v f s h e x =
    let same : contexts_of h.below.items ≡ v.contexts = bare_contexts k old mid vs s v.contexts h in
    let bare : IsBare k new (record { contexts = contexts_of h.below.items; future = f } ∷ vs) = record { below = x.below; bare = ap contexts_of x.items } in
    subst (λ (w : ServiceShape). IsBare k new (w ∷ vs)) (λ i. record { contexts = same i; future = e i }) bare

-- one more of the services waits
pub one_served : (k : List Node) (ws vs : List ServiceShape) (old new : View) (x : Suspended) (left : List Suspended) → HasServed k (x ∷ left) old ws vs
    → ((us : List ServiceShape) (v : ServiceShape) → IsBare k old us → HoldsService k x v → IsBare k new (v ∷ us)) → HasServed k left new ws vs
one_served k ws vs old new x left s step = by s.rest s.holds s.all
  where
    by : (rest : List ServiceShape) → HoldServices k (x ∷ left) rest → waiting_on rest s.served ≡ waiting_on vs ws → HasServed k left new ws vs
    by [] h e = absurd h
    by (v ∷ rest) h e = record { rest = rest; served = v ∷ s.served; holds = h.1; bare = step s.served v s.bare h.0; all = e }

-- all of them do
pub all_served : (k : List Node) (ws vs : List ServiceShape) (new : View) → HasServed k [] new ws vs → IsBare k new (waiting_on vs ws)
all_served k ws vs new s = by s.rest s.holds s.all
  where
    by : (rest : List ServiceShape) → HoldServices k [] rest → waiting_on rest s.served ≡ waiting_on vs ws → IsBare k new (waiting_on vs ws)
    by [] h e = subst (IsBare k new) e s.bare
    by (v ∷ rest) h e = absurd h

-- none waits and no context stands at the beginning
pub bare_empty : (k : List Node) → IsBare k empty_view []
bare_empty k = record { below = record { items = []; stack = refl; futures = refl; suspended = refl }; bare = refl }
