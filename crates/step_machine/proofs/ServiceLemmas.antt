-- Services that begin and end.
use Rattle.std.proofs.Common.{◌≡◌, ℕ, ◌+◌, ◌-◌, ◌≤◌, List, [], ◌∷◌, ◌++◌, Option, length, take, drop, reverse, refl, sym, ap, subst, ◌∙◌, arith, length-append}
use Rattle.std.proofs.lemmas.List.{reverse-append, take_all, length-take-le}
use Rattle.asp_model.specs.Names.{Text, FutureShape}
use Rattle.asp_model.specs.Term.{Call, Make, Tree, leaf, none, node, locs_then}
use Rattle.asp_model.specs.Split.{Context, plug}
use Rattle.asp_model.specs.Configuration.{ServiceShape}
use Rattle.code_table.specs.declared.code.Node.{Node}
use Rattle.code_table.specs.Fitting.{Runs, term_in}
use Rattle.code_table.specs.Pieces.{Piece, object, nothing, no_method}
use Rattle.code_table.specs.Tables.{pieces, piece_at}
use Rattle.step_machine.specs.declared.frames.Frame.{Frame}
use Rattle.step_machine.specs.declared.frames.Focus.TheVariants as focus
use Rattle.step_machine.specs.declared.frames.Form.{Form}
use Rattle.step_machine.specs.declared.frames.Form.TheVariants as form
use Rattle.step_machine.specs.Items.{Item, Suspends, Waits, contexts_of, services_of, futures_of}
use Rattle.step_machine.specs.Services.{Below, IsResumed, asked_view, marked_view, resumed_view, service_frame, suspended_view}
use Rattle.step_machine.specs.Stacks.{last, but_last, IsWithin, IsItem, IsStack}
use Rattle.step_machine.specs.Standing.{View, Standing}
use Rattle.step_machine.specs.Views.{outer}
use Rattle.step_machine.proofs.MoveLemmas.{at_focus}
use Rattle.step_machine.proofs.StackLemmas.{last_seam, but_last_seam, last_none, last_size, but_last_none}
use Rattle.step_machine.proofs.RowLemmas.{stand_node}

-- the call of a label, at places behind the operands
pub asks : (k : List Node) (v : View) (vs : List ServiceShape) (b : Below k v vs) (l : Text) (ks : List ℕ) → v.base ≤ length v.env → Standing k (asked_view l ks v) (plug (contexts_of b.items) (node (Call l) (locs_then ks none))) vs
asks k v vs b l ks low =
    let longer : length (v.operands ++ ks) ≡ length v.operands + length ks = length-append v.operands ks in
    record {
      items = b.items;
      inner = node (Call l) (locs_then ks none);
      low = low;
      enough = omega (arith, longer);
      focus = ap (λ (ns : List ℕ). node (Call l) (locs_then ns none)) (sym (last_seam v.operands ks));
      stack = subst (λ (o : List ℕ). IsStack k (reverse v.frames) v.env o b.items) (sym (but_last_seam v.operands ks)) b.stack;
      futures = b.futures;
      term = refl;
      suspended = b.suspended;
    }

-- a term that is suspended
marked : (k : List Node) (v : View) (vs : List ServiceShape) (b : Below k v vs) (f : Option FutureShape) → v.base ≤ length v.env → IsStack k (reverse (v.frames ++ service_frame v ∷ [])) v.env v.operands (Suspends f ∷ b.items)
marked k v vs b f low =
    let frame : Frame = service_frame v in
    let all : take (length v.env) v.env ≡ v.env = take_all (length v.env) v.env (omega arith) in
    let within : IsWithin frame v.env v.operands = record { low = low; high = omega arith; done = omega arith } in
    let below0 : IsStack k (reverse v.frames) (take (length v.env) v.env) v.operands b.items = subst (λ (e : List ℕ). IsStack k (reverse v.frames) e v.operands b.items) (sym all) b.stack in
    let below : IsStack k (reverse v.frames) (take (length v.env) v.env) (but_last 0 v.operands) b.items = subst (λ (o : List ℕ). IsStack k (reverse v.frames) (take (length v.env) v.env) o b.items) (sym (but_last_none v.operands)) below0 in
    let stack : IsStack k (frame ∷ reverse v.frames) v.env v.operands (Suspends f ∷ b.items) = (within, last_none v.operands, below) in
    subst (λ (fs : List Frame). IsStack k fs v.env v.operands (Suspends f ∷ b.items)) (sym (reverse-append v.frames (frame ∷ []))) stack

-- a term in contexts is suspended, and the call of a service stands alone
pub suspends : (k : List Node) (v : View) (vs : List ServiceShape) (b : Below k v vs) (f : Option FutureShape) (l : Text) (ks : List ℕ) → v.base ≤ length v.env
    → Standing k (suspended_view f l ks v) (node (Call l) (locs_then ks none)) (record { contexts = contexts_of b.items; future = f } ∷ vs)
suspends k v vs b f l ks low =
    let service : ServiceShape = record { contexts = contexts_of b.items; future = f } in
    let b1 : Below k (marked_view f v) (service ∷ vs) = record {
      items = Suspends f ∷ b.items;
      stack = marked k v vs b f low;
      futures = reverse-append v.futures (f ∷ []) ∙ ap (λ (gs : List (Option FutureShape)). f ∷ gs) b.futures;
      suspended = ap (λ (ws : List ServiceShape). service ∷ ws) b.suspended;
    } in
    asks k (marked_view f v) (service ∷ vs) b1 l ks low

-- A service that ends

-- the innermost frame, where it is a service's
record Ended (k : List Node) (f : Frame) (fs : List Frame) (env operands : List ℕ) (items : List Item) : Type 0 where
  future : Option FutureShape
  others : List Item
  are : items ≡ Suspends future ∷ others
  within : IsWithin f env operands
  below : IsStack k fs (take f.height env) operands others

none_done : (n : ℕ) (ks : List ℕ) → n ≤ length ks → last n ks ≡ [] → but_last n ks ≡ ks
none_done n ks h e =
    let size : n ≡ 0 = sym (last_size n ks h) ∙ ap length e in
    ap (λ (i : ℕ). but_last i ks) size ∙ but_last_none ks

ended : (k : List Node) (f : Frame) (fs : List Frame) (env operands : List ℕ) (xs : List Item) → f.form ≡ form.Service → IsStack k (f ∷ fs) env operands xs → Ended k f fs env operands xs
ended k f fs env operands [] e h = absurd h
ended k f fs env operands (Waits c ∷ xs) e h = absurd (subst (λ (x : Form). IsItem k (drop f.base (take f.height env)) (last f.done operands) x f.node f.from (Waits c)) e h.1)
ended k f fs env operands (Suspends g ∷ xs) e h =
    let within : IsWithin f env operands = h.0 in
    let empty : last f.done operands ≡ [] = subst (λ (x : Form). IsItem k (drop f.base (take f.height env)) (last f.done operands) x f.node f.from (Suspends g)) e h.1 in
    record {
      future = g;
      others = xs;
      are = refl;
      within = within;
      below = subst (λ (o : List ℕ). IsStack k fs (take f.height env) o xs) (none_done f.done operands within.done empty) h.2;
    }

first_same : (f g : Option FutureShape) (fs gs : List (Option FutureShape)) → f ∷ fs ≡ g ∷ gs → f ≡ g
first_same f g fs gs e = cc

others_same : (f g : Option FutureShape) (fs gs : List (Option FutureShape)) → f ∷ fs ≡ g ∷ gs → fs ≡ gs
others_same f g fs gs e = cc

-- the newest of the services, and the term that goes on
pub record Resumed (k : List Node) (w : View) (vs : List ServiceShape) (f : Option FutureShape) : Type 0 where
  pub contexts : List Context
  pub others : List ServiceShape
  pub services : vs ≡ record { contexts = contexts; future = f } ∷ others
  pub stands : Standing k w (plug contexts (leaf (Make [] []))) others

-- a service that ends leaves the term that waited, with an empty object in place of its `serve`
pub resumes : (k : List Node) (number : ℕ) (v w : View) (f : Option FutureShape) (t : Tree) (vs : List ServiceShape) → piece_at (pieces k) number ≡ object [] nothing no_method → Standing k v t vs → IsResumed number v w f → Resumed k w vs f
resumes k number v w f t vs is h0 r =
    let h : Standing k (record v { focus = focus.Place r.place }) t vs = at_focus k v (focus.Place r.place) t vs r.rests h0 in
    let fs : List Frame = reverse (outer v.frames) in
    let stack0 : IsStack k (reverse v.frames) v.env v.operands h.items = subst (λ (o : List ℕ). IsStack k (reverse v.frames) v.env o h.items) (but_last_none v.operands) h.stack in
    let frames_are : reverse v.frames ≡ r.frame ∷ fs = ap reverse r.frames ∙ reverse-append (outer v.frames) (r.frame ∷ []) in
    let e : Ended k r.frame fs v.env v.operands h.items = ended k r.frame fs v.env v.operands h.items r.service (subst (λ (l : List Frame). IsStack k l v.env v.operands h.items) frames_are stack0) in
    let gs : List (Option FutureShape) = take (length v.futures - 1) v.futures in
    let futures_are : f ∷ reverse gs ≡ e.future ∷ futures_of e.others = sym (reverse-append gs (f ∷ [])) ∙ sym (ap reverse r.futures) ∙ h.futures ∙ ap futures_of e.are in
    let service_is : vs ≡ record { contexts = contexts_of e.others; future = e.future } ∷ services_of e.others = h.suspended ∙ ap services_of e.are in
    let here : View = resumed_view r.frame number v in
    let env : List ℕ = take r.frame.height v.env in
    let b : Below k here (services_of e.others) = record { items = e.others; stack = e.below; futures = others_same f e.future (reverse gs) (futures_of e.others) futures_are; suspended = refl } in
    let size : length env ≡ r.frame.height = length-take-le r.frame.height v.env e.within.high in
    let low : r.frame.base ≤ length env = subst (λ (n : ℕ). r.frame.base ≤ n) (sym size) e.within.low in
    let ns : List ℕ = drop r.frame.base env in
    let empty : Piece = object [] nothing no_method in
    let runs : Runs [] [] ns empty = record { low = omega arith; within = tt; fits = (refl, tt, tt) } in
    let standing : Standing k here (plug (contexts_of e.others) (term_in [] [] ns (piece_at (pieces k) number))) (services_of e.others) = stand_node k here (services_of e.others) b number 0 [] [] low (subst (Runs [] [] ns) (sym is) runs) in
    let goes_on : Standing k here (plug (contexts_of e.others) (leaf (Make [] []))) (services_of e.others) = subst (λ (p : Piece). Standing k here (plug (contexts_of e.others) (term_in [] [] ns p)) (services_of e.others)) is standing in
    record {
      contexts = contexts_of e.others;
      others = services_of e.others;
      services = service_is ∙ ap (λ (g : Option FutureShape). record { contexts = contexts_of e.others; future = g } ∷ services_of e.others) (sym (first_same f e.future (reverse gs) (futures_of e.others) futures_are));
      stands = subst (λ (x : View). Standing k x (plug (contexts_of e.others) (leaf (Make [] []))) (services_of e.others)) (sym r.view) goes_on;
    }
