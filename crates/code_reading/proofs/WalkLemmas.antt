-- Walks down a stack.
use Rattle.std.proofs.Common.{◌≡◌, ℕ, ◌+◌, ◌<◌, arith, List, [], ◌∷◌, ◌++◌, Option, length, map, take, drop, reverse, refl, sym, ap, subst, ◌∙◌, append_assoc}
use Rattle.std.proofs.lemmas.List.{append-nil, reverse-append, map-append, length-append}
use Rattle.std.specs.Option.{option_map}
use Rattle.std.specs.declared.alloc.Global.{Global}
use Rattle.std.specs.declared.sync.Arc.{Arc}
use Rattle.asp_model.specs.declared.term.Term.{Term}
use Rattle.asp_model.specs.Names.{FutureShape}
use Rattle.asp_model.specs.Term.{Tree}
use Rattle.asp_model.specs.Split.{Context}
use Rattle.asp_model.specs.Configuration.{ServiceShape}
use Rattle.asp_model.specs.Shapes.{future_shape, tree_of}
use Rattle.code_table.specs.declared.code.Node.{Node}
use Rattle.code_table.specs.declared.future.Future.{Future}
use Rattle.code_table.specs.Cells.{held_future}
use Rattle.step_machine.specs.declared.frames.Frame.{Frame}
use Rattle.step_machine.specs.declared.frames.Form.{Form}
use Rattle.step_machine.specs.declared.frames.Form.TheVariants as form
use Rattle.step_machine.specs.Items.{Item, Waits, Suspends, contexts_of, services_of, futures_of}
use Rattle.step_machine.specs.Stacks.{IsItem, IsStack, last, but_last}
use Rattle.step_machine.specs.Views.{IsAlone, IsOpen}
use Rattle.code_reading.specs.declared.shown.Suspended.{Suspended}
use Rattle.code_reading.specs.Shown.{hole_tree, ServiceTerms, service_terms, service_shown, IsSegment}

-- Contexts

-- the innermost frame, where it waits for a term
pub record Opened (k : List Node) (f : Frame) (fs : List Frame) (env operands : List ℕ) (items : List Item) : Type 0 where
  pub context : Context
  pub others : List Item
  pub are : items ≡ Waits context ∷ others
  pub item : IsItem k (drop f.base (take f.height env)) (last f.done operands) f.form f.node f.from (Waits context)
  pub below : IsStack k fs (take f.height env) (but_last f.done operands) others

no_service : (k : List Node) (ns operands : List ℕ) (x : Form) (number from : ℕ) (g : Option FutureShape) → IsOpen x → IsItem k ns operands x number from (Suspends g) → ⊥
no_service k ns operands form.Terms number from g o h = h
no_service k ns operands (form.Calls s) number from g o h = h
no_service k ns operands form.Service number from g o h = o

pub opened : (k : List Node) (f : Frame) (fs : List Frame) (env operands : List ℕ) (xs : List Item) → IsOpen f.form → IsStack k (f ∷ fs) env operands xs → Opened k f fs env operands xs
opened k f fs env operands [] o h = absurd h
opened k f fs env operands (Suspends g ∷ xs) o h = absurd (no_service k (drop f.base (take f.height env)) (last f.done operands) f.form f.node f.from g o h.1)
opened k f fs env operands (Waits c ∷ xs) o h = record { context = c; others = xs; are = refl; item = h.1; below = h.2 }

pub record Walked (k : List Node) (items : List Item) (first terms : List Tree) (frames : List Frame) (env operands : List ℕ) : Type 0 where
  pub left : List Item
  pub stack : IsStack k (reverse frames) env operands left
  pub are : first ++ map hole_tree (contexts_of items) ≡ terms ++ map hole_tree (contexts_of left)
  pub services : services_of items ≡ services_of left
  pub futures : futures_of items ≡ futures_of left

pub walked_on : (k : List Node) (items : List Item) (first terms : List Tree) (frames others : List Frame) (env operands : List ℕ) (f : Frame) (t : Tree) → Walked k items first terms frames env operands
    → IsOpen f.form → frames ≡ others ++ f ∷ []
    → ((c : Context) → IsItem k (drop f.base (take f.height env)) (last f.done operands) f.form f.node f.from (Waits c) → t ≡ hole_tree c)
    → Walked k items first (terms ++ t ∷ []) others (take f.height env) (but_last f.done operands)
walked_on k items first terms frames others env operands f t w form_is are term =
    let stack : IsStack k (f ∷ reverse others) env operands w.left = subst (λ (fs : List Frame). IsStack k fs env operands w.left) (ap reverse are ∙ reverse-append others (f ∷ [])) w.stack in
    let p : Opened k f (reverse others) env operands w.left = opened k f (reverse others) env operands w.left form_is stack in
    record {
      left = p.others;
      stack = p.below;
      are = w.are ∙ ap (λ (xs : List Item). terms ++ map hole_tree (contexts_of xs)) p.are
          ∙ ap (λ (u : Tree). terms ++ u ∷ map hole_tree (contexts_of p.others)) (sym (term p.context p.item)) ∙ sym (append_assoc terms (t ∷ []) (map hole_tree (contexts_of p.others)));
      services = w.services ∙ ap services_of p.are;
      futures = w.futures ∙ ap futures_of p.are;
    }

-- a stack whose innermost frame waits for no term begins with a service
pub alone_contexts : (k : List Node) (fs : List Frame) (env operands : List ℕ) (xs : List Item) → IsAlone fs → IsStack k fs env operands xs → contexts_of xs ≡ []
alone_contexts k [] env operands [] a s = refl
alone_contexts k [] env operands (x ∷ xs) a s = absurd s
alone_contexts k (f ∷ fs) env operands [] a s = absurd s
alone_contexts k (f ∷ fs) env operands (Waits c ∷ xs) a s =
    absurd (subst (λ (x : Form). IsItem k (drop f.base (take f.height env)) (last f.done operands) x f.node f.from (Waits c)) a s.1)
alone_contexts k (f ∷ fs) env operands (Suspends g ∷ xs) a s = refl

pub walked_all : (k : List Node) (items : List Item) (first terms : List Tree) (frames : List Frame) (env operands : List ℕ) → Walked k items first terms frames env operands → IsAlone (reverse frames) → IsSegment k items first terms frames env operands
walked_all k items first terms frames env operands w alone = record {
  left = w.left;
  stack = w.stack;
  alone = alone;
  are = sym (w.are ∙ ap (λ (cs : List Context). terms ++ map hole_tree cs) (alone_contexts k (reverse frames) env operands w.left alone w.stack) ∙ append-nil terms);
  services = w.services;
  futures = w.futures;
}

-- Services

abbrev pub seen_futures : List (Option (Arc Future Global)) → List (Option FutureShape)
seen_futures names = reverse (map (option_map held_future) names)

pub record Found (k : List Node) (items : List Item) (found : List Suspended) (names : List (Option (Arc Future Global))) (frames : List Frame) (env operands : List ℕ) : Type 0 where
  pub left : List Item
  pub stack : IsStack k (reverse frames) env operands left
  pub alone : IsAlone (reverse frames)
  pub futures : seen_futures names ≡ futures_of left
  pub shown : map service_terms (services_of items) ≡ map service_shown found ++ map service_terms (services_of left)

-- the service that a stack begins with
pub record Passed (k : List Node) (f : Frame) (others : List Frame) (env operands : List ℕ) (left : List Item) : Type 0 where
  pub future : Option FutureShape
  pub below : List Item
  pub are : left ≡ Suspends future ∷ below
  pub stack : IsStack k (reverse others) (take f.height env) (but_last f.done operands) below

passes : (k : List Node) (f : Frame) (fs : List Frame) (env operands : List ℕ) (xs : List Item) → f.form ≡ form.Service → IsStack k (f ∷ fs) env operands xs
    → (future : Option FutureShape) × (below : List Item) × (xs ≡ Suspends future ∷ below) × IsStack k fs (take f.height env) (but_last f.done operands) below
passes k f fs env operands [] a s = absurd s
passes k f fs env operands (Waits c ∷ xs) a s = absurd (subst (λ (x : Form). IsItem k (drop f.base (take f.height env)) (last f.done operands) x f.node f.from (Waits c)) a s.1)
passes k f fs env operands (Suspends g ∷ xs) a s = (g, xs, refl, s.2)

pub passed : (k : List Node) (f : Frame) (frames others : List Frame) (env operands : List ℕ) (left : List Item) → frames ≡ others ++ f ∷ [] → IsAlone (reverse frames) → IsStack k (reverse frames) env operands left → Passed k f others env operands left
passed k f frames others env operands left are alone stack =
    let is : reverse frames ≡ f ∷ reverse others = ap reverse are ∙ reverse-append others (f ∷ []) in
    let p = passes k f (reverse others) env operands left (subst IsAlone is alone) (subst (λ (fs : List Frame). IsStack k fs env operands left) is stack) in
    record { future = p.0; below = p.1; are = p.2; stack = p.3 }

abbrev first_future : List (Option FutureShape) → Option FutureShape → Option FutureShape
first_future [] d = d
first_future (f ∷ fs) d = f

abbrev other_futures : List (Option FutureShape) → List (Option FutureShape)
other_futures [] = []
other_futures (f ∷ fs) = fs

newest_seen : (names older : List (Option (Arc Future Global))) (x : Option (Arc Future Global)) → names ≡ older ++ x ∷ [] → seen_futures names ≡ option_map held_future x ∷ seen_futures older
newest_seen names older x e =
    ap seen_futures e ∙ ap reverse (map-append (option_map held_future) older (x ∷ [])) ∙ reverse-append (map (option_map held_future) older) (option_map held_future x ∷ [])

-- one more service, the contexts of which are a segment
pub found_more : (k : List Node) (items : List Item) (found : List Suspended) (names older : List (Option (Arc Future Global))) (x : Option (Arc Future Global)) (frames others : List Frame) (env operands : List ℕ) (f : Frame) (s : Suspended)
    (w : Found k items found names frames env operands) (p : Passed k f others env operands w.left) (inner : List Frame) (low ops : List ℕ)
    → names ≡ older ++ x ∷ [] → option_map future_shape s.future ≡ option_map held_future x
    → (terms : List Tree) → terms ≡ map tree_of s.contexts.items → IsSegment k p.below [] terms inner low ops
    → Found k items (found ++ s ∷ []) older inner low ops
found_more k items found names older x frames others env operands f s w p inner low ops split same terms terms_are seg =
    let futures : option_map held_future x ∷ seen_futures older ≡ p.future ∷ futures_of p.below = sym (newest_seen names older x split) ∙ w.futures ∙ ap futures_of p.are in
    let first : option_map future_shape s.future ≡ p.future = same ∙ ap (λ (fs : List (Option FutureShape)). first_future fs p.future) futures in
    let service : ServiceShape = record { contexts = contexts_of p.below; future = p.future } in
    let shown : service_terms service ≡ service_shown s = λ i. ((sym seg.are ∙ terms_are) i, sym first i) in
    record {
      left = seg.left;
      stack = seg.stack;
      alone = seg.alone;
      futures = ap other_futures futures ∙ seg.futures;
      shown = w.shown ∙ ap (λ (xs : List Item). map service_shown found ++ map service_terms (services_of xs)) p.are
          ∙ (λ i. map service_shown found ++ shown i ∷ map service_terms (seg.services i))
          ∙ sym (ap (λ (xs : List ServiceTerms). xs ++ map service_terms (services_of seg.left)) (map-append service_shown found (s ∷ [])) ∙ append_assoc (map service_shown found) (service_shown s ∷ []) (map service_terms (services_of seg.left)));
    }

none_left : (k : List Node) (env operands : List ℕ) (xs : List Item) → IsStack k [] env operands xs → services_of xs ≡ []
none_left k env operands [] s = refl
none_left k env operands (x ∷ xs) s = absurd s

map_reverse : {A B : Type 0} (f : A → B) (xs : List A) → map f (reverse xs) ≡ reverse (map f xs)
map_reverse f [] = refl
map_reverse {B = B} f (x ∷ xs) =
    ap (map f) (reverse-append (x ∷ []) xs) ∙ map-append f (reverse xs) (x ∷ []) ∙ ap (λ (ys : List B). ys ++ f x ∷ []) (map_reverse f xs)
    ∙ sym (reverse-append (f x ∷ []) (map f xs))

-- all services
pub found_all : (k : List Node) (items : List Item) (found : List Suspended) (names : List (Option (Arc Future Global))) (frames : List Frame) (env operands : List ℕ) → Found k items found names frames env operands → frames ≡ []
    → map service_shown (reverse found) ≡ map service_terms (reverse (services_of items))
found_all k items found names frames env operands w none =
    let stack : IsStack k [] env operands w.left = subst (λ (fs : List Frame). IsStack k (reverse fs) env operands w.left) none w.stack in
    let all : map service_shown found ≡ map service_terms (services_of items) =
    sym (w.shown ∙ ap (λ (ss : List ServiceShape). map service_shown found ++ map service_terms ss) (none_left k env operands w.left stack) ∙ append-nil (map service_shown found)) in
    map_reverse service_shown found ∙ ap reverse all ∙ sym (map_reverse service_terms (services_of items))

-- where the measure falls
pub fewer : (frames others : List Frame) (f : Frame) → frames ≡ others ++ f ∷ [] → length others < length frames
fewer frames others f e =
    let size : length (others ++ f ∷ []) ≡ length others + 1 = length-append others (f ∷ []) in
    let same : length frames ≡ length (others ++ f ∷ []) = ap length e in omega (arith, size, same)

-- Steps of the two walks

pub segment_step : (k : List Node) (items : List Item) (first : List Tree) (terms more_terms : List Term) (frames others : List Frame) (env operands : List ℕ) (f : Frame) (t : Term) → Walked k items first (map tree_of terms) frames env operands
    → IsOpen f.form → frames ≡ others ++ f ∷ [] → ((c : Context) → IsItem k (drop f.base (take f.height env)) (last f.done operands) f.form f.node f.from (Waits c) → tree_of t ≡ hole_tree c)
    → more_terms ≡ terms ++ t ∷ [] → (fs : List Frame) (low ops : List ℕ) → fs ≡ others → low ≡ take f.height env → ops ≡ but_last f.done operands
    → Walked k items first (map tree_of more_terms) fs low ops
segment_step k items first terms more_terms frames others env operands f t w form_is are term grown fs low ops fs_is low_is ops_is =
    let next : Walked k items first (map tree_of terms ++ tree_of t ∷ []) others (take f.height env) (but_last f.done operands) = walked_on k items first (map tree_of terms) frames others env operands f (tree_of t) w form_is are term in
    let trees_are : map tree_of terms ++ tree_of t ∷ [] ≡ map tree_of more_terms = sym (ap (map tree_of) grown ∙ map-append tree_of terms (t ∷ [])) in
    subst (λ (us : List Tree). Walked k items first us fs low ops) trees_are
    (subst (λ (gs : List Frame). Walked k items first (map tree_of terms ++ tree_of t ∷ []) gs low ops) (sym fs_is)
    (subst (λ (l : List ℕ). Walked k items first (map tree_of terms ++ tree_of t ∷ []) others l ops) (sym low_is)
    (subst (λ (l : List ℕ). Walked k items first (map tree_of terms ++ tree_of t ∷ []) others (take f.height env) l) (sym ops_is) next)))

pub services_step : (k : List Node) (items : List Item) (found : List Suspended) (names older : List (Option (Arc Future Global))) (x : Option (Arc Future Global)) (frames others : List Frame) (env operands : List ℕ) (f : Frame) (s : Suspended)
    → Found k items found names frames env operands → frames ≡ others ++ f ∷ [] → names ≡ older ++ x ∷ [] → option_map future_shape s.future ≡ option_map held_future x
    → (fs : List Frame) (low ops : List ℕ) → fs ≡ others → low ≡ take f.height env → ops ≡ but_last f.done operands
    → (inner : List Frame) (left_env left_ops : List ℕ) → ((xs : List Item) → IsStack k (reverse fs) low ops xs → IsSegment k xs [] (map tree_of s.contexts.items) inner left_env left_ops)
    → (more_found : List Suspended) → more_found ≡ found ++ s ∷ [] → Found k items more_found older inner left_env left_ops
services_step k items found names older x frames others env operands f s w are split same fs low ops fs_is low_is ops_is inner left_env left_ops segment more_found grown =
    let p : Passed k f others env operands w.left = passed k f frames others env operands w.left are w.alone w.stack in
    let stack : IsStack k (reverse fs) low ops p.below =
    subst (λ (gs : List Frame). IsStack k (reverse gs) low ops p.below) (sym fs_is)
    (subst (λ (l : List ℕ). IsStack k (reverse others) l ops p.below) (sym low_is) (subst (λ (l : List ℕ). IsStack k (reverse others) (take f.height env) l p.below) (sym ops_is) p.stack)) in
    let next : Found k items (found ++ s ∷ []) older inner left_env left_ops =
    found_more k items found names older x frames others env operands f s w p inner left_env left_ops split same (map tree_of s.contexts.items) refl (segment p.below stack) in
    subst (λ (ss : List Suspended). Found k items ss older inner left_env left_ops) (sym grown) next
