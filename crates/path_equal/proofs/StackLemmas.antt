-- Walks over a stack, inward and outward.
use Rattle.std.proofs.Common.{◌≡◌, ℕ, zero, suc, ◌+◌, ◌-◌, ◌<◌, ◌≤◌, List, [], ◌∷◌, ◌++◌, length, take, drop, reverse, get_or, slice_get, refl, sym, ap, subst, ◌∙◌, arith, append_assoc, length-append, length-drop}
use Rattle.std.proofs.lemmas.List.{append-nil, drop-take, length-take-le, reverse-append, take-take, take_all}
use Rattle.std.specs.List.{flat_map}
use Rattle.asp_model.specs.Configuration.{ServiceShape}
use Rattle.asp_model.specs.Split.{Context, plug, plugged, reduced_count}
use Rattle.asp_model.specs.Term.{Head, Loc, Tree, Trees, loc, more, own_locations, locations, locations_below, locs_then}
use Rattle.code_table.specs.declared.code.Node.{Node}
use Rattle.code_laws.specs.Splitting.{AreContexts, IsContext}
use Rattle.step_machine.specs.declared.frames.Form.{Form}
use Rattle.step_machine.specs.declared.frames.Form.TheVariants as form
use Rattle.step_machine.specs.declared.frames.Frame.{Frame}
use Rattle.step_machine.specs.Items.{Item, Waits, Suspends, contexts_of, services_of}
use Rattle.step_machine.specs.Stacks.{IsItem, IsStack, IsWithin, last, but_last, piece_from}
use Rattle.step_machine.specs.declared.machine.Machine.{Machine}
use Rattle.step_machine.specs.Standing.{Standing, taken, view_of}
use Rattle.step_machine.specs.Views.{IsAlone, IsOpen}
use Rattle.step_machine.proofs.MoveLemmas.{are_contexts}
use Rattle.code_reading.proofs.WalkLemmas.{Opened, opened, alone_contexts}
use Rattle.def_paths.specs.Agree.{places_in, places_round}
use Rattle.path_equal.specs.declared.search.Search.{Search}
use Rattle.path_equal.specs.declared.search.Search.TheVariants as search
use Rattle.path_equal.specs.declared.stack.Part.{Part}
use Rattle.path_equal.specs.declared.stack.Part.TheVariants as part
use Rattle.path_equal.specs.Contexts.{next_before, next_service, part_places, parts_places, places_before}
use Rattle.path_equal.specs.Searches.{searched, place_found}
use Rattle.path_equal.proofs.ContextLemmas.{drop_twice, head_own, locs_below}
use Rattle.path_equal.proofs.HeldLemmas.{flat_append, take_one}
use Rattle.path_equal.proofs.SearchLemmas.{nth_found, searched_both}

-- Terms in contexts

no_own : (h : Head) (ts : Trees) (n : ℕ) → n < reduced_count h ts → own_locations h ≡ []
no_own (Loc m) ts n lt = absurd (omega (arith, lt))
no_own h ts n lt = refl

pub context_own : (c : Context) → IsContext c → own_locations c.head ≡ []
context_own c h = no_own c.head (locs_then c.before (more (loc 0) c.behind)) (length c.before) h

-- what a frame stands for is no location
pub item_own : (k : List Node) (ns own : List ℕ) (g : Form) (number from : ℕ) (c : Context) → IsItem k ns own g number from (Waits c) → own_locations c.head ≡ []
item_own k ns own form.Terms number from c w = ap (λ (x : Context). own_locations x.head) w.is ∙ head_own w.names w.scope (length ns) (piece_from k number from) w.runs.fits
item_own k ns own (form.Calls s) number from c d = ap (λ (x : Context). own_locations x.head) d.is
item_own k ns own form.Service number from c h = absurd h

plugged_found : (c : Context) (t : Tree) → IsContext c → locations (plugged c t) ≡ c.before ++ (locations t ++ locations_below c.behind)
plugged_found c t h = ap (λ (xs : List ℕ). xs ++ locations_below (locs_then c.before (more t c.behind))) (context_own c h) ∙ locs_below c.before (more t c.behind)

abbrev behind_of : Context → List ℕ
behind_of c = locations_below c.behind

-- before the term, in it, and behind it
pub plug_found : (cs : List Context) (t : Tree) → AreContexts cs → locations (plug cs t) ≡ places_before cs ++ (locations t ++ flat_map behind_of cs)
plug_found [] t h = sym (append-nil (locations t))
plug_found (c ∷ cs) t h =
    let inner : List ℕ = locations t in
    let own : List ℕ = locations_below c.behind in
    let outer : List ℕ = flat_map behind_of cs in
    plug_found cs (plugged c t) h.1
    ∙ ap (λ (xs : List ℕ). places_before cs ++ (xs ++ outer)) (plugged_found c t h.0)
    ∙ ap (λ (xs : List ℕ). places_before cs ++ xs) (append_assoc c.before (inner ++ own) outer ∙ ap (λ (xs : List ℕ). c.before ++ xs) (append_assoc inner own outer))
    ∙ sym (append_assoc (places_before cs) c.before (inner ++ (own ++ outer)))

pub round_found : (c : Context) (start middle end : Search) → own_locations c.head ≡ [] → middle ≡ searched c.before start → end ≡ searched (locations_below c.behind) middle → end ≡ searched (places_round c) start
round_found c start middle end own first last =
    last ∙ ap (searched (locations_below c.behind)) first
    ∙ sym (ap (λ (xs : List ℕ). searched (xs ++ (c.before ++ locations_below c.behind)) start) own ∙ searched_both c.before (locations_below c.behind) start)

-- Outward

pub record Walked (k : List Node) (p : Part) (items : List Item) (start search : Search) (frames : List Frame) (env operands : List ℕ) : Type 0 where
  pub left : List Item
  pub stack : IsStack k (reverse frames) env operands left
  pub are : searched (parts_places p (contexts_of left)) search ≡ searched (parts_places p (contexts_of items)) start

pub walked_on : (k : List Node) (p : Part) (items : List Item) (start old new : Search) (frames others : List Frame) (env operands : List ℕ) (f : Frame) → Walked k p items start old frames env operands → IsOpen f.form → frames ≡ others ++ f ∷ []
    → ((c : Context) → IsItem k (drop f.base (take f.height env)) (last f.done operands) f.form f.node f.from (Waits c) → new ≡ searched (part_places p c) old)
    → (fs : List Frame) (low ops : List ℕ) → fs ≡ others → low ≡ take f.height env → ops ≡ but_last f.done operands → Walked k p items start new fs low ops
walked_on k p items start old new frames others env operands f w form_is are step fs low ops fs_is low_is ops_is =
    let stack : IsStack k (f ∷ reverse others) env operands w.left = subst (λ (gs : List Frame). IsStack k gs env operands w.left) (ap reverse are ∙ reverse-append others (f ∷ [])) w.stack in
    let o : Opened k f (reverse others) env operands w.left = opened k f (reverse others) env operands w.left form_is stack in
    let rest : List ℕ = parts_places p (contexts_of o.others) in
    record {
      left = o.others;
      stack = subst (λ (gs : List Frame). IsStack k (reverse gs) low ops o.others) (sym fs_is)
          (subst (λ (l : List ℕ). IsStack k (reverse others) l ops o.others) (sym low_is) (subst (λ (l : List ℕ). IsStack k (reverse others) (take f.height env) l o.others) (sym ops_is) o.below));
      are = ap (searched rest) (step o.context o.item) ∙ sym (searched_both (part_places p o.context) rest old)
          ∙ sym (ap (λ (xs : List Item). searched (parts_places p (contexts_of xs)) old) o.are) ∙ w.are;
    }

pub walked_all : (k : List Node) (p : Part) (items : List Item) (start search : Search) (frames : List Frame) (env operands : List ℕ) → Walked k p items start search frames env operands → IsAlone (reverse frames) → search ≡ searched (parts_places p (contexts_of items)) start
walked_all k p items start search frames env operands w alone =
    sym (ap (λ (cs : List Context). searched (parts_places p cs) search) (alone_contexts k (reverse frames) env operands w.left alone w.stack)) ∙ w.are

pub fewer : (frames others fs : List Frame) (f : Frame) → frames ≡ others ++ f ∷ [] → fs ≡ others → length fs < length frames
fewer frames others fs f e same =
    let size : length frames ≡ length others + 1 = ap length e ∙ length-append others (f ∷ []) in
    let less : length fs ≡ length others = ap length same in omega (arith, size, less)

-- Inward

-- what is read past the last frame
abbrev pub no_frame : Frame
no_frame = record { form = form.Terms; node = 0; from = 0; done = 0; base = 0; height = 0 }

-- at a frame from the outermost, whatever the first frames stand for, with the operands of the others
abbrev pub Reached : List Node → List Frame → (env operands : List ℕ) → (i : ℕ) → (rest : List ℕ) → (List Item → Type 0) → Type 0
Reached k frames env operands i rest P = (a b : ℕ) (xs : List Item) → b ≤ length operands → IsStack k (reverse (take i frames)) (take a env) (take b operands) xs → (rest ≡ drop b operands) × P xs

pub begin : (k : List Node) (frames : List Frame) (env operands : List ℕ) (P : List Item → Type 0) → P [] → Reached k frames env operands 0 operands P
begin k frames env operands P p a b [] le s =
    let none : b ≡ 0 = sym (length-take-le b operands le) ∙ ap length s in
    (sym (ap (λ (n : ℕ). drop n operands) none), p)
begin k frames env operands P p a b (x ∷ xs) le s = absurd s

take_within : (h a : ℕ) (xs : List ℕ) → h ≤ length (take a xs) → take h (take a xs) ≡ take h xs
take_within zero a xs le = refl
take_within (suc h) zero xs le = absurd (omega (arith, le))
take_within (suc h) (suc a) [] le = refl
take_within (suc h) (suc a) (x ∷ xs) le = let less : h ≤ length (take a xs) = omega (arith, le) in ap (λ (ys : List ℕ). x ∷ ys) (take_within h a xs less)

-- what the next frame adds
abbrev pub Steps : List Node → List Frame → (env operands : List ℕ) → (i : ℕ) → (rest : List ℕ) → Frame → (P Q : List Item → Type 0) → Type 0
Steps k frames env operands i rest f P Q = (x : Item) (xs : List Item) → IsItem k (drop f.base (take f.height env)) (take f.done rest) f.form f.node f.from x
    → IsStack k (reverse (take i frames)) (take f.height env) (take (length operands - length rest) operands) xs → P xs → Q (x ∷ xs)

next_stack : (k : List Node) (frames : List Frame) (env operands : List ℕ) (i : ℕ) (rest : List ℕ) (f : Frame) (P Q : List Item → Type 0) → Reached k frames env operands i rest P → Steps k frames env operands i rest f P Q
    → (a b : ℕ) (xs : List Item) → b ≤ length operands → IsStack k (f ∷ reverse (take i frames)) (take a env) (take b operands) xs → (drop f.done rest ≡ drop b operands) × Q xs
next_stack k frames env operands i rest f P Q r step a b [] le s = absurd s
next_stack k frames env operands i rest f P Q r step a b (x ∷ xs) le s =
    let w : IsWithin f (take a env) (take b operands) = s.0 in
    let size : length (take b operands) ≡ b = length-take-le b operands le in
    let enough : f.done ≤ b = subst (λ (n : ℕ). f.done ≤ n) size w.done in
    let low : take f.height (take a env) ≡ take f.height env = take_within f.height a env w.high in
    let m : ℕ = b - f.done in
    let under : m ≤ length operands = omega (arith, le) in
    let seam : m + f.done ≡ b = omega (arith, enough) in
    let cut : but_last f.done (take b operands) ≡ take m operands = ap (λ (n : ℕ). take (n - f.done) (take b operands)) size ∙ take-take m b operands (omega arith) in
    let own : last f.done (take b operands) ≡ take f.done (drop m operands) = (λ j. drop (size j - f.done) (take (sym seam j) operands)) ∙ drop-take m f.done operands in
    let below : IsStack k (reverse (take i frames)) (take f.height env) (take m operands) xs =
    subst (λ (l : List ℕ). IsStack k (reverse (take i frames)) l (take m operands) xs) low (subst (λ (l : List ℕ). IsStack k (reverse (take i frames)) (take f.height (take a env)) l xs) cut s.2) in
    let before = r f.height m xs under below in
    let item : IsItem k (drop f.base (take f.height env)) (take f.done rest) f.form f.node f.from x =
    subst (λ (l : List ℕ). IsItem k (drop f.base (take f.height env)) l f.form f.node f.from x) (own ∙ ap (take f.done) (sym before.0))
    (subst (λ (l : List ℕ). IsItem k (drop f.base l) (last f.done (take b operands)) f.form f.node f.from x) low s.1) in
    let count : length rest ≡ length operands - m = ap length before.0 ∙ length-drop m operands in
    let left : m ≡ length operands - length rest = omega (arith, count, under) in (
      ap (drop f.done) before.0 ∙ drop_twice f.done m operands ∙ ap (λ (n : ℕ). drop n operands) seam,
      step x xs item (subst (λ (n : ℕ). IsStack k (reverse (take i frames)) (take f.height env) (take n operands) xs) left below) before.1,
    )

pub go_on : (k : List Node) (frames : List Frame) (env operands : List ℕ) (i : ℕ) (rest more_rest : List ℕ) (f d : Frame) (P Q : List Item → Type 0) → i < length frames → f ≡ get_or frames i d → more_rest ≡ drop f.done rest
    → Reached k frames env operands i rest P → Steps k frames env operands i rest f P Q → Reached k frames env operands (i + 1) more_rest Q
go_on k frames env operands i rest more_rest f d P Q lt here rest_is r step a b xs le s =
    let one : take (i + 1) frames ≡ take i frames ++ f ∷ [] = take_one frames i d lt ∙ ap (λ (g : Frame). take i frames ++ g ∷ []) (sym here) in
    let stack : IsStack k (f ∷ reverse (take i frames)) (take a env) (take b operands) xs = subst (λ (fs : List Frame). IsStack k fs (take a env) (take b operands) xs) (ap reverse one ∙ reverse-append (take i frames) (f ∷ [])) s in
    let next = next_stack k frames env operands i rest f P Q r step a b xs le stack in (rest_is ∙ next.0, next.1)

pub end : (k : List Node) (frames : List Frame) (env operands : List ℕ) (i : ℕ) (rest : List ℕ) (P : List Item → Type 0) (xs : List Item) → length frames ≤ i → Reached k frames env operands i rest P → IsStack k (reverse frames) env operands xs → P xs
end k frames env operands i rest P xs le r s =
    let all : frames ≡ take i frames = sym (take_all i frames le) in
    let low : env ≡ take (length env) env = sym (take_all (length env) env (omega arith)) in
    let own : operands ≡ take (length operands) operands = sym (take_all (length operands) operands (omega arith)) in
    let same : length operands ≤ length operands = omega arith in
    (r (length env) (length operands) xs same (subst (λ (fs : List Frame). IsStack k (reverse fs) (take (length env) env) (take (length operands) operands) xs) all
    (subst (λ (l : List ℕ). IsStack k (reverse frames) l (take (length operands) operands) xs) low (subst (λ (l : List ℕ). IsStack k (reverse frames) env l xs) own s)))).1

-- What each frame adds

pub before_more : (x : Item) (xs : List Item) (start old new : Search) → old ≡ searched (places_before (contexts_of xs)) start → new ≡ next_before x start old → new ≡ searched (places_before (contexts_of (x ∷ xs))) start
before_more (Waits c) xs start old new before step = step ∙ ap (searched c.before) before ∙ sym (searched_both (places_before (contexts_of xs)) c.before start)
before_more (Suspends f) xs start old new before step = step

abbrev pub services_places : List Item → List ℕ
services_places xs = flat_map places_in (reverse (services_of xs))

one_service : (ss : List ServiceShape) (s : ServiceShape) → flat_map places_in (reverse (s ∷ ss)) ≡ flat_map places_in (reverse ss) ++ places_in s
one_service ss s =
    ap (flat_map places_in) (reverse-append (s ∷ []) ss) ∙ flat_append places_in (reverse ss) (s ∷ []) ∙ ap (λ (xs : List ℕ). flat_map places_in (reverse ss) ++ xs) (append-nil (places_in s))

pub service_more : (x : Item) (xs : List Item) (start old new : Search) → old ≡ searched (services_places xs) start → new ≡ next_service x xs old → new ≡ searched (services_places (x ∷ xs)) start
service_more (Waits c) xs start old new before step = step ∙ before
service_more (Suspends f) xs start old new before step =
    let s : ServiceShape = record { contexts = contexts_of xs; future = f } in
    step ∙ ap (searched (places_in s)) before ∙ sym (searched_both (services_places xs) (places_in s) start) ∙ sym (ap (λ (ns : List ℕ). searched ns start) (one_service (services_of xs) s))

-- The whole

pub all_found : (k : List Node) (m : Machine) (t : Tree) (vs : List ServiceShape) (st : Standing k (view_of m) t vs) (number : ℕ) (before term behind last : Search)
    → before ≡ searched (places_before (contexts_of st.items)) (search.Left number) → term ≡ searched (locations st.inner) before → behind ≡ searched (parts_places part.Behind (contexts_of st.items)) term
    → last ≡ searched (services_places st.items) behind → place_found last ≡ slice_get (locations t ++ flat_map places_in (reverse vs)) number
all_found k m t vs st number before term behind last b i r s =
    let cs : List Context = contexts_of st.items in
    let inner : List ℕ = locations st.inner in
    let outer : List ℕ = flat_map behind_of cs in
    let rest : List ℕ = services_places st.items in
    let start : Search = search.Left number in
    let are : AreContexts cs = are_contexts k (reverse m.frames.items) m.env.items (but_last (taken m.focus) m.operands.items) st.items st.stack in
    let found : locations t ≡ places_before cs ++ (inner ++ outer) = ap locations st.term ∙ plug_found cs st.inner are in
    let all : behind ≡ searched (locations t) start =
    r ∙ ap (searched outer) (i ∙ ap (searched inner) b)
    ∙ sym (ap (λ (xs : List ℕ). searched xs start) found ∙ searched_both (places_before cs) (inner ++ outer) start ∙ searched_both inner outer (searched (places_before cs) start)) in
    ap place_found (s ∙ ap (searched rest) all ∙ sym (searched_both (locations t) rest start))
    ∙ nth_found (locations t ++ rest) number
    ∙ ap (λ (ss : List ServiceShape). slice_get (locations t ++ flat_map places_in (reverse ss)) number) (sym st.suspended)
