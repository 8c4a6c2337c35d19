-- What holders keep, call by call.
use Rattle.std.proofs.Common.{◌≡◌, ◌≢◌, ◌⊎◌, inl, inr, ℕ, ◌<◌, Bool, true, false, eqb, List, [], ◌∷◌, ◌++◌, Option, Some, None, Result, Ok, Err, length, map, get_or, refl, sym, ap, ◌∙◌, subst, arith, length-append}
use Rattle.std.specs.Prelude.{◌||◌, ◌&&◌, not, slice_get, IsSome, is_some, OnOk, OnErr}
use Rattle.std.specs.Option.{option_map}
use Rattle.std.proofs.lemmas.Bool.{eqb-true}
use Rattle.std.specs.Prelude.{◌==◌, unwrap_or}
use Rattle.std.specs.List.{AllByRecursion}
use Rattle.std.proofs.lemmas.Bool.Decides.{eqb_tells, leb_tells}
use Rattle.std.proofs.lemmas.List.{get_or_append_left, get_or_push, length-map}
use Rattle.std.proofs.lemmas.Option.{slice_get-get_or, slice_get-map, slice_get_past, slice_get_within}
use Rattle.asp_model.specs.declared.journal.Choice.TheVariants as choice
use Rattle.asp_model.specs.Names.{Name, FutureShape}
use Rattle.asp_model.specs.History.{ChoiceShape}
use Rattle.asp_model.specs.Shapes.{choice_shape}
use Rattle.def_journals.specs.Edges.{EdgeShape, HoldersShape, Begins, Delivers, Fills, Passes, after_event, has_edge, has_filled, has_received, is_owed, owed_at, same_edge}
use Rattle.future_update.specs.declared.numbered.Edge.{Edge}
use Rattle.future_update.specs.declared.numbered.Future.{Future}
use Rattle.future_update.specs.declared.numbered.Passing.{Passing}
use Rattle.future_update.specs.declared.records.Records.{Records}
use Rattle.core_sets.specs.declared.marks.Marks.{Marks}
use Rattle.future_update.specs.declared.holders.Holders.TheInside.{Inside}
use Rattle.future_update.specs.Changes.{once_filled, once_received}
use Rattle.future_update.specs.Kept.{AreHolders}
use Rattle.core_sets.specs.declared.lanes.Lanes.{Lanes}
use Rattle.core_sets.specs.Lanes.{AreLanes, ClosedSo, KeepsLanes, lane_count}
use Rattle.core_sets.specs.Marks.{MarkedIf, MarkedSo, is_marked}
use Rattle.future_update.specs.Names.{IsKnown, IsKnownFuture, IsKnownEdge, Keeps, edge_of, future_of, name_of}
use Rattle.future_update.specs.Numbered.{IsPassed, edge_at, no_edge, is_edge}
use Rattle.future_update.specs.declared.passings.Passings.{Passings}
use Rattle.future_update.specs.Passings.{ArePassings, is_kept, may_send, passing_of}
use Rattle.future_update.specs.Records.{AreRecords, answers_of, names_of, owes, shape_of}
use Rattle.future_update.proofs.NameLemmas.{clash}
use Rattle.future_update.proofs.NumberLemmas.{all_at, is_edge_same, is_future_same, same_edges, same_futures, same_names, truth}
use Rattle.future_update.proofs.RecordLemmas.{delivered_more, edge_itself, passed_more, edges_known, ticks_below}
use Rattle.future_update.proofs.PlaceLemmas.{edge_stands}
use Rattle.future_update.proofs.SettlingLemmas.{owed_sends, owed_within}
use Rattle.future_update.proofs.LanedLemmas.{keeps_lanes, member_known, moved, number_among, number_named, same_activities, turned_laned, turned_out}
use Rattle.future_update.specs.Holders.{HoldersView, IsTurned, is_out}
use Rattle.std.specs.Global.{Vec}
use Rattle.std.proofs.lemmas.Option.{slice_get_read}
use Rattle.future_update.specs.Kept.{AreLaned, IsMember, activity_entry, view_of}
use Rattle.future_update.proofs.OwedLemmas.{delivers_other, delivers_own, passes_same, with_delivered_edge, with_passed, begins_same, fills_left, fills_more, receives_left, receives_more, with_receipt}

-- What is owed, by the holders and the answers

abbrev pub owed_by : HoldersShape → List ChoiceShape → ℕ → Bool
owed_by h answers p = owed_at h (slice_get h.edges p) (slice_get answers p)

pub owes_by : (r : Records) (h : HoldersShape) (answers : List ChoiceShape) → shape_of r ≡ h → answers_of r ≡ answers → (p : ℕ) → owes r p ≡ owed_by h answers p
owes_by r h answers shape same p = λ i. owed_by (shape i) (same i) p

pub owes_same : (r s : Records) → shape_of s ≡ shape_of r → answers_of s ≡ answers_of r → (p : ℕ) → owes s p ≡ owes r p
owes_same r s shape same p = owes_by s (shape_of r) (answers_of r) shape same p

-- Passings

pub passings_kept : (s : Passings) (es fs : List Edge) (cs ds : List ChoiceShape) → ArePassings s es cs → fs ≡ es → ds ≡ cs → ArePassings s fs ds
passings_kept s es fs cs ds h edges answers = subst (λ (xs : List Edge). ArePassings s xs ds) (sym edges) (subst (ArePassings s es) (sym answers) h)

-- records that say the same
pub kept : (s : Inside) (r : Records) → AreHolders s → AreRecords r → r.edges.keys ≡ s.records.edges.keys → shape_of r ≡ shape_of s.records → answers_of r ≡ answers_of s.records → Keeps (names_of s.records) (names_of r) → AreHolders (record s { records = r })
kept s r h records edges shape answers names = record {
  records = records;
  passings = passings_kept s.passings s.records.edges.keys r.edges.keys (answers_of s.records) (answers_of r) h.passings edges answers;
  laned = moved (names_of s.records) (names_of r) s.records.edges.keys r.edges.keys s.activities.items s.owed s.owed h.laned names edges (keeps_lanes s.owed h.laned.lanes);
  owed = λ p. h.owed p ∙ sym (owes_same s.records r shape answers p);
}

-- a future that begins changes nothing that is owed
pub begun_same : (r s : Records) (f : FutureShape) (n : Name) {E : Type 0} (result : Result (Unit {0}) E) → OnOk result (shape_of s ≡ after_event (Begins f n) (shape_of r)) → OnOk result (has_filled f (shape_of r).filled ≡ false) → OnErr result (shape_of s ≡ shape_of r) → answers_of s ≡ answers_of r → (p : ℕ) → owes s p ≡ owes r p
begun_same r s f n (Ok v) begun unfilled err answers p = owes_by s (after_event (Begins f n) (shape_of r)) (answers_of r) begun answers p ∙ begins_same (shape_of r) f n unfilled (slice_get (shape_of r).edges p) (slice_get (answers_of r) p)
begun_same r s f n (Err e) begun unfilled err answers p = owes_same r s err answers p

pub begun_holders : (s : Inside) (r : Records) → AreHolders s → AreRecords r → r.edges.keys ≡ s.records.edges.keys → ((p : ℕ) → owes r p ≡ owes s.records p) → answers_of r ≡ answers_of s.records → Keeps (names_of s.records) (names_of r) → AreHolders (record s { records = r })
begun_holders s r h records edges same answers names = record {
  records = records;
  passings = passings_kept s.passings s.records.edges.keys r.edges.keys (answers_of s.records) (answers_of r) h.passings edges answers;
  laned = moved (names_of s.records) (names_of r) s.records.edges.keys r.edges.keys s.activities.items s.owed s.owed h.laned names edges (keeps_lanes s.owed h.laned.lanes);
  owed = λ p. h.owed p ∙ sym (same p);
}

-- The edge of a place with its answer

abbrev answer_at : Records → ℕ → ChoiceShape
answer_at r p = choice_shape (get_or r.answers.items p choice.Leave)

answer_stands : (r : Records) → AreRecords r → (p : ℕ) → p < length r.edges.keys → slice_get (answers_of r) p ≡ Some (answer_at r p)
answer_stands r h p lt = slice_get-map choice_shape r.answers.items p ∙ ap (option_map choice_shape) (slice_get-get_or r.answers.items p choice.Leave (omega (arith, lt, h.answers)))

-- A future is filled

not_true : (b : Bool) → true ≡ not b → b ≡ false
not_true true e = clash refl e
not_true false e = refl

not_false : (b : Bool) → false ≡ not b → b ≡ true
not_false true e = refl
not_false false e = clash refl (sym e)

pub first_filled : (f : FutureShape) (h : HoldersShape) → true ≡ not (has_filled f h.filled) → once_filled f h ≡ after_event (Fills f) h
first_filled f h e = ap (λ b. elim b [ true ↦ h | false ↦ after_event (Fills f) h ]) (not_true (has_filled f h.filled) e)

pub filled_before : (f : FutureShape) (h : HoldersShape) → false ≡ not (has_filled f h.filled) → once_filled f h ≡ h
filled_before f h e = ap (λ b. elim b [ true ↦ h | false ↦ after_event (Fills f) h ]) (not_false (has_filled f h.filled) e)

pub fill_sound : (r s : Records) (f : FutureShape) → shape_of s ≡ after_event (Fills f) (shape_of r) → answers_of s ≡ answers_of r → (p : ℕ) → owes r p ≡ true → owes s p ≡ true
fill_sound r s f shape answers p e = owes_by s (after_event (Fills f) (shape_of r)) (answers_of r) shape answers p ∙ fills_more (shape_of r) f (slice_get (shape_of r).edges p) (slice_get (answers_of r) p) e

pub fill_left : (r s : Records) → AreRecords r → (f : Future) → IsKnownFuture (names_of r) f → s.edges.keys ≡ r.edges.keys → shape_of s ≡ after_event (Fills (future_of (names_of r) f)) (shape_of r) → answers_of s ≡ answers_of r → (p : ℕ) → owes s p ≡ true → owes r p ≡ false → (edge_at s.edges.keys p).future ≡ f
fill_left r s h f known edges shape answers p e u =
    let ns : List Name = names_of r in
    let g : FutureShape = future_of ns f in
    let lt : p < length r.edges.keys = subst (λ (es : List Edge). p < length es) edges (owed_within s p e) in
    let k : Edge = edge_at r.edges.keys p in
    let stands = edge_stands r p lt in
    let answer = answer_stands r h p lt in
    let after : is_owed (after_event (Fills g) (shape_of r)) (answer_at r p) (edge_of ns k) ≡ true = sym (owes_by s (after_event (Fills g) (shape_of r)) (answers_of r) shape answers p ∙ (λ i. owed_at (after_event (Fills g) (shape_of r)) (stands i) (answer i))) ∙ e in
    let before : is_owed (shape_of r) (answer_at r p) (edge_of ns k) ≡ false = sym (λ i. owed_at (shape_of r) (stands i) (answer i)) ∙ u in
    let same = fills_left (shape_of r) g (edge_of ns k) (answer_at r p) after before in
    let known_k = all_at (IsKnownEdge ns) r.edges.keys p no_edge lt (edges_known r h) in
    ap (λ (es : List Edge). (edge_at es p).future) edges ∙ is_future_same k.future f (sym (same_futures ns h.names k.future f known_k.future known) ∙ same)

-- A value is received

pub first_received : (f : FutureShape) (n : Name) (h : HoldersShape) → true ≡ not (has_received f n h.received) → once_received f n h ≡ with_receipt f n h
first_received f n h e = ap (λ b. record h { received = elim b [ true ↦ h.received | false ↦ h.received ++ (f, n) ∷ [] ] }) (not_true (has_received f n h.received) e)

pub received_before : (f : FutureShape) (n : Name) (h : HoldersShape) → false ≡ not (has_received f n h.received) → once_received f n h ≡ h
received_before f n h e = ap (λ b. record h { received = elim b [ true ↦ h.received | false ↦ h.received ++ (f, n) ∷ [] ] }) (not_false (has_received f n h.received) e)

pub receive_sound : (r s : Records) (f : FutureShape) (n : Name) → shape_of s ≡ with_receipt f n (shape_of r) → answers_of s ≡ answers_of r → (p : ℕ) → owes r p ≡ true → owes s p ≡ true
receive_sound r s f n shape answers p e = owes_by s (with_receipt f n (shape_of r)) (answers_of r) shape answers p ∙ receives_more (shape_of r) f n (slice_get (shape_of r).edges p) (slice_get (answers_of r) p) e

pub receive_left : (r s : Records) → AreRecords r → (f : Future) (by : ℕ) → IsKnownFuture (names_of r) f → IsKnown (names_of r) by → s.edges.keys ≡ r.edges.keys → shape_of s ≡ with_receipt (future_of (names_of r) f) (name_of (names_of r) by) (shape_of r) → answers_of s ≡ answers_of r → (p : ℕ) → owes s p ≡ true → owes r p ≡ false → ((edge_at s.edges.keys p).future ≡ f) × ((edge_at s.edges.keys p).from ≡ by)
receive_left r s h f by known known_by edges shape answers p e u =
    let ns : List Name = names_of r in
    let g : FutureShape = future_of ns f in
    let n : Name = name_of ns by in
    let lt : p < length r.edges.keys = subst (λ (es : List Edge). p < length es) edges (owed_within s p e) in
    let k : Edge = edge_at r.edges.keys p in
    let stands = edge_stands r p lt in
    let answer = answer_stands r h p lt in
    let after : is_owed (with_receipt g n (shape_of r)) (answer_at r p) (edge_of ns k) ≡ true = sym (owes_by s (with_receipt g n (shape_of r)) (answers_of r) shape answers p ∙ (λ i. owed_at (with_receipt g n (shape_of r)) (stands i) (answer i))) ∙ e in
    let before : is_owed (shape_of r) (answer_at r p) (edge_of ns k) ≡ false = sym (λ i. owed_at (shape_of r) (stands i) (answer i)) ∙ u in
    let same = receives_left (shape_of r) g n (edge_of ns k) (answer_at r p) after before in
    let known_k = all_at (IsKnownEdge ns) r.edges.keys p no_edge lt (edges_known r h) in
    (ap (λ (es : List Edge). (edge_at es p).future) edges ∙ is_future_same k.future f (sym (same_futures ns h.names k.future f known_k.future known) ∙ same.0), ap (λ (es : List Edge). (edge_at es p).from) edges ∙ eqb-true k.from by (sym (same_names ns h.names k.from by known_k.from known_by) ∙ same.1))

-- All places that were delivered

pub delivered_places : (r : Records) → AreRecords r → map (λ p. slice_get (shape_of r).edges p) r.delivered.order.items ≡ map Some (shape_of r).delivered
delivered_places r h = by r.delivered.order.items (ticks_below r.delivered (length r.edges.keys) h.delivered h.delivered_size)
  where
    by : (order : List ℕ) → AllByRecursion (λ p. p < length r.edges.keys) order → map (λ p. slice_get (shape_of r).edges p) order ≡ map Some (map (λ p. edge_of (names_of r) (edge_at r.edges.keys p)) order)
    by [] within = refl
    by (p ∷ ps) within = λ i. edge_stands r p within.0 i ∷ by ps within.1 i

-- An edge is delivered

pub delivered_holders : (s : Inside) (r : Records) (owed : Lanes) (p : ℕ) → AreHolders s → p < length s.records.edges.keys → AreRecords r → r.edges.keys ≡ s.records.edges.keys → shape_of r ≡ after_event (Delivers (edge_of (names_of s.records) (edge_at s.records.edges.keys p))) (shape_of s.records) → has_edge (edge_of (names_of s.records) (edge_at s.records.edges.keys p)) (shape_of s.records).delivered ≡ false → answers_of r ≡ answers_of s.records → Keeps (names_of s.records) (names_of r) → KeepsLanes s.owed owed → MarkedSo p false s.owed.marks owed.marks → AreHolders (record s { records = r; owed = owed })
delivered_holders s r owed p h lt records edges shape open_edge answers names still marked = record {
  records = records;
  passings = passings_kept s.passings s.records.edges.keys r.edges.keys (answers_of s.records) (answers_of r) h.passings edges answers;
  laned = moved (names_of s.records) (names_of r) s.records.edges.keys r.edges.keys s.activities.items s.owed owed h.laned names edges still;
  owed = λ q. marked q ∙ by q (eqb_tells q p);
}
  where
    ns : List Name
    ns = names_of s.records

    x : EdgeShape
    x = edge_of ns (edge_at s.records.edges.keys p)

    shape_then : shape_of r ≡ with_delivered_edge x (shape_of s.records)
    shape_then = shape ∙ (λ i. record (shape_of s.records) { delivered = delivered_more s.records h.records p lt open_edge i })

    then_owes : (q : ℕ) → owes r q ≡ owed_by (with_delivered_edge x (shape_of s.records)) (answers_of s.records) q
    then_owes q = owes_by r (with_delivered_edge x (shape_of s.records)) (answers_of s.records) shape_then answers q

    known : (q : ℕ) → q < length s.records.edges.keys → IsKnownEdge ns (edge_at s.records.edges.keys q)
    known q within = all_at (IsKnownEdge ns) s.records.edges.keys q no_edge within (edges_known s.records h.records)

    apart : (q : ℕ) → q < length s.records.edges.keys → q ≢ p → same_edge (edge_of ns (edge_at s.records.edges.keys q)) x ≡ false
    apart q within ne = same_edges ns h.records.names (edge_at s.records.edges.keys q) (edge_at s.records.edges.keys p) (known q within) (known p lt) ∙ truth (is_edge (edge_at s.records.edges.keys q) (edge_at s.records.edges.keys p)) (λ e. ne (h.records.apart q p within lt (is_edge_same (edge_at s.records.edges.keys q) (edge_at s.records.edges.keys p) e)))

    other : (q : ℕ) → q ≢ p → (o : Option EdgeShape) → slice_get (shape_of s.records).edges q ≡ o → owed_at (with_delivered_edge x (shape_of s.records)) o (slice_get (answers_of s.records) q) ≡ owed_at (shape_of s.records) o (slice_get (answers_of s.records) q)
    other q ne None e = refl
    other q ne (Some y) e = each (slice_get (answers_of s.records) q)
      where
        within : q < length s.records.edges.keys
        within = subst (λ n. q < n) (length-map s.records.edges.keys (edge_of ns)) (slice_get_within (shape_of s.records).edges q y e)

        same : y ≡ edge_of ns (edge_at s.records.edges.keys q)
        same = ap (λ o. unwrap_or o y) (sym e ∙ edge_stands s.records q within)

        each : (a : Option ChoiceShape) → owed_at (with_delivered_edge x (shape_of s.records)) (Some y) a ≡ owed_at (shape_of s.records) (Some y) a
        each None = refl
        each (Some a) = delivers_other (shape_of s.records) x y a (ap (λ z. same_edge z x) same ∙ apart q within ne)

    own : (a : Option ChoiceShape) → owed_at (with_delivered_edge x (shape_of s.records)) (Some x) a ≡ false
    own None = refl
    own (Some a) = delivers_own (shape_of s.records) x a (same_edges ns h.records.names (edge_at s.records.edges.keys p) (edge_at s.records.edges.keys p) (known p lt) (known p lt) ∙ edge_itself (edge_at s.records.edges.keys p))

    by : (q : ℕ) → ((eqb q p ≡ true) × (q ≡ p)) ⊎ ((eqb q p ≡ false) × (q ≢ p)) → elim (q == p) [ true ↦ false | false ↦ is_marked s.owed.marks q ] ≡ owes r q
    by q (inl e) =
        ap (λ b. elim b [ true ↦ false | false ↦ is_marked s.owed.marks q ]) e.0
        ∙ sym (then_owes q ∙ ap (λ n. owed_by (with_delivered_edge x (shape_of s.records)) (answers_of s.records) n) e.1 ∙ ap (λ o. owed_at (with_delivered_edge x (shape_of s.records)) o (slice_get (answers_of s.records) p)) (edge_stands s.records p lt) ∙ own (slice_get (answers_of s.records) p))
    by q (inr e) =
        ap (λ b. elim b [ true ↦ false | false ↦ is_marked s.owed.marks q ]) e.0
        ∙ h.owed q ∙ sym (then_owes q ∙ other q e.1 (slice_get (shape_of s.records).edges q) refl)

-- An edge is entered

more_place : {X : Type 0} (xs : List X) (y : X) (p : ℕ) → p ≢ length xs → slice_get (xs ++ y ∷ []) p ≡ slice_get xs p
more_place xs y p ne = elim (leb_tells (length xs) p) [
  | inl e ↦ slice_get_past (xs ++ y ∷ []) p (omega (arith, e.1, ne, length-append xs (y ∷ []))) ∙ sym (slice_get_past xs p e.1)
  | inr e ↦ slice_get-get_or (xs ++ y ∷ []) p y (omega (arith, e.1, length-append xs (y ∷ []))) ∙ ap Some (get_or_append_left xs (y ∷ []) y p e.1) ∙ sym (slice_get-get_or xs p y e.1)
]

sent_within : (cs : List ChoiceShape) (p : ℕ) → may_send (slice_get cs p) ≡ true → p < length cs
sent_within cs p e = elim (leb_tells (length cs) p) [
  | inl b ↦ clash e (ap may_send (slice_get_past cs p b.1))
  | inr b ↦ b.1
]

pub passings_more : (s t : Passings) (es : List Edge) (x : Edge) (cs : List ChoiceShape) (a : ChoiceShape) → length cs ≡ length es → ArePassings s es cs → ((k : Passing) → is_kept s k ≡ true → is_kept t k ≡ true) → (may_send (Some a) ≡ true → is_kept t (passing_of x (length es)) ≡ true) → ArePassings t (es ++ x ∷ []) (cs ++ a ∷ [])
passings_more s t es x cs a same old kept new p sends = by (eqb_tells p (length es))
  where
    by : ((eqb p (length es) ≡ true) × (p ≡ length es)) ⊎ ((eqb p (length es) ≡ false) × (p ≢ length es)) → is_kept t (passing_of (edge_at (es ++ x ∷ []) p) p) ≡ true
    by (inl e) =
        let answer : slice_get (cs ++ a ∷ []) p ≡ Some a = slice_get-get_or (cs ++ a ∷ []) p a (omega (arith, same, e.1, length-append cs (a ∷ []))) ∙ ap Some (get_or_push cs a a p (same ∙ sym e.1)) in
        ap (λ y. is_kept t (passing_of y p)) (get_or_push es x no_edge p (sym e.1)) ∙ ap (λ k. is_kept t (passing_of x k)) e.1 ∙ new (ap may_send (sym answer) ∙ sends)
    by (inr e) =
        let before : may_send (slice_get cs p) ≡ true = ap may_send (sym (more_place cs a p (λ q. e.1 (q ∙ same)))) ∙ sends in
        let within : p < length es = subst (λ n. p < n) same (sent_within cs p before) in
        ap (λ y. is_kept t (passing_of y p)) (get_or_append_left es (x ∷ []) no_edge p within) ∙ kept (passing_of (edge_at es p) p) (old p before)

-- nothing is owed along an edge whose answer leaves the value
pub left_nothing : (s : Records) (cs : List ChoiceShape) (a : ChoiceShape) (n : ℕ) (old : Marks) → n ≡ length cs → answers_of s ≡ cs ++ a ∷ [] → may_send (Some a) ≡ false → MarkedIf (owes s n) n old old
left_nothing s cs a n old same answers leaves p = sym (ap (λ b. is_marked old p || (b && p == n)) not_owed ∙ last (is_marked old p))
  where
    answer : slice_get (answers_of s) n ≡ Some a
    answer = ap (λ ds. slice_get ds n) answers ∙ slice_get-get_or (cs ++ a ∷ []) n a (omega (arith, same, length-append cs (a ∷ []))) ∙ ap Some (get_or_push cs a a n (sym same))

    not_owed : owes s n ≡ false
    not_owed = truth (owes s n) (λ e. clash (ap may_send (sym answer) ∙ owed_sends (shape_of s) (slice_get (shape_of s).edges n) (slice_get (answers_of s) n) e) leaves)

    last : (b : Bool) → (b || false) ≡ b
    last true = refl
    last false = refl

pub entered : (r s : Records) (x : Edge) (a : ChoiceShape) (old new : Marks) → AreRecords r → IsPassed (names_of r) x → has_edge (edge_of (names_of r) x) (shape_of r).edges ≡ false → shape_of s ≡ after_event (Passes (edge_of (names_of r) x)) (shape_of r) → answers_of s ≡ answers_of r ++ a ∷ [] → ((p : ℕ) → is_marked old p ≡ owes r p) → MarkedIf (owes s (length r.edges.keys)) (length r.edges.keys) old new → (p : ℕ) → is_marked new p ≡ owes s p
entered r s x a old new h passed fresh shape answers owed marked p = marked p ∙ by p (eqb_tells p (length r.edges.keys))
  where
    y : EdgeShape
    y = edge_of (names_of r) x

    shape_then : shape_of s ≡ with_passed y (shape_of r)
    shape_then = shape ∙ (λ i. record (shape_of r) { edges = passed_more r h x passed fresh i })

    beyond : owes r (length r.edges.keys) ≡ false
    beyond = truth (owes r (length r.edges.keys)) (λ e. never (owed_within r (length r.edges.keys) e))
      where
        never : {n : ℕ} → n < n → ⊥
        never lt = omega (arith, lt)

    last : (b : Bool) → (false || (b && true)) ≡ b
    last true = refl
    last false = refl

    other : (b c : Bool) → (b || (c && false)) ≡ b
    other true c = refl
    other false true = refl
    other false false = refl

    count : length (shape_of r).edges ≡ length r.edges.keys
    count = length-map r.edges.keys (edge_of (names_of r))

    answer_count : length (answers_of r) ≡ length r.edges.keys
    answer_count = length-map r.answers.items choice_shape ∙ h.answers

    then_other : (q : ℕ) → q ≢ length r.edges.keys → owes s q ≡ owes r q
    then_other q ne =
        owes_by s (with_passed y (shape_of r)) (answers_of r ++ a ∷ []) shape_then answers q
        ∙ (λ i. owed_at (with_passed y (shape_of r)) (more_place (shape_of r).edges y q (λ e. ne (e ∙ count)) i) (more_place (answers_of r) a q (λ e. ne (e ∙ answer_count)) i))
        ∙ passes_same (shape_of r) y (slice_get (shape_of r).edges q) (slice_get (answers_of r) q)

    by : (q : ℕ) → ((eqb q (length r.edges.keys) ≡ true) × (q ≡ length r.edges.keys)) ⊎ ((eqb q (length r.edges.keys) ≡ false) × (q ≢ length r.edges.keys)) → (is_marked old q || (owes s (length r.edges.keys) && q == length r.edges.keys)) ≡ owes s q
    by q (inl e) = (λ i. (owed q ∙ ap (owes r) e.1 ∙ beyond) i || (owes s (length r.edges.keys) && e.0 i)) ∙ last (owes s (length r.edges.keys)) ∙ ap (owes s) (sym e.1)
    by q (inr e) = (λ i. is_marked old q || (owes s (length r.edges.keys) && e.0 i)) ∙ other (is_marked old q) (owes s (length r.edges.keys)) ∙ owed q ∙ sym (then_other q e.1)

-- All that is owed was marked

pub settled : (s : Inside) (r : Records) (owed : Lanes) → AreHolders s → AreRecords r → r.edges.keys ≡ s.records.edges.keys → answers_of r ≡ answers_of s.records → Keeps (names_of s.records) (names_of r) → KeepsLanes s.owed owed → ((p : ℕ) → is_marked owed.marks p ≡ owes r p) → AreHolders (record s { records = r; owed = owed })
settled s r owed h records edges answers names same marked = record {
  records = records;
  passings = passings_kept s.passings s.records.edges.keys r.edges.keys (answers_of s.records) (answers_of r) h.passings edges answers;
  laned = moved (names_of s.records) (names_of r) s.records.edges.keys r.edges.keys s.activities.items s.owed owed h.laned names edges same;
  owed = marked;
}

pub no_home : (o : Option Name) → IsSome o → o ≡ None → ⊥
no_home None some e = clash some refl
no_home (Some n) some e = clash refl (ap is_some e)

-- what is seen is the same

pub view_same : (s t : Inside) → shape_of t.records ≡ shape_of s.records → answers_of t.records ≡ answers_of s.records → map (activity_entry (names_of t.records) t.owed) t.activities.items ≡ map (activity_entry (names_of s.records) s.owed) s.activities.items → view_of t ≡ view_of s
view_same s t shape answers activities = λ i. record { holders = shape i; answers = answers i; activities = activities i }

pub if_failed : {T E : Type 0} (r : Result T E) (P : Type 0) → P → OnErr r P
if_failed (Ok x) P p = tt
if_failed (Err e) P p = p

-- what an error leaves
pub view_kept : (s t : Inside) (v : HoldersView) → view_of s ≡ v → shape_of t.records ≡ shape_of s.records → answers_of t.records ≡ answers_of s.records → map (activity_entry (names_of t.records) t.owed) t.activities.items ≡ map (activity_entry (names_of s.records) s.owed) s.activities.items → {T E : Type 0} (r : Result T E) → OnErr r (view_of t ≡ v)
view_kept s t v e shape answers activities r = if_failed r (view_of t ≡ v) (view_same s t shape answers activities ∙ e)

pub view_told : (s t : Inside) (v : HoldersView) → view_of s ≡ v → {T E : Type 0} (r : Result T E) → OnErr r (shape_of t.records ≡ shape_of s.records) → answers_of t.records ≡ answers_of s.records → map (activity_entry (names_of t.records) t.owed) t.activities.items ≡ map (activity_entry (names_of s.records) s.owed) s.activities.items → OnErr r (view_of t ≡ v)
view_told s t v e (Ok x) shape answers activities = tt
view_told s t v e (Err x) shape answers activities = view_same s t shape answers activities ∙ e

-- other activities, over the same edges
pub rebuilt : (s : Inside) (r : Records) (owed : Lanes) (activities : Vec ℕ) → AreHolders s → AreRecords r → r.edges.keys ≡ s.records.edges.keys → shape_of r ≡ shape_of s.records → answers_of r ≡ answers_of s.records → owed.marks ≡ s.owed.marks → AreLaned (names_of r) r.edges.keys activities.items owed → AreHolders (record s { records = r; owed = owed; activities = activities })
rebuilt s r owed activities h records edges shape answers marks laned = record {
  records = records;
  passings = passings_kept s.passings s.records.edges.keys r.edges.keys (answers_of s.records) (answers_of r) h.passings edges answers;
  owed = λ p. ap (λ (m : Marks). is_marked m p) marks ∙ h.owed p ∙ sym (owes_same s.records r shape answers p);
  laned = laned;
}

-- seen from outside, one activity is out, or in
pub turned_view : (s : Inside) (u : Lanes) (v : HoldersView) (number lane : ℕ) (out : Bool) → AreHolders s → view_of s ≡ v → slice_get s.activities.items number ≡ Some lane → ClosedSo lane out s.owed u → IsTurned number out v.activities (map (activity_entry (names_of s.records) u) s.activities.items)
turned_view s u v number lane out h e found closed =
    subst (λ (w : HoldersView). IsTurned number out w.activities (map (activity_entry ns u) ks)) e (record {
      names = same_activities ns s.owed u ks;
      told = λ n.
          turned_out ns s.owed u lane out ks h.records.names h.laned.members known.0 closed (number_among ks number lane found) n
          ∙ ap (λ b. elim b [ true ↦ out | false ↦ is_out n (map (activity_entry ns s.owed) ks) ]) (sym (number_named ns s.owed n ks number lane found));
    })
  where
    ns : List Name
    ns = names_of s.records

    ks : List ℕ
    ks = s.activities.items

    known : IsMember ns s.owed lane
    known = member_known (IsMember ns s.owed) ks number lane found h.laned.members

pub turned_holders : (s : Inside) (u : Lanes) (number lane : ℕ) (out : Bool) → AreHolders s → slice_get s.activities.items number ≡ Some lane → AreLanes u → u.marks ≡ s.owed.marks → u.spots ≡ s.owed.spots → lane_count u ≡ lane_count s.owed → ClosedSo lane out s.owed u → AreHolders (record s { owed = u })
turned_holders s u number lane out h found lanes marks spots same closed =
    rebuilt s s.records u s.activities h h.records refl refl refl marks (turned_laned (names_of s.records) s.records.edges.keys s.activities.items s.owed u lane out h.laned lanes spots same closed (number_among s.activities.items number lane found))

pub number_found : (s : Inside) (v : HoldersView) (number lane : ℕ) → view_of s ≡ v → number < length v.activities → lane ≡ get_or s.activities.items number lane → slice_get s.activities.items number ≡ Some lane
number_found s v number lane e lt read =
    let within : number < length s.activities.items = subst (λ n. number < n) (length-map s.activities.items (activity_entry (names_of s.records) s.owed)) (subst (λ (w : HoldersView). number < length w.activities) (sym e) lt) in
    slice_get_read s.activities.items (length s.activities.items) number lane refl within read
