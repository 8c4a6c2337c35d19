-- Edges only grow, so what a policy chose stays chosen.
use Rattle.std.proofs.Common.{◌≡◌, ◌∙◌, ◌&&◌, ◌||◌, ◌++◌, ◌∷◌, [], ℕ, zero, suc, not, Bool, true, false, List, Option, Some, None, is_none, is_some, slice_get, refl, sym, ap, subst}
use Rattle.std.specs.List.{list_any}
use Rattle.std.proofs.lemmas.List.Folds.{list_any-append}
use Rattle.asp_model.specs.History.{ChoiceShape, Committed, Delivered, DeliveryShape, Edge, EntryShape, Forward, FromHome, Leave, Lent, Need}
use Rattle.asp_model.specs.Names.{FutureShape, Name, same_future, same_name}
use Rattle.asp_model.specs.Status.{VerdictShape}
use Rattle.asp_model.specs.Status as status
use Rattle.def_journals.specs.Edges.{Begins, Delivers, EdgeShape, Event, Fills, HoldersShape, Passes, Receives, after_event, after_events, has_edge, has_filled, has_received, has_value, home_of, is_chosen, is_home, is_no_edge, is_owed, with_edge, with_edges, with_held, with_received}
use Rattle.law_journals.specs.EdgesKept.{IsKnownEdge}
use Rattle.def_journals.specs.Journals.{RunShape, grant_of, is_in}
use Rattle.def_journals.specs.Owed.{first_edge, first_need, goes_on, is_any, need_delivery, need_to, next_owed, or_else}
use Rattle.def_journals.specs.Passing.{entry_events, holders_of}
use Rattle.law_chases.proofs.FutureLemmas.{no_some, none_true, some_is}
use Rattle.law_steps.specs.Linked.{Each}
use Rattle.law_steps.proofs.EachLemmas.{each_both, each_weaker}
use Rattle.law_journals.proofs.GrowingLemmas.{holders_go_on}
use Rattle.core_sets.proofs.LanesLemmas.{get_append}
use Rattle.update_policy.specs.declared.strategy.Policies.{Policies}
use Rattle.update_policy.specs.declared.strategy.Strategy.{Strategy}
use Rattle.core_edges.specs.Answers.{Answering, AreAsked, Counting}
use Rattle.core_thaws.specs.Holders.{SameHolders}
use Rattle.core_thaws.proofs.HolderLemmas.{same_events, same_then, same_turned}
use Rattle.asp_core.specs.declared.cores.Core.{Core}
use Rattle.asp_core.specs.Calls.{HasEntered, verdict_of}
use Rattle.asp_core.specs.Chosen.{AlwaysLeaves, AreChosen, ChosenAreDelivered, DeliversChosen, IsAlongNoEdge, IsChosen, IsChosenDelivery, IsChosenEntry, LazyDeliversNothing, StaysChosen}
use Rattle.asp_core.specs.Cores.{IsRun, code_of, entries_of, history_of}
use Rattle.law_core.proofs.OwedLemmas.{in_named}
use Rattle.asp_core.proofs.DueLemmas.{each_got}
use Rattle.asp_core.proofs.EndLemmas.{home}
use Rattle.asp_core.proofs.StandLemmas.{known, numbered}

-- Lists

any_more : {X : Type 0} (test : X → Bool) (xs ys : List X) → list_any test xs ≡ true → list_any test (xs ++ ys) ≡ true
any_more test xs ys h = list_any-append test xs ys ∙ ap (λ b. b || list_any test ys) h

home_more : (n : Name) (f : FutureShape) (xs ys : List (FutureShape × Name)) → is_home n (home_of f xs) ≡ true → is_home n (home_of f (xs ++ ys)) ≡ true
home_more n f [] ys h = none_true h
home_more n f (x ∷ xs) ys h = by (same_future f x.0) h (home_more n f xs ys)
  where
    by : (b : Bool) → is_home n (elim b [ true ↦ Some x.1 | false ↦ home_of f xs ]) ≡ true → (is_home n (home_of f xs) ≡ true → is_home n (home_of f (xs ++ ys)) ≡ true)
        → is_home n (elim b [ true ↦ Some x.1 | false ↦ home_of f (xs ++ ys) ]) ≡ true
    by true h rest = h
    by false h rest = rest h

received_more : (g f : FutureShape) (m n : Name) (xs : List (FutureShape × Name)) → has_received g m xs ≡ true → has_received g m (with_received f n xs) ≡ true
received_more g f m n xs h = by (has_received f n xs)
  where
    by : (b : Bool) → has_received g m (elim b [ true ↦ xs | false ↦ xs ++ (f, n) ∷ [] ]) ≡ true
    by true = h
    by false = any_more (λ x. same_future g x.0 && same_name m x.1) xs ((f, n) ∷ []) h

edge_more : (x : EdgeShape) (xs : List EdgeShape) (p : ℕ) (y : EdgeShape) → slice_get xs p ≡ Some y → slice_get (with_edge x xs) p ≡ Some y
edge_more x xs p y h = by (is_no_edge x xs)
  where
    by : (b : Bool) → slice_get (elim b [ true ↦ xs | false ↦ xs ++ x ∷ [] ]) p ≡ Some y
    by true = h
    by false = get_append xs (x ∷ []) p y h

edges_more : (fs : List FutureShape) (from to : Name) (xs : List EdgeShape) (p : ℕ) (y : EdgeShape) → slice_get xs p ≡ Some y → slice_get (with_edges fs from to xs) p ≡ Some y
edges_more [] from to xs p y h = h
edges_more (f ∷ fs) from to xs p y h =
    let x : EdgeShape = record { future = f; from = from; to = to } in
    edges_more fs from to (with_edge x xs) p y (edge_more x xs p y h)

held_more : (fs : List FutureShape) (o : Option Name) (to : Name) (xs : List EdgeShape) (p : ℕ) (y : EdgeShape) → slice_get xs p ≡ Some y → slice_get (with_held fs o to xs) p ≡ Some y
held_more fs None to xs p y h = h
held_more fs (Some m) to xs p y h = edges_more fs m to xs p y h

-- Holders

-- edges keep their places, and what is filled, received and at home stays so
record Grows (old new : HoldersShape) : Type 0 where
  edges : (p : ℕ) (y : EdgeShape) → slice_get old.edges p ≡ Some y → slice_get new.edges p ≡ Some y
  filled : (g : FutureShape) → has_filled g old.filled ≡ true → has_filled g new.filled ≡ true
  homes : (n : Name) (g : FutureShape) → is_home n (home_of g old.homes) ≡ true → is_home n (home_of g new.homes) ≡ true
  received : (g : FutureShape) (m : Name) → has_received g m old.received ≡ true → has_received g m new.received ≡ true

itself : (h : HoldersShape) → Grows h h
itself h = record { edges = λ p y e. e; filled = λ g e. e; homes = λ n g e. e; received = λ g m e. e }

grown : (e : Event) (h : HoldersShape) → Grows h (after_event e h)
grown (Begins f m) h = record { edges = λ p y e. e; filled = λ g e. e; homes = λ n g. home_more n g h.homes ((f, m) ∷ []); received = λ g m e. e }
grown (Passes x) h = record { edges = edge_more x h.edges; filled = λ g e. e; homes = λ n g e. e; received = λ g m e. e }
grown (Fills f) h = record { edges = λ p y e. e; filled = λ g. any_more (same_future g) h.filled (f ∷ []); homes = λ n g e. e; received = λ g m e. e }
grown (Receives f n held) h = record {
  edges = held_more held (home_of f h.homes) n h.edges;
  filled = λ g e. e;
  homes = λ n g e. e;
  received = λ g m. received_more g f m n h.received;
}
grown (Delivers x) h = record { edges = λ p y e. e; filled = λ g e. e; homes = λ n g e. e; received = λ g m e. e }

all_grown : (es : List Event) (h : HoldersShape) → Grows h (after_events es h)
all_grown [] h = itself h
all_grown (e ∷ es) h =
    let one = grown e h in
    let rest = all_grown es (after_event e h) in
    record {
      edges = λ p y is. rest.edges p y (one.edges p y is);
      filled = λ g is. rest.filled g (one.filled g is);
      homes = λ n g is. rest.homes n g (one.homes n g is);
      received = λ g m is. rest.received g m (one.received g m is);
    }

-- What is chosen

or_true : (b : Bool) → (b || true) ≡ true
or_true true = refl
or_true false = refl

or_grown : (a b c d : Bool) → (a ≡ true → c ≡ true) → (b ≡ true → d ≡ true) → (a || b) ≡ true → (c || d) ≡ true
or_grown true b c d f g h = ap (λ q. q || d) (f refl)
or_grown false b c d f g h = ap (λ q. c || q) (g h) ∙ or_true c

module _ (old new : HoldersShape) (grows : Grows old new) (cs more : List ChoiceShape) where
  value_grown : (x : EdgeShape) → has_value old x ≡ true → has_value new x ≡ true
  value_grown x =
      or_grown (is_home x.from (home_of x.future old.homes)) (has_received x.future x.from old.received) (is_home x.from (home_of x.future new.homes)) (has_received x.future x.from new.received)
      (grows.homes x.from x.future) (grows.received x.future x.from)

  answer_grown : (c : ChoiceShape) (x : EdgeShape) → is_chosen c old x ≡ true → is_chosen c new x ≡ true
  answer_grown FromHome x h = refl
  answer_grown Forward x h = value_grown x h
  answer_grown Leave x h = h

  chosen_grown : (x : EdgeShape) → IsChosen old cs x → IsChosen new (cs ++ more) x
  chosen_grown x is = record {
    place = is.place;
    edge = grows.edges is.place x is.edge;
    answer = is.answer;
    kept = get_append cs more is.place is.answer is.kept;
    chosen = answer_grown is.answer x is.chosen;
    filled = grows.filled x.future is.filled;
  }

  entry_grown : (e : EntryShape) → IsChosenEntry old cs e → IsChosenEntry new (cs ++ more) e
  entry_grown (Lent k) is = tt
  entry_grown (Committed k r) is = tt
  entry_grown (Delivered (Edge f from to)) is = chosen_grown (record { future = f; from = from; to = to }) is
  entry_grown (Delivered (Need f to place)) is = tt

  one_more : (entries : List EntryShape) (e : EntryShape) → IsChosenEntry old cs e → AreChosen entries old cs → AreChosen (entries ++ e ∷ []) new (cs ++ more)
  one_more entries e is are =
      each_both (IsChosenEntry new (cs ++ more)) entries (e ∷ []) (each_weaker (IsChosenEntry old cs) (IsChosenEntry new (cs ++ more)) entry_grown entries are) (entry_grown e is, tt)

-- What is owed next is chosen

both : (a b : Bool) → (a && b) ≡ true → (a ≡ true) × (b ≡ true)
both true b h = (refl, h)
both false b h = none_true h

abbrev edge_along : DeliveryShape → EdgeShape → EdgeShape
edge_along (Edge f from to) x = record { future = f; from = from; to = to }
edge_along (Need f to place) x = x

-- a delivery of an edge that is among these, from a place on, with its answer
record IsAmong (h : HoldersShape) (xs : List EdgeShape) (cs : List ChoiceShape) (x : EdgeShape) : Type 0 where
  place : ℕ
  edge : slice_get xs place ≡ Some x
  answer : ChoiceShape
  kept : slice_get cs place ≡ Some answer
  owed : is_owed h answer x ≡ true

module _ (s : RunShape) (h : HoldersShape) where
  edge_among : (xs : List EdgeShape) (cs : List ChoiceShape) (f : FutureShape) (from to : Name) → first_edge s h xs cs ≡ Some (Edge f from to)
      → IsAmong h xs cs (record { future = f; from = from; to = to })
  edge_among [] cs f from to e = no_some e
  edge_among (x ∷ xs) [] f from to e = no_some e
  edge_among (x ∷ xs) (c ∷ cs) f from to e = by (is_owed h c x && is_in s x.to) refl e (edge_among xs cs f from to)
    where
      y : EdgeShape
      y = record { future = f; from = from; to = to }

      by : (b : Bool) → (is_owed h c x && is_in s x.to) ≡ b → elim b [ true ↦ Some (Edge x.future x.from x.to) | false ↦ first_edge s h xs cs ] ≡ Some (Edge f from to)
          → (first_edge s h xs cs ≡ Some (Edge f from to) → IsAmong h xs cs y) → IsAmong h (x ∷ xs) (c ∷ cs) y
      by true is e among =
          let same : x ≡ y = ap (λ d. edge_along d x) (some_is e) in
          record {
            place = zero;
            edge = ap Some same;
            answer = c;
            kept = refl;
            owed = ap (is_owed h c) (sym same) ∙ (both (is_owed h c x) (is_in s x.to) is).0;
          }
      by false is e among =
          let rest = among e in
          record { place = suc rest.place; edge = rest.edge; answer = rest.answer; kept = rest.kept; owed = rest.owed }

  among_chosen : (cs : List ChoiceShape) (x : EdgeShape) → IsAmong h h.edges cs x → IsChosen h cs x
  among_chosen cs x is =
      let rest = both (not (has_edge x h.delivered)) (has_filled x.future h.filled && is_chosen is.answer h x) is.owed in
      let told = both (has_filled x.future h.filled) (is_chosen is.answer h x) rest.1 in
      record { place = is.place; edge = is.edge; answer = is.answer; kept = is.kept; chosen = told.1; filled = told.0 }

  need_chosen : (cs : List ChoiceShape) (ns : List Name) (d : DeliveryShape) → first_need s ns ≡ Some d → IsChosenDelivery h cs d
  need_chosen cs [] d e = no_some e
  need_chosen cs (n ∷ ns) d e = by (is_in s n) (need_to s.configuration n) e (need_chosen cs ns d)
    where
      by : (b : Bool) (o : Option (FutureShape × ℕ)) → elim b [ true ↦ or_else (need_delivery n o) (first_need s ns) | false ↦ first_need s ns ] ≡ Some d
          → (first_need s ns ≡ Some d → IsChosenDelivery h cs d) → IsChosenDelivery h cs d
      by false o e rest = rest e
      by true None e rest = rest e
      by true (Some z) e rest = subst (IsChosenDelivery h cs) (some_is e) tt

  edge_chosen : (cs : List ChoiceShape) (d : DeliveryShape) → first_edge s h h.edges cs ≡ Some d → IsChosenDelivery h cs d
  edge_chosen cs (Edge f from to) e = among_chosen cs (record { future = f; from = from; to = to }) (edge_among h.edges cs f from to e)
  edge_chosen cs (Need f to place) e = tt

  pub owed_chosen : (cs : List ChoiceShape) (d : DeliveryShape) → next_owed s h cs ≡ Some d → IsChosenDelivery h cs d
  owed_chosen cs d e = by (first_need s s.names) refl e
    where
      by : (o : Option DeliveryShape) → first_need s s.names ≡ o → or_else o (first_edge s h h.edges cs) ≡ Some d → IsChosenDelivery h cs d
      by None is e = edge_chosen cs d e
      by (Some z) is e = need_chosen cs s.names d (is ∙ e)

-- Holders that are the same

module _ (h k : HoldersShape) (same : SameHolders h k) (cs : List ChoiceShape) where
  chosen_so : (c : ChoiceShape) (x : EdgeShape) → is_chosen c h x ≡ is_chosen c k x
  chosen_so FromHome x = refl
  chosen_so Forward x =
      ap (λ o. is_home x.from o || has_received x.future x.from h.received) (same.homes x.future)
      ∙ ap (λ rs. is_home x.from (home_of x.future k.homes) || has_received x.future x.from rs) same.received
  chosen_so Leave x = refl

  one_same : (x : EdgeShape) → IsChosen h cs x → IsChosen k cs x
  one_same x is = record {
    place = is.place;
    edge = ap (λ es. slice_get es is.place) (sym same.edges) ∙ is.edge;
    answer = is.answer;
    kept = is.kept;
    chosen = sym (chosen_so is.answer x) ∙ is.chosen;
    filled = sym (same.filled x.future) ∙ is.filled;
  }

  entry_same : (e : EntryShape) → IsChosenEntry h cs e → IsChosenEntry k cs e
  entry_same (Lent j) is = tt
  entry_same (Committed j r) is = tt
  entry_same (Delivered (Edge f from to)) is = one_same (record { future = f; from = from; to = to }) is
  entry_same (Delivered (Need f to place)) is = tt

  pub chosen_same : (es : List EntryShape) → AreChosen es h cs → AreChosen es k cs
  chosen_same es are = each_weaker (IsChosenEntry h cs) (IsChosenEntry k cs) entry_same es are

pub delivered_same : (h k : HoldersShape) → SameHolders h k → (cs : List ChoiceShape) → ChosenAreDelivered h cs → ChosenAreDelivered k cs
delivered_same h k same cs all x is = ap (has_edge x) (sym same.delivered) ∙ all x (one_same k h (same_turned h k same) cs x is)

-- A core

module _ {P : Type 0} where
  pub none_delivered : (x : Core P) → entries_of x ≡ [] → DeliversChosen x
  none_delivered x none = subst (λ es. AreChosen es x.edges.holders.holders x.edges.holders.answers) (sym none) tt

  -- one entry more, with edges that grew
  pub stays_chosen : (x new : Core P) (s t : RunShape) (e : EntryShape) (more : List ChoiceShape) → IsRun x s → IsRun new t → HasEntered x e new
      → new.edges.holders.answers ≡ x.edges.holders.answers ++ more → IsChosenEntry x.edges.holders.holders x.edges.holders.answers e → StaysChosen x new
  stays_chosen x new s t e more run then entered answers is are =
      let h = x.edges.holders.holders in
      let cs = x.edges.holders.answers in
      let g = history_of x in
      let now : HoldersShape = new.edges.holders.holders in
      let told : HoldersShape = after_events (entry_events e s) (holders_of g) in
      let after : SameHolders (after_events (entry_events e s) h) now =
      same_then (after_events (entry_events e s) h) told now (same_events (entry_events e s) h (holders_of g) run.stand.edges.holders)
      (same_turned now told (subst (SameHolders now) (ap holders_of entered ∙ holders_go_on g e s run.stand.core.run) then.stand.edges.holders)) in
      let all = one_more h (after_events (entry_events e s) h) (all_grown (entry_events e s) h) cs more (entries_of x) e is are in
      subst (λ es. AreChosen es new.edges.holders.holders new.edges.holders.answers) (sym (ap (λ (q : _). q.entries) entered))
      (chosen_same (after_events (entry_events e s) h) now after new.edges.holders.answers (entries_of x ++ e ∷ [])
      (subst (λ q. AreChosen (entries_of x ++ e ∷ []) (after_events (entry_events e s) h) q) (sym answers) all))

-- Where the verdict is there

module _ (s : RunShape) (h : HoldersShape) where
  none_due : (xs : List EdgeShape) (cs : List ChoiceShape) (p : ℕ) (x : EdgeShape) (c : ChoiceShape) → first_edge s h xs cs ≡ None → slice_get xs p ≡ Some x → slice_get cs p ≡ Some c
      → (is_owed h c x && is_in s x.to) ≡ false
  none_due [] cs p x c none edge kept = no_some edge
  none_due (y ∷ ys) [] p x c none edge kept = no_some kept
  none_due (y ∷ ys) (d ∷ ds) zero x c none edge kept =
      ap (λ q. is_owed h c q && is_in s q.to) (sym (some_is edge)) ∙ ap (λ q. is_owed h q y && is_in s y.to) (sym (some_is kept)) ∙ by (is_owed h d y && is_in s y.to) none
    where
      by : (b : Bool) → elim b as (λ q. Option DeliveryShape) [ true ↦ Some (Edge y.future y.from y.to) | false ↦ first_edge s h ys ds ] ≡ None → b ≡ false
      by true none = no_some (sym none)
      by false none = refl
  none_due (y ∷ ys) (d ∷ ds) (suc p) x c none edge kept = none_due ys ds p x c (by (is_owed h d y && is_in s y.to) none) edge kept
    where
      by : (b : Bool) → elim b as (λ q. Option DeliveryShape) [ true ↦ Some (Edge y.future y.from y.to) | false ↦ first_edge s h ys ds ] ≡ None → first_edge s h ys ds ≡ None
      by true none = no_some (sym none)
      by false none = none

had : (a filled chosen free : Bool) → filled ≡ true → chosen ≡ true → free ≡ true → ((not a && (filled && chosen)) && free) ≡ false → a ≡ true
had true filled chosen free f c i none = refl
had false filled chosen free f c i none = none_true (sym none ∙ (λ j. (f j && c j) && i j))

none_owed : (out : Bool) (owed : Option DeliveryShape) (on : Bool) (v : VerdictShape) → is_some (elim (out || (is_some owed || on)) as (λ b. Option VerdictShape) [ true ↦ None | false ↦ Some v ]) ≡ true → owed ≡ None
none_owed true owed on v is = none_true is
none_owed false None on v is = refl
none_owed false (Some d) on v is = none_true is

pub over_delivered : {P : Type 0} (x : Core P) (s : RunShape) → IsRun x s → is_some (verdict_of x s) ≡ true → ChosenAreDelivered x.edges.holders.holders x.edges.holders.answers
over_delivered x s run over = λ e is.
    let v = x.edges.holders in
    let h = v.holders in
    let owed = none_owed (is_any s.out) (next_owed s h v.answers) (goes_on s) (status.verdict_of s.configuration) over in
    let st = run.stand in
    let apart = numbered (history_of x) (code_of x) s x.state v st in
    let there = (each_got (IsKnownEdge s.configuration) h.edges is.place e (known (history_of x) (code_of x) s x.state v st) is.edge).2 in
    let k = apart.numbered e.to there in
    let free : is_in s e.to ≡ true = in_named s apart k.0 e.to k.1 ∙ ap (λ out. is_none (grant_of k.0 out)) (home s v over) in
    had (has_edge e h.delivered) (has_filled e.future h.filled) (is_chosen is.answer h e) (is_in s e.to) is.filled is.chosen free
    (none_due s h h.edges v.answers is.place e is.answer (nothing_after (first_need s s.names) (first_edge s h h.edges v.answers) owed) is.edge is.kept)
  where
    nothing_after : (o p : Option DeliveryShape) → or_else o p ≡ None → p ≡ None
    nothing_after None p none = none
    nothing_after (Some d) p none = no_some (sym none)

-- A policy that always leaves

all_leave : {P : Type 0} (answers : Answering P) (counts : Counting P) (strategies : FutureShape → Strategy) → AlwaysLeaves answers
    → (xs : List EdgeShape) (cs : List ChoiceShape) (old new : Policies P) → AreAsked answers counts strategies xs cs old new → Each (λ c. c ≡ Leave) cs
all_leave answers counts strategies leaves [] [] old new asked = tt
all_leave answers counts strategies leaves [] (c ∷ cs) old new asked = absurd asked
all_leave answers counts strategies leaves (x ∷ xs) [] old new asked = absurd asked
all_leave answers counts strategies leaves (x ∷ xs) (c ∷ cs) old new asked =
    (asked.1.is ∙ leaves _ x.future x.from x.to, all_leave answers counts strategies leaves xs cs asked.0 new asked.2)

none_along : (h : HoldersShape) (cs : List ChoiceShape) → Each (λ c. c ≡ Leave) cs → (e : EntryShape) → IsChosenEntry h cs e → IsAlongNoEdge e
none_along h cs leave (Lent k) is = tt
none_along h cs leave (Committed k r) is = tt
none_along h cs leave (Delivered (Edge f from to)) is =
    let x : EdgeShape = record { future = f; from = from; to = to } in
    none_true (ap (λ c. is_chosen c h x) (sym (each_got (λ c. c ≡ Leave) cs is.place is.answer leave is.kept)) ∙ is.chosen)
none_along h cs leave (Delivered (Need f to place)) is = tt

pub lazy_delivers_nothing : LazyDeliversNothing
lazy_delivers_nothing P answers counts strategies entries h choices old new leaves asked are =
    each_weaker (IsChosenEntry h choices) IsAlongNoEdge (none_along h choices (all_leave answers counts strategies leaves h.edges choices old new asked)) entries are
