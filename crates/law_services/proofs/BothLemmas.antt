-- Two activities that are equal but for the numbers of what they served act alike.
use Rattle.std.specs.Prelude.{◌≡◌, ℕ, suc, Bool, true, false, List, [], ◌∷◌, ◌++◌, Option, Some, None, slice_get}
use Rattle.std.proofs.Common.{refl, sym, ap, subst, ◌∙◌, arith, ⊎_elim}
use Rattle.asp_model.specs.Names.{Name, FutureShape, Text}
use Rattle.asp_model.specs.Term.{Head, Call, Pending, Trees, node, none, more, loc, locs_then}
use Rattle.asp_model.specs.Split.{Context, Split, Stands, Splits, split}
use Rattle.asp_model.specs.Parcel.{unpack, unpacked_roots}
use Rattle.asp_model.specs.Chase.{Chase}
use Rattle.asp_model.specs.Configuration.{RequestShape, Activity, label_of}
use Rattle.asp_model.specs.Intent.{Effect, Intent, Acts, Rests, Done, Serving, Numbered, oldest_match, serves, intent}
use Rattle.asp_model.specs.Status.{status_of_intent}
use Rattle.law_steps.specs.Waking.{labels_wanted}
use Rattle.law_steps.specs.Steps.{IsPoll}
use Rattle.law_chases.proofs.FutureLemmas.{no_some, some_is, none_true}
use Rattle.law_steps.proofs.FactLemmas.{no_acts, acts_is, match_is}
use Rattle.law_steps.proofs.PersistLemmas.{KeepsValues, GoesOn, intent_on}
use Rattle.law_services.specs.Services.{set_at}
use Rattle.law_services.specs.Correct.{bare}
use Rattle.law_services.proofs.PickLemmas.{second, future_in, future_at, futures_at}
use Rattle.law_services.proofs.BareLemmas.{with_served, restored, restore, is_pending, polls_at, pending_by, by_split, intent_bare, calm_at, is_serve}

-- what two effects give is the same, and what they leave, but for the numbers of what was served
pub record Alike (rs qs : List RequestShape) (e f : Effect) : Type 0 where
  pub own : bare e.own ≡ bare f.own
  pub sent : e.sent ≡ f.sent
  pub made : e.made ≡ f.made
  pub filled : e.filled ≡ f.filled
  pub served : futures_at rs e.own.served ≡ futures_at qs f.own.served

restored_is : (ks : List ℕ) (p : Intent) (e : Effect) → restore ks p ≡ Acts e → (x : Effect) × (p ≡ Acts x) × (restored ks x ≡ e)
restored_is ks (Acts x) e h = (x, refl, acts_is h)
restored_is ks (Rests status) e h = no_acts h

-- who acts on its own acts where more futures have values
on_more : (k g : FutureShape → Chase) → KeepsValues k g → (n : Name) (a : Activity) (x : Effect) → intent k [] n a ≡ Acts x → intent g [] n a ≡ Acts x
on_more k g keeps n a x h = ⊎_elim (λ p. p) (λ y. absurd (y.4 refl)) (subst (λ p. GoesOn k g keeps (λ y z. Unit {0}) [] [] n a (labels_wanted a) p (intent g [] n a)) h (intent_on k g keeps (λ y z. Unit {0}) [] [] n a))

set_same : (a b : Activity) → bare a ≡ bare b → set_at a ≡ set_at b
set_same a b e = ap set_at e

polls_same : (a b : Activity) → bare a ≡ bare b → polls_at a ≡ polls_at b
polls_same a b e = ap polls_at e

module _ (k g : FutureShape → Chase) (keeps : KeepsValues k g) (n : Name) (a b : Activity) (alike : bare a ≡ bare b) (rs qs : List RequestShape) where
  back : with_served b.served a ≡ b
  back = ap (with_served b.served) alike

  -- without a service: what one does on its own, the other does
  acts_bare : (e : Effect) → set_at a ≡ None → polls_at a ≡ false → intent k rs n a ≡ Acts e → (x : Effect) × (restored a.served x ≡ e) × (intent g qs n b ≡ Acts (restored b.served x)) × (intent g [] n (bare b) ≡ Acts x)
  acts_bare e not calm h =
      let y = restored_is a.served (intent k [] n (bare a)) e (sym (intent_bare rs n a k not calm) ∙ h) in
      let z : intent g [] n (bare b) ≡ Acts y.0 = ap (intent g [] n) (sym alike) ∙ on_more k g keeps n (bare a) y.0 y.1 in
      (y.0, y.2, intent_bare qs n b g (sym (set_same a b alike) ∙ not) (sym (polls_same a b alike) ∙ calm) ∙ ap (restore b.served) z, z)

abbrev served_effect : Activity → List Context → List ℕ → Numbered → Effect
served_effect a contexts ks x = record {
  own = record (with_served ks a) {
    term = node (Call (label_of x.1)) (more (loc a.active) (locs_then (unpacked_roots a.store x.1.arguments) none));
    services = a.services ++ record { contexts = contexts; future = a.present } ∷ [];
    present = Some x.1.future;
    store = unpack a.store x.1.arguments;
    reductions = suc a.reductions;
    served = x.0 ∷ ks;
  };
  sent = None;
  logged = None;
  made = None;
  filled = None;
}

serve_some : (a : Activity) (contexts : List Context) (ks : List ℕ) (o : Option Numbered) (e : Effect) → serves (with_served ks a) contexts o ≡ Acts e → (x : Numbered) × (o ≡ Some x) × (served_effect a contexts ks x ≡ e)
serve_some a contexts ks None e h = no_acts h
serve_some a contexts ks (Some x) e h = (x, refl, acts_is h)

some_second : (o : Option Numbered) (r : RequestShape) → second o ≡ Some r → (x : Numbered) × (o ≡ Some x) × (x.1 ≡ r)
some_second None r h = no_some h
some_second (Some x) r h = (x, refl, some_is h)

-- the future of what was matched stands at its number
match_future : (labels : List Text) (ks : List ℕ) (rs : List RequestShape) (x : Numbered) → oldest_match labels ks 0 rs ≡ Some x → future_at rs x.0 ≡ Some x.1.future
match_future labels ks rs x h =
    let m = match_is labels ks 0 rs x h in
    ap (λ k. future_in (slice_get rs k)) (omega (arith, m.1)) ∙ ap future_in m.2

-- at a serve that is taken on one side, and whose request is the match on the other
module _ (n : Name) (a b : Activity) (alike : bare a ≡ bare b) (labels : List Text) (at : set_at a ≡ Some labels) (rs qs : List RequestShape) (k l : FutureShape → Chase) where
  returned : with_served b.served a ≡ b
  returned = ap (with_served b.served) alike

  pub serve_too : (e : Effect) → intent k rs n a ≡ Acts e → ((r : RequestShape) → second (oldest_match labels a.served 0 rs) ≡ Some r → second (oldest_match labels b.served 0 qs) ≡ Some r) → (f : Effect) × (intent l qs n b ≡ Acts f)
  serve_too e h same = ⊎_elim
      (λ s.
      let x = serve_some a s.0 a.served (oldest_match labels a.served 0 rs) e (sym (s.1 k rs a.served) ∙ h) in
      let y = some_second (oldest_match labels b.served 0 qs) x.0.1 (same x.0.1 (ap second x.1)) in
      (served_effect a s.0 b.served y.0, ap (intent l qs n) (sym returned) ∙ s.1 l qs b.served ∙ ap (serves (with_served b.served a) s.0) y.1))
      (λ s. no_acts (sym (s k rs a.served) ∙ h))
      (is_serve n a labels at)

  pub serve_both : (e f : Effect) → intent k rs n a ≡ Acts e → intent l qs n b ≡ Acts f
      → ((r q : RequestShape) → second (oldest_match labels a.served 0 rs) ≡ Some r → second (oldest_match labels b.served 0 qs) ≡ Some q → r ≡ q)
      → futures_at rs a.served ≡ futures_at qs b.served → Alike rs qs e f
  serve_both e f h g same served = ⊎_elim
      (λ s.
      let x = serve_some a s.0 a.served (oldest_match labels a.served 0 rs) e (sym (s.1 k rs a.served) ∙ h) in
      let y = serve_some a s.0 b.served (oldest_match labels b.served 0 qs) f (sym (s.1 l qs b.served) ∙ ap (intent l qs n) returned ∙ g) in
      let one : x.0.1 ≡ y.0.1 = same x.0.1 y.0.1 (ap second x.1) (ap second y.1) in
      let here : future_at rs x.0.0 ≡ future_at qs y.0.0 = match_future labels a.served rs x.0 x.1 ∙ ap (λ r. Some r.future) one ∙ sym (match_future labels b.served qs y.0 y.1) in
      subst (λ z. Alike rs qs z f) x.2 (subst (Alike rs qs (served_effect a s.0 a.served x.0)) y.2 (record {
        own = ap (λ r. bare (served_effect a s.0 [] (0, r)).own) one;
        sent = refl {a = None};
        made = refl {a = None};
        filled = refl {a = None};
        served = (λ i. here i ∷ served i);
      })))
      (λ s. no_acts (sym (s k rs a.served) ∙ h))
      (is_serve n a labels at)

-- Both

-- what is found on one side for a set of labels
abbrev pub Found : Activity → List RequestShape → List Text → Option RequestShape
Found a rs labels = second (oldest_match labels a.served 0 rs)

by_set : {C : Type 0} (o : Option (List Text)) → (o ≡ None → C) → ((labels : List Text) → o ≡ Some labels → C) → C
by_set None f g = f refl
by_set (Some labels) f g = g labels refl

-- who acts on one side acts on the other, where futures that have values there have them here
pub acts_too : (k g : FutureShape → Chase) → KeepsValues k g → (n : Name) (a b : Activity) → bare a ≡ bare b → (rs qs : List RequestShape) (e : Effect) → intent k rs n a ≡ Acts e → (IsPoll n e → ⊥)
    → ((labels : List Text) (r : RequestShape) → set_at a ≡ Some labels → Found a rs labels ≡ Some r → Found b qs labels ≡ Some r) → (f : Effect) × (intent g qs n b ≡ Acts f)
acts_too k g keeps n a b alike rs qs e h calm found = by_set (set_at a)
    (λ not. let x = acts_bare k g keeps n a b alike rs qs e not (calm_at k rs n a e h calm) h in (restored b.served x.0, x.2))
    (λ labels at. serve_too n a b alike labels at rs qs k g e h (λ r. found labels r at))

-- two that act do the same, where a third has values for both
pub acts_both : (k l g : FutureShape → Chase) → KeepsValues k g → KeepsValues l g → (n : Name) (a b : Activity) → bare a ≡ bare b → (rs qs : List RequestShape) (e f : Effect) → intent k rs n a ≡ Acts e → intent l qs n b ≡ Acts f → (IsPoll n e → ⊥)
    → ((labels : List Text) (r q : RequestShape) → set_at a ≡ Some labels → Found a rs labels ≡ Some r → Found b qs labels ≡ Some q → r ≡ q)
    → futures_at rs a.served ≡ futures_at qs b.served → Alike rs qs e f
acts_both k l g kg lg n a b alike rs qs e f h d quiet found served = by_set (set_at a)
    (λ not.
    let calm = calm_at k rs n a e h quiet in
    let x = acts_bare k g kg n a b alike rs qs e not calm h in
    let y = acts_bare l g lg n b b refl qs qs f (sym (set_same a b alike) ∙ not) (sym (polls_same a b alike) ∙ calm) d in
    let one : x.0 ≡ y.0 = acts_is (sym x.3 ∙ y.3) in
    subst (λ z. Alike rs qs z f) x.1 (subst (Alike rs qs (restored a.served x.0)) y.1 (record {
      own = ap (λ z. bare z.own) one;
      sent = ap (λ z. z.sent) one;
      made = ap (λ z. z.made) one;
      filled = ap (λ z. z.filled) one;
      served = served;
    })))
    (λ labels at. serve_both n a b alike labels at rs qs k l e f h d (λ r q. found labels r q at) served)

-- Statuses of two that are alike, where neither acts

status_restored : (ks : List ℕ) (p : Intent) → status_of_intent (restore ks p) ≡ status_of_intent p
status_restored ks (Acts x) = refl
status_restored ks (Rests status) = refl

serves_nothing : (a : Activity) (contexts : List Context) (o : Option Numbered) → ((e : Effect) → serves a contexts o ≡ Acts e → ⊥) → serves a contexts o ≡ Rests Serving
serves_nothing a contexts None h = refl
serves_nothing a contexts (Some x) h = absurd (h _ refl)

by_poll : {C : Type 0} (b : Bool) → (b ≡ false → C) → (b ≡ true → C) → C
by_poll true f g = g refl
by_poll false f g = f refl

-- who stands at a `pending` and does not act is broken
module _ (chases : FutureShape → Chase) (rs : List RequestShape) (n : Name) (a : Activity) where
  rest_by : (contexts : List Context) (h : Head) (ns : List ℕ) (ts : Trees) → is_pending h ≡ true → ((e : Effect) → by_split chases n a rs (Splits contexts (record { head = h; places = ns; behind = ts })) ≡ Acts e → ⊥) → by_split chases n a rs (Splits contexts (record { head = h; places = ns; behind = ts })) ≡ Rests Done
  rest_by contexts (Pending ls) [] none p h = absurd (h _ refl)
  rest_by contexts (Pending ls) [] (more t ts) p h = refl
  rest_by contexts (Pending ls) (i ∷ ns) ts p h = refl
  rest_by contexts k ns ts p h = none_true p

  split_rests : (t : Split) → pending_by t ≡ true → ((e : Effect) → by_split chases n a rs t ≡ Acts e → ⊥) → by_split chases n a rs t ≡ Rests Done
  split_rests (Stands place) p h = none_true p
  split_rests (Splits contexts redex) p h = rest_by contexts redex.head redex.places redex.behind p h

  poll_rests : polls_at a ≡ true → ((e : Effect) → intent chases rs n a ≡ Acts e → ⊥) → intent chases rs n a ≡ Rests Done
  poll_rests p h = split_rests (split a.term) p h

pub status_alike : (k : FutureShape → Chase) (n : Name) (a b : Activity) → bare a ≡ bare b → (rs qs : List RequestShape) → ((e : Effect) → intent k rs n a ≡ Acts e → ⊥) → ((e : Effect) → intent k qs n b ≡ Acts e → ⊥) → status_of_intent (intent k rs n a) ≡ status_of_intent (intent k qs n b)
status_alike k n a b alike rs qs rest rest_too = by_set (set_at a)
    (λ not. by_poll (polls_at a)
    (λ calm.
    ap status_of_intent (intent_bare rs n a k not calm) ∙ status_restored a.served (intent k [] n (bare a))
    ∙ ap (λ z. status_of_intent (intent k [] n z)) alike
    ∙ sym (ap status_of_intent (intent_bare qs n b k (sym (set_same a b alike) ∙ not) (sym (polls_same a b alike) ∙ calm)) ∙ status_restored b.served (intent k [] n (bare b))))
    (λ p. ap status_of_intent (poll_rests k rs n a p rest) ∙ sym (ap status_of_intent (poll_rests k qs n b (sym (polls_same a b alike) ∙ p) rest_too))))
    (λ labels at.
    let back : with_served b.served a ≡ b = ap (with_served b.served) alike in
    ⊎_elim
    (λ s.
    let x : intent k rs n a ≡ Rests Serving = s.1 k rs a.served ∙ serves_nothing a s.0 (oldest_match labels a.served 0 rs) (λ e h. rest e (s.1 k rs a.served ∙ h)) in
    let to : intent k qs n b ≡ serves (with_served b.served a) s.0 (oldest_match labels b.served 0 qs) = ap (intent k qs n) (sym back) ∙ s.1 k qs b.served in
    let y : intent k qs n b ≡ Rests Serving = to ∙ serves_nothing (with_served b.served a) s.0 (oldest_match labels b.served 0 qs) (λ e h. rest_too e (to ∙ h)) in
    ap status_of_intent x ∙ sym (ap status_of_intent y))
    (λ s. ap status_of_intent (s k rs a.served) ∙ sym (ap status_of_intent (ap (intent k qs n) (sym back) ∙ s k qs b.served)))
    (is_serve n a labels at))
