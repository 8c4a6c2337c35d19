-- Steps of two activities: what each leaves of the other's intent, and that they may be taken in either order.
use Rattle.std.specs.Prelude.{◌≡◌, ◌≢◌, Bool, true, false, T, List, [], ◌∷◌, ◌++◌, Option, Some, None, length, is_some}
use Rattle.std.proofs.Common.{refl, sym, ap, subst, ◌∙◌, arith, inl, inr, ⊎_elim, ◌⊎◌, length-append}
use Rattle.std.proofs.lemmas.Bool.{and_parts, and_from}
use Rattle.std.specs.FinMap.{find, put, is_sorted}
use Rattle.std.specs.FinMap.Entries.{is_sorted-put}
use Rattle.asp_model.specs.Names.{Name, FutureShape, name_cmp, future_cmp}
use Rattle.asp_model.specs.Chase.{chase}
use Rattle.asp_model.specs.Configuration.{RequestShape, ReceptionShape, From, Poll, Activity, Configuration, or_none, requests_of, log_of}
use Rattle.asp_model.specs.Intent.{Acts, Rests, Done, Effect, intent}
use Rattle.asp_model.specs.Step.{ListsShape, intent_in, put_some, with_last, with_effect, reception_at, is_reception, is_next, may_log}
use Rattle.law_steps.specs.Waking.{labels_wanted}
use Rattle.law_steps.specs.Steps.{IsPoll}
use Rattle.law_steps.proofs.NameLemmas.{reception_is, name_total, name_same, is_there}
use Rattle.law_chases.proofs.FutureLemmas.{future_total, future_same, no_some, some_is, none_true}
use Rattle.law_chases.proofs.MapLemmas as Maps
use Rattle.law_steps.proofs.StepLemmas.{Takes}
use Rattle.law_chases.proofs.ChaseLemmas.{chase_value}
use Rattle.law_steps.proofs.PersistLemmas.{KeepsValues, GoesOn, intent_on}
use Rattle.law_steps.proofs.OrderLemmas.{IsNew, KeysApart, fills_extend, fills_longer, own_kept, box_grows, still_there, swap_some}
use Rattle.law_steps.proofs.FactLemmas.{IsLogged, acts_facts}
use Rattle.law_steps.proofs.SoundLemmas.{Sound, Took}
use Rattle.law_steps.proofs.KeptLemmas.{fresh, made_apart, filled_apart}

pub took : (lists : Option ListsShape) (c : Configuration) (n : Name) (e : Effect) → Sound c → Takes lists c n e → Took c n e
took lists c n e s t = let p = acts_facts c n e t.intends in record { sound = s; there = p.0; facts = p.1 }

-- The intent of another

pub intended_is : (c : Configuration) (n : Name) (a : Activity) → find name_cmp n c.activities ≡ Some a → intent_in c n ≡ intent (chase c.futures) (requests_of c n) n a
intended_is c n a h = ap (λ o. elim o [ None ↦ Rests Done | Some a ↦ intent (chase c.futures) (requests_of c n) n a ]) h

pub values_kept : (c : Configuration) (m : Name) (d : Effect) → Took c m d → KeepsValues (chase c.futures) (chase (with_effect m d c).futures)
values_kept c m d t x y p = chase_value c.futures (put_some future_cmp d.filled c.futures) (fills_extend d.filled c.futures (fresh c m d t).filled) (fills_longer d.filled c.futures t.sound.ordered.futures) x y p

-- what a step of m leaves of the intent of n, which received these requests in it
pub intent_beside : (c : Configuration) (n m : Name) (d : Effect) (a : Activity) (holds : FutureShape → FutureShape → Type 0) → n ≢ m → (t : Took c m d) → find name_cmp n c.activities ≡ Some a
    → (qs : List RequestShape) × (requests_of (with_effect m d c) n ≡ requests_of c n ++ qs) × GoesOn (chase c.futures) (chase (with_effect m d c).futures) (values_kept c m d t) holds (requests_of c n) qs n a (labels_wanted a) (intent_in c n) (intent_in (with_effect m d c) n)
intent_beside c n m d a holds apart t is =
    let grown = box_grows n d.sent c.received in
    let g = chase (with_effect m d c).futures in
    let keeps = values_kept c m d t in
    let own : find name_cmp n (with_effect m d c).activities ≡ Some a = own_kept c n m d apart (fresh c m d t) (ap is_some is) ∙ is in
    let later : intent_in (with_effect m d c) n ≡ intent g (requests_of c n ++ grown.0) n a = intended_is (with_effect m d c) n a own ∙ ap (λ rs. intent g rs n a) grown.1 in (
      grown.0,
      grown.1,
      subst (λ p. GoesOn (chase c.futures) g keeps holds (requests_of c n) grown.0 n a (labels_wanted a) p (intent_in (with_effect m d c) n)) (sym (intended_is c n a is))
          (subst (GoesOn (chase c.futures) g keeps holds (requests_of c n) grown.0 n a (labels_wanted a) (intent (chase c.futures) (requests_of c n) n a)) (sym later) (intent_on (chase c.futures) g keeps holds (requests_of c n) grown.0 n a)),
    )

-- who acts still does, with the same effect; or it polls, and received more
pub acts_after : (c : Configuration) (n m : Name) (e d : Effect) → n ≢ m → Took c m d → intent_in c n ≡ Acts e
    → (intent_in (with_effect m d c) n ≡ Acts e) ⊎ (IsPoll n e × (x : Effect) × (intent_in (with_effect m d c) n ≡ Acts x) × IsPoll n x × (requests_of (with_effect m d c) n ≢ requests_of c n))
acts_after c n m e d apart t intends =
    let a = is_there (find name_cmp n c.activities) (acts_facts c n e intends).0 in
    let x = intent_beside c n m d a.0 (λ h k. Unit {0}) apart t a.1 in
    let on = subst (λ p. GoesOn (chase c.futures) (chase (with_effect m d c).futures) (values_kept c m d t) (λ h k. Unit {0}) (requests_of c n) x.0 n a.0 (labels_wanted a.0) p (intent_in (with_effect m d c) n)) intends x.2 in
    ⊎_elim (λ p. inl p) (λ y. inr (y.0, y.1, y.2, y.3, λ same. y.4 (none_more (requests_of c n) x.0 (sym x.1 ∙ same)))) on
  where
    none_more : (rs qs : List RequestShape) → rs ++ qs ≡ rs → qs ≡ []
    none_more rs [] h = refl
    none_more rs (q ∷ qs) h = absurd (omega (arith, ap length h, length-append rs (q ∷ qs)))

-- with the same effect, where it received nothing or does not poll
pub acts_still : (c : Configuration) (n m : Name) (e d : Effect) → n ≢ m → Took c m d → (IsPoll n e → requests_of (with_effect m d c) n ≡ requests_of c n) → intent_in c n ≡ Acts e → intent_in (with_effect m d c) n ≡ Acts e
acts_still c n m e d apart t quiet intends = ⊎_elim (λ p. p) (λ x. absurd (x.4 (quiet x.0))) (acts_after c n m e d apart t intends)

-- Logs of different activities

-- the two append to no one log
abbrev pub LogsApart : Option (Name × ReceptionShape) → Option (Name × ReceptionShape) → Type 0
LogsApart None p = Unit {0}
LogsApart (Some x) None = Unit {0}
LogsApart (Some x) (Some y) = x.0 ≢ y.0

-- who logs a reception: the sender, or the activity itself
abbrev LoggedBy : Name → Name × ReceptionShape → Type 0
LoggedBy n x = (x.1 ≡ From n) ⊎ ((x.0 ≡ n) × (x.1 ≡ Poll))

logged_by : (n : Name) (o : Option (Name × RequestShape)) (x : Name × ReceptionShape) → IsLogged n o (Some x) → LoggedBy n x
logged_by n None x (inl h) = no_some (sym h)
logged_by n None x (inr h) = inr (ap (λ z. z.0) (some_is h), ap (λ z. z.1) (some_is h))
logged_by n (Some z) x h = inl (ap (λ z. z.1) (some_is h))

abbrev sender_or : Name → ReceptionShape → Name
sender_or n (From m) = m
sender_or n Poll = n

abbrev is_poll : ReceptionShape → Bool
is_poll (From m) = false
is_poll Poll = true

-- so one entry at one activity is of one activity
one_logger : (n m : Name) (x y : Name × ReceptionShape) → x.0 ≡ y.0 → x.1 ≡ y.1 → LoggedBy n x → LoggedBy m y → n ≡ m
one_logger n m x y at same (inl p) (inl q) = ap (sender_or n) (sym p ∙ same ∙ q)
one_logger n m x y at same (inl p) (inr q) = none_true (ap is_poll (sym p ∙ same ∙ q.1))
one_logger n m x y at same (inr p) (inl q) = none_true (ap is_poll (sym q ∙ sym same ∙ p.1))
one_logger n m x y at same (inr p) (inr q) = sym p.0 ∙ at ∙ q.0

logs_apart_by : (lists : ListsShape) (c : Configuration) (n m : Name) (e d : Effect) (o p : Option (Name × ReceptionShape)) → IsLogged n e.sent o → IsLogged m d.sent p → n ≢ m → may_log (Some lists) c o ≡ true → may_log (Some lists) c p ≡ true → LogsApart o p
logs_apart_by lists c n m e d None p f g apart a b = tt
logs_apart_by lists c n m e d (Some x) None f g apart a b = tt
logs_apart_by lists c n m e d (Some x) (Some y) f g apart a b = λ at.
    let expected : Name → Option ReceptionShape = λ k. reception_at (or_none (find name_cmp k lists)) (length (log_of c k)) in
    let n_next : expected x.0 ≡ Some x.1 = reception_is x.1 (expected x.0) (and_parts (is_some (find name_cmp x.0 c.activities)) (is_next (Some lists) c x.0 x.1) a).1 in
    let m_next : expected y.0 ≡ Some y.1 = reception_is y.1 (expected y.0) (and_parts (is_some (find name_cmp y.0 c.activities)) (is_next (Some lists) c y.0 y.1) b).1 in
    apart (one_logger n m x y at (some_is (sym n_next ∙ ap expected at ∙ m_next)) (logged_by n e.sent x f) (logged_by m d.sent y g))

-- with logs one entry at a time is next
pub logs_apart : (lists : ListsShape) (c : Configuration) (n m : Name) (e d : Effect) → n ≢ m → Takes (Some lists) c n e → Takes (Some lists) c m d → LogsApart e.logged d.logged
logs_apart lists c n m e d apart a b = logs_apart_by lists c n m e d e.logged d.logged (acts_facts c n e a.intends).1.logged (acts_facts c m d b.intends).1.logged apart a.may b.may

-- no two of these at one activity
abbrev pub SendsApart : {X : Type 0} → Option (Name × X) → Option (Name × X) → Type 0
SendsApart None p = Unit {0}
SendsApart (Some x) None = Unit {0}
SendsApart (Some x) (Some y) = x.0 ≢ y.0

sends_apart_by : (n m : Name) (o p : Option (Name × RequestShape)) (l k : Option (Name × ReceptionShape)) → IsLogged n o l → IsLogged m p k → LogsApart l k → SendsApart o p
sends_apart_by n m None p l k f g a = tt
sends_apart_by n m (Some x) None l k f g a = tt
sends_apart_by n m (Some x) (Some y) l k f g a = subst (λ z. LogsApart z (Some (y.0, From m))) f (subst (LogsApart l) g a)

pub sends_apart : (c : Configuration) (n m : Name) (e d : Effect) → intent_in c n ≡ Acts e → intent_in c m ≡ Acts d → LogsApart e.logged d.logged → SendsApart e.sent d.sent
sends_apart c n m e d h g a = sends_apart_by n m e.sent d.sent e.logged d.logged (acts_facts c n e h).1.logged (acts_facts c m d g).1.logged a

box_kept : {X : Type 0} (o p : Option (Name × X)) (x : Name × X) → o ≡ Some x → SendsApart o p → (bs : List (Name × List X)) → or_none (find name_cmp x.0 (with_last p bs)) ≡ or_none (find name_cmp x.0 bs)
box_kept None p x e a bs = no_some e
box_kept (Some z) None x e a bs = refl
box_kept (Some z) (Some y) x e a bs = ap or_none (Maps.find_other name_cmp name_total name_same x.0 y.0 (or_none (find name_cmp y.0 bs) ++ y.1 ∷ []) bs (λ f. a (ap (λ w. w.0) (some_is e) ∙ f)))

pub next_same : (lists : Option ListsShape) (c d : Configuration) (to : Name) (x : ReceptionShape) → log_of d to ≡ log_of c to → is_next lists d to x ≡ is_next lists c to x
next_same None c d to x h = refl
next_same (Some lists) c d to x h = ap (λ (l : List ReceptionShape). is_reception x (reception_at (or_none (find name_cmp to lists)) (length l))) h

logs_as_sends : (o p : Option (Name × ReceptionShape)) → LogsApart o p → SendsApart o p
logs_as_sends None p a = tt
logs_as_sends (Some x) None a = tt
logs_as_sends (Some x) (Some y) a = a

may_kept : (lists : Option ListsShape) (c : Configuration) (m : Name) (d : Effect) (o : Option (Name × ReceptionShape)) → LogsApart o d.logged → may_log lists c o ≡ true → may_log lists (with_effect m d c) o ≡ true
may_kept lists c m d None a h = refl
may_kept lists c m d (Some x) a h =
    let b = and_parts (is_some (find name_cmp x.0 c.activities)) (is_next lists c x.0 x.1) h in
    and_from (is_some (find name_cmp x.0 (with_effect m d c).activities)) (is_next lists (with_effect m d c) x.0 x.1)
    (still_there d.made (put name_cmp m d.own c.activities) x.0 (Maps.stays_there name_cmp name_total name_same m d.own c.activities x.0 b.0))
    (next_same lists c (with_effect m d c) x.0 x.1 (box_kept (Some x) d.logged x refl (logs_as_sends (Some x) d.logged a) c.logs) ∙ b.1)

-- a poller whose log another leaves receives nothing
quiet_poll : (c : Configuration) (n m : Name) (d : Effect) (l : Option (Name × ReceptionShape)) (o : Option (Name × RequestShape)) (k : Option (Name × ReceptionShape)) → l ≡ Some (n, Poll) → IsLogged m o k → LogsApart l k → or_none (find name_cmp n (with_last o c.received)) ≡ requests_of c n
quiet_poll c n m d l None k is f a = refl
quiet_poll c n m d l (Some z) k is f a = ap or_none (Maps.find_other name_cmp name_total name_same n z.0 (or_none (find name_cmp z.0 c.received) ++ z.1 ∷ []) c.received (subst (λ q. LogsApart q (Some (z.0, From m))) is (subst (LogsApart l) f a)))

pub takes_still : (lists : Option ListsShape) (c : Configuration) (n m : Name) (e d : Effect) → n ≢ m → Took c m d → LogsApart e.logged d.logged → Takes lists c n e → Takes lists (with_effect m d c) n e
takes_still lists c n m e d apart t logs x = record {
  intends = acts_still c n m e d apart t (λ poll. quiet_poll c n m d e.logged d.sent d.logged poll t.facts.logged logs) x.intends;
  may = may_kept lists c m d e.logged logs x.may;
}

-- The two orders leave the same

swap_sent : {X : Type 0} (o p : Option (Name × X)) (bs : List (Name × List X)) → T (is_sorted name_cmp bs) → SendsApart o p → with_last o (with_last p bs) ≡ with_last p (with_last o bs)
swap_sent None p bs h a = refl
swap_sent (Some x) None bs h a = refl
swap_sent {X} (Some x) (Some y) bs h a =
    let xs : List X = or_none (find name_cmp x.0 bs) ++ x.1 ∷ [] in
    let ys : List X = or_none (find name_cmp y.0 bs) ++ y.1 ∷ [] in
    ap (λ o. put name_cmp x.0 (or_none o ++ x.1 ∷ []) (put name_cmp y.0 ys bs)) (Maps.find_other name_cmp name_total name_same x.0 y.0 ys bs a)
    ∙ Maps.put_put name_cmp name_total name_same x.0 y.0 xs ys bs h a
    ∙ ap (λ o. put name_cmp y.0 (or_none o ++ y.1 ∷ []) (put name_cmp x.0 xs bs)) (sym (Maps.find_other name_cmp name_total name_same y.0 x.0 xs bs (λ e. a (sym e))))

-- the key of what was made is not the key of an activity that is there
key_apart : (n : Name) (o : Option (Name × Activity)) (a : Activity) (es : List (Name × Activity)) → is_some (find name_cmp n es) ≡ true → IsNew name_cmp o es → KeysApart (Some (n, a)) o
key_apart n None a es is new = tt
key_apart n (Some x) a es is new = λ e. subst T (sym is ∙ ap (λ k. is_some (find name_cmp k es)) e ∙ ap is_some new) tt

swap_acts : (n m : Name) (a b : Activity) (o p : Option (Name × Activity)) (es : List (Name × Activity)) → T (is_sorted name_cmp es) → n ≢ m → KeysApart (Some (n, a)) p → KeysApart (Some (m, b)) o → KeysApart o p → put_some name_cmp o (put name_cmp n a (put_some name_cmp p (put name_cmp m b es))) ≡ put_some name_cmp p (put name_cmp m b (put_some name_cmp o (put name_cmp n a es)))
swap_acts n m a b o p es h apart np mo op =
    let sm = is_sorted-put name_cmp name_total m b es h in
    let sn = is_sorted-put name_cmp name_total n a es h in
    ap (put_some name_cmp o) (swap_some name_cmp name_total name_same (Some (n, a)) p (put name_cmp m b es) sm np)
    ∙ swap_some name_cmp name_total name_same o p (put name_cmp n a (put name_cmp m b es)) (is_sorted-put name_cmp name_total n a _ sm) op
    ∙ ap (λ x. put_some name_cmp p (put_some name_cmp o x)) (Maps.put_put name_cmp name_total name_same n m a b es h apart)
    ∙ ap (put_some name_cmp p) (sym (swap_some name_cmp name_total name_same (Some (m, b)) o (put name_cmp n a es) sn mo))

apart_back : (o p : Option (Name × ReceptionShape)) → LogsApart o p → LogsApart p o
apart_back None None a = tt
apart_back None (Some y) a = tt
apart_back (Some x) None a = tt
apart_back (Some x) (Some y) a = λ e. a (sym e)

pub record Commute (lists : Option ListsShape) (c : Configuration) (n m : Name) (e d : Effect) : Type 0 where
  pub first : Takes lists (with_effect m d c) n e
  pub second : Takes lists (with_effect n e c) m d
  pub same : with_effect n e (with_effect m d c) ≡ with_effect m d (with_effect n e c)

-- two activities that step, and append to no one log, may step in either order
pub effects_commute : (lists : Option ListsShape) (c : Configuration) (n m : Name) (e d : Effect) → Sound c → n ≢ m → Takes lists c n e → Takes lists c m d → LogsApart e.logged d.logged → Commute lists c n m e d
effects_commute lists c n m e d s apart x y logs =
    let t = took lists c n e s x in
    let u = took lists c m d s y in
    let acts = swap_acts n m e.own d.own e.made d.made c.activities s.ordered.activities apart (key_apart n d.made e.own c.activities t.there (fresh c m d u).made) (key_apart m e.made d.own c.activities u.there (fresh c n e t).made) (made_apart c n m e d apart t u) in
    let boxes = swap_sent e.sent d.sent c.received s.ordered.received (sends_apart c n m e d x.intends y.intends logs) in
    let notes = swap_sent e.logged d.logged c.logs s.ordered.logs (logs_as_sends e.logged d.logged logs) in
    let fills = swap_some future_cmp future_total future_same e.filled d.filled c.futures s.ordered.futures (filled_apart c n m e d apart t u) in
    record {
      first = takes_still lists c n m e d apart u logs x;
      second = takes_still lists c m n d e (λ p. apart (sym p)) t (apart_back e.logged d.logged logs) y;
      same = λ i. record { activities = acts i; received = boxes i; logs = notes i; futures = fills i };
    }
