-- What the changes of a schedule leave of it.
use Rattle.std.proofs.Common.{◌≡◌, ◌≢◌, ◌||◌, ◌++◌, ◌∷◌, [], ℕ, Bool, true, false, List, Option, Some, None, Ok, Err, Result, OnOk, slice_get, slice_set, refl, sym, ap, ◌∙◌, ◌⊎◌, inl, inr, ⊎_elim}
use Rattle.std.specs.Prelude.{◌==◌}
use Rattle.std.proofs.lemmas.Bool.{false≢true, false_from_ne_true}
use Rattle.std.proofs.lemmas.List.Folds.{list_any-append}
use Rattle.std.specs.Global.{Vec}
use Rattle.std.specs.BTreeMap as trees
use Rattle.std.specs.BTreeMap.{BTreeMap, is_at}
use Rattle.std.specs.Ordering.{is_eq}
use Rattle.std.specs.declared.cmp.Ordering.{Ordering}
use Rattle.asp_model.specs.declared.name.FutureName.{FutureName}
use Rattle.asp_model.specs.declared.services.Labels.{Labels}
use Rattle.asp_model.specs.contracts.name.FutureNameOrd.TheImpl as ordering
use Rattle.asp_model.specs.Names.{Name, FutureShape, Text}
use Rattle.asp_model.specs.Term.{has_text}
use Rattle.asp_model.specs.Order.{same_future_same}
use Rattle.asp_model.specs.Shapes.{future_shape, labels_shape}
use Rattle.def_journals.specs.Journals.{number_of}
use Rattle.law_chases.proofs.FutureLemmas.{true_false}
use Rattle.replay_one.specs.declared.schedule.Schedule.{Schedule}
use Rattle.replay_one.specs.declared.schedule.Watch.{Watch}
use Rattle.replay_one.specs.declared.schedule.Watch.TheVariants as watch
use Rattle.replay_parts.specs.declared.ready.Least.{Least}
use Rattle.replay_parts.specs.declared.ready.Least.TheVariants as least
use Rattle.replay_parts.specs.Ready.{IsAdded, IsLeast}
use Rattle.replay_parts.proofs.ReadyLemmas.{ready_names}
use Rattle.replay_one.specs.Schedule.{HasPlace, IsFewerAfter, IsLeastIn, IsMoreReady, IsNoted, IsWatch, IsWatching, Seen, asks_at, asks_in, has_number, if_number, is_asked, is_held, is_numbered_in, noted_at, noted_in, ready_in, seen, sends_at, sends_in, watches_in}
use Rattle.replay_parts.proofs.ColumnLemmas.{is_same, number_case, same_number, set_here, set_other}
use Rattle.replay_parts.proofs.RosterLemmas.{other_number}

abbrev pub future_order : FutureName → FutureName → Ordering
future_order = ordering.ghosts.cmp

abbrev pub named : FutureShape → FutureName
named f = record { by = f.by; index = f.index }

pub handed_by : {A T E : Type 0} (r : Result T E) (P : Type 0) (Q R : A → Type 0) (X : Type 0) → (P → ((m : A) → Q m → R m) → X) → OnOk r P → ((m : A) → Q m → OnOk r (R m)) → OnOk r X
handed_by (Ok t) P Q R X f h k = f h k
handed_by (Err e) P Q R X f h k = tt

-- By names and by numbers

-- what is true by numbers stays so by names
pub lifted : (o : Option ℕ) (f g : ℕ → Bool) → ((k : ℕ) → f k ≡ true → g k ≡ true) → if_number o f ≡ true → if_number o g ≡ true
lifted None f g h e = e
lifted (Some k) f g h e = h k e

-- what is the same of other numbers is the same of other names
pub elsewhere : (ns : List Name) (n m : Name) (k : ℕ) (f g : ℕ → Bool) → number_of n ns ≡ Some k → m ≢ n → ((j : ℕ) → j ≢ k → f j ≡ g j) → if_number (number_of m ns) f ≡ if_number (number_of m ns) g
elsewhere ns n m k f g here d h = by (number_of m ns) refl
  where
    by : (o : Option ℕ) → number_of m ns ≡ o → if_number o f ≡ if_number o g
    by None e = refl
    by (Some j) e = h j (other_number ns n m j k d e here)

pub told_at : (o : Option ℕ) (k : ℕ) (f : ℕ → Bool) → o ≡ Some k → if_number o f ≡ f k
told_at o k f e = ap (λ p. if_number p f) e

-- what is true by names is true of a number
pub has_told : (o : Option ℕ) (f : ℕ → Bool) → if_number o f ≡ true → (k : ℕ) × (o ≡ Some k) × (f k ≡ true)
has_told None f e = absurd (false≢true e)
has_told (Some k) f e = (k, refl, e)

-- The least

pub least_taken : (ns : List Name) (old new : Schedule) (l : Least) → IsLeast ns old.ready l new.ready → new ≡ record old { ready = new.ready } → IsLeastIn ns old l new
least_taken ns old new least.Nobody h e = h
least_taken ns old new (least.One k) h e = (
  h.0,
  h.1,
  record {
    ready = h.2.ready;
    least = h.2.least;
    others = h.2.others;
    noted = ap (λ s. noted_in (seen ns s)) e;
    watches = ap (λ s. watches_in (seen ns s)) e;
  },
)
least_taken ns old new least.Unknown h e = record { ready = h.0; noted = ap (λ s. noted_in (seen ns s)) e; watches = ap (λ s. watches_in (seen ns s)) e }

pub fewer_left : (ns : List Name) (old new : Schedule) (l : Least) → IsLeast ns old.ready l new.ready → IsFewerAfter old l new
fewer_left ns old new least.Nobody h = tt
fewer_left ns old new (least.One k) h = h.3
fewer_left ns old new least.Unknown h = h.1

-- Who is woken

pub woken_more : (ns : List Name) (old new : Schedule) (k : ℕ) → IsAdded ns k old.ready new.ready → new ≡ record old { ready = new.ready } → IsMoreReady (seen ns old) None (seen ns new)
woken_more ns old new k added e = record {
  ready = added.more;
  noted = λ g m d h. ap (λ s. noted_in (seen ns s) g m) e ∙ h;
  asks = λ m l not h. ap (λ s. asks_in (seen ns s) m l) e ∙ h;
  sends = λ m q not h. ap (λ s. sends_in (seen ns s) m q) e ∙ h;
}

-- one after the other
pub more_twice : (s u t : Seen) → IsMoreReady s None u → IsMoreReady u None t → IsMoreReady s None t
more_twice s u t x y =
    let was : (m : Name) → ready_in t m ≡ false → ready_in u m ≡ false = λ m not. false_from_ne_true (ready_in u m) (λ h. true_false (ready_in t m) (y.ready m h) not) in
    record {
      ready = λ m h. y.ready m (x.ready m h);
      noted = λ g m d h. y.noted g m d (x.noted g m d h);
      asks = λ m l not h. y.asks m l not (x.asks m l (was m not) h);
      sends = λ m k not h. y.sends m k not (x.sends m k (was m not) h);
    }

pub more_still : (s : Seen) → IsMoreReady s None s
more_still s = record { ready = λ m h. h; noted = λ g m d h. h; asks = λ m l not h. h; sends = λ m k not h. h }

-- more names have numbers
pub more_names : (ns ms : List Name) (s : Schedule) → ((m : Name) (k : ℕ) → number_of m ns ≡ Some k → number_of m ms ≡ Some k) → IsMoreReady (seen ns s) None (seen ms s)
more_names ns ms s stays = record {
  ready = λ m h. ready_names ns ms s.ready m (λ k e. stays m k e) h;
  noted = λ g m d h. still m (noted_at s.awaiting.entries g) h;
  asks = λ m l not h. still m (λ k. asks_at s.watches.items k l) h;
  sends = λ m q not h.
      let x = has_told (number_of m ns) (λ k. sends_at s.watches.items k (number_of q ns)) h in
      told_at (number_of m ms) x.0 (λ k. sends_at s.watches.items k (number_of q ms)) (stays m x.0 x.1) ∙ held (slice_get s.watches.items x.0) (number_of q ns) (number_of q ms) (λ k e. stays q k e) x.2;
}
  where
    still : (m : Name) (f : ℕ → Bool) → if_number (number_of m ns) f ≡ true → if_number (number_of m ms) f ≡ true
    still m f h =
        let x = has_told (number_of m ns) f h in
        told_at (number_of m ms) x.0 f (stays m x.0 x.1) ∙ x.2

    held : (w : Option Watch) (o p : Option ℕ) → ((k : ℕ) → o ≡ Some k → p ≡ Some k) → is_held o w ≡ true → is_held p w ≡ true
    held None o p g h = h
    held (Some watch.Nothing) o p g h = h
    held (Some (watch.Asks labels)) o p g h = h
    held (Some (watch.Holds to)) None p g h = absurd (false≢true h)
    held (Some (watch.Holds to)) (Some k) p g h = ap (λ q. is_held q (Some (watch.Holds to))) (g k refl) ∙ h

-- Notes at futures

abbrev Notes : Type 0
Notes = BTreeMap FutureName (Vec ℕ)

key_case : (f g : FutureName) → (f ≡ g) ⊎ (is_at (future_order f) g ≡ false)
key_case f g = elim (is_eq (future_order f g)) as (λ b. is_eq (future_order f g) ≡ b → (f ≡ g) ⊎ (b ≡ false)) [
  | true ↦ λ e. inl (ap named (same_future_same (future_shape f) (future_shape g) e))
  | false ↦ λ e. inr refl
] refl

-- the entry at a future is taken out
pub taken_out : (old new : Notes) (f : FutureName) (g : FutureShape) (k : ℕ) → trees.UpdatesBy future_order (future_order f) old new None → Some (future_shape f) ≢ Some g → noted_at new.entries g k ≡ noted_at old.entries g k
taken_out old new f g k u d = ⊎_elim
    (λ e. absurd (d (ap (λ h. Some (future_shape h)) e)))
    (λ e. ap (is_numbered_in k) (u.2 (named g) e))
    (key_case f (named g))

abbrev pub numbers_or_none : Option (Vec ℕ) → List ℕ
numbers_or_none None = []
numbers_or_none (Some numbers) = numbers.items

in_both : (k : ℕ) (xs ys : List ℕ) → has_number k xs ≡ true → has_number k (xs ++ ys) ≡ true
in_both k xs ys h = list_any-append (λ j. k == j) xs ys ∙ ap (λ b. b || has_number k ys) h

or_true : (a b : Bool) → b ≡ true → (a || b) ≡ true
or_true true b e = refl
or_true false b e = e

in_end : (k : ℕ) (xs : List ℕ) → has_number k (xs ++ k ∷ []) ≡ true
in_end k xs = list_any-append (λ j. k == j) xs (k ∷ []) ∙ or_true (has_number k xs) ((k == k) || false) (ap (λ b. b || false) (same_number k))

numbered_more : (k j : ℕ) (o : Option (Vec ℕ)) (numbers : Vec ℕ) → numbers.items ≡ numbers_or_none o ++ j ∷ [] → is_numbered_in k o ≡ true → is_numbered_in k (Some numbers) ≡ true
numbered_more k j None numbers e h = absurd (false≢true h)
numbered_more k j (Some old) numbers e h = ap (has_number k) e ∙ in_both k old.items (j ∷ []) h

pub noted_more : (ns : List Name) (old mid new : Schedule) (f : FutureName) (n : Name) (k : ℕ) (o : Option (Vec ℕ)) (numbers : Vec ℕ) → number_of n ns ≡ Some k → o ≡ trees.get_by (future_order f) old.awaiting → trees.UpdatesBy future_order (future_order f) old.awaiting mid.awaiting None → trees.Updates future_order mid.awaiting new.awaiting f (Some numbers) → numbers.items ≡ numbers_or_none o ++ k ∷ [] → new ≡ record old { awaiting = new.awaiting }
    → IsNoted (seen ns old) (future_shape f) n (seen ns new)
noted_more ns old mid new f n k o numbers has was out put is same = record {
  here = told_at (number_of n ns) k (noted_at new.awaiting.entries (future_shape f)) has ∙ ap (is_numbered_in k) put.1 ∙ ap (has_number k) is ∙ in_end k (numbers_or_none o);
  noted = λ g m. lifted (number_of m ns) (noted_at old.awaiting.entries g) (noted_at new.awaiting.entries g) (λ j h. ⊎_elim
      (λ e. let here : trees.get_by (future_order (named g)) new.awaiting ≡ Some numbers = ap (λ q. trees.get_by (future_order q) new.awaiting) (sym e) ∙ put.1 in
      ap (is_numbered_in j) here ∙ numbered_more j k o numbers is (ap (is_numbered_in j) (was ∙ ap (λ q. trees.get_by (future_order q) old.awaiting) e) ∙ h))
      (λ e. ap (is_numbered_in j) (put.2 (named g) e ∙ out.2 (named g) e) ∙ h)
      (key_case f (named g)));
  ready = ap (λ s. ready_in (seen ns s)) same;
  watches = ap (λ s. watches_in (seen ns s)) same;
}

-- What one waits for is noted

-- what one waits for is written, where places for that were added before
pub watch_to : (s mid t : Schedule) (k : ℕ) (w : Watch) → HasPlace s k mid → t ≡ record mid { watches = t.watches } → t.watches.items ≡ slice_set mid.watches.items k w → IsWatch s k w t
watch_to s mid t k w h now e = record {
  same = now ∙ ap (λ (r : Schedule). record r { watches = t.watches }) h.same;
  here = ap (λ ws. slice_get ws k) e ∙ set_here mid.watches.items k w h.place;
  asks = λ j l d. ap (λ ws. asks_at ws j l) e ∙ ap (is_asked l) (set_other mid.watches.items j k w d) ∙ h.asks j l;
  sends = λ j o d. ap (λ ws. sends_at ws j o) e ∙ ap (is_held o) (set_other mid.watches.items j k w d) ∙ h.sends j o;
}

pub watching : (ns : List Name) (old new : Schedule) (n : Name) (k : ℕ) (w : Watch) → number_of n ns ≡ Some k → IsWatch old k w new → IsWatching (seen ns old) n (seen ns new)
watching ns old new n k w has h = record {
  ready = ap (λ s. ready_in (seen ns s)) h.same;
  noted = ap (λ s. noted_in (seen ns s)) h.same;
  asks = λ m l d. elsewhere ns n m k (λ j. asks_at new.watches.items j l) (λ j. asks_at old.watches.items j l) has d (λ j e. h.asks j l e);
  sends = λ m q d. elsewhere ns n m k (λ j. sends_at new.watches.items j (number_of q ns)) (λ j. sends_at old.watches.items j (number_of q ns)) has d (λ j e. h.sends j (number_of q ns) e);
}

pub watch_ready : (old new : Schedule) (k : ℕ) (w : Watch) → IsWatch old k w new → new.ready ≡ old.ready
watch_ready old new k w h = ap (λ (s : Schedule). s.ready) h.same

pub serves_now : (ns : List Name) (old new : Schedule) (n : Name) (k : ℕ) (labels : Labels) (l : Text) → number_of n ns ≡ Some k → IsWatch old k (watch.Asks labels) new → asks_in (seen ns new) n l ≡ has_text l (labels_shape labels)
serves_now ns old new n k labels l has h = told_at (number_of n ns) k (λ j. asks_at new.watches.items j l) has ∙ ap (is_asked l) h.here

pub holds_now : (ns : List Name) (old new : Schedule) (n m : Name) (k to : ℕ) → number_of n ns ≡ Some k → number_of m ns ≡ Some to → IsWatch old k (watch.Holds to) new → sends_in (seen ns new) n m ≡ true
holds_now ns old new n m k to has target h =
    told_at (number_of n ns) k (λ j. sends_at new.watches.items j (number_of m ns)) has
    ∙ ap (is_held (number_of m ns)) h.here
    ∙ ap (λ o. is_held o (Some (watch.Holds to))) target
    ∙ same_number to

-- who is noted no more is ready
pub woken_watch : (ns : List Name) (old mid new : Schedule) (k : ℕ) (w : Watch) → IsWatch old k w mid → IsMoreReady (seen ns mid) None (seen ns new) → ((n : Name) → number_of n ns ≡ Some k → ready_in (seen ns new) n ≡ true) → IsMoreReady (seen ns old) None (seen ns new)
woken_watch ns old mid new k w h more woken = record {
  ready = λ m r. more.ready m (ap (λ s. ready_in (seen ns s) m) h.same ∙ r);
  noted = λ g m d r. more.noted g m d (ap (λ s. noted_in (seen ns s) g m) h.same ∙ r);
  asks = λ m l not r. more.asks m l not (at_others m not (λ j. asks_at old.watches.items j l) (λ j. asks_at mid.watches.items j l) (λ j d. h.asks j l d) r);
  sends = λ m q not r. more.sends m q not (at_others m not (λ j. sends_at old.watches.items j (number_of q ns)) (λ j. sends_at mid.watches.items j (number_of q ns)) (λ j d. h.sends j (number_of q ns) d) r);
}
  where
    at_others : (m : Name) → ready_in (seen ns new) m ≡ false → (f g : ℕ → Bool) → ((j : ℕ) → j ≢ k → g j ≡ f j) → if_number (number_of m ns) f ≡ true → if_number (number_of m ns) g ≡ true
    at_others m not f g same r =
        let x = has_told (number_of m ns) f r in
        ⊎_elim
        (λ e. absurd (true_false (ready_in (seen ns new) m) (woken m (x.1 ∙ ap Some e)) not))
        (λ d. told_at (number_of m ns) x.0 g x.1 ∙ same x.0 d ∙ x.2)
        (number_case x.0 k)

-- All who are named

pub still_numbered : (k j : ℕ) (all left : List ℕ) → all ≡ left ++ j ∷ [] → has_number k all ≡ true → (has_number k left ≡ true) ⊎ (k ≡ j)
still_numbered k j all left e h = by (has_number k left) (k == j) refl refl (sym (list_any-append (λ i. k == i) left (j ∷ [])) ∙ ap (has_number k) (sym e) ∙ h)
  where
    by : (a b : Bool) → has_number k left ≡ a → (k == j) ≡ b → (has_number k left || ((k == j) || false)) ≡ true → (has_number k left ≡ true) ⊎ (k ≡ j)
    by true b p q r = inl p
    by false true p q r = inr (is_same k j q)
    by false false p q r = absurd (false≢true (sym (λ i. p i || (q i || false)) ∙ r))
