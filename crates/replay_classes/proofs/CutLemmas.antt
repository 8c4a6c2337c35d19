-- A cut run that has gone as far as it can, and what is offered there.
use Rattle.std.specs.Prelude.{◌≡◌, ◌⊎◌, ◌≤◌, ◌<◌, ◌+◌, ◌&&◌, ◌==◌, cond, not, ℕ, zero, suc, Bool, true, false, List, [], ◌∷◌, ◌++◌, Option, Some, None, length, map, take}
use Rattle.std.proofs.Common.{refl, sym, ap, subst, ◌∙◌, arith, inl, inr, ⊎_elim, slice_index_or}
use Rattle.std.proofs.lemmas.List.{append-nil}
use Rattle.std.proofs.lemmas.Bool.{and_parts, eq-eqb, eqb-true}
use Rattle.asp_model.specs.declared.outcome.Reception.{Reception}
use Rattle.asp_model.specs.Names.{Name, Text, same_name}
use Rattle.asp_model.specs.Shapes.{reception_shape}
use Rattle.asp_model.specs.Configuration.{Configuration, ReceptionShape, From, start}
use Rattle.asp_model.specs.Intent.{Effect, Acts}
use Rattle.asp_model.specs.Step.{intent_in, reception_at, same_reception}
use Rattle.asp_model.specs.Term.{Tree}
use Rattle.law_chases.proofs.FutureLemmas.{no_some, some_is, true_false}
use Rattle.law_steps.proofs.NameLemmas.{names_tied, name_itself}
use Rattle.law_families.specs.Families.{ComesBehind}
use Rattle.law_classes.specs.Families.{ClassEnd, IsInside, IsClassEnd, IsFull, IsOffered, cut_logs}
use Rattle.law_classes.specs.Requests.{NobodyIsNext, request_logs}
use Rattle.law_classes.specs.Runs.{ClassLogs, Entry, entry_of, with_entry}
use Rattle.law_classes.proofs.RequestLemmas.{resting_runs_are_full}
use Rattle.end_search.specs.Found.{AreAll}
use Rattle.class_search.specs.declared.ends.Offer.{Offer}
use Rattle.class_search.specs.declared.ends.Sending.{Sending}
use Rattle.class_search.specs.declared.logs.ClassLog.{ClassLog}
use Rattle.class_search.specs.Found.{HasLogs, HasOffers}
use Rattle.class_search.specs.Logs.{logs_of}
use Rattle.replay_population.specs.declared.population.Population.{Population}
use Rattle.replay_classes.specs.Cuts.{IsNotNext}
use Rattle.replay_classes.specs.Probes.{HasNexts}
use Rattle.replay_classes.specs.Sendings.{IsAmong, entry_of as entry_sent, is_to, logs_from}
use Rattle.replay_classes.specs.Walks.{IsWalk}
use Rattle.replay_classes.proofs.SendingLemmas.{take_last}

-- Within logs that are cut

abbrev tail_of : List ReceptionShape → List ReceptionShape
tail_of [] = []
tail_of (x ∷ xs) = xs

abbrev head_or : ReceptionShape → List ReceptionShape → ReceptionShape
head_or d [] = d
head_or d (x ∷ xs) = x

prefix_take : (k : ℕ) (xs ys rest : List ReceptionShape) → xs ++ rest ≡ ys → length xs ≤ k → (more : List ReceptionShape) × (xs ++ more ≡ take k ys)
prefix_take k [] ys rest p le = (take k ys, refl)
prefix_take zero (x ∷ xs) ys rest p le = absurd (omega (arith, le))
prefix_take (suc k) (x ∷ xs) [] rest p le = absurd cc
prefix_take (suc k) (x ∷ xs) (y ∷ ys) rest p le =
    let m = prefix_take k xs ys rest (ap tail_of p) (omega (arith, le)) in
    (m.0, ap (λ z. z ∷ (xs ++ m.0)) (ap (head_or x) p) ∙ ap (λ l. y ∷ l) m.1)

cut_at : (b : Bool) (k : ℕ) (log list : List ReceptionShape) → (rest : List ReceptionShape) × (log ++ rest ≡ list) → (b ≡ true → length log ≤ k) → (rest : List ReceptionShape) × (log ++ rest ≡ cond b (take k list) list)
cut_at true k log list p short = prefix_take k log list p.0 p.1 (short refl)
cut_at false k log list p short = p

pub inside_cut : (logs lists : ClassLogs) (p : Name) (ν k : ℕ) → IsInside logs lists → ((q : Name) (κ : ℕ) → (same_name q p && (κ == ν)) ≡ true → length (logs q κ) ≤ k) → IsInside logs (cut_logs lists p ν k)
inside_cut logs lists p ν k h short q κ = cut_at (same_name q p && (κ == ν)) k (logs q κ) (lists q κ) (h q κ) (short q κ)

-- where the log that is cut is short enough
pub inside_here : (logs lists : ClassLogs) (p : Name) (ν k : ℕ) → IsInside logs lists → length (logs p ν) ≤ k → IsInside logs (cut_logs lists p ν k)
inside_here logs lists p ν k h short = inside_cut logs lists p ν k h (λ q κ e.
    let t = and_parts (same_name q p) (κ == ν) e in
    subst (λ m. length (logs m κ) ≤ k) (sym (names_tied q p t.0)) (subst (λ μ. length (logs p μ) ≤ k) (sym (eqb-true κ ν t.1)) short))

take_front : (k : ℕ) (xs : List ReceptionShape) → (rest : List ReceptionShape) × (take k xs ++ rest ≡ xs)
take_front zero xs = (xs, refl)
take_front (suc k) [] = ([], refl)
take_front (suc k) (x ∷ xs) = let r = take_front k xs in (r.0, ap (λ l. x ∷ l) r.1)

front_at : (b : Bool) (k : ℕ) (xs : List ReceptionShape) → (rest : List ReceptionShape) × (cond b (take k xs) xs ++ rest ≡ xs)
front_at true k xs = take_front k xs
front_at false k xs = ([], append-nil xs)

pub cut_inside : (lists : ClassLogs) (p : Name) (ν k : ℕ) → IsInside (cut_logs lists p ν k) lists
cut_inside lists p ν k q κ = front_at (same_name q p && (κ == ν)) k (lists q κ)

-- Offers

same_number : (x : ℕ) → (x == x) ≡ true
same_number x = eq-eqb x x refl

has_before : (os ms : List Offer) (logs : ClassLogs) → HasLogs os logs → HasLogs (os ++ ms) logs
has_before [] ms logs h = absurd h
has_before (o ∷ os) ms logs (inl p) = inl p
has_before (o ∷ os) ms logs (inr h) = inr (has_before os ms logs h)

has_last : (os : List Offer) (o : Offer) (logs : ClassLogs) → IsInside logs (logs_of o.logs.items) → HasLogs (os ++ o ∷ []) logs
has_last [] o logs h = inl h
has_last (x ∷ os) o logs h = inr (has_last os o logs h)

among_parts : (ss : List Sending) (s : Sending) (o : Option Entry) → IsAmong (ss ++ s ∷ []) o → IsAmong ss o ⊎ (o ≡ entry_sent s)
among_parts [] s o (inl e) = inr e
among_parts [] s o (inr h) = absurd h
among_parts (x ∷ ss) s o (inl e) = inl (inl e)
among_parts (x ∷ ss) s o (inr h) = ⊎_elim (λ a. inl (inr a)) (λ e. inr e) (among_parts ss s o h)

module _ (ss nexts : List Sending) (k : ℕ) (s : Sending) (q : Name) (κ : ℕ) (os new : List Offer) (lt : k < length nexts) (is : s ≡ slice_index_or nexts k s) (before : (next : Name) → IsAmong (take k nexts) (Some (q, κ, From next)) → HasLogs os (with_entry (Some (q, κ, From next)) (logs_from ss))) where
  -- one offer more
  pub offers_then : (o : Offer) → new ≡ os ++ o ∷ [] → ((p : Name) (μ : ℕ) → logs_of o.logs.items p μ ≡ with_entry (entry_sent s) (logs_from ss) p μ) → (next : Name) → IsAmong (take (k + 1) nexts) (Some (q, κ, From next)) → HasLogs new (with_entry (Some (q, κ, From next)) (logs_from ss))
  offers_then o more logs next h = subst (λ l. HasLogs l (with_entry (Some (q, κ, From next)) (logs_from ss))) (sym more) (⊎_elim
      (λ a. has_before os (o ∷ []) _ (before next a))
      (λ e. has_last os o _ (λ p μ. ([], append-nil _ ∙ ap (λ z. with_entry z (logs_from ss) p μ) e ∙ sym (logs p μ))))
      (among_parts (take k nexts) s (Some (q, κ, From next)) (subst (λ l. IsAmong l (Some (q, κ, From next))) (take_last nexts k s lt is) h)))

  -- it goes to another log
  pub offers_else : is_to s q κ ≡ false → new ≡ os → (next : Name) → IsAmong (take (k + 1) nexts) (Some (q, κ, From next)) → HasLogs new (with_entry (Some (q, κ, From next)) (logs_from ss))
  offers_else other same next h = subst (λ l. HasLogs l (with_entry (Some (q, κ, From next)) (logs_from ss))) (sym same) (⊎_elim
      (λ a. before next a)
      (λ e. absurd (true_false (is_to s q κ) (tied e) other))
      (among_parts (take k nexts) s (Some (q, κ, From next)) (subst (λ l. IsAmong l (Some (q, κ, From next))) (take_last nexts k s lt is) h)))
    where
      tied : {r : ReceptionShape} → Some (q, κ, r) ≡ entry_sent s → is_to s q κ ≡ true
      tied e =
          let x = some_is e in
          ap (λ m. same_name q m && (κ == s.class)) (sym (ap (λ (z : Entry). z.0) x)) ∙ ap (λ μ. same_name q q && (κ == μ)) (sym (ap (λ (z : Entry). z.1) x))
          ∙ ap (λ b. b && (κ == κ)) (name_itself q) ∙ same_number κ

-- What is next in logs that are cut

take_gone : (k j : ℕ) (xs : List ReceptionShape) → k ≤ j → reception_at (take k xs) j ≡ None
take_gone zero j xs le = refl
take_gone (suc k) j [] le = refl
take_gone (suc k) zero (x ∷ xs) le = absurd (omega (arith, le))
take_gone (suc k) (suc j) (x ∷ xs) le = take_gone k j xs (omega (arith, le))

take_there : (k j : ℕ) (xs : List ReceptionShape) (r : ReceptionShape) → reception_at (take k xs) j ≡ Some r → reception_at xs j ≡ Some r
take_there zero j xs r h = no_some h
take_there (suc k) j [] r h = no_some h
take_there (suc k) zero (x ∷ xs) r h = h
take_there (suc k) (suc j) (x ∷ xs) r h = take_there k j xs r h

other_way : (s : Sending) (p : Name) (ν : ℕ) → is_to s p ν ≡ true → (same_name s.to p && (s.class == ν)) ≡ true
other_way s p ν e =
    let t = and_parts (same_name p s.to) (ν == s.class) e in
    ap (λ m. same_name s.to m && (s.class == ν)) (names_tied p s.to t.0) ∙ ap (λ μ. same_name s.to s.to && (s.class == μ)) (eqb-true ν s.class t.1)
    ∙ ap (λ b. b && (s.class == s.class)) (name_itself s.to) ∙ same_number s.class

-- there is none behind the place of the cut
pub gone_not_next : (lists logs : ClassLogs) (p : Name) (ν k : ℕ) (s : Sending) → is_to s p ν ≡ true → k ≤ length (logs s.to s.class) → IsNotNext (cut_logs lists p ν k) logs s
gone_not_next lists logs p ν k s here le h = no_some (sym (ap (λ b. reception_at (cond b (take k (lists s.to s.class)) (lists s.to s.class)) (length (logs s.to s.class))) (other_way s p ν here) ∙ take_gone k (length (logs s.to s.class)) (lists s.to s.class) le) ∙ h)

-- and else it is that of the whole log
pub other_not_next : (lists logs : ClassLogs) (p : Name) (ν k : ℕ) (s : Sending) → (reception_at (lists s.to s.class) (length (logs s.to s.class)) ≡ Some (From s.by) → ⊥) → IsNotNext (cut_logs lists p ν k) logs s
other_not_next lists logs p ν k s other h = other (by_test (same_name s.to p && (s.class == ν)) h)
  where
    by_test : (b : Bool) → reception_at (cond b (take k (lists s.to s.class)) (lists s.to s.class)) (length (logs s.to s.class)) ≡ Some (From s.by) → reception_at (lists s.to s.class) (length (logs s.to s.class)) ≡ Some (From s.by)
    by_test true g = take_there k _ _ _ g
    by_test false g = g

-- the entry at a place of a log
pub reception_index : (xs : List Reception) (j : ℕ) (x : Reception) → j < length xs → x ≡ slice_index_or xs j x → reception_at (map reception_shape xs) j ≡ Some (reception_shape x)
reception_index [] j x lt is = absurd (omega (arith, lt))
reception_index (y ∷ xs) zero x lt is = ap (λ z. Some (reception_shape z)) (sym is)
reception_index (y ∷ xs) (suc j) x lt is = reception_index xs j x (omega (arith, lt)) is

pub reception_past : (xs : List Reception) (j : ℕ) → length xs ≤ j → reception_at (map reception_shape xs) j ≡ None
reception_past [] j le = refl
reception_past (y ∷ xs) zero le = absurd (omega (arith, le))
reception_past (y ∷ xs) (suc j) le = reception_past xs j (omega (arith, le))

pub not_true : (b : Bool) → not b ≡ true → b ≡ false
not_true true h = sym h
not_true false h = refl

-- another sender than that of the entry
pub from_other : (x : ReceptionShape) (n : Name) → same_reception (From n) x ≡ false → x ≡ From n → ⊥
from_other x n other is = true_false (same_name n n) (name_itself n) (sym (ap (same_reception (From n)) is) ∙ other)

among_all : (P : Sending → Type 0) (ss : List Sending) (o : Option Entry) → AreAll P ss → IsAmong ss o → (s : Sending) × P s × (o ≡ entry_sent s)
among_all P [] o all h = absurd h
among_all P (s ∷ ss) o all (inl e) = (s, all.0, e)
among_all P (s ∷ ss) o all (inr h) = among_all P ss o all.1 h

module _ (K : Text → ℕ) (program : Tree) (x : ClassEnd) (q : Name) (κ k : ℕ) (p : Population) (ss nexts : List Sending) (f : Configuration) (os : List Offer) where
  -- whoever could send is not next, so the run is full; and what is offered is among the offers
  pub cut_offers : IsClassEnd K program x → IsWalk K program p ss f → IsInside (request_logs K f) (cut_logs x.1 q κ k) → HasNexts K f nexts → AreAll (IsNotNext (cut_logs x.1 q κ k) (request_logs K f)) nexts
      → ((next : Name) → IsAmong nexts (Some (q, κ, From next)) → HasLogs os (with_entry (Some (q, κ, From next)) (request_logs K f)))
      → HasOffers K program x q κ k os
  cut_offers end walk inside has not offers entry behind =
      let full : IsFull K program (cut_logs x.1 q κ k) (f, request_logs K f) = resting_runs_are_full K program x (cut_logs x.1 q κ k) walk.names f end (cut_inside x.1 q κ k) walk.run walk.unpolled inside next in
      ((f, request_logs K f), full, λ o. offered entry (subst (IsAmong nexts) o.1.2 (has o.0 o.1.0 o.1.1)))
    where
      next : NobodyIsNext K (cut_logs x.1 q κ k) f
      next n e intends =
          let s = among_all (IsNotNext (cut_logs x.1 q κ k) (request_logs K f)) nexts (entry_of K f n e) not (has n e intends) in
          ((s.0.to, s.0.class, From s.0.by), s.2, s.1)

      offered : (r : ReceptionShape) → IsAmong nexts (Some (q, κ, r)) → HasLogs os (with_entry (Some (q, κ, r)) (request_logs K f))
      offered r h =
          let s = among_all (λ t. Unit {0}) nexts (Some (q, κ, r)) (each nexts) h in
          let is : r ≡ From s.0.by = ap (λ (z : Entry). z.2) (some_is s.2) in
          subst (λ (t : ReceptionShape). HasLogs os (with_entry (Some (q, κ, t)) (request_logs K f))) (sym is)
          (offers s.0.by (subst (λ (t : ReceptionShape). IsAmong nexts (Some (q, κ, t))) is h))
        where
          each : (ts : List Sending) → AreAll (λ t. Unit {0}) ts
          each [] = tt
          each (t ∷ ts) = (tt, each ts)
