-- Offers at the places of logs, gathered.
use Rattle.std.specs.Prelude.{◌≡◌, ◌⊎◌, ◌==◌, ◌<◌, ◌+◌, ℕ, zero, suc, Bool, true, false, List, [], ◌∷◌, ◌++◌, length, map, take}
use Rattle.std.proofs.Common.{refl, sym, ap, subst, ◌∙◌, arith, inl, inr, ⊎_elim, slice_index_or}
use Rattle.std.proofs.lemmas.Bool.{and_parts, eqb-true}
use Rattle.std.proofs.lemmas.List.{length-map}
use Rattle.asp_model.specs.Names.{Name, Text, same_name}
use Rattle.asp_model.specs.Term.{Tree}
use Rattle.asp_model.specs.Configuration.{ReceptionShape}
use Rattle.asp_model.specs.Shapes.{reception_shape}
use Rattle.asp_model.specs.Step.{reception_at}
use Rattle.law_chases.proofs.FutureLemmas.{no_some}
use Rattle.law_steps.proofs.NameLemmas.{names_tied}
use Rattle.law_classes.specs.Runs.{ClassLogs}
use Rattle.law_classes.specs.Families.{ClassEnd}
use Rattle.outcome_search.proofs.PlaceLemmas.{place_within}
use Rattle.end_search.specs.Found.{AreAll}
use Rattle.end_search.proofs.GrownLemmas.{all_take, all_then}
use Rattle.class_search.specs.declared.ends.FoundEnd.{FoundEnd}
use Rattle.class_search.specs.declared.ends.Offer.{Offer}
use Rattle.class_search.specs.declared.logs.ClassLog.{ClassLog}
use Rattle.class_search.specs.Logs.{is_log, logs_of}
use Rattle.class_search.specs.Found.{end_in, HasLogs, HasOffers, HasOffersTo, HasOffersIn, HasAllOffers}

has_more : (os ms : List Offer) (logs : ClassLogs) → HasLogs os logs → HasLogs (os ++ ms) logs
has_more [] ms logs h = absurd h
has_more (o ∷ os) ms logs (inl p) = inl p
has_more (o ∷ os) ms logs (inr h) = inr (has_more os ms logs h)

has_later : (os ms : List Offer) (logs : ClassLogs) → HasLogs ms logs → HasLogs (os ++ ms) logs
has_later [] ms logs h = h
has_later (o ∷ os) ms logs h = inr (has_later os ms logs h)

module _ (K : Text → ℕ) (program : Tree) (x : ClassEnd) where
  offers_more : (q : Name) (κ k : ℕ) (os ms : List Offer) → HasOffers K program x q κ k os → HasOffers K program x q κ k (os ++ ms)
  offers_more q κ k os ms h entry b = let f = h entry b in (f.0, f.1, λ o. has_more os ms _ (f.2 o))

  offers_later : (q : Name) (κ k : ℕ) (os ms : List Offer) → HasOffers K program x q κ k ms → HasOffers K program x q κ k (os ++ ms)
  offers_later q κ k os ms h entry b = let f = h entry b in (f.0, f.1, λ o. has_later os ms _ (f.2 o))

  -- the offers of one place more
  pub one_place_more : (l : ClassLog) (place : ℕ) (os ms : List Offer) → HasOffersTo K program x place os l → HasOffers K program x l.to l.class place ms → HasOffersTo K program x (place + 1) (os ++ ms) l
  one_place_more l place os ms h more k lt = ⊎_elim
      (λ less. offers_more l.to l.class k os ms (h k less))
      (λ p. offers_later l.to l.class k os ms (subst (λ j. HasOffers K program x l.to l.class j ms) (sym p) more))
      (split_less k place (omega (arith, lt)))
    where
      split_less : (k count : ℕ) → k < suc count → (k < count) ⊎ (k ≡ count)
      split_less zero zero lt = inr refl
      split_less zero (suc c) lt = inl (omega arith)
      split_less (suc k) zero lt = absurd (omega (arith, lt))
      split_less (suc k) (suc c) lt = ⊎_elim (λ l. inl (omega (arith, l))) (λ p. inr (ap suc p)) (split_less k c (omega (arith, lt)))

  -- of one log more
  pub one_log_more : (rows : List ClassLog) (k : ℕ) (l : ClassLog) (os ms : List Offer) → k < length rows → l ≡ slice_index_or rows k l → AreAll (HasOffersIn K program x os) (take k rows) → HasOffersIn K program x ms l → AreAll (HasOffersIn K program x (os ++ ms)) (take (k + 1) rows)
  one_log_more rows k l os ms lt is h more = all_take (HasOffersIn K program x (os ++ ms)) rows k l lt is
      (all_then (HasOffersIn K program x os) (HasOffersIn K program x (os ++ ms)) (take k rows) (λ m f j below. offers_more m.to m.class j os ms (f j below)) h)
      (λ j below. offers_later l.to l.class j os ms (more j below))

  -- this log, or else the entries of another one
  abbrev log_or : Bool → ClassLog → List ReceptionShape → List ReceptionShape
  log_or b l xs = elim b [ true ↦ map reception_shape l.entries.items | false ↦ xs ]

  -- in the log of a class of an activity, unless that is empty
  offers_of : (os : List Offer) (rows : List ClassLog) → AreAll (HasOffersIn K program x os) rows → (q : Name) (κ : ℕ) → (logs_of rows q κ ≡ []) ⊎ ((k : ℕ) → k < length (logs_of rows q κ) → HasOffers K program x q κ k os)
  offers_of os [] h q κ = inl refl
  offers_of os (l ∷ ls) h q κ = elim (is_log l q κ) as (λ b. is_log l q κ ≡ b → (log_or b l (logs_of ls q κ) ≡ []) ⊎ ((k : ℕ) → k < length (log_or b l (logs_of ls q κ)) → HasOffers K program x q κ k os)) [
    | true ↦ λ e.
        let p = and_parts (same_name q l.to) (κ == l.class) e in
        inr (λ k lt.
        subst (λ m. HasOffers K program x m κ k os) (sym (names_tied q l.to p.0))
        (subst (λ μ. HasOffers K program x l.to μ k os) (sym (eqb-true κ l.class p.1)) (h.0 k (omega (arith, lt, length-map l.entries.items reception_shape)))))
    | false ↦ λ e. offers_of os ls h.1 q κ
  ] refl

pub all_offered : (K : Text → ℕ) (program : Tree) (e : FoundEnd) (os : List Offer) → AreAll (HasOffersIn K program (end_in program e) os) e.logs.items → HasAllOffers K program e os
all_offered K program e os h q κ k entry b = ⊎_elim
    (λ none. no_some (sym (ap (λ l. reception_at l k) none) ∙ b.at))
    (λ f. f k (place_within (logs_of e.logs.items q κ) k b.here b.at) entry b)
    (offers_of K program (end_in program e) os e.logs.items h q κ)
