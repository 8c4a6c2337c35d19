-- What is owed next.
use Rattle.std.proofs.Common.{◌≡◌, ◌<◌, ◌+◌, ◌∷◌, [], ℕ, zero, suc, Bool, true, false, List, Option, Some, None, is_none, is_some, refl, sym, ap, subst, ◌∙◌, arith}
use Rattle.std.specs.Prelude.{◌&&◌, slice_get}
use Rattle.asp_model.specs.Names.{Name, FutureShape}
use Rattle.asp_model.specs.Step.{name_at}
use Rattle.asp_model.specs.History.{ChoiceShape, DeliveryShape, Edge, Need}
use Rattle.def_journals.specs.Edges.{EdgeShape, HoldersShape, owed_at}
use Rattle.def_journals.specs.Journals.{RunShape, grant_of, is_in}
use Rattle.def_journals.specs.Owed.{first_edge, first_need, need_delivery, need_to, next_owed, or_else}
use Rattle.law_chases.proofs.FutureLemmas.{no_some, none_true, some_is}
use Rattle.law_journals.specs.Numbered.{AreNumbered}
use Rattle.law_journals.proofs.NameListLemmas.{numbered_so}
use Rattle.law_journals.proofs.NumberLemmas.{named_by}
use Rattle.core_ranks.specs.Ranks.{has_need}
use Rattle.law_core.specs.Runs.{rank_named, rank_of_number, rank_unless_out}
use Rattle.law_core.proofs.RankLemmas.{ranks_tell}
use Rattle.law_core.specs.Owed.{EdgesAreFirst, EdgesAreNext, NeedsAreFirst, is_in_to}

none_of : {A : Type 0} (o : Option A) → is_some o ≡ false → o ≡ None
none_of None h = refl
none_of (Some x) h = none_true (sym h)

-- who is named is in where it has no grant
pub in_named : (s : RunShape) → AreNumbered s → (k : ℕ) (n : Name) → name_at s.names k ≡ Some n → is_in s n ≡ is_none (grant_of k s.out)
in_named s numbered k n named = ap (λ o. elim o [ None ↦ false | Some j ↦ is_none (grant_of j s.out) ]) (numbered_so s.names (named_by s numbered).apart k n named)

-- Needs

module _ (s : RunShape) (numbered : AreNumbered s) where
  -- without a need an activity is passed over
  passed_by : (k : ℕ) (n : Name) (o : Option ℕ) (rest : Option DeliveryShape) → has_need (rank_unless_out s n o) ≡ false → elim (is_none o) [ true ↦ or_else (need_delivery n (need_to s.configuration n)) rest | false ↦ rest ] ≡ rest
  passed_by k n None rest h =
      let none : need_to s.configuration n ≡ None = none_of (need_to s.configuration n) (sym (ranks_tell s.configuration n).needy ∙ h) in
      ap (λ o. or_else (need_delivery n o) rest) none
  passed_by k n (Some grant) rest h = refl

  passed : (k : ℕ) (n : Name) (rest : Option DeliveryShape) → name_at s.names k ≡ Some n → has_need (rank_of_number s k) ≡ false → elim (is_in s n) [ true ↦ or_else (need_delivery n (need_to s.configuration n)) rest | false ↦ rest ] ≡ rest
  passed k n rest named h =
      ap (λ b. elim b [ true ↦ or_else (need_delivery n (need_to s.configuration n)) rest | false ↦ rest ]) (in_named s numbered k n named)
      ∙ passed_by k n (grant_of k s.out) rest (sym (ap (λ o. has_need (rank_named s k o)) named) ∙ h)

  -- these names are those from this number on
  abbrev NamedFrom : List Name → ℕ → Type 0
  NamedFrom ns i = (j : ℕ) (m : Name) → name_at ns j ≡ Some m → name_at s.names (i + j) ≡ Some m

  behind : (n : Name) (ns : List Name) (i : ℕ) → NamedFrom (n ∷ ns) i → NamedFrom ns (suc i)
  behind n ns i from j m h = subst (λ k. name_at s.names k ≡ Some m) (omega arith) (from (suc j) m h)

  first_from : (ns : List Name) (i p : ℕ) → NamedFrom ns i → (n : Name) (x : FutureShape × ℕ) → name_at ns p ≡ Some n → is_in s n ≡ true → need_to s.configuration n ≡ Some x → ((j : ℕ) → j < p → has_need (rank_of_number s (i + j)) ≡ false) → first_need s ns ≡ Some (Need x.0 n x.1)
  first_from [] i p from n x named free need none = no_some named
  first_from (m ∷ ns) i zero from n x named free need none =
      let same : m ≡ n = some_is named in
      ap (λ b. elim b [ true ↦ or_else (need_delivery m (need_to s.configuration m)) (first_need s ns) | false ↦ first_need s ns ]) (ap (is_in s) same ∙ free)
      ∙ ap (λ o. or_else (need_delivery m o) (first_need s ns)) (ap (need_to s.configuration) same ∙ need)
      ∙ ap (λ k. Some (Need x.0 k x.1)) same
  first_from (m ∷ ns) i (suc p) from n x named free need none =
      let at : name_at s.names i ≡ Some m = subst (λ k. name_at s.names k ≡ Some m) (omega arith) (from 0 m refl) in
      let passes : has_need (rank_of_number s i) ≡ false = subst (λ k. has_need (rank_of_number s k) ≡ false) (omega arith) (none 0 (omega arith)) in
      passed i m (first_need s ns) at passes
      ∙ first_from ns (suc i) p (behind m ns i from) n x named free need (λ j lt. subst (λ k. has_need (rank_of_number s k) ≡ false) (omega arith) (none (suc j) (omega (arith, lt))))

  nobody : (ns : List Name) (i : ℕ) → NamedFrom ns i → ((k : ℕ) → has_need (rank_of_number s k) ≡ false) → first_need s ns ≡ None
  nobody [] i from none = refl
  nobody (m ∷ ns) i from none =
      let at : name_at s.names i ≡ Some m = subst (λ k. name_at s.names k ≡ Some m) (omega arith) (from 0 m refl) in
      passed i m (first_need s ns) at (none i) ∙ nobody ns (suc i) (behind m ns i from) none

  all_named : NamedFrom s.names 0
  all_named j m h = subst (λ k. name_at s.names k ≡ Some m) (omega arith) h

pub needs_are_first : NeedsAreFirst
needs_are_first s h answers k n x numbered need none =
    let free : is_in s n ≡ true = in_named s numbered k n need.named ∙ ap is_none need.free in
    let before : (j : ℕ) → j < k → has_need (rank_of_number s (0 + j)) ≡ false = λ j lt. subst (λ i. has_need (rank_of_number s i) ≡ false) (omega arith) (none j lt) in
    ap (λ o. or_else o (first_edge s h h.edges answers)) (first_from s numbered s.names 0 k (all_named s numbered) n x need.named free need.need before)

pub edges_are_next : EdgesAreNext
edges_are_next s h answers numbered none = ap (λ o. or_else o (first_edge s h h.edges answers)) (nobody s numbered s.names 0 (all_named s numbered) none)

-- and where there is no first need, nobody who is in has one

or_none_of : (o p : Option DeliveryShape) → or_else o p ≡ None → (o ≡ None) × (p ≡ None)
or_none_of None p h = (refl, h)
or_none_of (Some x) p h = no_some (sym h)

no_delivery : (n : Name) (o : Option (FutureShape × ℕ)) → need_delivery n o ≡ None → o ≡ None
no_delivery n None h = refl
no_delivery n (Some x) h = no_some (sym h)

abbrev unless_out : Bool → Option DeliveryShape → Option DeliveryShape → Option DeliveryShape
unless_out b o p = elim b [ true ↦ or_else o p | false ↦ p ]

rest_none : (b : Bool) (o p : Option DeliveryShape) → unless_out b o p ≡ None → p ≡ None
rest_none true o p h = (or_none_of o p h).1
rest_none false o p h = h

pub no_first : (s : RunShape) (ns : List Name) → first_need s ns ≡ None → (k : ℕ) (n : Name) → name_at ns k ≡ Some n → is_in s n ≡ true → need_to s.configuration n ≡ None
no_first s [] none k n named free = no_some named
no_first s (m ∷ ns) none zero n named free =
    let same : m ≡ n = some_is named in
    let rest = first_need s ns in
    let taken : or_else (need_delivery m (need_to s.configuration m)) rest ≡ None = ap (λ b. elim b [ true ↦ or_else (need_delivery m (need_to s.configuration m)) rest | false ↦ rest ]) (sym (ap (is_in s) same ∙ free)) ∙ none in
    ap (need_to s.configuration) (sym same) ∙ no_delivery m (need_to s.configuration m) (or_none_of (need_delivery m (need_to s.configuration m)) rest taken).0
no_first s (m ∷ ns) none (suc k) n named free = no_first s ns (rest_none (is_in s m) (need_delivery m (need_to s.configuration m)) (first_need s ns) none) k n named free

pub nothing_owed : (s : RunShape) (h : HoldersShape) (answers : List ChoiceShape) → next_owed s h answers ≡ None → first_need s s.names ≡ None
nothing_owed s h answers none = (or_none_of (first_need s s.names) (first_edge s h h.edges answers) none).0

-- Edges

module _ (s : RunShape) (h : HoldersShape) where
  abbrev due : List EdgeShape → List ChoiceShape → ℕ → Bool
  due xs answers p = owed_at h (slice_get xs p) (slice_get answers p) && is_in_to s (slice_get xs p)

  abbrev chosen : Bool → EdgeShape → Option DeliveryShape → Option DeliveryShape
  chosen b x o = elim b [ true ↦ Some (Edge x.future x.from x.to) | false ↦ o ]

  no_answer : (xs : List EdgeShape) (p : ℕ) → due xs [] p ≡ false
  no_answer xs p = by (slice_get xs p)
    where
      by : (o : Option EdgeShape) → (owed_at h o None && is_in_to s o) ≡ false
      by None = refl
      by (Some x) = refl

  pub edge_found : (xs : List EdgeShape) (answers : List ChoiceShape) (p : ℕ) (x : EdgeShape) → slice_get xs p ≡ Some x → due xs answers p ≡ true → ((i : ℕ) → i < p → due xs answers i ≡ false) → first_edge s h xs answers ≡ Some (Edge x.future x.from x.to)
  edge_found [] answers p x at is none = no_some at
  edge_found (y ∷ ys) [] p x at is none = none_true (sym (no_answer (y ∷ ys) p) ∙ is)
  edge_found (y ∷ ys) (a ∷ answers) zero x at is none =
      ap (λ b. chosen b y (first_edge s h ys answers)) is
      ∙ ap (λ (z : EdgeShape). Some (Edge z.future z.from z.to)) (some_is at)
  edge_found (y ∷ ys) (a ∷ answers) (suc p) x at is none =
      ap (λ b. chosen b y (first_edge s h ys answers)) (none 0 (omega arith))
      ∙ edge_found ys answers p x at is (λ i lt. none (suc i) (omega (arith, lt)))

  pub no_edge : (xs : List EdgeShape) (answers : List ChoiceShape) → ((p : ℕ) → due xs answers p ≡ false) → first_edge s h xs answers ≡ None
  no_edge [] answers none = refl
  no_edge (y ∷ ys) [] none = refl
  no_edge (y ∷ ys) (a ∷ answers) none = ap (λ b. chosen b y (first_edge s h ys answers)) (none 0) ∙ no_edge ys answers (λ p. none (suc p))

pub edges_are_first : EdgesAreFirst
edges_are_first s h answers = record { found = edge_found s h h.edges answers; none = no_edge s h h.edges answers }
