-- Entries in ascending order of names, and the one of a number.
use Rattle.std.proofs.Common.{◌≡◌, ◌≢◌, ◌<◌, ◌≤◌, ◌∷◌, [], ℕ, zero, suc, Bool, true, false, cond, T, List, Option, Some, None, get_or, length, map, refl, slice_get, sym, take, ap, ◌∙◌, ⊎_elim, arith}
use Rattle.std.specs.List.{slice_index_or}
use Rattle.std.specs.Global.{Vec}
use Rattle.std.specs.FinMap.{find, is_sorted}
use Rattle.std.specs.FinMap.Entries.{below_all}
use Rattle.std.specs.Cmp.{tied_itself}
use Rattle.std.specs.Ordering.{is_eq}
use Rattle.std.specs.declared.cmp.Ordering.TheVariants.{Less, Equal}
use Rattle.asp_model.specs.Names.{Name, name_cmp, same_name}
use Rattle.asp_model.specs.Order.{name_cmp_same}
use Rattle.asp_model.specs.declared.outcome.Reception.{Reception}
use Rattle.asp_model.specs.Configuration.{ReceptionShape, or_none}
use Rattle.asp_model.specs.Step.{reception_at}
use Rattle.asp_model.specs.Replay.{log_in}
use Rattle.asp_model.specs.Shapes.{reception_shape}
use Rattle.law_steps.proofs.EntryLemmas.{first_of_both, second_of_both}
use Rattle.def_journals.specs.Journals.{number_of}
use Rattle.law_steps.proofs.NameLemmas.{name_total, name_case, names_tied}
use Rattle.replay_parts.specs.Roster.{IsRoster, Leads}
use Rattle.replay_parts.proofs.RosterLemmas.{number_named}
use Rattle.step_ends.proofs.EntryLemmas.{absent_below, find_head, find_skip, less_of}
use Rattle.law_chases.proofs.FutureLemmas.{no_some, some_is}

-- Searches

-- a name before itself
before_itself : {C : Type 0} (m : Name) → name_cmp m m ≡ Less → C
before_itself m e = not_less (sym (tied_itself name_total m) ∙ e)
  where
    not_less : {C : Type 0} → Equal ≡ Less → C
    not_less q = cc

module _ {X : Type 0} (n : Name) where
  -- the entry at a place is found at its name
  entry_at : (es : List (Name × X)) (i : ℕ) (d : Name × X) → T (is_sorted name_cmp es) → i < length es → name_cmp (slice_index_or es i d).0 n ≡ Equal → Some (slice_index_or es i d).1 ≡ find name_cmp n es
  entry_at [] i d s lt e = absurd (omega (arith, lt))
  entry_at (x ∷ es) zero d s lt e = sym (ap (λ k. find name_cmp k (x ∷ es)) (sym (name_cmp_same x.0 n e)) ∙ find_head x es)
  entry_at (x ∷ es) (suc i) d s lt e = let ih = entry_at es i d (second_of_both _ _ s) (omega (arith, lt)) e in
      ⊎_elim
      (λ q. no_some (sym (absent_below x.0 es (first_of_both _ _ s)) ∙ ap (λ k. find name_cmp k es) (sym q) ∙ sym ih))
      (λ q. ih ∙ sym (find_skip n x es q))
      (name_case n x.0)

  pub entry_read : (es : List (Name × X)) (i : ℕ) (d : Name × X) → T (is_sorted name_cmp es) → i < length es → d ≡ slice_index_or es i d → name_cmp n d.0 ≡ Equal → Some d.1 ≡ find name_cmp n es
  entry_read es i d s lt is e = ap (λ (x : Name × X). Some x.1) is ∙ entry_at es i d s lt (ap (λ (x : Name × X). name_cmp x.0 n) (sym is) ∙ ap (λ m. name_cmp m n) (sym (name_cmp_same n d.0 e)) ∙ tied_itself name_total n)

  absent_all : (es : List (Name × X)) → ((j : ℕ) (d : Name × X) → j < length es → name_cmp (slice_index_or es j d).0 n ≢ Equal) → find name_cmp n es ≡ None
  absent_all [] h = refl
  absent_all (x ∷ es) h = ⊎_elim
      (λ q. absurd (h 0 x (omega arith) (ap (name_cmp x.0) q ∙ tied_itself name_total x.0)))
      (λ q. find_skip n x es q ∙ absent_all es (λ j d lt. h (suc j) d (omega (arith, lt))))
      (name_case n x.0)

  below_at : (k : Name) (es : List (Name × X)) (j : ℕ) (d : Name × X) → T (below_all name_cmp k es) → j < length es → name_cmp k (slice_index_or es j d).0 ≡ Less
  below_at k [] j d h lt = absurd (omega (arith, lt))
  below_at k (x ∷ es) zero d h lt = less_of (name_cmp k x.0) (first_of_both _ _ h)
  below_at k (x ∷ es) (suc j) d h lt = below_at k es j d (second_of_both _ _ h) (omega (arith, lt))

module _ {X : Type 0} where
  -- the name of an entry
  name_read : (es : List (Name × X)) (k : ℕ) (d : Name × X) → k < length es → slice_get (map (λ x. x.0) es) k ≡ Some (slice_index_or es k d).0
  name_read [] k d lt = absurd (omega (arith, lt))
  name_read (x ∷ es) zero d lt = refl
  name_read (x ∷ es) (suc k) d lt = name_read es k d (omega (arith, lt))

  -- the entry of a number is found at its name
  pub entry_numbered : (es : List (Name × X)) (ns : List Name) (n : Name) (k : ℕ) (x : Name × X) → T (is_sorted name_cmp es) → Leads (map (λ x. x.0) es) ns → number_of n ns ≡ Some k → k < length es → x ≡ slice_index_or es k x → Some x.1 ≡ find name_cmp n es
  entry_numbered es ns n k x s leads has lt is =
      let named : slice_get (map (λ (y : Name × X). y.0) es) k ≡ Some x.0 = name_read es k x lt ∙ ap (λ (y : Name × X). Some y.0) (sym is) in
      let same : n ≡ x.0 = some_is (sym (number_named ns n k has) ∙ leads k x.0 named) in
      entry_read n es k x s lt is (ap (name_cmp n) (sym same) ∙ tied_itself name_total n)

  -- and no entry stands at the name of a later number
  pub none_numbered : (es : List (Name × X)) (ns : List Name) (n : Name) (k : ℕ) → IsRoster ns → Leads (map (λ x. x.0) es) ns → number_of n ns ≡ Some k → length es ≤ k → None ≡ find name_cmp n es
  none_numbered es ns n k r leads has past = sym (absent_all n es (λ j d lt e.
      let is : (slice_index_or es j d).0 ≡ n = name_cmp_same (slice_index_or es j d).0 n e in
      let at : slice_get ns j ≡ Some n = leads j n (name_read es j d lt ∙ ap Some is) in
      let same : j ≡ k = some_is (sym (r.numbers j n at) ∙ has) in
      omega (arith, lt, past, same)))

  -- no entry before this one has its name
  pub none_before : (es : List (Name × X)) (i : ℕ) (d : Name × X) → T (is_sorted name_cmp es) → i < length es → number_of (slice_index_or es i d).0 (map (λ x. x.0) (take i es)) ≡ None
  none_before [] i d s lt = absurd (omega (arith, lt))
  none_before (x ∷ es) zero d s lt = refl
  none_before (x ∷ es) (suc i) d s lt = by (same_name (slice_index_or es i d).0 x.0) refl (none_before es i d (second_of_both _ _ s) (omega (arith, lt)))
    where
      later : name_cmp x.0 (slice_index_or es i d).0 ≡ Less
      later = below_at (slice_index_or es i d).0 x.0 es i d (first_of_both _ _ s) (omega (arith, lt))

      by : (b : Bool) → same_name (slice_index_or es i d).0 x.0 ≡ b → number_of (slice_index_or es i d).0 (map (λ x. x.0) (take i es)) ≡ None → number_of (slice_index_or es i d).0 (x.0 ∷ map (λ x. x.0) (take i es)) ≡ None
      by true e rest = before_itself x.0 (ap (name_cmp x.0) (sym (names_tied (slice_index_or es i d).0 x.0 e)) ∙ later)
      by false e rest = ap (λ b. elim b [ true ↦ Some 0 | false ↦ elim (number_of (slice_index_or es i d).0 (map (λ x. x.0) (take i es))) [ None ↦ None | Some k ↦ Some (suc k) ] ]) e ∙ ap (λ (o : Option ℕ). elim o [ None ↦ None | Some k ↦ Some (suc k) ]) rest

-- Logs

pub reception_past : (xs : List Reception) (k : ℕ) → length xs ≤ k → reception_at (map reception_shape xs) k ≡ None
reception_past [] k h = refl
reception_past (x ∷ xs) zero h = absurd (omega (arith, h))
reception_past (x ∷ xs) (suc k) h = reception_past xs k (omega (arith, h))

pub reception_there : (xs : List Reception) (k : ℕ) (x : Reception) → k < length xs → x ≡ get_or xs k x → reception_at (map reception_shape xs) k ≡ Some (reception_shape x)
reception_there [] k x h e = absurd (omega (arith, h))
reception_there (y ∷ xs) zero x h e = ap (λ (z : Reception). Some (reception_shape z)) (sym e)
reception_there (y ∷ xs) (suc k) x h e = reception_there xs k x (omega (arith, h)) e

-- the receptions of a log
abbrev shapes_in : Vec Reception → List ReceptionShape
shapes_in v = map reception_shape v.items

abbrev with_items : Option (Vec Reception) → Option (List ReceptionShape)
with_items None = None
with_items (Some v) = Some (shapes_in v)

items_found : (es : List (Name × Vec Reception)) (n : Name) → find name_cmp n (map (λ (x : Name × Vec Reception). (x.0, shapes_in x.1)) es) ≡ with_items (find name_cmp n es)
items_found [] n = refl
items_found (e ∷ es) n = elim (is_eq (name_cmp n e.0)) as (λ b. cond b (Some (shapes_in e.1)) (find name_cmp n (map (λ (x : Name × Vec Reception). (x.0, shapes_in x.1)) es)) ≡ with_items (cond b (Some e.1) (find name_cmp n es))) [
  | true ↦ refl
  | false ↦ items_found es n
]

pub log_found : (es : List (Name × Vec Reception)) (n : Name) (v : Vec Reception) → Some v ≡ find name_cmp n es → log_in (map (λ (x : Name × Vec Reception). (x.0, shapes_in x.1)) es) n ≡ shapes_in v
log_found es n v h = ap or_none (items_found es n ∙ ap with_items (sym h))

pub no_log : (es : List (Name × Vec Reception)) (n : Name) → None ≡ find name_cmp n es → log_in (map (λ (x : Name × Vec Reception). (x.0, shapes_in x.1)) es) n ≡ []
no_log es n h = ap or_none (items_found es n ∙ ap with_items (sym h))
