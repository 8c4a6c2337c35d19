-- Names in ascending order.
use Rattle.std.specs.Prelude.{◌≡◌, true, false, cond, T, List, [], ◌∷◌, Some, None}
use Rattle.std.proofs.Common.{refl, ap, ◌∙◌}
use Rattle.std.specs.declared.cmp.Ordering.{Ordering}
use Rattle.std.specs.declared.cmp.Ordering.TheVariants.{Less, Equal, Greater}
use Rattle.std.specs.FinMap.{find}
use Rattle.std.specs.FinMap.Entries.{below_all}
use Rattle.std.specs.Ordering.{is_eq, is_lt, ordering_reverse}
use Rattle.asp_model.specs.Names.{Name, name_cmp, same_name}
use Rattle.law_chases.proofs.FutureLemmas.{no_some, none_true, true_false}
use Rattle.law_schedules.proofs.LeastLemmas.{true_of}
use Rattle.law_schedules.proofs.RowLemmas.{less_both}
use Rattle.law_steps.proofs.EntryLemmas.{first_of_both, second_of_both}
use Rattle.law_steps.proofs.NameLemmas.{is_there, name_same, name_total, names_tied, not_some}

less : (r : Ordering) → is_lt r ≡ true → r ≡ Less
less Less h = refl
less Equal h = none_true h
less Greater h = none_true h

pub later : (k m : Name) → is_lt (name_cmp k m) ≡ true → same_name m k ≡ false
later k m h = ap is_eq (name_total.antisymm m k ∙ ap ordering_reverse (less (name_cmp k m) h))

pub not_before : (k m : Name) → is_lt (name_cmp m k) ≡ true → is_lt (name_cmp k m) ≡ false
not_before k m h = ap is_lt (name_total.antisymm k m ∙ ap ordering_reverse (less (name_cmp m k) h))

-- who is before one is before who is not before that
pub before_both : (m n k : Name) → is_lt (name_cmp m n) ≡ true → is_lt (name_cmp k n) ≡ false → is_lt (name_cmp m k) ≡ true
before_both m n k h le = by (name_cmp k n) refl
  where
    by : (r : Ordering) → name_cmp k n ≡ r → is_lt (name_cmp m k) ≡ true
    by Less e = absurd (true_false (is_lt (name_cmp k n)) (ap is_lt e) le)
    by Equal e = ap (λ z. is_lt (name_cmp m z)) (name_same k n e) ∙ h
    by Greater e = less_both m n k h (ap is_lt (name_total.antisymm n k ∙ ap ordering_reverse e))

module _ {X : Type 0} where
  -- what is found behind a name in order is above it
  pub found_above : (k m : Name) (es : List (Name × X)) (x : X) → T (below_all name_cmp k es) → find name_cmp m es ≡ Some x → is_lt (name_cmp k m) ≡ true
  found_above k m [] x h f = no_some f
  found_above k m (e ∷ es) x h f = elim (same_name m e.0) as (λ b. same_name m e.0 ≡ b → cond b (Some e.1) (find name_cmp m es) ≡ Some x → is_lt (name_cmp k m) ≡ true) [
    | true ↦ λ same g. ap (λ n. is_lt (name_cmp k n)) (names_tied m e.0 same) ∙ true_of (is_lt (name_cmp k e.0)) (first_of_both _ _ h)
    | false ↦ λ apart g. found_above k m es x (second_of_both _ _ h) g
  ] refl f

  pub none_found : (k m : Name) (es : List (Name × X)) → T (below_all name_cmp k es) → is_lt (name_cmp k m) ≡ false → find name_cmp m es ≡ None
  none_found k m es h le = not_some (find name_cmp m es) (λ there.
      let x = is_there (find name_cmp m es) there in
      true_false (is_lt (name_cmp k m)) (found_above k m es x.0 h x.1) le)

  -- nor is one before the first
  pub none_before : (m : Name) (e : Name × X) (es : List (Name × X)) → T (below_all name_cmp e.0 es) → is_lt (name_cmp m e.0) ≡ true → find name_cmp m (e ∷ es) ≡ None
  none_before m e es h lt =
      ap (λ b. cond b (Some e.1) (find name_cmp m es)) (ap is_eq (less (name_cmp m e.0) lt))
      ∙ none_found e.0 m es h (not_before e.0 m lt)
