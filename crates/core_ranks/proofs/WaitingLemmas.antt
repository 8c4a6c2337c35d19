-- Entries at futures.
use Rattle.std.proofs.Common.{◌≡◌, ◌∙◌, ◌∷◌, ◌||◌, [], ℕ, true, false, List, Option, Some, None, refl, sym, ap, ◌⊎◌, inl, inr, ⊎_elim}
use Rattle.std.proofs.lemmas.Bool.{false≢true}
use Rattle.std.proofs.lemmas.Map.Entries.{All-lookup}
use Rattle.std.specs.List.{All, slice_get}
use Rattle.std.specs.Map.{lookup}
use Rattle.std.specs.Option.{IfSome, is_some, unwrap_or}
use Rattle.std.specs.Cmp.{IsTotalOrder, nat_cmp_total, on_total, then_total}
use Rattle.std.specs.Cmp.Lexicographic.{nat_list_cmp_total}
use Rattle.asp_model.specs.Names.{same_future}
use Rattle.core_ranks.specs.Numbers.{has_number}
use Rattle.core_ranks.proofs.NumberLemmas.{number_itself}
use Rattle.std.specs.BTreeMap as trees
use Rattle.std.specs.BTreeMap.{is_at}
use Rattle.std.specs.Global.{Vec}
use Rattle.std.specs.Ordering.{is_eq}
use Rattle.std.specs.declared.cmp.Ordering.{Ordering}
use Rattle.asp_model.specs.declared.name.FutureName.{FutureName}
use Rattle.asp_model.specs.contracts.name.FutureNameOrd.TheImpl as ordering
use Rattle.asp_model.specs.Names.{FutureShape}
use Rattle.asp_model.specs.Order.{same_future_same}
use Rattle.asp_model.specs.Shapes.{future_shape}
use Rattle.core_ranks.specs.declared.waiting.Waiting.{Waiting}
use Rattle.core_ranks.specs.Waiting.{StayElsewhere, items_or_none, numbers_at}

abbrev pub future_order : FutureName → FutureName → Ordering
future_order = ordering.ghosts.cmp

abbrev pub named : FutureShape → FutureName
named f = record { by = f.by; index = f.index }

key_case : (f g : FutureName) → (f ≡ g) ⊎ (is_at (future_order f) g ≡ false)
key_case f g = elim (is_eq (future_order f g)) as (λ b. is_eq (future_order f g) ≡ b → (f ≡ g) ⊎ (b ≡ false)) [
  | true ↦ λ e. inl (ap named (same_future_same (future_shape f) (future_shape g) e))
  | false ↦ λ e. inr refl
] refl

-- an entry is set or taken out, and those of the other futures stay
pub stay_elsewhere : (old new : Waiting) (f : FutureName) (o : Option (Vec ℕ)) → trees.UpdatesBy future_order (future_order f) old.numbers new.numbers o → StayElsewhere (future_shape f) old new
stay_elsewhere old new f o u g d = ⊎_elim
    (λ e. absurd (d (ap future_shape e)))
    (λ e. ap items_or_none (u.2 (named g) e))
    (key_case f (named g))

-- Who waits

pub future_total : IsTotalOrder future_order
future_total = then_total (on_total (λ f. f.by) nat_list_cmp_total) (on_total (λ f. f.index) nat_cmp_total)

no_some : {A B : Type 0} {x : A} → None ≡ Some x → B
no_some e = absurd (false≢true (ap is_some e))

some_is : {A : Type 0} {x y : A} → Some x ≡ Some y → x ≡ y
some_is {x = x} e = ap (λ o. unwrap_or o x) e

-- where all lists are empty, nobody waits
pub none_found : (w : Waiting) → All (λ e. e.1.items ≡ []) w.numbers.entries → (f : FutureShape) → numbers_at w f ≡ []
none_found w h f = by (lookup (λ g. same_future f (future_shape g)) w.numbers.entries) (All-lookup (λ (v : Vec ℕ). v.items ≡ []) (λ g. same_future f (future_shape g)) w.numbers.entries h)
  where
    by : (o : Option (Vec ℕ)) → IfSome o (λ v. v.items ≡ []) → items_or_none o ≡ []
    by None e = refl
    by (Some v) e = e

-- the first of a list waits for its future
pub first_found : (w : Waiting) (f : FutureName) (v : Vec ℕ) (k : ℕ) → trees.get future_order w.numbers f ≡ Some v → slice_get v.items 0 ≡ Some k → has_number k (numbers_at w (future_shape f)) ≡ true
first_found w f v k here first = ap (λ o. has_number k (items_or_none o)) here ∙ by v.items first
  where
    by : (ns : List ℕ) → slice_get ns 0 ≡ Some k → has_number k ns ≡ true
    by [] e = no_some e
    by (n ∷ ns) e = ap (λ j. has_number j (n ∷ ns)) (sym (some_is e)) ∙ ap (λ b. b || has_number n ns) (number_itself n)

pub none_first : (ns : List ℕ) → slice_get ns 0 ≡ None → ns ≡ []
none_first [] e = refl
none_first (n ∷ ns) e = no_some (sym e)
