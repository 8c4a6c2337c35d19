-- Maps and sets of references as functions.
use Rattle.std.specs.Prelude.{◌≡◌, ℕ, cond, ◌||◌, Bool, true, false, List, Option, Some, None, is_some}
use Rattle.std.proofs.Common.{refl, ap, sym, ◌∙◌}
use Rattle.std.specs.Option.{option_map}
use Rattle.std.specs.Map.{lookup}
use Rattle.std.specs.List.{list_any}
use Rattle.std.specs.BTreeMap.{BTreeMap, IsEmpty, Updates, get, is_at}
use Rattle.std.specs.BTreeSet as set
use Rattle.std.specs.BTreeSet.{BTreeSet}
use Rattle.std.specs.Cmp.{eq_by_cmp_equiv}
use denote.Ref.{Bor}
use Rattle.asp_model.specs.declared.name.FutureName.{FutureName}
use Rattle.asp_model.specs.Names.{Name, FutureShape, name_cmp, future_cmp, same_name, same_future}
use Rattle.asp_model.specs.Shapes.{future_shape}
use Rattle.law_chases.proofs.FutureLemmas.{future_total}
use Rattle.law_steps.proofs.NameLemmas.{name_total}
use Rattle.checkpoint_parts.specs.declared.parts.ActivityText.{ActivityText}
use Rattle.checkpoint_parts.specs.Shapes.{activity_shape}
use Rattle.checkpoint_checks.specs.Maps.{activity_in, nobody, with_activity, home_in, no_homes, with_home, has_in, no_futures, with_future}

mapped : {A B : Type 0} (f : A → B) (b : Bool) (x : A) (o : Option A) → option_map f (cond b (Some x) o) ≡ cond b (Some (f x)) (option_map f o)
mapped f true x o = refl
mapped f false x o = refl

or_cond : (b c : Bool) → cond b true c ≡ (b || c)
or_cond true c = refl
or_cond false c = refl

pub name_turned : (n m : Name) → same_name n m ≡ same_name m n
name_turned n m = (eq_by_cmp_equiv name_total).symm n m

pub future_turned : (f g : FutureShape) → same_future f g ≡ same_future g f
future_turned f g = (eq_by_cmp_equiv future_total).symm f g

abbrev future_key : FutureShape → Bor FutureName
future_key g = record { ref_ptr = (0, 0); now = record { by = g.by; index = g.index } }

pub activity_in-empty : (m : BTreeMap (List ℕ) (Bor ActivityText)) → IsEmpty m → activity_in m ≡ nobody
unfolding activity_in
activity_in-empty m e = λ i n. option_map (λ a. activity_shape a.now) (lookup (is_at (name_cmp n)) (e i))

pub activity_in-insert : (m n : BTreeMap (List ℕ) (Bor ActivityText)) (k : List ℕ) (a : Bor ActivityText) → Updates name_cmp m n k (Some a) → k ≡ a.now.name → activity_in n ≡ with_activity (activity_in m) (activity_shape a.now)
unfolding activity_in
activity_in-insert m n k a u e = λ i q. (ap (option_map (λ x. activity_shape x.now)) (u.0 q)
    ∙ mapped (λ (x : Bor ActivityText). activity_shape x.now) (same_name k q) a _
    ∙ ap (λ b. cond b (Some (activity_shape a.now)) (activity_in m q)) (name_turned k q ∙ ap (same_name q) e)) i

some_mapped : {A B : Type 0} (f : A → B) (o : Option A) → is_some (option_map f o) ≡ is_some o
some_mapped f None = refl
some_mapped f (Some x) = refl

-- what was in the map before an insertion says whether the name is there
pub named_there : (m : BTreeMap (List ℕ) (Bor ActivityText)) (k : List ℕ) (old : Option (Bor ActivityText)) → old ≡ get name_cmp m k → is_some (activity_in m k) ≡ is_some old
unfolding activity_in
named_there m k old e = some_mapped (λ (x : Bor ActivityText). activity_shape x.now) (get name_cmp m k) ∙ ap is_some (sym e)

pub home_in-empty : (m : BTreeMap FutureName (Bor (List ℕ))) → IsEmpty m → home_in m ≡ no_homes
unfolding home_in
home_in-empty m e = λ i g. option_map (λ n. n.now) (lookup (is_at (λ (k : FutureName). future_cmp g (future_shape k))) (e i))

pub home_in-insert : (m n : BTreeMap FutureName (Bor (List ℕ))) (k : FutureName) (h : Bor (List ℕ)) → Updates (λ x y. future_cmp (future_shape x) (future_shape y)) m n k (Some h) → home_in n ≡ with_home (home_in m) (future_shape k) h.now
unfolding home_in
home_in-insert m n k h u = λ i q. (ap (option_map (λ x. x.now)) (u.0 (record { by = q.by; index = q.index }))
    ∙ mapped (λ (x : Bor (List ℕ)). x.now) (same_future (future_shape k) q) h _
    ∙ ap (λ b. cond b (Some h.now) (home_in m q)) (future_turned (future_shape k) q)) i

pub has_in-empty : (s : BTreeSet (Bor FutureName)) → set.IsEmpty s → has_in s ≡ no_futures
unfolding has_in
has_in-empty s e = λ i g. list_any (is_at (λ (k : Bor FutureName). future_cmp g (future_shape k.now))) (e i)

pub has_in-insert : (s n : BTreeSet (Bor FutureName)) (k : Bor FutureName) → set.UpdatesBy (λ x y. future_cmp (future_shape x.now) (future_shape y.now)) (λ y. future_cmp (future_shape k.now) (future_shape y.now)) s n true → has_in n ≡ with_future (has_in s) (future_shape k.now)
unfolding has_in
has_in-insert s n k u = λ i q. (u.0 (future_key q) ∙ or_cond (same_future (future_shape k.now) q) (has_in s q)
    ∙ ap (λ b. b || has_in s q) (future_turned (future_shape k.now) q)) i
