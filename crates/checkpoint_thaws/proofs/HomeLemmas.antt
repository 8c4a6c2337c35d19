-- The homes of what is thawed are those of the checkpoint.
use Rattle.std.specs.Prelude.{◌≡◌, ◌&&◌, not, Bool, true, false, cond, List, [], ◌∷◌, ◌++◌, Option, Some, None, is_some, map, filter, slice_get}
use Rattle.std.proofs.Common.{refl, sym, ap, subst, ◌∙◌, ⊎_elim}
use Rattle.std.specs.FinMap.{find}
use Rattle.std.specs.FinMap.Entries.{find-put, same_entries}
use Rattle.asp_model.specs.Names.{Name, FutureShape, future_cmp, same_future, same_name}
use Rattle.asp_model.specs.Configuration.{Configuration, RequestShape, or_none, requests_of}
use Rattle.def_journals.specs.Edges.{home_of, homes_in}
use Rattle.law_chases.proofs.FutureLemmas.{no_some, future_total, future_same}
use Rattle.law_steps.specs.Sound.{IsSound}
use Rattle.law_steps.proofs.EntryLemmas.{In}
use Rattle.law_steps.proofs.NameLemmas.{is_there, name_itself, names_tied}
use Rattle.law_journals.specs.Runs.{IsHome}
use Rattle.law_journals.proofs.CountLemmas.{in_mapped}
use Rattle.law_journals.proofs.RunLemmas.{first_holders_are}
use Rattle.law_paths.proofs.KeyedLemmas.{found_at_key}
use Rattle.law_frozen.specs.Frozen.{FrozenActivity, FrozenShape, answered, has_future, in_order, received_by, spent, thawed}
use Rattle.law_frozen.proofs.FrozenLemmas.{both_true, filtered_in, future_there, in_back, in_either, in_filtered, in_front, mapped_in, number_of_item, numbered_in, ordered_is}
use Rattle.law_frozen.proofs.SameLemmas.{holders, some_same}
use Rattle.law_checkpoints.specs.Lookups.{HasHome, activity_of}
use Rattle.law_checkpoints.specs.Sound.{IsSoundActivity, IsSoundFrozen, IsSoundHome, IsSoundRequest}
use Rattle.law_checkpoints.proofs.FirstLemmas.{frozen_are_first}
use Rattle.law_checkpoints.proofs.LookLemmas.{activity_there, each_in, found_each, home_there, with_each}

-- its home is this activity, and its request is not pending there
abbrev is_answered : FrozenActivity → FutureShape × Name → Bool
is_answered x e = same_name e.1 x.name && not (has_future e.0 x.queue)

-- homes in order are found as they are looked up
homes_found : (g : FutureShape) (hs : List (FutureShape × Name)) → find future_cmp g (in_order future_cmp hs) ≡ home_of g hs
homes_found g [] = refl
homes_found g (x ∷ hs) = find-put future_cmp future_total g x.0 x.1 (in_order future_cmp hs) ∙ by (same_future g x.0) (homes_found g hs)
  where
    by : (b : Bool) → find future_cmp g (in_order future_cmp hs) ≡ home_of g hs → cond b (Some x.1) (find future_cmp g (in_order future_cmp hs)) ≡ elim b [ true ↦ Some x.1 | false ↦ home_of g hs ]
    by true e = refl
    by false e = e

module _ (f : FrozenShape) (h : IsSoundFrozen f) where
  abbrev now : Configuration
  now = thawed f

  sound : IsSound now
  sound = (frozen_are_first f h).sound

  received_now : (m : Name) (x : FrozenActivity) → activity_of m f.activities ≡ Some x → requests_of now m ≡ received_by f x
  received_now m x is = ap or_none (found_each (received_by f) m f.activities ∙ ap (with_each (received_by f)) is)

  -- who received a request is the home of its future
  came : (g : FutureShape) (m : Name) → IsHome now g m → HasHome f g m
  came g m at = by (activity_of m f.activities) refl
    where
      by : (o : Option FrozenActivity) → activity_of m f.activities ≡ o → HasHome f g m
      by None is = no_some (sym (ap (λ l. slice_get l at.0) (ap or_none (found_each (received_by f) m f.activities ∙ ap (with_each (received_by f)) is))) ∙ at.2)
      by (Some x) is =
          let there = activity_there m f.activities x is in
          ⊎_elim
          (λ i.
          let y = mapped_in spent at.1 (answered f x) i in
          let z = mapped_in (λ e. e.0) y.0 (filter (is_answered x) f.homes) y.1 in
          let w = filtered_in (is_answered x) z.0 f.homes z.1 in
          let same : z.0.0 ≡ g = sym z.2 ∙ ap (λ r. r.future) (sym y.2) ∙ at.3 in
          let here : z.0.1 ≡ m = names_tied z.0.1 x.name (both_true (same_name z.0.1 x.name) (not (has_future z.0.0 x.queue)) w.1) ∙ there.1 in
          found_at_key future_cmp future_total future_same f.homes (g, m) h.homes_ascend (subst (λ e. In e f.homes) (λ j. (same j, here j)) w.0))
          (λ i.
          let s : IsSoundActivity f x = each_in (IsSoundActivity f) f.activities x h.activities there.0 in
          let r : IsSoundRequest f x.name at.1 = each_in (IsSoundRequest f x.name) x.queue at.1 s.queue i in
          subst (λ k. HasHome f k m) at.3 (subst (λ n. HasHome f at.1.future n) there.1 r.home))
          (in_either at.1 (map spent (answered f x)) x.queue (numbered_in (map spent (answered f x) ++ x.queue) at.0 at.1 (ap (λ l. slice_get l at.0) (sym (received_now m x is)) ∙ at.2)))

  -- and a home has received it
  received : (g : FutureShape) (m : Name) → HasHome f g m → IsHome now g m
  received g m home = by (has_future g x.0.queue) refl
    where
      s : IsSoundHome f g m
      s = each_in (λ e. IsSoundHome f e.0 e.1) f.homes (g, m) h.homes (home_there g m f.homes home)

      x : (y : FrozenActivity) × (activity_of m f.activities ≡ Some y)
      x = is_there (activity_of m f.activities) s.named

      standing : (r : RequestShape) → In r (received_by f x.0) → r.future ≡ g → IsHome now g m
      standing r i e = let k = number_of_item (requests_of now m) r (subst (In r) (sym (received_now m x.0 x.1)) i) in (k.0, r, k.1, e)

      by : (b : Bool) → has_future g x.0.queue ≡ b → IsHome now g m
      by true e = let r = future_there g x.0.queue e in standing r.0 (in_back r.0 (map spent (answered f x.0)) x.0.queue r.1) r.2
      by false e =
          let named : same_name m x.0.name ≡ true = ap (same_name m) (activity_there m f.activities x.0 x.1).1 ∙ name_itself m in
          let free : is_answered x.0 (g, m) ≡ true = (λ i. named i && not (e i)) in
          let i = in_filtered (is_answered x.0) (g, m) f.homes (home_there g m f.homes home) free in
          standing (spent g) (in_front (spent g) (map spent (answered f x.0)) x.0.queue (in_mapped spent g (answered f x.0) (in_mapped (λ e. e.0) (g, m) (filter (is_answered x.0) f.homes) i))) refl

  pub homes_are : f.homes ≡ in_order future_cmp (homes_in now)
  homes_are = same_entries future_cmp future_total future_same f.homes (in_order future_cmp (homes_in now)) h.homes_ascend (ordered_is future_cmp future_total future_same (homes_in now))
      (λ g. some_same (find future_cmp g f.homes) (find future_cmp g (in_order future_cmp (homes_in now)))
      (λ m p. homes_found g (homes_in now) ∙ holders now sound g m (received g m p))
      (λ m p. came g m ((first_holders_are now sound).homes g m (sym (homes_found g (homes_in now)) ∙ p))))
