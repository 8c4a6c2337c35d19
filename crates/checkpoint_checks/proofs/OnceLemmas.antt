-- Futures that stand once: a set that takes each of them once tells how often each stands.
use Rattle.std.specs.Prelude.{◌≡◌, ◌≢◌, ℕ, ◌+◌, ◌≤◌, ◌&&◌, ◌||◌, not, nat_le, Bool, true, false, T, List, [], ◌∷◌, ◌++◌, Option, Some, None, is_some, map}
use Rattle.std.specs.List.{flat_map, list_all}
use Rattle.std.proofs.Common.{refl, sym, ap, ◌∙◌, arith, inl, inr}
use Rattle.std.proofs.lemmas.Bool.{and_parts, and_from, not-true, leb-true, le-leb}
use Rattle.std.specs.FinMap.{find, is_sorted}
use Rattle.asp_model.specs.Names.{Name, FutureShape, future_cmp, main_name, same_future, same_name}
use Rattle.asp_model.specs.Configuration.{RequestShape, ServiceShape}
use Rattle.law_chases.proofs.FutureLemmas.{futures_tied, future_itself, none_true}
use Rattle.law_steps.specs.Kept.{mark, one_where}
use Rattle.law_steps.specs.Linked.{Each}
use Rattle.law_steps.proofs.EachLemmas.{each_both, each_mapped, each_weaker}
use Rattle.law_steps.proofs.EntryLemmas.{In}
use Rattle.law_steps.proofs.NameLemmas.{name_itself, names_apart}
use Rattle.law_frozen.specs.Frozen.{FrozenActivity, FrozenShape}
use Rattle.law_checkpoints.specs.Lookups.{activity_of, HasHome, IsHoused, sends_in}
use Rattle.law_checkpoints.specs.Sound.{StandOnce, IsAnsweredAt, IsSoundActivity, IsSoundHome, IsSoundRequest, IsSoundValue}
use Rattle.law_checkpoints.specs.Standing.{future_in, standing_at, standing_in, times}
use Rattle.law_checkpoints.proofs.LookLemmas.{each_in, in_each, home_there}
use Rattle.law_checkpoints.proofs.StandingLemmas.{times_are_of_list}
use Rattle.checkpoint_checks.specs.Maps.{Futures, no_futures, with_future, with_futures}
use Rattle.checkpoint_checks.specs.Standing.{are_fresh}
use Rattle.checkpoint_checks.specs.Homes.{home_fits}
use Rattle.checkpoint_checks.proofs.SameLemmas.{Same}
use Rattle.checkpoint_checks.proofs.CallLemmas.{first_in}
use Rattle.checkpoint_checks.proofs.HomeLemmas.{entry_there}

-- Counts

one_less : (b c : Bool) → (b ≡ true → c ≡ false) → one_where (b || c) ≡ one_where b + one_where c
one_less true c h = ap (λ d. 1 + one_where d) (sym (h refl))
one_less false c h = omega arith

counted : (gs : List FutureShape) (set : Futures) → are_fresh set gs ≡ true → (k : FutureShape) → one_where (with_futures set gs k) ≡ one_where (set k) + times k gs
counted [] set e k = omega arith
counted (g ∷ gs) set e k =
    let p = and_parts (not (set g)) (are_fresh (with_future set g) gs) e in
    let rest = counted gs (with_future set g) p.1 k in
    let here = one_less (same_future k g) (set k) (λ t. ap set (futures_tied k g t) ∙ not-true (set g) p.0) in
    omega (arith, rest, here)

pub stands_times : (gs : List FutureShape) → are_fresh no_futures gs ≡ true → (k : FutureShape) → one_where (with_futures no_futures gs k) ≡ times k gs
stands_times gs e k = omega (arith, counted gs no_futures e k)

fresh_few : (gs : List FutureShape) (set : Futures) → ((k : FutureShape) → In k gs → one_where (set k) + times k gs ≤ 1) → are_fresh set gs ≡ true
fresh_few [] set h = refl
fresh_few (g ∷ gs) set h = and_from (not (set g)) (are_fresh (with_future set g) gs) (lacks (set g) (h g (inl refl))) (fresh_few gs (with_future set g) (λ k i. fewer k i (same_future k g) refl))
  where
    own : mark g g ≡ 1
    own = ap one_where (future_itself g)

    lacks : (b : Bool) → one_where b + (mark g g + times g gs) ≤ 1 → not b ≡ true
    lacks true le = absurd (omega (arith, le, own))
    lacks false le = refl

    fewer : (k : FutureShape) → In k gs → (b : Bool) → same_future k g ≡ b → one_where (with_future set g k) + times k gs ≤ 1
    fewer k i true t =
        let at : one_where (set g) + (mark g g + times g gs) ≤ 1 = h g (inl refl) in
        let none : times k gs ≡ 0 = ap (λ z. times z gs) (futures_tied k g t) ∙ nothing (times g gs) at in
        let one : one_where (with_future set g k) ≡ 1 = ap (λ b. one_where (b || set k)) t in
        omega (arith, none, one)
      where
        nothing : (n : ℕ) → one_where (set g) + (mark g g + n) ≤ 1 → n ≡ 0
        nothing n le = omega (arith, le, own)
    fewer k i false t =
        let at : one_where (set k) + (mark k g + times k gs) ≤ 1 = h k (inr i) in
        let same : one_where (with_future set g k) ≡ one_where (set k) = ap (λ b. one_where (b || set k)) t in
        omega (arith, at, same)

-- What stands with an activity has it as home

each_future : (f : FrozenShape) (n : Name) (o : Option FutureShape) → IsAnsweredAt f n o → Each (λ k. HasHome f k n) (future_in o)
each_future f n None h = tt
each_future f n (Some g) h = (h, tt)

each_service : (f : FrozenShape) (n : Name) (vs : List ServiceShape) → Each (λ v. IsAnsweredAt f n v.future) vs → Each (λ k. HasHome f k n) (flat_map (λ v. future_in v.future) vs)
each_service f n [] h = tt
each_service f n (v ∷ vs) h = each_both (λ k. HasHome f k n) (future_in v.future) (flat_map (λ u. future_in u.future) vs) (each_future f n v.future h.0) (each_service f n vs h.1)

pub homes_here : (f : FrozenShape) (x : FrozenActivity) → IsSoundActivity f x → Each (λ k. HasHome f k x.name) (standing_at x)
homes_here f x h =
    let P : FutureShape → Type 0 = λ k. HasHome f k x.name in
    let services = flat_map (λ (v : ServiceShape). future_in v.future) x.activity.services in
    each_both P (map (λ (r : RequestShape). r.future) x.queue) (future_in x.activity.present ++ services)
    (each_mapped (IsSoundRequest f x.name) P (λ r. r.future) (λ r s. s.home) x.queue h.queue)
    (each_both P (future_in x.activity.present) services (each_future f x.name x.activity.present h.present) (each_service f x.name x.activity.services h.suspended))

-- Homes

module _ (f : FrozenShape) (once : StandOnce f.activities) (sorted : T (is_sorted future_cmp f.homes)) (filled : T (is_sorted future_cmp f.filled)) (sound : Each (IsSoundActivity f) f.activities) (values : Each (λ v. IsSoundValue f v.0 v.1) f.filled) where
  here : Each (λ x. Each (λ k. HasHome f k x.name) (standing_at x)) f.activities
  here = each_weaker (IsSoundActivity f) (λ x. Each (λ k. HasHome f k x.name) (standing_at x)) (homes_here f) f.activities sound

  abbrev standing : Futures
  standing = with_futures no_futures (standing_in f)

  one_is : (b : Bool) → one_where b ≡ 1 → b ≡ true
  one_is true e = refl
  one_is false e = absurd (omega (arith, e))

  -- each that stands has a home
  housed_all : (xs : List FrozenActivity) → Each (λ x. Each (λ k. HasHome f k x.name) (standing_at x)) xs → Each (IsHoused f) (flat_map standing_at xs)
  housed_all [] h = tt
  housed_all (x ∷ xs) h = each_both (IsHoused f) (standing_at x) (flat_map standing_at xs)
      (each_weaker (λ k. HasHome f k x.name) (IsHoused f) (λ k e. ap is_some e) (standing_at x) h.0)
      (housed_all xs h.1)

  pub housed : Each (IsHoused f) (standing_in f)
  housed = each_both (IsHoused f) (flat_map standing_at f.activities) (map (λ v. v.0) f.filled)
      (housed_all f.activities here)
      (each_mapped (λ v. IsSoundValue f v.0 v.1) (IsHoused f) (λ v. v.0) (λ v s. s.home) f.filled values)

  a_home : (k : FutureShape) (o : Option Name) → find future_cmp k f.homes ≡ o → is_some (find future_cmp k f.homes) ≡ true → (n : Name) × HasHome f k n
  a_home k None e h = none_true (sym (ap is_some e) ∙ h)
  a_home k (Some n) e h = (n, e)

  -- where each home is right, each that stands does so once
  pub fresh_all : Each (λ h. IsSoundHome f h.0 h.1) f.homes → are_fresh no_futures (standing_in f) ≡ true
  fresh_all homes = fresh_few (standing_in f) no_futures (λ k i.
      let n = a_home k (find future_cmp k f.homes) refl (each_in (IsHoused f) (standing_in f) k housed i) in
      let s = each_in (λ h. IsSoundHome f h.0 h.1) f.homes (k, n.0) homes (home_there k n.0 f.homes n.1) in
      let one : times k (standing_in f) ≡ 1 = sym (times_are_of_list f k n.0 once filled here n.1) ∙ s.once in
      omega (arith, one))

  main_apart : (n : Name) → not (same_name n main_name) ≡ true → n ≢ main_name
  main_apart n e p = none_true (sym (not-true (same_name n main_name) e) ∙ ap (same_name n) (sym p) ∙ name_itself n)

  pub same_home : are_fresh no_futures (standing_in f) ≡ true → (h : FutureShape × Name) → HasHome f h.0 h.1 → Same (home_fits (first_in f.activities) standing h) (IsSoundHome f h.0 h.1)
  same_home fresh h has = record {
    to = λ e.
        let p = and_parts (nat_le 1 h.0.index && nat_le h.0.index (sends_in f.activities h.0.by)) ((is_some (activity_of h.1 f.activities) && not (same_name h.1 main_name)) && standing h.0) e in
        let q = and_parts (nat_le 1 h.0.index) (nat_le h.0.index (sends_in f.activities h.0.by)) p.0 in
        let r = and_parts (is_some (activity_of h.1 f.activities) && not (same_name h.1 main_name)) (standing h.0) p.1 in
        let s = and_parts (is_some (activity_of h.1 f.activities)) (not (same_name h.1 main_name)) r.0 in
        record {
          first = leb-true 1 h.0.index q.0;
          last = leb-true h.0.index (sends_in f.activities h.0.by) q.1;
          named = s.0;
          other = main_apart h.1 s.1;
          once = times_are_of_list f h.0 h.1 once filled here has ∙ sym (stands_times (standing_in f) fresh h.0) ∙ ap one_where r.1;
        };
    of = λ s.
        let one : one_where (standing h.0) ≡ 1 = stands_times (standing_in f) fresh h.0 ∙ sym (times_are_of_list f h.0 h.1 once filled here has) ∙ s.once in
        and_from (nat_le 1 h.0.index && nat_le h.0.index (sends_in f.activities h.0.by)) ((is_some (activity_of h.1 f.activities) && not (same_name h.1 main_name)) && standing h.0)
        (and_from (nat_le 1 h.0.index) (nat_le h.0.index (sends_in f.activities h.0.by)) (le-leb 1 h.0.index s.first) (le-leb h.0.index (sends_in f.activities h.0.by) s.last))
        (and_from (is_some (activity_of h.1 f.activities) && not (same_name h.1 main_name)) (standing h.0)
        (and_from (is_some (activity_of h.1 f.activities)) (not (same_name h.1 main_name)) s.named (ap not (names_apart h.1 main_name s.other)))
        (one_is (standing h.0) one));
  }

  -- all homes
  pub homes_to : are_fresh no_futures (standing_in f) ≡ true → (hs : List (FutureShape × Name)) → Each (λ h. HasHome f h.0 h.1) hs → Same (list_all (home_fits (first_in f.activities) standing) hs) (Each (λ h. IsSoundHome f h.0 h.1) hs)
  homes_to fresh [] has = record { to = λ e. tt; of = λ u. refl }
  homes_to fresh (h ∷ hs) has =
      let a = same_home fresh h has.0 in
      let b = homes_to fresh hs has.1 in
      record {
        to = λ e. let p = and_parts (home_fits (first_in f.activities) standing h) (list_all (home_fits (first_in f.activities) standing) hs) e in (a.to p.0, b.to p.1);
        of = λ s. and_from (home_fits (first_in f.activities) standing h) (list_all (home_fits (first_in f.activities) standing) hs) (a.of s.0) (b.of s.1);
      }

  pub have_homes : Each (λ h. HasHome f h.0 h.1) f.homes
  have_homes = in_each (λ h. HasHome f h.0 h.1) f.homes (λ h i. entry_there f.homes h sorted i)
