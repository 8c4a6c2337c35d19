-- The laws of names, requests and futures.
use Rattle.std.specs.Prelude.{◌≡◌, ℕ, zero, suc, ◌≤◌, ◌+◌, true, Option, Some, None, is_some}
use Rattle.std.proofs.Common.{refl, sym, subst, ◌∙◌, arith, inl, inr, ⊎_elim, ◌⊎◌}
use Rattle.std.specs.FinMap.{find}
use Rattle.asp_model.specs.Names.{Name, FutureShape, name_cmp, future_cmp}
use Rattle.asp_model.specs.Parcel.{has_place}
use Rattle.asp_model.specs.Configuration.{RequestShape, Activity, Configuration}
use Rattle.law_steps.specs.Reached.{IsThere, IsAt, IsFilled}
use Rattle.law_steps.specs.Kept.{Stands, IsCreated, IsRightRequest, ServesOnce, StandsOnce, IsBegun, answers_at, EntriesAscend, number_of, creations_of, sends_of, NamesAreCreations, RequestsAreSends, AreDistinct, ServedOnce, one_unless, mark, answers_of, is_served, FuturesStandOnce, FuturesWereBegun}
use Rattle.law_steps.proofs.FactLemmas.{face, holds}
use Rattle.law_steps.proofs.SoundLemmas.{at_name, Placed, in_map}
use Rattle.law_steps.proofs.ReachedLemmas.{Right, reached_right, reached_sound}

-- What is read of an activity, or of none

creations_by : (o : Option Activity) → number_of (λ a. a.creations) o ≡ (face o).creations
creations_by None = refl
creations_by (Some a) = refl

sends_by : (o : Option Activity) → number_of (λ a. a.sends) o ≡ (face o).sends
sends_by None = refl
sends_by (Some a) = refl

pub answers_by : (f : FutureShape) (o : Option Activity) → answers_of f o ≡ holds (mark f) (face o)
answers_by f None = refl
answers_by f (Some a) = refl

pub served_by : (k : ℕ) (o : Option Activity) → is_served k o ≡ has_place k (face o).served
served_by k None = refl
served_by k (Some a) = refl

pub creations_at : (c : Configuration) (n : Name) → creations_of c n ≡ (at_name c n).creations
creations_at c n = creations_by (find name_cmp n c.activities)

pub sends_at : (c : Configuration) (n : Name) → sends_of c n ≡ (at_name c n).sends
sends_at c n = sends_by (find name_cmp n c.activities)

-- The laws

pub entries_ascend : EntriesAscend
entries_ascend program c r = (reached_sound program c r).ordered

pub names_on : (c : Configuration) (n : Name) → Right c → (IsThere c n → IsCreated c n) × (IsCreated c n → IsThere c n)
names_on c n x = (
  λ h. ⊎_elim (λ p. inl p) (λ k. inr (k.0, k.1, k.2, subst (λ j. suc k.1 ≤ j) (sym (creations_at c k.0)) k.3)) (x.exact.known n h),
  λ h. ⊎_elim (λ p. subst (IsThere c) (sym p) x.tidy.main) (λ k. subst (IsThere c) (sym k.2) (x.exact.made k.0 k.1 (subst (λ j. suc k.1 ≤ j) (creations_at c k.0) k.3))) h,
)

pub names_are_creations : NamesAreCreations
names_are_creations program c n r = names_on c n (reached_right program c r)

pub requests_on : (c : Configuration) (m : Name) (k : ℕ) (r : RequestShape) → Right c → Stands c m k r → IsRightRequest c m r
requests_on c m k r x st =
    let by = x.tidy.by m k r st in
    record {
      received = x.tidy.housed m k r st;
      by = by;
      first = x.exact.positive m k r st;
      last = subst (λ n. r.future.index ≤ sends_of c n) (sym by) (subst (λ j. r.future.index ≤ j) (sym (sends_at c r.future.by)) (x.sound.begun m k r st));
    }

pub requests_are_sends : RequestsAreSends
requests_are_sends program c m k r reached st = requests_on c m k r (reached_right program c reached) st

pub served_on : (c : Configuration) (m : Name) (a : Activity) → Right c → IsAt c m a → ServesOnce c m a
served_on c m a x is = (
  subst (λ o. AreDistinct (face o).served) is (x.tidy.distinct m),
  λ k h. x.sound.served m k (subst (λ o. has_place k (face o).served ≡ true) (sym is) h),
)

pub served_once : ServedOnce
served_once program c m a reached is = served_on c m a (reached_right program c reached) is

small : (a : ℕ) → (1 ≤ a → ⊥) → a ≡ 0
small zero f = refl
small (suc a) f = absurd (f (omega arith))

pub stand_on : (c : Configuration) (n : Name) (i : ℕ) → Right c → suc i ≤ sends_of c n → StandsOnce c (record { by = n; index = suc i })
stand_on c n i x le =
    let f : FutureShape = record { by = n; index = suc i } in
    let s = x.exact.sent n i (subst (λ j. suc i ≤ j) (sends_at c n) le) in
    let p = s.1 in
    let at = find name_cmp s.0 c.activities in
    record {
      target = s.0;
      number = p.0;
      request = p.1;
      there = p.2;
      is = p.3;
      alone = λ m k q st e. x.sound.apart m k q s.0 p.0 p.1 st p.2 (e ∙ sym p.3);
      once =
          let balance : one_unless (has_place p.0 (face at).served) + holds (mark f) (face at) + in_map f c.futures ≡ 1 = subst (λ g. one_unless (has_place p.0 (face at).served) + holds (mark g) (face at) + in_map g c.futures ≡ 1) p.3 (x.sound.balanced s.0 p.0 p.1 p.2) in
          (λ j. one_unless (served_by p.0 at j) + answers_by f at j + in_map f c.futures) ∙ balance;
      nowhere = λ m apart. small (answers_of f (find name_cmp m c.activities)) (λ h.
          let y = x.sound.held m f (subst (λ j. 1 ≤ j) (answers_by f (find name_cmp m c.activities)) h) in
          apart (x.sound.apart m y.0 y.1 s.0 p.0 p.1 y.2 p.2 (y.3 ∙ sym p.3)).0);
    }

pub futures_stand_once : FuturesStandOnce
futures_stand_once program c n i reached le = stand_on c n i (reached_right program c reached) le

begun : (c : Configuration) → Right c → (m : Name) (f : FutureShape) → Placed c m f → (1 ≤ f.index) × (f.index ≤ sends_of c f.by)
begun c x m f p = (
  subst (λ g. 1 ≤ g.index) p.3 (x.exact.positive m p.0 p.1 p.2),
  subst (λ j. f.index ≤ j) (sym (sends_at c f.by)) (subst (λ g. g.index ≤ (at_name c g.by).sends) p.3 (x.sound.begun m p.0 p.1 p.2)),
)

pub filled_begun : (c : Configuration) → Right c → (f : FutureShape) → is_some (find future_cmp f c.futures) ≡ true → (1 ≤ f.index) × (f.index ≤ sends_of c f.by)
filled_begun c x f filled = let y = x.sound.filled f filled in begun c x y.0 f y.1

pub begun_on : (c : Configuration) (f : FutureShape) → Right c → IsFilled c f ⊎ ((m : Name) × (1 ≤ answers_at c m f)) → IsBegun c f
begun_on c f x h =
    ⊎_elim
    (filled_begun c x f)
    (λ k. begun c x k.0 f (x.sound.held k.0 f (subst (λ j. 1 ≤ j) (answers_by f (find name_cmp k.0 c.activities)) k.1)))
    h

pub futures_were_begun : FuturesWereBegun
futures_were_begun program c f reached h = begun_on c f (reached_right program c reached) h
