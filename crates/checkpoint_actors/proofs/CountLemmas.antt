-- How many requests an activity has served: all that it received, but for the pending ones.
use Rattle.std.specs.Prelude.{◌≡◌, ◌&&◌, ◌||◌, not, ℕ, ◌+◌, ◌≤◌, Bool, true, false, cond, List, [], ◌∷◌, Some, is_some, length, map, filter}
use Rattle.std.proofs.Common.{refl, sym, ap, ◌∙◌, arith}
use Rattle.std.proofs.lemmas.Bool.{false_from_ne_true}
use Rattle.std.proofs.lemmas.List.{length-map}
use Rattle.std.specs.Cmp.{eq_by_cmp_equiv}
use Rattle.std.specs.FinMap.{find}
use Rattle.asp_model.specs.Names.{Name, FutureShape, future_cmp, same_name, same_future}
use Rattle.asp_model.specs.Configuration.{RequestShape}
use Rattle.law_chases.proofs.FutureLemmas.{no_some, some_is, future_total, futures_tied}
use Rattle.law_steps.specs.Kept.{answers_of, mark, one_where}
use Rattle.law_steps.specs.Linked.{Each}
use Rattle.law_steps.proofs.EntryLemmas.{In}
use Rattle.law_steps.proofs.NameLemmas.{name_itself}
use Rattle.law_steps.proofs.SoundLemmas.{mark_same}
use Rattle.law_frozen.specs.Frozen.{FrozenActivity, FrozenShape, answered, has_future}
use Rattle.law_frozen.proofs.CountLemmas.{count, keys, keys_once}
use Rattle.law_checkpoints.specs.Lookups.{HasHome, number_in, times_at, times_pending}
use Rattle.law_checkpoints.specs.Sound.{IsSoundActivity, IsSoundFrozen, IsSoundHome, IsSoundRequest}
use Rattle.law_checkpoints.proofs.LookLemmas.{count_some, each_in, home_there, there_activity, times_are}
use Rattle.law_journals.proofs.CountLemmas.{in_mapped}
use Rattle.checkpoint_items.specs.Lines.{home_shape}
use Rattle.checkpoint_parts.specs.Shapes.{activity_shape, checkpoint_shape}
use Rattle.checkpoint_parts.specs.declared.parts.ActivityText.{ActivityText}
use Rattle.checkpoint_parts.specs.declared.parts.CheckpointText.{CheckpointText}
use Rattle.checkpoint_reading.specs.Cells.{request_shape}
use Rattle.checkpoint_actors.specs.Counts.{answered_count, counts_of}

abbrev Home : Type 0
Home = FutureShape × Name

-- how many homes pass a test
abbrev passing : (Home → Bool) → List Home → ℕ
passing test [] = 0
passing test (h ∷ hs) = one_where (test h) + passing test hs

counts_are : (n : Name) (hs : List Home) → counts_of hs n ≡ passing (λ h. same_name h.1 n) hs
counts_are n [] = refl
counts_are n (h ∷ hs) = ap (λ k. one_where (same_name h.1 n) + k) (counts_are n hs)

filtered : (test : Home → Bool) (hs : List Home) → length (filter test hs) ≡ passing test hs
filtered test [] = refl
filtered test (h ∷ hs) = by (test h) (filtered test hs)
  where
    by : (b : Bool) → length (filter test hs) ≡ passing test hs → length (cond b (h ∷ filter test hs) (filter test hs)) ≡ one_where b + passing test hs
    by true e = omega (arith, e)
    by false e = omega (arith, e)

firsts : (hs : List Home) → length (map (λ h. h.0) hs) ≡ length hs
firsts [] = refl
firsts (h ∷ hs) = let rest : length (map (λ g. g.0) hs) ≡ length hs = firsts hs in omega (arith, rest)

-- those of which a second test holds, and those of which it does not
parted : (p q : Home → Bool) (hs : List Home) → passing p hs ≡ passing (λ h. p h && not (q h)) hs + passing (λ h. p h && q h) hs
parted p q [] = omega arith
parted p q (h ∷ hs) = by (p h) (q h) (parted p q hs)
  where
    by : (a b : Bool) → passing p hs ≡ passing (λ h. p h && not (q h)) hs + passing (λ h. p h && q h) hs
        → one_where a + passing p hs ≡ (one_where (a && not b) + passing (λ h. p h && not (q h)) hs) + (one_where (a && b) + passing (λ h. p h && q h) hs)
    by true true e = omega (arith, e)
    by true false e = omega (arith, e)
    by false true e = omega (arith, e)
    by false false e = omega (arith, e)

-- Homes of pending requests

none_passes : (p : Home → Bool) (hs : List Home) → passing (λ h. p h && false) hs ≡ 0
none_passes p [] = refl
none_passes p (h ∷ hs) = by (p h) (none_passes p hs)
  where
    by : (a : Bool) → passing (λ g. p g && false) hs ≡ 0 → one_where (a && false) + passing (λ g. p g && false) hs ≡ 0
    by true e = omega (arith, e)
    by false e = omega (arith, e)

-- two tests that no home passes both
either : (p s t : Home → Bool) → ((h : Home) → s h ≡ true → t h ≡ false) → (hs : List Home)
    → passing (λ h. p h && (s h || t h)) hs ≡ passing (λ h. p h && s h) hs + passing (λ h. p h && t h) hs
either p s t apart [] = omega arith
either p s t apart (h ∷ hs) = by (p h) (s h) (t h) (apart h) (either p s t apart hs)
  where
    by : (a b c : Bool) → (b ≡ true → c ≡ false) → passing (λ g. p g && (s g || t g)) hs ≡ passing (λ g. p g && s g) hs + passing (λ g. p g && t g) hs
        → one_where (a && (b || c)) + passing (λ g. p g && (s g || t g)) hs ≡ (one_where (a && b) + passing (λ g. p g && s g) hs) + (one_where (a && c) + passing (λ g. p g && t g) hs)
    by false b c d e = omega (arith, e)
    by true false c d e = omega (arith, e)
    by true true false d e = omega (arith, e)
    by true true true d e = absurd (no_both (d refl))
      where
        no_both : true ≡ false → ⊥
        no_both q = let n : 1 ≡ 0 = ap one_where q in omega (arith, n)

future_turned : (f g : FutureShape) → same_future f g ≡ same_future g f
future_turned f g = (eq_by_cmp_equiv future_total).symm f g

less_keys : (p : Home → Bool) (g : FutureShape) (hs : List Home) → passing (λ h. p h && same_future h.0 g) hs ≤ keys g hs
less_keys p g [] = omega arith
less_keys p g (h ∷ hs) = by (p h) (same_future h.0 g) (same_future g h.0) (future_turned h.0 g) (less_keys p g hs)
  where
    by : (a b c : Bool) → b ≡ c → passing (λ h. p h && same_future h.0 g) hs ≤ keys g hs → one_where (a && b) + passing (λ h. p h && same_future h.0 g) hs ≤ one_where c + keys g hs
    by false b c e le = omega (arith, le)
    by true b c e le = let same : one_where b ≡ one_where c = ap one_where e in omega (arith, le, same)

-- the home of a future is one
found_one : (g : FutureShape) (n : Name) (hs : List Home) → find future_cmp g hs ≡ Some n → keys g hs ≤ 1 → passing (λ h. same_name h.1 n && same_future h.0 g) hs ≡ 1
found_one g n [] is le = no_some is
found_one g n (e ∷ hs) is le = by (same_future g e.0) refl is (found_one g n hs)
  where
    by : (b : Bool) → same_future g e.0 ≡ b → cond b (Some e.1) (find future_cmp g hs) ≡ Some n → (find future_cmp g hs ≡ Some n → keys g hs ≤ 1 → passing (λ h. same_name h.1 n && same_future h.0 g) hs ≡ 1)
        → one_where (same_name e.1 n && same_future e.0 g) + passing (λ h. same_name h.1 n && same_future h.0 g) hs ≡ 1
    by true tied is rest =
        let marked : one_where (same_future g e.0) ≡ 1 = ap one_where tied in
        let most : one_where (same_future g e.0) + keys g hs ≤ 1 = le in
        let less : passing (λ h. same_name h.1 n && same_future h.0 g) hs ≤ keys g hs = less_keys (λ h. same_name h.1 n) g hs in
        let named : same_name e.1 n ≡ true = ap (λ m. same_name m n) (some_is is) ∙ name_itself n in
        let here : one_where (same_name e.1 n && same_future e.0 g) ≡ 1 = (λ i. one_where (named i && (future_turned e.0 g ∙ tied) i)) in
        omega (arith, marked, most, less, here)
    by false tied is rest =
        let most : one_where (same_future g e.0) + keys g hs ≤ 1 = le in
        let here : one_where (same_name e.1 n && same_future e.0 g) ≡ 0 = ap (λ b. one_where (same_name e.1 n && b)) (future_turned e.0 g ∙ tied) ∙ none (same_name e.1 n) in
        let more : passing (λ h. same_name h.1 n && same_future h.0 g) hs ≡ 1 = rest is (omega (arith, most)) in
        omega (arith, here, more)
      where
        none : (a : Bool) → one_where (a && false) ≡ 0
        none true = refl
        none false = refl

-- no two of these requests have one future
abbrev AreApart : List RequestShape → Type 0
AreApart [] = Unit {0}
AreApart (r ∷ rs) = (has_future r.future rs ≡ false) × AreApart rs

pending_homes : (n : Name) (hs : List Home) → ((g : FutureShape) → keys g hs ≤ 1) → (rs : List RequestShape) → AreApart rs → Each (λ r. find future_cmp r.future hs ≡ Some n) rs
    → passing (λ h. same_name h.1 n && has_future h.0 rs) hs ≡ length rs
pending_homes n hs single [] apart at = none_passes (λ h. same_name h.1 n) hs
pending_homes n hs single (r ∷ rs) apart at =
    let both : passing (λ h. same_name h.1 n && (same_future h.0 r.future || has_future h.0 rs)) hs ≡ passing (λ h. same_name h.1 n && same_future h.0 r.future) hs + passing (λ h. same_name h.1 n && has_future h.0 rs) hs
    = either (λ h. same_name h.1 n) (λ h. same_future h.0 r.future) (λ h. has_future h.0 rs) (λ h e. ap (λ g. has_future g rs) (futures_tied h.0 r.future e) ∙ apart.0) hs in
    let here : passing (λ h. same_name h.1 n && same_future h.0 r.future) hs ≡ 1 = found_one r.future n hs at.0 (single r.future) in
    let rest : passing (λ h. same_name h.1 n && has_future h.0 rs) hs ≡ length rs = pending_homes n hs single rs apart.1 at.1 in
    omega (arith, both, here, rest)

apart_once : (f : FrozenShape) (n : Name) (rs : List RequestShape) → Each (λ r. HasHome f r.future n) rs → ((g : FutureShape) → HasHome f g n → count g rs ≤ 1) → AreApart rs
apart_once f n [] at once = tt
apart_once f n (r ∷ rs) at once = (
  false_from_ne_true (has_future r.future rs) (λ e.
      let some : 1 ≤ count r.future rs = count_some r.future rs e in
      let here : mark r.future r.future ≡ 1 = mark_same r.future r.future refl in
      let most : mark r.future r.future + count r.future rs ≤ 1 = once r.future at.0 in
      omega (arith, some, here, most)),
  apart_once f n rs at.1 (λ g home. let most : mark g r.future + count g rs ≤ 1 = once g home in omega (arith, most)),
)

-- Of a sound checkpoint

homes_of : (f : FrozenShape) (n : Name) (rs : List RequestShape) → Each (IsSoundRequest f n) rs → Each (λ r. HasHome f r.future n) rs
homes_of f n [] h = tt
homes_of f n (r ∷ rs) h = (h.0.home, homes_of f n rs h.1)

module _ (f : FrozenShape) (h : IsSoundFrozen f) (x : FrozenActivity) (there : In x f.activities) where
  sound : IsSoundActivity f x
  sound = each_in (IsSoundActivity f) f.activities x h.activities there

  pending_once : (g : FutureShape) → HasHome f g x.name → count g x.queue ≤ 1
  pending_once g home =
      let s : IsSoundHome f g x.name = each_in (λ e. IsSoundHome f e.0 e.1) f.homes (g, x.name) h.homes (home_there g x.name f.homes home) in
      let filled : ℕ = one_where (is_some (find future_cmp g f.filled)) in
      let all : times_pending g x.queue + answers_of g (Some x.activity) + filled ≡ 1 = ap (λ o. number_in (times_at g) o + filled) (sym (there_activity f.activities x h.names.once there)) ∙ s.once in
      let same : times_pending g x.queue ≡ count g x.queue = times_are g x.queue in
      omega (arith, all, same)

  pub answered_and_pending : counts_of f.homes x.name ≡ answered_count f x + length x.queue
  answered_and_pending =
      let at : Each (λ r. HasHome f r.future x.name) x.queue = homes_of f x.name x.queue sound.queue in
      let all : counts_of f.homes x.name ≡ passing (λ e. same_name e.1 x.name) f.homes = counts_are x.name f.homes in
      let two : passing (λ e. same_name e.1 x.name) f.homes ≡ passing (λ e. same_name e.1 x.name && not (has_future e.0 x.queue)) f.homes + passing (λ e. same_name e.1 x.name && has_future e.0 x.queue) f.homes
      = parted (λ e. same_name e.1 x.name) (λ e. has_future e.0 x.queue) f.homes in
      let pending : passing (λ e. same_name e.1 x.name && has_future e.0 x.queue) f.homes ≡ length x.queue
      = pending_homes x.name f.homes (λ g. keys_once g f.homes h.homes_ascend) x.queue (apart_once f x.name x.queue at pending_once) at in
      let count : answered_count f x ≡ passing (λ e. same_name e.1 x.name && not (has_future e.0 x.queue)) f.homes
      = firsts (filter (λ e. same_name e.1 x.name && not (has_future e.0 x.queue)) f.homes) ∙ filtered (λ e. same_name e.1 x.name && not (has_future e.0 x.queue)) f.homes in
      omega (arith, all, two, pending, count)

-- so as it was read
pub served_of : (file : CheckpointText) → IsSoundFrozen (checkpoint_shape file) → (a : ActivityText) → In a file.activities.items
    → counts_of (map home_shape file.homes.items) a.name ≡ answered_count (checkpoint_shape file) (activity_shape a) + length a.parts.queue.items
served_of file h a there =
    let f : FrozenShape = checkpoint_shape file in
    let x : FrozenActivity = activity_shape a in
    let all : counts_of f.homes x.name ≡ answered_count f x + length x.queue = answered_and_pending f h x (in_mapped activity_shape a file.activities.items there) in
    let size : length x.queue ≡ length a.parts.queue.items = length-map a.parts.queue.items request_shape in
    all ∙ ap (λ n. answered_count f x + n) size
