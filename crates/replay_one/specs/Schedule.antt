-- Who is ready, and what the others are noted to wait for.
use Rattle.std.specs.Prelude.{◌≡◌, ◌≢◌, ◌<◌, ◌==◌, ℕ, Bool, true, false, List, Option, Some, None, length, slice_get}
use Rattle.std.specs.Global.{Vec}
use Rattle.std.specs.List.{list_any}
use Rattle.std.specs.Map.{lookup}
use Rattle.std.specs.Ordering.{is_lt}
use Rattle.asp_model.specs.declared.name.FutureName.{FutureName}
use Rattle.asp_model.specs.Names.{Name, FutureShape, Text, name_cmp, same_future}
use Rattle.asp_model.specs.Term.{has_text}
use Rattle.asp_model.specs.Shapes.{future_shape, labels_shape}
use Rattle.def_journals.specs.Journals.{number_of}
use Rattle.law_schedules.specs.Watches.{Watches}
use Rattle.replay_one.specs.declared.schedule.Watch.{Watch}
use Rattle.replay_one.specs.declared.schedule.Watch.TheVariants as watch
use Rattle.replay_parts.specs.declared.ready.Least.{Least}
use Rattle.replay_parts.specs.declared.ready.Least.TheVariants as least
use Rattle.replay_one.specs.declared.schedule.Schedule.{Schedule}
use Rattle.replay_parts.specs.Ready.{is_ready, size}

-- By numbers

abbrev pub has_number : ℕ → List ℕ → Bool
has_number k = list_any (λ j. k == j)

abbrev pub numbers_at : List (FutureName × Vec ℕ) → FutureShape → Option (Vec ℕ)
numbers_at es f = lookup (λ g. same_future f (future_shape g)) es

abbrev pub is_numbered_in : ℕ → Option (Vec ℕ) → Bool
is_numbered_in k None = false
is_numbered_in k (Some numbers) = has_number k numbers.items

abbrev pub noted_at : List (FutureName × Vec ℕ) → FutureShape → ℕ → Bool
noted_at es f k = is_numbered_in k (numbers_at es f)

-- one is noted by labels that have this one
abbrev pub is_asked : Text → Option Watch → Bool
is_asked l None = false
is_asked l (Some watch.Nothing) = false
is_asked l (Some (watch.Asks labels)) = has_text l (labels_shape labels)
is_asked l (Some (watch.Holds to)) = false

abbrev pub asks_at : List Watch → ℕ → Text → Bool
asks_at ws k l = is_asked l (slice_get ws k)

abbrev pub is_number : ℕ → Option ℕ → Bool
is_number to None = false
is_number to (Some k) = to == k

-- one is held at the log of the one with this number
abbrev pub is_held : Option ℕ → Option Watch → Bool
is_held o None = false
is_held o (Some watch.Nothing) = false
is_held o (Some (watch.Asks labels)) = false
is_held o (Some (watch.Holds to)) = is_number to o

abbrev pub sends_at : List Watch → ℕ → Option ℕ → Bool
sends_at ws k o = is_held o (slice_get ws k)

-- there is a place for what the one with this number waits for, and nothing else changes
pub record HasPlace (old : Schedule) (k : ℕ) (new : Schedule) : Type 0 where
  pub same : new ≡ record old { watches = new.watches }
  pub place : k < length new.watches.items
  pub asks : (j : ℕ) (l : Text) → asks_at new.watches.items j l ≡ asks_at old.watches.items j l
  pub sends : (j : ℕ) (o : Option ℕ) → sends_at new.watches.items j o ≡ sends_at old.watches.items j o

-- the one with this number waits so, and none of the others does otherwise than before
pub record IsWatch (old : Schedule) (k : ℕ) (w : Watch) (new : Schedule) : Type 0 where
  pub same : new ≡ record old { watches = new.watches }
  pub here : slice_get new.watches.items k ≡ Some w
  pub asks : (j : ℕ) (l : Text) → j ≢ k → asks_at new.watches.items j l ≡ asks_at old.watches.items j l
  pub sends : (j : ℕ) (o : Option ℕ) → j ≢ k → sends_at new.watches.items j o ≡ sends_at old.watches.items j o

-- fewer are ready
abbrev pub IsFewerIn : Schedule → Schedule → Type 0
IsFewerIn old new = size new.ready < size old.ready

-- By names

-- what is seen of a schedule
pub record Seen : Type 0 where
  pub ready : Name → Bool
  pub noted : FutureShape → Name → Bool
  pub asks : Name → Text → Bool
  pub sends : Name → Name → Bool

abbrev pub if_number : Option ℕ → (ℕ → Bool) → Bool
if_number None test = false
if_number (Some k) test = test k

-- where these names have numbers
abbrev pub seen : List Name → Schedule → Seen
seen ns s = record {
  ready = is_ready ns s.ready;
  noted = λ f n. if_number (number_of n ns) (noted_at s.awaiting.entries f);
  asks = λ n l. if_number (number_of n ns) (λ k. asks_at s.watches.items k l);
  sends = λ n m. if_number (number_of n ns) (λ k. sends_at s.watches.items k (number_of m ns));
}

abbrev pub ready_in : Seen → Name → Bool
ready_in s = s.ready

abbrev pub noted_in : Seen → FutureShape → Name → Bool
noted_in s = s.noted

abbrev pub asks_in : Seen → Name → Text → Bool
asks_in s = s.asks

abbrev pub sends_in : Seen → Name → Name → Bool
sends_in s = s.sends

abbrev pub watches_in : Seen → Watches
watches_in s = record { asks = s.asks; sends = s.sends }

-- the least of those ready leaves
pub record IsTaken (old : Seen) (n : Name) (new : Seen) : Type 0 where
  pub ready : ready_in old n ≡ true
  pub least : (m : Name) → ready_in old m ≡ true → is_lt (name_cmp m n) ≡ false
  pub others : (m : Name) → m ≢ n → ready_in new m ≡ ready_in old m
  pub noted : noted_in new ≡ noted_in old
  pub watches : watches_in new ≡ watches_in old

-- some become ready, nobody leaves, who is noted at other futures than this one stays so, and who is
-- not ready still waits for what it is noted to wait for
pub record IsMoreReady (old : Seen) (f : Option FutureShape) (new : Seen) : Type 0 where
  pub ready : (m : Name) → ready_in old m ≡ true → ready_in new m ≡ true
  pub noted : (g : FutureShape) (m : Name) → f ≢ Some g → noted_in old g m ≡ true → noted_in new g m ≡ true
  pub asks : (m : Name) (l : Text) → ready_in new m ≡ false → asks_in old m l ≡ true → asks_in new m l ≡ true
  pub sends : (m k : Name) → ready_in new m ≡ false → sends_in old m k ≡ true → sends_in new m k ≡ true

-- it is noted at the future, and nobody else is moved
pub record IsNoted (old : Seen) (f : FutureShape) (n : Name) (new : Seen) : Type 0 where
  pub here : noted_in new f n ≡ true
  pub noted : (g : FutureShape) (m : Name) → noted_in old g m ≡ true → noted_in new g m ≡ true
  pub ready : ready_in new ≡ ready_in old
  pub watches : watches_in new ≡ watches_in old

-- what it waits for may be noted anew, and nobody else is moved
pub record IsWatching (old : Seen) (n : Name) (new : Seen) : Type 0 where
  pub ready : ready_in new ≡ ready_in old
  pub noted : noted_in new ≡ noted_in old
  pub asks : (m : Name) (l : Text) → m ≢ n → asks_in new m l ≡ asks_in old m l
  pub sends : (m k : Name) → m ≢ n → sends_in new m k ≡ sends_in old m k

-- nobody leaves who has a number
pub record IsForNobody (ns : List Name) (old new : Seen) : Type 0 where
  pub ready : (m : Name) (k : ℕ) → number_of m ns ≡ Some k → ready_in new m ≡ ready_in old m
  pub noted : noted_in new ≡ noted_in old
  pub watches : watches_in new ≡ watches_in old

-- the least of those ready leaves, who has this number; or nobody who has one; or nobody is ready
abbrev pub IsLeastIn : List Name → Schedule → Least → Schedule → Type 0
IsLeastIn ns old least.Nobody new = (m : Name) → ready_in (seen ns old) m ≡ false
IsLeastIn ns old (least.One k) new = (n : Name) × (number_of n ns ≡ Some k) × IsTaken (seen ns old) n (seen ns new)
IsLeastIn ns old least.Unknown new = IsForNobody ns (seen ns old) (seen ns new)

-- fewer are ready, unless nobody was
abbrev pub IsFewerAfter : Schedule → Least → Schedule → Type 0
IsFewerAfter old least.Nobody new = Unit {0}
IsFewerAfter old l new = IsFewerIn old new
