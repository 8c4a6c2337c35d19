-- Who is ready, by numbers where names ascend, and else by names.
use Rattle.std.specs.Prelude.{◌≡◌, ◌≢◌, ◌⊎◌, ◌<◌, ◌≤◌, ◌+◌, ◌&&◌, ◌||◌, nat_lt, ℕ, Bool, true, false, List, Option, Some, None, length}
use Rattle.std.specs.List.{list_any}
use Rattle.std.specs.BTreeMap.{is_at}
use Rattle.std.specs.Ordering.{is_lt}
use Rattle.asp_model.specs.Names.{Name, name_cmp}
use Rattle.def_journals.specs.Journals.{number_of}
use Rattle.replay_parts.specs.declared.ready.Least.{Least}
use Rattle.replay_parts.specs.declared.ready.Least.TheVariants as least
use Rattle.replay_parts.specs.declared.ready.Ready.{Ready}
use Rattle.replay_parts.specs.Numbers.{IsLeastOf, holds, how_many}

-- the names of so many numbers ascend
pub record Ascend (o : ℕ) (ns : List Name) : Type 0 where
  pub within : o ≤ length ns
  pub rise : (j k : ℕ) (m n : Name) → number_of m ns ≡ Some j → number_of n ns ≡ Some k
      → j < k → k < o → is_lt (name_cmp m n) ≡ true

-- one stands by its number
abbrev pub is_marked : Ready → Option ℕ → Bool
is_marked r None = false
is_marked r (Some k) = nat_lt k r.ordered && holds r.numbers k

-- one stands by its name
abbrev pub is_named : Ready → Name → Bool
is_named r n = list_any (is_at (name_cmp n)) r.others.keys

abbrev pub is_ready : List Name → Ready → Name → Bool
is_ready ns r n = is_marked r (number_of n ns) || is_named r n

-- one is ready, and who was is so still
pub record IsAdded (ns : List Name) (k : ℕ) (old new : Ready) : Type 0 where
  pub ordered : new.ordered ≡ old.ordered
  pub more : (m : Name) → is_ready ns old m ≡ true → is_ready ns new m ≡ true
  pub here : (n : Name) → number_of n ns ≡ Some k → is_ready ns new n ≡ true

-- how many stand there
abbrev pub size : Ready → ℕ
size r = how_many r.numbers + length r.others.keys

-- none by its name is less than this name, or one is
abbrev pub IsLesser : Ready → Name → Bool → Type 0
IsLesser r n true = (f : Name) × (is_named r f ≡ true) × (is_lt (name_cmp f n) ≡ true)
IsLesser r n false = (m : Name) → is_named r m ≡ true → is_lt (name_cmp m n) ≡ false

-- the first of those by numbers goes before all by names, or one by its name goes before them
abbrev pub IsNumberFirst : List Name → Ready → Bool → Type 0
IsNumberFirst ns r true = (k : ℕ) × IsLeastOf r.numbers k
    × (k < r.ordered → (q : Name) × (number_of q ns ≡ Some k) × IsLesser r q false)
IsNumberFirst ns r false = ((i : ℕ) → holds r.numbers i ≡ false)
    ⊎ ((k : ℕ) × (q : Name) × (number_of q ns ≡ Some k) × ((i : ℕ) → holds r.numbers i ≡ true → k ≤ i) × IsLesser r q true)

-- one of these names leaves, the least of those who were ready
pub record IsLeastLeft (ns : List Name) (old : Ready) (n : Name) (new : Ready) : Type 0 where
  pub ready : is_ready ns old n ≡ true
  pub least : (m : Name) → is_ready ns old m ≡ true → is_lt (name_cmp m n) ≡ false
  pub others : (m : Name) → m ≢ n → is_ready ns new m ≡ is_ready ns old m

-- the least one with a number leaves; or nobody who has one; or nobody is ready
abbrev pub IsLeast : List Name → Ready → Least → Ready → Type 0
IsLeast ns old least.Nobody new = (m : Name) → is_ready ns old m ≡ false
IsLeast ns old (least.One k) new = (n : Name) × (number_of n ns ≡ Some k) × IsLeastLeft ns old n new × (size new < size old)
IsLeast ns old least.Unknown new =
    ((m : Name) (k : ℕ) → number_of m ns ≡ Some k → is_ready ns new m ≡ is_ready ns old m) × (size new < size old)
