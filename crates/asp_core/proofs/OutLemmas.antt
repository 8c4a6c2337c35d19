-- Who is out, as the edges tell it.
use Rattle.std.proofs.Common.{◌≡◌, ◌≢◌, ◌==◌, ◌&&◌, ◌||◌, ◌++◌, ◌∷◌, [], ℕ, zero, suc, Bool, true, false, List, Option, Some, None, is_some, map, slice_get, refl, sym, ap, ◌∙◌, arith}
use Rattle.std.proofs.lemmas.List.{map-append}
use Rattle.asp_model.specs.Names.{Name, same_name}
use Rattle.asp_model.specs.Step.{name_at}
use Rattle.def_journals.specs.Journals.{RunShape, grant_of, out_but}
use Rattle.law_steps.proofs.NameLemmas.{name_itself, names_apart, names_tied}
use Rattle.law_chases.proofs.FutureLemmas.{no_some, none_true, some_is}
use Rattle.law_journals.proofs.LeaseLemmas.{grant_but}
use Rattle.law_journals.proofs.NameListLemmas.{number_stays}
use Rattle.core_state.proofs.PopulateLemmas.{grant_gone}
use Rattle.future_update.specs.Holders.{IsTurned, is_met, is_named, is_number, is_out}
use Rattle.asp_core.specs.Runs.{AreToldOut, as_met}

abbrev pub Activities : Type 0
Activities = List (Name × Bool)

abbrev pub names_met : Activities → List Name
names_met = map (λ x. x.0)

number_itself : (k : ℕ) → (k == k) ≡ true
number_itself k = grind arith

-- the name of a place
got_name : (acts : Activities) (k : ℕ) (n : Name) → is_named n (slice_get acts k) ≡ elim (name_at (names_met acts) k) [ None ↦ false | Some m ↦ same_name n m ]
got_name [] k n = refl
got_name (x ∷ xs) zero n = refl
got_name (x ∷ xs) (suc k) n = got_name xs k n

-- no name has two numbers
abbrev pub AreApartIn : List Name → Type 0
AreApartIn ns = (i k : ℕ) (n : Name) → name_at ns i ≡ Some n → name_at ns k ≡ Some n → i ≡ k

number_by : (ns : List Name) → AreApartIn ns → (k j : ℕ) (n : Name) → name_at ns j ≡ Some n
    → (o : Option Name) → name_at ns k ≡ o → elim o [ None ↦ false | Some m ↦ same_name n m ] ≡ (j == k)
number_by ns apart k j n here None none = sym (not_same j k (λ same. no_some (sym none ∙ ap (name_at ns) (sym same) ∙ here)))
  where
    not_same : (j k : ℕ) → j ≢ k → (j == k) ≡ false
    not_same j k apart = grind (arith, apart)
number_by ns apart k j n here (Some m) there = by (j == k) refl
  where
    by : (b : Bool) → (j == k) ≡ b → same_name n m ≡ b
    by true is = ap (same_name n) (some_is (sym there ∙ ap (name_at ns) (sym (same_number j k is)) ∙ here)) ∙ name_itself n
      where
        same_number : (j k : ℕ) → (j == k) ≡ true → j ≡ k
        same_number j k is = grind (arith, is)
    by false is = names_apart n m (λ same. apart_number j k is (apart j k n here (there ∙ ap Some (sym same))))
      where
        apart_number : (j k : ℕ) → (j == k) ≡ false → j ≢ k
        apart_number j k is same = grind (arith, is, same)

-- the number of a name
number_told : (ns : List Name) (acts : Activities) → AreApartIn ns → names_met acts ≡ ns → (k j : ℕ) (n : Name) → name_at ns j ≡ Some n
    → is_number n k acts ≡ (j == k)
number_told ns acts apart names k j n here =
    got_name acts k n ∙ ap (λ ms. elim (name_at ms k) [ None ↦ false | Some m ↦ same_name n m ]) names
    ∙ number_by ns apart k j n here (name_at ns k) refl

-- one goes out
pub lent_told : (s : RunShape) (old new : Activities) (k grant left : ℕ) → AreApartIn s.names → names_met old ≡ s.names → AreToldOut s old → IsTurned k true old new
    → AreToldOut (record s { left = left; out = (k, grant) ∷ s.out }) new
lent_told s old new k grant left apart names told turned j n here =
    turned.told n ∙ ap (λ b. elim b [ true ↦ true | false ↦ is_out n old ]) (number_told s.names old apart names k j n here) ∙ by (j == k)
  where
    by : (b : Bool) → elim b [ true ↦ true | false ↦ is_out n old ] ≡ is_some (elim b [ true ↦ Some grant | false ↦ grant_of j s.out ])
    by true = refl
    by false = told j n here

-- one comes back
pub back_told : (s t : RunShape) (old new : Activities) (k : ℕ) → AreApartIn s.names → names_met old ≡ s.names → AreToldOut s old → IsTurned k false old new
    → t.names ≡ s.names → t.out ≡ out_but k s.out → AreToldOut t new
back_told s t old new k apart names told turned same out j n there =
    let here : name_at s.names j ≡ Some n = ap (λ ns. name_at ns j) (sym same) ∙ there in
    turned.told n ∙ ap (λ b. elim b [ true ↦ false | false ↦ is_out n old ]) (number_told s.names old apart names k j n here)
    ∙ by (j == k) refl (told j n here) ∙ ap (λ xs. is_some (grant_of j xs)) (sym out)
  where
    gone : (j k : ℕ) → (j == k) ≡ true → grant_of j (out_but k s.out) ≡ None
    gone j k is = ap (λ i. grant_of i (out_but k s.out)) (same_number j k is) ∙ grant_gone k s.out
      where
        same_number : (j k : ℕ) → (j == k) ≡ true → j ≡ k
        same_number j k is = grind (arith, is)

    by : (b : Bool) → (j == k) ≡ b → is_out n old ≡ is_some (grant_of j s.out) → elim b [ true ↦ false | false ↦ is_out n old ] ≡ is_some (grant_of j (out_but k s.out))
    by true is was = ap is_some (sym (gone j k is))
    by false is was = was ∙ ap is_some (sym (grant_but j k s.out is))

-- whoever is named has a number
out_number : (acts : Activities) (n : Name) → is_out n acts ≡ true → (j : ℕ) × (name_at (names_met acts) j ≡ Some n)
out_number [] n is = none_true is
out_number (x ∷ xs) n is = by (same_name n x.0) x.1 refl (out_number xs n) is
  where
    by : (b c : Bool) → same_name n x.0 ≡ b → (is_out n xs ≡ true → (j : ℕ) × (name_at (names_met xs) j ≡ Some n))
        → ((b && c) || is_out n xs) ≡ true → (j : ℕ) × (name_at (x.0 ∷ names_met xs) j ≡ Some n)
    by true c same more is = (0, ap Some (sym (names_tied n x.0 same)))
    by false c same more is = let rest = more is in (suc rest.0, rest.1)

met_number : (acts : Activities) (n : Name) → is_met n acts ≡ true → (j : ℕ) × (name_at (names_met acts) j ≡ Some n)
met_number [] n is = none_true is
met_number (x ∷ xs) n is = by (same_name n x.0) refl (met_number xs n) is
  where
    by : (b : Bool) → same_name n x.0 ≡ b → (is_met n xs ≡ true → (j : ℕ) × (name_at (names_met xs) j ≡ Some n))
        → (b || is_met n xs) ≡ true → (j : ℕ) × (name_at (x.0 ∷ names_met xs) j ≡ Some n)
    by true same more is = (0, ap Some (sym (names_tied n x.0 same)))
    by false same more is = let rest = more is in (suc rest.0, rest.1)

-- nobody has met who has no number
pub unmet : (acts : Activities) (n : Name) → ((j : ℕ) → name_at (names_met acts) j ≡ Some n → ⊥) → is_met n acts ≡ false
unmet acts n none = by (is_met n acts) refl
  where
    by : (b : Bool) → is_met n acts ≡ b → b ≡ false
    by true is = let found = met_number acts n is in absurd (none found.0 found.1)
    by false is = refl

names_as_met : (ns : List Name) → names_met (as_met ns) ≡ ns
names_as_met [] = refl
names_as_met (n ∷ ns) = ap (λ ms. n ∷ ms) (names_as_met ns)

pub names_more : (acts : Activities) (ns ms : List Name) → names_met acts ≡ ns → names_met (acts ++ as_met ms) ≡ ns ++ ms
names_more acts ns ms names = map-append (λ (x : Name × Bool). x.0) acts (as_met ms) ∙ ap (λ xs. xs ++ names_met (as_met ms)) names ∙ ap (λ xs. ns ++ xs) (names_as_met ms)

pub none_out : (ms : List Name) (n : Name) → is_out n (as_met ms) ≡ false
none_out [] n = refl
none_out (m ∷ ms) n = by (same_name n m) (none_out ms n)
  where
    by : (b : Bool) → is_out n (as_met ms) ≡ false → ((b && false) || is_out n (as_met ms)) ≡ false
    by true rest = rest
    by false rest = rest

out_more : (acts : Activities) (ms : List Name) (n : Name) → is_out n (acts ++ as_met ms) ≡ is_out n acts
out_more [] ms n = none_out ms n
out_more (x ∷ xs) ms n = ap (λ b. (same_name n x.0 && x.1) || b) (out_more xs ms n)

-- whom an effect makes is in
pub met_told : (s : RunShape) (old : Activities) (ms : List Name) → AreApartIn (s.names ++ ms) → names_met old ≡ s.names → AreToldOut s old
    → ((k : ℕ) → name_at s.names k ≡ None → grant_of k s.out ≡ None) → AreToldOut (record s { names = s.names ++ ms }) (old ++ as_met ms)
met_told s old ms apart names told named_out k n here = out_more old ms n ∙ by (name_at s.names k) refl
  where
    absent : name_at s.names k ≡ None → (b : Bool) → is_out n old ≡ b → b ≡ false
    absent none false is = refl
    absent none true is =
        let found = out_number old n is in
        let named : name_at s.names found.0 ≡ Some n = ap (λ ns. name_at ns found.0) (sym names) ∙ found.1 in
        let same : found.0 ≡ k = apart found.0 k n (number_stays s.names ms found.0 n named) here in
        no_some (sym none ∙ ap (name_at s.names) (sym same) ∙ named)

    by : (o : Option Name) → name_at s.names k ≡ o → is_out n old ≡ is_some (grant_of k s.out)
    by None none = absent none (is_out n old) refl ∙ ap is_some (sym (named_out k none))
    by (Some m) there = told k n (there ∙ sym (number_stays s.names ms k m there) ∙ here)
