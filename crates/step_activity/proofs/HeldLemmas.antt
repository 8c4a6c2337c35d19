-- The first operand that is a future, and how a redex reads its operands then.
use Rattle.std.proofs.Common.{◌≡◌, ◌∙◌, ◌++◌, ℕ, Bool, true, false, List, [], ◌∷◌, Option, Some, None, refl, sym, ap}
use Rattle.std.proofs.lemmas.List.{append-nil}
use Rattle.asp_model.specs.Names.{FutureShape}
use Rattle.asp_model.specs.Store as store
use Rattle.asp_model.specs.Store.{CellShape, Store, cell}
use Rattle.asp_model.specs.Split as split
use Rattle.asp_model.specs.Chase.{Chase}
use Rattle.asp_model.specs.Contraction.{first_future, is_future, strict_members, strict_operands}
use Rattle.asp_model.specs.Intent.{Ready, Reads, Lacks, fetched, operand_ready, operands_ready, redex_ready}
use Rattle.step_rows.specs.declared.redex.Redex.{Redex}
use Rattle.step_rows.specs.declared.redex.Redex.TheVariants as redex
use Rattle.step_rows.specs.Redexes.{IsRedex}
use Rattle.step_reads.specs.Strict.{strict_in, strict_places}
use Rattle.step_reads.proofs.ReadyLemmas.{IsPlain, more_ready, no_members, strict_is}
use Rattle.step_activity.specs.declared.held.Held.{Held}
use Rattle.step_activity.specs.Stances.{IsHeld, held_places}

abbrev or_later : Bool → ℕ → Option ℕ → Option ℕ
or_later b n o = elim b [ true ↦ Some n | false ↦ o ]

same_place : (n p : ℕ) → Some n ≡ Some p → n ≡ p
same_place n p e = cc

no_place : {A : Type 0} (p : ℕ) → None ≡ Some p → A
no_place p e = absurd cc

-- Places behind others

more_by : (b : Bool) (n p : ℕ) (o q : Option ℕ) → or_later b n o ≡ Some p → (o ≡ Some p → q ≡ Some p) → or_later b n q ≡ Some p
more_by true n p o q e h = e
more_by false n p o q e h = h e

-- what is found among the first places is found first
pub first_more : (s : Store) (ns ms : List ℕ) (p : ℕ) → first_future s ns ≡ Some p → first_future s (ns ++ ms) ≡ Some p
first_more s [] ms p e = no_place p e
first_more s (n ∷ ns) ms p e = more_by (is_future (cell s n)) n p (first_future s ns) (first_future s (ns ++ ms)) e (first_more s ns ms p)

behind_by : (b : Bool) (n : ℕ) (o q m : Option ℕ) → or_later b n o ≡ None → (o ≡ None → q ≡ m) → or_later b n q ≡ m
behind_by true n o q m e h = no_place n (sym e)
behind_by false n o q m e h = h e

-- where none is found there, the others are looked at
pub first_behind : (s : Store) (ns ms : List ℕ) → first_future s ns ≡ None → first_future s (ns ++ ms) ≡ first_future s ms
first_behind s [] ms e = refl
first_behind s (n ∷ ns) ms e = behind_by (is_future (cell s n)) n (first_future s ns) (first_future s (ns ++ ms)) (first_future s ms) e (first_behind s ns ms)

pub held_more : (s : Store) (ns ms : List ℕ) (x : Held) → IsHeld s ns (Some x) → IsHeld s (ns ++ ms) (Some x)
held_more s ns ms x h = (first_more s ns ms x.place h.0, h.1)

held_by : (s : Store) (ns ms : List ℕ) (o : Option Held) → first_future s ns ≡ first_future s ms → IsHeld s ms o → IsHeld s ns o
held_by s ns ms None e h = e ∙ h
held_by s ns ms (Some x) e h = (e ∙ h.0, h.1)

pub held_behind : (s : Store) (ns ms : List ℕ) (o : Option Held) → IsHeld s ns None → IsHeld s ms o → IsHeld s (ns ++ ms) o
held_behind s ns ms o none h = held_by s (ns ++ ms) ms o (first_behind s ns ms none) h

-- How operands are read

first_is_none : (b : Bool) (n : ℕ) (o : Option ℕ) → or_later b n o ≡ None → (b ≡ false) × (o ≡ None)
first_is_none true n o e = no_place n (sym e)
first_is_none false n o e = (refl, e)

abbrev then_members : (FutureShape → Chase) → split.Redex → Ready → Ready
then_members chases r x = elim x [ Reads t ↦ operands_ready chases t (strict_members t r.head r.places) | Lacks f ↦ Lacks f ]

module _ (chases : FutureShape → Chase) (s : Store) where
  reads_it : (n : ℕ) (c : CellShape) → is_future c ≡ false → operand_ready chases s n c ≡ Reads s
  reads_it n (store.Future f) e = absurd cc
  reads_it n c e = refl

  reads_all : (ns : List ℕ) → first_future s ns ≡ None → operands_ready chases s ns ≡ Reads s
  reads_all [] e = refl
  reads_all (n ∷ ns) e =
      let first = first_is_none (is_future (cell s n)) n (first_future s ns) e in
      more_ready chases s n ns (Reads s) (reads_it n (cell s n) first.0) ∙ reads_all ns first.1

  module _ (p : ℕ) (g f : FutureShape) (at : cell s p ≡ store.Future g) (lacks : fetched s p (chases g) ≡ Lacks f) where
    lacks_it : operand_ready chases s p (cell s p) ≡ Lacks f
    lacks_it = ap (operand_ready chases s p) at ∙ lacks

    lacks_by : (n : ℕ) (ns : List ℕ) (b : Bool) → is_future (cell s n) ≡ b → or_later b n (first_future s ns) ≡ Some p → (first_future s ns ≡ Some p → operands_ready chases s ns ≡ Lacks f) → operands_ready chases s (n ∷ ns) ≡ Lacks f
    lacks_by n ns true is e others =
        let here : n ≡ p = same_place n p e in
        more_ready chases s n ns (Lacks f) (ap (λ (k : ℕ). operand_ready chases s k (cell s k)) here ∙ lacks_it)
    lacks_by n ns false is e others = more_ready chases s n ns (Reads s) (reads_it n (cell s n) is) ∙ others e

    lacks_at : (ns : List ℕ) → first_future s ns ≡ Some p → operands_ready chases s ns ≡ Lacks f
    lacks_at [] e = no_place p e
    lacks_at (n ∷ ns) e = lacks_by n ns (is_future (cell s n)) refl e (lacks_at ns)

    lacks_among : (r : split.Redex) (o : Option ℕ) → first_future s (strict_operands r.head r.places) ≡ o → first_future s (strict_operands r.head r.places ++ strict_members s r.head r.places) ≡ Some p → redex_ready chases s r ≡ Lacks f
    lacks_among r None is e =
        let ns = strict_operands r.head r.places in
        let ms = strict_members s r.head r.places in
        ap (then_members chases r) (reads_all ns is) ∙ lacks_at ms (sym (first_behind s ns ms is) ∙ e)
    lacks_among r (Some q) is e =
        let ns = strict_operands r.head r.places in
        let ms = strict_members s r.head r.places in
        let same : q ≡ p = same_place q p (sym (first_more s ns ms q is) ∙ e) in
        ap (then_members chases r) (lacks_at ns (is ∙ ap (λ (k : ℕ). Some k) same))

    -- a redex awaits what its first operand that is a future lacks
    pub redex_lacks : (r : split.Redex) → first_future s (strict_operands r.head r.places ++ strict_members s r.head r.places) ≡ Some p → redex_ready chases s r ≡ Lacks f
    redex_lacks r e = lacks_among r (first_future s (strict_operands r.head r.places)) refl e

  reads_among : (r : split.Redex) (o : Option ℕ) → first_future s (strict_operands r.head r.places) ≡ o → first_future s (strict_operands r.head r.places ++ strict_members s r.head r.places) ≡ None → redex_ready chases s r ≡ Reads s
  reads_among r None is e =
      let ns = strict_operands r.head r.places in
      let ms = strict_members s r.head r.places in
      ap (then_members chases r) (reads_all ns is) ∙ reads_all ms (sym (first_behind s ns ms is) ∙ e)
  reads_among r (Some q) is e =
      let ns = strict_operands r.head r.places in
      let ms = strict_members s r.head r.places in
      no_place q (sym e ∙ first_more s ns ms q is)

  -- where no operand is a future, the redex is read as it stands
  pub redex_reads : (r : split.Redex) → first_future s (strict_operands r.head r.places ++ strict_members s r.head r.places) ≡ None → redex_ready chases s r ≡ Reads s
  redex_reads r e = reads_among r (first_future s (strict_operands r.head r.places)) refl e

-- The operands of a redex that is told

plain_are : (s : Store) (x : Redex) (r : split.Redex) → IsPlain x → IsRedex r x → strict_places (strict_in x) ≡ strict_operands r.head r.places ++ strict_members s r.head r.places
plain_are s x r p is =
    strict_is x r is ∙ sym (append-nil (strict_operands r.head r.places)) ∙ ap (λ (ms : List ℕ). strict_operands r.head r.places ++ ms) (sym (no_members s x r p is))

-- they stand at these places
pub held_are : (s : Store) (x : Redex) (r : split.Redex) → IsRedex r x → held_places s (strict_in x) ≡ strict_operands r.head r.places ++ strict_members s r.head r.places
held_are s (redex.WaitAll i) r is = ap (λ (q : split.Redex). strict_operands q.head q.places ++ strict_members s q.head q.places) (sym is)
held_are s (redex.Pending ls) r is = ap (λ (q : split.Redex). strict_operands q.head q.places ++ strict_members s q.head q.places) (sym is)
held_are s x r is = plain_are s x r tt is
