-- Strict operands, one after the other.
use Rattle.std.proofs.Common.{◌≡◌, ℕ, List, [], ◌∷◌, refl, sym, ap, ◌∙◌}
use Rattle.asp_model.specs.Names.{FutureShape}
use Rattle.asp_model.specs.Store.{Store, cell}
use Rattle.asp_model.specs.Split as split
use Rattle.asp_model.specs.Term.{WaitAll}
use Rattle.asp_model.specs.Contraction.{members_of, strict_operands, strict_members}
use Rattle.asp_model.specs.Chase.{Chase}
use Rattle.asp_model.specs.Intent.{Ready, Reads, Lacks, operand_ready, operands_ready, redex_ready}
use Rattle.step_rows.specs.declared.redex.Redex.{Redex}
use Rattle.step_rows.specs.declared.redex.Redex.TheVariants as redex
use Rattle.step_rows.specs.Decisions.{value_redex}
use Rattle.step_rows.specs.Redexes.{IsRedex}
use Rattle.step_reads.specs.declared.strict.Strict.TheVariants as strict
use Rattle.step_reads.specs.Strict.{members_ready, strict_in, strict_places, strict_ready}

-- it does not wait for the members of a group
abbrev pub IsPlain : Redex → Type 0
IsPlain (redex.WaitAll i) = ⊥
IsPlain x = Unit {0}

pub no_members : (t : Store) (x : Redex) (r : split.Redex) → IsPlain x → IsRedex r x → strict_members t r.head r.places ≡ []
no_members t redex.Goes r p e = e.members t
no_members t (redex.Get i l) r p e = ap (λ (q : split.Redex). strict_members t q.head q.places) e
no_members t (redex.Put i l k) r p e = ap (λ (q : split.Redex). strict_members t q.head q.places) e
no_members t (redex.Call i l ks) r p e = ap (λ (q : split.Redex). strict_members t q.head q.places) e
no_members t (redex.Clone i) r p e = ap (λ (q : split.Redex). strict_members t q.head q.places) e
no_members t (redex.Active i l) r p e = ap (λ (q : split.Redex). strict_members t q.head q.places) e
no_members t (redex.Serve ls) r p e = ap (λ (q : split.Redex). strict_members t q.head q.places) e
no_members t (redex.Pending ls) r p e = ap (λ (q : split.Redex). strict_members t q.head q.places) e
no_members t (redex.If i) r p e = ap (λ (q : split.Redex). strict_members t q.head q.places) e.2
no_members t (redex.Operate sign i k) r p e = ap (λ (q : split.Redex). strict_members t q.head q.places) e
no_members t (redex.Print i) r p e = ap (λ (q : split.Redex). strict_members t q.head q.places) e
no_members t (redex.Scatter i l k) r p e = ap (λ (q : split.Redex). strict_members t q.head q.places) e
no_members t (redex.Size i) r p e = ap (λ (q : split.Redex). strict_members t q.head q.places) e
no_members t (redex.Member i k) r p e = ap (λ (q : split.Redex). strict_members t q.head q.places) e
no_members t (redex.WaitAll i) r p e = absurd p

abbrev pub then_operands : (FutureShape → Chase) → List ℕ → Ready → Ready
then_operands chases ns (Reads t) = operands_ready chases t ns
then_operands chases ns (Lacks f) = Lacks f

first_ready : (chases : FutureShape → Chase) (ns : List ℕ) (x y : Ready) → x ≡ y → elim x [ Reads t ↦ operands_ready chases t ns | Lacks f ↦ Lacks f ] ≡ then_operands chases ns y
first_ready chases ns x (Reads t) e = ap (λ (v : Ready). elim v [ Reads t ↦ operands_ready chases t ns | Lacks f ↦ Lacks f ]) e
first_ready chases ns x (Lacks f) e = ap (λ (v : Ready). elim v [ Reads t ↦ operands_ready chases t ns | Lacks f ↦ Lacks f ]) e

pub more_ready : (chases : FutureShape → Chase) (s : Store) (i : ℕ) (ns : List ℕ) (y : Ready) → operand_ready chases s i (cell s i) ≡ y → operands_ready chases s (i ∷ ns) ≡ then_operands chases ns y
more_ready chases s i ns y e = first_ready chases ns (operand_ready chases s i (cell s i)) y e

then_members : (chases : FutureShape → Chase) (r : split.Redex) (x : Ready) → ((t : Store) → strict_members t r.head r.places ≡ []) → elim x [ Reads t ↦ operands_ready chases t (strict_members t r.head r.places) | Lacks f ↦ Lacks f ] ≡ x
then_members chases r (Reads t) none = ap (operands_ready chases t) (none t)
then_members chases r (Lacks f) none = refl

pub ready_by : (chases : FutureShape → Chase) (s : Store) (x : Redex) (r : split.Redex) → IsPlain x → IsRedex r x → redex_ready chases s r ≡ operands_ready chases s (strict_operands r.head r.places)
ready_by chases s x r p e = then_members chases r (operands_ready chases s (strict_operands r.head r.places)) (λ t. no_members t x r p e)

pub one_ready : (x : Ready) → elim x [ Reads t ↦ Reads t | Lacks f ↦ Lacks f ] ≡ x
one_ready (Reads t) = refl
one_ready (Lacks f) = refl

-- the strict operands of a redex are those of its kind
pub strict_is : (x : Redex) (r : split.Redex) → IsRedex r x → strict_places (strict_in x) ≡ strict_operands r.head r.places
strict_is redex.Goes r e = sym e.operands
strict_is (redex.If i) r e = sym (ap (λ (q : split.Redex). strict_operands q.head q.places) e.2)
strict_is (redex.Get i l) r e = sym (ap (λ (q : split.Redex). strict_operands q.head q.places) e)
strict_is (redex.Put i l k) r e = sym (ap (λ (q : split.Redex). strict_operands q.head q.places) e)
strict_is (redex.Call i l ks) r e = sym (ap (λ (q : split.Redex). strict_operands q.head q.places) e)
strict_is (redex.Clone i) r e = sym (ap (λ (q : split.Redex). strict_operands q.head q.places) e)
strict_is (redex.Active i l) r e = sym (ap (λ (q : split.Redex). strict_operands q.head q.places) e)
strict_is (redex.Serve ls) r e = sym (ap (λ (q : split.Redex). strict_operands q.head q.places) e)
strict_is (redex.Pending ls) r e = sym (ap (λ (q : split.Redex). strict_operands q.head q.places) e)
strict_is (redex.Operate sign i k) r e = sym (ap (λ (q : split.Redex). strict_operands q.head q.places) e)
strict_is (redex.Print i) r e = sym (ap (λ (q : split.Redex). strict_operands q.head q.places) e)
strict_is (redex.Scatter i l k) r e = sym (ap (λ (q : split.Redex). strict_operands q.head q.places) e)
strict_is (redex.Size i) r e = sym (ap (λ (q : split.Redex). strict_operands q.head q.places) e)
strict_is (redex.Member i k) r e = sym (ap (λ (q : split.Redex). strict_operands q.head q.places) e)
strict_is (redex.WaitAll i) r e = sym (ap (λ (q : split.Redex). strict_operands q.head q.places) e)

members_then : (chases : FutureShape → Chase) (i : ℕ) (x : Ready) → elim x [ Reads t ↦ operands_ready chases t (members_of (cell t i)) | Lacks f ↦ Lacks f ] ≡ members_ready chases i x
members_then chases i (Reads t) = refl
members_then chases i (Lacks f) = refl

wait_ready : (chases : FutureShape → Chase) (s : Store) (i : ℕ) → redex_ready chases s (value_redex WaitAll (i ∷ [])) ≡ strict_ready chases s (strict.Members i)
wait_ready chases s i =
    members_then chases i (operands_ready chases s (i ∷ [])) ∙ ap (members_ready chases i) (one_ready (operand_ready chases s i (cell s i)))

plain_ready : (chases : FutureShape → Chase) (s : Store) (x : Redex) → IsPlain x → strict_ready chases s (strict_in x) ≡ operands_ready chases s (strict_places (strict_in x))
plain_ready chases s (redex.WaitAll i) p = absurd p
plain_ready chases s x p = refl

ready_plain : (chases : FutureShape → Chase) (s : Store) (x : Redex) (r : split.Redex) → IsPlain x → IsRedex r x → redex_ready chases s r ≡ strict_ready chases s (strict_in x)
ready_plain chases s x r p e = ready_by chases s x r p e ∙ ap (operands_ready chases s) (sym (strict_is x r e)) ∙ sym (plain_ready chases s x p)

-- where a redex reads its operands
pub ready_in : (chases : FutureShape → Chase) (s : Store) (x : Redex) (r : split.Redex) → IsRedex r x → redex_ready chases s r ≡ strict_ready chases s (strict_in x)
ready_in chases s (redex.WaitAll i) r e = ap (redex_ready chases s) e ∙ wait_ready chases s i
ready_in chases s x r e = ready_plain chases s x r tt e
