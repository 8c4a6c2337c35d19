-- What is kept of a list of faults is its first.
use Rattle.std.proofs.Common.{◌≡◌, ℕ, zero, suc, ◌<◌, true, false, List, [], ◌∷◌, Some, None, refl, ap, sym, ◌∙◌, subst, get_or, length, arith, ◌⊎◌, inl, inr, ⊎_elim}
use Rattle.std.specs.Prelude.{Contains, is_some}
use Rattle.std.specs.declared.cmp.Ordering.{Ordering}
use Rattle.std.specs.declared.cmp.Ordering.TheVariants.{Less, Equal, Greater}
use Rattle.std.specs.Ordering.{nat_cmp, then_cmp, on, is_lt, is_gt, ordering_reverse}
use Rattle.std.specs.Cmp.{IsTotalOrder}
use Rattle.std.proofs.lemmas.Cmp.{then_total, on_total, nat_cmp_total, upto, tied_itself}
use Rattle.asp_model.specs.Marked.{Marked}
use Rattle.asp_check.specs.declared.fault.CheckFault.{CheckFault}
use Rattle.asp_check.specs.Faults.{kind_number, is_before, faults_of, IsFirstFault}
use Rattle.asp_check.specs.Least.{least_of}

abbrev fault_cmp : CheckFault → CheckFault → Ordering
fault_cmp = then_cmp (on (λ f. f.at) nat_cmp) (on (λ f. kind_number f.kind) nat_cmp)

fault_total : IsTotalOrder fault_cmp
fault_total = then_total (on_total (λ f. f.at) nat_cmp_total) (on_total (λ f. kind_number f.kind) nat_cmp_total)

reversed : (o : Ordering) → is_gt (ordering_reverse o) ≡ is_lt o
reversed Less = refl
reversed Equal = refl
reversed Greater = refl

not_both : (o : Ordering) → is_lt o ≡ true → is_gt o ≡ false
not_both Less e = refl
not_both Equal e = refl
not_both Greater e = sym e

swapped : (f g : CheckFault) → is_gt (fault_cmp f g) ≡ is_before g f
swapped f g = ap is_gt (fault_total.antisymm f g) ∙ reversed (fault_cmp g f)

none_under : (f g x : CheckFault) → is_before x g ≡ false → is_before g f ≡ false → is_before x f ≡ false
none_under f g x a b = sym (swapped f x) ∙ upto fault_total f g x (swapped f g ∙ b) (swapped g x ∙ a)

none_above : (f g x : CheckFault) → is_before x g ≡ true → is_before x f ≡ false → is_before g f ≡ false
none_above f g x a b = sym (swapped f g) ∙ upto fault_total f x g (swapped f x ∙ b) (not_both (fault_cmp x g) a)

none_itself : (f : CheckFault) → is_before f f ≡ false
none_itself f = ap is_lt (tied_itself fault_total f)

abbrev Within : CheckFault → List CheckFault → Type 0
Within f [] = ⊥
Within f (x ∷ xs) = (x ≡ f) ⊎ Within f xs

abbrev NoneBefore : CheckFault → List CheckFault → Type 0
NoneBefore f [] = Unit {0}
NoneBefore f (x ∷ xs) = (is_before x f ≡ false) × NoneBefore f xs

abbrev Least : CheckFault → List CheckFault → Type 0
Least f fs = Within f fs × NoneBefore f fs

keeps : (g : CheckFault) (fs : List CheckFault) → is_some (least_of (Some g) fs) ≡ true
keeps g [] = refl
keeps g (x ∷ fs) = elim (is_before x g) as (λ b. is_some (least_of (elim b [ true ↦ Some x | false ↦ Some g ]) fs) ≡ true) [ true ↦ keeps x fs | false ↦ keeps g fs ]

some_is : (g f : CheckFault) → Some g ≡ Some f → g ≡ f
some_is g f e = cc

least_is : (g : CheckFault) (fs : List CheckFault) (f : CheckFault) → least_of (Some g) fs ≡ Some f → Least f (g ∷ fs)
least_is g [] f e = (inl (some_is g f e), (subst (λ h. is_before g h ≡ false) (some_is g f e) (none_itself g), tt))
least_is g (x ∷ fs) f e = elim (is_before x g) as (λ b. is_before x g ≡ b → least_of (elim b [ true ↦ Some x | false ↦ Some g ]) fs ≡ Some f → Least f (g ∷ x ∷ fs)) [
  | true ↦ λ d h. let r = least_is x fs f h in (inr r.0, (none_above f g x d r.1.0, r.1))
  | false ↦ λ d h. let r = least_is g fs f h in (⊎_elim (λ s. inl s) (λ s. inr (inr s)) r.0, (r.1.0, (none_under f g x d r.1.0, r.1.1)))
] refl e

within : (f : CheckFault) (fs : List CheckFault) → Within f fs → Contains fs f
within f [] w = absurd w
within f (x ∷ fs) (inl e) = (0, omega arith, e)
within f (x ∷ fs) (inr w) = let c = within f fs w in (suc c.0, omega (arith, c.1), c.2)

before_at : (f : CheckFault) (fs : List CheckFault) (k : ℕ) (d : CheckFault) → NoneBefore f fs → k < length fs → is_before (get_or fs k d) f ≡ false
before_at f [] k d n h = absurd (omega arith)
before_at f (x ∷ fs) zero d n h = n.0
before_at f (x ∷ fs) (suc k) d n h = before_at f fs k d n.1 (omega arith)

-- where none is kept, there is none
pub least_none : (fs : List CheckFault) → least_of None fs ≡ None → fs ≡ []
least_none [] e = refl
least_none (x ∷ fs) e = let d : true ≡ false = sym (keeps x fs) ∙ ap is_some e in cc

least_first : (fs : List CheckFault) (f : CheckFault) → least_of None fs ≡ Some f → Least f fs
least_first [] f e = let d : false ≡ true = ap is_some e in cc
least_first (x ∷ fs) f e = least_is x fs f e

-- what is kept is the first
pub least_some : (t : Marked) (f : CheckFault) → least_of None (faults_of t) ≡ Some f → IsFirstFault t f
least_some t f e =
    let l = least_first (faults_of t) f e in
    record {
      stands = within f (faults_of t) l.0;
      first = λ g c. subst (λ h. is_before h f ≡ false) c.2 (before_at f (faults_of t) c.0 g l.1 c.1);
    }
