-- Maps in the order of their keys, where one writes beside another.
use Rattle.std.specs.Prelude.{◌≡◌, ◌≢◌, ◌≤◌, true, T, List, [], ◌∷◌, ◌++◌, Option, Some, None, length, is_some}
use Rattle.std.proofs.Common.{refl, sym, ap, subst, ◌∙◌, arith, ⊎_elim}
use Rattle.std.proofs.lemmas.List.{append-nil}
use Rattle.std.specs.declared.cmp.Ordering.{Ordering}
use Rattle.std.specs.Cmp.{IsTotalOrder}
use Rattle.std.specs.FinMap.{IsAntisymmetric, find, put, is_sorted}
use Rattle.std.specs.FinMap.Entries.{is_sorted-put}
use Rattle.asp_model.specs.Names.{Name, FutureShape, name_cmp, future_cmp}
use Rattle.asp_model.specs.Parcel.{ParcelShape}
use Rattle.asp_model.specs.Configuration.{Activity, Configuration, or_none}
use Rattle.asp_model.specs.Intent.{Effect}
use Rattle.asp_model.specs.Step.{put_some, with_last, with_effect}
use Rattle.law_steps.proofs.NameLemmas.{name_total, name_same, name_case}
use Rattle.law_chases.proofs.FutureLemmas.{future_total, future_same}
use Rattle.law_chases.proofs.ChaseLemmas.{MoreFilled}
use Rattle.law_chases.proofs.MapLemmas as Maps

abbrev pub IsNew : {K X : Type 0} → (K → K → Ordering) → Option (K × X) → List (K × X) → Type 0
IsNew R None es = Unit {0}
IsNew R (Some e) es = find R e.0 es ≡ None

abbrev pub KeysApart : {K X : Type 0} → Option (K × X) → Option (K × X) → Type 0
KeysApart None o = Unit {0}
KeysApart (Some e) None = Unit {0}
KeysApart (Some e) (Some d) = e.0 ≢ d.0

pub record IsFresh (c : Configuration) (e : Effect) : Type 0 where
  pub made : IsNew name_cmp e.made c.activities
  pub filled : IsNew future_cmp e.filled c.futures

pub fills_extend : (o : Option (FutureShape × ParcelShape)) (vs : List (FutureShape × ParcelShape)) → IsNew future_cmp o vs → MoreFilled vs (put_some future_cmp o vs)
fills_extend None vs new f p e = e
fills_extend (Some x) vs new f p e = Maps.put_extends future_cmp future_total future_same x.0 x.1 vs new f p e

pub fills_longer : (o : Option (FutureShape × ParcelShape)) (vs : List (FutureShape × ParcelShape)) → T (is_sorted future_cmp vs) → length vs ≤ length (put_some future_cmp o vs)
fills_longer None vs h = omega arith
fills_longer (Some x) vs h = Maps.longer future_cmp future_total future_same x.0 x.1 vs h

made_apart : (n : Name) (o : Option (Name × Activity)) (es : List (Name × Activity)) → is_some (find name_cmp n es) ≡ true → IsNew name_cmp o es → (fs : List (Name × Activity)) → find name_cmp n (put_some name_cmp o fs) ≡ find name_cmp n fs
made_apart n None es is new fs = refl
made_apart n (Some x) es is new fs = Maps.find_other name_cmp name_total name_same n x.0 x.1 fs (λ e. subst T (sym is ∙ ap (λ k. is_some (find name_cmp k es)) e ∙ ap is_some new) tt)

pub own_kept : (c : Configuration) (n m : Name) (d : Effect) → n ≢ m → IsFresh c d → is_some (find name_cmp n c.activities) ≡ true → find name_cmp n (with_effect m d c).activities ≡ find name_cmp n c.activities
own_kept c n m d apart new is = made_apart n d.made c.activities is new.made (put name_cmp m d.own c.activities) ∙ Maps.find_other name_cmp name_total name_same n m d.own c.activities apart

-- the requests_of with what another activity may have sent
pub box_grows : {X : Type 0} (n : Name) (o : Option (Name × X)) (bs : List (Name × List X)) → (qs : List X) × (or_none (find name_cmp n (with_last o bs)) ≡ or_none (find name_cmp n bs) ++ qs)
box_grows n None bs = ([], sym (append-nil _))
box_grows {X} n (Some x) bs =
    let rs : List X = or_none (find name_cmp x.0 bs) ++ x.1 ∷ [] in
    ⊎_elim
    (λ e. (x.1 ∷ [], ap (λ k. or_none (find name_cmp k (put name_cmp x.0 rs bs))) e ∙ ap or_none (Maps.find_same name_cmp name_total name_same x.0 rs bs) ∙ ap (λ k. or_none (find name_cmp k bs) ++ x.1 ∷ []) (sym e)))
    (λ apart. ([], ap or_none (Maps.find_other name_cmp name_total name_same n x.0 rs bs apart) ∙ sym (append-nil _)))
    (name_case n x.0)

pub still_there : (o : Option (Name × Activity)) (es : List (Name × Activity)) (q : Name) → is_some (find name_cmp q es) ≡ true → is_some (find name_cmp q (put_some name_cmp o es)) ≡ true
still_there None es q is = is
still_there (Some x) es q is = Maps.stays_there name_cmp name_total name_same x.0 x.1 es q is

pub swap_some : {K X : Type 0} (R : K → K → Ordering) (t : IsTotalOrder R) (s : IsAntisymmetric R) (o p : Option (K × X)) (es : List (K × X)) → T (is_sorted R es) → KeysApart o p → put_some R o (put_some R p es) ≡ put_some R p (put_some R o es)
swap_some R t s None p es h a = refl
swap_some R t s (Some e) None es h a = refl
swap_some R t s (Some e) (Some d) es h a = Maps.put_put R t s e.0 d.0 e.1 d.1 es h a

pub sorted_some : {K X : Type 0} (R : K → K → Ordering) (t : IsTotalOrder R) (o : Option (K × X)) (es : List (K × X)) → T (is_sorted R es) → T (is_sorted R (put_some R o es))
sorted_some R t None es h = h
sorted_some R t (Some e) es h = is_sorted-put R t e.0 e.1 es h
