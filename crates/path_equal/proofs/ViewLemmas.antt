-- The states at the end of a run by their names.
use Rattle.std.proofs.Common.{◌≡◌, ℕ, zero, suc, ◌<◌, ◌≤◌, Bool, true, false, nat_lt, List, [], ◌∷◌, map, length, get_or, Option, Some, None, inl, inr, ◌⊎◌, ⊎_elim, refl, sym, ap, subst, ◌∙◌, arith, rules}
use Rattle.std.specs.Prelude.{slice_get}
use Rattle.std.specs.FinMap.{is_sorted}
use Rattle.std.specs.FinMap.Entries.{below_all}
use Rattle.std.specs.List.{HoldsAt}
use Rattle.std.specs.List.Sorted.{IsNonDecreasingBy, IsPartitionPoint}
use Rattle.std.specs.Cmp.{tied_itself}
use Rattle.std.specs.Ordering.{is_lt, ordering_index}
use Rattle.std.specs.declared.cmp.Ordering.{Ordering}
use Rattle.std.specs.declared.cmp.Ordering.TheVariants.{Less, Equal, Greater}
use Rattle.std.proofs.lemmas.Bool.{and_parts}
use Rattle.std.proofs.lemmas.Option.{get_or_from_slice_get, slice_get_within, slice_get-get_or}
use Rattle.asp_model.specs.declared.outcome.ActivityReport.{ActivityReport}
use Rattle.asp_model.specs.Names.{Name, name_cmp}
use Rattle.asp_model.specs.Order.{name_cmp_same}
use Rattle.asp_model.specs.Outcome.{ActivityReportShape}
use Rattle.asp_model.specs.Shapes.{activity_shape}
use Rattle.law_steps.proofs.NameLemmas.{name_total}
use Rattle.def_paths.specs.Outcomes.{EndShape}
use Rattle.std.specs.Prelude.{IfSome, IfNone}
use Rattle.def_paths.specs.Outcomes.{WholeOutcome}
use Rattle.state_lines.specs.declared.state.State.{State}
use Rattle.state_lines.specs.Views.{IsSeen}
use Rattle.state_lines.proofs.ViewLemmas.{first_is, no_first, none_some, rest_is, some_is}
use Rattle.path_equal.specs.Views.{AreAscending, IsNamed, IsNamedAt, IsNowhere, NamesAscend, NoneNamed}

-- Names

below_at : (n : Name) (rs : List ActivityReport) (j : ℕ) (d : ActivityReport) → below_all name_cmp n (map (λ r. (r.name, r.count)) (map activity_shape rs)) ≡ true → j < length rs → is_lt (name_cmp n (get_or rs j d).name) ≡ true
below_at n [] j d h lt = absurd (omega (arith, lt))
below_at n (r ∷ rs) zero d h lt = (and_parts (is_lt (name_cmp n r.name)) (below_all name_cmp n (map (λ x. (x.name, x.count)) (map activity_shape rs))) h).0
below_at n (r ∷ rs) (suc j) d h lt =
    let less : j < length rs = omega (arith, lt) in
    below_at n rs j d (and_parts (is_lt (name_cmp n r.name)) (below_all name_cmp n (map (λ x. (x.name, x.count)) (map activity_shape rs))) h).1 less

lt_is : (r : Ordering) → is_lt r ≡ true → r ≡ Less
lt_is Less h = refl
lt_is Equal h = absurd cc
lt_is Greater h = absurd cc

-- a later name is greater
rising : (rs : List ActivityReport) (i j : ℕ) (d : ActivityReport) → NamesAscend rs → i < j → j < length rs → name_cmp (get_or rs i d).name (get_or rs j d).name ≡ Less
rising [] i j d h lt within = absurd (omega (arith, within))
rising (r ∷ rs) i zero d h lt within = absurd (omega (arith, lt))
rising (r ∷ rs) zero (suc j) d h lt within =
    let less : j < length rs = omega (arith, within) in
    let all = map (λ (x : ActivityReportShape). (x.name, x.count)) (map activity_shape rs) in
    lt_is (name_cmp r.name (get_or rs j d).name) (below_at r.name rs j d (and_parts (below_all name_cmp r.name all) (is_sorted name_cmp all) h).0 less)
rising (r ∷ rs) (suc i) (suc j) d h lt within =
    let less : j < length rs = omega (arith, within) in
    let before : i < j = omega (arith, lt) in
    let all = map (λ (x : ActivityReportShape). (x.name, x.count)) (map activity_shape rs) in
    rising rs i j d (and_parts (below_all name_cmp r.name all) (is_sorted name_cmp all) h).1 before less

-- so comparing with one name does not fall
kept : (a b q : Name) → name_cmp a b ≡ Less → ordering_index (name_cmp a q) ≤ ordering_index (name_cmp b q)
kept a b q less = by (name_cmp b q) refl
  where
    most : (r : Ordering) → ordering_index r ≤ 2
    most Less = omega arith
    most Equal = omega arith
    most Greater = omega arith

    by : (r : Ordering) → name_cmp b q ≡ r → ordering_index (name_cmp a q) ≤ ordering_index (name_cmp b q)
    by Less e = subst (λ (r : Ordering). ordering_index r ≤ ordering_index (name_cmp b q)) (sym (name_total.trans a b q less e)) (omega arith)
    by Equal e =
        let same : b ≡ q = name_cmp_same b q e in
        let first : name_cmp a q ≡ Less = ap (name_cmp a) (sym same) ∙ less in
        subst (λ (r : Ordering). ordering_index r ≤ ordering_index (name_cmp b q)) (sym first) (omega arith)
    by Greater e = subst (λ (r : Ordering). ordering_index (name_cmp a q) ≤ ordering_index r) (sym e) (most (name_cmp a q))

never_falls : (rs : List ActivityReport) (q : Name) → NamesAscend rs → IsNonDecreasingBy (λ r. ordering_index (name_cmp r.name q)) rs
never_falls rs q h i j d le within = ⊎_elim
    (λ lt. kept (get_or rs i d).name (get_or rs j d).name q (rising rs i j d h lt within))
    (λ e. subst (λ (k : ℕ). ordering_index (name_cmp (get_or rs i d).name q) ≤ ordering_index (name_cmp (get_or rs k d).name q)) e (omega arith))
    (either i j le)
  where
    either : (i j : ℕ) → i ≤ j → (i < j) ⊎ (i ≡ j)
    either i j le = elim (nat_lt i j) as (λ b. nat_lt i j ≡ b → (i < j) ⊎ (i ≡ j)) [ true ↦ λ e. inl (search rules) | false ↦ λ e. inr (search rules) ] refl

-- what a search by name finds
pub found_at : (rs : List ActivityReport) (q : Name) (n : ℕ) → n < length rs → HoldsAt (λ r. name_cmp r.name q ≡ Equal) rs n → IsNamedAt rs q n
found_at [] q n lt h = absurd (omega (arith, lt))
found_at (r ∷ rs) q n lt h =
    let there = slice_get-get_or (r ∷ rs) n r lt in
    record { report = get_or (r ∷ rs) n r; there = there; named = name_cmp_same (get_or (r ∷ rs) n r).name q (h r) }

pub nowhere : (rs : List ActivityReport) (q : Name) (i : ℕ) → NamesAscend rs → (IsNonDecreasingBy (λ r. ordering_index (name_cmp r.name q)) rs → IsPartitionPoint (λ r. name_cmp r.name q ≡ Less) (λ r. name_cmp r.name q ≡ Greater) rs i) → IsNowhere rs q
nowhere rs q i h parts n r at is =
    let lt : n < length rs = slice_get_within rs n r at in
    let here : get_or rs n r ≡ r = get_or_from_slice_get rs n r r at in
    let p = parts (never_falls rs q h) in
    let equal : name_cmp (get_or rs n r).name q ≡ Equal = ap (λ (x : ActivityReport). name_cmp x.name q) here ∙ ap (λ (m : Name). name_cmp m q) is ∙ tied q in
    either_side (nat_lt n i) refl lt equal p
  where
    tied : (q : Name) → name_cmp q q ≡ Equal
    tied q = tied_itself name_total q

    either_side : (b : Bool) → nat_lt n i ≡ b → n < length rs → name_cmp (get_or rs n r).name q ≡ Equal → IsPartitionPoint (λ x. name_cmp x.name q ≡ Less) (λ x. name_cmp x.name q ≡ Greater) rs i → ⊥
    either_side true e lt equal p = let less : Less ≡ Equal = sym (p.0 n r (omega arith) (search rules)) ∙ equal in cc
    either_side false e lt equal p = let greater : Greater ≡ Equal = sym (p.1 n r (search rules) lt) ∙ equal in cc

-- From a report to its end and back

pub record IsReportOf (rs : List ActivityReport) (n : ℕ) (e : EndShape) : Type 0 where
  pub report : ActivityReport
  pub there : slice_get rs n ≡ Some report
  pub same : activity_shape report ≡ e.report

pub report_of : (rs : List ActivityReport) (es : List EndShape) (n : ℕ) (e : EndShape) → map activity_shape rs ≡ map (λ e. e.report) es → slice_get es n ≡ Some e → IsReportOf rs n e
report_of [] [] n e same at = none_some at
report_of [] (d ∷ es) n e same at = no_first same
report_of (r ∷ rs) [] n e same at = none_some at
report_of (r ∷ rs) (d ∷ es) zero e same at =
    let first : d ≡ e = some_is at in
    let report : activity_shape r ≡ d.report = first_is same in
    record { report = r; there = refl; same = report ∙ ap (λ (x : EndShape). x.report) first }
report_of (r ∷ rs) (d ∷ es) (suc n) e same at =
    let tails : map activity_shape rs ≡ map (λ (f : EndShape). f.report) es = rest_is same in
    let rest = report_of rs es n e tails at in
    record { report = rest.report; there = rest.there; same = rest.same }

pub named_end : (rs : List ActivityReport) (es : List EndShape) (q : Name) (n : ℕ) (e : EndShape) → map activity_shape rs ≡ map (λ e. e.report) es → IsNamedAt rs q n → slice_get es n ≡ Some e → e.report.name ≡ q
named_end rs es q n e same named at =
    let back = report_of rs es n e same at in
    let report : back.report ≡ named.report = some_is (sym back.there ∙ named.there) in
    sym (ap (λ (r : ActivityReportShape). r.name) back.same) ∙ ap (λ (r : ActivityReport). r.name) report ∙ named.named

pub named_view : (rs : List ActivityReport) (o : WholeOutcome) (q : Name) (n : ℕ) (r : Option State) → map activity_shape rs ≡ map (λ e. e.report) o.ends → IsNamedAt rs q n → IsSeen o (slice_get o.ends n) r → IfSome r (IsNamed o q)
named_view rs o q n None same named seen = tt
named_view rs o q n (Some s) same named seen = by (slice_get o.ends n) refl seen
  where
    by : (x : Option EndShape) → slice_get o.ends n ≡ x → IsSeen o x (Some s) → IsNamed o q s
    by None e h = absurd h
    by (Some e) at h = record { number = n; end = e; there = at; named = named_end rs o.ends q n e same named at; seen = h }

-- who has the name is seen
pub view_there : (rs : List ActivityReport) (o : WholeOutcome) (q : Name) (n : ℕ) (r : Option State) → map activity_shape rs ≡ map (λ e. e.report) o.ends → IsNamedAt rs q n → IsSeen o (slice_get o.ends n) r → IfNone r (NoneNamed o q)
view_there rs o q n (Some s) same named seen = tt
view_there rs o q n None same named seen = by (slice_get o.ends n) refl seen
  where
    none_at : (rs : List ActivityReport) (es : List EndShape) (n : ℕ) → map activity_shape rs ≡ map (λ (e : EndShape). e.report) es → slice_get es n ≡ None → slice_get rs n ≡ None
    none_at [] es n same at = refl
    none_at (b ∷ bs) [] n same at = no_first (sym same)
    none_at (b ∷ bs) (e ∷ es) zero same at = none_some (sym at)
    none_at (b ∷ bs) (e ∷ es) (suc n) same at =
        let tails : map activity_shape bs ≡ map (λ (f : EndShape). f.report) es = rest_is same in
        none_at bs es n tails at

    by : (x : Option EndShape) → slice_get o.ends n ≡ x → IsSeen o x None → NoneNamed o q
    by None e h = none_some (sym (none_at rs o.ends n same e) ∙ named.there)
    by (Some e) at h = absurd h

pub none_named : (rs : List ActivityReport) (o : WholeOutcome) (q : Name) → map activity_shape rs ≡ map (λ e. e.report) o.ends → IsNowhere rs q → NoneNamed o q
none_named rs o q same nowhere n e at named =
    let back = report_of rs o.ends n e same at in
    nowhere n back.report back.there (ap (λ (r : ActivityReportShape). r.name) back.same ∙ named)

pub ascending : (rs : List ActivityReport) (o : WholeOutcome) → map activity_shape rs ≡ map (λ e. e.report) o.ends → AreAscending o → NamesAscend rs
ascending rs o same up = ap (λ (xs : List ActivityReportShape). is_sorted name_cmp (map (λ r. (r.name, r.count)) xs)) same ∙ up

pub if_none : {T : Type 0} (r : Option T) (P : Type 0) → P → IfNone r P
if_none None P p = p
if_none (Some x) P p = tt
