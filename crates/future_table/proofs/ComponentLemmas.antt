-- Components have heads, and one more future that is met stands alone.
use Rattle.std.proofs.Common.{◌≡◌, ◌+◌, ◌<◌, ◌≤◌, ℕ, zero, suc, Bool, true, false, cond, List, [], ◌∷◌, ◌++◌, Option, Some, None, length, length-append, refl, sym, ap, subst, ◌∙◌, T, arith, ⊎_elim}
use Rattle.std.proofs.lemmas.Bool.{cases_lt}
use Rattle.std.proofs.lemmas.List.{get_or_append_left, get_or_push}
use Rattle.std.specs.FinMap.{find}
use Rattle.asp_model.specs.Names.{FutureShape, future_cmp, future_lt, same_future}
use Rattle.asp_model.specs.Parcel.{ParcelShape}
use Rattle.asp_model.specs.Chase.{Values, Chase, chase, lead_of, walk_end}
use Rattle.asp_model.specs.Chase as chases
use Rattle.law_chases.proofs.FutureLemmas.{future_itself, futures_tied}
use Rattle.law_chases.proofs.ChaseLemmas.{walk_by, chase_by}
use Rattle.law_chases.proofs.CycleLemmas.{itself_at_most}
use Rattle.future_table.specs.declared.links.Link.{Link}
use Rattle.future_table.specs.declared.links.End.{End}
use Rattle.future_table.specs.declared.links.End.TheVariants as ends
use Rattle.future_table.specs.Values.{Told, Value, Unfilled, Cycle, told}
use Rattle.future_table.specs.Numbers.{named, number_of}
use Rattle.future_table.specs.Links.{IsHead, link_at, no_link}
use Rattle.future_table.specs.Components.{AreComponents, EndsWithin, IsHeadLink, alone, chase_at, end_told}
use Rattle.future_table.proofs.NumberLemmas.{named_before, named_last, number_more, number_named}

abbrev is_unfilled : Told → Option FutureShape
is_unfilled (Unfilled f) = Some f
is_unfilled t = None

none_some : {A C : Type 0} {x : A} → None ≡ Some x → C
none_some {A} e = absurd (subst (λ (o : Option A). T (elim o [ None ↦ true | Some y ↦ false ])) e tt)

some_is : {A : Type 0} {x y : A} → Some x ≡ Some y → x ≡ y
some_is {A} {x} {y} e = ap (λ o. elim o [ None ↦ x | Some z ↦ z ]) e

-- a future without a value ends its own walk
pub chase_absent : (values : Values) (g : FutureShape) → find future_cmp g values ≡ None → chase values g ≡ chases.Unfilled g
chase_absent values g e = ap (chase_by values g) (ap (λ l. walk_by l (walk_end (length values) values) g) (ap lead_of e))

module _ (values : Values) (names : List FutureShape) (links : List Link) (k : AreComponents values names links) where
  abbrev c : ℕ → Chase
  c = chase_at values names

  climbs : (fuel i : ℕ) → i < length links → length values < (link_at links i).height + fuel → (r : ℕ) × IsHead links r × (c r ≡ c i)
  climbs zero i lt over = absurd (omega (arith, over, k.low i lt))
  climbs (suc fuel) i lt over = by (link_at links i).up refl (climbs fuel)
    where
      by : (o : Option ℕ) → (link_at links i).up ≡ o → ((j : ℕ) → j < length links → length values < (link_at links j).height + fuel → (r : ℕ) × IsHead links r × (c r ≡ c j)) → (r : ℕ) × IsHead links r × (c r ≡ c i)
      by None e next = (i, (lt, e), refl)
      by (Some u) e next =
          let up = k.lead i u lt e in
          let x = next u up.0 (omega (arith, up.1, over)) in
          (x.0, x.1, x.2 ∙ sym (k.alike i u lt e))

  -- each future's component has a head
  pub head_at : (i : ℕ) → i < length names → (r : ℕ) × IsHead links r × (c r ≡ c i)
  head_at i lt = climbs (suc (length values)) i (omega (arith, lt, k.count)) (omega arith)

  -- who is awaited was met
  pub awaited_met : (i : ℕ) (g : FutureShape) → i < length names → c i ≡ chases.Unfilled g → number_of g names ≡ None → ⊥
  awaited_met i g lt e none =
      let x = head_at i lt in
      let h = k.heads x.0 x.1 in
      by (link_at links x.0).end h.within (sym (ap told (x.2 ∙ e)) ∙ h.ends)
    where
      by : (end : End) → EndsWithin (length names) end → Unfilled g ≡ end_told names (link_at links (head_at i lt).0).least end → ⊥
      by (ends.Value n) w d = none_some (sym (ap is_unfilled d))
      by (ends.Unfilled n) w d = number_named 0 names n w (ap (λ f. number_of f names) (sym (some_is (ap is_unfilled d))) ∙ none)
      by ends.Cycle w d = none_some (sym (ap is_unfilled d))

module _ (values : Values) (names : List FutureShape) (links : List Link) (k : AreComponents values names links) (g : FutureShape) (new : number_of g names ≡ None) where
  abbrev n : ℕ
  n = length names

  abbrev pub names' : List FutureShape
  names' = names ++ g ∷ []

  abbrev pub links' : List Link
  links' = links ++ alone n ∷ []

  old_link : (i : ℕ) → i < n → link_at links' i ≡ link_at links i
  old_link i lt = get_or_append_left links (alone n ∷ []) no_link i (omega (arith, lt, k.count))

  last_link : link_at links' n ≡ alone n
  last_link = get_or_push links (alone n) no_link n k.count

  more : length names' ≡ suc n
  more = let e : length names' ≡ n + 1 = length-append names (g ∷ []) in omega (arith, e)

  more_links : length links' ≡ suc n
  more_links = let e : length links' ≡ length links + 1 = length-append links (alone n ∷ []) in omega (arith, e, k.count)

  old_name : (i : ℕ) → i < n → named names' i ≡ named names i
  old_name i lt = named_before names (g ∷ []) i lt

  old_chase : (i : ℕ) → i < n → chase_at values names' i ≡ chase_at values names i
  old_chase i lt = ap (chase values) (old_name i lt)

  -- numbers stay
  pub number_stays : (f : FutureShape) (m : ℕ) → number_of f names ≡ Some m → number_of f names' ≡ Some m
  number_stays f m e = number_more 0 f g names new ∙ by (same_future f g) refl
    where
      by : (b : Bool) → same_future f g ≡ b → cond b (Some (0 + n)) (number_of f names) ≡ Some m
      by true d = none_some (sym new ∙ ap (λ x. number_of x names) (sym (futures_tied f g d)) ∙ e)
      by false d = e

  pub number_new : number_of g names' ≡ Some n
  number_new = number_more 0 g g names new ∙ (λ i. cond (future_itself g i) (Some (zero_more i)) (number_of g names))
    where
      zero_more : 0 + n ≡ n
      zero_more = omega arith

  absent : (f : FutureShape) → f ≡ g → find future_cmp f values ≡ None
  absent f e = by (find future_cmp f values) refl
    where
      by : (o : Option ParcelShape) → find future_cmp f values ≡ o → find future_cmp f values ≡ None
      by None d = d
      by (Some p) d = none_some (sym (ap (λ x. number_of x names) e ∙ new) ∙ (k.numbered f (ap (λ o. elim o [ None ↦ false | Some q ↦ true ]) d)).1)

  new_chase : chase_at values names' n ≡ chases.Unfilled g
  new_chase = ap (chase values) (named_last names g) ∙ chase_absent values g (absent g refl)

  -- no other walk ends there
  not_there : (i : ℕ) → i < n → chase_at values names i ≡ chases.Unfilled g → ⊥
  not_there i lt e = awaited_met values names links k i g lt e new

  last : (i : ℕ) → i < suc n → n ≤ i → i ≡ n
  last i lt ge = omega (arith, lt, ge)

  old_end : (least : ℕ) (e : End) → least < n → EndsWithin n e → end_told names' least e ≡ end_told names least e
  old_end least (ends.Value i) lt w = ap Value (old_name i w)
  old_end least (ends.Unfilled i) lt w = ap Unfilled (old_name i w)
  old_end least ends.Cycle lt w = ap Cycle (old_name least lt)

  wider : (e : End) → EndsWithin n e → EndsWithin (length names') e
  wider (ends.Value i) w = omega (arith, w, more)
  wider (ends.Unfilled i) w = omega (arith, w, more)
  wider ends.Cycle w = tt

  was_head : (i : ℕ) → i < n → IsHead links' i → IsHead links i
  was_head i lt h = (omega (arith, lt, k.count), ap (λ (x : Link). x.up) (sym (old_link i lt)) ∙ h.1)

  old_head : (i : ℕ) → i < n → IsHead links' i → IsHeadLink values names' i (link_at links' i)
  old_head i lt h =
      let x = k.heads i (was_head i lt h) in
      subst (IsHeadLink values names' i) (sym (old_link i lt)) (record {
        ends = ap told (old_chase i lt) ∙ x.ends ∙ sym (old_end (link_at links i).least (link_at links i).end x.known x.within);
        within = wider (link_at links i).end x.within;
        known = omega (arith, x.known, more);
        member = old_chase (link_at links i).least x.known ∙ x.member ∙ sym (old_chase i lt);
        least = λ j lt' same. ⊎_elim
            (λ less. subst (λ f. future_lt f (named names' (link_at links i).least) ≡ false) (sym (old_name j less)) (subst (λ f. future_lt (named names j) f ≡ false) (sym (old_name (link_at links i).least x.known)) (x.least j less (sym (old_chase j less) ∙ same ∙ old_chase i lt))))
            (λ ge. absurd (not_there i lt (sym (old_chase i lt) ∙ sym same ∙ ap (chase_at values names') (last j (omega (arith, lt', more)) ge) ∙ new_chase)))
            (cases_lt j n);
      })

  new_head : IsHeadLink values names' n (link_at links' n)
  new_head = subst (IsHeadLink values names' n) (sym last_link) (record {
    ends = ap told new_chase ∙ ap Unfilled (sym (named_last names g));
    within = omega (arith, more);
    known = omega (arith, more);
    member = refl;
    least = λ j lt same. ⊎_elim
        (λ less. absurd (not_there j less (sym (old_chase j less) ∙ same ∙ new_chase)))
        (λ ge. subst (λ m. future_lt (named names' m) (named names' n) ≡ false) (sym (last j (omega (arith, lt, more)) ge)) (itself_at_most (named names' n)))
        (cases_lt j n);
  })

  -- the links with one more future
  pub met : AreComponents values names' links'
  met = record {
    count = more_links ∙ sym more;
    numbered = λ f filled. let x = k.numbered f filled in (x.0, number_stays f x.0 x.1);
    lead = λ i u lt e. ⊎_elim
        (λ less. old_lead i u less (ap (λ (x : Link). x.up) (sym (old_link i less)) ∙ e))
        (λ ge. no_up i u (last i (omega (arith, lt, more_links)) ge) e)
        (cases_lt i n);
    low = λ i lt. ⊎_elim
        (λ less. subst (λ (x : Link). x.height ≤ length values) (sym (old_link i less)) (k.low i (omega (arith, less, k.count))))
        (λ ge. subst (λ (x : Link). x.height ≤ length values) (sym (ap (link_at links') (last i (omega (arith, lt, more_links)) ge) ∙ last_link)) (omega arith))
        (cases_lt i n);
    alike = λ i u lt e. ⊎_elim
        (λ less.
        let was : (link_at links i).up ≡ Some u = ap (λ (x : Link). x.up) (sym (old_link i less)) ∙ e in
        let up = k.lead i u (omega (arith, less, k.count)) was in
        old_chase i less ∙ k.alike i u (omega (arith, less, k.count)) was ∙ sym (old_chase u (omega (arith, up.0, k.count))))
        (λ ge. no_up i u (last i (omega (arith, lt, more_links)) ge) e)
        (cases_lt i n);
    heads = λ i h. ⊎_elim
        (λ less. old_head i less h)
        (λ ge. subst (λ m. IsHeadLink values names' m (link_at links' m)) (sym (last i (omega (arith, h.0, more_links)) ge)) new_head)
        (cases_lt i n);
    apart = λ i j h h' same. ⊎_elim
        (λ less. ⊎_elim
        (λ less'. k.apart i j (was_head i less h) (was_head j less' h') (sym (old_chase i less) ∙ same ∙ old_chase j less'))
        (λ ge. absurd (not_there i less (sym (old_chase i less) ∙ same ∙ ap (chase_at values names') (last j (omega (arith, h'.0, more_links)) ge) ∙ new_chase)))
        (cases_lt j n))
        (λ ge. ⊎_elim
        (λ less'. absurd (not_there j less' (sym (old_chase j less') ∙ sym same ∙ ap (chase_at values names') (last i (omega (arith, h.0, more_links)) ge) ∙ new_chase)))
        (λ ge'. last i (omega (arith, h.0, more_links)) ge ∙ sym (last j (omega (arith, h'.0, more_links)) ge'))
        (cases_lt j n))
        (cases_lt i n);
  }
    where
      old_lead : (i u : ℕ) → i < n → (link_at links i).up ≡ Some u → (u < length links') × ((link_at links' i).height < (link_at links' u).height)
      old_lead i u less was =
          let up = k.lead i u (omega (arith, less, k.count)) was in
          (omega (arith, up.0, more_links, k.count), subst (λ (x : Link). x.height < (link_at links' u).height) (sym (old_link i less)) (subst (λ (x : Link). (link_at links i).height < x.height) (sym (old_link u (omega (arith, up.0, k.count)))) up.1))

      no_up : {C : Type 0} (i u : ℕ) → i ≡ n → (link_at links' i).up ≡ Some u → C
      no_up i u e d = none_some (ap (λ (x : Link). x.up) (sym last_link) ∙ ap (λ m. (link_at links' m).up) (sym e) ∙ d)
