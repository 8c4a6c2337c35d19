-- How one side reads futures after one more is filled: as before, but for those that awaited it.
use Rattle.std.specs.Prelude.{◌≡◌, ◌≢◌, true, false, T, [], Some, None, is_some}
use Rattle.std.proofs.Common.{refl, sym, ap, subst, ◌∙◌, inl, inr, ⊎_elim, ◌⊎◌}
use Rattle.std.specs.FinMap.{find, put, is_sorted}
use Rattle.asp_model.specs.Names.{FutureShape, future_cmp, same_future}
use Rattle.asp_model.specs.Store.{Store, cell}
use Rattle.asp_model.specs.Parcel.{ParcelShape}
use Rattle.asp_model.specs.Chase.{Values, Goes, lead, Chase, Value, Unfilled, Cycle, cycle_of, chase}
use Rattle.law_chases.proofs.FutureLemmas.{no_some, true_false, future_case, future_itself, futures_apart}
use Rattle.law_chases.specs.Walks.{IsFilled}
use Rattle.law_chases.proofs.ChaseLemmas.{chase_finds}
use Rattle.def_paths.specs.Places.{side_of, value_by, name_by}
use Rattle.law_paths.proofs.CellLemmas.{not_entered}
use Rattle.law_paths.proofs.OpenLemmas.{Filling, AwaitsAt}
use Rattle.law_chases.proofs.MeetLemmas.{named_cycle}
use Rattle.law_chases.proofs.FilledLemmas.{no_cycle_unfilled, no_cycle_value, keeps_value, keeps_unfilled, follows_f, keeps_cycles, others_keep, turns_named, not_filled}
use Rattle.law_paths.proofs.StatusLemmas.{ValuesClosed, value_chased}

-- n for f and for h
abbrev pub renamed : (f h n : FutureShape) → FutureShape → FutureShape
renamed f h n m = elim (same_future m f) [ true ↦ n | false ↦ elim (same_future m h) [ true ↦ n | false ↦ m ] ]

renamed_first : (f h n m : FutureShape) → m ≡ f → renamed f h n m ≡ n
renamed_first f h n m e = ap (λ b. elim b [ true ↦ n | false ↦ elim (same_future m h) [ true ↦ n | false ↦ m ] ]) (ap (λ x. same_future x f) e ∙ future_itself f)

renamed_second : (f h n m : FutureShape) → m ≡ h → renamed f h n m ≡ n
renamed_second f h n m e = elim (same_future m f) as (λ b. elim b [ true ↦ n | false ↦ elim (same_future m h) [ true ↦ n | false ↦ m ] ] ≡ n) [ true ↦ refl | false ↦ ap (λ b. elim b [ true ↦ n | false ↦ m ]) (ap (λ x. same_future x h) e ∙ future_itself h) ]

renamed_else : (f h n m : FutureShape) → m ≢ f → m ≢ h → renamed f h n m ≡ m
renamed_else f h n m a b = ap (λ t. elim t [ true ↦ n | false ↦ elim (same_future m h) [ true ↦ n | false ↦ m ] ]) (futures_apart m f a) ∙ ap (λ t. elim t [ true ↦ n | false ↦ m ]) (futures_apart m h b)

module _ (vs : Values) (sorted : T (is_sorted future_cmp vs)) (values : ValuesClosed vs) (f : FutureShape) (new : find future_cmp f vs ≡ None) (v : ParcelShape) where
  abbrev ws : Values
  ws = put future_cmp f v vs

  abbrev k : FutureShape → Chase
  k = chase vs

  abbrev l : FutureShape → Chase
  l = chase ws

  not_cycle : (x m : FutureShape) → k x ≡ Cycle m → m ≢ f
  not_cycle x m e same = true_false (is_some (find future_cmp f vs)) (subst (IsFilled vs) same (named_cycle vs sorted x m e).filled) (ap is_some new)

  -- Where f has a value now

  module _ (y : FutureShape) (u : ParcelShape) (now : l f ≡ Value y u) where
    no_cycle_now : (n : FutureShape) → l f ≢ Cycle n
    no_cycle_now n e = no_cycle_value (sym e ∙ now)

    opens_by : (x : FutureShape) (c : Chase) → k x ≡ c → value_by c ≡ None → name_by c ≡ f → value_by (l x) ≡ Some u
    opens_by x (Value g p) e none name = no_some (sym none)
    opens_by x (Unfilled g) e none name = ap value_by (follows_f vs sorted f new v x (e ∙ ap Unfilled name) ∙ now)
    opens_by x (Cycle g) e none name = absurd (not_cycle x g e name)

    others_by : (x : FutureShape) (c : Chase) → k x ≡ c → (AwaitsAt (side_of vs []) f x → ⊥) → (value_by (l x) ≡ value_by c) × (name_by (l x) ≡ name_by c)
    others_by x (Value g p) e not = let d = keeps_value vs sorted f new v x g p e in (ap value_by d, ap name_by d)
    others_by x (Unfilled g) e not = ⊎_elim
        (λ same. absurd (not (ap value_by e, ap name_by e ∙ same)))
        (λ apart. let d = keeps_unfilled vs sorted f new v x g e apart in (ap value_by d, ap name_by d))
        (future_case g f)
    others_by x (Cycle g) e not = let d = keeps_cycles vs sorted f new v x g no_cycle_now e in (ap value_by d, ap name_by d)

    pub filling : (s : Store) → Filling (side_of vs s) u (λ x. value_by (l x)) f
    filling s = record {
      plain = not_entered (λ x. value_by (k x)) (cell u.cells 0) (chase_finds ws f y u now).1;
      keeps = λ x w e. let g = value_chased (k x) w e in ap value_by (keeps_value vs sorted f new v x g.0 w g.1);
      opens = λ x w. opens_by x (k x) refl w.0 w.1;
      others = λ x not. (others_by x (k x) refl not).0;
    }

    -- who has no value awaits the same name
    pub names_stay : (x : FutureShape) → value_by (l x) ≡ None → name_by (l x) ≡ name_by (k x)
    names_stay x none = (others_by x (k x) refl (λ w. no_some (sym none ∙ opens_by x (k x) refl w.0 w.1))).1

  -- Where f awaits a name now

  -- all values stay, and names become n where they were f or h
  pub record Renames (h n : FutureShape) : Type 0 where
    pub stay : (x : FutureShape) → value_by (l x) ≡ value_by (k x)
    pub names : (x : FutureShape) → value_by (k x) ≡ None → name_by (l x) ≡ renamed f h n (name_by (k x))

  renames_from : (h n : FutureShape) → ((x : FutureShape) → k x ≡ Unfilled f → (value_by (l x) ≡ None) × (name_by (l x) ≡ n)) → ((x m : FutureShape) → k x ≡ Unfilled m → m ≢ f → m ≡ h → n ≡ h) → ((x m : FutureShape) → k x ≡ Cycle m → (m ≡ h) ⊎ (m ≢ h) → (value_by (l x) ≡ None) × (name_by (l x) ≡ renamed f h n m)) → Renames h n
  renames_from h n at_f at_h cycles = record { stay = λ x. (by x (k x) refl).0; names = λ x none. (by x (k x) refl).1 none }
    where
      by : (x : FutureShape) (c : Chase) → k x ≡ c → (value_by (l x) ≡ value_by c) × (value_by c ≡ None → name_by (l x) ≡ renamed f h n (name_by c))
      by x (Value g p) e = (ap value_by (keeps_value vs sorted f new v x g p e), λ none. no_some (sym none))
      by x (Unfilled m) e = ⊎_elim
          (λ same. let z = at_f x (e ∙ ap Unfilled same) in (z.0, λ none. z.1 ∙ sym (renamed_first f h n m same)))
          (λ apart. let d = keeps_unfilled vs sorted f new v x m e apart in (ap value_by d, λ none. ap name_by d ∙ ⊎_elim (λ same. same ∙ sym (at_h x m e apart same) ∙ sym (renamed_second f h n m same)) (λ ne. sym (renamed_else f h n m apart ne)) (future_case m h)))
          (future_case m f)
      by x (Cycle m) e = let z = cycles x m e (future_case m h) in (z.0, λ none. z.1)

  -- f awaits a future without a value
  pub renames_unfilled : (h : FutureShape) → h ≢ f → l f ≡ Unfilled h → Renames h h
  renames_unfilled h apart now = renames_from h h
      (λ x e. let d = follows_f vs sorted f new v x e ∙ now in (ap value_by d, ap name_by d))
      (λ x m e ne same. refl)
      (λ x m e c. let d = keeps_cycles vs sorted f new v x m (λ n e. no_cycle_unfilled (sym e ∙ now)) e in (ap value_by d, ap name_by d ∙ ⊎_elim (λ same. same ∙ sym (renamed_second f h h m same)) (λ ne. sym (renamed_else f h h m (not_cycle x m e) ne)) c))

  -- f comes into a cycle
  pub renames_cycle : (g h : FutureShape) (goes : lead ws f ≡ Goes g) (root : ((k g ≡ Unfilled f) × (h ≡ f)) ⊎ (k g ≡ Cycle h)) → Renames h (cycle_of ws f)
  renames_cycle g h goes root = renames_from h (cycle_of ws f)
      (λ x e. let d = turns_named vs sorted f new v g h goes root x (inl e) in (ap value_by d, ap name_by d))
      (λ x m e ne same. absurd (h_unfilled x m e ne same))
      (λ x m e c. ⊎_elim
      (λ same. let d = turns_named vs sorted f new v g h goes root x (inr (e ∙ ap Cycle same)) in (ap value_by d, ap name_by d ∙ sym (renamed_second f h (cycle_of ws f) m same)))
      (λ ne. let d = others_keep vs sorted f new v g h goes root x m e ne in (ap value_by d, ap name_by d ∙ sym (renamed_else f h (cycle_of ws f) m (not_cycle x m e) ne)))
      c)
    where
      h_unfilled : (x m : FutureShape) → k x ≡ Unfilled m → m ≢ f → m ≡ h → ⊥
      h_unfilled x m e ne same = ⊎_elim
          (λ r. ne (same ∙ r.1))
          (λ r. true_false (is_some (find future_cmp h vs)) (named_cycle vs sorted g h r).filled (ap (λ z. is_some (find future_cmp z vs)) (sym same) ∙ ap is_some (not_filled vs sorted f new v x m e)))
          root
