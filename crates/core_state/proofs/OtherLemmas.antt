-- The ranks of all others, once they have what a reduction gave.
use Rattle.std.proofs.Common.{◌≡◌, ◌≢◌, ◌++◌, ◌∷◌, [], ℕ, zero, suc, true, false, List, Option, Some, None, length, refl, sym, ap, subst, ◌∙◌, ⊎_elim, arith}
use Rattle.std.proofs.lemmas.List.{append-nil}
use Rattle.std.specs.FinMap.{find}
use Rattle.std.specs.declared.alloc.Global.{Global}
use Rattle.std.specs.declared.sync.Arc.{Arc}
use Rattle.asp_model.specs.Chase.{chase}
use Rattle.asp_model.specs.Configuration.{Activity, Configuration, or_none, requests_of}
use Rattle.asp_model.specs.History.{HistoryShape}
use Rattle.asp_model.specs.Intent.{Effect}
use Rattle.asp_model.specs.Names.{Name, name_cmp}
use Rattle.asp_model.specs.Step.{name_at, with_effect, with_last}
use Rattle.def_journals.specs.Journals.{RunShape}
use Rattle.law_chases.proofs.MapLemmas as Maps
use Rattle.law_steps.proofs.NameLemmas.{name_total, name_same}
use Rattle.law_chases.proofs.FutureLemmas.{no_some, true_false}
use Rattle.law_journals.proofs.NameListLemmas.{number_stays}
use Rattle.law_core.specs.Commits.{made_by, with_activity}
use Rattle.code_table.specs.declared.code.Node.{Node}
use Rattle.code_table.specs.declared.future.Future.{Future}
use Rattle.code_table.specs.Cells.{held_future}
use Rattle.future_table.specs.Values.{values_of}
use Rattle.core_ranks.specs.declared.ranks.Ranks.{Ranks}
use Rattle.core_ranks.specs.Numbers.{has_number}
use Rattle.core_ranks.specs.Ranks.{AreShifted, IsRanked, OthersStay, RankShape, Rests, goes, shifted}
use Rattle.law_core.specs.Keeping.{shifted_by}
use Rattle.law_core.specs.Ranked.{rank_at}
use Rattle.law_core.specs.Runs.{rank_of_number}
use Rattle.core_state.specs.declared.state.CoreState.{CoreState}
use Rattle.core_state.proofs.ListLemmas.{number_case, within_name}
use Rattle.core_state.proofs.PopulateLemmas.{past_none}
use Rattle.core_state.proofs.ReturnRankLemmas.{act_ranks, act_ranks_receiver, no_rank, no_rank_before, shifted_rests}
use Rattle.core_state.specs.declared.change.Change.{Change}
use Rattle.core_state.specs.declared.change.Change.TheVariants as change
use Rattle.core_state.specs.Changes.{AreOthersRanked, IsChange, IsChanged, IsStanding, MayWake, acted}

-- One name more

last_named : (ns : List Name) (m : Name) → name_at (ns ++ m ∷ []) (length ns) ≡ Some m
last_named [] m = refl
last_named (n ∷ ns) m = last_named ns m

unnamed_still : (ns : List Name) (m : Name) (j : ℕ) → j ≢ length ns → name_at ns j ≡ None → name_at (ns ++ m ∷ []) j ≡ None
unnamed_still [] m zero apart none = absurd (apart refl)
unnamed_still [] m (suc j) apart none = refl
unnamed_still (n ∷ ns) m zero apart none = no_some (sym none)
unnamed_still (n ∷ ns) m (suc j) apart none = unnamed_still ns m j (λ e. apart (ap suc e)) none

-- Who received

module _ (r : Ranks) (k : ℕ) (now : RankShape) (w : MayWake r k now) where
  -- who may step already stands as it stood
  pub goes_still : has_number k r.going.keys ≡ true → IsRanked r k now
  goes_still is = ⊎_elim
      (λ same. subst (IsRanked r k) (sym same) w.1)
      (λ woken. absurd (true_false (has_number k r.going.keys) is (w.1.going ∙ ap goes woken.0)))
      w.2

  -- and so does who does not step now
  pub rests_still : goes now ≡ false → IsRanked r k now
  rests_still none = ⊎_elim
      (λ same. subst (IsRanked r k) (sym same) w.1)
      (λ woken. absurd (true_false (goes now) (ap goes woken.1) none))
      w.2

  -- all others rested
  pub rested_before : has_number k r.going.keys ≡ false → goes now ≡ true → IsRanked r k Rests
  rested_before none is = ⊎_elim
      (λ same. absurd (true_false (goes w.0) (ap goes (sym same) ∙ is) (sym w.1.going ∙ none)))
      (λ woken. subst (IsRanked r k) woken.0 w.1)
      w.2

-- All others

module _ (h : HistoryShape) (code : List Node) (x : CoreState) (s : RunShape) (k : ℕ) (n : Name) (b : Activity) (e : Effect) (left : ℕ) (g : Change) (p : IsChanged h code x s k n b e left g) where
  abbrev c : Configuration
  c = with_activity n b s.configuration

  abbrev d : Configuration
  d = with_effect n e c

  abbrev t : RunShape
  t = acted s k n b e left

  pub own_rests : IsRanked x.ranks k Rests
  own_rests = subst (IsRanked x.ranks k) p.out (p.ranks k)

  pub stands_at : (q : ℕ) (m : Name) → name_at t.names q ≡ Some m → IsStanding h code x t q
  stands_at q m is = record { first = p.first; whole = p.whole; run = p.run; populated = p.populated; name = m; named = is }

  -- one that received nothing, where all were shifted
  shifted_other : (y : Ranks) (j : ℕ) → j ≢ k
      → ((m : Name) → name_at s.names j ≡ Some m → requests_of d m ≡ requests_of c m)
      → (name_at s.names j ≡ None → name_at t.names j ≡ None)
      → ((r : RankShape) → IsRanked x.ranks j r → IsRanked y j (shifted_by e.filled d r))
      → IsRanked y j (rank_of_number t j)
  shifted_other y j apart same none moved = by (name_at s.names j) refl
    where
      by : (o : Option Name) → name_at s.names j ≡ o → IsRanked y j (rank_of_number t j)
      by None is =
          subst (IsRanked y j) (shifted_rests e.filled d ∙ sym (no_rank s p.numbered k n p.named d (made_by e.made) left j (none is)))
          (moved Rests (subst (IsRanked x.ranks j) (no_rank_before s p.numbered k n p.named j is) (p.ranks j)))
      by (Some m) is =
          subst (IsRanked y j) (sym (act_ranks s p.numbered k n p.named b e p.sound p.intends (made_by e.made) left j m apart is (same m is)))
          (moved (rank_of_number s j) (p.ranks j))

  same_requests : e.sent ≡ None → (m : Name) → requests_of d m ≡ requests_of c m
  same_requests sent m = ap (λ o. or_none (find name_cmp m (with_last o c.received))) sent

  still_none : e.made ≡ None → (j : ℕ) → name_at s.names j ≡ None → name_at t.names j ≡ None
  still_none made j none = ap (λ (o : Option (Name × Activity)). name_at (s.names ++ made_by o) j) made ∙ ap (λ ns. name_at ns j) (append-nil s.names) ∙ none

  not_shifted : e.filled ≡ None → (y : Ranks) (j : ℕ) (r : RankShape) → IsRanked y j r → IsRanked y j (shifted_by e.filled d r)
  not_shifted filled y j r is = subst (λ o. IsRanked y j (shifted_by o d r)) (sym filled) is

  pub nothing_changed : IsChange s.names e change.Nothing → AreOthersRanked x.ranks k t
  nothing_changed is = (own_rests, λ j apart. shifted_other x.ranks j apart (λ m named. same_requests is.0 m) (still_none is.1 j) (λ r before. not_shifted is.2 x.ranks j r before))

  module _ (q : ℕ) (is : IsChange s.names e (change.Made q)) where
    pub made_stands : IsStanding h code x t q
    made_stands = stands_at q is.0 (ap (λ (o : Option (Name × Activity)). name_at (s.names ++ made_by o) q) is.2 ∙ ap (name_at (s.names ++ is.0 ∷ [])) is.3 ∙ last_named s.names is.0)

    pub made_rests : IsRanked x.ranks q Rests
    made_rests = subst (IsRanked x.ranks q) (no_rank_before s p.numbered k n p.named q (ap (name_at s.names) is.3 ∙ past_none s.names)) (p.ranks q)

    own_apart : k ≢ q
    own_apart same = omega (arith, within_name s.names k n p.named, same, is.3)

    pub one_made : (y : Ranks) → IsRanked y q (rank_of_number t q) → OthersStay q x.ranks y → AreOthersRanked y k t
    one_made y here others = (
      others k Rests own_apart own_rests,
      λ j apart. number_case j q
          (λ same. subst (λ i. IsRanked y i (rank_of_number t i)) (sym same) here)
          (λ other. shifted_other y j apart (λ m named. same_requests is.4 m)
          (λ none. ap (λ (o : Option (Name × Activity)). name_at (s.names ++ made_by o) j) is.2 ∙ unnamed_still s.names is.0 j (λ last. other (last ∙ sym is.3)) none)
          (λ r before. not_shifted is.5 y j r (others j r other before))),
    )

  module _ (q : ℕ) (is : IsChange s.names e (change.Received q)) where
    pub receiver_stands : IsStanding h code x t q
    receiver_stands = stands_at q is.0 (number_stays s.names (made_by e.made) q is.0 is.3)

    pub receiver_may_wake : q ≢ k → MayWake x.ranks q (rank_of_number t q)
    receiver_may_wake apart = (rank_of_number s q, p.ranks q, act_ranks_receiver s p.numbered k n p.named b e p.sound p.intends (made_by e.made) left q is.0 apart is.3 is.5)

    other_requests : (m : Name) → m ≢ is.0 → requests_of d m ≡ requests_of c m
    other_requests m apart =
        ap (λ o. or_none (find name_cmp m (with_last o c.received))) is.2
        ∙ ap or_none (Maps.find_other name_cmp name_total name_same m is.0 (or_none (find name_cmp is.0 c.received) ++ is.1 ∷ []) c.received apart)

    received_by_others : (y : Ranks) → IsRanked y k Rests → OthersStay q x.ranks y → (q ≢ k → IsRanked y q (rank_of_number t q)) → AreOthersRanked y k t
    received_by_others y own others here = (
      own,
      λ j apart. number_case j q
          (λ same. subst (λ i. IsRanked y i (rank_of_number t i)) (sym same) (here (λ itself. apart (same ∙ itself))))
          (λ other. shifted_other y j apart (λ m named. other_requests m (λ one. other (p.numbered.apart j q is.0 (named ∙ ap Some one) is.3))) (still_none is.4 j)
          (λ r before. not_shifted is.5 y j r (others j r other before))),
    )

    -- it sent to itself
    pub own_received : q ≡ k → AreOthersRanked x.ranks k t
    own_received same = received_by_others x.ranks own_rests (λ j r apart before. before) (λ apart. absurd (apart same))

    pub one_received : (y : Ranks) → q ≢ k → IsRanked y q (rank_of_number t q) → OthersStay q x.ranks y → AreOthersRanked y k t
    one_received y apart here others = received_by_others y (others k Rests (λ same. apart (sym same)) own_rests) others (λ other. here)

  pub one_filled : (f : Arc Future Global) (rank : RankShape) (y : Ranks) → IsChange s.names e (change.Filled f) → rank ≡ rank_at (chase (values_of x.futures) (held_future f)) → AreShifted (held_future f) rank x.ranks y
      → AreOthersRanked y k t
  one_filled f rank y is told shifts = (
    shifts k Rests own_rests,
    λ j apart. shifted_other y j apart (λ m named. same_requests is.2 m) (still_none is.3 j)
        (λ r before. subst (λ o. IsRanked y j (shifted_by o d r)) (sym is.1)
        (subst (λ z. IsRanked y j (shifted (held_future f) z r)) (told ∙ ap (λ values. rank_at (chase values (held_future f))) p.populated.futures) (shifts j r before))),
  )
