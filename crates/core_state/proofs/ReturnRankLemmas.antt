-- Ranks by numbers, where one comes back.
use Rattle.std.proofs.Common.{◌≡◌, ◌≢◌, ◌++◌, [], ℕ, List, Option, Some, None, refl, sym, ap, ◌∙◌, inl, inr, ⊎_elim, ◌⊎◌}
use Rattle.std.proofs.lemmas.List.{append-nil}
use Rattle.std.specs.FinMap.{find}
use Rattle.asp_model.specs.Configuration.{Activity, Configuration, requests_of}
use Rattle.asp_model.specs.Intent.{Acts, Effect}
use Rattle.asp_model.specs.Names.{Name, FutureShape, name_cmp}
use Rattle.asp_model.specs.Parcel.{ParcelShape}
use Rattle.asp_model.specs.Step.{intent_in, name_at, with_effect}
use Rattle.def_journals.specs.Journals.{RunShape, grant_of, out_but}
use Rattle.law_steps.specs.Reached.{IsAt}
use Rattle.law_steps.specs.Sound.{IsSound}
use Rattle.law_chases.proofs.MapLemmas as Maps
use Rattle.law_steps.proofs.NameLemmas.{is_there, name_total, name_same}
use Rattle.law_journals.specs.Numbered.{AreNumbered}
use Rattle.law_journals.proofs.LeaseLemmas.{grant_but}
use Rattle.law_journals.proofs.NameListLemmas.{number_stays}
use Rattle.law_core.specs.Commits.{with_activity}
use Rattle.core_ranks.specs.Ranks.{Goes, Rests}
use Rattle.law_core.specs.Ranked.{rank_in}
use Rattle.law_core.specs.Keeping.{shifted_by}
use Rattle.law_core.specs.Runs.{rank_named, rank_of_number, rank_unless_out}
use Rattle.law_core.proofs.RankLemmas.{receivers_rank, steps_keep_ranks, writes_keep_ranks}
use Rattle.core_state.proofs.ListLemmas.{numbers_apart}
use Rattle.core_state.proofs.PopulateLemmas.{grant_gone}

pub shifted_rests : (o : Option (FutureShape × ParcelShape)) (d : Configuration) → shifted_by o d Rests ≡ Rests
shifted_rests None d = refl
shifted_rests (Some z) d = refl

module _ (s : RunShape) (numbered : AreNumbered s) (k : ℕ) (n : Name) (named : name_at s.names k ≡ Some n) where
  abbrev pub came : Configuration → List Name → ℕ → RunShape
  came d made left = record { configuration = d; names = s.names ++ made; left = left; out = out_but k s.out }

  -- who came back is ranked as it stands
  pub own_rank : (d : Configuration) (made : List Name) (left : ℕ) → rank_of_number (came d made left) k ≡ rank_in d n
  own_rank d made left = ap (rank_named (came d made left) k) (number_stays s.names made k n named) ∙ ap (rank_unless_out (came d made left) n) (grant_gone k s.out)

  kept_rank : (d : Configuration) (made : List Name) (left j : ℕ) (m : Name) → j ≢ k → name_at s.names j ≡ Some m → rank_of_number (came d made left) j ≡ rank_unless_out (came d made left) m (grant_of j s.out)
  kept_rank d made left j m apart is = ap (rank_named (came d made left) j) (number_stays s.names made j m is) ∙ ap (rank_unless_out (came d made left) m) (grant_but j k s.out (numbers_apart j k apart))

  other_name : (j : ℕ) (m : Name) → j ≢ k → name_at s.names j ≡ Some m → m ≢ n
  other_name j m apart is same = apart (numbered.apart j k n (is ∙ ap Some same) named)

  -- who has no name is not ranked
  pub no_rank : (d : Configuration) (made : List Name) (left j : ℕ) → name_at (s.names ++ made) j ≡ None → rank_of_number (came d made left) j ≡ Rests
  no_rank d made left j none = ap (rank_named (came d made left) j) none

  pub no_rank_before : (j : ℕ) → name_at s.names j ≡ None → rank_of_number s j ≡ Rests
  no_rank_before j none = ap (rank_named s j) none

  module _ (b : Activity) where
    abbrev c : Configuration
    c = with_activity n b s.configuration

    -- contractions alone
    pub run_ranks : (left j : ℕ) → j ≢ k → rank_of_number (came c [] left) j ≡ rank_of_number s j
    run_ranks left j apart = by (name_at s.names j) refl
      where
        by_grant : (m : Name) → m ≢ n → (o : Option ℕ) → rank_unless_out (came c [] left) m o ≡ rank_unless_out s m o
        by_grant m other None = writes_keep_ranks s.configuration n m b other
        by_grant m other (Some g) = refl

        by : (o : Option Name) → name_at s.names j ≡ o → rank_of_number (came c [] left) j ≡ rank_of_number s j
        by None is = no_rank c [] left j (ap (λ ns. name_at ns j) (append-nil s.names) ∙ is) ∙ sym (no_rank_before j is)
        by (Some m) is = kept_rank c [] left j m apart is ∙ by_grant m (other_name j m apart is) (grant_of j s.out) ∙ sym (ap (rank_named s j) is)

    module _ (e : Effect) (sound : IsSound c) (intends : intent_in c n ≡ Acts e) where
      abbrev d : Configuration
      d = with_effect n e c

      module _ (made : List Name) (left j : ℕ) (m : Name) (apart : j ≢ k) (is : name_at s.names j ≡ Some m) where
        abbrev t : RunShape
        t = came d made left

        other : m ≢ n
        other = other_name j m apart is

        at_m : (a : Activity) × IsAt c m a
        at_m =
            let was = is_there (find name_cmp m s.configuration.activities) (numbered.there j m is) in
            (was.0, Maps.find_other name_cmp name_total name_same m n b s.configuration.activities other ∙ was.1)

        -- who receives nothing is shifted at most
        pub act_ranks : requests_of d m ≡ requests_of c m → rank_of_number t j ≡ shifted_by e.filled d (rank_of_number s j)
        act_ranks same = kept_rank d made left j m apart is ∙ by (grant_of j s.out) ∙ ap (shifted_by e.filled d) (sym (ap (rank_named s j) is))
          where
            by : (o : Option ℕ) → rank_unless_out t m o ≡ shifted_by e.filled d (rank_unless_out s m o)
            by None = steps_keep_ranks c n m at_m.0 e sound at_m.1 other intends (inl same) ∙ ap (shifted_by e.filled d) (writes_keep_ranks s.configuration n m b other)
            by (Some g) = sym (shifted_rests e.filled d)

        -- who receives may step now, or stands as before
        pub act_ranks_receiver : e.filled ≡ None → (rank_of_number t j ≡ rank_of_number s j) ⊎ ((rank_of_number s j ≡ Rests) × (rank_of_number t j ≡ Goes))
        act_ranks_receiver none = ⊎_elim
            (λ p. inl (now ∙ p ∙ sym was))
            (λ p. inr (was ∙ p.0, now ∙ p.1))
            (by (grant_of j s.out))
          where
            now : rank_of_number t j ≡ rank_unless_out t m (grant_of j s.out)
            now = kept_rank d made left j m apart is

            was : rank_of_number s j ≡ rank_unless_out s m (grant_of j s.out)
            was = ap (rank_named s j) is

            by : (o : Option ℕ) → (rank_unless_out t m o ≡ rank_unless_out s m o) ⊎ ((rank_unless_out s m o ≡ Rests) × (rank_unless_out t m o ≡ Goes))
            by None =
                let same = writes_keep_ranks s.configuration n m b other in
                ⊎_elim (λ p. inl (p ∙ same)) (λ p. inr (sym same ∙ p.0, p.1)) (receivers_rank c n m at_m.0 e sound at_m.1 other intends none)
            by (Some g) = inl refl
