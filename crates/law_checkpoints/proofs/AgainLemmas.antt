-- Runs are saved, and saved again where they went on.
use Rattle.std.specs.Prelude.{◌≡◌, ℕ, suc, List, [], ◌∷◌, ◌++◌, Option, Some, None, is_some, map, true}
use Rattle.std.proofs.Common.{refl, sym, ap, subst, ◌∙◌}
use Rattle.std.specs.List.{flat_map}
use Rattle.std.specs.FinMap.{find}
use Rattle.asp_model.specs.Names.{Name, name_cmp}
use Rattle.asp_model.specs.Configuration.{Activity, Configuration}
use Rattle.asp_model.specs.Step.{name_at}
use Rattle.def_journals.specs.Journals.{begun, run_from}
use Rattle.law_chases.proofs.FutureLemmas.{none_true}
use Rattle.law_steps.specs.Reached.{IsThere}
use Rattle.law_steps.proofs.WholeLemmas.{reached_are_sound}
use Rattle.law_journals.proofs.JournalLemmas.{journals_reach}
use Rattle.law_journals.proofs.NumberLemmas.{entries_keep_numbers, start_is_first}
use Rattle.law_frozen.specs.Frozen.{freeze, frozen_at as frozen_in, thawed_first}
use Rattle.law_frozen.proofs.FrozenLemmas.{same_freezes_same}
use Rattle.law_frozen.proofs.SameLemmas.{bare_found, there_same}
use Rattle.law_frozen.proofs.ThawLemmas.{thawed_are_first, runs_are_led_back}
use Rattle.law_checkpoints.specs.Order.{AreInOrder}
use Rattle.law_checkpoints.specs.Saved.{RunsAreSaved, RunsAreSavedAgain, SavedAreSound, frozen_at}
use Rattle.law_checkpoints.proofs.FreezeLemmas.{sound_frozen}
use Rattle.law_checkpoints.proofs.KeptLemmas.{reached_are_savable}
use Rattle.law_checkpoints.proofs.OrderLemmas.{entries_keep_order}

pub saved_are_sound : SavedAreSound
saved_are_sound program x h saved = sound_frozen x.configuration x.names saved.first saved.order (reached_are_savable program x.configuration h saved.reached)

pub runs_are_saved : RunsAreSaved
runs_are_saved program budget entries s e =
    let first = start_is_first program in
    let sound = first.sound in
    let numbered = entries_keep_numbers entries (begun program budget) s e sound (record { apart = first.numbered.apart; there = first.numbered.there; numbered = first.numbered.numbered }) in
    let reached = journals_reach program budget entries s e in
    record {
      reached = reached;
      first = record { sound = reached_are_sound program s.configuration reached; numbered = record { apart = numbered.apart; there = numbered.there; numbered = numbered.numbered } };
      order = entries_keep_order entries (begun program budget) s e sound (refl, tt);
    }

-- Names of what was frozen

names_back : (c : Configuration) (names : List Name) → ((k : ℕ) (n : Name) → name_at names k ≡ Some n → IsThere c n) → map (λ x. x.name) (flat_map (frozen_in c) names) ≡ names
names_back c [] h = refl
names_back c (n ∷ names) h = by (find name_cmp n c.activities) refl (h 0 n refl) (names_back c names (λ k m e. h (suc k) m e))
  where
    by : (o : Option Activity) → find name_cmp n c.activities ≡ o → is_some (find name_cmp n c.activities) ≡ true → map (λ x. x.name) (flat_map (frozen_in c) names) ≡ names
        → map (λ x. x.name) (elim o [ None ↦ [] | Some a ↦ freeze c n a ∷ [] ] ++ flat_map (frozen_in c) names) ≡ n ∷ names
    by None is there rest = none_true (sym (ap is_some is) ∙ there)
    by (Some a) is there rest = ap (λ l. n ∷ l) rest

pub runs_are_saved_again : RunsAreSavedAgain
runs_are_saved_again program x budget entries t saved e =
    let c = runs_are_led_back program x budget entries t saved.reached saved.first e in
    let first = thawed_are_first x saved.first in
    let numbered = entries_keep_numbers entries (run_from (thawed_first (frozen_at x)) budget) t e first.sound (record { apart = first.numbered.apart; there = first.numbered.there; numbered = first.numbered.numbered }) in
    let there : (n : Name) → is_some (find name_cmp n c.0.activities) ≡ is_some (find name_cmp n t.configuration.activities) = λ n. there_same (find name_cmp n c.0.activities) (find name_cmp n t.configuration.activities) (bare_found c.0 t.configuration c.2 n) in
    record {
      other = c.0;
      saved = record {
        reached = c.1;
        first = record {
          sound = reached_are_sound program c.0 c.1;
          numbered = record {
            apart = numbered.apart;
            there = λ k n at. there n ∙ numbered.there k n at;
            numbered = λ n h. numbered.numbered n (sym (there n) ∙ h);
          };
        };
        order = entries_keep_order entries (run_from (thawed_first (frozen_at x)) budget) t e first.sound (subst AreInOrder (sym (names_back x.configuration x.names saved.first.numbered.there)) saved.order);
      };
      same = c.2;
      frozen = same_freezes_same t.names c.0 t.configuration c.2;
    }
