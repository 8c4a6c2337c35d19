-- Checkpoint files, and the runs that go on from them.
use Rattle.std.proofs.Common.{◌≡◌, ℕ, ◌+◌, ◌≤◌, List, [], ◌∷◌, ◌++◌, Option, Some, None, refl, sym, ap, subst, ◌∙◌}
use Rattle.std.specs.List.{flat_map, starts_with}
use Rattle.std.specs.FinMap.{find}
use Rattle.asp_model.specs.Names.{Name, Text, name_cmp}
use Rattle.asp_model.specs.Term.{Tree}
use Rattle.asp_model.specs.Marked.{Marked, plain}
use Rattle.asp_model.specs.Configuration.{Activity, Configuration, log_of}
use Rattle.asp_model.specs.History.{EntryShape, FirstShape}
use Rattle.asp_model.specs.Replay.{CountsShape, counts_of, count_in, total}
use Rattle.asp_model.specs.Step.{same_reception}
use Rattle.asp_check.proofs.PlaceLemmas.{readable_has_no_places}
use Rattle.def_journals.specs.Journals.{RunShape}
use Rattle.law_steps.specs.Linked.{Each}
use Rattle.law_programs.specs.Programs.{IsSoundProgram}
use Rattle.law_frozen.specs.Same.{SamePending}
use Rattle.law_frozen.specs.Frozen.{freeze, frozen_at as frozen_in, thawed, thawed_first}
use Rattle.law_frozen.proofs.FrozenLemmas.{thawed_same}
use Rattle.law_frozen.proofs.ShowLemmas.{same_shows_same}
use Rattle.checkpoint_text.specs.Lines.{checkpoint_text}
use Rattle.checkpoint_text.specs.Reading.{read_checkpoint}
use Rattle.checkpoint_text.specs.Writable.{IsWritable}
use Rattle.checkpoint_text.proofs.LineLemmas.{what_is_read}
use Rattle.law_checkpoints.specs.Saved.{IsSavedAt, end_of, frozen_at}
use Rattle.law_checkpoints.specs.Resumed.{AddsTo, AreOneRun}
use Rattle.law_checkpoints.proofs.AgainLemmas.{saved_are_sound, runs_are_saved, runs_are_saved_again}
use Rattle.law_checkpoints.proofs.FirstLemmas.{frozen_are_first, frozen_are_whole}
use Rattle.law_checkpoints.proofs.ResumeLemmas.{resumed_are_one_run}
use Rattle.law_checkpoint_texts.specs.Texts.{TextsAreSure, SavedAreSure}
use Rattle.law_checkpoint_texts.specs.Files.{FilesAreOwn, FilesAreResumed, GoesOn, IsResumed, IsSavedFile, RunsAreFiles, text_at}
use Rattle.law_checkpoint_texts.proofs.LineLemmas.{text_sure, text_own}
use Rattle.law_checkpoint_texts.proofs.ShapeLemmas.{sound_are_shaped}

-- Texts

pub texts_are_sure : TextsAreSure
texts_are_sure printed f line sound bare =
    let shaped = sound_are_shaped f sound bare in
    record {
      same = λ g e. text_sure printed f g line shaped e;
      fits = λ g e.
          let read = what_is_read printed (checkpoint_text printed f) g e in
          subst IsWritable (text_sure printed f g line shaped e) read.1;
      own = text_own printed f line;
    }

-- nothing of what was served is frozen
frozen_bare : (c : Configuration) (names : List Name)
    → Each (λ x. x.activity.served ≡ []) (flat_map (frozen_in c) names)
frozen_bare c [] = tt
frozen_bare c (n ∷ names) = by (find name_cmp n c.activities) (frozen_bare c names)
  where
    by : (o : Option Activity) → Each (λ x. x.activity.served ≡ []) (flat_map (frozen_in c) names)
        → Each (λ x. x.activity.served ≡ [])
        (elim o [ None ↦ [] | Some a ↦ freeze c n a ∷ [] ] ++ flat_map (frozen_in c) names)
    by None rest = rest
    by (Some a) rest = (refl, rest)

pub saved_are_sure : SavedAreSure
saved_are_sure printed program x line h saved =
    texts_are_sure printed (frozen_at x) line (saved_are_sound program x h saved) (frozen_bare x.configuration x.names)

-- Files

pub runs_are_files : RunsAreFiles
runs_are_files printed program budget entries s e = (end_of s, runs_are_saved program budget entries s e, refl)

pub files_are_own : FilesAreOwn
files_are_own printed program bytes line h file e =
    (saved_are_sure printed program file.0 line h file.1).own (ap (read_checkpoint printed) (sym file.2) ∙ e)

-- Runs that go on

-- where a run was frozen and where it goes on, the same stands
adds_same : (x : FirstShape) (d : Configuration) → SamePending x.configuration (thawed (frozen_at x))
    → counts_of x.configuration ≡ counts_of (thawed (frozen_at x))
    → AddsTo x.configuration d → AddsTo (thawed (frozen_at x)) d
adds_same x d same counts h = record {
  logs = λ m. ap (λ l. starts_with same_reception (log_of d m) l) (sym (same.logs m)) ∙ h.logs m;
  counts = λ m. subst (λ (k : CountsShape). count_in k m ≤ count_in (counts_of d) m) counts (h.counts m);
}

one_same : (program : Tree) (x : FirstShape) (budget : ℕ) (t : RunShape) → IsSavedAt program x
    → AreOneRun program x budget t → AreOneRun program (thawed_first (frozen_at x)) budget t
one_same program x budget t saved h =
    let same = thawed_same x saved.first in
    let counts = (same_shows_same x.configuration (thawed (frozen_at x)) same).counts in
    record {
      tells = h.tells;
      adds = adds_same x t.configuration same counts h.adds;
      spends = h.spends ∙ ap (λ (k : CountsShape). total k + budget) counts;
    }

saved_again : (printed : Text) (program : Tree) (x : FirstShape) (budget : ℕ) (entries : List EntryShape) (t : RunShape)
    → IsSavedAt program x → GoesOn (frozen_at x) budget entries t
    → IsSavedFile printed program (text_at printed (end_of t))
saved_again printed program x budget entries t saved e =
    let r = runs_are_saved_again program x budget entries t saved e in
    (record { names = t.names; configuration = r.other }, r.saved, ap (checkpoint_text printed) (sym r.frozen))

resumed_at : (printed : Text) (program : Marked) (x : FirstShape) → IsSoundProgram program → IsSavedAt (plain program) x
    → IsResumed printed (plain program) (frozen_at x)
resumed_at printed program x h saved =
    let sound = saved_are_sound program x h saved in
    record {
      sound = sound;
      first = frozen_are_first (frozen_at x) sound;
      whole = frozen_are_whole (frozen_at x) sound;
      one = λ budget entries t e.
          let bare = readable_has_no_places (plain program) h.readable in
          let one = resumed_are_one_run (plain program) x budget entries t bare saved e in
          one_same (plain program) x budget t saved one;
      again = λ budget entries t e. saved_again printed (plain program) x budget entries t saved e;
    }

pub files_are_resumed : FilesAreResumed
files_are_resumed printed program bytes f line h file e =
    let x = file.0 in
    let sure = saved_are_sure printed program x line h file.1 in
    let same : f ≡ frozen_at x = sure.same f (ap (read_checkpoint printed) (sym file.2) ∙ e) in
    subst (IsResumed printed (plain program)) (sym same) (resumed_at printed program x h file.1)
