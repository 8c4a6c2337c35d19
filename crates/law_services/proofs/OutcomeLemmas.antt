-- Ends that are alike have outcomes that are equal but for the logs.
use Rattle.std.specs.Prelude.{◌≡◌, List, [], ◌∷◌, Option, Some, None, map}
use Rattle.std.proofs.Common.{refl, sym, ap, ◌∙◌}
use Rattle.std.specs.FinMap.{find}
use Rattle.std.specs.FinMap.Entries.{same_entries}
use Rattle.asp_model.specs.Names.{Name, name_cmp}
use Rattle.asp_model.specs.Configuration.{Activity, Configuration}
use Rattle.asp_model.specs.Intent.{StatusShape}
use Rattle.asp_model.specs.Status.{status_of, verdict_among, verdict_of}
use Rattle.asp_model.specs.Replay.{replay, total}
use Rattle.law_steps.proofs.NameLemmas.{name_total, name_same}
use Rattle.law_steps.proofs.ListLemmas.{with_name, find_mapped}
use Rattle.law_steps.proofs.JoinLaws.{sorted_mapped}
use Rattle.law_steps.proofs.ReachedLemmas.{Right}
use Rattle.def_paths.specs.Snapshots.{snapshot_of}
use Rattle.def_paths.specs.Outcomes.{EndShape, end_of, whole_outcome_of}
use Rattle.law_services.specs.Services.{replayed_to}
use Rattle.law_services.specs.Correct.{EndAlike, ServedAlikeShowAlike, bare, bare_of, unlogged, unlogged_end}
use Rattle.law_services.proofs.SameLemmas.{right_at}
use Rattle.law_services.proofs.EndLemmas.{replay_run, served_alike_end_alike}

abbrev bare_entries : Configuration → List (Name × Activity)
bare_entries c = map (λ x. (x.0, bare x.1)) c.activities

named_bare : (q : Name) (o : Option Activity) → with_name (λ x. bare x.1) q o ≡ bare_of o
named_bare q None = refl
named_bare q (Some a) = refl

-- what is told of an activity beside its log
abbrev told : (Name → StatusShape) → Name × Activity → EndShape
told status x = record { report = record { name = x.0; count = x.1.reductions; status = status x.0; senders = []; lines = x.1.lines }; snapshot = snapshot_of x.1 }

ends_told : (c : Configuration) (es : List (Name × Activity)) → map unlogged_end (map (end_of c) es) ≡ map (told (status_of c)) (map (λ x. (x.0, bare x.1)) es)
ends_told c [] = refl
ends_told c (e ∷ es) = ap (λ l. told (status_of c) (e.0, bare e.1) ∷ l) (ends_told c es)

abbrev first_of : (Name → StatusShape) → Name × Activity → StatusShape
first_of status x = status x.0

abbrev bared : Name × Activity → Name × Activity
bared x = (x.0, bare x.1)

statuses_told : (status : Name → StatusShape) (es : List (Name × Activity)) → map (first_of status) es ≡ map (first_of status) (map bared es)
statuses_told status [] = refl
statuses_told status (e ∷ es) = ap (λ l. status e.0 ∷ l) (statuses_told status es)

module _ (c d : Configuration) (r : Right c) (q : Right d) (alike : EndAlike c d) where
  entries_same : bare_entries c ≡ bare_entries d
  entries_same = same_entries name_cmp name_total name_same (bare_entries c) (bare_entries d)
      (sorted_mapped (λ x. bare x.1) c.activities r.sound.ordered.activities) (sorted_mapped (λ x. bare x.1) d.activities q.sound.ordered.activities)
      (λ n. find_mapped (λ x. bare x.1) n c.activities ∙ named_bare n (find name_cmp n c.activities) ∙ alike.activities n
      ∙ sym (find_mapped (λ x. bare x.1) n d.activities ∙ named_bare n (find name_cmp n d.activities)))

  statuses_same : status_of c ≡ status_of d
  statuses_same = λ i n. alike.statuses n i

  ends_same : map unlogged_end (map (end_of c) c.activities) ≡ map unlogged_end (map (end_of d) d.activities)
  ends_same = ends_told c c.activities ∙ ap (map (told (status_of c))) entries_same ∙ (λ i. map (told (statuses_same i)) (bare_entries d)) ∙ sym (ends_told d d.activities)

  verdict_same : verdict_of c ≡ verdict_of d
  verdict_same = ap verdict_among (statuses_told (status_of c) c.activities ∙ ap (map (first_of (status_of c))) entries_same ∙ (λ i. map (first_of (statuses_same i)) (bare_entries d)) ∙ sym (statuses_told (status_of d) d.activities))

  pub outcomes_same : unlogged (whole_outcome_of c) ≡ unlogged (whole_outcome_of d)
  outcomes_same = λ i. record { verdict = verdict_same i; ends = ends_same i; futures = alike.futures i }

pub served_alike_show_alike : ServedAlikeShowAlike
served_alike_show_alike program lists counts others other_counts stuck stuck_too alike =
    outcomes_same (replay program lists counts) (replay program others other_counts)
    (right_at (replayed_to program lists counts) (replay_run program lists counts) (total counts))
    (right_at (replayed_to program others other_counts) (replay_run program others other_counts) (total other_counts))
    (served_alike_end_alike program lists counts others other_counts stuck stuck_too alike)
