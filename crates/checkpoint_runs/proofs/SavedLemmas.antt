-- The lines of what stands in a configuration.
use Rattle.std.proofs.Common.{◌≡◌, List, [], ◌∷◌, ◌++◌, Option, Some, None, length, map, refl, sym, ap, arith, ◌∙◌, append_assoc}
use Rattle.std.proofs.lemmas.List.{append-nil, map-append}
use Rattle.std.specs.FinMap.{find}
use Rattle.std.specs.Global.{Box}
use Rattle.std.specs.List.{flat_map}
use Rattle.std.specs.declared.alloc.Global.{Global}
use Rattle.std.specs.declared.string.String.{String}
use Rattle.asp_model.specs.Configuration.{Activity, Configuration, ReceptionShape, log_of, requests_of}
use Rattle.asp_model.specs.Names.{Name, Text, name_cmp}
use Rattle.asp_model.specs.Report.{text_of}
use Rattle.law_frozen.specs.Frozen.{FrozenActivity, freeze, frozen_at}
use Rattle.law_frozen.specs.Pending.{waiting}
use Rattle.law_frozen.specs.Same.{served_by}
use Rattle.law_services.specs.Correct.{bare}
use Rattle.step_activity.specs.declared.actor.Actor.{Actor}
use Rattle.frozen_runs.specs.Activities.{frozen_by}
use Rattle.checkpoint_runs.specs.Saved.{AddsLines, activity_lines, activity_text, text_in}
use Rattle.checkpoint_runs.proofs.LineLemmas.{lines_then}

-- what is frozen of an activity that is there
freeze_by : (c : Configuration) (n : Name) (a : Activity) → find name_cmp n c.activities ≡ Some a → freeze c n a ≡ frozen_by n a (log_of c n) (requests_of c n)
freeze_by c n a e = λ i. record { name = n; activity = bare a; log = log_of c n; queue = waiting (served_by (e i)) (requests_of c n) }

pub frozen_there : (c : Configuration) (n : Name) (a : Activity) → find name_cmp n c.activities ≡ Some a → frozen_at c n ≡ frozen_by n a (log_of c n) (requests_of c n) ∷ []
frozen_there c n a e =
    ap (λ (o : Option Activity). elim o [ None ↦ [] | Some b ↦ freeze c n b ∷ [] ]) e
    ∙ ap (λ (x : FrozenActivity). x ∷ []) (freeze_by c n a e)

-- so that is its line
pub line_there : (c : Configuration) (n : Name) (a : Activity) (log : List ReceptionShape) → find name_cmp n c.activities ≡ Some a → log ≡ log_of c n
    → activity_lines c (n ∷ []) ≡ activity_text (frozen_by n a log (requests_of c n)) ∷ []
line_there c n a log e l =
    ap (λ (xs : List FrozenActivity). map activity_text (xs ++ [])) (frozen_there c n a e)
    ∙ ap (λ (ls : List ReceptionShape). activity_text (frozen_by n a ls (requests_of c n)) ∷ []) (sym l)

-- the lines of one more, and of the others
pub lines_more : (c : Configuration) (n : Name) (ns : List Name) → activity_lines c (n ∷ ns) ≡ activity_lines c (n ∷ []) ++ activity_lines c ns
lines_more c n ns =
    map-append activity_text (frozen_at c n) (flat_map (frozen_at c) ns)
    ∙ ap (λ (xs : List FrozenActivity). map activity_text xs ++ activity_lines c ns) (sym (append-nil (frozen_at c n)))

-- a loop's step: one line more is written, and the others are left
pub one_written : (c : Configuration) (n : Name) (ns : List Name) (x y : List (String Global)) → AddsLines x (activity_lines c (n ∷ [])) y
    → text_in y ++ text_of (activity_lines c ns) ≡ text_in x ++ text_of (activity_lines c (n ∷ ns))
one_written c n ns x y put =
    ap (λ (t : Text). t ++ text_of (activity_lines c ns)) put
    ∙ append_assoc (text_in x) (text_of (activity_lines c (n ∷ []))) (text_of (activity_lines c ns))
    ∙ ap (λ (t : Text). text_in x ++ t)
    (sym (lines_then (activity_lines c (n ∷ [])) (activity_lines c ns)) ∙ ap text_of (sym (lines_more c n ns)))

-- and its end
pub all_written : (c : Configuration) (ns : List Name) (x y : List (String Global)) (left : List (Name × Box Actor)) → left ≡ []
    → text_in y ++ text_of (activity_lines c (map (λ e. e.0) left)) ≡ text_in x ++ text_of (activity_lines c ns) → AddsLines x (activity_lines c ns) y
all_written c ns x y left none e =
    sym (append-nil (text_in y)) ∙ ap (λ (es : List (Name × Box Actor)). text_in y ++ text_of (activity_lines c (map (λ e. e.0) es))) (sym none) ∙ e

pub no_entries : {A : Type 0} (xs : List A) → length xs ≡ 0 → xs ≡ []
no_entries [] h = refl
no_entries (x ∷ xs) h = absurd (omega (arith, h))
