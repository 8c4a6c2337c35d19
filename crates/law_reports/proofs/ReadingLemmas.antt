-- A whole report, written and read.
use Rattle.std.proofs.Common.{◌≡◌, ℕ, suc, ◌+◌, ◌≤◌, Bool, true, false, List, [], ◌∷◌, ◌++◌, map, Option, Some, None, refl, ap, sym, subst, ◌∙◌, arith, append_assoc}
use Rattle.std.specs.Prelude.{◌&&◌, codes}
use Rattle.std.specs.List.{list_all, flat_map}
use Rattle.std.specs.FinMap.{is_sorted}
use Rattle.std.proofs.lemmas.Bool.{and_parts, and_from, le-leb}
use Rattle.std.proofs.lemmas.List.{append-nil, map-id}
use Rattle.asp_model.specs.declared.limits.TheConstants.{MOST_REDUCTIONS}
use Rattle.asp_model.specs.Names.{Name, Text, main_name, name_cmp, same_name}
use Rattle.asp_model.specs.Contraction.{LineShape}
use Rattle.asp_model.specs.Step.{ListsShape}
use Rattle.asp_model.specs.Replay.{CountsShape, total}
use Rattle.asp_model.specs.Status.{VerdictShape, End, Blocked, Budget}
use Rattle.asp_model.specs.Outcome.{ActivityReportShape, OutcomeShape, lists_in, counts_in}
use Rattle.asp_model.specs.WellFormed.{is_named_reception, IsWellFormed, is_name, is_named_status, is_printable_line, is_sound_report, begins_with_main}
use Rattle.asp_model.specs.Report.{verdict_line, activity_line, senders_line, output_line, activity_lines, report_lines, text_of, report_of}
use Rattle.asp_model.specs.ReportLines.{parts, activity_in, senders_of, is_output}
use Rattle.asp_model.specs.ReadReport.{Title, Verdict, Main, Senders, Later, Progress, with_activity, with_senders, is_behind, behind, Reading, Reads, BadLine, read_on, read_report}
use Rattle.law_reports.proofs.PartsLemmas.{lacks, parts_lines}
use Rattle.law_reports.proofs.LineLemmas.{activity_is_read, activity_lacks, senders_are_read, senders_lack, is_plain, output_is_read, output_lacks, verdict_lacks}

-- No line has a line feed

lacks_all-append : (xs ys : List Text) → list_all (lacks 10) xs ≡ true → list_all (lacks 10) ys ≡ true → list_all (lacks 10) (xs ++ ys) ≡ true
lacks_all-append [] ys h g = g
lacks_all-append (x ∷ xs) ys h g = let p = and_parts (lacks 10 x) (list_all (lacks 10) xs) h in and_from _ _ p.0 (lacks_all-append xs ys p.1 g)

outputs_lack : (ls : List LineShape) → list_all is_printable_line ls ≡ true → list_all (lacks 10) (map output_line ls) ≡ true
outputs_lack [] h = refl
outputs_lack (l ∷ ls) h = let p = and_parts (is_printable_line l) (list_all is_printable_line ls) h in and_from _ _ (output_lacks l p.0) (outputs_lack ls p.1)

record Sound (a : ActivityReportShape) : Type 0 where
  name : is_name a.name ≡ true
  status : is_named_status a.status ≡ true
  senders : list_all is_named_reception a.senders ≡ true
  lines : list_all is_printable_line a.lines ≡ true

sound_parts : (a : ActivityReportShape) → is_sound_report a ≡ true → Sound a
sound_parts a h =
    let p = and_parts (is_name a.name) (is_named_status a.status && (list_all is_named_reception a.senders && list_all is_printable_line a.lines)) h in
    let q = and_parts (is_named_status a.status) (list_all is_named_reception a.senders && list_all is_printable_line a.lines) p.1 in
    let r = and_parts (list_all is_named_reception a.senders) (list_all is_printable_line a.lines) q.1 in
    record { name = p.0; status = q.0; senders = r.0; lines = r.1 }

activity_lack : (a : ActivityReportShape) → is_sound_report a ≡ true → list_all (lacks 10) (activity_lines a) ≡ true
activity_lack a h = and_from _ _ (activity_lacks a) (and_from _ _ (senders_lack a.senders) (outputs_lack a.lines (sound_parts a h).lines))

plain_lack : (ts : List Text) → list_all is_plain ts ≡ true → list_all (lacks 10) ts ≡ true
plain_lack [] h = refl
plain_lack (t ∷ ts) h = let p = and_parts (is_plain t) (list_all is_plain ts) h in and_from _ _ (and_parts (is_output t) (lacks 10 t) p.0).1 (plain_lack ts p.1)

-- Reading line by line

-- these lines and the end of the text give a result, whatever the number of the first
abbrev Gives : Progress → List Text → Reading → Type 0
Gives p ts r = (number : ℕ) → read_on p number (ts ++ [] ∷ []) ≡ r

going : ℕ → List Text → Option Progress → Reading
going number ts o = elim o [ None ↦ BadLine number | Some q ↦ read_on q (suc number) ts ]

one_more : (p q : Progress) (t : Text) (ts : List Text) (r : Reading) → behind p.next p t ≡ Some q → Gives q ts r → Gives p (t ∷ ts) r
unfolding going
one_more p q t [] r e h number = ap (going number ([] ∷ [])) e ∙ h (suc number)
one_more p q t (u ∷ ts) r e h number = ap (going number ((u ∷ ts) ++ [] ∷ [])) e ∙ h (suc number)

abbrev later : Name → ListsShape → CountsShape → Progress
later n lists counts = record { next = Later n; lists = lists; counts = counts; polls = true }

outputs_give : (n : Name) (lists : ListsShape) (counts : CountsShape) (xs ts : List Text) (r : Reading) → list_all is_output xs ≡ true → Gives (later n lists counts) ts r → Gives (later n lists counts) (xs ++ ts) r
outputs_give n lists counts [] ts r o h = h
outputs_give n lists counts (x ∷ xs) ts r o h =
    let p = and_parts (is_output x) (list_all is_output xs) o in
    one_more (later n lists counts) (later n lists counts) x (xs ++ ts) r
    (ap (λ b. elim b [ true ↦ Some (later n lists counts) | false ↦ with_activity (is_behind n) (later n lists counts) (activity_in (parts 32 x)) ]) p.0)
    (outputs_give n lists counts xs ts r p.1 h)

all_outputs : (ls : List LineShape) (xs : List Text) → list_all is_plain xs ≡ true → list_all is_output (map output_line ls ++ xs) ≡ true
all_outputs [] [] h = refl
all_outputs [] (x ∷ xs) h = let p = and_parts (is_plain x) (list_all is_plain xs) h in and_from _ _ (and_parts (is_output x) (lacks 10 x) p.0).0 (all_outputs [] xs p.1)
all_outputs (l ∷ ls) xs h = and_from _ _ (output_is_read l) (all_outputs ls xs h)

-- an activity that may stand here
activity_gives : (fits : Name → Bool) (p : Progress) (a : ActivityReportShape) → Sound a → fits a.name ≡ true → a.count ≤ MOST_REDUCTIONS → total (p.counts ++ (a.name, a.count) ∷ []) ≤ MOST_REDUCTIONS
    → with_activity fits p (activity_in (parts 32 (activity_line a))) ≡ Some (record { next = Senders a.name; lists = p.lists; counts = p.counts ++ (a.name, a.count) ∷ []; polls = p.polls })
activity_gives fits p a s f small within =
    ap (with_activity fits p) (activity_is_read a s.name s.status small)
    ∙ ap (λ b. elim b [ true ↦ Some (record { next = Senders a.name; lists = p.lists; counts = p.counts ++ (a.name, a.count) ∷ []; polls = p.polls }) | false ↦ None ]) (and_from _ _ f (le-leb (total (p.counts ++ (a.name, a.count) ∷ [])) MOST_REDUCTIONS within))

total-append : (xs ys : CountsShape) → total (xs ++ ys) ≡ total xs + total ys
total-append [] ys = omega arith
total-append (x ∷ xs) ys = ap (λ n. x.1 + n) (total-append xs ys) ∙ omega arith

-- the lines of an activity, further ones that may stand where outputs do, and then others
lines_give : (fits : Name → Bool) (p : Progress) (a : ActivityReportShape) (xs ts : List Text) (r : Reading) → p.polls ≡ true → Sound a → list_all is_plain xs ≡ true → fits a.name ≡ true → total (p.counts ++ (a.name, a.count) ∷ []) ≤ MOST_REDUCTIONS
    → behind p.next p (activity_line a) ≡ with_activity fits p (activity_in (parts 32 (activity_line a)))
    → Gives (later a.name (p.lists ++ (a.name, a.senders) ∷ []) (p.counts ++ (a.name, a.count) ∷ [])) ts r
    → Gives p ((activity_lines a ++ xs) ++ ts) r
lines_give fits p a xs ts r polls s plain f within line h =
    let counts : CountsShape = p.counts ++ (a.name, a.count) ∷ [] in
    let small : a.count ≤ MOST_REDUCTIONS = omega (arith, total-append p.counts ((a.name, a.count) ∷ []), within) in
    let between : Progress = record { next = Senders a.name; lists = p.lists; counts = counts; polls = p.polls } in
    let end : Progress = later a.name (p.lists ++ (a.name, a.senders) ∷ []) counts in
    let shown : List Text = map output_line a.lines ++ xs in
    one_more p between (activity_line a) (senders_line a.senders ∷ (shown ++ ts)) r (line ∙ activity_gives fits p a s f small within)
    (one_more between end (senders_line a.senders) (shown ++ ts) r (ap (λ b. with_senders a.name (record between { polls = b }) (senders_of b (parts 32 (senders_line a.senders)))) polls ∙ ap (with_senders a.name (record between { polls = true })) (senders_are_read a.senders s.senders))
    (outputs_give a.name (p.lists ++ (a.name, a.senders) ∷ []) counts shown ts r (all_outputs a.lines xs plain) h))

abbrev at_main : Progress
at_main = record { next = Main; lists = []; counts = []; polls = true }

verdict_goes_on : (v : VerdictShape) (p : Progress) → behind Verdict p (verdict_line v) ≡ Some (record p { next = Main })
verdict_goes_on End p = refl
verdict_goes_on Blocked p = refl
verdict_goes_on Budget p = refl

-- Reports with further lines behind those of each activity

module _ {X : Type 0} (report : X → ActivityReportShape) (extra : X → List Text) where
  abbrev lines_of : X → List Text
  lines_of x = activity_lines (report x) ++ extra x

  all_lack : (xs : List X) → list_all is_sound_report (map report xs) ≡ true → list_all (λ x. list_all is_plain (extra x)) xs ≡ true → list_all (lacks 10) (flat_map lines_of xs) ≡ true
  all_lack [] h g = refl
  all_lack (x ∷ xs) h g =
      let p = and_parts (is_sound_report (report x)) (list_all is_sound_report (map report xs)) h in
      let q = and_parts (list_all is_plain (extra x)) (list_all (λ y. list_all is_plain (extra y)) xs) g in
      lacks_all-append (lines_of x) (flat_map lines_of xs) (lacks_all-append (activity_lines (report x)) (extra x) (activity_lack (report x) p.0) (plain_lack (extra x) q.0)) (all_lack xs p.1 q.1)

  -- the activities behind one, in rising order
  activities_give : (n : Name) (k : ℕ) (lists : ListsShape) (counts : CountsShape) (rest : List X) → is_sorted name_cmp ((n, k) ∷ map (λ a. (a.name, a.count)) (map report rest)) ≡ true → list_all is_sound_report (map report rest) ≡ true
      → list_all (λ x. list_all is_plain (extra x)) rest ≡ true → total (counts ++ map (λ a. (a.name, a.count)) (map report rest)) ≤ MOST_REDUCTIONS
      → Gives (later n lists counts) (flat_map lines_of rest) (Reads (lists ++ map (λ a. (a.name, a.senders)) (map report rest)) (counts ++ map (λ a. (a.name, a.count)) (map report rest)))
  activities_give n k lists counts [] o h g within = λ number. sym (λ i. Reads (append-nil lists i) (append-nil counts i))
  activities_give n k lists counts (x ∷ rest) o h g within =
      let a : ActivityReportShape = report x in
      let all : CountsShape = map (λ b. (b.name, b.count)) (map report rest) in
      let p = and_parts (is_sound_report a) (list_all is_sound_report (map report rest)) h in
      let q = and_parts (list_all is_plain (extra x)) (list_all (λ y. list_all is_plain (extra y)) rest) g in
      let order = and_parts _ (is_sorted name_cmp ((a.name, a.count) ∷ all)) o in
      let first : is_behind n a.name ≡ true = (and_parts (is_behind n a.name) _ order.0).0 in
      let so_far : CountsShape = counts ++ (a.name, a.count) ∷ [] in
      let same : so_far ++ all ≡ counts ++ ((a.name, a.count) ∷ all) = append_assoc counts ((a.name, a.count) ∷ []) all in
      let up_to : total so_far ≤ MOST_REDUCTIONS = omega (arith, within, ap total same, total-append so_far all) in
      let behind_it = activities_give a.name a.count (lists ++ (a.name, a.senders) ∷ []) so_far rest order.1 p.1 q.1 (subst (λ (c : CountsShape). total c ≤ MOST_REDUCTIONS) (sym same) within) in
      let result : Reads ((lists ++ (a.name, a.senders) ∷ []) ++ map (λ b. (b.name, b.senders)) (map report rest)) (so_far ++ all) ≡ Reads (lists ++ map (λ b. (b.name, b.senders)) (map report (x ∷ rest))) (counts ++ map (λ b. (b.name, b.count)) (map report (x ∷ rest))) =
      λ i. Reads (append_assoc lists ((a.name, a.senders) ∷ []) (map (λ b. (b.name, b.senders)) (map report rest)) i) (same i) in
      subst (Gives (later n lists counts) (flat_map lines_of (x ∷ rest))) result
      (lines_give (is_behind n) (later n lists counts) a (extra x) (flat_map lines_of rest) _ refl (sound_parts a p.0) q.0 first up_to refl behind_it)

  main_gives : (rest : List X) → begins_with_main (map report rest) ≡ true → is_sorted name_cmp (map (λ a. (a.name, a.count)) (map report rest)) ≡ true → list_all is_sound_report (map report rest) ≡ true
      → list_all (λ x. list_all is_plain (extra x)) rest ≡ true → total (map (λ a. (a.name, a.count)) (map report rest)) ≤ MOST_REDUCTIONS
      → Gives at_main (flat_map lines_of rest) (Reads (map (λ a. (a.name, a.senders)) (map report rest)) (map (λ a. (a.name, a.count)) (map report rest)))
  main_gives [] m o h g within = absurd cc
  main_gives (x ∷ rest) m o h g within =
      let a : ActivityReportShape = report x in
      let p = and_parts (is_sound_report a) (list_all is_sound_report (map report rest)) h in
      let q = and_parts (list_all is_plain (extra x)) (list_all (λ y. list_all is_plain (extra y)) rest) g in
      let up_to : total ((a.name, a.count) ∷ []) ≤ MOST_REDUCTIONS = omega (arith, within) in
      lines_give (same_name main_name) at_main a (extra x) (flat_map lines_of rest) _ refl (sound_parts a p.0) q.0 m up_to refl
      (activities_give a.name a.count ((a.name, a.senders) ∷ []) ((a.name, a.count) ∷ []) rest o p.1 q.1 within)

  pub extended_is_read : (v : VerdictShape) (xs : List X) → IsWellFormed (record { verdict = v; activities = map report xs }) → list_all (λ x. list_all is_plain (extra x)) xs ≡ true
      → read_report (text_of (codes "asp report 2" ∷ verdict_line v ∷ flat_map lines_of xs)) ≡ Reads (map (λ a. (a.name, a.senders)) (map report xs)) (map (λ a. (a.name, a.count)) (map report xs))
  extended_is_read v xs w plain =
      let lines : List Text = flat_map lines_of xs in
      let start : Progress = record { next = Title; lists = []; counts = []; polls = false } in
      let titled : Progress = record { next = Verdict; lists = []; counts = []; polls = true } in
      let lack : list_all (lacks 10) (codes "asp report 2" ∷ verdict_line v ∷ lines) ≡ true = and_from _ _ refl (and_from _ _ (verdict_lacks v) (all_lack xs w.sound plain)) in
      ap (read_on start 1) (parts_lines (codes "asp report 2" ∷ verdict_line v ∷ lines) lack)
      ∙ one_more start titled (codes "asp report 2") (verdict_line v ∷ lines) _ refl
      (one_more titled at_main (verdict_line v) lines _ (verdict_goes_on v titled)
      (main_gives xs w.main w.ascending w.sound plain w.within)) 1

-- Whole reports

no_lines : ActivityReportShape → List Text
no_lines a = []

none_plain : (rs : List ActivityReportShape) → list_all (λ a. list_all is_plain (no_lines a)) rs ≡ true
unfolding no_lines
none_plain [] = refl
none_plain (a ∷ rs) = none_plain rs

bare_lines : (rs : List ActivityReportShape) → flat_map activity_lines rs ≡ flat_map (λ a. activity_lines a ++ no_lines a) rs
unfolding no_lines
bare_lines [] = refl
bare_lines (a ∷ rs) = λ i. (sym (append-nil (activity_lines a))) i ++ bare_lines rs i

pub report_is_read : (o : OutcomeShape) → IsWellFormed o → read_report (report_of o) ≡ Reads (lists_in o) (counts_in o)
unfolding report_lines
report_is_read o w =
    let same : map (λ a. a) o.activities ≡ o.activities = map-id o.activities in
    let well : IsWellFormed (record { verdict = o.verdict; activities = map (λ a. a) o.activities }) = subst (λ (rs : List ActivityReportShape). IsWellFormed (record { verdict = o.verdict; activities = rs })) (sym same) w in
    ap (λ (ls : List Text). read_report (text_of (codes "asp report 2" ∷ verdict_line o.verdict ∷ ls))) (bare_lines o.activities)
    ∙ extended_is_read (λ a. a) no_lines o.verdict o.activities well (none_plain o.activities)
    ∙ ap (λ (rs : List ActivityReportShape). Reads (map (λ a. (a.name, a.senders)) rs) (map (λ a. (a.name, a.count)) rs)) same
