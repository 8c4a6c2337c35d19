-- What is read has one list and one count a name, in the order of names.
use Rattle.std.proofs.Common.{◌≡◌, ℕ, suc, ◌≤◌, Bool, true, false, List, [], ◌∷◌, ◌++◌, map, Option, Some, None, refl, ap, sym, subst, ◌∙◌}
use Rattle.std.specs.Prelude.{◌&&◌, nat_le, codes}
use Rattle.std.specs.Option.{unwrap_or}
use Rattle.std.specs.FinMap.{is_sorted}
use Rattle.std.proofs.lemmas.Bool.{and_parts, leb-true}
use Rattle.std.proofs.lemmas.List.{map-append}
use Rattle.asp_model.specs.declared.limits.TheConstants.{MOST_REDUCTIONS}
use Rattle.asp_model.specs.Names.{Name, Text, main_name, name_cmp, same_name, same_text}
use Rattle.asp_model.specs.Term.{has_text}
use Rattle.asp_model.specs.Configuration.{ReceptionShape}
use Rattle.asp_model.specs.Step.{ListsShape}
use Rattle.asp_model.specs.Replay.{CountsShape, total}
use Rattle.asp_model.specs.ReportLines.{parts, verdict_lines, activity_in, senders_of, is_output}
use Rattle.asp_model.specs.ReadReport.{Next, Title, Verdict, Main, Senders, Later, Progress, goes_on, with_activity, with_senders, is_behind, behind, Reads, BadLine, ended, read_on, read_report}
use Rattle.sender_log.specs.Progress.{with_entry}
use Rattle.sender_log.proofs.OrderLemmas.{sorted_more}

abbrev names : {X : Type 0} → List (Name × X) → List Name
names es = map (λ x. x.0) es

-- the same names in strictly ascending order, and counts within the bound
pub record IsLog (lists : ListsShape) (counts : CountsShape) : Type 0 where
  pub same : map (λ x. x.0) lists ≡ map (λ x. x.0) counts
  pub ascending : is_sorted name_cmp counts ≡ true
  pub within : total counts ≤ MOST_REDUCTIONS

-- the counts end with that of this name
record IsUpTo (n : Name) (counts : CountsShape) : Type 0 where
  before : CountsShape
  count : ℕ
  last : counts ≡ before ++ (n, count) ∷ []
  ascending : is_sorted name_cmp counts ≡ true
  within : total counts ≤ MOST_REDUCTIONS

abbrev IsEmpty : Progress → Type 0
IsEmpty p = (p.lists ≡ []) × (p.counts ≡ [])

abbrev Holds : Next → Progress → Type 0
Holds Title p = IsEmpty p
Holds Verdict p = IsEmpty p
Holds Main p = IsEmpty p
Holds (Senders n) p = IsUpTo n p.counts × (names p.lists ++ n ∷ [] ≡ names p.counts)
Holds (Later n) p = IsUpTo n p.counts × (names p.lists ≡ names p.counts)

-- One line

some_is : {X : Type 0} (x y : X) → Some x ≡ Some y → x ≡ y
some_is x y e = ap (λ o. unwrap_or o x) e

title_keeps : (p q : Progress) (b : Bool) → IsEmpty p → goes_on Verdict p b ≡ Some q → Holds q.next q
title_keeps p q true h e = subst (λ (r : Progress). Holds r.next r) (some_is _ _ e) h
title_keeps p q false h e = absurd cc

-- of either version
version_keeps : (p q : Progress) (second first : Bool) → IsEmpty p → elim second [ true ↦ goes_on Verdict (record p { polls = true }) true | false ↦ goes_on Verdict p first ] ≡ Some q → Holds q.next q
version_keeps p q true first h e = title_keeps (record p { polls = true }) q true h e
version_keeps p q false first h e = title_keeps p q first h e

verdict_keeps : (p q : Progress) (b : Bool) → IsEmpty p → goes_on Main p b ≡ Some q → Holds q.next q
verdict_keeps p q true h e = subst (λ (r : Progress). Holds r.next r) (some_is _ _ e) h
verdict_keeps p q false h e = absurd cc

-- an activity line that may stand there
record Taken (fits : Name → Bool) (p q : Progress) : Type 0 where
  entry : Name × ℕ
  fitting : fits entry.0 ≡ true
  within : total (p.counts ++ entry ∷ []) ≤ MOST_REDUCTIONS
  is : with_entry p entry.0 entry.1 ≡ q

taken : (fits : Name → Bool) (p q : Progress) (a : Name × ℕ) (b : Bool) → (fits a.0 && nat_le (total (p.counts ++ a ∷ [])) MOST_REDUCTIONS) ≡ b → elim b [ true ↦ Some (with_entry p a.0 a.1) | false ↦ None ] ≡ Some q → Taken fits p q
taken fits p q a true e h =
    let t = and_parts (fits a.0) (nat_le (total (p.counts ++ a ∷ [])) MOST_REDUCTIONS) e in
    record { entry = a; fitting = t.0; within = leb-true (total (p.counts ++ a ∷ [])) MOST_REDUCTIONS t.1; is = some_is _ _ h }
taken fits p q a false e h = absurd cc

takes : (fits : Name → Bool) (p q : Progress) (o : Option (Name × ℕ)) → with_activity fits p o ≡ Some q → Taken fits p q
takes fits p q None h = absurd cc
takes fits p q (Some a) h = taken fits p q a (fits a.0 && nat_le (total (p.counts ++ a ∷ [])) MOST_REDUCTIONS) refl h

entry_keeps : (p : Progress) (a : Name × ℕ) → names p.lists ≡ names p.counts → is_sorted name_cmp (p.counts ++ a ∷ []) ≡ true → total (p.counts ++ a ∷ []) ≤ MOST_REDUCTIONS → Holds (Senders a.0) (with_entry p a.0 a.1)
entry_keeps p a same sorted within = (
  record { before = p.counts; count = a.1; last = refl; ascending = sorted; within = within },
  ap (λ (ns : List Name). ns ++ a.0 ∷ []) same ∙ sym (map-append (λ (x : Name × ℕ). x.0) p.counts (a ∷ [])),
)

main_keeps : (p q : Progress) → IsEmpty p → Taken (same_name main_name) p q → Holds q.next q
main_keeps p q h t =
    let sorted : is_sorted name_cmp (p.counts ++ t.entry ∷ []) ≡ true = ap (λ (cs : CountsShape). is_sorted name_cmp (cs ++ t.entry ∷ [])) h.1 in
    let same : names p.lists ≡ names p.counts = ap (λ (ls : ListsShape). names ls) h.0 ∙ sym (ap (λ (cs : CountsShape). names cs) h.1) in
    subst (λ (r : Progress). Holds r.next r) t.is (entry_keeps p t.entry same sorted t.within)

later_keeps : (n : Name) (p q : Progress) → Holds (Later n) p → Taken (is_behind n) p q → Holds q.next q
later_keeps n p q h t =
    let up = h.0 in
    let first : is_sorted name_cmp (up.before ++ (n, up.count) ∷ []) ≡ true = subst (λ (cs : CountsShape). is_sorted name_cmp cs ≡ true) up.last up.ascending in
    let more = sorted_more n t.entry.0 up.count t.entry.1 up.before first t.fitting in
    let sorted : is_sorted name_cmp (p.counts ++ t.entry ∷ []) ≡ true = subst (λ (cs : CountsShape). is_sorted name_cmp (cs ++ t.entry ∷ []) ≡ true) (sym up.last) more in
    subst (λ (r : Progress). Holds r.next r) t.is (entry_keeps p t.entry h.1 sorted t.within)

output_keeps : (n : Name) (p q : Progress) (b : Bool) (o : Option (Name × ℕ)) → p.next ≡ Later n → Holds (Later n) p → elim b [ true ↦ Some p | false ↦ with_activity (is_behind n) p o ] ≡ Some q → Holds q.next q
output_keeps n p q true o here h e = subst (λ (r : Progress). Holds r.next r) (some_is p q e) (subst (λ (k : Next). Holds k p) (sym here) h)
output_keeps n p q false o here h e = later_keeps n p q h (takes (is_behind n) p q o e)

senders_keep : (n : Name) (p q : Progress) (o : Option (List ReceptionShape)) → Holds (Senders n) p → with_senders n p o ≡ Some q → Holds q.next q
senders_keep n p q None h e = absurd cc
senders_keep n p q (Some ns) h e =
    let same : names (p.lists ++ (n, ns) ∷ []) ≡ names p.counts = map-append (λ (x : Name × List ReceptionShape). x.0) p.lists ((n, ns) ∷ []) ∙ h.1 in
    subst (λ (r : Progress). Holds r.next r) (some_is _ _ e) (h.0, same)

line_keeps : (next : Next) (p q : Progress) (line : Text) → p.next ≡ next → Holds next p → behind next p line ≡ Some q → Holds q.next q
line_keeps Title p q line here h e = version_keeps p q (same_text line (codes "asp report 2")) (same_text line (codes "asp report 1")) h e
line_keeps Verdict p q line here h e = verdict_keeps p q (has_text line verdict_lines) h e
line_keeps Main p q line here h e = main_keeps p q h (takes (same_name main_name) p q (activity_in (parts 32 line)) e)
line_keeps (Senders n) p q line here h e = senders_keep n p q (senders_of p.polls (parts 32 line)) h e
line_keeps (Later n) p q line here h e = output_keeps n p q (is_output line) (activity_in (parts 32 line)) here h e

-- Whole texts

moved : (ls ms : ListsShape) (cs ds : CountsShape) → ls ≡ ms → cs ≡ ds → IsLog ls cs → IsLog ms ds
moved ls ms cs ds e f log = subst (λ (l : ListsShape). IsLog l ds) e (subst (λ (c : CountsShape). IsLog ls c) f log)

end_gives : (next : Next) (p : Progress) (number : ℕ) (t : Text) (lists : ListsShape) (counts : CountsShape) → Holds next p → ended next p number t ≡ Reads lists counts → IsLog lists counts
end_gives Title p number t lists counts h e = absurd cc
end_gives Verdict p number t lists counts h e = absurd cc
end_gives Main p number t lists counts h e = absurd cc
end_gives (Senders n) p number t lists counts h e = absurd cc
end_gives (Later n) p number [] lists counts h e =
    let first : p.lists ≡ lists = cc in
    let second : p.counts ≡ counts = cc in
    moved p.lists lists p.counts counts first second (record { same = h.1; ascending = h.0.ascending; within = h.0.within })
end_gives (Later n) p number (b ∷ t) lists counts h e = absurd cc

line_gives : (p : Progress) (number : ℕ) (t : Text) (us : List Text) (o : Option Progress) (lists : ListsShape) (counts : CountsShape) → behind p.next p t ≡ o → Holds p.next p → elim o [ None ↦ BadLine number | Some q ↦ read_on q (suc number) us ] ≡ Reads lists counts
    → ((q : Progress) → Holds q.next q → read_on q (suc number) us ≡ Reads lists counts → IsLog lists counts) → IsLog lists counts
line_gives p number t us None lists counts b h e rest = absurd cc
line_gives p number t us (Some q) lists counts b h e rest = rest q (line_keeps p.next p q t refl h b) e

lines_give : (ts : List Text) (p : Progress) (number : ℕ) (lists : ListsShape) (counts : CountsShape) → Holds p.next p → read_on p number ts ≡ Reads lists counts → IsLog lists counts
lines_give [] p number lists counts h e = absurd cc
lines_give (t ∷ []) p number lists counts h e = end_gives p.next p number t lists counts h e
lines_give (t ∷ u ∷ ts) p number lists counts h e =
    line_gives p number t (u ∷ ts) (behind p.next p t) lists counts refl h e (λ q k g. lines_give (u ∷ ts) q (suc number) lists counts k g)

pub read_gives : (bytes : Text) (lists : ListsShape) (counts : CountsShape) → read_report bytes ≡ Reads lists counts → IsLog lists counts
read_gives bytes lists counts e = lines_give (parts 10 bytes) (record { next = Title; lists = []; counts = []; polls = false }) 1 lists counts (refl, refl) e
