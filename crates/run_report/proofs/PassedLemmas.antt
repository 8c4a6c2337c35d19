-- A line behind a report that reading passes over.
use Rattle.std.proofs.Common.{◌≡◌, ℕ, suc, Bool, true, false, List, [], ◌∷◌, ◌++◌, Option, Some, None, refl, sym, ap, ◌∙◌, append_assoc, arith}
use Rattle.std.specs.Prelude.{◌==◌, codes}
use Rattle.std.specs.List.{onto_first}
use Rattle.std.proofs.lemmas.List.{append-nil}
use Rattle.asp_model.specs.Names.{Name, Text}
use Rattle.asp_model.specs.Step.{ListsShape}
use Rattle.asp_model.specs.Replay.{CountsShape}
use Rattle.asp_model.specs.Report.{name_text, text_of, with_feed}
use Rattle.asp_model.specs.ReportLines.{parts, activity_in, is_output}
use Rattle.asp_model.specs.ReadReport.{Next, Title, Verdict, Main, Senders, Later, Progress, with_activity, is_behind, behind, Reading, Reads, BadLine, ended, read_on, read_report}
use Rattle.def_paths.specs.Outcomes.{report_lines_to, reported}
use Rattle.law_reports.proofs.PartsLemmas.{lacks, lacks-append, parts_at}
use Rattle.law_reports.proofs.NameLemmas.{name_lacks}
use Rattle.determinacy.specs.Rulings.{RulingShape, Determinate, Open, NotEnded, ruled}
use Rattle.run_report.specs.Rulings.{RulingsArePassedOver, ruling_lines}

-- Parts of a text that ends with a line feed, and of one that it begins

abbrev feed : ℕ
feed = 10

-- what stands in front of some parts: a feed, or another byte
cut : ℕ → Bool → List Text → List Text
cut b t ps = elim t [ true ↦ [] ∷ ps | false ↦ onto_first b ps ]

some_cut : (b : ℕ) (t : Bool) (ps : List Text) → cut b t ps ≡ [] → ⊥
unfolding cut
some_cut b true ps e = cc
some_cut b false [] e = cc
some_cut b false (p ∷ ps) e = cc

some_part : (xs : Text) → parts feed xs ≡ [] → ⊥
unfolding cut
some_part [] e = cc
some_part (b ∷ bs) e = some_cut b (b == feed) (parts feed bs) e

joined : (b : ℕ) (t : Bool) (ps ts more rest : List Text) → (ps ≡ [] → ⊥)
    → ((us : List Text) → ps ≡ us ++ [] ∷ [] → more ≡ us ++ rest)
    → cut b t ps ≡ ts ++ [] ∷ [] → cut b t more ≡ ts ++ rest
unfolding cut
joined b true ps [] more rest some on e = absurd (some cc)
joined b true ps (t ∷ ts) more rest some on e =
    let head : [] ≡ t = cc in
    let tail : ps ≡ ts ++ [] ∷ [] = cc in
    (λ i. head i ∷ on ts tail i)
joined b false [] ts more rest some on e = absurd (some refl)
joined b false (p ∷ ps) [] more rest some on e = absurd cc
joined b false (p ∷ ps) (t ∷ ts) more rest some on e =
    let head : b ∷ p ≡ t = cc in
    let tail : ps ≡ ts ++ [] ∷ [] = cc in
    ap (onto_first b) (on (p ∷ ts) (ap (λ (l : List Text). p ∷ l) tail)) ∙ (λ i. head i ∷ (ts ++ rest))

-- the parts in front of the last feed stay
parts_then : (xs ys : Text) (ts : List Text) → parts feed xs ≡ ts ++ [] ∷ [] → parts feed (xs ++ ys) ≡ ts ++ parts feed ys
unfolding cut
parts_then [] ys [] e = refl
parts_then [] ys (t ∷ []) e = absurd cc
parts_then [] ys (t ∷ u ∷ ts) e = absurd cc
parts_then (b ∷ bs) ys ts e = joined b (b == feed) (parts feed bs) ts (parts feed (bs ++ ys)) (parts feed ys) (some_part bs) (parts_then bs ys) e

-- Reading one line more

-- the parts end with an empty one, and with an output in front of it they are read as before
record GoesOn (p : Progress) (number : ℕ) (ts : List Text) (r : Reading) : Type 0 where
  front : List Text
  whole : ts ≡ front ++ [] ∷ []
  on : (line : Text) → is_output line ≡ true → read_on p number (front ++ line ∷ [] ∷ []) ≡ r

going : ℕ → List Text → Option Progress → Reading
going number ts o = elim o [ None ↦ BadLine number | Some q ↦ read_on q (suc number) ts ]

passing : Name → Progress → Text → Bool → Option Progress
passing n p line b = elim b [ true ↦ Some p | false ↦ with_activity (is_behind n) p (activity_in (parts 32 line)) ]

at_end : (p : Progress) (number : ℕ) (next : Next) (t : Text) (lists : ListsShape) (counts : CountsShape) → p.next ≡ next → ended next p number t ≡ Reads lists counts → GoesOn p number (t ∷ []) (Reads lists counts)
unfolding going passing
at_end p number (Later n) [] lists counts at e = record {
  front = [];
  whole = refl;
  on = λ line out.
      ap (λ (x : Next). going number ([] ∷ []) (behind x p line)) at
      ∙ ap (λ (b : Bool). going number ([] ∷ []) (passing n p line b)) out
      ∙ ap (λ (x : Next). ended x p (suc number) []) at ∙ e;
}
at_end p number (Later n) (b ∷ t) lists counts at e = absurd cc
at_end p number Title t lists counts at e = absurd cc
at_end p number Verdict t lists counts at e = absurd cc
at_end p number Main t lists counts at e = absurd cc
at_end p number (Senders n) t lists counts at e = absurd cc

then_line : (p : Progress) (number : ℕ) (t line : Text) (front : List Text) → read_on p number (t ∷ (front ++ line ∷ [] ∷ [])) ≡ going number (front ++ line ∷ [] ∷ []) (behind p.next p t)
unfolding going
then_line p number t line [] = refl
then_line p number t line (u ∷ front) = refl

reads_behind : (p : Progress) (number : ℕ) (t u : Text) (ts : List Text) (lists : ListsShape) (counts : CountsShape) (o : Option Progress) → behind p.next p t ≡ o → going number (u ∷ ts) o ≡ Reads lists counts
    → ((q : Progress) → read_on q (suc number) (u ∷ ts) ≡ Reads lists counts → GoesOn q (suc number) (u ∷ ts) (Reads lists counts)) → GoesOn p number (t ∷ u ∷ ts) (Reads lists counts)
unfolding going
reads_behind p number t u ts lists counts None is e on = absurd cc
reads_behind p number t u ts lists counts (Some q) is e on =
    let later = on q e in
    record {
      front = t ∷ later.front;
      whole = ap (λ (l : List Text). t ∷ l) later.whole;
      on = λ line out. then_line p number t line later.front ∙ ap (going number (later.front ++ line ∷ [] ∷ [])) is ∙ later.on line out;
    }

reads_on : (p : Progress) (number : ℕ) (ts : List Text) (lists : ListsShape) (counts : CountsShape) → read_on p number ts ≡ Reads lists counts → GoesOn p number ts (Reads lists counts)
unfolding going
reads_on p number [] lists counts e = absurd cc
reads_on p number (t ∷ []) lists counts e = at_end p number p.next t lists counts refl e
reads_on p number (t ∷ u ∷ ts) lists counts e = reads_behind p number t u ts lists counts (behind p.next p t) refl e (λ q. reads_on q (suc number) (u ∷ ts) lists counts)

-- a line behind a report changes nothing, where it may stand where outputs do
pub passed_over : (bytes line : Text) (lists : ListsShape) (counts : CountsShape) → is_output line ≡ true → lacks feed line ≡ true → read_report bytes ≡ Reads lists counts → read_report (bytes ++ with_feed line) ≡ Reads lists counts
passed_over bytes line lists counts out lack e =
    let start : Progress = record { next = Title; lists = []; counts = []; polls = false } in
    let all = reads_on start 1 (parts feed bytes) lists counts e in
    ap (read_on start 1) (parts_then bytes (with_feed line) all.front all.whole ∙ ap (λ (l : List Text). all.front ++ l) (parts_at feed line [] lack))
    ∙ all.on line out

-- Rulings

texts_then : (xs ys : List Text) → text_of (xs ++ ys) ≡ text_of xs ++ text_of ys
texts_then [] ys = refl
texts_then (x ∷ xs) ys = ap (λ (l : Text). with_feed x ++ l) (texts_then xs ys) ∙ sym (append_assoc (with_feed x) (text_of xs) (text_of ys))

ruling_passes : (bytes : Text) (r : RulingShape) (lists : ListsShape) (counts : CountsShape) → read_report bytes ≡ Reads lists counts → read_report (bytes ++ text_of (ruling_lines r)) ≡ Reads lists counts
ruling_passes bytes Determinate lists counts e =
    ap (λ (l : Text). read_report (bytes ++ l)) (append-nil (with_feed (codes ". determinate")))
    ∙ passed_over bytes (codes ". determinate") lists counts refl refl e
ruling_passes bytes (Open name) lists counts e =
    let line : Text = codes ". open " ++ name_text name in
    ap (λ (l : Text). read_report (bytes ++ l)) (append-nil (with_feed line))
    ∙ passed_over bytes line lists counts refl (lacks-append feed (codes ". open ") (name_text name) refl (name_lacks feed (omega arith) name)) e
ruling_passes bytes NotEnded lists counts e = ap read_report (append-nil bytes) ∙ e

pub rulings_are_passed_over : RulingsArePassedOver
rulings_are_passed_over o lists counts e =
    ap read_report (texts_then (report_lines_to None o) (ruling_lines (ruled (reported o))))
    ∙ ruling_passes (text_of (report_lines_to None o)) (ruled (reported o)) lists counts e
