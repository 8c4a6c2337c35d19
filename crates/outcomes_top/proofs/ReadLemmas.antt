-- What a source was asked for in one part of a call and then in the next, and what files show in both.
use Rattle.std.proofs.Common.{◌≡◌, ◌≤◌, ◌+◌, ℕ, suc, List, [], ◌∷◌, ◌++◌, length, true, false, Option, Result, Ok, refl, sym, ap, subst, ◌∙◌, append_assoc, inl, inr, arith}
use Rattle.std.specs.Prelude.{is_ok}
use Rattle.std.proofs.lemmas.List.{length-append}
use Rattle.asp_edge.specs.Told.{Asks, SourceTells}
use Rattle.asp_edge.specs.Causes.{IsContent, Rose}
use Rattle.asp_edge.specs.declared.edge.ReadError.{ReadError}
use Rattle.asp_model.specs.declared.limits.TheConstants.{MOST_PROGRAM_BYTES, MOST_REPORT_BYTES}
use Rattle.asp_model.specs.Marked.{Marked}
use Rattle.asp_model.specs.Names.{Text}
use Rattle.asp_model.specs.Term.{Tree}
use Rattle.asp_model.specs.Step.{ListsShape}
use Rattle.asp_model.specs.Replay.{CountsShape}
use Rattle.asp_top.specs.Programs.{AsksInTurn, HasReport, InTurn, IsFile, IsInFile}
use Rattle.asp_top.specs.Seen.{Asked, Gave, IsLongContent, Outside, outside_between}
use Rattle.asp_top.proofs.AskLemmas.{in_turn_none}
use Rattle.law_families.specs.Families.{RunLogs}
use Rattle.outcomes_top.specs.declared.halt.Fault.{Fault}
use Rattle.outcomes_top.specs.declared.halt.Fault.TheVariants as faults
use Rattle.outcomes_top.specs.Given.{HasNoEnd, IsRefused, RefusedAmong, ShowEnds, ShowsEnd}
use Rattle.outcomes_top.specs.Surveys.{AreRead}

-- nothing was asked
pub none_read : {S : Type 0} (told : S → SourceTells) (s : S) (names : List Text) → AsksInTurn (outside_between told s s) names
none_read told s names = in_turn_none (outside_between told s s) names refl

-- Files that were read, one behind another

pub read_length : (names : List Text) (asks : Asks) → AreRead names asks → length asks ≡ length names
read_length [] [] h = refl
read_length [] (ask ∷ asks) h = absurd h
read_length (name ∷ names) [] h = absurd h
read_length (name ∷ names) (ask ∷ asks) h = ap suc (read_length names asks h.2)

pub read_more : (names : List Text) (asks : Asks) (name : Text) (answer : Result (List ℕ) ReadError) → AreRead names asks → is_ok answer ≡ true → AreRead (names ++ name ∷ []) (asks ++ (name, answer) ∷ [])
read_more [] [] name answer h e = (refl, e, tt)
read_more [] (ask ∷ asks) name answer h e = absurd h
read_more (n ∷ names) [] name answer h e = absurd h
read_more (n ∷ names) (ask ∷ asks) name answer h e = (h.0, h.1, read_more names asks name answer h.2 e)

true_false : {A : Type 0} → true ≡ false → A
true_false e = absurd cc

-- what was read first is in turn, and one file more
pub read_in_turn : (names rest : List Text) (asks : Asks) → AreRead names asks → InTurn (names ++ rest) asks
read_in_turn [] rest [] h = tt
read_in_turn [] rest (ask ∷ asks) h = absurd h
read_in_turn (n ∷ names) rest [] h = absurd h
read_in_turn (n ∷ names) rest (ask ∷ asks) h = (h.0, read_in_turn names rest asks h.2, λ no. true_false (sym h.1 ∙ no))

pub then_in_turn : (names rest : List Text) (asks : Asks) (name : Text) (answer : Result (List ℕ) ReadError) → AreRead names asks → InTurn (names ++ name ∷ rest) (asks ++ (name, answer) ∷ [])
then_in_turn [] rest [] name answer h = (refl, tt, λ no. refl)
then_in_turn [] rest (ask ∷ asks) name answer h = absurd h
then_in_turn (n ∷ names) rest [] name answer h = absurd h
then_in_turn (n ∷ names) rest (ask ∷ asks) name answer h = (h.0, then_in_turn names rest asks name answer h.2, λ no. true_false (sym h.1 ∙ no))

-- and others in turn behind them
pub turn_then : (names rest : List Text) (asks more : Asks) → AreRead names asks → InTurn rest more → InTurn (names ++ rest) (asks ++ more)
turn_then [] rest [] more h g = g
turn_then [] rest (ask ∷ asks) more h g = absurd h
turn_then (n ∷ names) rest [] more h g = absurd h
turn_then (n ∷ names) rest (ask ∷ asks) more h g = (h.0, turn_then names rest asks more h.2 g, λ no. true_false (sym h.1 ∙ no))

-- Lists of files

pub shows_more : (o : Outside) (place at : ℕ) (program : Tree) (names : List Text) (ends : List RunLogs) (name : Text) (x : RunLogs) → at ≡ place + length names → ShowEnds o place program names ends → ShowsEnd o at program name x
    → ShowEnds o place program (names ++ name ∷ []) (ends ++ x ∷ [])
shows_more o place at program [] [] name x e h g = let here : at ≡ place = omega (arith, e) in (subst (λ (p : ℕ). ShowsEnd o p program name x) here g, tt)
shows_more o place at program [] (y ∷ ends) name x e h g = absurd h
shows_more o place at program (n ∷ names) [] name x e h g = absurd h
shows_more o place at program (n ∷ names) (y ∷ ends) name x e h g =
    let next : at ≡ suc place + length names = omega (arith, e) in
    (h.0, shows_more o (suc place) at program names ends name x next h.1 g)

pub among_at : (o : Outside) (place at : ℕ) (program : Tree) (names rest : List Text) (ends : List RunLogs) (name : Text) (fault : Fault) → at ≡ place + length names → ShowEnds o place program names ends
    → IsRefused o at program name fault → RefusedAmong o place program (names ++ name ∷ rest) name fault
among_at o place at program [] rest [] name fault e h g = let here : at ≡ place = omega (arith, e) in inl (refl, subst (λ (p : ℕ). IsRefused o p program name fault) here g)
among_at o place at program [] rest (y ∷ ends) name fault e h g = absurd h
among_at o place at program (n ∷ names) rest [] name fault e h g = absurd h
among_at o place at program (n ∷ names) rest (y ∷ ends) name fault e h g =
    let next : at ≡ suc place + length names = omega (arith, e) in
    inr ((y, h.0), among_at o (suc place) at program names rest ends name fault next h.1 g)

-- a part of a call, and then another

module _ {S : Type 0} (told : S → SourceTells) (first middle last : S) where
  abbrev before : Outside
  before = outside_between told first middle

  abbrev behind : Outside
  behind = outside_between told middle last

  abbrev whole : Outside
  whole = outside_between told first last

  pub asked_then : (asks more : Asks) → Asked before asks → Asked behind more → Asked whole (asks ++ more)
  asked_then asks more h g = g ∙ ap (λ (l : Asks). l ++ more) h ∙ append_assoc (told first).asked asks more

  -- what was so stays so

  module _ (more : Asks) (asked : Asked behind more) where
    gave_stays : (place : ℕ) (name : List ℕ) (a : Result (List ℕ) ReadError) → Gave before place name a → Gave whole place name a
    gave_stays place name a g = record {
      front = g.front;
      back = g.back ++ more;
      at = g.at;
      asked = asked_then (g.front ++ (name, a) ∷ g.back) more g.asked asked
          ∙ ap (λ (l : Asks). (told first).asked ++ l) (append_assoc g.front ((name, a) ∷ g.back) more);
    }

    file_stays : (place : ℕ) (name : List ℕ) (most : ℕ) (bytes : List ℕ) → IsFile before place name most bytes → IsFile whole place name most bytes
    file_stays place name most bytes f = record { gave = gave_stays place name (Ok bytes) f.gave; told = f.told; within = f.within }

    pub program_stays : (name : List ℕ) (program : Marked) → IsInFile before name program → IsInFile whole name program
    program_stays name program h = record { bytes = h.bytes; text = file_stays 0 name MOST_PROGRAM_BYTES h.bytes h.text; is = h.is }

    pub show_stay : (place : ℕ) (program : Tree) (names : List Text) (ends : List RunLogs) → ShowEnds before place program names ends → ShowEnds whole place program names ends
    show_stay place program [] [] h = tt
    show_stay place program [] (x ∷ ends) h = absurd h
    show_stay place program (name ∷ names) [] h = absurd h
    show_stay place program (name ∷ names) (x ∷ ends) h = (
      record {
        report = record { bytes = h.0.report.bytes; file = file_stays place name MOST_REPORT_BYTES h.0.report.bytes h.0.report.file; reads = h.0.report.reads };
        ended = h.0.ended;
      },
      show_stay (suc place) program names ends h.1,
    )

  -- what came later comes at later places

  module _ (asks : Asks) (asked : Asked before asks) where
    gave_later : (place : ℕ) (name : List ℕ) (a : Result (List ℕ) ReadError) → Gave behind place name a → Gave whole (length asks + place) name a
    gave_later place name a g = record {
      front = asks ++ g.front;
      back = g.back;
      at = omega (arith, length-append asks g.front, g.at);
      asked = asked_then asks (g.front ++ (name, a) ∷ g.back) asked g.asked
          ∙ ap (λ (l : Asks). (told first).asked ++ l) (sym (append_assoc asks g.front ((name, a) ∷ g.back)));
    }

    module _ (same : (told middle).content ≡ (told first).content) where
      file_later : (place : ℕ) (name : List ℕ) (most : ℕ) (bytes : List ℕ) → IsFile behind place name most bytes → IsFile whole (length asks + place) name most bytes
      file_later place name most bytes f = record {
        gave = gave_later place name (Ok bytes) f.gave;
        told = subst (λ (k : List ℕ → Option (List ℕ)). IsContent (k name) bytes) same f.told;
        within = f.within;
      }

      report_later : (place : ℕ) (name : List ℕ) (lists : ListsShape) (counts : CountsShape) → HasReport behind place name lists counts → HasReport whole (length asks + place) name lists counts
      report_later place name lists counts h = record { bytes = h.bytes; file = file_later place name MOST_REPORT_BYTES h.bytes h.file; reads = h.reads }

      pub shows_later : (place : ℕ) (program : Tree) (name : Text) (x : RunLogs) → ShowsEnd behind place program name x → ShowsEnd whole (length asks + place) program name x
      shows_later place program name x h = record { report = report_later place name x.0 x.1 h.report; ended = h.ended }

      pub show_later : (place at : ℕ) (program : Tree) (names : List Text) (ends : List RunLogs) → at ≡ length asks + place → ShowEnds behind place program names ends → ShowEnds whole at program names ends
      show_later place at program [] [] e h = tt
      show_later place at program [] (x ∷ ends) e h = absurd h
      show_later place at program (name ∷ names) [] e h = absurd h
      show_later place at program (name ∷ names) (x ∷ ends) e h =
          let next : suc at ≡ length asks + suc place = omega (arith, e) in
          (subst (λ (p : ℕ). ShowsEnd whole p program name x) (sym e) (shows_later place program name x h.0), show_later (suc place) (suc at) program names ends next h.1)

      module _ (later : (told first).faults ≤ (told middle).faults) where
        rose_later : Rose (told middle).faults (told last).faults → Rose (told first).faults (told last).faults
        rose_later r = omega (arith, later, r)

        no_end_later : (place : ℕ) (program : Tree) (name : Text) (fault : Fault) → HasNoEnd behind place program name fault → HasNoEnd whole (length asks + place) program name fault
        no_end_later place program name fault h = record { lists = h.lists; counts = h.counts; report = report_later place name h.lists h.counts h.report; none = h.none }

        pub refused_later : (place : ℕ) (program : Tree) (name : Text) (fault : Fault) → IsRefused behind place program name fault → IsRefused whole (length asks + place) program name fault
        refused_later place program name faults.Unread h = record { gave = gave_later place name _ h.gave; rises = rose_later h.rises }
        refused_later place program name faults.Long h = record {
          taken = h.taken;
          beyond = h.beyond;
          gave = gave_later place name _ h.gave;
          content = subst (λ (k : List ℕ → Option (List ℕ)). IsLongContent MOST_REPORT_BYTES (k name)) same h.content;
        }
        refused_later place program name (faults.Line number) h = (h.0, file_later place name MOST_REPORT_BYTES h.0 h.1, h.2)
        refused_later place program name (faults.Diverges activity) h = no_end_later place program name (faults.Diverges activity) h
        refused_later place program name faults.GoesOn h = no_end_later place program name faults.GoesOn h

        pub among_later : (place at : ℕ) (program : Tree) (names : List Text) (name : Text) (fault : Fault) → at ≡ length asks + place → RefusedAmong behind place program names name fault → RefusedAmong whole at program names name fault
        among_later place at program [] name fault e h = absurd h
        among_later place at program (n ∷ names) name fault e (inl h) = inl (h.0, subst (λ (p : ℕ). IsRefused whole p program name fault) (sym e) (refused_later place program name fault h.1))
        among_later place at program (n ∷ names) name fault e (inr h) =
            let next : suc at ≡ length asks + suc place = omega (arith, e) in
            inr ((h.0.0, subst (λ (p : ℕ). ShowsEnd whole p program n h.0.0) (sym e) (shows_later place program n h.0.0 h.0.1)), among_later (suc place) (suc at) program names name fault next h.1)
