-- One given report more, and the reports behind their program.
use Rattle.std.proofs.Common.{◌≡◌, ◌≤◌, ◌<◌, ◌+◌, ℕ, zero, suc, List, [], ◌∷◌, ◌++◌, length, take, drop, true, Result, Ok, Err, refl, sym, ap, subst, ◌∙◌, inl, inr, arith}
use Rattle.std.specs.Prelude.{IfErr, get_or, is_ok}
use Rattle.std.specs.Borrow.{Bor}
use Rattle.std.specs.Result.{IsErrAnd}
use Rattle.std.proofs.lemmas.List.{append-nil, map-append, take_all, take_more}
use Rattle.asp_edge.specs.Told.{SourceTells}
use Rattle.asp_model.specs.Marked.{Marked}
use Rattle.asp_model.specs.Names.{Text}
use Rattle.asp_model.specs.Term.{Tree}
use Rattle.asp_top.specs.Programs.{AsksInTurn, InTurn, IsInFile}
use Rattle.asp_top.specs.Seen.{Outside, outside_between}
use Rattle.asp_top.specs.Stops.{AsksOnce}
use Rattle.asp_top.proofs.AskLemmas.{gave_at, one_answer}
use Rattle.law_families.specs.Families.{RunLogs}
use Rattle.outcome_search.specs.Ends.{AreReplayableEnds, IsReplayableEnd}
use Rattle.outcomes_words.specs.Shapes.{texts_behind}
use Rattle.outcomes_top.specs.declared.halt.Halt.{Halt}
use Rattle.outcomes_top.specs.declared.halt.Halt.TheVariants as halts
use Rattle.outcomes_top.specs.Given.{RefusedAmong, ShowEnds, ShowsEnd}
use Rattle.outcomes_top.specs.Surveys.{HaltsAmong, HaltsIn, ReadsAll}
use Rattle.outcomes_top.proofs.ReadLemmas.{among_at, among_later, asked_then, program_stays, read_in_turn, read_length, read_more, refused_later, show_later, show_stay, shows_later, shows_more, then_in_turn, turn_then}

-- a result that is an error with this halt
pub halts_if : {T : Type 0} (P : Halt → Type 0) (r : Result T Halt) (h : Halt) → IsErrAnd r (λ s. s ≡ h) → P h → IfErr r P
halts_if P (Ok x) h e p = tt
halts_if P (Err s) h e p = subst P (sym e) p

-- The names up to one, and all of them

pub texts_more : (xs : List (Bor Text)) (i : ℕ) (d : Bor Text) → i < length xs → texts_behind (take (i + 1) xs) ≡ texts_behind (take i xs) ++ (get_or xs i d).now ∷ []
texts_more xs i d h = ap texts_behind (take_more xs i d h) ∙ map-append (λ (s : Bor Text). s.now) (take i xs) (get_or xs i d ∷ [])

pub texts_at : (xs : List (Bor Text)) (i : ℕ) (d : Bor Text) → i < length xs → texts_behind xs ≡ texts_behind (take i xs) ++ (get_or xs i d).now ∷ texts_behind (drop (suc i) xs)
texts_at [] i d h = absurd (omega (arith, h))
texts_at (y ∷ xs) zero d h = refl
texts_at (y ∷ xs) (suc i) d h =
    let within : i < length xs = omega (arith, h) in
    ap (λ (l : List Text). y.now ∷ l) (texts_at xs i d within)

pub texts_all : (xs : List (Bor Text)) (i : ℕ) → length xs ≤ i → texts_behind (take i xs) ≡ texts_behind xs
texts_all xs i h = ap texts_behind (take_all i xs h)

-- One end more

pub ends_more : (program : Tree) (xs : List RunLogs) (x : RunLogs) → AreReplayableEnds program xs → IsReplayableEnd program x → AreReplayableEnds program (xs ++ x ∷ [])
ends_more program [] x h e y (inl same) = subst (IsReplayableEnd program) same e
ends_more program [] x h e y (inr none) = absurd none
ends_more program (z ∷ xs) x h e y (inl same) = h y (inl same)
ends_more program (z ∷ xs) x h e y (inr at) = ends_more program xs x (λ w k. h w (inr k)) e y at

-- One report more

module _ {S : Type 0} (told : S → SourceTells) (first middle last : S) (program : Tree) (front : List Text) (ends : List RunLogs) (name : Text)
    (same : (told middle).content ≡ (told first).content) (later : (told first).faults ≤ (told middle).faults)
    (read : ReadsAll (outside_between told first middle) front) (shown : ShowEnds (outside_between told first middle) 0 program front ends)
    (one : AsksOnce (outside_between told middle last) name) where
  abbrev behind : Outside
  behind = outside_between told middle last

  abbrev whole : Outside
  whole = outside_between told first last

  at_length : length read.asks + 0 ≡ 0 + length front
  at_length = omega (arith, read_length front read.asks read.read)

  stays : ShowEnds whole 0 program front ends
  stays = show_stay told first middle last ((name, one.answer) ∷ []) one.asked 0 program front ends shown

  pub show_next : (x : RunLogs) → ShowsEnd behind 0 program name x → ShowEnds whole 0 program (front ++ name ∷ []) (ends ++ x ∷ [])
  show_next x h = shows_more whole 0 (length read.asks + 0) program front ends name x at_length stays (shows_later told first middle last read.asks read.asked same 0 program name x h)

  pub read_next : (x : RunLogs) → ShowsEnd behind 0 program name x → ReadsAll whole (front ++ name ∷ [])
  read_next x h =
      let ok : is_ok one.answer ≡ true = ap is_ok (one_answer behind 0 name name one.answer (Ok h.report.bytes) (gave_at behind name one.answer one.asked) h.report.file.gave) in
      record {
        asks = read.asks ++ (name, one.answer) ∷ [];
        asked = asked_then told first middle last read.asks ((name, one.answer) ∷ []) read.asked one.asked;
        read = read_more front read.asks name one.answer read.read ok;
      }

  pub turn_next : (rest : List Text) → AsksInTurn whole (front ++ name ∷ rest)
  turn_next rest = record {
    asks = read.asks ++ (name, one.answer) ∷ [];
    asked = asked_then told first middle last read.asks ((name, one.answer) ∷ []) read.asked one.asked;
    turn = then_in_turn front rest read.asks name one.answer read.read;
  }

  pub halt_next : (rest : List Text) (h : Halt) → HaltsIn behind 0 program name h → HaltsAmong whole 0 program (front ++ name ∷ rest) h
  halt_next rest halts.Usage h = absurd h
  halt_next rest (halts.Stop s) h = h
  halt_next rest (halts.Given other fault) h =
      subst (λ (n : Text). RefusedAmong whole 0 program (front ++ name ∷ rest) n fault) h.0
      (among_at whole 0 (length read.asks + 0) program front rest ends name fault at_length stays (refused_later told first middle last read.asks read.asked same later 0 program name fault h.1))
  halt_next rest (halts.Missing choice) h = absurd h

-- all were read
pub all_in_turn : (o : Outside) (names : List Text) → ReadsAll o names → AsksInTurn o names
all_in_turn o names read = record {
  asks = read.asks;
  asked = read.asked;
  turn = subst (λ (l : List Text). InTurn l read.asks) (append-nil names) (read_in_turn names [] read.asks read.read);
}

-- A program, and then its reports

module _ {S : Type 0} (told : S → SourceTells) (first middle last : S) (file : Text) (names : List Text) (program : Marked)
    (one : AsksOnce (outside_between told first middle) file) (given : IsInFile (outside_between told first middle) file program)
    (two : AsksInTurn (outside_between told middle last) names) where
  abbrev all : Outside
  all = outside_between told first last

  file_read : ReadsAll (outside_between told first middle) (file ∷ [])
  file_read =
      let o = outside_between told first middle in
      let ok : is_ok one.answer ≡ true = ap is_ok (one_answer o 0 file file one.answer (Ok given.bytes) (gave_at o file one.answer one.asked) given.text.gave) in
      record { asks = (file, one.answer) ∷ []; asked = one.asked; read = (refl, ok, tt) }

  pub program_there : IsInFile all file program
  program_there = program_stays told first middle last two.asks two.asked file program given

  pub files_in_turn : AsksInTurn all (file ∷ names)
  files_in_turn = record {
    asks = file_read.asks ++ two.asks;
    asked = asked_then told first middle last file_read.asks two.asks file_read.asked two.asked;
    turn = turn_then (file ∷ []) names file_read.asks two.asks file_read.read two.turn;
  }

  module _ (same : (told middle).content ≡ (told first).content) where
    pub show_there : (tree : Tree) (ends : List RunLogs) → ShowEnds (outside_between told middle last) 0 tree names ends → ShowEnds all 1 tree names ends
    unfolding file_read
    show_there tree ends h = show_later told first middle last file_read.asks file_read.asked same 0 1 tree names ends refl h

    pub halt_there : (tree : Tree) → (told first).faults ≤ (told middle).faults → (h : Halt) → HaltsAmong (outside_between told middle last) 0 tree names h → HaltsAmong all 1 tree names h
    unfolding file_read
    halt_there tree later halts.Usage h = absurd h
    halt_there tree later (halts.Stop s) h = h
    halt_there tree later (halts.Given name fault) h = among_later told first middle last file_read.asks file_read.asked same later 0 1 tree names name.now fault refl h
    halt_there tree later (halts.Missing choice) h = absurd h
