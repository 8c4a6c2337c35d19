-- Reports with a bad line, by the number of the first, and reports that are read all the same.
use Prim.Native.String.{String}
use Rattle.std.specs.Prelude.{◌≡◌, ℕ, List, [], ◌∷◌, ◌++◌, map, codes}
use Rattle.asp_model.specs.Names.{main_name}
use Rattle.asp_model.specs.Configuration.{From, Poll}
use Rattle.asp_model.specs.Report.{text_of}
use Rattle.asp_model.specs.ReadReport.{Reads, BadLine, read_report}
use Rattle.worked_rows.specs.Reports.{Entry, created, lists_in, counts_in, read_lines}

abbrev pub IsBadAt : ℕ → List String → Type 0
IsBadAt number lines = read_lines lines ≡ BadLine number

abbrev pub ReadsAs : List Entry → List String → Type 0
ReadsAs entries lines = read_lines lines ≡ Reads (lists_in entries) (counts_in entries)

-- these lines from the third on
abbrev pub headed : List String → List String
headed lines = "asp report 2" ∷ "verdict end" ∷ lines

abbrev pub with_main : List String → List String
with_main lines = headed ("activity 0 4 done" ∷ "senders" ∷ lines)

-- the verdict, the status and the outputs are compared with nothing
pub record WholeReports : Type 0 where
  pub outputs : ReadsAs ((main_name, 4, []) ∷ []) (with_main ("> 3" ∷ "> x" ∷ "| any \"text" ∷ ". self object ;" ∷ "> " ∷ []))
  pub statuses : ReadsAs ((main_name, 4, []) ∷ (created 2, 0, From (created 9) ∷ From main_name ∷ []) ∷ [])
      (with_main ("activity 0.2 0 awaits 0.1.7#4294967295" ∷ "senders 0.9 0" ∷ []))
  pub faults : ReadsAs ((main_name, 4, []) ∷ (0 ∷ 1 ∷ 1 ∷ [], 9999996, []) ∷ [])
      (with_main ("activity 0.1.1 9999996 fault ActiveField" ∷ "senders" ∷ []))

-- in version 1 a log has senders alone
pub record Versions : Type 0 where
  pub polls : ReadsAs ((main_name, 4, Poll ∷ From (created 1) ∷ Poll ∷ []) ∷ [])
      (headed ("activity 0 4 done" ∷ "senders ? 0.1 ?" ∷ []))
  pub earlier : ReadsAs ((main_name, 4, From (created 1) ∷ []) ∷ [])
      ("asp report 1" ∷ "verdict end" ∷ "activity 0 4 done" ∷ "senders 0.1" ∷ [])
  pub no_polls : IsBadAt 4 ("asp report 1" ∷ "verdict end" ∷ "activity 0 4 done" ∷ "senders ?" ∷ [])
  pub two_at_once : IsBadAt 4 (headed ("activity 0 4 done" ∷ "senders ??" ∷ []))

pub record WrongForms : Type 0 where
  pub title : IsBadAt 1 ("asp report 3" ∷ "verdict end" ∷ "activity 0 4 done" ∷ "senders" ∷ [])
  pub verdict : IsBadAt 2 ("asp report 2" ∷ "verdict" ∷ "activity 0 4 done" ∷ "senders" ∷ [])
  pub status : IsBadAt 3 (headed ("activity 0 4 waits" ∷ "senders" ∷ []))
  pub fault : IsBadAt 3 (headed ("activity 0 4 fault NoSuch" ∷ "senders" ∷ []))
  pub awaited : IsBadAt 3 (headed ("activity 0 4 awaits 0.1" ∷ "senders" ∷ []))
  pub spaces : IsBadAt 3 (headed ("activity 0 4  done" ∷ "senders" ∷ []))
  pub no_senders : IsBadAt 4 (headed ("activity 0 4 done" ∷ "> 3" ∷ []))
  pub sender : IsBadAt 4 (headed ("activity 0 4 done" ∷ "senders " ∷ []))
  pub output : IsBadAt 5 (with_main (">3" ∷ []))
  pub empty_line : IsBadAt 5 (with_main ("" ∷ []))

pub record WrongNumbers : Type 0 where
  pub nine_digits : IsBadAt 3 (headed ("activity 0 100000000 done" ∷ "senders" ∷ []))
  pub leading_zero : IsBadAt 3 (headed ("activity 0 04 done" ∷ "senders" ∷ []))
  pub no_digits : IsBadAt 3 (headed ("activity 0  done" ∷ "senders" ∷ []))
  pub sum : IsBadAt 5 (with_main ("activity 0.1 9999997 done" ∷ "senders" ∷ []))
  pub number_of_zero : IsBadAt 5 (with_main ("activity 0.0 1 done" ∷ "senders" ∷ []))
  pub long_number : IsBadAt 5 (with_main ("activity 0.4294967296 1 done" ∷ "senders" ∷ []))
  pub index : IsBadAt 5 (with_main ("activity 0.1 1 awaits 0#0" ∷ "senders" ∷ []))

pub record WrongOrders : Type 0 where
  pub not_main : IsBadAt 3 (headed ("activity 1 13 done" ∷ "senders" ∷ []))
  pub no_main : IsBadAt 3 (headed ("activity 0.1 13 done" ∷ "senders" ∷ []))
  pub twice : IsBadAt 5 (with_main ("activity 0 1 done" ∷ "senders" ∷ []))
  pub falling : IsBadAt 7 (with_main ("activity 0.2 1 done" ∷ "senders" ∷ "activity 0.1.5 1 done" ∷ "senders" ∷ []))

-- a last line without its line feed, and ends before a line that must come
pub record CutReports : Type 0 where
  pub nothing : read_report [] ≡ BadLine 1
  pub title : IsBadAt 2 ("asp report 2" ∷ [])
  pub verdict : IsBadAt 3 ("asp report 2" ∷ "verdict end" ∷ [])
  pub activity : IsBadAt 4 (headed ("activity 0 4 done" ∷ []))
  pub no_feed : read_report (text_of (map codes (with_main [])) ++ codes "> 3") ≡ BadLine 5
  pub senders_feed : read_report (text_of (map codes (headed ("activity 0 4 done" ∷ []))) ++ codes "senders") ≡ BadLine 4
