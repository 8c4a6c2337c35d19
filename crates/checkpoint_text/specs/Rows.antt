-- Worked checkpoints.
use Prim.Native.String.{String}
use Rattle.std.specs.Prelude.{◌≡◌, ℕ, pos, negsuc, List, [], ◌∷◌, Some, None, map, codes}
use Rattle.asp_model.specs.Names.{Name, FutureShape, Text, main_name}
use Rattle.asp_model.specs.Term.{Add, Number, Var, Make, Call, Let, Operate, Print, Tree, node, none, more, leaf, one, two}
use Rattle.asp_model.specs.Store.{CellShape, Object, Reference, Future}
use Rattle.asp_model.specs.Store as cells
use Rattle.asp_model.specs.Configuration.{RequestShape, From, Poll}
use Rattle.asp_model.specs.Report.{text_of}
use Rattle.asp_model.specs.Replay.{plain_run}
use Rattle.law_frozen.specs.Frozen.{frozen_of}
use Rattle.checkpoint_text.specs.Items.{Items, text_items, list_items, option_items, pair_items, name_items, future_items, reception_items, term_items, cell_items, request_items}
use Rattle.checkpoint_text.specs.Lines.{line_of, checkpoint_text}
use Rattle.checkpoint_text.specs.Reading.{CheckpointReading, Reads, OtherProgram, Malformed, read_checkpoint}

abbrev pub number : ℕ → Tree
number k = leaf (Number (pos k))

-- print(1 + 2)
abbrev pub three : Tree
three = one Print (two (Operate Add) (number 1) (number 2))

abbrev pub text_with : List String → Text
text_with lines = text_of (map (λ l. codes l) lines)

-- its line is these words
abbrev pub IsWritten : Items → String → Type 0
IsWritten items words = line_of [] items ≡ codes words

abbrev pub worked_lines : List String
worked_lines = "asp checkpoint 1" ∷ "program print ( 1 + 2 )" ∷ "homes 0" ∷ "filled 0"
    ∷ "activity 1 0 3 0 0 0 0 0 0 0 1 16 0 3 4 1 0 0 0 1 0 2 0 3 0" ∷ "end" ∷ []

-- behind three reductions the sum stands at place 3
abbrev pub StoppedAtThree : Type 0
StoppedAtThree = checkpoint_text (codes "print ( 1 + 2 )") (frozen_of (main_name ∷ []) (plain_run 3 three))
    ≡ text_with worked_lines

abbrev pub created : Name
created = 0 ∷ 1 ∷ []

abbrev pub future : FutureShape
future = record { by = main_name; index = 1 }

-- a.m(2), where a is bound to 1
abbrev pub called : Tree
called = two (Let (codes "a")) (number 1)
    (node (Call (codes "m")) (more (leaf (Var (codes "a"))) (more (number 2) none)))

-- an object with the field a and the method f, which has the parameter x
abbrev pub made : Tree
made = node (Make (codes "a" ∷ [])
    (record { label = codes "f"; slf = codes "s"; parameters = codes "x" ∷ [] } ∷ []))
    (more (number 1) (more (leaf (Var (codes "x"))) none))

abbrev pub asked : RequestShape
asked = record {
  label = codes "m";
  sender = main_name;
  future = future;
  arguments = record { cells = cells.Number (negsuc 6) ∷ []; roots = 0 ∷ [] };
}

abbrev pub read_with : List String → CheckpointReading
read_with lines = read_checkpoint (codes "print ( 1 + 2 )") (text_with lines)

-- what was written is read
abbrev pub ReadAtThree : Type 0
ReadAtThree = read_with worked_lines ≡ Reads (frozen_of (main_name ∷ []) (plain_run 3 three))

-- the worked text with these lines from the third on
abbrev pub headed : List String → List String
headed lines = "asp checkpoint 1" ∷ "program print ( 1 + 2 )" ∷ lines

abbrev pub IsMalformed : List String → Type 0
IsMalformed lines = read_with lines ≡ Malformed

pub record Refused : Type 0 where
  pub empty : read_checkpoint (codes "print ( 1 + 2 )") [] ≡ Malformed
  pub title : IsMalformed ("x" ∷ [])
  pub no_feed : read_checkpoint (codes "print ( 1 + 2 )") (codes "asp checkpoint 1") ≡ Malformed
  pub alone : read_with ("asp checkpoint 1" ∷ []) ≡ OtherProgram
  pub other : read_with ("asp checkpoint 1" ∷ "program print ( 1 + 3 )" ∷ "homes 0" ∷ "filled 0" ∷ "end" ∷ [])
      ≡ OtherProgram
  pub no_end : IsMalformed (headed ("homes 0" ∷ "filled 0" ∷ []))
  pub more : IsMalformed (headed ("homes 0" ∷ "filled 0" ∷ "end" ∷ "end" ∷ []))
  pub cut : IsMalformed (headed ("homes 2 1 0 1 1 0" ∷ "filled 0" ∷ "end" ∷ []))
  pub long : IsMalformed (headed ("homes 0 0" ∷ "filled 0" ∷ "end" ∷ []))
  pub spaces : IsMalformed (headed ("homes  0" ∷ "filled 0" ∷ "end" ∷ []))
  pub zero : IsMalformed (headed ("homes 00" ∷ "filled 0" ∷ "end" ∷ []))
  pub return : IsMalformed (headed ("homes 0\r" ∷ "filled 0" ∷ "end" ∷ []))
  pub none : read_with (headed ("homes 0" ∷ "filled 0" ∷ "end" ∷ []))
      ≡ Reads (record { homes = []; filled = []; activities = [] })

pub record ItemRows : Type 0 where
  pub texts : IsWritten (text_items (codes "ab")) " 2 97 98"
  pub homes : IsWritten (list_items (pair_items future_items name_items) ((future, created) ∷ [])) " 1 1 0 1 2 0 1"
  pub log : IsWritten (list_items reception_items (From main_name ∷ Poll ∷ [])) " 2 0 1 0 1"
  pub nothing : IsWritten (option_items future_items None) " 0"
  pub something : IsWritten (option_items future_items (Some future)) " 1 1 0 1"
  pub call : IsWritten (term_items called) " 11 1 97 3 1 7 2 1 97 1 109 1 3 2"
  pub object : IsWritten (term_items made) " 4 1 1 97 3 1 1 1 102 1 115 1 1 120 2 1 120"
  pub group : IsWritten (cell_items (cells.Group (1 ∷ 2 ∷ []))) " 4 2 1 2"
  pub request : IsWritten (request_items asked) " 1 109 1 0 1 0 1 1 0 -7 1 0"
