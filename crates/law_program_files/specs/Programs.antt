-- The checkpoint files of programs that stand in bytes.
use Rattle.std.specs.Prelude.{◌≡◌, ◌≢◌}
use Rattle.asp_model.specs.Names.{Text}
use Rattle.asp_model.specs.Marked.{Marked, plain}
use Rattle.asp_check.specs.Faults.{IsChecked}
use Rattle.syntax_tokens.specs.Texts.{text_of}
use Rattle.syntax_grammar.specs.Programs.{IsProgramText}
use Rattle.asp_print.specs.Tokens.{tokens_of}
use Rattle.law_frozen.specs.Frozen.{FrozenShape}
use Rattle.checkpoint_text.specs.Laws.{IsLine}
use Rattle.checkpoint_text.specs.Reading.{Reads, OtherProgram, read_checkpoint}
use Rattle.law_checkpoint_texts.specs.Files.{IsSavedFile, IsResumed}

-- a program as it is printed
abbrev pub printed : Marked → Text
printed program = text_of (tokens_of program)

-- what was read is printed on one line
abbrev pub PrintsAreLines : Type 0
PrintsAreLines = (bytes : Text) (program : Marked) → IsProgramText bytes program → IsLine (printed program)

-- the bytes are a checkpoint of the program, under its own text
abbrev pub IsFileOf : Marked → Text → Type 0
IsFileOf program saved = IsSavedFile (printed program) (plain program) saved

-- where such a file is read, runs of the program go on from it
abbrev pub ProgramsAreResumed : Type 0
ProgramsAreResumed = (bytes saved : Text) (program : Marked) (f : FrozenShape)
    → IsProgramText bytes program → IsChecked program → IsFileOf program saved
    → read_checkpoint (printed program) saved ≡ Reads f → IsResumed (printed program) (plain program) f

-- and it is never taken for a file of another program
abbrev pub ProgramsAreOwn : Type 0
ProgramsAreOwn = (bytes saved : Text) (program : Marked)
    → IsProgramText bytes program → IsChecked program → IsFileOf program saved
    → read_checkpoint (printed program) saved ≢ OtherProgram
