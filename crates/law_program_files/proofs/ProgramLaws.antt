-- The laws of the files of a program.
use Rattle.asp_model.specs.Names.{Text}
use Rattle.asp_model.specs.Marked.{Marked}
use Rattle.asp_check.specs.Faults.{IsChecked}
use Rattle.syntax_tokens.specs.Tokens.{lexemes_of}
use Rattle.syntax_tokens.proofs.LexerLemmas.{lexemes_rise}
use Rattle.syntax_grammar.specs.Programs.{IsProgramText}
use Rattle.asp_print.specs.Tokens.{tokens_of}
use Rattle.asp_print.proofs.PrintingLaws.{program_good}
use Rattle.law_outcomes.proofs.ProgramLaws.{programs_are_readable}
use Rattle.law_programs.specs.Programs.{IsSoundProgram}
use Rattle.law_checkpoint_texts.proofs.FileLemmas.{files_are_own, files_are_resumed}
use Rattle.law_program_files.specs.Programs.{PrintsAreLines, ProgramsAreOwn, ProgramsAreResumed, printed}
use Rattle.law_program_files.proofs.PrintLemmas.{text_lacks}

pub prints_are_lines : PrintsAreLines
prints_are_lines bytes program p =
    text_lacks (tokens_of program) (program_good (lexemes_of bytes) program p.is 0 (lexemes_rise bytes))

sound : (bytes : Text) (program : Marked) → IsProgramText bytes program → IsChecked program → IsSoundProgram program
sound bytes program p checked = record { readable = programs_are_readable bytes program p; checked = checked }

pub programs_are_resumed : ProgramsAreResumed
programs_are_resumed bytes saved program f p checked file e =
    files_are_resumed (printed program) program saved f (prints_are_lines bytes program p)
    (sound bytes program p checked) file e

pub programs_are_own : ProgramsAreOwn
programs_are_own bytes saved program p checked file e =
    files_are_own (printed program) program saved (prints_are_lines bytes program p)
    (sound bytes program p checked) file e
