-- The text of a program that has a text is one of it, places aside.
use Rattle.std.proofs.Common.{◌≡◌, ℕ, ◌≤◌, true, List, [], ◌∷◌, ◌++◌, map, length, take, drop, refl, sym, ap, ◌∙◌, subst}
use Rattle.std.proofs.lemmas.List.{take-append-drop}
use Rattle.asp_model.specs.declared.limits.TheConstants.{MOST_LEVEL}
use Rattle.asp_model.specs.Marked.{Marked}
use Rattle.syntax_tokens.specs.declared.token.Token.{Token}
use Rattle.syntax_tokens.specs.declared.token.Token.TheVariants as tokens
use Rattle.syntax_tokens.specs.Tokens.{Lexeme, lexeme, lexemes_of, tokens_in}
use Rattle.syntax_grammar.specs.Grammar.{IsProgram}
use Rattle.syntax_grammar.specs.Programs.{IsProgramText}
use Rattle.syntax_tokens.specs.Texts.{text_of}
use Rattle.asp_print.specs.Tokens.{tokens_of}
use Rattle.asp_print.specs.Places.{moved}
use Rattle.asp_print.specs.Correct.{IsTextOf}
use Rattle.asp_print.proofs.PieceLemmas.{both, steps_are}
use Rattle.asp_print.proofs.GrammarLemmas.{seq_tokens}
use Rattle.asp_print.proofs.MovingLemmas.{moved_all, split, terms_moved, tokens_moved, unplaced_again}
use Rattle.asp_print.proofs.GrammarMoves.{seq_moved}
use Rattle.syntax_tokens.proofs.WordLemmas.{Each, IsGood, text_reads_as}
use Rattle.syntax_tokens.proofs.LexerLemmas.{Rises, lexemes_rise}
use Rattle.asp_print.proofs.PlaceLemmas.{good_before, place_in, found, level_moved}

module _ (ls : List Lexeme) (program : Marked) (p : IsProgram true ls program) where
  abbrev ending : List Lexeme
  ending = lexeme tokens.End p.end ∷ []

  steps : tokens_in p.sequence ≡ tokens_of program
  steps = steps_are p.start (tokens_in p.sequence) p.terms (seq_tokens p.is refl) ∙ ap tokens_of (sym p.term)

  -- the tokens are those of the program, and then the end
  pub program_tokens : tokens_in ls ≡ tokens_of program ++ tokens.End ∷ []
  program_tokens = ap tokens_in p.whole ∙ both p.sequence ending steps refl

  pub program_good : (n : ℕ) → Rises n ls → Each IsGood (tokens_of program)
  program_good n r = subst (Each IsGood) steps (good_before n p.sequence (lexeme tokens.End p.end) (subst (Rises n) p.whole r))

  pub program_moved : (f : ℕ → ℕ) → IsProgram true (moved_all f ls) (moved f program)
  program_moved f = record {
    sequence = moved_all f p.sequence;
    start = f p.start;
    terms = map (moved f) p.terms;
    end = f p.end;
    is = seq_moved f p.is;
    whole = ap (moved_all f) p.whole ∙ sym (split f p.sequence ending);
    term = ap (moved f) p.term ∙ sym (terms_moved f p.start p.terms);
  }

of_read : (bytes : List ℕ) (program : Marked) → IsProgramText bytes program → IsTextOf program (text_of (tokens_of program))
of_read bytes program p =
    let ls : List Lexeme = lexemes_of bytes in
    let us : List Lexeme = lexemes_of (text_of (tokens_of program)) in
    let good = program_good ls program p.is 0 (lexemes_rise bytes) in
    let same : tokens_in us ≡ tokens_in ls = text_reads_as (tokens_of program) 0 good ∙ sym (program_tokens ls program p.is) in
    let f : ℕ → ℕ = place_in ls us in
    let is : moved_all f ls ≡ us = found 0 ls us (lexemes_rise bytes) same in
    record {
      read = moved f program;
      is = record {
        is = subst (λ (l : List Lexeme). IsProgram true l (moved f program)) is (program_moved ls program p.is f);
        low = λ before behind e. subst (λ (n : ℕ). n ≤ MOST_LEVEL) (sym (level_moved f ls before behind (is ∙ e)))
            (p.low (take (length before) ls) (drop (length before) ls) (sym (take-append-drop (length before) ls)));
      };
      same = unplaced_again f program;
    }

pub printed : (bytes : List ℕ) (program : Marked) → IsTextOf program bytes → IsTextOf program (text_of (tokens_of program))
printed bytes program p =
    let kept : tokens_of p.read ≡ tokens_of program = sym (tokens_moved (λ n. 0) p.read) ∙ ap tokens_of p.same ∙ tokens_moved (λ n. 0) program in
    let text : IsTextOf p.read (text_of (tokens_of program)) = subst (λ (ts : List Token). IsTextOf p.read (text_of ts)) kept (of_read bytes p.read p.is) in
    record { read = text.read; is = text.is; same = text.same ∙ p.same }
