use Rattle.std.proofs.Common.{◌∙◌, ap, refl}
use Rattle.command_line.specs.Command.{says_true}
use Rattle.command_line.proofs.command.texts_found.Goals as goal

pub returns : goal.returns
returns c =
    let check = c.is_true.ensures ∙ ap says_true c.text_of-2.ensures in
    let determinate = c.is_true-2.ensures ∙ ap says_true c.text_of-3.ensures in
    let journal = c.is_true-3.ensures ∙ ap says_true c.text_of-4.ensures in
    let save = c.is_true-4.ensures ∙ ap says_true c.text_of-5.ensures in
    rw (c.text_of.ensures, check, determinate, journal, save, c.text_of-6.ensures, c.text_of-7.ensures, c.text_of-8.ensures, c.text_of-9.ensures, c.text_of-10.ensures, c.text_of-11.ensures, c.given_found.ensures) refl
