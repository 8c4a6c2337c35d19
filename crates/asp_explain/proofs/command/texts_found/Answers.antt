use Rattle.std.proofs.Common.{◌∙◌, ap, refl}
use Rattle.asp_explain.specs.Words.{says_true}
use Rattle.asp_explain.proofs.command.texts_found.Goals as goal

pub returns : goal.returns
returns c =
    let events = c.is_true.ensures ∙ ap says_true c.text_of-3.ensures in
    let picture = c.is_true-2.ensures ∙ ap says_true c.text_of-8.ensures in
    record { texts = rw (c.text_of.ensures, c.text_of-2.ensures, events, c.text_of-4.ensures, c.text_of-5.ensures, c.text_of-6.ensures, c.pair_of.ensures, c.text_of-7.ensures, picture) refl }
