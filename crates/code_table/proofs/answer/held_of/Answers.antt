use Rattle.std.proofs.Common.{◌≡◌, ◌∙◌, map, sym, ap, subst, rules}
use Rattle.code_table.specs.Answers.{shown_in}
use Rattle.code_table.specs.Shown.{AreShownLaid, MayBeShown, coded_shown}
use Rattle.code_table.specs.declared.answer.Listed.{Listed}
use Rattle.code_table.proofs.AnswerLemmas.{items_kept}
use Rattle.code_table.proofs.answer.held_of.Goals as goal

pub returns-in_ok-new-in_default-clause-items : goal.returns-in_ok-new-in_default-clause-items
returns-in_ok-new-in_default-clause-items c =
    let l : Listed = c.in_ok-listed-in_default.listed in
    let same : c.in_ok-new-in_default.field-0.value ≡ l = search rules in
    ap (λ (x : Listed). map coded_shown (map (shown_in x.words.items) x.cells.items)) same
    ∙ items_kept l.words.items l.cells.items ∙ c.in_ok-listed-in_default.ensures.items

pub returns-in_ok-new-in_default-clause-answer : goal.returns-in_ok-new-in_default-clause-answer
returns-in_ok-new-in_default-clause-answer c =
    let l : Listed = c.in_ok-listed-in_default.listed in
    let same : c.in_ok-new-in_default.field-0.value ≡ l = search rules in (
      subst AreShownLaid (sym same) c.in_ok-listed-in_default.ensures.laid,
      subst MayBeShown
          (sym (returns-in_ok-new-in_default-clause-items c)) c.requires.shown,
    )
