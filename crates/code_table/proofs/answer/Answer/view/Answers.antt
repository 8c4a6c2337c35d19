use Rattle.std.proofs.Common.{◌≡◌, ◌≤◌, ◌∙◌, ℕ, List, length, map, get_or, sym, ap, subst}
use Rattle.code_table.specs.Answers.{AnswerView, answer_view, shown_in}
use Rattle.code_table.specs.Cells.{coded_in, end_of}
use Rattle.code_table.specs.Shown.{IsAnswer, kept}
use Rattle.code_table.specs.declared.answer.Listed.{Listed}
use Rattle.code_table.specs.declared.answer.Shown.{Shown}
use Rattle.code_table.proofs.AnswerLemmas.{listed_cell, listed_end, listed_within}
use Rattle.code_table.proofs.answer.Answer.view.Goals as goal

pub view-requires : goal.view-requires
view-requires c =
    let l : Listed = c.in-Listed.listed.value in
    let p = c.args.at in
    let x : Shown = c.index.result.now in
    let v : AnswerView = c.args.self.now in
    let seen : map (shown_in l.words.items) l.cells.items ≡ v.cells =
    ap (λ (w : AnswerView). w.cells) (ap answer_view (sym c.in-Listed.is) ∙ c.self.view_is) in
    let lt = listed_within l.words.items l.cells.items v seen p c.requires.within in
    let at : x ≡ get_or l.cells.items p x = c.index.ensures
    ∙ ap (λ (y : Listed). get_or y.cells.items p x) c.deref.ensures in
    let words : c.deref-in-Listed-2.result.now ≡ l.words.items = c.deref-in-Listed-2.ensures.value
    ∙ ap (λ (y : Listed). y.words.items) c.deref-in-Listed.ensures in
    let laid = (subst IsAnswer c.in-Listed.is c.self.invariant).0 in
    let le = subst (λ (y : Shown). end_of (kept y) ≤ length l.words.items) (sym at)
    (listed_end l.words.items l.cells.items p x lt laid) in
    record { within = subst (λ (ws : List ℕ). end_of (kept x) ≤ length ws) (sym words) le }

pub returns-in-Listed : goal.returns-in-Listed
returns-in-Listed c =
    let l : Listed = c.in-Listed.listed.value in
    let p = c.args.at in
    let x : Shown = c.index.result.now in
    let v : AnswerView = c.args.self.now in
    let seen : map (shown_in l.words.items) l.cells.items ≡ v.cells =
    ap (λ (w : AnswerView). w.cells) (ap answer_view (sym c.in-Listed.is) ∙ c.self.view_is) in
    let lt = listed_within l.words.items l.cells.items v seen p c.requires.within in
    let at : x ≡ get_or l.cells.items p x = c.index.ensures
    ∙ ap (λ (y : Listed). get_or y.cells.items p x) c.deref.ensures in
    let words : c.deref-in-Listed-2.result.now ≡ l.words.items = c.deref-in-Listed-2.ensures.value
    ∙ ap (λ (y : Listed). y.words.items) c.deref-in-Listed.ensures in
    record {
      view = c.view.ensures.view ∙ (λ i. coded_in (words i) (kept (at i)))
          ∙ listed_cell l.words.items l.cells.items v seen p x lt;
    }
