use Rattle.std.proofs.Common.{◌≡◌, true, refl, List, ℕ, ◌++◌, map, take, ap, sym, ◌∙◌, append_assoc, arith}
use Rattle.std.specs.List.{list_all}
use Rattle.std.specs.Prelude.{codes}
use Rattle.std.proofs.lemmas.List.{append-nil, take_all}
use Rattle.std.proofs.lemmas.Result.{IfOk-weaker}
use Rattle.asp_model.specs.declared.journal.Entry.{Entry}
use Rattle.asp_model.specs.Report.{text_of, with_feed}
use Rattle.asp_model.specs.Shapes.{entry_shape}
use Rattle.trace_text.specs.Pieces.{text_in}
use Rattle.trace_text.specs.Traces.{entry_line, has_numbers, trace_lines, trace_of}
use Rattle.trace_text.proofs.PieceLemmas.{adds, lines_more, numbers_more, text_end}
use Rattle.trace_text.proofs.write.write_trace.Goals as goal

abbrev title : List ℕ
title = with_feed (codes "asp trace 1")

abbrev lines : List Entry → List (List ℕ)
lines xs = map entry_line (map entry_shape xs)

pub loop-entry-init : goal.loop-entry-init
loop-entry-init c = record {
  text =
      adds c.in_ok-pieces.pieces.full.items c.in_ok-pieces.pieces.last c.push_str.new.self title c.in_ok-push_str.ensures.bytes
      ∙ ap (λ (t : List ℕ). t ++ title) c.in_ok-pieces.ensures
      ∙ sym (append-nil title);
  numbers = refl;
}

pub loop-entry-preserved : goal.loop-entry-preserved
loop-entry-preserved c =
    let xs = c.args.journal.now in
    let i = c.loop-entry.entry-index in
    let line : List ℕ = with_feed (entry_line (entry_shape c.entry-item.result)) in
    record {
      text =
          adds c.turn.new.self.full.items c.turn.new.self.last c.push_entry.new.text line c.in_ok-push_entry.ensures
          ∙ ap (λ (t : List ℕ). t ++ line) (c.in_ok-turn.ensures ∙ c.loop-entry.invariant.text)
          ∙ append_assoc title (text_of (lines (take i xs))) line
          ∙ ap (λ (t : List ℕ). title ++ t) (sym (lines_more xs i c.entry-item.result c.loop-entry-test.true c.entry-item.is));
      numbers = numbers_more xs i c.entry-item.result c.loop-entry-test.true c.entry-item.is c.loop-entry.invariant.numbers c.fits.ensures.numbers;
    }

pub returns : goal.returns
unfolding trace_lines
returns c =
    let xs = c.args.journal.now in
    let i = c.loop-entry.entry-index in
    let last : List ℕ = with_feed (codes "end") in
    let whole : take i xs ≡ xs = take_all i xs (omega arith) in
    let all : text_in (record { full = c.loop-entry.pieces.full; last = c.push_str-2.new.self }) ≡ trace_of (map entry_shape xs) =
    adds c.loop-entry.pieces.full.items c.loop-entry.pieces.last c.push_str-2.new.self last c.in_ok-push_str-2.ensures.bytes
    ∙ ap (λ (t : List ℕ). t ++ last) (c.loop-entry.invariant.text ∙ ap (λ (ys : List Entry). title ++ text_of (lines ys)) whole)
    ∙ append_assoc title (text_of (lines xs)) last
    ∙ ap (λ (t : List ℕ). title ++ t) (sym (text_end (lines xs) (codes "end"))) in
    let fit : list_all has_numbers (map entry_shape xs) ≡ true = ap (λ (ys : List Entry). list_all has_numbers (map entry_shape ys)) (sym whole) ∙ c.loop-entry.invariant.numbers in
    record {
      text = IfOk-weaker c.all.result _ _ (λ v e. e ∙ all) c.all.ensures;
      numbers = IfOk-weaker c.all.result _ _ (λ v e. fit) c.all.ensures;
    }
