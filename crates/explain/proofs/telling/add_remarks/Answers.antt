use Rattle.std.proofs.Common.{List, ℕ, ◌++◌, append_assoc, ap, sym, ◌∙◌, take}
use Rattle.explain.specs.Texts.{text_of}
use Rattle.explain.specs.Told.{texts_of}
use Rattle.explain.proofs.Pieces.{concat_more}
use Rattle.explain.proofs.telling.add_remarks.Goals as goal

pub loop-remark-preserved : goal.loop-remark-preserved
loop-remark-preserved c =
    let told = text_of c.args.file.now c.args.bytes.now in
    let i = c.loop-remark.remark-index in
    let front = texts_of c.args.file.now c.args.bytes.now (take i c.args.remarks.now) in
    let old = c.args.text.now.items in
    c.in_ok-extend_from_slice.ensures.items
    ∙ ap (λ (l : List ℕ). c.loop-remark.text.items ++ l) (c.deref.ensures.value ∙ c.in_ok-more.ensures.text)
    ∙ ap (λ (l : List ℕ). l ++ told c.remark-item.result) c.loop-remark.invariant
    ∙ append_assoc old front (told c.remark-item.result)
    ∙ ap (λ (l : List ℕ). old ++ l) (sym (concat_more told c.args.remarks.now i c.remark-item.result c.loop-remark-test.true c.remark-item.is))
