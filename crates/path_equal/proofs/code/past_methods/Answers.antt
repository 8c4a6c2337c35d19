use Rattle.std.proofs.Common.{◌∙◌, List, ℕ, ap}
use Rattle.code_table.specs.declared.code.MethodCode.{MethodCode}
use Rattle.path_equal.specs.Held.{body_held}
use Rattle.path_equal.specs.Searches.{searched}
use Rattle.path_equal.proofs.HeldLemmas.{body_found, method_sound, one_more}
use Rattle.path_equal.proofs.code.past_methods.Goals as goal

pub loop-method-preserved : goal.loop-method-preserved
loop-method-preserved c = λ ps s.
    let ns = c.args.places.now in
    let ms : List MethodCode = c.args.methods.now in
    let i = c.loop-method.method-index in
    let m : MethodCode = c.method-item.result in
    one_more (body_held ns ps) ms i m m c.args.start c.loop-method.search c.past_body-search.result c.loop-method-test.true c.method-item.is (c.loop-method.invariant ps s)
    (c.past_body-search.ensures.searched ∙ ap (λ (xs : List ℕ). searched xs c.loop-method.search) (body_found ns ps m (method_sound ps ms i m c.loop-method-test.true c.method-item.is s)))
