use Rattle.std.proofs.Common.{◌≡◌, ◌∷◌, ◌++◌, [], take, sym, ap, subst, ◌∙◌}
use Rattle.std.proofs.lemmas.List.{take_more}
use Rattle.asp_model.specs.Names.{Text}
use Rattle.code_table.specs.declared.code.Capture.{Capture}
use Rattle.code_table.specs.Fitting.{CapturesFit, captured_names}
use Rattle.code_compiler.specs.Slots.{environment, names_of}
use Rattle.code_compiler.proofs.ScopeLemmas.{among_at, captures_snoc, captured_snoc}
use Rattle.code_compiler.proofs.methods.captures.Goals as goal

pub leaf_of-requires : goal.leaf_of-requires
leaf_of-requires c = record { bound = among_at (names_of c.args.scope.now) c.args.names.now c.loop-name.name-index c.name-item.result c.loop-name-test.true c.name-item.is c.requires.among }

pub loop-name-preserved : goal.loop-name-preserved
loop-name-preserved c =
    let m : Capture = record { name = c.in_ok-copy.field-0; leaf = c.in_ok-leaf.leaf } in
    let x : Text = c.name-item.result in
    let same : m.name ≡ x = c.in_ok-copy.ensures.word in
    record {
      names = ap captured_names c.in_ok-push.ensures.items ∙ captured_snoc c.loop-name.captured.items m ∙ (λ i. c.loop-name.invariant.names i ++ same i ∷ [])
          ∙ ap (λ (y : Text). take c.loop-name.name-index c.args.names.now ++ y ∷ []) c.name-item.is ∙ sym (take_more c.args.names.now c.loop-name.name-index x c.loop-name-test.true);
      fit = subst (CapturesFit c.args.scope.now.captured.now (environment c.args.scope.now.bound.now)) (sym c.in_ok-push.ensures.items)
          (captures_snoc c.args.scope.now.captured.now (environment c.args.scope.now.bound.now) c.loop-name.captured.items m c.loop-name.invariant.fit c.in_ok-leaf.ensures.fits (same ∙ c.in_ok-leaf.ensures.name));
    }
