use Rattle.std.proofs.Common.{ℕ, length, sym, subst}
use Rattle.std.proofs.lemmas.List.Elements.{All-get_or}
use Rattle.code_table.specs.declared.code.MethodCode.{MethodCode}
use Rattle.frozen_code.specs.Objects.{AreWithin}
use Rattle.frozen_code.proofs.objects.push_kept.Goals as goal

pub push_captured-requires : goal.push_captured-requires
push_captured-requires c =
    let n : ℕ = length c.args.places.now in
    let x : MethodCode = c.method-item.result in
    let own = subst (λ (m : MethodCode). AreWithin n m.captured.items) (sym c.method-item.is) (All-get_or (λ (m : MethodCode). AreWithin n m.captured.items) c.args.methods.now c.loop-method.method-index x c.loop-method-test.true c.requires.within) in
    record { within = subst (AreWithin n) (sym c.deref.ensures.value) own }
