use Rattle.std.proofs.Common.{◌≡◌, ◌∙◌, ℕ, Some, length, sym, subst}
use Rattle.asp_model.specs.Names.{FutureShape}
use Rattle.asp_model.specs.Contraction.{strict_members}
use Rattle.asp_model.specs.Shapes.{future_shape}
use Rattle.asp_model.specs.Store.{Store}
use Rattle.asp_model.specs.Chase.{Values, chase}
use Rattle.law_steps.specs.Closed.{AreBelow}
use Rattle.code_table.specs.Shapes.{store_of}
use Rattle.code_table.proofs.CodedLemmas.{length-store_of}
use Rattle.future_table.specs.Values.{values_of}
use Rattle.step_reads.specs.declared.strict.Strict.{Strict}
use Rattle.step_reads.specs.Passed.{ArePassed}
use Rattle.step_reads.specs.Sights.{AreRead, IsRead, missed, seen_face}
use Rattle.step_reads.specs.Strict.{strict_in}
use Rattle.step_reads.proofs.ChaseLemmas.{roots_of}
use Rattle.step_reads.proofs.MemberLemmas.{closed_of}
use Rattle.step_reads.proofs.RowLemmas.{strict_of}
use Rattle.step_reads.proofs.ProspectLemmas.{AreWithin, awaits, comes_by}
use Rattle.step_reads.proofs.telling.prospect_from.Goals as goal

pub returns-in-Awaits : goal.returns-in-Awaits
returns-in-Awaits c = record {
  prospect = λ r is below members.
      let values : Values = values_of c.args.futures.now in
      let s : Store = store_of c.args.code.now c.args.store.now.cells in
      let size : length s ≡ length c.args.store.now.cells = length-store_of c.args.code.now c.args.store.now.cells in
      let within : AreWithin s r = record { operands = subst (λ (n : ℕ). AreBelow n (strict_of r)) (sym size) below; members = subst (λ (n : ℕ). AreBelow n (strict_members s r.head r.places)) (sym size) members } in
      let g : FutureShape = future_shape c.in-Awaits.future.now in
      let seen : missed (chase values) s c.strict_of.result ≡ Some g = subst (IsRead (chase values) s c.strict_of.result) c.in-Awaits.is c.operands_of-sighting.ensures.read in
      let first : missed (chase values) s (strict_in c.args.redex) ≡ Some g = subst (λ (x : Strict). missed (chase values) s x ≡ Some g) c.strict_of.ensures.strict seen in
      awaits (chase values) (roots_of values c.requires.values) (closed_of values c.requires.values) s c.args.redex r is within g first;
  passed = subst (λ (x : Strict). ArePassed (chase (values_of c.args.futures.now)) (store_of c.args.code.now c.args.store.now.cells) x c.operands_of-sighting.result.passed) c.strict_of.ensures.strict c.operands_of-sighting.ensures.passed;
}

pub returns-in-Read : goal.returns-in-Read
returns-in-Read c = record {
  prospect = λ r is below members.
      let values : Values = values_of c.args.futures.now in
      let s : Store = store_of c.args.code.now c.args.store.now.cells in
      let size : length s ≡ length c.args.store.now.cells = length-store_of c.args.code.now c.args.store.now.cells in
      let within : AreWithin s r = record { operands = subst (λ (n : ℕ). AreBelow n (strict_of r)) (sym size) below; members = subst (λ (n : ℕ). AreBelow n (strict_members s r.head r.places)) (sym size) members } in
      let f = seen_face c.in-Read.first in
      let g = seen_face c.in-Read.second in
      let seen : AreRead (chase values) s c.strict_of.result f g = subst (IsRead (chase values) s c.strict_of.result) c.in-Read.is c.operands_of-sighting.ensures.read in
      let read : AreRead (chase values) s (strict_in c.args.redex) f g = subst (λ (x : Strict). AreRead (chase values) s x f g) c.strict_of.ensures.strict seen in
      c.by_operands.ensures.prospect ∙ comes_by (chase values) (roots_of values c.requires.values) (closed_of values c.requires.values) s c.args.redex r is within f g read;
  passed = subst (λ (x : Strict). ArePassed (chase (values_of c.args.futures.now)) (store_of c.args.code.now c.args.store.now.cells) x c.operands_of-sighting.result.passed) c.strict_of.ensures.strict c.operands_of-sighting.ensures.passed;
}

pub operands_of-sighting-requires : goal.operands_of-sighting-requires
operands_of-sighting-requires c = record {
  passed = subst (λ (x : Strict). ArePassed (chase (values_of c.args.futures.now)) (store_of c.args.code.now c.args.store.now.cells) x c.args.from) (sym c.strict_of.ensures.strict) c.requires.passed;
}
