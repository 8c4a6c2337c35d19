use Rattle.std.proofs.Common.{ap, refl, subst}
use Rattle.std.specs.Prelude.{is_some}
use Rattle.code_table.specs.declared.future.Future.{Future}
use Rattle.code_table.specs.Seen.{IsOf}
use Rattle.wait_need.proofs.peeks.of_future.Goals as goal

pub returns-in-Some : goal.returns-in-Some
returns-in-Some c = record {
  need = record {
    holds = refl;
    of = subst (λ (f : Future). IsOf f c.peek.new.sighting) c.deref-2.ensures c.peek.ensures.of;
    seen = ap is_some c.in-Some.ensures.value.0;
  };
}
