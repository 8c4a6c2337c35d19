use Rattle.std.proofs.Common.{Ok, IfOk, sym, subst}
use Rattle.std.specs.Prelude.{Result}
use Rattle.std.specs.declared.alloc.AllocError.{AllocError}
use Rattle.activity_step.specs.declared.advance.Advance.{Advance}
use Rattle.activity_step.specs.Advances.{IsAdvance, IsTaken}
use Rattle.activity_step.proofs.AdvanceLemmas.{taken}
use Rattle.activity_step.proofs.quick.taken.Goals as goal

pub returns : goal.returns
returns c = record {
  taken = λ k x t vs s ls h.
      let told = subst (λ (r : Result Advance AllocError). IfOk r (IsAdvance k x t vs s ls Rattle.std.proofs.Common.true)) c.in_ok-advance.was h in
      subst (IsTaken k x t vs s ls) (sym c.is_reduction.ensures.reduces) (taken k x t vs s ls c.in_ok-advance.advance told);
}
