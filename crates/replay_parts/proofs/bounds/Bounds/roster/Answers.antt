use Rattle.std.proofs.Common.{List, T, subst, sym}
use Rattle.std.specs.FinMap.{is_sorted}
use Rattle.std.specs.Global.{Vec}
use Rattle.asp_model.specs.declared.outcome.Reception.{Reception}
use Rattle.asp_model.specs.Names.{Name, name_cmp}
use Rattle.replay_parts.specs.Bounds.{IsAscending}
use Rattle.replay_parts.proofs.ReadyLemmas.{ascend_sorted}
use Rattle.replay_parts.proofs.ResultLemmas.{if_ok}
use Rattle.replay_parts.proofs.bounds.Bounds.roster.Goals as goal

pub returns-in-Listed-clause-ascending : goal.returns-in-Listed-clause-ascending
returns-in-Listed-clause-ascending c =
    let h = subst IsAscending c.in-Listed.is c.requires.ascending in
    if_ok c.names_of.result _ _ (λ (r : List Name) e. ascend_sorted c.deref.result.now r (subst (λ (es : List (Name × Vec Reception)). T (is_sorted name_cmp es)) (sym c.deref.ensures.value) h.0) e) c.names_of.ensures.names
