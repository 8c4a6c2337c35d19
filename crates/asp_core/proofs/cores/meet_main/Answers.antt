use Rattle.std.proofs.Common.{◌∙◌, ◌++◌, ◌∷◌, [], Bool, List, ap, false}
use Rattle.asp_model.specs.Names.{Name}
use Rattle.future_update.specs.Holders.{is_met}
use Rattle.asp_core.proofs.cores.meet_main.Goals as goal

pub met-requires : goal.met-requires
met-requires g c = record { new = ap (is_met c.in_ok-main.main) c.requires.none }

pub returns-clause-met : goal.returns-clause-met
returns-clause-met g c =
    c.in_ok-met.ensures.met ∙ ap (λ (xs : List (Name × Bool)). xs ++ (c.in_ok-main.main, false) ∷ []) c.requires.none
    ∙ ap (λ (n : Name). (n, false) ∷ []) c.in_ok-main.ensures.name
