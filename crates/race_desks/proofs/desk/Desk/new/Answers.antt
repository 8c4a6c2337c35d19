use Rattle.std.proofs.Common.{rules, ap, sym, ◌∙◌, arith}
use Rattle.race_desks.proofs.RowLemmas.{no_rounds}
use Rattle.def_journals.specs.Journals.{grant_of}
use Rattle.std.proofs.lemmas.Option.{none-some}
use Rattle.race_desks.proofs.desk.Desk.new.Goals as goal

pub returns-clause-orderly : goal.returns-clause-orderly
returns-clause-orderly g c =
    let empty = c.in_ok-rows.ensures.empty in record {
      kept = search rules;
      out = λ n x is. absurd (none-some x (sym (empty n) ∙ is));
      apart = λ m n x y ne is also. absurd (none-some x (sym (empty m) ∙ is));
      held = λ s is k grant out. absurd (none-some grant (ap (grant_of k) (sym (c.requires.home s is)) ∙ out));
      counted = sym (no_rounds c.in_ok-rows.rows.items empty);
      reserved = λ s is. omega (arith, no_rounds c.in_ok-rows.rows.items empty);
    }
