use Rattle.std.proofs.Common.{◌∙◌, sym, ap, map}
use Rattle.asp_model.specs.Term.{Var, Hole, leaf}
use Rattle.code_laws.specs.Shown.{shown_leaf}
use Rattle.code_reading.specs.Decoded.{seen_tree}
use Rattle.code_reading.proofs.SeenLemmas.{tree_kept, tree_past}
use Rattle.code_reading.proofs.seen.seen_in.Goals as goal

pub returns-in-Some : goal.returns-in-Some
returns-in-Some c =
    let kept = c.args.kept.now in
    record {
      seen = sym (ap (shown_leaf (map seen_tree kept)) c.in-Own.is ∙ tree_kept (leaf (Var c.in-Own.name)) c.in-Own.slot kept c.in-Some.seen.now c.in-Some.ensures.lookup.3.0 c.in-Some.ensures.lookup.1);
    }

pub returns-in-None : goal.returns-in-None
returns-in-None c =
    let kept = c.args.kept.now in
    record {
      seen = sym (ap (shown_leaf (map seen_tree kept)) c.in-Own.is ∙ tree_past (leaf (Var c.in-Own.name)) c.in-Own.slot kept c.in-None.ensures.lookup.3);
    }

pub returns-in-Some-get : goal.returns-in-Some-get
returns-in-Some-get c =
    let kept = c.args.kept.now in
    record {
      seen = sym (ap (shown_leaf (map seen_tree kept)) c.in-Kept.is ∙ tree_kept (leaf Hole) c.in-Kept.slot kept c.in-Some-get.seen.now c.in-Some-get.ensures.lookup.3.0 c.in-Some-get.ensures.lookup.1);
    }

pub returns-in-None-get : goal.returns-in-None-get
returns-in-None-get c =
    let kept = c.args.kept.now in
    record { seen = sym (ap (shown_leaf (map seen_tree kept)) c.in-Kept.is ∙ tree_past (leaf Hole) c.in-Kept.slot kept c.in-None-get.ensures.lookup.3) }
