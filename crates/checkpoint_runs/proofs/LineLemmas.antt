-- Lines that are written one after another.
use Rattle.std.proofs.Common.{◌≡◌, List, [], ◌∷◌, ◌++◌, map, sym, ap, ◌∙◌, append_assoc}
use Rattle.std.proofs.lemmas.List.{append-nil, map-append}
use Rattle.std.proofs.lemmas.List.Folds.{concat-append}
use Rattle.std.specs.Prelude.{string_bytes}
use Rattle.std.specs.List.{concat}
use Rattle.std.specs.declared.alloc.Global.{Global}
use Rattle.std.specs.declared.string.String.{String}
use Rattle.asp_model.specs.Names.{Text}
use Rattle.asp_model.specs.Report.{text_of, with_feed}
use Rattle.checkpoint_runs.specs.Saved.{AddsLines, text_in}

-- the text of some lines and then of others
pub lines_then : (ls ms : List Text) → text_of (ls ++ ms) ≡ text_of ls ++ text_of ms
lines_then ls ms = ap concat (map-append with_feed ls ms) ∙ concat-append (map with_feed ls) (map with_feed ms)

-- one after another
pub lines_onward : (x : List (String Global)) (ls ms : List Text) (y z : List (String Global)) → AddsLines x ls y → AddsLines y ms z → AddsLines x (ls ++ ms) z
lines_onward x ls ms y z e d =
    d ∙ ap (λ (t : Text). t ++ text_of ms) e ∙ append_assoc (text_in x) (text_of ls) (text_of ms)
    ∙ ap (λ (t : Text). text_in x ++ t) (sym (lines_then ls ms))

-- the text of one piece more
pub pieces_then : (old new : List (String Global)) (x : String Global) → new ≡ old ++ x ∷ [] → text_in new ≡ text_in old ++ string_bytes x
pieces_then old new x e =
    ap text_in e ∙ ap concat (map-append string_bytes old (x ∷ [])) ∙ concat-append (map string_bytes old) (string_bytes x ∷ [])
    ∙ ap (λ (t : Text). text_in old ++ t) (append-nil (string_bytes x))
