-- Services as they are written.
use Rattle.std.proofs.Common.{◌≡◌, suc, List, [], ◌∷◌, ◌++◌, length, map, refl, sym, ap, ◌∙◌}
use Rattle.std.specs.List.{flat_map}
use Rattle.std.specs.Fmt.{decimal}
use Rattle.std.specs.Option.{option_map}
use Rattle.asp_model.specs.declared.term.Term.{Term}
use Rattle.asp_model.specs.Configuration.{ServiceShape}
use Rattle.asp_model.specs.Shapes.{future_shape, tree_of}
use Rattle.asp_model.specs.Term.{Hole, leaf}
use Rattle.code_reading.specs.declared.shown.Suspended.{Suspended}
use Rattle.code_reading.specs.Shown.{ServiceTerms, service_shown, service_terms}
use Rattle.checkpoint_text.specs.Items.{Items, future_items, list_items, option_items, service_items, term_items, terms_items}
use Rattle.checkpoint_text.specs.Writing.{tree_items}
use Rattle.checkpoint_text.proofs.WritingLemmas.{list_mapped}
use Rattle.frozen_runs.specs.Pieces.{suspended_items}

-- a service's items, by its terms
abbrev told_items : ServiceTerms → Items
told_items s = terms_items (map term_items (leaf Hole ∷ s.0)) ++ option_items future_items s.1

counts : (ts : List Term) → length (map term_items (map tree_of ts)) ≡ length ts
counts [] = refl
counts (t ∷ ts) = ap suc (counts ts)

flats : (ts : List Term) → flat_map (λ (us : Items). us) (map term_items (map tree_of ts)) ≡ flat_map tree_items ts
flats [] = refl
flats (t ∷ ts) = ap (λ (us : Items). tree_items t ++ us) (flats ts)

suspended_told : (s : Suspended) → suspended_items s ≡ told_items (service_shown s)
suspended_told s =
    let ts : List Term = s.contexts.items in
    λ i. (decimal (suc (sym (counts ts) i)) ∷ decimal 1 ∷ sym (flats ts) i) ++ option_items future_items (option_map future_shape s.future)

all_told : (ss : List Suspended) → flat_map suspended_items ss ≡ flat_map (λ s. told_items (service_shown s)) ss
all_told [] = refl
all_told (s ∷ ss) = λ i. suspended_told s i ++ all_told ss i

pub services_laid : (ss : List Suspended) (vs : List ServiceShape) → map service_shown ss ≡ map service_terms vs → list_items suspended_items ss ≡ list_items service_items vs
services_laid ss vs e =
    ap (λ (us : Items). decimal (length ss) ∷ us) (all_told ss)
    ∙ sym (list_mapped told_items service_shown ss)
    ∙ ap (list_items told_items) e
    ∙ list_mapped told_items service_terms vs
