-- Changes that keep what objects ask of their code.
use Rattle.std.proofs.Common.{◌≡◌, ℕ, zero, suc, List, [], ◌∷◌, ◌++◌, Option, Some, None, length, map, ◌∙◌, slice_set}
use Rattle.std.proofs.lemmas.List.{length-map, length-set}
use Rattle.code_table.specs.declared.code.Node.{Node}
use Rattle.code_table.specs.declared.class.Class.{Class}
use Rattle.code_table.specs.Classes.{class_at}
use Rattle.code_table.specs.Cells.{CodedCell, Number, Object, Reference, Future, Group, CodedStore, cell_at, with_cell_at, with_coded_at, with_place_at, moved_coded}
use Rattle.code_table.specs.Fits.{FitsClass, FitsCode, AllFitCode}

fits_alike : (ns ms : List ℕ) (k : Option Class) → length ms ≡ length ns → FitsClass ns k → FitsClass ms k
fits_alike ns ms None e h = h
fits_alike ns ms (Some k) e h = e ∙ h

module _ (code : List Node) where
  pub fits_moved : (f : ℕ → ℕ) (c : CodedCell) → FitsCode code c → FitsCode code (moved_coded f c)
  fits_moved f (Object k ns) h = fits_alike ns (map f ns) (class_at code k) (length-map ns f) h
  fits_moved f (Number n) h = tt
  fits_moved f (Reference n) h = tt
  fits_moved f (Future g) h = tt
  fits_moved f (Group ns) h = tt

  pub fits_placed : (i n : ℕ) (c : CodedCell) → FitsCode code c → FitsCode code (with_place_at i n c)
  fits_placed i n (Object k ns) h = fits_alike ns (slice_set ns i n) (class_at code k) (length-set ns i n) h
  fits_placed i n (Number m) h = tt
  fits_placed i n (Reference m) h = tt
  fits_placed i n (Future g) h = tt
  fits_placed i n (Group ns) h = tt

  pub fit_at : (cs : CodedStore) (p : ℕ) → AllFitCode code cs → FitsCode code (cell_at cs p)
  fit_at [] p h = tt
  fit_at (c ∷ cs) zero h = h.0
  fit_at (c ∷ cs) (suc p) h = fit_at cs p h.1

  pub all_fit_moved : (f : ℕ → ℕ) (cs : CodedStore) → AllFitCode code cs → AllFitCode code (map (moved_coded f) cs)
  all_fit_moved f [] h = tt
  all_fit_moved f (c ∷ cs) h = (fits_moved f c h.0, all_fit_moved f cs h.1)

  pub all_fit_append : (cs ds : CodedStore) → AllFitCode code cs → AllFitCode code ds → AllFitCode code (cs ++ ds)
  all_fit_append [] ds h g = g
  all_fit_append (c ∷ cs) ds h g = (h.0, all_fit_append cs ds h.1 g)

  pub all_fit_with : (cs : CodedStore) (p : ℕ) (d : CodedCell) → AllFitCode code cs → FitsCode code d → AllFitCode code (with_cell_at cs p d)
  all_fit_with [] p d h g = tt
  all_fit_with (c ∷ cs) zero d h g = (g, h.1)
  all_fit_with (c ∷ cs) (suc p) d h g = (h.0, all_fit_with cs p d h.1 g)

  pub all_fit_with_coded : (cs ds : CodedStore) (p : ℕ) → AllFitCode code cs → AllFitCode code ds → AllFitCode code (with_coded_at cs p ds)
  all_fit_with_coded cs [] p h g = h
  all_fit_with_coded cs (d ∷ ds) p h g = all_fit_append (with_cell_at cs p d) ds (all_fit_with cs p d h g.0) g.1

  -- a place set in a store whose objects fit
  pub all_fit_placed : (cs : CodedStore) (p i n : ℕ) → AllFitCode code cs → AllFitCode code (with_cell_at cs p (with_place_at i n (cell_at cs p)))
  all_fit_placed cs p i n h = all_fit_with cs p (with_place_at i n (cell_at cs p)) h (fits_placed i n (cell_at cs p) (fit_at cs p h))
