-- The entries of a table, put into a map from the last number on.
use denote.Ref.{Bor}
use Rattle.std.proofs.Common.{◌≡◌, ◌<◌, ℕ, zero, suc, List, [], ◌∷◌, Option, Some, None, length, map, drop, get_or, refl, sym, ap, ◌∙◌, arith}
use Rattle.std.specs.BTreeMap.{insert_entry}
use Rattle.std.specs.FinMap.{put}
use Rattle.std.specs.Ordering.{match_ordering}
use Rattle.std.specs.declared.cmp.Ordering.{Ordering}
use Rattle.std.specs.declared.cmp.Ordering.TheVariants.{Less, Equal, Greater}
use Rattle.std.specs.FinMap.Entries.{by_order}
use Rattle.asp_model.specs.declared.name.FutureName.{FutureName}
use Rattle.asp_model.specs.contracts.name.FutureNameOrd.TheImpl as ordering
use Rattle.asp_model.specs.Shapes.{future_shape}
use Rattle.code_table.specs.declared.cells.Parcel.{Parcel}
use Rattle.law_chases.proofs.FutureLemmas.{no_some}
use Rattle.future_table.specs.Numbers.{named}
use Rattle.future_table.specs.Values.{by_name, filled_of, lent_entries}
use Rattle.future_table.proofs.TableLemmas.{name_same}

abbrev Lent : Type 0
Lent = List (FutureName × Bor Parcel)

-- what a map makes of one more value is that it is put
pub inserted : (es : Lent) (f : FutureName) (p : Bor Parcel) → lent_entries (insert_entry ordering.ghosts.cmp es f p) ≡ put by_name f p.now (lent_entries es)
inserted [] f p = refl
inserted (e ∷ es) f p = by (by_name f e.0) (inserted es f p)
  where
    by : (o : Ordering) → lent_entries (insert_entry ordering.ghosts.cmp es f p) ≡ put by_name f p.now (lent_entries es)
        → lent_entries (match_ordering o ((f, p) ∷ e ∷ es) ((e.0, p) ∷ es) (e ∷ insert_entry ordering.ghosts.cmp es f p)) ≡ by_order o ((f, p.now) ∷ lent_entries (e ∷ es)) ((e.0, p.now) ∷ lent_entries es) ((e.0, e.1.now) ∷ put by_name f p.now (lent_entries es))
    by Less next = refl
    by Equal next = refl
    by Greater next = ap (λ (xs : List (FutureName × Parcel)). (e.0, e.1.now) ∷ xs) next

-- a number without a value adds nothing
pub none_at : (fs : List FutureName) (ps : List (Option Parcel)) (n : ℕ) → n < length ps → length ps ≡ length fs → get_or ps n None ≡ None
    → filled_of (drop n fs) (drop n ps) ≡ filled_of (drop (suc n) fs) (drop (suc n) ps)
none_at fs [] n l e none = absurd (omega (arith, l))
none_at [] (p ∷ ps) n l e none = absurd (omega (arith, e))
none_at (f ∷ fs) (None ∷ ps) zero l e none = refl
none_at (f ∷ fs) (Some p ∷ ps) zero l e none = no_some (sym none)
none_at (f ∷ fs) (p ∷ ps) (suc n) l e none = none_at fs ps n (omega (arith, l)) (omega (arith, e)) none

-- one with a value adds that
pub some_at : (fs : List FutureName) (ps : List (Option Parcel)) (n : ℕ) (g : FutureName) (q : Parcel) → n < length ps → length ps ≡ length fs → future_shape g ≡ named (map future_shape fs) n → get_or ps n None ≡ Some q
    → filled_of (drop n fs) (drop n ps) ≡ put by_name g q (filled_of (drop (suc n) fs) (drop (suc n) ps))
some_at fs [] n g q l e is some = absurd (omega (arith, l))
some_at [] (p ∷ ps) n g q l e is some = absurd (omega (arith, e))
some_at (f ∷ fs) (None ∷ ps) zero g q l e is some = no_some some
some_at (f ∷ fs) (Some p ∷ ps) zero g q l e is some =
    let same : p ≡ q = cc in
    ap (λ x. put by_name x p (filled_of fs ps)) (name_same f g (sym is)) ∙ ap (λ x. put by_name g x (filled_of fs ps)) same
some_at (f ∷ fs) (p ∷ ps) (suc n) g q l e is some = some_at fs ps n g q (omega (arith, l)) (omega (arith, e)) is some
