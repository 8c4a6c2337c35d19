-- Places and their addresses lead to the same.
use Rattle.std.specs.Prelude.{◌≡◌, ℕ, zero, suc, List, [], ◌∷◌, Option, Some, None, map, false, Bool, true}
use Rattle.std.proofs.Common.{refl, sym, ap, ◌∙◌}
use Rattle.asp_model.specs.Store.{reached}
use Rattle.asp_model.specs.Parcel.{ParcelShape}
use Rattle.law_chases.proofs.FutureLemmas.{none_true}
use Rattle.def_paths.specs.Places.{Place, In_store, In_value, Side, inner, part, entered_by, read_by, child_by, written, entered, read, children}
use Rattle.def_paths.specs.Addresses.{address_of, written_at, below_entered, child_at, children_at}
use Rattle.law_paths.specs.Reading.{AddressesLead}
use Rattle.law_paths.proofs.CellLemmas.{map_map}

abbrev is_nil : List ℕ → Bool
is_nil [] = true
is_nil (x ∷ xs) = false

abbrev first_of : List ℕ → ℕ
first_of [] = 0
first_of (x ∷ xs) = x

abbrev rest_of : List ℕ → List ℕ
rest_of [] = []
rest_of (x ∷ xs) = xs

not_nil : {A : Type 0} (p : Place) → [] ≡ address_of p → A
not_nil (In_store i) e = none_true (sym (ap is_nil e))
not_nil (In_value p j) e = none_true (sym (ap is_nil e))

-- places with one address are one
pub one_address : (p q : Place) → address_of p ≡ address_of q → p ≡ q
one_address (In_store i) (In_store j) e = ap In_store (ap first_of e)
one_address (In_store i) (In_value q j) e = not_nil q (ap rest_of e)
one_address (In_value p i) (In_store j) e = not_nil p (ap rest_of (sym e))
one_address (In_value p i) (In_value q j) e = λ k. In_value (one_address p q (ap rest_of e) k) (first_of (e k))

pub written_same : (a : Side) (p : Place) → written_at a (address_of p) ≡ written a p
written_same a (In_store i) = refl
written_same a (In_value (In_store i) j) = refl
written_same a (In_value (In_value p i) j) = ap (λ c. part (entered_by a.values c) j) (written_same a (In_value p i))

entered_same : (p : Place) (c : ℕ) → below_entered (address_of p) c ≡ address_of (inner p c)
entered_same p zero = refl
entered_same p (suc c) = refl

child_same : (o : Option ParcelShape) (p : Place) (c : ℕ) → address_of (child_by o p c) ≡ child_at o (address_of p) c
child_same (Some v) p c = sym (entered_same p c)
child_same None (In_store i) c = refl
child_same None (In_value (In_store i) j) c = sym (entered_same (In_store i) c)
child_same None (In_value (In_value p i) j) c = sym (entered_same (In_value p i) c)

-- the children of a place, and of its address
pub children_same : (a : Side) (p : Place) → map address_of (children a p) ≡ children_at a (address_of p)
children_same a p =
    map_map (child_by (entered a p) p) address_of (child_at (entered a p) (address_of p)) (child_same (entered a p) p) (reached (read a p))
    ∙ sym (λ i. map (child_at (entered_by a.values (written_same a p i)) (address_of p)) (reached (read_by (written_same a p i) (entered_by a.values (written_same a p i)))))

pub addresses_lead : AddressesLead
addresses_lead = (one_address, λ a p i. read_by (written_same a p i) (entered_by a.values (written_same a p i)), children_same)
