-- What the operands as they are seen say of the redex.
use Rattle.std.proofs.Common.{◌≡◌, ◌<◌, ℕ, false, List, [], ◌∷◌, ◌++◌, Some, None, length, refl, sym, ap, subst, ◌∙◌, arith}
use Rattle.std.proofs.lemmas.List.{append-nil}
use Rattle.asp_model.specs.Names.{FutureShape}
use Rattle.asp_model.specs.Term.{WaitAll}
use Rattle.asp_model.specs.Store.{CellShape, Store, cell}
use Rattle.asp_model.specs.Split as split
use Rattle.asp_model.specs.Chase.{Chase}
use Rattle.asp_model.specs.Contraction.{first_future, is_future, members_of, strict_members}
use Rattle.asp_model.specs.Intent.{Ready, Reads, Lacks, operand_ready, operands_ready, redex_ready}
use Rattle.law_steps.specs.Closed.{AreBelow}
use Rattle.step_rows.specs.Decisions.{value_redex}
use Rattle.step_rows.specs.declared.redex.Redex.{Redex}
use Rattle.step_rows.specs.declared.redex.Redex.TheVariants as redex
use Rattle.step_rows.specs.Redexes.{IsRedex}
use Rattle.step_reads.specs.declared.strict.Strict.TheVariants as strict
use Rattle.step_reads.specs.Prospects.{Awaits, comes_to}
use Rattle.step_reads.specs.Faces.{Face, face, prospect_at}
use Rattle.step_reads.specs.Sights.{AreRead, AreSeen, Misses, Shows, Sight, first_missed, members_missed, missed, missed_or, sight}
use Rattle.step_reads.specs.Strict.{members_ready, strict_in, strict_places, strict_ready}
use Rattle.step_reads.proofs.ChaseLemmas.{HaveRoots}
use Rattle.step_reads.proofs.MemberLemmas.{AreClosed, IsGrouped, grouped}
use Rattle.step_reads.proofs.ReadyLemmas.{IsPlain, no_members, ready_in, strict_is}
use Rattle.step_reads.proofs.RowLemmas.{AreFaces, Stand, strict_of, told_by}
use Rattle.step_reads.proofs.SightLemmas.{AreUnpacked, cell_lacks, missed_lacks, no_future, none_missed, seen_then, shown}

all_seen : (chases : FutureShape → Chase) (s : Store) (ns : List ℕ) (f g : Face) → AreSeen chases s ns f g → first_missed chases s ns ≡ None
all_seen chases s [] f g e = refl
all_seen chases s (i ∷ []) f g e = ap (λ (x : Sight). missed_or x None) e
all_seen chases s (i ∷ k ∷ []) f g e = λ j. missed_or (e.0 j) (missed_or (e.1 j) None)
all_seen chases s (i ∷ k ∷ m ∷ ns) f g e = absurd e

faces_at : (chases : FutureShape → Chase) (s : Store) (ns : List ℕ) (f g : Face) (x : Ready) (u : AreUnpacked chases s ns x) → AreBelow (length s) ns → AreSeen chases s ns f g → AreFaces u.store ns f g
faces_at chases s [] f g x u below e = tt
faces_at chases s (i ∷ []) f g x u below e = shown chases s u.store i f u.seen below.0 u.stand.0 e
faces_at chases s (i ∷ k ∷ []) f g x u below e = (shown chases s u.store i f u.seen below.0 u.stand.0 e.0, shown chases s u.store k g u.seen below.1.0 u.stand.1.0 e.1)
faces_at chases s (i ∷ k ∷ m ∷ ns) f g x u below e = absurd e

-- a redex without members of a group

plain_missed : (chases : FutureShape → Chase) (s : Store) (x : Redex) → IsPlain x → missed chases s (strict_in x) ≡ first_missed chases s (strict_places (strict_in x))
plain_missed chases s (redex.WaitAll i) p = absurd p
plain_missed chases s x p = refl

plain_read : (chases : FutureShape → Chase) (s : Store) (x : Redex) (f g : Face) → IsPlain x → AreRead chases s (strict_in x) f g → AreSeen chases s (strict_places (strict_in x)) f g
plain_read chases s (redex.WaitAll i) f g p e = absurd p
plain_read chases s x f g p e = e

plain_ready : (chases : FutureShape → Chase) (s : Store) (x : Redex) → IsPlain x → strict_ready chases s (strict_in x) ≡ operands_ready chases s (strict_places (strict_in x))
plain_ready chases s (redex.WaitAll i) p = absurd p
plain_ready chases s x p = refl

-- where a redex reads its operands over a store, it comes to this
comes_over : (chases : FutureShape → Chase) (s : Store) (x : Redex) (r : split.Redex) (y : Ready) → IsRedex r x → strict_ready chases s (strict_in x) ≡ y → comes_to (redex_ready chases s r) r ≡ comes_to y r
comes_over chases s x r y is e = ap (λ (z : Ready). comes_to z r) (ready_in chases s x r is ∙ e)

module _ (chases : FutureShape → Chase) (roots : HaveRoots chases) (s : Store) (x : Redex) (r : split.Redex) (is : IsRedex r x) (below : AreBelow (length s) (strict_of r)) (plain : IsPlain x) where
  places_are : strict_places (strict_in x) ≡ strict_of r
  places_are = strict_is x r is

  plain_awaits : (g : FutureShape) → missed chases s (strict_in x) ≡ Some g → Awaits g ≡ comes_to (redex_ready chases s r) r
  plain_awaits g e =
      let first : first_missed chases s (strict_of r) ≡ Some g = ap (first_missed chases s) (sym places_are) ∙ sym (plain_missed chases s x plain) ∙ e in
      sym (comes_over chases s x r (Lacks g) is (plain_ready chases s x plain ∙ ap (operands_ready chases s) places_are ∙ missed_lacks chases roots s (strict_of r) g below first))

  plain_comes : (f g : Face) → AreRead chases s (strict_in x) f g → prospect_at x f g ≡ comes_to (redex_ready chases s r) r
  plain_comes f g e =
      let ns : List ℕ = strict_of r in
      let seen : AreSeen chases s ns f g = subst (λ (l : List ℕ). AreSeen chases s l f g) places_are (plain_read chases s x f g plain e) in
      let u = none_missed chases roots s ns below (all_seen chases s ns f g seen) in
      let stand : Stand u.store r = ap (λ (ms : List ℕ). first_future u.store (ns ++ ms)) (no_members u.store x r plain is) ∙ ap (first_future u.store) (append-nil ns) ∙ no_future u.store ns u.stand in
      sym (comes_over chases s x r (Reads u.store) is (plain_ready chases s x plain ∙ ap (operands_ready chases s) places_are ∙ u.reads)
      ∙ told_by u.store x f g r is stand (faces_at chases s ns f g _ u below seen))

-- A group whose members are waited for

module _ (chases : FutureShape → Chase) (roots : HaveRoots chases) (closed : AreClosed chases) (s : Store) (i : ℕ) (here : i < length s) (within : AreBelow (length s) (members_of (cell s i))) where
  wait_lacks : (g : FutureShape) (y : Sight) → sight chases (cell s i) ≡ y → missed_or y (members_missed chases s (cell s i)) ≡ Some g → strict_ready chases s (strict.Members i) ≡ Lacks g
  wait_lacks g (Misses h) is e =
      let same : h ≡ g = cc in
      ap (members_ready chases i) (cell_lacks chases s i h (cell s i) is) ∙ ap Lacks same
  wait_lacks g (Shows f) is e =
      let u : IsGrouped chases s i (cell s i) (operand_ready chases s i (cell s i)) = grouped chases roots closed s i f is within in
      ap (members_ready chases i) u.reads ∙ missed_lacks chases roots u.store (members_of (cell u.store i)) g u.below (u.missed ∙ e)

  wait_comes : (f g : Face) (r : split.Redex) → IsRedex r (redex.WaitAll i) → AreRead chases s (strict.Members i) f g → prospect_at (redex.WaitAll i) f g ≡ comes_to (strict_ready chases s (strict.Members i)) r
  wait_comes f g r is e =
      let u : IsGrouped chases s i (cell s i) (operand_ready chases s i (cell s i)) = grouped chases roots closed s i f e.0 within in
      let ms : List ℕ = members_of (cell u.store i) in
      let v = none_missed chases roots u.store ms u.below (u.missed ∙ e.1) in
      let there : i < length u.store = omega (arith, here, u.seen.grows) in
      let kept : cell v.store i ≡ cell u.store i = v.seen.kept i there u.stands in
      let stands : is_future (cell v.store i) ≡ false = v.seen.still i there u.stands in
      let free : first_future v.store (i ∷ members_of (cell v.store i)) ≡ None = ap (λ (c : CellShape). first_future v.store (i ∷ members_of c)) kept ∙ no_future v.store (i ∷ ms) (stands, v.stand) in
      let q : split.Redex = value_redex WaitAll (i ∷ []) in
      let stand : Stand v.store r = subst (Stand v.store) (sym is) free in
      let faced : face (cell v.store i) ≡ f = shown chases s v.store i f (seen_then chases s u.store v.store u.seen v.seen) here stands e.0 in
      let faces : AreFaces v.store (strict_of r) f g = subst (λ (z : split.Redex). AreFaces v.store (strict_of z) f g) (sym is) faced in
      sym (ap (λ (z : Ready). comes_to z r) (ap (members_ready chases i) u.reads ∙ v.reads) ∙ told_by v.store (redex.WaitAll i) f g r is stand faces)

-- All redexes

-- each strict operand is in the store, and so is each member of a group that is waited for
pub record AreWithin (s : Store) (r : split.Redex) : Type 0 where
  pub operands : AreBelow (length s) (strict_of r)
  pub members : AreBelow (length s) (strict_members s r.head r.places)

-- a redex awaits the first future that is missed
pub awaits : (chases : FutureShape → Chase) → HaveRoots chases → AreClosed chases → (s : Store) (x : Redex) (r : split.Redex) → IsRedex r x → AreWithin s r → (g : FutureShape) → missed chases s (strict_in x) ≡ Some g → Awaits g ≡ comes_to (redex_ready chases s r) r
awaits chases roots closed s (redex.WaitAll i) r is w g e =
    let operands : AreBelow (length s) (i ∷ []) = subst (λ (q : split.Redex). AreBelow (length s) (strict_of q)) is w.operands in
    let members : AreBelow (length s) (members_of (cell s i)) = subst (λ (q : split.Redex). AreBelow (length s) (strict_members s q.head q.places)) is w.members in
    sym (comes_over chases s (redex.WaitAll i) r (Lacks g) is (wait_lacks chases roots closed s i operands.0 members g (sight chases (cell s i)) refl e))
awaits chases roots closed s x r is w g e = plain_awaits chases roots s x r is w.operands tt g e

-- else it comes to what its operands tell, as they are seen
pub comes_by : (chases : FutureShape → Chase) → HaveRoots chases → AreClosed chases → (s : Store) (x : Redex) (r : split.Redex) → IsRedex r x → AreWithin s r → (f g : Face) → AreRead chases s (strict_in x) f g → prospect_at x f g ≡ comes_to (redex_ready chases s r) r
comes_by chases roots closed s (redex.WaitAll i) r is w f g e =
    let operands : AreBelow (length s) (i ∷ []) = subst (λ (q : split.Redex). AreBelow (length s) (strict_of q)) is w.operands in
    let members : AreBelow (length s) (members_of (cell s i)) = subst (λ (q : split.Redex). AreBelow (length s) (strict_members s q.head q.places)) is w.members in
    wait_comes chases roots closed s i operands.0 members f g r is e ∙ sym (comes_over chases s (redex.WaitAll i) r (strict_ready chases s (strict.Members i)) is refl)
comes_by chases roots closed s x r is w f g e = plain_comes chases roots s x r is w.operands tt f g e
