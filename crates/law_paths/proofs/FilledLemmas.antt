-- A future is filled on both sides by values that show the same: what showed the same still does.
use Rattle.std.specs.Prelude.{◌≡◌, ◌<◌, Option, length, map}
use Rattle.std.proofs.Common.{refl, sym, ap, subst, ◌∙◌, ⊎_elim}
use Rattle.asp_model.specs.Names.{FutureShape}
use Rattle.asp_model.specs.Store.{CellShape}
use Rattle.asp_model.specs.Parcel.{ParcelShape}
use Rattle.def_paths.specs.Places.{Place, In_store, Side, inner, beside, read_by, entered_by, told, written, found, children}
use Rattle.def_paths.specs.Agree.{Pairs}
use Rattle.law_paths.specs.Links.{IsClosedSide, Good, Link}
use Rattle.law_paths.proofs.GoodLemmas.{children_good}
use Rattle.law_paths.proofs.OpenLemmas.{pairs_good, graft, IsDeep, root_or_deep, Filling, after, inside, IsOpen, written_still, good_still, written_graft, good_graft, shows, shows_open, not_before, unique, open_from, open_shows, open_or_not, inner_graft, beside_graft}

-- Both sides

module _ (a b : Side) (v w : ParcelShape) (nowa nowb : FutureShape → Option ParcelShape) (f : FutureShape) (fa : Filling a v nowa f) (fb : Filling b w nowb f)
    (ha : IsClosedSide a) (hb : IsClosedSide b) (hv : IsClosedSide (inside a v)) (hw : IsClosedSide (inside b w)) (some : 0 < length v.cells) (some' : 0 < length w.cells)
    (R RV : Place → Place → Type 0) (l : Link a b R) (lv : Link (inside a v) (inside b w) RV) (root : RV (In_store 0) (In_store 0)) where
  -- the old places, and those of the values where they are read
  pub data Filled : Place → Place → Type 0 where
    old : {x y : Place} → R x y → Filled x y
    deep : {p q x y : Place} → Filled p q → IsOpen a f (written (after a nowa) p) → IsOpen b f (written (after b nowb) q) → (r s : Place) → RV r s → IsDeep r → IsDeep s → x ≡ graft p r → y ≡ graft q s → Filled x y

  left : (x y : Place) → Filled x y → Good (after a nowa) x
  left x y (old t) = good_still a v nowa f fa x (l.left x y t)
  left x y (deep {p = p} {q = q} g oa ob r s t dr ds ex ey) = subst (Good (after a nowa)) (sym ex) (good_graft a v nowa f fa p (left p q g) oa r (lv.left r s t))

  right : (x y : Place) → Filled x y → Good (after b nowb) y
  right x y (old t) = good_still b w nowb f fb y (l.right x y t)
  right x y (deep {p = p} {q = q} g oa ob r s t dr ds ex ey) = subst (Good (after b nowb)) (sym ey) (good_graft b w nowb f fb q (right p q g) ob s (lv.right r s t))

  grafted : (p q : Place) → Filled p q → IsOpen a f (written (after a nowa) p) → IsOpen b f (written (after b nowb) q) → (r s : Place) → RV r s → Filled (graft p r) (graft q s)
  grafted p q g oa ob r s t = ⊎_elim
      (λ e. let d : s ≡ In_store 0 = lv.once (In_store 0) s (In_store 0) (subst (λ x. RV x s) e t) root in
      subst (λ x. Filled (graft p x) (graft q s)) (sym e) (subst (λ x. Filled p (graft q x)) (sym d) g))
      (λ dr. ⊎_elim
      (λ e. absurd (subst IsDeep (lv.back r (In_store 0) (In_store 0) (subst (RV r) e t) root) dr))
      (λ ds. deep g oa ob r s t dr ds refl refl)
      (root_or_deep s))
      (root_or_deep r)

  -- both are open, or neither is
  open_too : (c d : CellShape) → told a.awaited (read_by c (entered_by a.values c)) ≡ told b.awaited (read_by d (entered_by b.values d)) → IsOpen a f c → IsOpen b f d
  open_too c d e o = open_from b hb f d (sym e ∙ open_shows a ha f c o)

  open_back : (c d : CellShape) → told a.awaited (read_by c (entered_by a.values c)) ≡ told b.awaited (read_by d (entered_by b.values d)) → IsOpen b f d → IsOpen a f c
  open_back c d e o = open_from a ha f c (e ∙ open_shows b hb f d o)

  abbrev Shown : Place → Place → Type 0
  Shown x y = (found (after a nowa) x ≡ found (after b nowb) y) × Pairs Filled (children (after a nowa) x) (children (after b nowb) y)

  opened : (x y : Place) → Filled x y → IsOpen a f (written (after a nowa) x) → IsOpen b f (written (after b nowb) y) → Shown x y
  opened x y g oa ob =
      let sa = shows_open a v nowa f fa x oa in
      let sb = shows_open b w nowb f fb y ob in (
        sa.0 ∙ lv.same (In_store 0) (In_store 0) root ∙ sym sb.0,
        subst (λ ps. Pairs Filled ps (children (after b nowb) y)) (sym sa.1) (subst (λ qs. Pairs Filled (map (graft x) (children (inside a v) (In_store 0))) qs) (sym sb.1)
            (pairs_good (inside a v) (inside b w) RV Filled (graft x) (graft y) (λ p q r gp gq. grafted x y g oa ob p q r) _ _ (lv.next (In_store 0) (In_store 0) root) (children_good (inside a v) hv (In_store 0) some) (children_good (inside b w) hw (In_store 0) some'))),
      )

  shown : (x y : Place) → Filled x y → Shown x y
  shown x y (old t) =
      let ga = l.left x y t in
      let gb = l.right x y t in
      let ea = written_still a v nowa f fa x ga in
      let eb = written_still b w nowb f fb y gb in
      let same = l.same x y t in
      ⊎_elim
      (λ o. opened x y (old t) (subst (IsOpen a f) (sym ea) o) (subst (IsOpen b f) (sym eb) (open_too (written a x) (written b y) same o)))
      (λ n. let sa = shows a v nowa f fa a.store (λ p. p) x x ea n (λ c. refl) (λ c. refl) in
      let sb = shows b w nowb f fb b.store (λ p. p) y y eb (λ o. n (open_back (written a x) (written b y) same o)) (λ c. refl) (λ c. refl) in (
        sa.0 ∙ same ∙ sym sb.0,
        subst (λ ps. Pairs Filled ps (children (after b nowb) y)) (sym sa.1) (subst (λ qs. Pairs Filled (map (λ p. p) (children a x)) qs) (sym sb.1)
            (pairs_good a b R Filled (λ p. p) (λ q. q) (λ p q r gp gq. old r) _ _ (l.next x y t) (children_good a ha x ga) (children_good b hb y gb))),
      ))
      (open_or_not a ha f (written a x))
  shown x y (deep {p = p} {q = q} g oa ob r s t dr ds ex ey) =
      let gr = lv.left r s t in
      let gs = lv.right r s t in
      let ea = ap (written (after a nowa)) ex ∙ written_graft a v nowa f fa p oa r gr dr in
      let eb = ap (written (after b nowb)) ey ∙ written_graft b w nowb f fb q ob s gs ds in
      let same = lv.same r s t in
      ⊎_elim
      (λ o. opened x y (deep g oa ob r s t dr ds ex ey) (subst (IsOpen a f) (sym ea) o) (subst (IsOpen b f) (sym eb) (open_too (written (inside a v) r) (written (inside b w) s) same o)))
      (λ n. let sa = shows a v nowa f fa v.cells (graft p) x r ea n (λ c. ap (λ z. inner z c) ex ∙ inner_graft p r c) (λ c. ap (λ z. beside z c) ex ∙ beside_graft p r dr c) in
      let sb = shows b w nowb f fb w.cells (graft q) y s eb (λ o. n (open_back (written (inside a v) r) (written (inside b w) s) same o)) (λ c. ap (λ z. inner z c) ey ∙ inner_graft q s c) (λ c. ap (λ z. beside z c) ey ∙ beside_graft q s ds c) in (
        sa.0 ∙ same ∙ sym sb.0,
        subst (λ ps. Pairs Filled ps (children (after b nowb) y)) (sym sa.1) (subst (λ qs. Pairs Filled (map (graft p) (children (inside a v) r)) qs) (sym sb.1)
            (pairs_good (inside a v) (inside b w) RV Filled (graft p) (graft q) (λ p' q' r' gp gq. grafted p q g oa ob p' q' r') _ _ (lv.next r s t) (children_good (inside a v) hv r gr) (children_good (inside b w) hw s gs))),
      ))
      (open_or_not a ha f (written (inside a v) r))

  once : (x y z : Place) → Filled x y → Filled x z → y ≡ z
  once x y z (old t) (old t') = l.once x y z t t'
  once x y z (old t) (deep {p = p} g oa ob r s t' dr ds ex ey) = absurd (not_before a v nowa f fa p oa r (lv.left r s t') dr (subst (Good a) ex (l.left x y t)))
  once x y z (deep {p = p} g oa ob r s t dr ds ex ey) (old t') = absurd (not_before a v nowa f fa p oa r (lv.left r s t) dr (subst (Good a) ex (l.left x z t')))
  once x y z (deep {p = p} {q = q} g oa ob r s t dr ds ex ey) (deep {p = p'} {q = q'} g' oa' ob' r' s' t' dr' ds' ex' ey') =
      let u = unique a v nowa f fa p p' oa oa' r r' (lv.left r s t) (lv.left r' s' t') dr dr' (sym ex ∙ ex') in
      let e = once p q q' g (subst (λ k. Filled k q') (sym u.0) g') in
      let d = lv.once r s s' t (subst (λ k. RV k s') (sym u.1) t') in
      ey ∙ (λ i. graft (e i) (d i)) ∙ sym ey'

  back : (x y z : Place) → Filled x z → Filled y z → x ≡ y
  back x y z (old t) (old t') = l.back x y z t t'
  back x y z (old t) (deep {q = q} g oa ob r s t' dr ds ex ey) = absurd (not_before b w nowb f fb q ob s (lv.right r s t') ds (subst (Good b) ey (l.right x z t)))
  back x y z (deep {q = q} g oa ob r s t dr ds ex ey) (old t') = absurd (not_before b w nowb f fb q ob s (lv.right r s t) ds (subst (Good b) ey (l.right y z t')))
  back x y z (deep {p = p} {q = q} g oa ob r s t dr ds ex ey) (deep {p = p'} {q = q'} g' oa' ob' r' s' t' dr' ds' ex' ey') =
      let u = unique b w nowb f fb q q' ob ob' s s' (lv.right r s t) (lv.right r' s' t') ds ds' (sym ey ∙ ey') in
      let e = back p p' q g (subst (Filled p') (sym u.0) g') in
      let d = lv.back r r' s t (subst (RV r') (sym u.1) t') in
      ex ∙ (λ i. graft (e i) (d i)) ∙ sym ex'

  -- what showed the same before the future was filled shows the same after it
  pub fill_link : Link (after a nowa) (after b nowb) Filled
  fill_link = record {
    left = left;
    right = right;
    same = λ x y g. (shown x y g).0;
    next = λ x y g. (shown x y g).1;
    once = once;
    back = back;
  }
