-- Parcels of linked sides: they are packed alike, and unpacked alike.
use Rattle.std.specs.Prelude.{ℕ, ◌+◌, List, length, map}
use Rattle.std.proofs.Common.{refl, arith, inl, inr}
use Rattle.asp_model.specs.Names.{FutureShape}
use Rattle.asp_model.specs.Store.{Store, moved_cell}
use Rattle.asp_model.specs.Parcel.{ParcelShape, parcel_of, unpack, unpacked_roots}
use Rattle.asp_model.specs.Chase.{Chase}
use Rattle.law_steps.specs.Closed.{AreBelow, IsClosedParcel}
use Rattle.law_steps.proofs.MovedLemmas.{unpacked_closed}
use Rattle.law_steps.proofs.VisitLemmas.{packed_closed}
use Rattle.def_paths.specs.Places.{Place, In_store, Side, side_by, AreReadAlike}
use Rattle.def_paths.specs.Agree.{Pairs, ParcelsAgree}
use Rattle.law_paths.specs.Links.{IsClosedSide, Link}
use Rattle.law_paths.proofs.PairLemmas.{Then, pairs_then, pairs_back, pairs_weaker, pairs_mapped}
use Rattle.law_paths.proofs.LinkLemmas.{Back, link_back, link_then, Or, link_join}
use Rattle.law_paths.proofs.PathLemmas.{link_reads, OnePath, paths_link, roots_linked}
use Rattle.law_paths.proofs.GrownLemmas.{over, closed_over, Unpacks, unpacked_link, base_grown, base_unpacked}
use Rattle.law_paths.proofs.PackedLemmas.{Copies, copied_link, roots_copied}
use Rattle.law_paths.proofs.OnwardLemmas.{Stored, Sides, Onward, stored_pairs, pairs_stored, each_low, GrownPairs, grown_pairs, grown_keeps}

module _ (a b : Side) (R : Place → Place → Type 0) (s : Sides a b R) where
  -- Packed

  module _ (xs ys : List ℕ) (ps : Pairs (Stored R) xs ys) where
    abbrev pub packed : Side
    packed = over a (parcel_of a.store xs).cells

    abbrev pub packed_too : Side
    packed_too = over b (parcel_of b.store ys).cells

    pub here_below : AreBelow (length a.store) xs
    here_below = (each_low a b R s xs ys ps).0

    pub there_below : AreBelow (length b.store) ys
    there_below = (each_low a b R s xs ys ps).1

    abbrev pub PackedPairs : Place → Place → Type 0
    PackedPairs = Then (Then (Back (Copies a s.left xs here_below)) R) (Copies b s.right ys there_below)

    pub packed_sides : Sides packed packed_too PackedPairs
    packed_sides = record {
      link = link_then packed b packed_too (Then (Back (Copies a s.left xs here_below)) R) (Copies b s.right ys there_below)
          (link_then packed a b (Back (Copies a s.left xs here_below)) R (link_back a packed (Copies a s.left xs here_below) (copied_link a s.left xs here_below)) s.link) (copied_link b s.right ys there_below);
      left = closed_over a (parcel_of a.store xs).cells s.left (packed_closed a.store xs s.left.store here_below).cells;
      right = closed_over b (parcel_of b.store ys).cells s.right (packed_closed b.store ys s.right.store there_below).cells;
    }

    pub packed_roots : Pairs PackedPairs (map In_store (parcel_of a.store xs).roots) (map In_store (parcel_of b.store ys).roots)
    packed_roots = pairs_then (Then (Back (Copies a s.left xs here_below)) R) (Copies b s.right ys there_below) _ _ _
        (pairs_then (Back (Copies a s.left xs here_below)) R _ _ _ (pairs_back (Copies a s.left xs here_below) _ _ (roots_copied a s.left xs here_below)) (pairs_stored R xs ys ps)) (roots_copied b s.right ys there_below)

    -- deep copies of related places read alike
    pub packed_alike : AreReadAlike packed packed_too (parcel_of a.store xs).roots (parcel_of b.store ys).roots
    packed_alike = link_reads packed packed_too PackedPairs packed_sides.link (parcel_of a.store xs).roots (parcel_of b.store ys).roots packed_roots

  -- Unpacked

  module _ (p q : ParcelShape) (RP : Place → Place → Type 0) (sp : Sides (over a p.cells) (over b q.cells) RP) where
    abbrev more : Store
    more = map (moved_cell (λ n. n + length a.store)) p.cells

    abbrev more_too : Store
    more_too = map (moved_cell (λ n. n + length b.store)) q.cells

    abbrev UnpackedPairs : Place → Place → Type 0
    UnpackedPairs = Then (Then (Back (Unpacks a p sp.left.store s.left)) RP) (Unpacks b q sp.right.store s.right)

    abbrev OldPairs : Place → Place → Type 0
    OldPairs = GrownPairs a b R s more more_too

    abbrev pub unpacked : Side
    unpacked = over a (unpack a.store p)

    abbrev pub unpacked_too : Side
    unpacked_too = over b (unpack b.store q)

    both_unpacked : Link unpacked unpacked_too UnpackedPairs
    both_unpacked = link_then unpacked (over b q.cells) unpacked_too (Then (Back (Unpacks a p sp.left.store s.left)) RP) (Unpacks b q sp.right.store s.right)
        (link_then unpacked (over a p.cells) (over b q.cells) (Back (Unpacks a p sp.left.store s.left)) RP (link_back (over a p.cells) unpacked (Unpacks a p sp.left.store s.left) (unpacked_link a p sp.left.store s.left)) sp.link)
        (unpacked_link b q sp.right.store s.right)

    -- the store as it was, and the parcel behind it
    pub unpack_onward : Onward R unpacked unpacked_too
    unpack_onward = record {
      rel = Or OldPairs UnpackedPairs;
      sides = record {
        link = link_join unpacked unpacked_too OldPairs UnpackedPairs (grown_pairs a b R s more more_too) (record {
          left = both_unpacked.left;
          right = both_unpacked.right;
          same = both_unpacked.same;
          next = λ x y r. pairs_weaker UnpackedPairs (Or OldPairs UnpackedPairs) (λ x y. inr) _ _ (both_unpacked.next x y r);
          once = both_unpacked.once;
          back = both_unpacked.back;
          apart = λ x y z g u. absurd (omega (arith, base_grown a s.left more g.1.0 x g.1.1, base_unpacked a p sp.left.store s.left u.1.0 x u.1.1));
          apart_back = λ x y z g u. absurd (omega (arith, base_grown b s.right more_too g.0 z g.2, base_unpacked b q sp.right.store s.right u.0 z u.2));
        });
        left = closed_over a (unpack a.store p) s.left (unpacked_closed a.store p s.left.store sp.left.store);
        right = closed_over b (unpack b.store q) s.right (unpacked_closed b.store q s.right.store sp.right.store);
      };
      keeps = λ i j r. inl (grown_keeps a b R s more more_too i j r);
    }

    -- related cells of the parcels are related where they are unpacked
    pub unpacked_related : (i j : ℕ) → Stored RP i j → Stored unpack_onward.rel (i + length a.store) (j + length b.store)
    unfolding unpack_onward
    unpacked_related i j r = let x = sp.link.left (In_store i) (In_store j) r in let y = sp.link.right (In_store i) (In_store j) r in inr (In_store j, (In_store i, (x, x, refl), r), (y, y, refl))

    pub unpacked_roots_related : Pairs (Stored RP) p.roots q.roots → Pairs (Stored unpack_onward.rel) (unpacked_roots a.store p) (unpacked_roots b.store q)
    unpacked_roots_related ps = pairs_mapped (Stored RP) (λ n. n + length a.store) (λ n. n + length b.store) (Stored unpack_onward.rel) unpacked_related _ _ ps

-- Parcels that agree are linked

module _ (k l : FutureShape → Chase) (p q : ParcelShape) (x : ParcelsAgree k l p q) (hp : IsClosedParcel p) (hq : IsClosedParcel q) (sp : IsClosedSide (side_by k p.cells)) (sq : IsClosedSide (side_by l q.cells)) where
  abbrev pub ParcelPaths : Place → Place → Type 0
  ParcelPaths = OnePath (side_by k p.cells) (side_by l q.cells) sp sq p.roots q.roots hp.roots hq.roots x

  pub parcel_sides : Sides (side_by k p.cells) (side_by l q.cells) ParcelPaths
  parcel_sides = record { link = paths_link (side_by k p.cells) (side_by l q.cells) sp sq p.roots q.roots hp.roots hq.roots x; left = sp; right = sq }

  pub parcel_roots : Pairs (Stored ParcelPaths) p.roots q.roots
  parcel_roots = stored_pairs ParcelPaths p.roots q.roots (roots_linked (side_by k p.cells) (side_by l q.cells) sp sq p.roots q.roots hp.roots hq.roots x)
