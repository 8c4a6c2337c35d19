-- What the records say when more activities are met.
use Rattle.std.proofs.Common.{◌≡◌, ℕ, ◌<◌, List, [], ◌∷◌, length, map, refl, arith}
use Rattle.std.specs.List.{AllByRecursion}
use Rattle.std.specs.Map.{keys_of}
use Rattle.asp_model.specs.Names.{Name}
use Rattle.future_update.specs.declared.names.Names.{Names}
use Rattle.future_update.specs.declared.numbered.Future.{Future}
use Rattle.future_update.specs.declared.numbered.Edge.{Edge}
use Rattle.future_update.specs.declared.records.Records.{Records}
use Rattle.future_update.specs.Names.{AreNames, IsKnown, IsKnownEdge, IsKnownFuture, Keeps, edge_of, future_of, names_in}
use Rattle.future_update.specs.Numbered.{IsKnownHome, IsKnownReceipt, IsPassed, edge_at, future_at, home_entry, no_edge, no_future, receipt_entry}
use Rattle.future_update.specs.Records.{AreRecords, names_of, shape_of}
use Rattle.future_update.proofs.NumberLemmas.{all_at, all_so}
use Rattle.future_update.proofs.RecordLemmas.{all_keys, edges_known, sized, ticks_below}

map_alike : {X Y : Type 0} (g h : X → Y) (xs : List X) → AllByRecursion (λ x. g x ≡ h x) xs → map g xs ≡ map h xs
map_alike g h [] all = refl
map_alike g h (x ∷ xs) all = λ i. all.0 i ∷ map_alike g h xs all.1 i

known_more : (ns ms : List Name) (k : ℕ) → Keeps ns ms → IsKnown ns k → IsKnown ms k
known_more ns ms k keeps known = omega (arith, known, keeps.more)

future_same : (ns ms : List Name) (f : Future) → Keeps ns ms → IsKnownFuture ns f → future_of ms f ≡ future_of ns f
future_same ns ms f keeps known = λ i. record { by = keeps.same f.by known i; index = f.index }

edge_same : (ns ms : List Name) (e : Edge) → Keeps ns ms → IsKnownEdge ns e → edge_of ms e ≡ edge_of ns e
edge_same ns ms e keeps known = λ i. record { future = future_same ns ms e.future keeps known.future i; from = keeps.same e.from known.from i; to = keeps.same e.to known.to i }

abbrev pub renamed : Records → Names → Records
renamed r m = record r { names = m }

pub renamed_records : (r : Records) (m : Names) → AreRecords r → AreNames (names_in m) → Keeps (names_of r) (names_in m) → AreRecords (renamed r m)
renamed_records r m h names keeps =
    let ns : List Name = names_of r in
    let ms : List Name = names_in m in
    record {
      names = names;
      homes = all_so (IsKnownHome ns) (IsKnownHome ms) r.homes.entries (λ e k. (known_more ns ms e.0.by keeps k.0, known_more ns ms e.1 keeps k.1)) h.homes;
      futures = h.futures;
      filled = h.filled;
      filled_size = h.filled_size;
      edges = all_so (IsPassed ns) (IsPassed ms) r.edges.keys (λ e k. (record { future = known_more ns ms e.future.by keeps k.0.future; from = known_more ns ms e.from keeps k.0.from; to = known_more ns ms e.to keeps k.0.to }, k.1)) h.edges;
      apart = h.apart;
      answers = h.answers;
      delivered = h.delivered;
      delivered_size = h.delivered_size;
      received = all_so (IsKnownReceipt ns) (IsKnownReceipt ms) r.received.keys (λ x k. (known_more ns ms x.future.by keeps k.0, known_more ns ms x.by keeps k.1)) h.received;
    }

pub renamed_shape : (r : Records) (m : Names) → AreRecords r → Keeps (names_of r) (names_in m) → shape_of (renamed r m) ≡ shape_of r
renamed_shape r m h keeps =
    let ns : List Name = names_of r in
    let ms : List Name = names_in m in
    let fs : List Future = keys_of r.homes.entries in
    let es : List Edge = r.edges.keys in
    let homes = map_alike (home_entry ms) (home_entry ns) r.homes.entries (all_so (IsKnownHome ns) (λ e. home_entry ms e ≡ home_entry ns e) r.homes.entries (λ e k i. (future_same ns ms e.0 keeps k.0 i, keeps.same e.1 k.1 i)) h.homes) in
    let edges = map_alike (edge_of ms) (edge_of ns) es (all_so (IsKnownEdge ns) (λ e. edge_of ms e ≡ edge_of ns e) es (λ e k. edge_same ns ms e keeps k) (edges_known r h)) in
    let received = map_alike (receipt_entry ms) (receipt_entry ns) r.received.keys (all_so (IsKnownReceipt ns) (λ x. receipt_entry ms x ≡ receipt_entry ns x) r.received.keys (λ x k i. (future_same ns ms x.future keeps k.0 i, keeps.same x.by k.1 i)) h.received) in
    let filled = map_alike (λ j. future_of ms (future_at fs j)) (λ j. future_of ns (future_at fs j)) r.filled.order.items (all_so (λ j. j < length fs) (λ j. future_of ms (future_at fs j) ≡ future_of ns (future_at fs j)) r.filled.order.items (λ j lt. future_same ns ms (future_at fs j) keeps (all_at (IsKnownFuture ns) fs j no_future lt (all_keys ns r.homes.entries h.homes))) (sized r.homes.entries r.filled h.filled h.filled_size)) in
    let delivered = map_alike (λ p. edge_of ms (edge_at es p)) (λ p. edge_of ns (edge_at es p)) r.delivered.order.items (all_so (λ j. j < length es) (λ p. edge_of ms (edge_at es p) ≡ edge_of ns (edge_at es p)) r.delivered.order.items (λ p lt. edge_same ns ms (edge_at es p) keeps (all_at (IsKnownEdge ns) es p no_edge lt (edges_known r h))) (ticks_below r.delivered (length es) h.delivered h.delivered_size)) in
    λ i. record { homes = homes i; edges = edges i; filled = filled i; received = received i; delivered = delivered i }
