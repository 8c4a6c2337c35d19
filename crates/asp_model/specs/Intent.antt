-- What an activity does next: a step is an intent, which sees the activity alone, and its effect on the rest.
use Rattle.std.specs.Prelude.{ℕ, suc, ◌&&◌, not, true, false, List, [], ◌∷◌, ◌++◌, Option, Some, None, length, map, is_some}
use Rattle.asp_model.specs.Names.{Name, FutureShape, Text, created_name}
use Rattle.asp_model.specs.Term.{Tree, node, leaf, none, more, Call, Serve, Repeat, Make, loc, locs_then, one, has_text}
use Rattle.asp_model.specs.Split.{Context, Redex, Stands, Splits, split, plug}
use Rattle.asp_model.specs.Store.{CellShape, Number, Object, Reference, Future, Store, cell}
use Rattle.asp_model.specs.Parcel.{ParcelShape, parcel_of, unpack, unpacked_roots, unpack_at, has_place}
use Rattle.asp_model.specs.Contraction.{FaultShape, Communication, Creates, Sends, Serves, Polls, Contraction, Becomes, Faults, Needs, Communicates, Breaks, contract, strict_operands, strict_members, truth}
use Rattle.asp_model.specs.Chase.{Chase, Value, Unfilled, Cycle}
use Rattle.asp_model.specs.Configuration.{RequestShape, ServiceShape, ReceptionShape, From, Poll, Activity, begun, label_of}

-- what an activity does, or for what it rests
pub data StatusShape : Type 0 where
  -- the term is a location, and no service is suspended
  Done : StatusShape
  -- at a `serve` that no pending request matches
  Serving : StatusShape
  Running : StatusShape
  -- the first strict operand without a value awaits this future
  Awaits : (f : FutureShape) → StatusShape
  Faulted : (fault : FaultShape) → StatusShape

-- what a step leaves of the activity, and what it gives to others
pub record Effect : Type 0 where
  pub own : Activity
  pub sent : Option (Name × RequestShape)
  -- what is appended to whose log
  pub logged : Option (Name × ReceptionShape)
  pub made : Option (Name × Activity)
  pub filled : Option (FutureShape × ParcelShape)

-- an activity acts, or rests with a status
pub data Intent : Type 0 where
  Acts : (effect : Effect) → Intent
  Rests : (status : StatusShape) → Intent

-- an effect on the activity alone
abbrev pub alone : Activity → Intent
alone a = Acts (record { own = a; sent = None; logged = None; made = None; filled = None })

-- Strict operands

-- the store where strict operands are read, or the future that is awaited
pub data Ready : Type 0 where
  Reads : (store : Store) → Ready
  Lacks : (f : FutureShape) → Ready

-- the value is unpacked at the place of its future; without a value the future is awaited
abbrev pub fetched : Store → ℕ → Chase → Ready
fetched s n (Value f p) = Reads (unpack_at s n p)
fetched s n (Unfilled f) = Lacks f
fetched s n (Cycle f) = Lacks f

-- one strict operand, by the cell at its place
abbrev pub operand_ready : (FutureShape → Chase) → Store → ℕ → CellShape → Ready
operand_ready chases s n (Future f) = fetched s n (chases f)
operand_ready chases s n c = Reads s

-- the store with the value of each strict operand unpacked at its location, in order
abbrev pub operands_ready : (FutureShape → Chase) → Store → List ℕ → Ready
operands_ready chases s [] = Reads s
operands_ready chases s (n ∷ ns) = elim (operand_ready chases s n (cell s n)) [
  | Reads t ↦ operands_ready chases t ns
  | Lacks f ↦ Lacks f
]

-- the operands of the redex first, then the members of a group that is waited for
abbrev pub redex_ready : (FutureShape → Chase) → Store → Redex → Ready
redex_ready chases s r = elim (operands_ready chases s (strict_operands r.head r.places)) [
  | Reads t ↦ operands_ready chases t (strict_members t r.head r.places)
  | Lacks f ↦ Lacks f
]

-- Communications, each of them one reduction

-- what a new activity begins with: its service for ever, or a call on its active object
abbrev pub start_term : Option Text → ℕ → Tree
start_term None object = one Repeat (leaf (Serve []))
start_term (Some l) object = one (Call l) (loc object)

-- NEWACT: the new activity's store is a copy of the object, and the creator has a reference to it
abbrev pub creates : Name → Activity → List Context → Store → ℕ → Option Text → Intent
creates n a contexts s object service =
    let created : Name = created_name n (suc a.creations) in
    Acts (record {
      own = record a {
        term = plug contexts (loc (length s));
        store = s ++ Reference created ∷ [];
        creations = suc a.creations;
        reductions = suc a.reductions;
      };
      sent = None;
      logged = None;
      made = Some (created, begun (start_term service 0) (unpack [] (parcel_of s (object ∷ []))));
      filled = None;
    })

-- REQUEST: the arguments are copied now, and the sender has a new future
abbrev pub sends : Name → Activity → List Context → Store → Name → Text → List ℕ → Intent
sends n a contexts s to label arguments =
    let future : FutureShape = record { by = n; index = suc a.sends } in
    Acts (record {
      own = record a {
        term = plug contexts (loc (length s));
        store = s ++ Future future ∷ [];
        sends = suc a.sends;
        reductions = suc a.reductions;
      };
      sent = Some (to, record { label = label; sender = n; future = future; arguments = parcel_of s arguments });
      logged = Some (to, From n);
      made = None;
      filled = None;
    })

-- a received request, with its number
abbrev pub Numbered : Type 0
Numbered = ℕ × RequestShape

-- the oldest request, from this number on, that was not served and has one of the labels
abbrev pub oldest_match : List Text → List ℕ → ℕ → List RequestShape → Option Numbered
oldest_match labels served k [] = None
oldest_match labels served k (r ∷ rs) = elim (not (has_place k served) && has_text (label_of r) labels) [
  | true ↦ Some (k, r)
  | false ↦ oldest_match labels served (suc k) rs
]

-- the labels of an object's methods
abbrev pub method_labels : CellShape → List Text
method_labels (Object fields methods) = map (λ m. m.head.label) methods
method_labels c = []

-- the labels of a `serve`: with none written, those of the active object's methods
abbrev pub labels_served : List Text → CellShape → List Text
labels_served [] c = method_labels c
labels_served (l ∷ ls) c = l ∷ ls

-- SERVE: the term is suspended, and becomes the call that was asked for
abbrev pub serves : Activity → List Context → Option Numbered → Intent
serves a contexts None = Rests Serving
serves a contexts (Some x) = alone (record a {
  term = node (Call (label_of x.1)) (more (loc a.active) (locs_then (unpacked_roots a.store x.1.arguments) none));
  services = a.services ++ record { contexts = contexts; future = a.present } ∷ [];
  present = Some x.1.future;
  store = unpack a.store x.1.arguments;
  reductions = suc a.reductions;
  served = x.0 ∷ a.served;
})

-- POLL: the term becomes a number, 1 where a pending request has one of the labels; the log notes that it was asked
abbrev pub polls : Name → Activity → List Context → Store → Option Numbered → Intent
polls n a contexts s found = Acts (record {
  own = record a {
    term = plug contexts (loc (length s));
    store = s ++ Number (truth (is_some found)) ∷ [];
    reductions = suc a.reductions;
  };
  sent = None;
  logged = Some (n, Poll);
  made = None;
  filled = None;
})

-- the newest suspended service, where there is one
abbrev pub newest : List ServiceShape → Option ServiceShape
newest [] = None
newest (x ∷ []) = Some x
newest (x ∷ y ∷ xs) = newest (y ∷ xs)

-- all suspended services but the newest
abbrev pub but_newest : List ServiceShape → List ServiceShape
but_newest [] = []
but_newest (x ∷ []) = []
but_newest (x ∷ y ∷ xs) = x ∷ but_newest (y ∷ xs)

-- the future with its value; none where no request is answered
abbrev pub filling : Option FutureShape → ParcelShape → Option (FutureShape × ParcelShape)
filling None p = None
filling (Some f) p = Some (f, p)

-- ENDSERVICE: the present future gets a copy of the result, and the newest suspended term goes on with `[]`
abbrev pub ends_service : Activity → ℕ → Option ServiceShape → Intent
ends_service a place None = Rests Done
ends_service a place (Some x) = Acts (record {
  own = record a {
    term = plug x.contexts (leaf (Make [] []));
    services = but_newest a.services;
    present = x.future;
    reductions = suc a.reductions;
  };
  sent = None;
  logged = None;
  made = None;
  filled = filling a.present (parcel_of a.store (place ∷ []));
})

-- Intents

-- each communication as an intent; SERVE and POLL find the same request
abbrev pub communicates : List RequestShape → Name → Activity → List Context → Store → Communication → Intent
communicates requests n a contexts s (Creates object service) = creates n a contexts s object service
communicates requests n a contexts s (Sends to label arguments) = sends n a contexts s to label arguments
communicates requests n a contexts s (Serves labels) =
    serves a contexts (oldest_match (labels_served labels (cell s a.active)) a.served 0 requests)
communicates requests n a contexts s (Polls labels) =
    polls n a contexts s (oldest_match (labels_served labels (cell s a.active)) a.served 0 requests)

-- LOCAL, or a communication; what no program comes to stands still
abbrev pub contracts : List RequestShape → Name → Activity → List Context → Store → Contraction → Intent
contracts requests n a contexts s (Becomes t store lines) = alone (record a {
  term = plug contexts t;
  store = store;
  lines = a.lines ++ lines;
  reductions = suc a.reductions;
})
contracts requests n a contexts s (Faults fault) = Rests (Faulted fault)
contracts requests n a contexts s (Communicates x) = communicates requests n a contexts s x
contracts requests n a contexts s (Needs place) = Rests Done
contracts requests n a contexts s Breaks = Rests Done

-- what an activity intends: `chases` reads the futures, and `requests` are those that it received
abbrev pub intent : (FutureShape → Chase) → List RequestShape → Name → Activity → Intent
intent chases requests n a = elim (split a.term) [
  | Stands place ↦ ends_service a place (newest a.services)
  | Splits contexts redex ↦ elim (redex_ready chases a.store redex) [
    | Lacks f ↦ Rests (Awaits f)
    | Reads s ↦ contracts requests n a contexts s (contract s redex)
  ]
]
