-- The loop over the fields of an object, and over objects.
use Rattle.std.proofs.{Common.ne_eqb, Common.eq-eqb, Common.◌≡◌, Common.◌≢◌, Common.ℕ, Common.suc, Common.◌+◌, Common.◌^◌, Common.◌<◌, Common.◌≤◌, Common.Bool, Common.true, Common.false, Common.not, Common.◌&&◌, Common.eqb, Common.List, Common.[], Common.◌∷◌, Common.◌++◌, Common.length, Common.refl, Common.sym, Common.ap, Common.subst, Common.◌∙◌, Common.arith, Common.append_assoc, Math.Bool.and-false, lemmas.List.append-nil}
use Rattle.nmgc_world_spec.specs.{declared.value.Name.Name, declared.node.Node.Node, declared.node.Node.TheVariants.Con, declared.node.Node.TheVariants.Var, declared.node.Node.TheVariants.Arr, declared.node.Node.TheVariants.Thunk, declared.node.Node.TheVariants.Weak, declared.node.Node.TheVariants.Stack, declared.node.Kind.Kind}
use Rattle.nmgc_world_spec.specs.declared.node.Kind.TheVariants as kind
use Rattle.nmgc_object.specs.{declared.words.Header.Header, declared.size.TheConstants.HEADER_WORDS, Words.header_word, Words.IsHeader, Words.word_total, Layouts.IsLayout, declared.layout.Layout.Layout}
use Rattle.nmgc_snapshot_laws.specs.Scan.{fields_of}
use Rattle.nmgc_alloc.specs.AllocState.{Segments}
use Rattle.nmgc_round.specs.{declared.table.Round.Round, View.Opening, View.Seen, View.Scan, Marking.Marks, Marking.name_meant, Marking.name_read, Marking.rest_of, Marking.with_name, Marking.is_last_word, Marking.is_thunk, Ready.scanned_by, Known.FindsScan, Seat.RoundSeat, Seat.IsAt, Seat.Knows, Seat.seen, Seat.word_count}
use Rattle.nmgc_mark.specs.{Seen.MarkerSeen, Marker.HasRoomToMark, Marker.HasMarked, Marker.turned, Tie.IsTied, laws.Common.marked_then, Work.IsScanning, Work.IsCollector, Work.IsLaterSeat, Work.IsAtField, Work.HasWorked, Work.SeatShows, Work.entry_now, Work.marks_seen, Work.fields_scanned, Work.has_results, Work.is_result}
use Rattle.nmgc_mark.proofs.Scanning.{IsNode, IsTaken, node_known, thunk_by, goes_on, ends, not_last, header_more, field_last, result_last, fields_are}

pub few : (k : Kind) (n : ℕ) → fields_scanned k n ≤ n
few kind.Con n = omega arith
few kind.Var n = omega arith
few kind.Arr n = omega arith
few kind.Thunk n = omega arith
few kind.Weak n = omega arith
few kind.Stack n = omega arith

-- only a thunk has a result, and it is its first field
pub no_result : (k : Kind) (field w : ℕ) → (has_results k ≡ true → 1 ≤ field) → is_result k field w ≡ false
no_result k field w later = by (has_results k) refl
  where
    by : (b : Bool) → has_results k ≡ b → (eqb field 0 && (has_results k && not (eqb w 0))) ≡ false
    by true e = ap (λ (b : Bool). b && (has_results k && not (eqb w 0))) (ne_eqb field 0 (λ z. let l = later e in omega arith))
    by false e = ap (λ (b : Bool). eqb field 0 && (b && not (eqb w 0))) e ∙ and-false (eqb field 0)

-- whether the result was set
pub result_set : (k : Kind) (w : ℕ) → has_results k ≡ true → w ≢ 0 → is_result k 0 w ≡ true
result_set k w thunk some_ = ap (λ (b : Bool). b && not (eqb w 0)) thunk ∙ ap (λ (b : Bool). not b) (ne_eqb w 0 some_)

pub result_unset : (k : Kind) (w : ℕ) → w ≡ 0 → is_result k 0 w ≡ false
result_unset k w none = ap (λ (b : Bool). has_results k && not b) (eq-eqb w 0 none) ∙ and-false (has_results k)

thunk_has : (node : Node) → is_thunk node ≡ true → 0 < fields_of node
thunk_has (Thunk free result) e = omega arith
thunk_has (Con tag values) e = absurd cc
thunk_has (Var v) e = absurd cc
thunk_has (Arr values) e = absurd cc
thunk_has (Weak parts) e = absurd cc
thunk_has (Stack size values) e = absurd cc

-- a thunk has the field of its result
pub result_there : (o : Opening) (name : Name) (header : Header) (fields : ℕ) → IsNode o name header → has_results header.kind ≡ true →
    fields ≡ fields_scanned header.kind header.fields → 0 < fields
result_there o name header fields n thunk f =
    let has = thunk_has n.node (thunk_by n.node ∙ ap (λ (h : Header). has_results h.kind) n.is ∙ thunk) in
    let are = fields_are n.node header fields n.is f in
    omega arith

pub marked_more : (s t u : Segments) (a b c : MarkerSeen) → HasMarked s t a b 0 → HasMarked t u b c 0 → HasMarked s u a c 0
marked_more s t u a b c x y = marked_then s t u a b c 0 0 x y

read_field : (o : Opening) (m : Marks) (field w : ℕ) → with_name o.core.snapshot m (name_read o.places (field + 1) w) ≡
    with_name o.core.snapshot m (name_meant o.places w)
read_field o m field w = let z : field + 1 ≡ suc field = omega arith in ap (λ n. with_name o.core.snapshot m (name_read o.places n w)) z

-- after the header
first_field : (v : Seen) (s : Segments) (m : MarkerSeen) (at w fields : ℕ) (header : Header) → IsScanning v s m at 0 →
    IsNode v.opening (entry_now v).name header → fields ≡ fields_scanned header.kind header.fields → IsAtField v (scanned_by v w) s m at fields 0
first_field v s m at w fields header h n f =
    let are = fields_are n.node header fields n.is f in
    record {
      opening = refl;
      more = λ lt. goes_on v w at s s m m 0 h n.node n.there (header_more n.node fields w are lt) h.tied;
      last = λ le. ends v w at s s m m 0 h n.node n.there (field_last n.node fields 0 w are le) h.tied;
    }

-- the facts that the header of the object gives
pub header_known : (v : Seen) (s : Segments) (m : MarkerSeen) (at w fields : ℕ) (header : Header) → IsScanning v s m at 0 → FindsScan v w →
    ((other : Header) → IsHeader other → header_word other ≡ w → header ≡ other) → fields ≡ fields_scanned header.kind header.fields →
    IsNode v.opening (entry_now v).name header × IsAtField v (scanned_by v w) s m at fields 0
header_known v s m at w fields header h agrees is f =
    let n = node_known v s m at w header h agrees is in
    (n, first_field v s m at w fields header h n f)

-- the node of the object that is scanned, later
node_later : (from v : Seen) (s : Segments) (m : MarkerSeen) (at fields field : ℕ) (header : Header) →
    IsNode from.opening (entry_now from).name header → IsAtField from v s m at fields field → field < fields → IsNode v.opening (entry_now v).name header
node_later from v s m at fields field header n h lt =
    subst (λ (y : Opening). IsNode y (entry_now v).name header) (sym h.opening) (subst (λ (k : Name). IsNode from.opening k header) (sym (h.more lt).1) n)

-- the field is within the words
pub field_within : (from v : Seen) (s : Segments) (m : MarkerSeen) (at fields field : ℕ) (header : Header) →
    IsNode from.opening (entry_now from).name header → IsAtField from v s m at fields field → field < fields →
    fields ≡ fields_scanned header.kind header.fields → at + HEADER_WORDS + field < word_total v.opening.layout
field_within from v s m at fields field header n h lt f =
    let node = node_later from v s m at fields field header n h lt in
    let r = node.room at (h.more lt).0.there in
    let fewer : fields ≤ header.fields = subst (λ k. k ≤ header.fields) (sym f) (few header.kind header.fields) in
    let is = ap (λ (x : Header). x.fields) node.is in
    omega arith

module _ (from v : Seen) (s t : Segments) (m n : MarkerSeen) (at w fields field : ℕ) (header : Header)
    (first : IsNode from.opening (entry_now from).name header) (inv : IsAtField from v s m at fields field) (lt : field < fields) (f : fields ≡
    fields_scanned header.kind header.fields)
    (tied : IsTied v.opening (with_name v.opening.core.snapshot (rest_of (marks_seen v)) (name_meant v.opening.places w)) t n) where
  scanning : IsScanning v s m at (field + 1)
  scanning = (inv.more lt).0

  node : IsNode v.opening (entry_now v).name header
  node = node_later from v s m at fields field header first inv lt

  tied' : IsTied v.opening (with_name v.opening.core.snapshot (rest_of (marks_seen v)) (name_read v.opening.places (field + 1) w)) t n
  tied' = subst (λ (k : Marks). IsTied v.opening k t n) (sym (read_field v.opening (rest_of (marks_seen v)) field w)) tied

  are : fields_of node.node ≡ fields
  are = fields_are node.node header fields node.is f

  done : is_last_word node.node (field + 1) w ≡ true → IsTied v.opening (marks_seen (scanned_by v w)) t n
  done last = ends v w at s t m n (field + 1) scanning node.node node.there last tied'

  -- the next field
  pub next_field : is_result header.kind field w ≡ false → IsAtField from (scanned_by v w) t n at fields (field + 1)
  next_field none = record {
    opening = inv.opening;
    more = λ l.
        let g = goes_on v w at s t m n (field + 1) scanning node.node node.there (not_last node.node fields field w are l (ap (λ (h : Header).
        is_result h.kind field w) node.is ∙ none)) tied' in
        (g.0, g.1 ∙ (inv.more lt).1);
    last = λ le. done (field_last node.node fields (field + 1) w are le);
  }

  -- a result that was set
  pub with_result : is_result header.kind field w ≡ true → IsTied v.opening (marks_seen (scanned_by v w)) t n
  with_result set = done (result_last node.node field w (ap (λ (h : Header). is_result h.kind field w) node.is ∙ set))

-- the first address of the queue was taken
pub room_taken : (s : Segments) (old new : MarkerSeen) → HasRoomToMark s old → IsTaken old new → HasRoomToMark s new
room_taken s old new h e = subst (λ (m : MarkerSeen). HasRoomToMark s m) (sym e) (record { places = h.places; all = h.all; room = h.room })

-- an object was taken off the queue, and scanned
pub object_marked : (s t u : Segments) (before m taken n : MarkerSeen) (at count : ℕ) → HasMarked s t before m count → m.queue ≡ at ∷ taken.queue →
    IsTaken m taken → HasMarked t u taken n 0 → HasMarked s u before n (count + 1)
object_marked s t u before m taken n at count inv q e done = record {
  room = done.room;
  scanned = record {
    epoch = done.scanned.epoch ∙ ap (λ (k : MarkerSeen). k.epoch) e ∙ inv.scanned.epoch;
    grows =
        (let a = inv.scanned.grows in
        let b = done.scanned.grows in
        let k : taken.marked ≡ m.marked = ap (λ (k : MarkerSeen). k.marked) e in
        omega arith);
    pace =
        (let a = inv.scanned.pace in
        let b = done.scanned.pace in
        let l : length m.queue ≡ length taken.queue + 1 = ap (λ (k : List ℕ). length k) q ∙
        (let z : length (at ∷ taken.queue) ≡ length taken.queue + 1 = omega arith in z) in
        let k : taken.marked ≡ m.marked = ap (λ (k : MarkerSeen). k.marked) e in
        omega arith);
    room =
        (let a = inv.scanned.room in
        let b = done.scanned.room in
        let k : taken.marked ≡ m.marked = ap (λ (k : MarkerSeen). k.marked) e in
        let l : taken.spare ≡ m.spare = ap (λ (k : MarkerSeen). k.spare) e in
        omega arith);
  };
  layout = done.layout ∙ inv.layout;
  stands = λ words k h. done.stands words k (inv.stands words k h);
}

-- a seat with one scan more, or with the same scans
pub same_seat : (seat : RoundSeat) → IsLaterSeat seat seat
same_seat seat = record {
  id = refl;
  scans = [];
  knows = ap (λ (l : List Scan). let v : Seen = record (seen seat) { scans = l } in
      v) (sym (append-nil (seen seat).scans));
}

one_scan : (round : Round) (from old new : RoundSeat) (w : ℕ) → IsLaterSeat from old → Knows round old new (scanned_by (seen old) w) → IsLaterSeat from new
one_scan round from old new w l k =
    let s : Scan = record { entry = entry_now (seen old); word = w } in
    let is : seen old ≡ record (seen from) { scans = (seen from).scans ++ l.scans } = l.knows in
    record {
      id = k.1 ∙ l.id;
      scans = l.scans ++ s ∷ [];
      knows = k.2 ∙ ap (λ (v : Seen). let u : Seen = record v { scans = v.scans ++ s ∷ [] } in u) is ∙
          ap (λ (xs : List Scan). let u : Seen = record (seen from) { scans = xs } in u) (append_assoc (seen from).scans l.scans (s ∷ []));
    }

pub later_seat : (a b c : RoundSeat) → IsLaterSeat a b → IsLaterSeat b c → IsLaterSeat a c
later_seat a b c x y = record {
  id = y.id ∙ x.id;
  scans = x.scans ++ y.scans;
  knows = y.knows ∙ ap (λ (v : Seen). let u : Seen = record v { scans = v.scans ++ y.scans } in u) x.knows ∙
      ap (λ (xs : List Scan). let u : Seen = record (seen a) { scans = xs } in u) (append_assoc (seen a).scans x.scans y.scans);
}

still_collector : (round : Round) (old new : RoundSeat) (w : ℕ) → IsCollector round old → Knows round old new (scanned_by (seen old) w) →
    IsCollector round new
still_collector round old new w h k = (k.0, ap (λ (v : Seen). v.collects) k.2 ∙ h.1)

pub seat_scanned : (round : Round) (first old new : RoundSeat) (v : Seen) (w : ℕ) → SeatShows round first old v →
    Knows round old new (scanned_by (seen old) w) → SeatShows round first new (scanned_by v w)
seat_scanned round first old new v w shows k = (
  still_collector round old new w shows.0 k,
  one_scan round first old new w shows.1 k,
  k.2 ∙ ap (λ (x : Seen). scanned_by x w) shows.2,
)

-- a seat that looked at a word, with the same knowledge as before
pub still_worked : (round : Round) (from old new : RoundSeat) (s t : Segments) (m n : MarkerSeen) (count : ℕ) → HasWorked round from old s t m n count →
    Knows round old new (seen old) → HasWorked round from new s t m n count
still_worked round from old new s t m n count w k = record {
  collector = (k.0, ap (λ (v : Seen). v.collects) k.2 ∙ w.collector.1);
  later = record { id = k.1 ∙ w.later.id; scans = w.later.scans; knows = k.2 ∙ w.later.knows };
  marked = w.marked;
  tied = subst (λ (v : Seen). IsTied v.opening (marks_seen v) t n) (sym k.2) w.tied;
}

-- the word count of a round is the word count of its views
pub words_in : (round : Round) (seat : RoundSeat) → IsAt round seat → word_total (seen seat).opening.layout ≡ word_count round
words_in round seat h = ap (λ (o : Opening). word_total o.layout) h.2 ∙ round.sized

-- the words of a heap are few enough for an address
pub total_small : (layout : Layout) → IsLayout layout → word_total layout < 2 ^ 32
total_small layout h = let heap = h.heap in omega arith

-- the same marker, after the first address of its queue was taken
pub queue_taken : (old new : MarkerSeen) → new ≡ record old { queue = new.queue } → IsTaken old new
queue_taken old new e = e ∙ ap (λ (n : ℕ). let k : MarkerSeen = record old { queue = new.queue; turns = n } in k) (sym (ap (λ (m : MarkerSeen). m.turns) e))

-- so it is after a pass of the gate
pub passed_taken : (old taken new : MarkerSeen) (turns : ℕ) → taken ≡ record old { queue = taken.queue } → new ≡ turned taken turns → IsTaken old new
passed_taken old taken new turns e same = same ∙ ap (λ (m : MarkerSeen). turned m turns) e ∙
    ap (λ (m : MarkerSeen). let k : MarkerSeen = record old { queue = m.queue; turns = m.turns } in k) (sym same)
