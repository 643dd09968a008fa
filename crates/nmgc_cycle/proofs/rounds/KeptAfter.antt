-- The collector after a round with reported replies: its invariant, and the round.
use Rattle.nmgc_cycle.proofs.Vocabulary.{ℕ, ◌≡◌, ◌<◌, List, [], ◌∷◌, ◌++◌, length, map, slice_index, refl, sym, ap, subst, ◌∙◌, arith, Some, Global, slice_get, Vec, get_or-map, length-map, get_or_from_slice_get, slice_get_within, map_item, Reply, Layout, IsLayout, RoundRows, IsFor, Mutator, Opening, Done, Script, IsAfterRound, plan_of, answered_count, HaveEntries, Collector, IsWellFormed, IsOwn, DidRound, seen, seen_mutator, cleared, item, slice_index_or}
use Rattle.nmgc_collector_laws.specs.Seen as run
use Rattle.nmgc_cycle.proofs.{rounds.AfterRound.gone_on, rounds.AfterRound.is_after, Vocabulary.HasRoundLaws, rounds.GoneOn.HasGoneOn, lengths.Measures.answered_more, rounds.Over.IsOver, rounds.Over.t, rounds.Over.rows, rounds.Over.reported, rounds.Over.last, rounds.Over.shown, rounds.Over.worked, rounds.Over.done_count, rounds.Over.mutators_count, rounds.Over.one, rounds.OwnRows.replies_in, lists.Plans.is_layout, rounds.Reserved.sweeps_on, lengths.RoundFew.round_few, rounds.Rounded.one_did, rounds.Rounded.reported_is, rounds.Lining.lined_on, rounds.Lining.same_item}

-- contracts see no replies of a mutator
same_cleared : (ms : List Mutator) → map seen_mutator (map cleared ms) ≡ map seen_mutator ms
same_cleared [] = refl
same_cleared (m ∷ ms) = ap (λ (l : List run.MutatorSeen). seen_mutator m ∷ l) (same_cleared ms)

module _ (laws : HasRoundLaws) (script : Script) (c new : Collector) (o : Opening) (x : IsOver script c new o) (mutators : Vec Mutator Global)
    (mutators_are : mutators.items ≡ map cleared new.mutators.items) where
  abbrev row : RoundRows
  row = record { replies = reported script c new o x }

  abbrev pub after : Collector
  after = record (last script c new o x) { mutators = mutators }

  seen_is : shown script c new o x ≡ seen after
  seen_is = ap (λ (l : List run.MutatorSeen). record (shown script c new o x) {
    mutators =
        l;
  }) (sym (ap (λ (l : List Mutator). map seen_mutator l) mutators_are ∙ same_cleared new.mutators.items))

  same_count : length mutators.items ≡ length c.mutators.items
  same_count = cc (mutators_are, length-map new.mutators.items cleared, mutators_count script c new o x, x.still.kept.count)

  same_layout : new.heap.segments.layout ≡ c.heap.segments.layout
  same_layout = (gone_on laws script c new o x).heap.holds.layout_is ∙ sym x.still.kept.layout

  own : (k : ℕ) (m : Mutator) → slice_get mutators.items k ≡ Some m → IsOwn after k m
  own k m e =
      let was = map_item cleared new.mutators.items k m (ap (λ (l : List Mutator). slice_get l k) (sym mutators_are) ∙ e) in
      let did = (one_did script c new o x k was.0 was.1).1.2 in
      let same : was.0.layout ≡ c.heap.segments.layout = did.layout ∙ x.op.layout_is in
      let number = (worked script c new o x).numbers_are k was.0 was.1 in
      subst (IsOwn after k) (sym was.2) (record {
        number = number;
        layout = same ∙ sym same_layout;
        whole = record {
          layout = subst IsLayout (sym (same ∙ x.still.kept.layout)) (is_layout script x.limits);
          number =
              let within = slice_get_within new.mutators.items k was.0 was.1 in
              let count = (worked script c new o x).mutators_are in
              let many = ap (λ (l : Layout). l.mutators) did.layout in
              omega (arith, within, count, many, number);
          size = did.size;
        };
        no_replies = refl;
        line =
            let d = item x.did.done k (let n = done_count script c new o x in let there = slice_get_within new.mutators.items k was.0 was.1 in
            let many = mutators_count script c new o x in omega (arith, there, many, n)) in
            let h = one script c new o x k d.0 d.1 in
            let is : h.1 ≡ was.0 = same_item new.mutators.items k h.1 was.0 h.3 was.1 in
            rw is at (lined_on c.inbox new.inbox x.did.polled k h.0.sender h.1.sender h.4.sends.0 h.4.sends.1
            (x.still.kept.own k h.0 h.2).line);
      })

  position_is : (k : ℕ) → k < length script.threads → slice_index new.positions.items k ≡ answered_count (c.rows.rounds ++ row ∷ []) k
  position_is k lt =
      let d = item x.did.done k (let n = done_count script c new o x in omega (arith, lt, n)) in
      let own : slice_index_or x.did.done k [] ≡ d.0 = get_or_from_slice_get x.did.done k d.0 [] d.1 in
      let replied : slice_index_or (reported script c new o x) k [] ≡ replies_in d.0 =
      ap (λ (l : List (List Reply)). slice_index_or l k []) (reported_is script c new o x) ∙ get_or-map replies_in x.did.done k [] ∙ ap replies_in own in
      let many : length (slice_index_or (reported script c new o x) k []) ≡ length d.0 = cc (replied, length-map d.0 (λ (y : Done). y.1)) in
      let before = x.still.kept.positions k lt in
      let now = (one script c new o x k d.0 d.1).4.position in
      let more = answered_more c.rows.rounds row k in
      omega (arith, many, before, now, more)

  kept : IsWellFormed script after
  kept = record {
    layout = same_layout ∙ x.still.kept.layout;
    sound = x.did.sound;
    lists = subst (λ (l : Layout). IsFor l c.heap.promotion) (sym same_layout) x.still.kept.lists;
    entries = subst (λ (l : Layout). HaveEntries l c.heap.names) (sym same_layout) x.still.kept.entries;
    has_words = refl;
    count = same_count ∙ x.still.kept.count;
    own = own;
    inbox = x.did.polled.count ∙ x.still.kept.inbox;
    positions_are = x.did.positions_are ∙ x.still.kept.positions_are;
    positions = position_is;
    no_ends = x.still.kept.no_ends;
    room = x.still.kept.room;
    workers = x.still.kept.workers;
  }

  pub did_round : DidRound script c after
  did_round =
      let g : HasGoneOn script c new o x = gone_on laws script c new o x in
      let is : IsAfterRound (plan_of script) x.run (reported script c new o x) (rows script c new o x) (t script c new o x g.blocks) (seen after) =
      subst (IsAfterRound (plan_of script) x.run (reported script c new o x) (rows script c new o x) (t script c new o x g.blocks)) seen_is
      (is_after laws script c new o x g) in (
        record {
          kept = kept;
          goes_on = x.goes_on;
          run = x.run;
          replies = reported script c new o x;
          history = rows script c new o x;
          worked = t script c new o x g.blocks;
          after = is;
          sweeper = sweeps_on (t script c new o x g.blocks).progress (t script c new o x g.blocks) (last script c new o x) mutators g.sweeper;
          named = g.named;
          few = round_few script c after x.run (reported script c new o x) (rows script c new o x) (t script c new o x g.blocks) x.limits x.still is
              x.did.helped.round x.did.helped.from x.did.helped.seat x.did.helped.helped;
        },
        x.still,
      )
