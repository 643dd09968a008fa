-- Lines of format 3 are read as they are spelled, and in no other way.
use Rattle.std.proofs.Common.{◌≡◌, ◌<◌, ◌≤◌, ◌+◌, ◌-◌, ◌^◌, ℕ, List, [], ◌∷◌, length, refl, sym, ap, subst, ◌∙◌, arith, inl, inr, true, false, eqb, ltb, decimal, codes, Option, Some, None}
use Rattle.std.proofs.lemmas.{Bool.false≢true, Bool.ltb-false, Bool.le-ltb, Option.none-some, Option.same_Some}
use Rattle.std.specs.Str.{bytes_eq}
use Rattle.nmgc_lists.specs.laws.Truths.{chosen}
use Rattle.nmgc_field_checker.specs.declared.event.{Actor.Actor, FieldEvent.FieldEvent}
use Rattle.nmgc_field_checker.specs.declared.event.FieldEvent.TheVariants as event
use Rattle.nmgc_field_reader.specs.{FieldLines.AreNames, FieldLines.AreValues, FieldLines.IsActor, FieldLines.IsMeant, FieldLines.IsMutator, FieldLines.IsName, FieldLines.Known, FieldLines.Means, FieldLines.object_at, FieldReading.◌>>=◌, FieldReading.acted_at, FieldReading.actor_at, FieldReading.began_at, FieldReading.black_at, FieldReading.close_at, FieldReading.each_at, FieldReading.ended_at, FieldReading.ending_at, FieldReading.event_at, FieldReading.freed_at, FieldReading.handed_at, FieldReading.is_name, FieldReading.made_at, FieldReading.mark_at, FieldReading.marked_at, FieldReading.mutator_at, FieldReading.new_at, FieldReading.number_at, FieldReading.object_named, FieldReading.objects_at, FieldReading.owed_at, FieldReading.push_at, FieldReading.scan_at, FieldReading.settle_at, FieldReading.short_at, FieldReading.stop_at, FieldReading.value_named, FieldReading.verb_at, FieldReading.written_at}
use Rattle.nmgc_field_reader.specs.FieldLines as lines
use Rattle.nmgc_field_reader.proofs.NumberReads.{bind_some, guard_some, number_again, number_takes}
use Rattle.nmgc_field_reader.proofs.TokenReads.{actor_again, actor_takes, as_many, is_word, mutator_again, mutator_number, mutator_takes, name_again, name_takes, no_mutator, no_runtime, object_again, object_takes, objects_again, objects_take, values_again, values_take}

module _ (known : Known) where
  -- THE EVENT THAT IS READ IS THE LINE'S

  began_takes : (words : List (List ℕ)) (e : FieldEvent) → began_at words ≡ Some e → Means known (codes "began" ∷ words) e
  unfolding began_at
  began_takes (m ∷ []) e h =
      let b = bind_some (mutator_at m) (λ a. Some (event.Began a)) e h in
      subst (Means known (codes "began" ∷ m ∷ [])) (same_Some (event.Began b.0) e b.2) (lines.began m b.0 (mutator_takes m b.0 b.1))
  began_takes _ e h = absurd cc

  ended_takes : (words : List (List ℕ)) (e : FieldEvent) → ended_at words ≡ Some e → Means known (codes "ended" ∷ words) e
  unfolding ended_at
  ended_takes (m ∷ []) e h =
      let b = bind_some (mutator_at m) (λ a. Some (event.Ended a)) e h in
      subst (Means known (codes "ended" ∷ m ∷ [])) (same_Some (event.Ended b.0) e b.2) (lines.ended m b.0 (mutator_takes m b.0 b.1))
  ended_takes _ e h = absurd cc

  settle_takes : (words : List (List ℕ)) (e : FieldEvent) → settle_at words ≡ Some e → Means known (codes "settle" ∷ words) e
  unfolding settle_at
  settle_takes (m ∷ []) e h =
      let b = bind_some (mutator_at m) (λ a. Some (event.Settle a)) e h in
      subst (Means known (codes "settle" ∷ m ∷ [])) (same_Some (event.Settle b.0) e b.2) (lines.settle m b.0 (mutator_takes m b.0 b.1))
  settle_takes _ e h = absurd cc

  push_takes : (words : List (List ℕ)) (e : FieldEvent) → push_at known words ≡ Some e → Means known (codes "push" ∷ words) e
  unfolding push_at
  push_takes (m ∷ name ∷ []) e h =
      let a = bind_some (actor_at m) (λ a. object_named known name >>= λ object. Some (event.Push a object)) e h in
      let o = bind_some (object_named known name) (λ object. Some (event.Push a.0 object)) e a.2 in
      let n = object_takes known name o.0 o.1 in
      subst (Means known (codes "push" ∷ m ∷ name ∷ [])) (ap (λ (k : ℕ). event.Push a.0 k) (sym n.1) ∙ same_Some (event.Push a.0 o.0) e o.2)
      (lines.push m name a.0 (actor_takes m a.0 a.1) n.0)
  push_takes _ e h = absurd cc

  mark_takes : (words : List (List ℕ)) (e : FieldEvent) → mark_at known words ≡ Some e → Means known (codes "mark" ∷ words) e
  unfolding mark_at
  mark_takes words e h =
      let b = bind_some (objects_at known words) (λ roots. Some (event.Mark roots)) e h in
      subst (Means known (codes "mark" ∷ words)) (same_Some (event.Mark b.0) e b.2) (lines.mark words b.0 (objects_take known words b.0 b.1))

  scan_takes : (words : List (List ℕ)) (e : FieldEvent) → scan_at known words ≡ Some e → Means known (codes "scan" ∷ words) e
  unfolding scan_at
  scan_takes [] e h = absurd cc
  scan_takes (m ∷ words) e h =
      let a = bind_some (mutator_at m) (λ a. objects_at known words >>= λ roots. Some (event.Scan a roots)) e h in
      let b = bind_some (objects_at known words) (λ roots. Some (event.Scan a.0 roots)) e a.2 in
      subst (Means known (codes "scan" ∷ m ∷ words)) (same_Some (event.Scan a.0 b.0) e b.2)
      (lines.scan m words a.0 b.0 (mutator_takes m a.0 a.1) (objects_take known words b.0 b.1))

  close_takes : (words : List (List ℕ)) (e : FieldEvent) → close_at words ≡ Some e → Means known (codes "close" ∷ words) e
  unfolding close_at
  close_takes [] e h = subst (Means known (codes "close" ∷ [])) (same_Some event.Close e h) lines.close
  close_takes (w ∷ ws) e h = absurd cc

  marked_takes : (words : List (List ℕ)) (e : FieldEvent) → marked_at known words ≡ Some e → Means known (codes "marked" ∷ words) e
  unfolding marked_at
  marked_takes words e h =
      let b = bind_some (objects_at known words) (λ objects. Some (event.Marked objects)) e h in
      subst (Means known (codes "marked" ∷ words)) (same_Some (event.Marked b.0) e b.2) (lines.marked words b.0 (objects_take known words b.0 b.1))

  black_takes : (words : List (List ℕ)) (e : FieldEvent) → black_at known words ≡ Some e → Means known (codes "black" ∷ words) e
  unfolding black_at
  black_takes words e h =
      let b = bind_some (objects_at known words) (λ objects. Some (event.Black objects)) e h in
      subst (Means known (codes "black" ∷ words)) (same_Some (event.Black b.0) e b.2) (lines.black words b.0 (objects_take known words b.0 b.1))

  freed_takes : (words : List (List ℕ)) (e : FieldEvent) → freed_at known words ≡ Some e → Means known (codes "freed" ∷ words) e
  unfolding freed_at
  freed_takes words e h =
      let b = bind_some (objects_at known words) (λ objects. Some (event.Freed objects)) e h in
      subst (Means known (codes "freed" ∷ words)) (same_Some (event.Freed b.0) e b.2) (lines.freed words b.0 (objects_take known words b.0 b.1))

  stop_takes : (words : List (List ℕ)) (e : FieldEvent) → stop_at words ≡ Some e → Means known (codes "stop" ∷ words) e
  unfolding stop_at
  stop_takes [] e h = subst (Means known (codes "stop" ∷ [])) (same_Some event.Stop e h) lines.stop
  stop_takes (w ∷ ws) e h = absurd cc

  -- lines of an actor
  module _ (m : List ℕ) (a : Actor) (i : IsActor m a) (name : List ℕ) where
    made_takes : (words : List (List ℕ)) (e : FieldEvent) → made_at known a name words ≡ Some e → Means known (m ∷ codes "new" ∷ name ∷ words) e
    unfolding made_at new_at
    made_takes [] e h = absurd cc
    made_takes (count ∷ words) e h =
        let g = guard_some (is_name name) (short_at count >>= λ n. each_at (value_named known) words >>= λ values. new_at a (known name) n values) e h in
        let s = bind_some (short_at count) (λ n. each_at (value_named known) words >>= λ values. new_at a (known name) n values) e g.1 in
        let f = bind_some (each_at (value_named known) words) (λ values. new_at a (known name) s.0 values) e s.2 in
        let n = number_takes (2 ^ 32 - 1) count s.0 s.1 in
        let are = values_take known words f.0 f.1 in
        let same : length words ≡ length f.0 = as_many known words f.0 are in
        elim (chosen (ltb s.0 (length f.0)) None (Some (event.Made a (known name) s.0 f.0)) (Some e) f.2) [
          | inl p ↦ absurd (none-some e p.1)
          | inr p ↦
              let le : length f.0 ≤ s.0 = ltb-false s.0 (length f.0) p.0 in
              let top = n.1 in
              subst (λ (c : List ℕ). Means known (m ∷ codes "new" ∷ name ∷ c ∷ words) e) (sym n.0)
              (subst (Means known (m ∷ codes "new" ∷ name ∷ decimal s.0 ∷ words)) (same_Some (event.Made a (known name) s.0 f.0) e p.1)
              (lines.made m name s.0 words a f.0 i (name_takes name g.0) (omega arith) (omega arith) are))
        ]

    written_takes : (words : List (List ℕ)) (e : FieldEvent) → written_at known a name words ≡ Some e → Means known (m ∷ codes "write" ∷ name ∷ words) e
    unfolding written_at
    written_takes (place ∷ word ∷ words) e h =
        let o = bind_some (object_named known name) (λ object. short_at place >>= λ at. each_at (value_named known) (word ∷ words) >>= λ values. Some (event.Written a object at values)) e h in
        let s = bind_some (short_at place) (λ at. each_at (value_named known) (word ∷ words) >>= λ values. Some (event.Written a o.0 at values)) e o.2 in
        let f = bind_some (each_at (value_named known) (word ∷ words)) (λ values. Some (event.Written a o.0 s.0 values)) e s.2 in
        let n = number_takes (2 ^ 32 - 1) place s.0 s.1 in
        let t = object_takes known name o.0 o.1 in
        let top = n.1 in
        subst (λ (c : List ℕ). Means known (m ∷ codes "write" ∷ name ∷ c ∷ word ∷ words) e) (sym n.0)
        (subst (Means known (m ∷ codes "write" ∷ name ∷ decimal s.0 ∷ word ∷ words))
        (ap (λ (k : ℕ). event.Written a k s.0 f.0) (sym t.1) ∙ same_Some (event.Written a o.0 s.0 f.0) e f.2)
        (lines.written m name s.0 word words a f.0 i t.0 (omega arith) (values_take known (word ∷ words) f.0 f.1)))
    written_takes _ e h = absurd cc

    handed_takes : (words : List (List ℕ)) (e : FieldEvent) → handed_at known a name words ≡ Some e → Means known (m ∷ codes "hand" ∷ name ∷ words) e
    unfolding handed_at
    handed_takes (taker ∷ []) e h = elim (chosen (eqb a.number 0) None (object_named known name >>= λ object. mutator_at taker >>= λ b. Some (event.Handed a object b)) (Some e) h) [
      | inl p ↦ absurd (none-some e p.1)
      | inr p ↦
          let o = bind_some (object_named known name) (λ object. mutator_at taker >>= λ b. Some (event.Handed a object b)) e p.1 in
          let b = bind_some (mutator_at taker) (λ b. Some (event.Handed a o.0 b)) e o.2 in
          let t = object_takes known name o.0 o.1 in
          subst (Means known (m ∷ codes "hand" ∷ name ∷ taker ∷ []))
          (ap (λ (k : ℕ). event.Handed a k b.0) (sym t.1) ∙ same_Some (event.Handed a o.0 b.0) e b.2)
          (lines.handed m name taker a b.0 (no_runtime m a i p.0) t.0 (mutator_takes taker b.0 b.1))
    ]
    handed_takes _ e h = absurd cc

    owed_takes : (words : List (List ℕ)) (e : FieldEvent) → owed_at known a name words ≡ Some e → Means known (m ∷ codes "owes" ∷ name ∷ words) e
    unfolding owed_at
    owed_takes [] e h =
        let o = bind_some (object_named known name) (λ object. Some (event.Owed a object)) e h in
        let t = object_takes known name o.0 o.1 in
        subst (Means known (m ∷ codes "owes" ∷ name ∷ [])) (ap (λ (k : ℕ). event.Owed a k) (sym t.1) ∙ same_Some (event.Owed a o.0) e o.2)
        (lines.owed m name a i t.0)
    owed_takes (w ∷ ws) e h = absurd cc

    at_verb : (verb text : List ℕ) (words : List (List ℕ)) (e : FieldEvent) → bytes_eq verb text ≡ true → Means known (m ∷ text ∷ name ∷ words) e →
        Means known (m ∷ verb ∷ name ∷ words) e
    at_verb verb text words e is h = subst (λ (v : List ℕ). Means known (m ∷ v ∷ name ∷ words) e) (sym (is_word verb text is)) h

    verb_takes : (verb : List ℕ) (words : List (List ℕ)) (e : FieldEvent) → verb_at known a verb name words ≡ Some e → Means known (m ∷ verb ∷ name ∷ words) e
    unfolding verb_at
    verb_takes verb words e h = elim (chosen (bytes_eq verb (codes "new")) (made_at known a name words) _ (Some e) h) [
      | inl p ↦ at_verb verb (codes "new") words e p.0 (made_takes words e p.1)
      | inr p ↦ elim (chosen (bytes_eq verb (codes "write")) (written_at known a name words) _ (Some e) p.1) [
        | inl q ↦ at_verb verb (codes "write") words e q.0 (written_takes words e q.1)
        | inr q ↦ elim (chosen (bytes_eq verb (codes "hand")) (handed_at known a name words) _ (Some e) q.1) [
          | inl r ↦ at_verb verb (codes "hand") words e r.0 (handed_takes words e r.1)
          | inr r ↦
              let g = guard_some (bytes_eq verb (codes "owes")) (owed_at known a name words) e r.1 in
              at_verb verb (codes "owes") words e g.0 (owed_takes words e g.1)
        ]
      ]
    ]

  acted_takes : (m : List ℕ) (words : List (List ℕ)) (e : FieldEvent) → acted_at known m words ≡ Some e → Means known (m ∷ words) e
  unfolding acted_at
  acted_takes m (verb ∷ name ∷ words) e h =
      let b = bind_some (actor_at m) (λ a. verb_at known a verb name words) e h in
      verb_takes m b.0 (actor_takes m b.0 b.1) name verb words e b.2
  acted_takes m _ e h = absurd cc

  -- the first token is this keyword
  at_word : (word text : List ℕ) (words : List (List ℕ)) (e : FieldEvent) → bytes_eq word text ≡ true → Means known (text ∷ words) e → Means known (word ∷ words) e
  at_word word text words e is h = subst (λ (w : List ℕ). Means known (w ∷ words) e) (sym (is_word word text is)) h

  ending_takes : (word : List ℕ) (words : List (List ℕ)) (e : FieldEvent) → ending_at known word words ≡ Some e → Means known (word ∷ words) e
  unfolding ending_at
  ending_takes word words e h = elim (chosen (bytes_eq word (codes "close")) (close_at words) _ (Some e) h) [
    | inl p ↦ at_word word (codes "close") words e p.0 (close_takes words e p.1)
    | inr p ↦ elim (chosen (bytes_eq word (codes "marked")) (marked_at known words) _ (Some e) p.1) [
      | inl q ↦ at_word word (codes "marked") words e q.0 (marked_takes words e q.1)
      | inr q ↦ elim (chosen (bytes_eq word (codes "black")) (black_at known words) _ (Some e) q.1) [
        | inl b ↦ at_word word (codes "black") words e b.0 (black_takes words e b.1)
        | inr b ↦ elim (chosen (bytes_eq word (codes "freed")) (freed_at known words) _ (Some e) b.1) [
          | inl r ↦ at_word word (codes "freed") words e r.0 (freed_takes words e r.1)
          | inr r ↦ elim (chosen (bytes_eq word (codes "stop")) (stop_at words) _ (Some e) r.1) [
            | inl s ↦ at_word word (codes "stop") words e s.0 (stop_takes words e s.1)
            | inr s ↦ acted_takes word words e s.1
          ]
        ]
      ]
    ]
  ]

  event_takes : (words : List (List ℕ)) (e : FieldEvent) → event_at known words ≡ Some e → Means known words e
  unfolding event_at
  event_takes [] e h = absurd cc
  event_takes (word ∷ words) e h = elim (chosen (bytes_eq word (codes "began")) (began_at words) _ (Some e) h) [
    | inl p ↦ at_word word (codes "began") words e p.0 (began_takes words e p.1)
    | inr p ↦ elim (chosen (bytes_eq word (codes "ended")) (ended_at words) _ (Some e) p.1) [
      | inl q ↦ at_word word (codes "ended") words e q.0 (ended_takes words e q.1)
      | inr q ↦ elim (chosen (bytes_eq word (codes "mark")) (mark_at known words) _ (Some e) q.1) [
        | inl r ↦ at_word word (codes "mark") words e r.0 (mark_takes words e r.1)
        | inr r ↦ elim (chosen (bytes_eq word (codes "scan")) (scan_at known words) _ (Some e) r.1) [
          | inl s ↦ at_word word (codes "scan") words e s.0 (scan_takes words e s.1)
          | inr s ↦ elim (chosen (bytes_eq word (codes "push")) (push_at known words) _ (Some e) s.1) [
            | inl u ↦ at_word word (codes "push") words e u.0 (push_takes words e u.1)
            | inr u ↦ elim (chosen (bytes_eq word (codes "settle")) (settle_at words) _ (Some e) u.1) [
              | inl v ↦ at_word word (codes "settle") words e v.0 (settle_takes words e v.1)
              | inr v ↦ ending_takes word words e v.1
            ]
          ]
        ]
      ]
    ]
  ]

  -- EACH LINE IS READ AGAIN

  -- no actor is a keyword
  acts : (m : List ℕ) (a : Actor) (words : List (List ℕ)) → IsActor m a → event_at known (m ∷ words) ≡ acted_at known m words
  unfolding event_at ending_at
  acts m a words lines.runtime = refl
  acts m a words (lines.mutator w b i) = rw (
    no_mutator m (codes "began") a i (inr (omega arith)),
    no_mutator m (codes "ended") a i (inr (omega arith)),
    no_mutator m (codes "mark") a i (inr (omega arith)),
    no_mutator m (codes "scan") a i (inr (omega arith)),
    no_mutator m (codes "push") a i (inr (omega arith)),
    no_mutator m (codes "settle") a i (inr (omega arith)),
    no_mutator m (codes "close") a i (inr (omega arith)),
    no_mutator m (codes "marked") a i (inr (omega arith)),
    no_mutator m (codes "black") a i (inr (omega arith)),
    no_mutator m (codes "freed") a i (inr (omega arith)),
    no_mutator m (codes "stop") a i (inr (omega arith)),
  ) refl

  acts_by : (m : List ℕ) (a : Actor) (verb name : List ℕ) (words : List (List ℕ)) → IsActor m a →
      event_at known (m ∷ verb ∷ name ∷ words) ≡ verb_at known a verb name words
  unfolding acted_at
  acts_by m a verb name words i = acts m a (verb ∷ name ∷ words) i ∙ (rw (actor_again m a i) refl)

  not_over : (count : ℕ) (values : List (Option ℕ)) → length values ≤ count → ltb count (length values) ≡ false
  not_over count values le = le-ltb count (length values) le

  made_again : (a : Actor) (name : List ℕ) (count : ℕ) (words : List (List ℕ)) (values : List (Option ℕ)) → IsName name → count < 2 ^ 32 →
      length words ≤ count → AreValues known words values →
      made_at known a name (decimal count ∷ words) ≡ Some (event.Made a (known name) count values)
  unfolding made_at new_at
  made_again a name count words values n lt le are =
      let same : length words ≡ length values = as_many known words values are in
      rw (name_again name n, number_again (2 ^ 32 - 1) count (omega arith) (omega arith), values_again known words values are, not_over count values (omega arith)) refl

  written_again : (a : Actor) (name : List ℕ) (place : ℕ) (word : List ℕ) (words : List (List ℕ)) (values : List (Option ℕ)) → IsName name →
      place < 2 ^ 32 → AreValues known (word ∷ words) values →
      written_at known a name (decimal place ∷ word ∷ words) ≡ Some (event.Written a (object_at known name) place values)
  unfolding written_at
  written_again a name place word words values n lt are =
      rw (object_again known name n, number_again (2 ^ 32 - 1) place (omega arith) (omega arith), values_again known (word ∷ words) values are) refl

  handed_again : (m : List ℕ) (a : Actor) (name n : List ℕ) (b : Actor) → IsMutator m a → IsName name → IsMutator n b →
      handed_at known a name (n ∷ []) ≡ Some (event.Handed a (object_at known name) b)
  unfolding handed_at
  handed_again m a name n b i is j = rw (mutator_number m a i, object_again known name is, mutator_again n b j) refl

  owed_again : (a : Actor) (name : List ℕ) → IsName name → owed_at known a name [] ≡ Some (event.Owed a (object_at known name))
  unfolding owed_at
  owed_again a name n = rw (object_again known name n) refl

  event_again : (words : List (List ℕ)) (e : FieldEvent) → Means known words e → event_at known words ≡ Some e
  unfolding event_at ending_at verb_at began_at ended_at settle_at push_at mark_at scan_at close_at marked_at black_at freed_at stop_at
  event_again words e (lines.began m a i) = rw (mutator_again m a i) refl
  event_again words e (lines.ended m a i) = rw (mutator_again m a i) refl
  event_again words e (lines.settle m a i) = rw (mutator_again m a i) refl
  event_again words e (lines.made m name count ws a values i n lt le are) =
      acts_by m a (codes "new") name (decimal count ∷ ws) i ∙ made_again a name count ws values n lt le are
  event_again words e (lines.written m name place w ws a values i n lt are) =
      acts_by m a (codes "write") name (decimal place ∷ w ∷ ws) i ∙ written_again a name place w ws values n lt are
  event_again words e (lines.handed m name n a b i is j) =
      acts_by m a (codes "hand") name (n ∷ []) (lines.mutator m a i) ∙ handed_again m a name n b i is j
  event_again words e (lines.owed m name a i n) = acts_by m a (codes "owes") name [] i ∙ owed_again a name n
  event_again words e (lines.push m name a i n) = rw (actor_again m a i, object_again known name n) refl
  event_again words e (lines.mark ws roots are) = rw (objects_again known ws roots are) refl
  event_again words e (lines.scan m ws a roots i are) = rw (mutator_again m a i, objects_again known ws roots are) refl
  event_again words e lines.close = refl
  event_again words e (lines.marked ws objects are) = rw (objects_again known ws objects are) refl
  event_again words e (lines.black ws objects are) = rw (objects_again known ws objects are) refl
  event_again words e (lines.freed ws objects are) = rw (objects_again known ws objects are) refl
  event_again words e lines.stop = refl

  -- the event of a line, or that it is none of a trace
  pub line_meant : (words : List (List ℕ)) (o : Option FieldEvent) → o ≡ event_at known words → IsMeant known words o
  line_meant words (Some e) is = event_takes words e (sym is)
  line_meant words None is = λ e means. none-some e (is ∙ event_again words e means)
