-- The tokens after a name are read exactly as they are written, shape by shape.
use Rattle.nmgc_script.proofs.Vocabulary.{◌≡◌, ◌≤◌, ◌<◌, ◌-◌, ◌^◌, ℕ, List, [], ◌∷◌, map, length, get_or, refl, ap, subst, arith, inl, inr, decimal, leb, Result, Ok, Err, AllByRecursion, le-leb, leb-true, length-map, Operand, IsRegisterBelow, IsOperandBelow, Cause, LineFault, Version, IsUsable, register_word, operand_word, ◌>>=◌, Fails, register_at, operand_at, long_at, short_at, tag_at, each_at, one_at, two_at, three_at, four_at, con_at, values_at, chosen}
use Rattle.nmgc_script.specs.declared.fault.Cause.TheVariants as cause
use Rattle.nmgc_script.proofs.{WordLaws.Reads, WordLaws.bind_ok, WordLaws.ok_is, WordLaws.number_reads, WordLaws.register_reads, WordLaws.operand_reads, WordLaws.each_reads, Each.fails_bind}

pub long_reads : Reads long_at decimal (λ n. n < 2 ^ 62)
long_reads = let reads = number_reads (2 ^ 62 - 1) (omega arith) in
    record { takes = λ x n e. let t = reads.takes x n e in (t.0, omega (arith, t.1)); again = λ n h. reads.again n (omega arith) }

pub short_reads : Reads short_at decimal (λ n. n < 65536)
short_reads = let reads = number_reads 65535 (omega arith) in
    record { takes = λ x n e. let t = reads.takes x n e in (t.0, omega (arith, t.1)); again = λ n h. reads.again n (omega arith) }

tag_reads : Reads tag_at decimal (λ n. n < 256)
tag_reads = let reads = number_reads 255 (omega arith) in record {
  takes = λ x n e. let t = reads.takes x n e in (t.0, omega (arith, t.1));
  again = λ n h. reads.again n (omega arith);
}

pub one_reads : {A : Type 0} {f : List ℕ → Result A Cause} {wf : A → List ℕ} {P : A → Type 0} → Reads f wf P → Reads (one_at f) (λ p. wf p ∷ []) (λ p. P p)
unfolding one_at
one_reads {A} {f} {wf} {P} rf = record { takes = takes; again = again }
  where
    takes : (words : List (List ℕ)) (p : A) → one_at f words ≡ Ok p → (words ≡ wf p ∷ []) × (P p)
    takes [] p e = absurd cc
    takes (x ∷ other ∷ others) p e = absurd cc
    takes (x ∷ []) p e =
        let t0 = rf.takes x p e in (ap (λ (l : List ℕ). l ∷ []) t0.0, t0.1)

    again : (p : A) → P p → one_at f (wf p ∷ []) ≡ Ok p
    again p h = rf.again p h

pub two_reads : {A B : Type 0} {f : List ℕ → Result A Cause} {wf : A → List ℕ} {P : A → Type 0} {g : List ℕ → Result B Cause} {wg : B →
    List ℕ} {Q : B → Type 0} → Reads f wf P → Reads g wg Q → Reads (two_at f g) (λ p. wf p.0 ∷ wg p.1 ∷ []) (λ p. P p.0 × Q p.1)
unfolding two_at
two_reads {A} {B} {f} {wf} {P} {g} {wg} {Q} rf rg = record { takes = takes; again = again }
  where
    takes : (words : List (List ℕ)) (p : A × B) → two_at f g words ≡ Ok p → (words ≡ wf p.0 ∷ wg p.1 ∷ []) × (P p.0 × Q p.1)
    takes [] p e = absurd cc
    takes (x ∷ []) p e = absurd cc
    takes (x ∷ y ∷ other ∷ others) p e = absurd cc
    takes (x ∷ y ∷ []) p e =
        let a = bind_ok (f x) _ p e in
        let b = bind_ok (g y) _ p a.2 in
        let t0 = rf.takes x a.0 a.1 in
        let t1 = rg.takes y b.0 b.1 in
        let same : x ∷ y ∷ [] ≡ wf a.0 ∷ wg b.0 ∷ [] = cc (t0.0, t1.0) in
        subst (λ (q : A × B). (x ∷ y ∷ [] ≡ wf q.0 ∷ wg q.1 ∷ []) × (P q.0 × Q q.1)) (ok_is {E = Cause} (a.0, b.0) p b.2) (same, (t0.1, t1.1))

    again : (p : A × B) → (P p.0 × Q p.1) → two_at f g (wf p.0 ∷ wg p.1 ∷ []) ≡ Ok p
    again p h = rw (rf.again p.0 h.0, rg.again p.1 h.1) refl

pub three_reads : {A B C : Type 0} {f : List ℕ → Result A Cause} {wf : A → List ℕ} {P : A → Type 0} {g : List ℕ → Result B Cause} {wg : B →
    List ℕ} {Q : B → Type 0} {h : List ℕ → Result C Cause} {wh : C → List ℕ} {R : C → Type 0} → Reads f wf P → Reads g wg Q → Reads h wh R →
    Reads (three_at f g h) (λ p. wf p.0 ∷ wg p.1 ∷ wh p.2 ∷ []) (λ p. P p.0 × Q p.1 × R p.2)
unfolding three_at
three_reads {A} {B} {C} {f} {wf} {P} {g} {wg} {Q} {h} {wh} {R} rf rg rh = record { takes = takes; again = again }
  where
    takes : (words : List (List ℕ)) (p : A × B × C) → three_at f g h words ≡ Ok p → (words ≡ wf p.0 ∷ wg p.1 ∷ wh p.2 ∷ []) × (P p.0 × Q p.1 × R p.2)
    takes [] p e = absurd cc
    takes (x ∷ []) p e = absurd cc
    takes (x ∷ y ∷ []) p e = absurd cc
    takes (x ∷ y ∷ z ∷ other ∷ others) p e = absurd cc
    takes (x ∷ y ∷ z ∷ []) p e =
        let a = bind_ok (f x) _ p e in
        let b = bind_ok (g y) _ p a.2 in
        let c = bind_ok (h z) _ p b.2 in
        let t0 = rf.takes x a.0 a.1 in
        let t1 = rg.takes y b.0 b.1 in
        let t2 = rh.takes z c.0 c.1 in
        let same : x ∷ y ∷ z ∷ [] ≡ wf a.0 ∷ wg b.0 ∷ wh c.0 ∷ [] = cc (t0.0, t1.0, t2.0) in
        subst (λ (q : A × B × C). (x ∷ y ∷ z ∷ [] ≡ wf q.0 ∷ wg q.1 ∷ wh q.2 ∷ []) ×
        (P q.0 × Q q.1 × R q.2)) (ok_is {E = Cause} (a.0, b.0, c.0) p c.2) (same, (t0.1, t1.1, t2.1))

    again : (p : A × B × C) → (P p.0 × Q p.1 × R p.2) → three_at f g h (wf p.0 ∷ wg p.1 ∷ wh p.2 ∷ []) ≡ Ok p
    again p h = rw (rf.again p.0 h.0, rg.again p.1 h.1, rh.again p.2 h.2) refl

pub four_reads : {A B C D : Type 0} {f : List ℕ → Result A Cause} {wf : A → List ℕ} {P : A → Type 0} {g : List ℕ → Result B Cause} {wg : B →
    List ℕ} {Q : B → Type 0} {h : List ℕ → Result C Cause} {wh : C → List ℕ} {R : C → Type 0} {i : List ℕ → Result D Cause} {wi : D →
    List ℕ} {S : D → Type 0} → Reads f wf P → Reads g wg Q → Reads h wh R → Reads i wi S →
    Reads (four_at f g h i) (λ p. wf p.0 ∷ wg p.1 ∷ wh p.2 ∷ wi p.3 ∷ []) (λ p. P p.0 × Q p.1 × R p.2 × S p.3)
unfolding four_at
four_reads {A} {B} {C} {D} {f} {wf} {P} {g} {wg} {Q} {h} {wh} {R} {i} {wi} {S} rf rg rh ri = record { takes = takes; again = again }
  where
    takes : (words : List (List ℕ)) (p : A × B × C × D) → four_at f g h i words ≡ Ok p → (words ≡ wf p.0 ∷ wg p.1 ∷ wh p.2 ∷ wi p.3 ∷ []) ×
        (P p.0 × Q p.1 × R p.2 × S p.3)
    takes [] p e = absurd cc
    takes (x ∷ []) p e = absurd cc
    takes (x ∷ y ∷ []) p e = absurd cc
    takes (x ∷ y ∷ z ∷ []) p e = absurd cc
    takes (x ∷ y ∷ z ∷ t ∷ other ∷ others) p e = absurd cc
    takes (x ∷ y ∷ z ∷ t ∷ []) p e =
        let a = bind_ok (two_at f g (x ∷ y ∷ [])) _ p e in
        let b = bind_ok (two_at h i (z ∷ t ∷ [])) _ p a.2 in
        let front = (two_reads rf rg).takes (x ∷ y ∷ []) a.0 a.1 in
        let back = (two_reads rh ri).takes (z ∷ t ∷ []) b.0 b.1 in
        let same : x ∷ y ∷ z ∷ t ∷ [] ≡ wf a.0.0 ∷ wg a.0.1 ∷ wh b.0.0 ∷ wi b.0.1 ∷ [] = cc (front.0, back.0) in
        subst (λ (q : A × B × C × D). (x ∷ y ∷ z ∷ t ∷ [] ≡ wf q.0 ∷ wg q.1 ∷ wh q.2 ∷ wi q.3 ∷ []) ×
        (P q.0 × Q q.1 × R q.2 × S q.3)) (ok_is {E = Cause} (a.0.0, a.0.1, b.0.0, b.0.1) p b.2) (same, (front.1.0, front.1.1, back.1.0, back.1.1))

    again : (p : A × B × C × D) → (P p.0 × Q p.1 × R p.2 × S p.3) → four_at f g h i (wf p.0 ∷ wg p.1 ∷ wh p.2 ∷ wi p.3 ∷ []) ≡ Ok p
    again p k = rw ((two_reads rf rg).again (p.0, p.1) (k.0, k.1), (two_reads rh ri).again (p.2, p.3) (k.2, k.3)) refl

fields_reads : (ver : Version) (usable : IsUsable ver) → Reads (each_at (operand_at ver)) (map operand_word) (AllByRecursion (IsOperandBelow ver.registers))
fields_reads ver usable = each_reads (operand_at ver) operand_word (IsOperandBelow ver.registers) (operand_reads ver usable)

pub con_reads : (ver : Version) (usable : IsUsable ver) → Reads (con_at ver) (λ p. register_word p.0 ∷ decimal p.1 ∷ map operand_word p.2) (λ p.
    IsRegisterBelow ver.registers p.0 × (p.1 < 256) × AllByRecursion (IsOperandBelow ver.registers) p.2)
unfolding con_at
con_reads ver usable = record { takes = takes; again = again }
  where
    takes : (words : List (List ℕ)) (p : ℕ × ℕ × List Operand) → con_at ver words ≡ Ok p →
        (words ≡ register_word p.0 ∷ decimal p.1 ∷ map operand_word p.2) ×
        (IsRegisterBelow ver.registers p.0 × (p.1 < 256) × AllByRecursion (IsOperandBelow ver.registers) p.2)
    takes [] p e = absurd cc
    takes (dest ∷ []) p e = absurd cc
    takes (dest ∷ tag ∷ fields) p e =
        let d = bind_ok (register_at ver dest) _ p e in
        let t = bind_ok (tag_at tag) _ p d.2 in
        let f = bind_ok (each_at (operand_at ver) fields) _ p t.2 in
        let dw = (register_reads ver usable).takes dest d.0 d.1 in
        let tw = tag_reads.takes tag t.0 t.1 in
        let fw = (fields_reads ver usable).takes fields f.0 f.1 in
        let same : dest ∷ tag ∷ fields ≡ register_word d.0 ∷ decimal t.0 ∷ map operand_word f.0 = cc (dw.0, tw.0, fw.0) in
        subst (λ (q : ℕ × ℕ × List Operand). (dest ∷ tag ∷ fields ≡ register_word q.0 ∷ decimal q.1 ∷ map operand_word q.2) ×
        (IsRegisterBelow ver.registers q.0 × (q.1 < 256) × AllByRecursion (IsOperandBelow ver.registers) q.2)) (ok_is {E = Cause} (
          d.0,
          t.0,
          f.0,
        ) p f.2) (same, (dw.1, tw.1, fw.1))

    again : (p : ℕ × ℕ × List Operand) → (IsRegisterBelow ver.registers p.0 × (p.1 < 256) × AllByRecursion (IsOperandBelow ver.registers) p.2) →
        con_at ver (register_word p.0 ∷ decimal p.1 ∷ map operand_word p.2) ≡ Ok p
    again p h = rw ((register_reads ver usable).again p.0 h.0, tag_reads.again p.1 h.1, (fields_reads ver usable).again p.2 h.2) refl

pub values_reads : (ver : Version) (usable : IsUsable ver) (most : ℕ) → Reads (values_at ver most) (λ p. register_word p.0 ∷ map operand_word p.1) (λ p.
    IsRegisterBelow ver.registers p.0 × AllByRecursion (IsOperandBelow ver.registers) p.1 × (length p.1 ≤ most))
unfolding values_at
values_reads ver usable most = record { takes = takes; again = again }
  where
    takes : (words : List (List ℕ)) (p : ℕ × List Operand) → values_at ver most words ≡ Ok p → (words ≡ register_word p.0 ∷ map operand_word p.1) ×
        (IsRegisterBelow ver.registers p.0 × AllByRecursion (IsOperandBelow ver.registers) p.1 × (length p.1 ≤ most))
    takes [] p e = absurd cc
    takes (dest ∷ values) p e =
        elim (chosen (leb (length values) most) (register_at ver dest >>= λ d. each_at (operand_at ver) values >>= λ vs. Ok (d, vs)) (Err cause.Arity) (Ok p) e) [
          | inl c ↦
              let d = bind_ok (register_at ver dest) _ p c.1 in
              let f = bind_ok (each_at (operand_at ver) values) _ p d.2 in
              let dw = (register_reads ver usable).takes dest d.0 d.1 in
              let fw = (fields_reads ver usable).takes values f.0 f.1 in
              let few : length f.0 ≤ most = omega (arith, leb-true (length values) most c.0, ap length fw.0, length-map f.0 operand_word) in
              let same : dest ∷ values ≡ register_word d.0 ∷ map operand_word f.0 = cc (dw.0, fw.0) in
              subst (λ (q : ℕ × List Operand). (dest ∷ values ≡ register_word q.0 ∷ map operand_word q.1) ×
              (IsRegisterBelow ver.registers q.0 × AllByRecursion (IsOperandBelow ver.registers) q.1 ×
              (length q.1 ≤ most))) (ok_is {E = Cause} (d.0, f.0) p f.2) (same, (dw.1, fw.1, few))
          | inr c ↦ absurd (let never : Err cause.Arity ≡ Ok p = c.1 in cc)
        ]

    again : (p : ℕ × List Operand) → (IsRegisterBelow ver.registers p.0 × AllByRecursion (IsOperandBelow ver.registers) p.1 × (length p.1 ≤ most)) →
        values_at ver most (register_word p.0 ∷ map operand_word p.1) ≡ Ok p
    again p h = rw (
      length-map p.1 operand_word,
      le-leb (length p.1) most h.2,
      (register_reads ver usable).again p.0 h.0,
      (fields_reads ver usable).again p.1 h.1,
    ) refl

-- a fault of the first two of four tokens is a fault of all four
pub front_fails : {W A B C D : Type 0} (view : W → List ℕ) (f : List ℕ → Result A Cause) (g : List ℕ → Result B Cause) (h : List ℕ →
    Result C Cause) (i : List ℕ → Result D Cause) (words : List W) (first second : W) (e : LineFault) → 4 ≤ length words → length words < 5 →
    Fails e (two_at f g (view (get_or words 0 first) ∷ view (get_or words 1 second) ∷ [])) → Fails e (four_at f g h i (map view words))
unfolding four_at
front_fails view f g h i [] first second e least most fails = absurd (omega (arith, least))
front_fails view f g h i (x ∷ []) first second e least most fails = absurd (omega (arith, least))
front_fails view f g h i (x ∷ y ∷ []) first second e least most fails = absurd (omega (arith, least))
front_fails view f g h i (x ∷ y ∷ z ∷ []) first second e least most fails = absurd (omega (arith, least))
front_fails view f g h i (x ∷ y ∷ z ∷ w ∷ other ∷ others) first second e least most fails = absurd (omega (arith, most))
front_fails view f g h i (x ∷ y ∷ z ∷ w ∷ []) first second e least most fails = fails_bind (two_at f g (view x ∷ view y ∷ [])) _ e fails
