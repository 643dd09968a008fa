-- One mark of the machine.
use Rattle.nmgc_mark.proofs.Vocabulary.{◌≡◌, Bool, true, false, cond, [], ◌∷◌, ◌++◌, refl, sym, ap, Some, Contains, Contains-append_left, Name, shared_name, State, is_new, joined, mark_name, with_mark, entry_of, marks_of, with_name}

-- a mark changes only marks and queue
pub record IsMarkOf (s t : State) (name : Name) : Type 0 where
  pub marks : marks_of t ≡ with_name s.snapshot (marks_of s) (Some name)
  pub rest : t ≡ record s { marked = t.marked; queue = t.queue }
  pub shared : Contains s.marked shared_name → Contains t.marked shared_name

mark_if : (b : Bool) (s : State) (name : Name) → is_new s name ≡ b → IsMarkOf s (cond b (with_mark s name) s) name
mark_if true s name e = record {
  marks = ap (λ (b : Bool). cond b (record (marks_of s) {
    marked = s.marked ++ name ∷ [];
    queue = joined s.order s.queue (entry_of name);
  }) (marks_of s)) (sym e);
  rest = refl;
  shared = λ c. Contains-append_left s.marked (name ∷ []) shared_name c;
}
mark_if false s name e = record {
  marks = ap (λ (b : Bool). cond b (record (marks_of s) {
    marked = s.marked ++ name ∷ [];
    queue = joined s.order s.queue (entry_of name);
  }) (marks_of s)) (sym e);
  rest = refl;
  shared = λ c. c;
}

pub mark_is : (s : State) (name : Name) → IsMarkOf s (mark_name s name) name
mark_is s name = mark_if (is_new s name) s name refl
