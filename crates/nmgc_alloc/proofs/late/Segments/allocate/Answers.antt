use Rattle.nmgc_alloc.proofs.Vocabulary.{◌≡◌, ◌∙◌, subst, sym, Segments, IsMutator, IsClass, HasRoom, Allocates}
use Rattle.nmgc_alloc.proofs.late.Segments.allocate.Goals as goal

pub allocate-requires-clause-mutator : goal.allocate-requires-clause-mutator
allocate-requires-clause-mutator c =
    let e : c.prepare_late.new.done ≡ c.args.self.now = c.prepare_late.ensures ∙ c.self.view_is in
    subst (λ (s : Segments). IsMutator s.layout c.args.mutator) (sym e) c.requires.mutator

pub allocate-requires-clause-class : goal.allocate-requires-clause-class
allocate-requires-clause-class c =
    let e : c.prepare_late.new.done ≡ c.args.self.now = c.prepare_late.ensures ∙ c.self.view_is in
    subst (λ (s : Segments). IsClass s.layout c.args.class) (sym e) c.requires.class

pub allocate-requires-clause-room : goal.allocate-requires-clause-room
allocate-requires-clause-room c =
    let e : c.prepare_late.new.done ≡ c.args.self.now = c.prepare_late.ensures ∙ c.self.view_is in
    subst (λ (s : Segments). HasRoom s c.args.mutator c.args.class) (sym e) c.requires.room

pub returns-clause-placed : goal.returns-clause-placed
returns-clause-placed c =
    let e : c.prepare_late.new.done ≡ c.args.self.now = c.prepare_late.ensures ∙ c.self.view_is in
    subst (λ (s : Segments). Allocates s c.allocate.new.self c.args.mutator c.args.class c.allocate.result.0) e c.allocate.ensures.placed
