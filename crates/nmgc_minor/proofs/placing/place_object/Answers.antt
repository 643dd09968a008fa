use Rattle.nmgc_minor.proofs.Vocabulary.{ℕ, ap, subst, sym, ◌∙◌, arith, Name, IsClassOf, IsName, name_word, class_fits}
use Rattle.nmgc_minor.proofs.placing.place_object.Goals as goal

pub class_of-class-requires-clause-least : goal.class_of-class-requires-clause-least
class_of-class-requires-clause-least g c =
    let h = c.requires.object.object in
    let size = c.requires.size h.header (h.valid, h.read) in
    omega (arith, size)

pub class_of-class-requires-clause-most : goal.class_of-class-requires-clause-most
class_of-class-requires-clause-most g c =
    let h = c.requires.object.object in
    let size = c.requires.size h.header (h.valid, h.read) in
    let small = c.requires.object.small in
    let most = c.requires.sound.layout.words.most in
    omega (arith, size, small, most)

pub load-requires : goal.load-requires
load-requires g c =
    let h = c.requires.object.object.inside in
    omega (arith, h)

pub allocate-to-requires-clause-class : goal.allocate-to-requires-clause-class
allocate-to-requires-clause-class g c =
    let h = c.requires.object.object in
    let size = c.requires.size h.header (h.valid, h.read) in
    class_fits c.args.segments.now.layout.words c.class_of-class.result c.args.size c.requires.sound.layout.words
    (let s = c.requires.object.small in omega (arith, s, size)) c.class_of-class.ensures.least

pub allocate-to-requires-clause-room : goal.allocate-to-requires-clause-room
allocate-to-requires-clause-room g c =
    let h = c.requires.object.object in
    let size = c.requires.size h.header (h.valid, h.read) in
    c.requires.room c.class_of-class.result (class_fits c.args.segments.now.layout.words c.class_of-class.result c.args.size
    c.requires.sound.layout.words (let s = c.requires.object.small in omega (arith, s, size)) c.class_of-class.ensures.least)

pub name_of-name-requires : goal.name_of-name-requires
name_of-name-requires g c =
    (c.requires.object.name, c.requires.object.valid, sym (c.load.ensures.word ∙ c.requires.object.named))

pub returns-clause-places : goal.returns-clause-places
returns-clause-places g c =
    let h = c.requires.object.object in
    let size = c.requires.size h.header (h.valid, h.read) in
    let name_is = c.name_of-name.ensures c.requires.object.name c.requires.object.valid (sym (c.load.ensures.word ∙ c.requires.object.named)) in
    record {
      class = c.class_of-class.result;
      allocates = c.allocate-to.ensures.placed;
      class_is = λ header is. subst (λ (n : ℕ). IsClassOf n c.class_of-class.result) (c.requires.size header is) (record {
        holds =
            c.class_of-class.ensures.holds;
        least = c.class_of-class.ensures.least;
      });
      fits = class_fits c.args.segments.now.layout.words c.class_of-class.result c.args.size c.requires.sound.layout.words
          (let s = c.requires.object.small in omega (arith, s, size)) c.class_of-class.ensures.least;
      valid = subst IsName (sym name_is) c.requires.object.valid;
      made = ap (λ (n : Name). n.maker) name_is ∙ c.requires.object.made;
      named = c.requires.object.named ∙ ap name_word (sym name_is);
    }
