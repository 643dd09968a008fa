use Rattle.nmgc_pmark.proofs.Vocabulary.{rules, ◌≡◌, ◌<◌, ℕ, suc, arith, List, [], ◌∷◌, Result, length, get_or, sym, subst, IfOk, slice_get-get_or, IfOk-weaker, Name, NoMemory, Room, Address, IsNamed, NameThem, NameAll, AreAllRead}
use Rattle.nmgc_pmark.proofs.claims.read_all_names.Goals as goal

-- each reading names its list
all_named : (words : List ℕ) (lists : List (Room Address)) (read : List (Result (List Name) NoMemory)) (by : List (List Name)) →
    length read ≡ length lists → ((i : ℕ) (d : Result (List Name) NoMemory) (e : Room Address) → i < length lists →
    IfOk (get_or read i d) (λ (names : List Name). NameThem words (get_or lists i e).items names)) → AreAllRead read by → NameAll words lists by
all_named words [] [] [] same each z = tt
all_named words [] [] (b ∷ by) same each z = absurd z
all_named words [] (r ∷ read) by same each z = absurd (omega (arith, same))
all_named words (x ∷ lists) [] by same each z = absurd (omega (arith, same))
all_named words (x ∷ lists) (r ∷ read) [] same each z = absurd z
all_named words (x ∷ lists) (r ∷ read) (b ∷ by) same each z = (
  subst (λ (q : Result (List Name) NoMemory). IfOk q (λ (names : List Name). NameThem words x.items names)) z.0 (each 0 r x (omega arith)),
  all_named words lists read by (omega (arith, same)) (λ i d e lt. each (suc i) d e (omega (arith, lt))) z.1,
)

pub map_vec-requires-after_bounds : goal.map_vec-requires-after_bounds
map_vec-requires-after_bounds g c κs within i x lt e =
    let there = slice_get-get_or c.args.lists.items i x lt in
    let named : IsNamed (g.W.StillWords.words c.args.words.now) (get_or c.args.lists.items i x).items =
    c.requires i (get_or c.args.lists.items i x) there in
    (subst (λ (r : Room Address). IsNamed (g.W.StillWords.words c.args.words.now) r.items) (sym e) named, search rules)

pub returns : goal.returns
returns g c =
    let jobs = c.in_ok-read.ensures.each in
    let lists = c.args.lists.items in
    let read = c.in_ok-read.read.items in
    let long : length read ≡ length lists = search rules in
    IfOk-weaker c.collect_lists.result _ _ (λ claims h.
    all_named (g.W.StillWords.words c.args.words.now) lists read claims.by long (λ i d e lt. let job = (jobs i d lt).1 in
    subst (λ (r : Room Address). IfOk (get_or read i d) (λ (names : List Name). NameThem (g.W.StillWords.words c.args.words.now) r.items names))
    (sym (job.job_is e)) job.call.met) h) c.collect_lists.ensures
