use Rattle.nmgc_fin.proofs.{Vocabulary.rules, Vocabulary.◌≡◌, Vocabulary.◌+◌, Vocabulary.◌-◌, Vocabulary.List, Vocabulary.[], Vocabulary.◌∷◌, Vocabulary.◌++◌, Vocabulary.length, Vocabulary.vec_len, Vocabulary.ap, Vocabulary.sym, Vocabulary.subst, Vocabulary.IsSegPassOf, Vocabulary.◌∙◌, Vocabulary.arith, Vocabulary.Job, Vocabulary.Hand, Vocabulary.Worker, Vocabulary.hand, Vocabulary.most_parts, Vocabulary.joined, Vocabulary.lists_of, Rules.merges, Gathered.client_more, Gathered.last_at, Gathered.worker_at, Gathered.front_are, Gathered.all_handled, Gathered.so_many, Gathered.last_listed, Gathered.knows_more}
use Rattle.nmgc_fin.proofs.run.gather.Goals as goal

pub join_all-requires-clause-part : goal.join_all-requires-clause-part
join_all-requires-clause-part g c =
    let few = c.requires.count.1 in
    let parts : c.args.pass.me.view.client.parts ≡ most_parts - vec_len c.args.crew = ap (λ (v : Hand). v.parts) c.requires.left in
    omega (arith, parts, few)

pub join_all-requires-clause-pushed : goal.join_all-requires-clause-pushed
join_all-requires-clause-pushed g c = c.requires.left ∙ ap (λ (v : Hand). hand v.parts c.args.jobs.now []) (sym c.requires.left)

pub join_all-requires-clause-crew : goal.join_all-requires-clause-crew
join_all-requires-clause-crew g c =
    let popped : c.args.crew.items ≡ c.pop.new.self.items ++ c.in-Some.last ∷ [] = search rules in
    front_are c.args.queue.now c.args.jobs.now c.args.crew.items c.pop.new.self.items c.in-Some.last popped c.requires.crew

pub absorb-requires-clause-queue : goal.absorb-requires-clause-queue
absorb-requires-clause-queue g c =
    let before = c.pop.new.self.items in
    let popped : c.args.crew.items ≡ before ++ c.in-Some.last ∷ [] = search rules in
    let it = worker_at c.args.queue.now c.args.jobs.now c.args.crew.items c.requires.crew (length before) c.in-Some.last
    (last_at c.args.crew.items before c.in-Some.last popped) in (
      subst (λ p. IsSegPassOf c.args.queue.now p) (sym c.replace-theirs.ensures.after) c.in_ok-by.ensures.pass,
      subst (λ p. IsSegPassOf c.args.queue.now p) (sym c.replace-theirs.ensures.value) it.pass,
    )

pub absorb-requires-clause-rule : goal.absorb-requires-clause-rule
absorb-requires-clause-rule g c =
    let few = c.requires.count.1 in
    let first : c.args.pass.me.view.client.parts ≡ most_parts - vec_len c.args.crew = ap (λ (v : Hand). v.parts) c.requires.left in
    let parts : c.join_all.new.pass.me.view.client.parts ≡ c.args.pass.me.view.client.parts + length c.pop.new.self.items =
    ap (λ (v : Hand). v.parts) c.in_ok-by.ensures.joined in
    let after : c.replace-theirs.new.dest.me.view.client.parts ≡ c.join_all.new.pass.me.view.client.parts =
    ap (λ p. p.me.view.client.parts) c.replace-theirs.ensures.after in
    merges c.replace-theirs.new.dest.id c.replace-theirs.new.dest.me.view.client c.replace-theirs.result.id c.replace-theirs.result.me.view.client
    (omega (arith, first, parts, few, after))

pub work-requires-after_bounds : goal.work-requires-after_bounds
work-requires-after_bounds g c κs within =
    let n = c.args.pass.me.view.client.parts in
    let before = c.pop.new.self.items in
    let last = c.in-Some.last in
    let popped : c.args.crew.items ≡ before ++ last ∷ [] = search rules in
    let it = worker_at c.args.queue.now c.args.jobs.now c.args.crew.items c.requires.crew (length before) last (last_at c.args.crew.items before last popped) in
    let knows = client_more n c.args.jobs.now before last c.replace-theirs.new.dest.me.view.client
    c.replace-theirs.result.me.view.client c.absorb.new.pass.me.view.client
    (ap (λ p. p.me.view.client) c.replace-theirs.ensures.after ∙ c.in_ok-by.ensures.joined)
    (ap (λ p. p.me.view.client) c.replace-theirs.ensures.value ∙ it.knows) c.absorb.ensures.rule in
    let few = c.requires.count.1 in
    let first : n ≡ most_parts - vec_len c.args.crew = ap (λ (v : Hand). v.parts) c.requires.left in
    let parts : c.absorb.new.pass.me.view.client.parts ≡ n + length (before ++ last ∷ []) = ap (λ (v : Hand). v.parts) knows in
    let pushed : length c.absorb.new.pass.me.view.client.pushed ≡ length c.args.jobs.now = ap (λ (v : Hand). length v.pushed) knows in
    let room = it.room in
    record {
      pass = c.absorb.ensures.queue.0;
      part = omega (arith, first, parts, few);
      room = omega (arith, pushed, room);
      listed = last_listed before last c.absorb.new.pass.me.view.client (n + length (before ++ last ∷ [])) c.args.jobs.now knows;
    }

pub returns-clause-handled : goal.returns-clause-handled
returns-clause-handled g c =
    let n = c.args.pass.me.view.client.parts in
    let before = c.pop.new.self.items in
    let last = c.in-Some.last in
    let popped : c.args.crew.items ≡ before ++ last ∷ [] = search rules in
    let it = worker_at c.args.queue.now c.args.jobs.now c.args.crew.items c.requires.crew (length before) last (last_at c.args.crew.items before last popped) in
    let knows = client_more n c.args.jobs.now before last c.replace-theirs.new.dest.me.view.client
    c.replace-theirs.result.me.view.client c.absorb.new.pass.me.view.client
    (ap (λ p. p.me.view.client) c.replace-theirs.ensures.after ∙ c.in_ok-by.ensures.joined)
    (ap (λ p. p.me.view.client) c.replace-theirs.ensures.value ∙ it.knows) c.absorb.ensures.rule in
    let few = c.requires.count.1 in
    let first : n ≡ most_parts - vec_len c.args.crew = ap (λ (v : Hand). v.parts) c.requires.left in
    let long : vec_len c.args.crew ≡ length c.args.crew.items = c.args.crew.ok.0 in
    let same : length c.args.crew.items ≡ length (before ++ last ∷ []) = ap (λ (l : List Worker). length l) popped in
    let every : n + length (before ++ last ∷ []) ≡ 64 = omega (arith, first, few, long, same) in
    let more = c.work.ensures.taken.more in
    let all = knows_more (n + length (before ++ last ∷ [])) c.args.jobs.now (joined (lists_of (before ++ last ∷ []))) more
    c.absorb.new.pass.me.view.client c.work.new.self.pass.me.view.client knows every c.work.ensures.taken.knows in
    all_handled c.args.jobs.now before last more c.work.new.self.done.items c.work.new.self.pass.me.view.client c.in_ok-by.by c.push.new.self all
    c.work.ensures.none c.work.ensures.taken.listed c.in_ok-by.ensures.lists (c.in_ok-push.ensures.ok ∙
    ap (λ (x : List Job). c.in_ok-by.by ++ x ∷ []) (c.in_ok-from_vec.ensures ∙ ap (λ v. v.items) c.into_parts-done.ensures.done))

pub returns-clause-lists : goal.returns-clause-lists
returns-clause-lists g c =
    let before = c.pop.new.self.items in
    let last = c.in-Some.last in
    let popped : c.args.crew.items ≡ before ++ last ∷ [] = search rules in
    let long : vec_len c.args.crew ≡ length c.args.crew.items = c.args.crew.ok.0 in
    so_many before last c.work.new.self.done.items c.in_ok-by.by c.push.new.self c.in_ok-by.ensures.lists (c.in_ok-push.ensures.ok ∙
    ap (λ (x : List Job). c.in_ok-by.by ++ x ∷ []) (c.in_ok-from_vec.ensures ∙ ap (λ v. v.items) c.into_parts-done.ensures.done)) ∙ ap (λ (l : List Worker). length l) (sym popped) ∙ sym long
