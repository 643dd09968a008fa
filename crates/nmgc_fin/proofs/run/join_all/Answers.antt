use Rattle.nmgc_fin.proofs.{Vocabulary.rules, Vocabulary.◌≡◌, Vocabulary.◌+◌, Vocabulary.List, Vocabulary.[], Vocabulary.◌∷◌, Vocabulary.◌++◌, Vocabulary.length, Vocabulary.ap, Vocabulary.sym, Vocabulary.subst, Vocabulary.IsSegPassOf, Vocabulary.◌∙◌, Vocabulary.append_assoc, Vocabulary.append-nil, Vocabulary.arith, Vocabulary.into_iter_items, Vocabulary.Job, Vocabulary.Hand, Vocabulary.Worker, Vocabulary.hand, Vocabulary.joined, Vocabulary.lists_of, Rules.merges, Gathered.lists_more, Gathered.client_more, Gathered.comes_at, Gathered.worker_at, Gathered.none_left}
use Rattle.nmgc_fin.proofs.run.join_all.Goals as goal

pub absorb-requires-clause-queue : goal.absorb-requires-clause-queue
absorb-requires-clause-queue c =
    let ms = c.loop-worker.yielded in
    let w = c.in-Some.worker in
    let rest = c.next.new.self.rest.items in
    let is : into_iter_items c.into_iter-worker-iterator.result ≡ c.args.crew.items = search rules in
    let all : ms ++ w ∷ rest ≡ c.args.crew.items =
    ap (λ (l : List Worker). ms ++ l) (sym c.in-Some.ensures.steps.0) ∙ c.loop-worker.invariant.all ∙ is in
    let it = worker_at c.args.queue.now c.args.jobs.now c.args.crew.items c.requires.crew (length ms) w (comes_at c.args.crew.items ms rest w all) in
    (c.loop-worker.invariant.at_queue, subst (λ p. IsSegPassOf c.args.queue.now p) (sym c.into_parts-theirs.ensures.pass) it.pass)

pub absorb-requires-clause-rule : goal.absorb-requires-clause-rule
absorb-requires-clause-rule c =
    let some = c.requires.part in
    let parts : c.loop-worker.pass.me.view.client.parts ≡ c.args.pass.now.me.view.client.parts + length c.loop-worker.yielded =
    ap (λ (v : Hand). v.parts) c.loop-worker.invariant.client in
    merges c.loop-worker.pass.id c.loop-worker.pass.me.view.client c.into_parts-theirs.result.0.id c.into_parts-theirs.result.0.me.view.client
    (omega (arith, parts, some))

pub loop-worker-preserved : goal.loop-worker-preserved
loop-worker-preserved c =
    let ms = c.loop-worker.yielded in
    let w = c.in-Some.worker in
    let rest = c.next.new.self.rest.items in
    let is : into_iter_items c.into_iter-worker-iterator.result ≡ c.args.crew.items = search rules in
    let all : ms ++ w ∷ rest ≡ into_iter_items c.into_iter-worker-iterator.result =
    ap (λ (l : List Worker). ms ++ l) (sym c.in-Some.ensures.steps.0) ∙ c.loop-worker.invariant.all in
    let it = worker_at c.args.queue.now c.args.jobs.now c.args.crew.items c.requires.crew (length ms) w
    (comes_at c.args.crew.items ms rest w (all ∙ is)) in
    record {
      all = append_assoc ms (w ∷ []) rest ∙ all;
      at_queue = c.absorb.ensures.queue.0;
      client = client_more c.args.pass.now.me.view.client.parts c.args.jobs.now ms w c.loop-worker.pass.me.view.client
          c.into_parts-theirs.result.0.me.view.client _ c.loop-worker.invariant.client
          (ap (λ p. p.me.view.client) c.into_parts-theirs.ensures.pass ∙ it.knows) c.absorb.ensures.rule;
      by_are = c.in_ok-push.ensures.ok ∙
          ap (λ (x : List Job). c.loop-worker.by ++ x ∷ []) (c.in_ok-from_vec.ensures ∙ ap (λ v. v.items) c.into_parts-theirs.ensures.done) ∙
          ap (λ (l : List (List Job)). l ++ w.done.items ∷ []) c.loop-worker.invariant.by_are ∙ sym (lists_more ms w);
    }

pub returns-clause-joined : goal.returns-clause-joined
returns-clause-joined c =
    let ms = c.loop-worker.yielded in
    let is : into_iter_items c.into_iter-worker-iterator.result ≡ c.args.crew.items = search rules in
    let empty : c.loop-worker.worker-iterator.rest.len ≡ 0 = c.in-None.ensures.steps.0 in
    let none : length c.loop-worker.worker-iterator.rest.items ≡ 0 = sym c.loop-worker.worker-iterator.rest.ok.0 ∙ empty in
    let done : ms ≡ c.args.crew.items = sym (append-nil ms) ∙
    ap (λ (l : List Worker). ms ++ l) (sym (none_left (into_iter_items c.loop-worker.worker-iterator) none)) ∙ c.loop-worker.invariant.all ∙ is in
    c.loop-worker.invariant.client ∙
    ap (λ (l : List Worker). hand (c.args.pass.now.me.view.client.parts + length l) c.args.jobs.now (joined (lists_of l))) done

pub returns-clause-lists : goal.returns-clause-lists
returns-clause-lists c =
    let ms = c.loop-worker.yielded in
    let is : into_iter_items c.into_iter-worker-iterator.result ≡ c.args.crew.items = search rules in
    let empty : c.loop-worker.worker-iterator.rest.len ≡ 0 = c.in-None.ensures.steps.0 in
    let none : length c.loop-worker.worker-iterator.rest.items ≡ 0 = sym c.loop-worker.worker-iterator.rest.ok.0 ∙ empty in
    let done : ms ≡ c.args.crew.items = sym (append-nil ms) ∙
    ap (λ (l : List Worker). ms ++ l) (sym (none_left (into_iter_items c.loop-worker.worker-iterator) none)) ∙ c.loop-worker.invariant.all ∙ is in
    c.loop-worker.invariant.by_are ∙ ap lists_of done
