use Rattle.nmgc_journal.proofs.Vocabulary.{ℕ, ◌∙◌, List, [], ◌∷◌, ◌++◌, take, ap, sym, add-one, flat_map, take-suc, flat_map_more, get_or_from_slice_get, slice_get_within, Reply, reply_line}
use Rattle.nmgc_journal.proofs.text.push_replies.Goals as goal

pub loop-at-preserved : goal.loop-at-preserved
loop-at-preserved c =
    let line = reply_line c.args.mutator in
    let all : List Reply = c.args.replies.now in
    let k = c.loop-at.at in
    let reply = c.reply.result in
    let before = c.args.out.now.items in
    let next = take-suc all k reply (slice_get_within all k reply c.reply.ensures) ∙
    ap (λ (x : Reply). take k all ++ x ∷ []) (get_or_from_slice_get all k reply reply c.reply.ensures) in
    rw add-one (c.in_ok-push_reply_line.ensures ∙ ap (λ (out : List ℕ). out ++ line reply) c.loop-at.invariant ∙
    flat_map_more line before (take k all) reply ∙ ap (λ (xs : List Reply). before ++ flat_map line xs) (sym next))
