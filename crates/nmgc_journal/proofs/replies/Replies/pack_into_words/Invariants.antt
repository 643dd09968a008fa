use Rattle.nmgc_journal.proofs.Vocabulary.{◌≡◌, ◌≤◌, map, take, vec_len, vec_capacity, length, reply_in}
use Rattle.nmgc_journal.proofs.replies.Replies.pack_into_words.Given as goal

-- the words of the replies so far, with room for all
abbrev pub invariant-loop-reply : goal.invariant-loop-reply
invariant-loop-reply l = record {
  words_are : map reply_in l.words.items ≡ take l.reply-index l.fn.replies;
  many : vec_len l.words ≡ l.reply-index;
  room : length l.fn.replies ≤ vec_capacity l.words;
}
