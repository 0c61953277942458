-- The words of entries.
use Rattle.std.specs.Prelude.{ℕ, List, nat_eq, find, Option}
use Rattle.std.specs.Option.{option_map}
use Rattle.std.specs.Cmp.Lexicographic.{pointwise}
use Rattle.run_record.specs.declared.entry_words.ActWord.{ActWord}
use Rattle.run_record.specs.declared.entry_words.ReplyWord.{ReplyWord}
use Rattle.run_record.specs.declared.entry_words.RequestWord.{RequestWord}
use Rattle.run_record.specs.declared.entry_words.TheConstants.{ACT_WORDS, REPLY_WORDS, REQUEST_WORDS}

-- the word of an act, of a request and of a reply that a token spells, by the tables of words
abbrev pub act_word : List ℕ → Option ActWord
act_word token = option_map (λ entry. entry.1) (find (λ entry. pointwise nat_eq token entry.0.now) ACT_WORDS)

abbrev pub request_word : List ℕ → Option RequestWord
request_word token = option_map (λ entry. entry.1) (find (λ entry. pointwise nat_eq token entry.0.now) REQUEST_WORDS)

abbrev pub reply_word : List ℕ → Option ReplyWord
reply_word token = option_map (λ entry. entry.1) (find (λ entry. pointwise nat_eq token entry.0.now) REPLY_WORDS)
