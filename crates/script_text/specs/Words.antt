-- The words of scripts.
use Rattle.std.specs.Prelude.{◌≡◌, ℕ, List, ◌∷◌, nat_eq, find, Option}
use Rattle.std.specs.Option.{option_map}
use Rattle.std.specs.Cmp.Lexicographic.{pointwise}
use Rattle.script_text.specs.declared.word.Word.{Word}
use Rattle.script_text.specs.declared.word.TheConstants.{WORDS}

-- the word that a token spells, by the table of words
abbrev pub word_of : List ℕ → Option Word
word_of token = option_map (λ entry. entry.1) (find (λ entry. pointwise nat_eq token entry.0.now) WORDS)

-- the first of some tokens is this word, or none, and these follow
pub record BeginsBy (tokens : List (List ℕ)) (word : Option Word) (rest : List (List ℕ)) : Type 0 where
  pub token : List ℕ
  pub is : tokens ≡ token ∷ rest
  pub says : word_of token ≡ word
