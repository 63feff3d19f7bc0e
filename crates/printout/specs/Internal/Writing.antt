-- What this crate's functions say to each other of the words that they write. Internal: the lines themselves are those of `Line`, and of public
-- calls only those that write lines and words name it.
--     ended, blanked        a word with the byte that ends it; words with a blank after each
--     lettered              a letter and a number
--     Laid                  bytes that are stored from a position on
--     LaidWord, LaidWords   ... a word, words
--     WrittenLine           a whole line at the buffer's start
use Rattle.std.specs.Prelude.{ℕ, ◌+◌, ◌≤◌, ◌≡◌, List, [], ◌∷◌, ◌++◌, length, drop}
use Rattle.std.proofs.lemmas.List.Edits.{sets}
use Rattle.program.specs.Limits.{line_size}
use Rattle.printout.specs.Text.{decimal}

-- a word and the byte that ends it: a blank, or the line's newline
unfoldable pub ended : List ℕ → ℕ → List ℕ
ended word end = word ++ end ∷ []

-- words, each with a blank after it
unfoldable pub blanked : List (List ℕ) → List ℕ
blanked [] = []
blanked (w ∷ ws) = ended w 32 ++ blanked ws

-- a letter and a number: `numbered` for a letter that is one byte
unfoldable pub lettered : ℕ → ℕ → List ℕ
lettered letter n = letter ∷ decimal n

-- the bytes are laid over the buffer from `at` on, and `next` is the position after them
pub record Laid (bytes : List ℕ) (at : ℕ) (buffer after : List ℕ) (next : ℕ) : Type 0 where
  pub stored : after ≡ sets buffer at bytes
  pub ends : next ≡ at + length bytes

-- so is a word with its end; words with their blanks
pub record LaidWord (word : List ℕ) (end at : ℕ) (buffer after : List ℕ) (next : ℕ) : Type 0 where
  pub laid : Laid (ended word end) at buffer after next

pub record LaidWords (words : List (List ℕ)) (at : ℕ) (buffer after : List ℕ) (next : ℕ) : Type 0 where
  pub laid : Laid (blanked words) at buffer after next

-- a whole line, from the buffer's start on: what each kind of line promises. "Later bytes are kept"
pub record WrittenLine (line buffer after : List ℕ) (size : ℕ) : Type 0 where
  pub counted : size ≡ length line
  pub bytes : after ≡ line ++ drop (length line) buffer
  pub short : size ≤ line_size
