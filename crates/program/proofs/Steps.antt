-- The steps of the definition `fields`; `fields s` is `byte_field s (cursor 0) >>= after_version s` by its definition. Assumes nothing.
--     after_version, after_locks, after_threads   what follows each of the three bytes
--     after_variables, after_sections             what follows the variable section, and the code sections
use Prim.Native.Nat.{ℕ}
use mathlib.Core.Bool.{◌&&◌}
use mathlib.Core.List.{List}
use lib.ListN.{length}
use lib.Dec.{leb, eqb}
use Rattle.program.specs.Answer.{Answer, ◌>>=◌, require}
use Rattle.std.specs.Prelude.{Ok}
use Rattle.program.specs.Field.{byte_field}
use Rattle.program.specs.Limits.{lock_limit, thread_limit}
use Rattle.program.specs.Layout.{variable_section, code_sections}
use Rattle.program.specs.declared.cursor.Cursor.{Cursor}
use Rattle.program.specs.declared.refusal.Refusal.TheVariants.{Version, Count, LeftOver}

module _ (s : List ℕ) where
  abbrev pub after_sections : ℕ × Cursor → Answer (ℕ × Cursor)
  after_sections x = require (eqb x.1.at (length s)) (LeftOver x.1.at) (Ok (x.0, x.1))

  abbrev pub after_variables : (locks threads : ℕ) → ℕ × Cursor → Answer (ℕ × Cursor)
  after_variables locks threads x = code_sections locks x.0 s threads x.1 >>= after_sections

  abbrev pub after_threads : (locks : ℕ) → ℕ × Cursor → Answer (ℕ × Cursor)
  after_threads locks x =
      require (leb 1 x.0 && leb x.0 thread_limit) (Count 2) (variable_section locks x.0 s x.1 >>= after_variables locks x.0)

  abbrev pub after_locks : ℕ × Cursor → Answer (ℕ × Cursor)
  after_locks x = require (leb x.0 lock_limit) (Count 1) (byte_field s x.1 >>= after_threads x.0)

  abbrev pub after_version : ℕ × Cursor → Answer (ℕ × Cursor)
  after_version x = require (eqb x.0 1) (Version 0) (byte_field s x.1 >>= after_locks)
