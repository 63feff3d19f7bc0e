-- "The longest line has 42 bytes" (the standard, "Line and bench"), so that each fits "a buffer of 48 bytes". Assumes nothing.
--     answered_short     no line that `line` answers is longer
--     longest_line_lem   one has as many
--     longest_fits       48 bytes are enough
use Rattle.std.proofs.Common.{ℕ, ◌<◌, ◌≤◌, ◌≡◌, refl, subst, List, [], ◌∷◌, ◌++◌, arith, ltb, leb, length, get_or, replicate, Ok}
use mathlib.Core.List.{flatten}
use Rattle.judge.proofs.RulesFile.{accept_judged}
use Rattle.judge.specs.Acceptance.{Accepted, sound, accept}
use Rattle.printout.proofs.Widths.{no_longer_line}
use Rattle.printout.specs.Line.{lines}
use Rattle.printout.specs.Text.{ascii}
use Rattle.program.proofs.Answer.{fine_inj, bind_inv, require_inv}
use Rattle.program.proofs.Sound.{sound_file}
use Rattle.program.specs.Field.{byte_at}
use Rattle.program.specs.Layout.{Program, program_of, reading}
use Rattle.program.specs.Limits.{line_size, longest_line}
use Rattle.hogunlas.specs.Calls.{line_answer}
use Rattle.hogunlas.proofs.Definitions.{definitions}

-- the lines of an accepted file
accepted_short : (s : List ℕ) (a : Accepted) → ((i : ℕ) → byte_at s i < 256) → accept s ≡ Ok a → (i : ℕ)
    → length (get_or (lines s a.program a.report) i []) ≤ longest_line
unfolding sound
accepted_short s a bytes e i =
    bind_inv (reading s) _ ((accept_judged s a).0 e).0 λ l reads answer.
    subst (λ (p : Program). length (get_or (lines s p a.report) i []) ≤ longest_line) (fine_inj (program_of s l) a.program answer)
    (no_longer_line s l bytes (sound_file s l reads) a.report i)

-- of bytes, which every file has
pub answered_short : (s : List ℕ) (i room : ℕ) (text : List ℕ) → ((i : ℕ) → byte_at s i < 256) → line_answer s i room ≡ Ok text → length text ≤ longest_line
unfolding line_answer
answered_short s i room text bytes e =
    bind_inv (accept s) _ e λ a e₁ f₁.
    require_inv (ltb i (length (lines s a.program a.report))) _ _ f₁ λ there f₂.
    require_inv (leb line_size room) _ _ f₂ λ enough f₃.
    subst (λ (t : List ℕ). length t ≤ longest_line) (fine_inj (get_or (lines s a.program a.report) i []) text f₃) (accepted_short s a bytes e₁ i)

-- 16 locks, one thread without code, 64 variables guarded by k15 with the largest initial value
abbrev widest : List ℕ
widest = 0x01 ∷ 0x10 ∷ 0x01 ∷ 0x01 ∷ 0x80 ∷ flatten (replicate 64 (0x00 ∷ 0x0F ∷ 0xFF ∷ 0xFF ∷ 0xFF ∷ 0xFF ∷ [])) ++ 0x00 ∷ 0x00 ∷ []

abbrev longest : List ℕ
longest = ascii "00 0F FFFFFFFF v63 guarded k15 4294967295\n"

pub longest_line_lem : (line_answer widest 67 line_size ≡ Ok longest) × (length longest ≡ longest_line)
unfolding definitions
longest_line_lem = (refl, refl)

pub longest_fits : longest_line ≤ line_size
longest_fits = omega arith
