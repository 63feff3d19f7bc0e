-- The code sections of a sound file are well nested. Assumes nothing.
--     sections_nested   each of them
use Rattle.std.proofs.Common.{ℕ, zero, suc, ◌+◌, ◌*◌, List}
use Rattle.program.specs.Layout.{codes_at}
use Rattle.program.specs.Internal.Sound.{SoundSections, count_at}
use Rattle.judge.specs.Internal.Nested.{Nested}

pub sections_nested : (s : List ℕ) (locks variables n at m : ℕ) → SoundSections s locks variables n at m → Nested (codes_at locks variables s n at)
unfolding Nested codes_at
sections_nested s locks variables zero at m h = tt
sections_nested s locks variables (suc n) at m h =
    (h.1.nested, sections_nested s locks variables n (at + 2 + 4 * count_at s at) h.0 h.3)
