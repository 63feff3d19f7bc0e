-- "It reads at most 33,174 bytes; more can't alter the answer" (the standard, "Line and bench"). Assumes nothing.
--     rest_unread    bench prints for the first 33,174 bytes what it would print for the whole file
use Rattle.std.proofs.Common.{ℕ, ◌≤◌, ◌≡◌, refl, Bool, true, false, List, leb, length, take, take_all, get_or-take, length-take-le, arith, leb-true, leb-false}
use Rattle.program.specs.Limits.{bench_limit}
use Rattle.judge.proofs.Accepting.{read_refused}
use Rattle.judge.specs.Acceptance.{accept}
use Rattle.program.proofs.Prefix.{refused_alike}
use Rattle.hogunlas.specs.Calls.{output_of, bench_output}

-- a longer file is refused, as its first bytes are
longer_unread : (s : List ℕ) → bench_limit ≤ length s → bench_output s ≡ output_of s (accept s)
unfolding bench_output
longer_unread s h =
    let front = take bench_limit s in
    let long : bench_limit ≤ length front = omega (arith, length-take-le bench_limit s h) in
    let both = refused_alike front s long h (λ i k. get_or-take bench_limit s i 0 k) in
    rw (read_refused front both.0 both.1, read_refused s both.0 both.2)

-- all of a shorter file is read
by_length : (s : List ℕ) (b : Bool) → leb (length s) bench_limit ≡ b → bench_output s ≡ output_of s (accept s)
unfolding bench_output
by_length s true e = rw (take_all bench_limit s (leb-true (length s) bench_limit e))
by_length s false e = longer_unread s (omega (arith, leb-false (length s) bench_limit e))

pub rest_unread : (s : List ℕ) → bench_output s ≡ output_of s (accept s)
rest_unread s = by_length s (leb (length s) bench_limit) refl
