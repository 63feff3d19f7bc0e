-- Lines laid over a buffer one after the other. Assumes nothing.
--     laid_within                         what is laid over a buffer lies within it
--     lines_none, lines_one_more, lines_all
--                                         before the first line, after one more, after the last
--     lines_length, lines_room            the buffer keeps its length, and has room for each line
use Rattle.std.proofs.Common.{ℕ, ◌+◌, ◌-◌, ◌<◌, ◌≤◌, ◌≡◌, refl, sym, ◌∙◌, ap, List, [], ◌++◌, append_assoc, append-nil, arith, length, take, drop, get_or, length-append, length-drop, take_all, take_at, drop_at, drop-drop}
use mathlib.Core.List.{flatten}
use Rattle.program.specs.Limits.{line_size}
use Rattle.program.specs.Internal.Bounds.{line_limit, output_limit}
use Rattle.hogunlas.specs.Calls.{laid_over}
use Rattle.printout.specs.Internal.Writing.{WrittenLine}
use Rattle.program.proofs.Lists.{take_rest, drop-rest, flatten_next}
use Rattle.bench.specs.Internal.Printing.{Lines}

-- one line more
laid_next : (front line buffer : List ℕ) → laid_over (front ++ line) buffer ≡ front ++ (line ++ drop (length line) (drop (length front) buffer))
unfolding laid_over
laid_next front line buffer =
    rw (length-append front line, drop-drop (length line) (length front) buffer)
    (append_assoc front line (drop (length front + length line) buffer))

-- what is laid over a buffer lies within it afterwards
pub laid_within : (bytes buffer : List ℕ) {after : List ℕ} {n : ℕ} → n ≡ length bytes → after ≡ laid_over bytes buffer → n ≤ length after
unfolding laid_over
laid_within bytes buffer e h = rw (h, e) (omega (arith, length-append bytes (drop (length bytes) buffer)))

-- before the first line
pub lines_none : (ls : List (List ℕ)) (buffer : List ℕ) → Lines ls 0 buffer buffer 0
unfolding flatten laid_over
lines_none ls buffer = record { within = omega arith; ends = refl; bytes = refl; short = omega arith }

module _ {ls : List (List ℕ)} {i : ℕ} {buffer after : List ℕ} {at : ℕ} (x : Lines ls i buffer after at) where
  -- the lines that are there
  lines_written : List ℕ
  lines_written = flatten (take i ls)

  -- the buffer keeps its length
  pub lines_length : at ≤ length buffer → length after ≡ length buffer
  unfolding laid_over lines_written
  lines_length h = rw x.bytes (omega (arith, length-append lines_written (drop (length lines_written) buffer), length-drop (length lines_written) buffer, x.ends))

  -- it has room for each line
  pub lines_room : i < length ls → length ls ≤ line_limit → output_limit ≤ length buffer → at + line_size ≤ length after
  lines_room h few room = omega (arith, x.short, lines_length (omega (arith, x.short)))

  -- one line more, printed into the rest of the buffer
  pub lines_one_more : i < length ls → (exit : List ℕ) (size : ℕ)
      → WrittenLine (get_or ls i []) (take (length after - at) (drop at after)) exit size
      → Lines ls (i + 1) buffer (take at after ++ (exit ++ drop (length after - at) (drop at after))) (at + size)
  unfolding laid_over lines_written
  lines_one_more h exit size w =
      let line : List ℕ = get_or ls i [] in
      let kept : take at after ≡ lines_written = ap (take at) x.bytes ∙ take_at lines_written (drop (length lines_written) buffer) at (sym x.ends) in
      let rest : drop at after ≡ drop (length lines_written) buffer = ap (drop at) x.bytes ∙ drop_at lines_written (drop (length lines_written) buffer) at (sym x.ends) in
      let written : exit ≡ line ++ drop (length line) (drop (length lines_written) buffer) =
      w.bytes ∙ ap (λ (z : List ℕ). line ++ drop (length line) z) (take_rest at after ∙ rest) in
      record {
        within = omega arith;
        ends = rw (flatten_next ls i h) (omega (arith, length-append lines_written line, x.ends, w.counted));
        bytes = rw (flatten_next ls i h, laid_next lines_written line buffer, drop-rest at after, append-nil exit, kept, written);
        short = omega (arith, w.short, x.short);
      }

  -- after the last line
  pub lines_all : length ls ≤ i → (at ≡ length (flatten ls)) × (after ≡ laid_over (flatten ls) buffer)
  lines_all h =
      let all : take i ls ≡ ls = take_all i ls h in
      (rw all at x.ends, rw all at x.bytes)
