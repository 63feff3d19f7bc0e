-- The table of writers, part by part. Assumes nothing.
--     length-one, length_marked       marking keeps its length
--     code_bit                        1 shifted to a code's bit
--     codes_next, codes_done          one code section more, and none left
use Prim.Native.Nat.{ℕ, suc, ◌+◌, ◌*◌, ◌-◌, ◌/◌, ◌%◌, ◌^◌, ◌<◌, ◌≤◌}
use mathlib.Core.Path.{◌≡◌, refl, ◌∙◌}
use mathlib.Core.List.{List, [], ◌∷◌}
use native.Mathlib.Nat.{one-mul}
use native.Mathlib.Numerals.{add-one}
use native.Mathlib.Omega.{arith}
use lib.ListN.{length, length-set}
use lib.Pow.{shl_exact}
use Rattle.program.specs.Field.{pair_at}
use Rattle.program.specs.Limits.{thread_limit, instruction_size}
use Rattle.program.specs.Layout.{instructions_at, codes_at}
use Rattle.program.specs.View.{Access, none, reads, writes, takes, gives, access_of}
use Rattle.program.specs.Internal.Marks.{marked, marked_all, marked_codes}
use Rattle.program.specs.declared.instruction.Instruction.{Instruction}

pub length-one : (bit : ℕ) (x : Access) (table : List ℕ) → length (marked bit x table) ≡ length table
length-one bit none table = refl
length-one bit (reads v) table = refl
length-one bit (writes v a) table = length-set table v _
length-one bit (takes k) table = refl
length-one bit (gives k) table = refl

pub length_marked : (bit : ℕ) (is : List Instruction) (table : List ℕ) → length (marked_all bit is table) ≡ length table
unfolding marked_all
length_marked bit [] table = refl
length_marked bit (i ∷ is) table = length_marked bit is (marked bit (access_of i) table) ∙ length-one bit (access_of i) table

pub code_bit : (k : ℕ) → k < thread_limit → 1 * 2 ^ k % 256 ≡ 2 ^ k
code_bit k h = shl_exact 1 k 8 (omega arith) (omega arith) ∙ one-mul (2 ^ k)

module _ (locks variables : ℕ) (s : List ℕ) where
  pub codes_next : (n t at count end bit : ℕ) (before after : List ℕ) → t < n → count ≡ pair_at s at / instruction_size
      → end ≡ at + 2 + instruction_size * count → bit ≡ 2 ^ t → after ≡ marked_all bit (instructions_at locks variables s count (at + 2)) before
      → marked_codes (t + 1) (codes_at locks variables s (n - (t + 1)) end) after ≡ marked_codes t (codes_at locks variables s (n - t) at) before
  unfolding marked_codes codes_at
  codes_next n t at count end bit before after some count_is end_is bit_is after_is =
      let rest : n - t ≡ suc (n - (t + 1)) = omega arith in
      rw (rest, after_is, end_is, bit_is, count_is, add-one t)

  pub codes_done : (n t at : ℕ) (table : List ℕ) → n ≤ t → marked_codes t (codes_at locks variables s (n - t) at) table ≡ table
  unfolding marked_codes codes_at
  codes_done n t at table h = let none : n - t ≡ 0 = omega arith in rw none
