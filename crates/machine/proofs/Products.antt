-- The tables of the standard's "Signed hundredths" hold of the definitions. Assumes nothing.
--     products_computed      one computed theorem over the table of MULH
--     comparisons_computed   one over the table of LESSS and LESS
use Rattle.std.proofs.Common.{◌≡◌, refl, ℕ, [], ◌∷◌, map, ℤ}
use Rattle.program.specs.declared.instruction.Instruction.TheVariants.{Mulh, Lesss, Less}
use Rattle.program.specs.declared.instruction.Instruction.{Instruction}
use Rattle.machine.specs.Products.{Product, products, Comparison, comparisons}
use Rattle.machine.specs.Signed.{signed_value, register_of}
use Rattle.machine.specs.Step.{Result, puts, result_of}
use Rattle.machine.proofs.Definitions.{running_definitions}

-- what an instruction on r0 and r1 puts into r2, where these have signed values b and c
abbrev result : (ℕ → ℕ → ℕ → Instruction) → (b c : ℤ) → Result
result i b c = result_of (i 2 0 1) 0 (register_of b ∷ register_of c ∷ [])

pub products_computed :
    (map (λ (p : Product). result Mulh p.b p.c) products ≡ map (λ (p : Product). puts 2 p.register) products)
    × (map (λ (p : Product). signed_value p.register) products ≡ map (λ (p : Product). p.hundredth) products)
unfolding products running_definitions
products_computed = (refl, refl)

pub comparisons_computed :
    (map (λ (p : Comparison). result Lesss p.b p.c) comparisons ≡ map (λ (p : Comparison). puts 2 p.signed) comparisons)
    × (map (λ (p : Comparison). result Less p.b p.c) comparisons ≡ map (λ (p : Comparison). puts 2 p.unsigned) comparisons)
unfolding comparisons running_definitions
comparisons_computed = (refl, refl)
