-- The five atomicities (the standard, "Atomicities"): composition, order, join, closure, report bytes.
use Rattle.std.specs.Prelude.{ℕ, Bool, true, false}
use Rattle.atomicity.specs.declared.Atomicity.{Atomicity}
use Rattle.atomicity.specs.declared.Atomicity.TheVariants.{Both, Left, Right, Atomic, Top}

-- one value for each atomicity, in the order B L R A T: a row of a table
abbrev pub by : {A : Type 0} → A → A → A → A → A → Atomicity → A
by b l r a t Both = b
by b l r a t Left = l
by b l r a t Right = r
by b l r a t Atomic = a
by b l r a t Top = t

-- "with report bytes: B 1 (both mover), L 2, R 3, A 4, T 5 (none of these)"
abbrev pub report_byte : Atomicity → ℕ
report_byte = by 1 2 3 4 5

-- "Composition, row first": each row at B L R A T
unfoldable pub composition : Atomicity → Atomicity → Atomicity
composition Both = by Both Left Right Atomic Top
composition Right = by Right Atomic Right Atomic Top
composition Left = by Left Left Top Top Top
composition Atomic = by Atomic Atomic Top Top Top
composition Top = by Top Top Top Top Top

-- "Order: B below L and R, both below A, A below T": `at_most a b`, a is at or below b
unfoldable pub at_most : Atomicity → Atomicity → Bool
at_most Both = by true true true true true
at_most Left = by false true false true true
at_most Right = by false false true true true
at_most Atomic = by false false false true true
at_most Top = by false false false false true

-- the least atomicity at or above both: "L joined with R is A"
unfoldable pub join : Atomicity → Atomicity → Atomicity
join Both = by Both Left Right Atomic Top
join Left = by Left Left Atomic Atomic Top
join Right = by Right Atomic Right Atomic Top
join Atomic = by Atomic Atomic Atomic Atomic Top
join Top = by Top Top Top Top Top

-- "Closure: B, L, R, T stay; A becomes T"
abbrev pub closure : Atomicity → Atomicity
closure = by Both Left Right Top Top
