-- How the end of a part is tested. Assumes nothing.
--     is_top_same   an atomicity is T if it is equal to it
use denote.Enum.Bare.{sameb}
use Rattle.std.proofs.Common.{◌≡◌, refl}
use Rattle.atomicity.specs.contracts.Atomicity.{the_type}
use Rattle.atomicity.specs.declared.Atomicity.{Atomicity}
use Rattle.atomicity.specs.declared.Atomicity.TheVariants.{Both, Left, Right, Atomic, Top}
use Rattle.judge.specs.Judging.{is_top}

pub is_top_same : (a : Atomicity) → is_top a ≡ sameb the_type a Top
unfolding is_top
is_top_same Both = refl
is_top_same Left = refl
is_top_same Right = refl
is_top_same Atomic = refl
is_top_same Top = refl
