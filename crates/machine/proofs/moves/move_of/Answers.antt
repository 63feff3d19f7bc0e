-- `move_of` meets its contract, arm by arm: an instruction's own effect is what its Move says. Assumes nothing.
use Rattle.program.specs.View.{access_of, form_of}
use Rattle.machine.specs.Step.{result_of, place_after, place_behind}
use Rattle.machine.specs.Internal.Effect.{Does}
use Rattle.machine.proofs.Effect.{effect_of_lem}
use Rattle.machine.proofs.Fields.{fields_eq}
use Rattle.machine.proofs.moves.move_of.Goals as goal

-- the registers that are read
pub bounds-r-b : goal.bounds-r-b
bounds-r-b c = (fields_eq c.in-Copy.is c.requires.0).0.1.0

pub bounds-r-b-in-Add : goal.bounds-r-b-in-Add
bounds-r-b-in-Add c = (fields_eq c.in-Add.is c.requires.0).0.1.0

pub bounds-r-c : goal.bounds-r-c
bounds-r-c c = (fields_eq c.in-Add.is c.requires.0).0.1.1.0

pub bounds-r-b-in-Sub : goal.bounds-r-b-in-Sub
bounds-r-b-in-Sub c = (fields_eq c.in-Sub.is c.requires.0).0.1.0

pub bounds-r-c-in-Sub : goal.bounds-r-c-in-Sub
bounds-r-c-in-Sub c = (fields_eq c.in-Sub.is c.requires.0).0.1.1.0

pub bounds-r-b-in-Less : goal.bounds-r-b-in-Less
bounds-r-b-in-Less c = (fields_eq c.in-Less.is c.requires.0).0.1.0

pub bounds-r-c-in-Less : goal.bounds-r-c-in-Less
bounds-r-c-in-Less c = (fields_eq c.in-Less.is c.requires.0).0.1.1.0

pub bounds-r-b-in-Mulh : goal.bounds-r-b-in-Mulh
bounds-r-b-in-Mulh c = (fields_eq c.in-Mulh.is c.requires.0).0.1.0

pub bounds-r-c-in-Mulh : goal.bounds-r-c-in-Mulh
bounds-r-c-in-Mulh c = (fields_eq c.in-Mulh.is c.requires.0).0.1.1.0

pub bounds-r-b-in-Lesss : goal.bounds-r-b-in-Lesss
bounds-r-b-in-Lesss c = (fields_eq c.in-Lesss.is c.requires.0).0.1.0

pub bounds-r-c-in-Lesss : goal.bounds-r-c-in-Lesss
bounds-r-c-in-Lesss c = (fields_eq c.in-Lesss.is c.requires.0).0.1.1.0

pub bounds-r-a : goal.bounds-r-a
bounds-r-a c = (fields_eq c.in-Write.is c.requires.0).0.0

pub bounds-r-a-in-If : goal.bounds-r-a-in-If
bounds-r-a-in-If c = (fields_eq c.in-If.is c.requires.0).0.0

pub bounds-r-a-in-While : goal.bounds-r-a-in-While
bounds-r-a-in-While c = (fields_eq c.in-While.is c.requires.0).0.0

-- `Instruction::Set(a, n) => Move::Sets(a, u32::from(n))`
pub returns-in-Set : goal.returns-in-Set
unfolding Does access_of result_of place_after place_behind form_of
returns-in-Set c = rw (c.from.ensures, c.in-Set.is) (effect_of_lem, (fields_eq c.in-Set.is c.requires.0).0.0)

-- `Instruction::Copy(a, b) => Move::Sets(a, r[b as usize])`
pub returns-in-Copy : goal.returns-in-Copy
unfolding Does access_of result_of place_after place_behind form_of
returns-in-Copy c = rw c.in-Copy.is (effect_of_lem, (fields_eq c.in-Copy.is c.requires.0).0.0)

-- `Instruction::Add(a, b, c) => Move::Sets(a, r[b as usize].wrapping_add(r[c as usize]))`
pub returns-in-Add : goal.returns-in-Add
unfolding Does access_of result_of place_after place_behind form_of
returns-in-Add c = rw c.in-Add.is (effect_of_lem, (fields_eq c.in-Add.is c.requires.0).0.0)

-- `Instruction::Sub(a, b, c) => Move::Sets(a, r[b as usize].wrapping_sub(r[c as usize]))`
pub returns-in-Sub : goal.returns-in-Sub
unfolding Does access_of result_of place_after place_behind form_of
returns-in-Sub c = rw c.in-Sub.is (effect_of_lem, (fields_eq c.in-Sub.is c.requires.0).0.0)

-- `Instruction::Less(a, b, c) => Move::Sets(a, less(r[b as usize], r[c as usize]))`
pub returns-in-Less : goal.returns-in-Less
unfolding Does access_of result_of place_after place_behind form_of
returns-in-Less c = rw (c.less.ensures, c.in-Less.is) (effect_of_lem, (fields_eq c.in-Less.is c.requires.0).0.0)

-- `Instruction::Read(a, v) => Move::Reads(a, v)`
pub returns-in-Read : goal.returns-in-Read
unfolding Does access_of result_of place_after place_behind form_of
returns-in-Read c = rw c.in-Read.is (effect_of_lem, (fields_eq c.in-Read.is c.requires.0).0.0, (fields_eq c.in-Read.is c.requires.0).1)

-- `Instruction::Mulh(a, b, c) => Move::Sets(a, mulh(r[b as usize], r[c as usize]))`
pub returns-in-Mulh : goal.returns-in-Mulh
unfolding Does access_of result_of place_after place_behind form_of
returns-in-Mulh c = rw (c.mulh.ensures, c.in-Mulh.is) (effect_of_lem, (fields_eq c.in-Mulh.is c.requires.0).0.0)

-- `Instruction::Lesss(a, b, c) => Move::Sets(a, lesss(r[b as usize], r[c as usize]))`
pub returns-in-Lesss : goal.returns-in-Lesss
unfolding Does access_of result_of place_after place_behind form_of
returns-in-Lesss c = rw (c.lesss.ensures, c.in-Lesss.is) (effect_of_lem, (fields_eq c.in-Lesss.is c.requires.0).0.0)
