-- `entries` meets its contract. Assumes nothing.
use Rattle.std.proofs.Common.{◌≡◌, ℕ, ◌+◌, ◌<◌, List, ◌++◌, length, replicate, refl, sym, ap, ◌∙◌, subst, arith, length-append, rules, ◌⊎◌, inl, inr}
use Rattle.std.proofs.lemmas.Grind.{same_number_lists}
use Rattle.std.proofs.lemmas.List.{length-replicate, get_or-replicate}
use Rattle.std.specs.Array.{AllOfLen}
use Rattle.std.specs.Slice.Iter.{chunks_rest}
use Rattle.program.specs.Layout.{program_of}
use Rattle.program.specs.declared.sections.ProgramFile.{ProgramFile}
use Rattle.machine.specs.Run.{Entries, run_from}
use Rattle.machine.specs.Internal.Here.{program, here, from_here}
use Rattle.machine.specs.Internal.Kept.{Ended}
use Rattle.machine.specs.Internal.Tally.{AtMost, Numbers, RunTo}
use Rattle.machine.specs.declared.counts.Counts.{Counts}
use Rattle.machine.specs.declared.counts.Tallies.{Tallies}
use Rattle.machine.specs.declared.run.Machine.{Machine}
use Rattle.machine.proofs.Between.{Between, Whole, between_start, between_next, part_named, ended_early, all_run, whole_tally, whole_counts}
use Rattle.machine.proofs.run.Machine.entries.Goals.{Joined-next}
use Rattle.machine.proofs.run.Machine.entries.Goals as goal

-- before a part, from a machine's start: it runs the same file, and so many entries are left
abbrev Before : (first now : Machine) (list : List ℕ) → Tallies → (before : ℕ) (rest : List ℕ) → Type 0
Before first now list tallies before rest =
    Between (program first) first.file.layout.threads list (here first) (here now) tallies.moved tallies.waiting before rest

-- a part is run
past : (first now after : Machine) (list : List ℕ) (tallies tallies' : Tallies) (before : ℕ) (rest part rest' : List ℕ) → now.file ≡ first.file
    → Before first now list tallies before rest → rest ≡ part ++ rest'
    → ((cs : List Counts) → Numbers cs tallies.moved tallies.waiting
    → RunTo (run_from (program now) (record { counts = cs; state = here now }) part) (here after) tallies'.moved tallies'.waiting)
    → AtMost (before + length part) tallies'.moved tallies'.waiting
    → Before first after list tallies' (before + length part) rest'
past first now after list tallies tallies' before rest part rest' same x e ran most =
    between_next x part rest' e
    (λ cs n. subst
    (λ (f : ProgramFile). RunTo (run_from (program_of f.bytes.now f.layout) (record { counts = cs; state = here now }) part) (here after) tallies'.moved tallies'.waiting)
    same (ran cs n))
    most

-- the list is run: nothing is left, or what is left is idle
abbrev Ran : (first now : Machine) (list : List ℕ) → Tallies → Type 0
Ran first now list tallies =
    (now.file ≡ first.file)
    × Whole now.file.layout now.file.counts list now.running.variables now.running.locks now.running.threads tallies.moved tallies.waiting
    (run_from (program first) (from_here first) list)

ran : (first now : Machine) (list : List ℕ) (tallies : Tallies) (before : ℕ) (rest : List ℕ) → now.file ≡ first.file → Entries first.file.layout.threads list
    → Before first now list tallies before rest → (length rest ≡ 0) ⊎ Ended now.file.counts now.running.threads → Ran first now list tallies
ran first now list tallies before rest same entries x h =
    let y = subst
    (λ (f : ProgramFile). Between (program_of f.bytes.now f.layout) f.layout.threads list (here first) (here now) tallies.moved tallies.waiting before rest)
    (sym same) x in
    let named = subst (λ (f : ProgramFile). Entries f.layout.threads list) (sym same) entries in (
      same,
      subst
          (λ (f : ProgramFile).
          Whole now.file.layout now.file.counts list now.running.variables now.running.locks now.running.threads tallies.moved tallies.waiting
          (run_from (program_of f.bytes.now f.layout) (from_here first) list))
          same
          (elim h [
            | inl e ↦ all_run now.file.located now.kept named y e
            | inr e ↦ ended_early now.file.located now.kept named y e
          ]),
    )

-- ... from the values of the branch
joined : (first now now' : Machine) (list : List ℕ) (tallies tallies' : Tallies) → now' ≡ now → tallies' ≡ tallies → Ran first now list tallies → Ran first now' list tallies'
joined first now now' list tallies tallies' p e h = rw (p, e) h

-- an array of a Default's numbers
none_yet : (xs : List ℕ) (n : ℕ) → AllOfLen (λ x. x ≡ 0) xs n → xs ≡ replicate n 0
none_yet xs n h = same_number_lists xs (replicate n 0) (rw (length-replicate, h.long) refl)
    (λ k below. let k_below : k < n = rw h.long at below in rw (get_or-replicate {A = ℕ} n k 0 0 k_below) (h.at k 0 k_below))

pub loop-part-init : goal.loop-part-init
loop-part-init c = (
  refl,
  search rules,
  rw (none_yet _ _ c.default-tallies.ensures.0, none_yet _ _ c.default-tallies.ensures.1, ap chunks_rest c.into_iter-part-iterator.ensures.into_iter_gives, c.chunks-part-items.ensures.rest)
      (between_start _ _ _ _ c.requires.0),
)

pub part_entries-requires : goal.part_entries-requires
part_entries-requires c =
    let x = c.loop-part.invariant in
    let cut = c.in-Some.ensures.steps.1.0 in
    let long : length (chunks_rest c.loop-part.part-iterator) ≡ length c.in-Some.part.now + length (chunks_rest c.next.new.self) = ap length cut ∙ length-append c.in-Some.part.now _ in (
      subst (λ (f : ProgramFile). Entries f.layout.threads c.in-Some.part.now) (sym x.0) (part_named x.2 c.in-Some.part.now _ cut),
      x.2.at_most,
      omega (arith, long, x.2.lengths, c.requires.1),
    )

pub loop-part-preserved : goal.loop-part-preserved
loop-part-preserved c =
    let x = c.loop-part.invariant in
    let steps = c.in-Some.ensures.steps in
    let does = c.part_entries.ensures in (
      does.file ∙ x.0,
      steps.0 ∙ x.1,
      past c.args.self.now c.loop-part.self c.part_entries.new.self _ _ _ _ _ c.in-Some.part.now _ x.0 x.2 steps.1.0 does.run_to does.at_most,
    )

-- where the loop has ended
last : (c : Joined-next) → Ran c.args.self.now c.match-next.self c.args.list.now c.match-next.tallies
last c = let x = c.loop-part.invariant in elim c.match-next.branch [
  | goal.in-None w ↦ joined c.args.self.now c.loop-part.self c.match-next.self _ _ _ w.self-is w.tallies-is (ran c.args.self.now c.loop-part.self _ _ _ _ x.0 c.requires.0 x.2 (inl w.in-None.ensures.steps.1.0))
  | goal.in-Some+then-all_ended w ↦
      let does = w.part_entries.ensures in
      joined c.args.self.now w.part_entries.new.self c.match-next.self _ _ _ w.self-is w.tallies-is
      (ran c.args.self.now w.part_entries.new.self _ _ _ _ (does.file ∙ x.0) c.requires.0
      (past c.args.self.now c.loop-part.self w.part_entries.new.self _ _ _ _ _ w.in-Some.part.now _ x.0 x.2 w.in-Some.ensures.steps.1.0 does.run_to does.at_most)
      (inr (w.all_ended.ensures w.if-all_ended.true)))
]

pub counts_of-requires : goal.counts_of-requires
counts_of-requires c = let o = ((goal.at.counts_of-requires c).Joined-next) in whole_tally (last o).1

pub returns : goal.returns
returns c =
    let o = ((goal.at.returns c).Joined-next) in
    let e = last o in
    record { file = e.0; whole_run = whole_counts e.1 c.counts_of.result (search rules) c.counts_of.ensures }
