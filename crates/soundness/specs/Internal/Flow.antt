-- The lock set and the prefix at each place of typed code, and what a move may lead to. Only the proof of demand 3 speaks of it.
--     Label, label        what is known at a place
--     labelled            the labels of typed code
--     mover_at, Follows   what a move is, and what it keeps
--     Leads               where code may go on
use Rattle.std.specs.Prelude.{ℕ, ◌≡◌}
use Rattle.atomicity.specs.Atomicity.{join, closure}
use Rattle.atomicity.specs.declared.Atomicity.{Atomicity}
use Rattle.judge.specs.Discipline.{mover_of, atomicity_of}
use Rattle.judge.specs.Rules.{Legal, Typed, typed_done, typed_plain, typed_choice, typed_loop, typed_block}
use Rattle.judge.specs.declared.lock_set.LockSet.{LockSet}
use Rattle.program.specs.Code.{Code}
use Rattle.program.specs.View.{access_of}
use Rattle.program.specs.Layout.{Program}
use Rattle.soundness.specs.Internal.Labelled.{Tree, done, plain, choice, loop, block, Row, Edge}
use Rattle.soundness.specs.Internal.Prefix.{Prefix, behind, entered, Below, Goes}

-- what is known at a place: the locks held there, and where it stands in its block
pub record Label : Type 0 where
  pub locks : LockSet
  pub prefix : Prefix

abbrev pub label : LockSet → Prefix → Label
label s m = record { locks = s; prefix = m }

-- the labels of code that is begun with the prefix m. A loop's places have any number of turns before them
unfoldable pub labelled : {p : Program} {t : ℕ} {s s' : LockSet} {c : Code} {a : Atomicity} → Typed p t s c s' a → Prefix → Tree Label c
labelled typed_done m = done
labelled {p} {t} (typed_plain {i} {s} f l d) m = plain (label s m) f (labelled d (behind m (atomicity_of p t s i)))
labelled (typed_choice {s} {s'} {x} {y} d₁ d₂ d) m =
    choice (label s m) (label s' (behind m x)) (label s' (behind m (join x y))) (labelled d₁ m) (labelled d₂ m) (labelled d (behind m (join x y)))
labelled (typed_loop {s} {x} d₁ d) m =
    let n = behind m (closure x) in
    loop (label s n) (label s (behind n x)) (labelled d₁ n) (labelled d n)
labelled (typed_block {s} {s'} {x} d₁ n stated d) m =
    block (label s m) (label s' (behind (entered m) x)) (labelled d₁ (entered m)) (labelled d (behind m x))

-- what a move of code t from a row is
abbrev pub mover_at : Program → ℕ → Row Label → Atomicity
mover_at p t r = mover_of p t r.label.locks r.instruction

-- thread t's move along the edge keeps the lock discipline, and its mover fits the prefixes of its ends
pub record Follows (p : Program) (t : ℕ) (e : Edge Label) : Type 0 where
  pub legal : Legal p t (access_of e.from.instruction) e.from.label.locks e.to.locks
  pub goes : Goes (mover_at p t e.from) e.from.label.prefix e.to.prefix

-- code that ends with this lock set and prefix may go on at the label
pub record Leads (s : LockSet) (m : Prefix) (to : Label) : Type 0 where
  pub same_locks : s ≡ to.locks
  pub below : Below m to.prefix
