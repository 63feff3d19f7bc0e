-- Two threads' accesses, made one after the other, of which the first is a right mover or the second a left mover, are independent
-- (`independent`). In order: pairs that are; why the others cannot be; all pairs. Assumes nothing.
use Rattle.std.proofs.Common.{ℕ, ◌+◌, ◌<◌, arith, ◌≡◌, refl, sym, ap, ◌∙◌, subst, subst₂, ◌≢◌, Bool, true, false, not, ◌||◌, List, length, get_or, set, get_or-set_same, get_or-set_other, eqb}
use Rattle.std.proofs.Math.Decide.{ℕ_discrete}
use Rattle.std.proofs.Math.Logic.{Ne-symm, dite}
use Rattle.std.proofs.Math.Bool.{or_comm}
use Rattle.std.proofs.Math.Seq.{set_comm}
use Rattle.atomicity.specs.Atomicity.{at_most}
use Rattle.atomicity.specs.declared.Atomicity.TheVariants as atomicity
use Rattle.judge.proofs.AccessRaces.{race_atomic}
use Rattle.judge.specs.Discipline.{kind_at, permits, access_atomicity, access_mover}
use Rattle.judge.specs.LockSet.{holds}
use Rattle.judge.specs.declared.lock_set.LockSet.{LockSet}
use Rattle.program.proofs.Differ.{differ}
use Rattle.program.specs.View.{Access, none, reads, writes, takes, gives}
use Rattle.machine.specs.Step.{waits, value_read, variables_after, locks_after}
use Rattle.program.specs.Layout.{Program, code_of}
use Rattle.program.specs.Writers.{has_write}
use Rattle.program.specs.Internal.Sound.{AccessBelow}
use Rattle.soundness.specs.Internal.Access.{Permitted, read_permitted, write_permitted, give_permitted, StandsIn, Owns, NoLock, NoVariable, Independent, Swaps, right_first, left_second}
use Rattle.soundness.proofs.Owns.{take-free}

-- ---- pairs that are independent

independent_sym : {x y : Access} → Independent x y → Independent y x
independent_sym i = record {
  variables = λ r q vs. sym (i.variables q r vs);
  locks = λ t u ks. sym (i.locks u t ks);
  first_reads = i.second_reads;
  second_reads = i.first_reads;
  first_waits = i.second_waits;
  second_waits = i.first_waits;
}

-- no access, and any
independent_none : (y : Access) → Independent none y
unfolding waits value_read variables_after locks_after
independent_none y = record {
  variables = λ r q vs. refl;
  locks = λ t u ks. refl;
  first_reads = λ q vs. refl;
  second_reads = λ r vs. refl;
  first_waits = λ u ks. refl;
  second_waits = λ t ks. refl;
}

read_no_lock : (v : ℕ) → NoLock (reads v)
unfolding waits locks_after
read_no_lock v = record { locks_stay = λ t ks. refl; never_waits = λ ks. refl }

write_no_lock : (v a : ℕ) → NoLock (writes v a)
unfolding waits locks_after
write_no_lock v a = record { locks_stay = λ t ks. refl; never_waits = λ ks. refl }

take_no_variable : (k : ℕ) → NoVariable (takes k)
unfolding value_read variables_after
take_no_variable k = record { variables_stay = λ r vs. refl; reads_nothing = λ vs. refl }

give_no_variable : (k : ℕ) → NoVariable (gives k)
unfolding value_read variables_after
give_no_variable k = record { variables_stay = λ r vs. refl; reads_nothing = λ vs. refl }

-- a variable and a lock
variable_lock : {x y : Access} → NoLock x → NoVariable y → Independent x y
variable_lock {x} {y} h k = record {
  variables = λ r q vs. k.variables_stay q (variables_after x r vs) ∙ ap (variables_after x r) (sym (k.variables_stay q vs));
  locks = λ t u ks. ap (locks_after y u) (h.locks_stay t ks) ∙ sym (h.locks_stay t (locks_after y u ks));
  first_reads = λ q vs. ap (value_read x) (k.variables_stay q vs);
  second_reads = λ r vs. k.reads_nothing (variables_after x r vs) ∙ sym (k.reads_nothing vs);
  first_waits = λ u ks. h.never_waits (locks_after y u ks) ∙ sym (h.never_waits ks);
  second_waits = λ t ks. ap (waits y) (h.locks_stay t ks);
}

-- two variables, by what is said of variables
variable_variable : {x y : Access} → NoLock x → NoLock y
    → ((r q vs : List ℕ) → variables_after y q (variables_after x r vs) ≡ variables_after x r (variables_after y q vs))
    → ((q vs : List ℕ) → value_read x (variables_after y q vs) ≡ value_read x vs)
    → ((r vs : List ℕ) → value_read y (variables_after x r vs) ≡ value_read y vs) → Independent x y
variable_variable {x} {y} h k variables first second = record {
  variables = variables;
  locks = λ t u ks. k.locks_stay u (locks_after x t ks) ∙ ap (locks_after x t) (sym (k.locks_stay u ks));
  first_reads = first;
  second_reads = second;
  first_waits = λ u ks. ap (waits x) (k.locks_stay u ks);
  second_waits = λ t ks. ap (waits y) (h.locks_stay t ks);
}

-- two locks, by what is said of locks
lock_lock : {x y : Access} → NoVariable x → NoVariable y
    → ((t u : ℕ) (ks : List ℕ) → locks_after y u (locks_after x t ks) ≡ locks_after x t (locks_after y u ks))
    → ((u : ℕ) (ks : List ℕ) → waits x (locks_after y u ks) ≡ waits x ks)
    → ((t : ℕ) (ks : List ℕ) → waits y (locks_after x t ks) ≡ waits y ks) → Independent x y
lock_lock {x} {y} h k locks first second = record {
  variables = λ r q vs. k.variables_stay q (variables_after x r vs) ∙ ap (variables_after x r) (sym (k.variables_stay q vs));
  locks = locks;
  first_reads = λ q vs. ap (value_read x) (k.variables_stay q vs);
  second_reads = λ r vs. ap (value_read y) (h.variables_stay r vs);
  first_waits = first;
  second_waits = second;
}

read_read : (v w : ℕ) → Independent (reads v) (reads w)
unfolding value_read variables_after
read_read v w = variable_variable (read_no_lock v) (read_no_lock w) (λ r q vs. refl) (λ q vs. refl) (λ r vs. refl)

read_write : (v w a : ℕ) → v ≢ w → Independent (reads v) (writes w a)
unfolding value_read variables_after
read_write v w a n =
    variable_variable (read_no_lock v) (write_no_lock w a) (λ r q vs. refl) (λ q vs. get_or-set_other vs w v (get_or q a 0) 0 n) (λ r vs. refl)

write_write : (v a w b : ℕ) → v ≢ w → Independent (writes v a) (writes w b)
unfolding value_read variables_after
write_write v a w b n =
    variable_variable (write_no_lock v a) (write_no_lock w b) (λ r q vs. set_comm vs v w (get_or r a 0) (get_or q b 0) n) (λ q vs. refl) (λ r vs. refl)

-- a TAKE waits as before where another lock has changed
waits_other : (k l x : ℕ) (ks : List ℕ) → k ≢ l → waits (takes k) (set ks l x) ≡ waits (takes k) ks
unfolding waits
waits_other k l x ks n = ap (λ (y : ℕ). not (eqb y 0)) (get_or-set_other ks l k x 0 n)

take-take : (k l : ℕ) → k ≢ l → Independent (takes k) (takes l)
unfolding locks_after
take-take k l n =
    lock_lock (take_no_variable k) (take_no_variable l) (λ t u ks. set_comm ks k l (t + 1) (u + 1) n)
    (λ u ks. waits_other k l (u + 1) ks n) (λ t ks. waits_other l k (t + 1) ks (Ne-symm n))

take-give : (k l : ℕ) → k ≢ l → Independent (takes k) (gives l)
unfolding waits locks_after
take-give k l n =
    lock_lock (take_no_variable k) (give_no_variable l) (λ t u ks. set_comm ks k l (t + 1) 0 n) (λ u ks. waits_other k l 0 ks n) (λ t ks. refl)

give_give : (k l : ℕ) → k ≢ l → Independent (gives k) (gives l)
unfolding waits locks_after
give_give k l n =
    lock_lock (give_no_variable k) (give_no_variable l) (λ t u ks. set_comm ks k l 0 0 n) (λ u ks. refl) (λ t ks. refl)

-- ---- why the others cannot be

-- two accesses that are A do not swap
atomic_swaps : Swaps atomicity.Atomic atomicity.Atomic → ⊥
unfolding at_most
atomic_swaps (right_first h) = h
atomic_swaps (left_second h) = h

-- nor do a GIVE and then a TAKE
left_right_swaps : Swaps atomicity.Left atomicity.Right → ⊥
unfolding at_most
left_right_swaps (right_first h) = h
left_right_swaps (left_second h) = h

module _ (p : Program) {t u : ℕ} (different : t ≢ u) {s s' : LockSet} {ks : List ℕ} (mine : Owns t s ks) (yours : Owns u s' ks) where
  -- no lock is held by both
  exclusive : (l : ℕ) → holds s l ≡ true → holds s' l ≡ true → ⊥
  exclusive l h h' = different (omega (arith, mine.owner l h, yours.owner l h'))

  -- two accesses of one variable, one of them a WRITE, do not swap
  no_race : (v v' : ℕ) (w w' : Bool) → v ≡ v' → (w || w') ≡ true → permits (kind_at p v) t s w ≡ true → (w ≡ true → has_write v (code_of p t) ≡ true)
      → permits (kind_at p v') u s' w' ≡ true → (w' ≡ true → has_write v' (code_of p u) ≡ true)
      → Swaps (access_atomicity p t v w) (access_atomicity p u v' w') → ⊥
  no_race v v' w w' same o h has =
      subst
      (λ (x : ℕ). permits (kind_at p x) u s' w' ≡ true → (w' ≡ true → has_write x (code_of p u) ≡ true)
      → Swaps (access_atomicity p t v w) (access_atomicity p u x w') → ⊥)
      same
      (λ h' has' m.
      atomic_swaps
      (subst₂ Swaps (race_atomic different s s' exclusive p v w w' o h h' has')
      (race_atomic (Ne-symm different) s' s (λ l i j. exclusive l j i) p v w' w (or_comm w' w ∙ o) h' h has) m))

  -- a lock just taken is not taken again
  taken_twice : {k l : ℕ} → k ≡ l → k < length ks → waits (takes l) (locks_after (takes k) t ks) ≡ false → ⊥
  unfolding locks_after
  taken_twice {k} {l} e b f =
      let free : get_or (set ks k (t + 1)) k 0 ≡ 0 = subst (λ (x : ℕ). get_or (set ks k (t + 1)) x 0 ≡ 0) (sym e) (take-free l (set ks k (t + 1)) f) in
      omega (arith, get_or-set_same ks k (t + 1) 0 b)

  -- a free lock is not given
  taken_given : {k l : ℕ} → k ≡ l → waits (takes k) ks ≡ false → holds s' l ≡ true → ⊥
  taken_given {k} {l} e f h =
      let free : get_or ks l 0 ≡ 0 = rw (← e) (take-free k ks f) in
      omega (arith, yours.owner l h)

  -- ---- all pairs

  pub independent : (x y : Access) → Permitted p t s x → Permitted p u s' y → AccessBelow (length ks) (length p.variables) x
      → StandsIn (code_of p t) x → StandsIn (code_of p u) y → waits x ks ≡ false → waits y (locks_after x t ks) ≡ false
      → Swaps (access_mover p t s x) (access_mover p u s' y) → Independent x y
  unfolding access_mover
  independent none y h h' b i i' f f' m = independent_none y
  independent (reads v) none h h' b i i' f f' m = independent_sym (independent_none (reads v))
  independent (reads v) (reads w) h h' b i i' f f' m = read_read v w
  independent (reads v) (writes w c) (read_permitted h) (write_permitted h') b i i' f f' m =
      dite (ℕ_discrete v w) (λ e. absurd (no_race v w false true e refl h (λ z. differ cc) h' (λ z. i' w c refl) m)) (λ n. read_write v w c n)
  independent (reads v) (takes l) h h' b i i' f f' m = variable_lock (read_no_lock v) (take_no_variable l)
  independent (reads v) (gives l) h h' b i i' f f' m = variable_lock (read_no_lock v) (give_no_variable l)
  independent (writes v a) none h h' b i i' f f' m = independent_sym (independent_none (writes v a))
  independent (writes v a) (reads w) (write_permitted h) (read_permitted h') b i i' f f' m =
      dite (ℕ_discrete v w) (λ e. absurd (no_race v w true false e refl h (λ z. i v a refl) h' (λ z. differ cc) m)) (λ n. independent_sym (read_write w v a (Ne-symm n)))
  independent (writes v a) (writes w c) (write_permitted h) (write_permitted h') b i i' f f' m =
      dite (ℕ_discrete v w) (λ e. absurd (no_race v w true true e refl h (λ z. i v a refl) h' (λ z. i' w c refl) m)) (λ n. write_write v a w c n)
  independent (writes v a) (takes l) h h' b i i' f f' m = variable_lock (write_no_lock v a) (take_no_variable l)
  independent (writes v a) (gives l) h h' b i i' f f' m = variable_lock (write_no_lock v a) (give_no_variable l)
  independent (takes k) none h h' b i i' f f' m = independent_sym (independent_none (takes k))
  independent (takes k) (reads w) h h' b i i' f f' m = independent_sym (variable_lock (read_no_lock w) (take_no_variable k))
  independent (takes k) (writes w c) h h' b i i' f f' m = independent_sym (variable_lock (write_no_lock w c) (take_no_variable k))
  independent (takes k) (takes l) h h' b i i' f f' m = dite (ℕ_discrete k l) (λ e. absurd (taken_twice e b f')) (λ n. take-take k l n)
  independent (takes k) (gives l) h (give_permitted h') b i i' f f' m =
      dite (ℕ_discrete k l) (λ e. absurd (taken_given e f h')) (λ n. take-give k l n)
  independent (gives k) none h h' b i i' f f' m = independent_sym (independent_none (gives k))
  independent (gives k) (reads w) h h' b i i' f f' m = independent_sym (variable_lock (read_no_lock w) (give_no_variable k))
  independent (gives k) (writes w c) h h' b i i' f f' m = independent_sym (variable_lock (write_no_lock w c) (give_no_variable k))
  independent (gives k) (takes l) h h' b i i' f f' m =
      dite (ℕ_discrete k l) (λ e. absurd (left_right_swaps m)) (λ n. independent_sym (take-give l k (Ne-symm n)))
  independent (gives k) (gives l) (give_permitted h) (give_permitted h') b i i' f f' m =
      dite (ℕ_discrete k l) (λ e. absurd (exclusive l (subst (λ (x : ℕ). holds s x ≡ true) e h) h')) (λ n. give_give k l n)
