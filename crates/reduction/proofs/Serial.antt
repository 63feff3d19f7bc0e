-- Every trace to where everybody is outside can be serialized (`serialize`), and a serial trace from where everybody is
-- outside is uninterrupted (`serial_uninterrupted`).
--
-- In order: what a rest says of its moves and of the other threads; how a right mover sinks behind another thread's rest, and
-- how a rest after the commit is pulled in front of another thread's move or rest; the same over a serial trace; one move at
-- a time, from the back of the trace to its front.
-- Assumes nothing.
use Rattle.std.proofs.Common.{ℕ, arith, ◌≡◌, refl, sym, ◌∙◌, subst, ◌≢◌, List, [], ◌∷◌, ◌++◌}
use Rattle.std.proofs.Math.Decide.{ℕ_discrete}
use Rattle.std.proofs.Math.Logic.{Ne-symm, dite}
use Rattle.reduction.specs.Sequence.{All, all_nil, all_cons}
use Rattle.reduction.specs.Moves.{Moves, Movers, Status, outside, before_commit, after_commit, Unmoved}
use Rattle.reduction.specs.Reduction.{Trace, trace_nil, trace_cons, Quiescent, Uninterrupted, alone_nil, alone_cons, Ordered}
use Rattle.reduction.specs.Serial.{Permuted, unswapped, prep, trans, Rest, rest_nil, rest_cons, Serial, serial_nil, serial_cons, MadeSerial}
use Rattle.reduction.proofs.Sequence.{all_head, pairs_head, all_behind, all_before, pairs_behind, pairs_before}
use Rattle.reduction.proofs.Permuted.{prep_all, swap_behind, permuted_order}

-- ---- values that differ

≢_via : {A : Type 0} {x y z : A} → x ≡ y → y ≢ z → x ≢ z
≢_via e n h = n (sym e ∙ h)

differ : ◌≡◌ {A = ℕ} 0 1 → ⊥
differ e = omega arith

before≢outside : before_commit ≢ outside
before≢outside e = differ cc

after≢outside : after_commit ≢ outside
after≢outside e = differ cc

after≢before : after_commit ≢ before_commit
after≢before e = differ cc

is_after : {σ : Status} → σ ≢ outside → σ ≢ before_commit → σ ≡ after_commit
is_after {σ = outside} o b = absurd (o refl)
is_after {σ = before_commit} o b = absurd (b refl)
is_after {σ = after_commit} o b = refl

module _ (M : Moves) (L : Movers M) where
  open M use {State, Move, Block, thread, block, step, status, block_at}
  open L use {others, starts_in, ends_in, committed, right_mover, left_mover}

  -- ---- a rest

  unmoved_trans : {t : ℕ} {s u v : State} → Unmoved M t s u → Unmoved M t u v → Unmoved M t s v
  unmoved_trans p q = (q.0 ∙ p.0, q.1 ∙ p.1)

  -- it leaves the other threads where they stand
  rest_others : {t r : ℕ} {u v : State} {c : List Move} → Rest M r u c v → t ≢ r → Unmoved M t u v
  rest_others (rest_nil o) n = (refl, refl)
  rest_others (rest_cons i g q) n = unmoved_trans (others g n) (rest_others q n)

  -- its moves are its thread's
  rest_thread : (P : ℕ → Type 0) {t : ℕ} {u v : State} {c : List Move} → P t → Rest M t u c v → All (λ y. P (thread y)) c
  rest_thread P p (rest_nil o) = all_nil
  rest_thread P p (rest_cons i g q) = all_cons p (rest_thread P p q)

  -- and belong to the block that the thread stands in
  rest_block : (P : Block → Type 0) {t : ℕ} {u v : State} {c : List Move} →
      (status u t ≢ outside → P (block_at u t)) → Rest M t u c v → All (λ y. P (block y)) c
  rest_block P e (rest_nil o) = all_nil
  rest_block P e (rest_cons i g q) =
      let p = subst P (sym (starts_in g i)) (e i) in
      all_cons p (rest_block P (λ j. subst P (sym (ends_in g j)) p) q)

  -- the next move of a thread that is inside, and the rest, are its rest
  rest_join : {t : ℕ} {u k v : State} {x : Move} {c : List Move} →
      t ≡ thread x → status u t ≢ outside → step u x k → Rest M (thread x) k c v → Rest M t u (x ∷ c) v × (block x ≡ block_at u t)
  rest_join {u} {v} {x} {c} e i g q =
      subst (λ t. status u t ≢ outside → Rest M t u (x ∷ c) v × (block x ≡ block_at u t)) (sym e) (λ j. (rest_cons j g q, starts_in g j)) i

  -- ---- swaps with a rest

  -- a right mover sinks behind another thread's rest
  sink_rest : {t : ℕ} {s u v : State} {m : Move} {c : List Move} →
      step s m u → status u (thread m) ≡ before_commit → thread m ≢ t → Rest M t u c v → (w : State) × Rest M t s c w × step w m v
  sink_rest h b n (rest_nil o) = (_, rest_nil (sym (others h (Ne-symm n)).0 ∙ o), h)
  sink_rest h b n (rest_cons i g q) =
      let (_, g', h') = right_mover h g n b in
      let (w, q', h'') = sink_rest h' ((others g n).0 ∙ b) n q in
      (w, rest_cons (≢_via (sym (others h (Ne-symm n)).0) i) g' q', h'')

  -- a rest after the commit is pulled in front of another thread's move
  pull_move : {t : ℕ} {u v w : State} {x : Move} {c : List Move} →
      step u x v → t ≢ thread x → status u t ≢ before_commit → Rest M t v c w → (k : State) × Rest M t u c k × step k x w
  pull_move h n b (rest_nil o) = (_, rest_nil (sym (others h n).0 ∙ o), h)
  pull_move h n b (rest_cons i g q) =
      let j = ≢_via (sym (others h n).0) i in
      let (_, g', h') = left_mover h g n (is_after j b) in
      let (k, q', h'') = pull_move h' n (committed g' (is_after j b)) q in
      (k, rest_cons j g' q', h'')

  -- and in front of another thread's rest
  pull_rest : {t r : ℕ} {u v w : State} {c d : List Move} →
      Rest M r u d v → t ≢ r → status u t ≢ before_commit → Rest M t v c w → (k : State) × Rest M t u c k × Rest M r k d w
  pull_rest (rest_nil o) n b q = (_, q, rest_nil ((rest_others q (Ne-symm n)).0 ∙ o))
  pull_rest (rest_cons i g p) n b q =
      let (_, q', p') = pull_rest p n (≢_via (others g n).0 b) q in
      let (k, q'', g') = pull_move g n b q' in
      (k, q'', rest_cons (≢_via (rest_others q'' (Ne-symm n)).0 i) g' p')

  -- the same of the lists: the moves d get behind another thread's rest c
  swap_behind_rest : {R : Block → Block → Type 0} {t : ℕ} {u v : State} {c d : List Move} (l : List Move) →
      Rest M t u c v → All (λ z. t ≢ thread z) d → All (λ z. R (block_at u t) (block z)) d → Permuted M R (d ++ (c ++ l)) (c ++ (d ++ l))
  swap_behind_rest l q all_nil all_nil = unswapped
  swap_behind_rest {R} l q (all_cons {x} {l = d} n ns) (all_cons r rs) =
      trans (prep (swap_behind_rest l q ns rs)) (swap_behind M (d ++ l) (rest_thread (λ t. thread x ≢ t) (Ne-symm n) q) (rest_block (λ b. R b (block x)) (λ i. r) q))

  -- ---- a serial trace

  -- a thread that stands after its commit is pulled to the front, with all of its rest
  pull : {t : ℕ} {u v : State} {l : List Move} → status u t ≡ after_commit → status v t ≡ outside → Serial M u l v →
      (c k : List Move) × (w : State) × Rest M t u c w × Serial M w k v
      × ((R : Block → Block → Type 0) → All (λ z. R (block_at u t) (block z)) l → Permuted M R l (c ++ k))
  pull a o serial_nil = absurd (≢_via a after≢outside o)
  pull {t} a o (serial_cons {m = x} {c = d} {l} g p q) =
      dite (ℕ_discrete t (thread x))
      (λ e. (x ∷ d, l, _, (rest_join e (≢_via a after≢outside) g p).0, q, λ R h. unswapped))
      (λ n.
      let b = ≢_via a after≢before in
      let kept = unmoved_trans (others g n) (rest_others p n) in
      let (c, k, _, r, q', f) = pull (kept.0 ∙ a) o q in
      let (_, r', p') = pull_rest p n (≢_via (others g n).0 b) r in
      let (w, r'', g') = pull_move g n b r' in (
        c,
        x ∷ (d ++ k),
        w,
        r'',
        serial_cons g' p' q',
        λ R h. trans
            (prep_all M (x ∷ d) (f R (subst (λ b. All (λ z. R b (block z)) l) (sym kept.1) (all_behind (x ∷ d) h))))
            (swap_behind_rest k r'' (all_cons n (rest_thread (λ r. t ≢ r) n p)) (all_before (x ∷ d) l h)),
      ))

  -- a move that ends before its commit sinks right in front of its thread's next move, which is of the same block
  sink : {s u v : State} {m : Move} {l : List Move} →
      step s m u → status u (thread m) ≡ before_commit → status v (thread m) ≡ outside → Serial M u l v →
      (k : List Move) × Serial M s k v × ((P : Block → Type 0) → All (λ z. P (block z)) l → P (block m))
      × ((R : Block → Block → Type 0) → Ordered M R l → Permuted M R (m ∷ l) k)
  sink h b o serial_nil = absurd (≢_via b before≢outside o)
  sink {s} {u = u} {m} h b o (serial_cons {s = s'} {u = u'} {v = v'} {m = x} {c = d} {l} g p q) =
      dite (ℕ_discrete (thread m) (thread x))
      (λ e.
      let i = ≢_via b before≢outside in
      let (r, f) = rest_join e i g p in
      (m ∷ x ∷ (d ++ l), serial_cons h r q, λ P a. subst P (f ∙ ends_in h i) (all_head a), λ R a. unswapped))
      (λ n.
      let (_, g', h') = right_mover h g n b in
      let (_, p', h'') = sink_rest h' ((others g n).0 ∙ b) n p in
      let (k, q', f, r) = sink {s = (sink_rest {t = thread x} {s = (right_mover h g n b).0} {u = u'} {m = m} (right_mover h g n b).2 ((others g n).0 ∙ b) n p).0} h'' ((rest_others p n).0 ∙ (others g n).0 ∙ b) o q in (
        x ∷ (d ++ k),
        serial_cons g' p' q',
        λ P a. f P (all_behind (x ∷ d) a),
        λ R a. trans
            (swap_behind M l (all_cons n (rest_thread (λ t. thread m ≢ t) n p)) (pairs_before (x ∷ d) (λ y. f (λ b. R (block y) b)) a))
            (prep_all M (x ∷ d) (r R (pairs_behind (x ∷ d) a))),
      ))

  -- ---- one move at a time

  -- in front of a serial trace, the move sinks or pulls the rest of its thread to itself, or is alone
  insert : {s u v : State} {m : Move} {l : List Move} → step s m u → Serial M u l v → Quiescent M v → MadeSerial M s (m ∷ l) v
  insert {s} {u} {v} {m} {l} h q o = by_status (status u (thread m)) refl
    where
      by_status : (σ : Status) → status u (thread m) ≡ σ → MadeSerial M s (m ∷ l) v
      by_status outside e = (m ∷ l, serial_cons h (rest_nil e) q, λ R a. unswapped)
      by_status before_commit e =
          let (k, q', _, f) = sink h e (o (thread m)) q in
          (k, q', λ R a. f R (pairs_behind (m ∷ []) a))
      by_status after_commit e =
          let (c, k, _, r, q', f) = pull e (o (thread m)) q in
          let i = ends_in h (≢_via e after≢outside) in
          (m ∷ (c ++ k), serial_cons h r q', λ R a. prep (f R (subst (λ b. All (λ z. R b (block z)) l) (sym i) (pairs_head a))))

  pub serialize : {s v : State} {l : List Move} → Trace M s l v → Quiescent M v → MadeSerial M s l v
  serialize trace_nil o = ([], serial_nil, λ R a. unswapped)
  serialize (trace_cons {m} h r) o =
      let (_, q, f) = serialize r o in
      let (k, q', f') = insert h q o in
      (k, q', λ R a. let p = prep (f R (pairs_behind (m ∷ []) a)) in trans p (f' R (permuted_order M p a)))

  -- ---- serial and uninterrupted

  -- during a rest that begins with everybody else outside nobody else gets inside
  rest_alone : {t : ℕ} {u v w : State} {c : List Move} (l : List Move) →
      Rest M t u c v → ((r : ℕ) → r ≢ t → status u r ≡ outside) → (Quiescent M v → Uninterrupted M v l w) → Uninterrupted M u (c ++ l) w
  rest_alone {t} {u} l (rest_nil o) a f = f (λ r. dite (ℕ_discrete r t) (λ e. subst (λ r. status u r ≡ outside) (sym e) o) (a r))
  rest_alone l (rest_cons i g q) a f = alone_cons a g (rest_alone l q (λ r n. (others g n).0 ∙ a r n) f)

  pub serial_uninterrupted : {s v : State} {l : List Move} → Serial M s l v → Quiescent M s → Uninterrupted M s l v
  serial_uninterrupted serial_nil o = alone_nil
  serial_uninterrupted (serial_cons {l} g p q) o =
      alone_cons (λ t n. o t) g (rest_alone l p (λ t n. (others g n).0 ∙ o t) (λ o'. serial_uninterrupted q o'))
