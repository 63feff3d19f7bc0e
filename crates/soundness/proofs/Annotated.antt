-- Typed code is annotated, whatever prefix it is begun with (`annotated`). Assumes nothing.
use Rattle.std.proofs.Common.{ℕ, arith, subst, length}
use Rattle.atomicity.specs.declared.Atomicity.{Atomicity}
use Rattle.judge.specs.Rules.{Typed}
use Rattle.judge.specs.declared.lock_set.LockSet.{LockSet}
use Rattle.program.specs.Code.{Code}
use Rattle.program.specs.Internal.WellFormed.{flat}
use Rattle.program.specs.Layout.{Program}
use Rattle.soundness.specs.Internal.Access.{AccessesBelow}
use Rattle.soundness.specs.Internal.Flow.{Label, label, labelled, Follows, Leads}
use Rattle.soundness.specs.Internal.Instance.{Annotated}
use Rattle.soundness.specs.Internal.Labelled.{label_at}
use Rattle.soundness.specs.Internal.Prefix.{Prefix, behind}
use Rattle.soundness.proofs.Coverage.{covered_at}
use Rattle.soundness.proofs.Flow.{leads_exactly, begun, flow}
use Rattle.soundness.proofs.Labelled.{label_past, label_begins, moves}
use Rattle.soundness.proofs.Prefix.{inner_behind}

pub annotated : {p : Program} {t : ℕ} {c : Code} {s s' : LockSet} {a : Atomicity} → Typed p t s c s' a
    → AccessesBelow p (flat c) → Annotated p t s (flat c)
annotated {p} {t} {c} {s} {s'} {a} d b =
    let ended : Prefix → Label = λ m. label s' (behind m a) in
    let end : (m : Prefix) → Leads s' (behind m a) (ended m) = λ m. leads_exactly s' (behind m a) in
    record {
      atomicity = a;
      end_locks = s';
      label_from = λ m. label_at (labelled d m) (ended m);
      begun = λ m h. subst (Leads s m) (label_begins (labelled d m) (ended m) (Follows p t) (flow d m (ended m) (end m) h)) (begun d m (ended m) (end m));
      flows = λ m h. moves (labelled d m) (ended m) (Follows p t) (flow d m (ended m) (end m) h);
      past = λ m. label_past (labelled d m) (ended m) (length (flat c)) (omega arith);
      covered = λ m. covered_at d m (ended m) (inner_behind m a);
      accesses = b;
    }
