-- `raw_at` meets its contract: the digits of the first bytes are laid. Assumes nothing.
use Rattle.std.proofs.Common.{◌≡◌, refl, sym, ap, ◌∙◌, ℕ, ◌+◌, ◌-◌, ◌<◌, List, [], ◌∷◌, ◌++◌, get_or, take, drop, append_assoc, add-one, get_or-take, get_or-drop, length-take, length-drop, arith}
use Rattle.printout.specs.Text.{hex}
use Rattle.printout.specs.Line.{raw}
use Rattle.printout.proofs.Digits.{raw_more}
use Rattle.printout.proofs.Stored.{laid_none, laid_more, laid_same, word_ended}
use Rattle.printout.proofs.placed.raw_at.Goals as goal

pub loop-byte-init : goal.loop-byte-init
unfolding raw
loop-byte-init c = record { laid = laid_none c.args.at c.args.out.now; next = omega arith }

pub loop-byte-preserved : goal.loop-byte-preserved
unfolding hex
loop-byte-preserved c =
    let a = c.args in
    let l = c.loop-byte in
    let s : List ℕ = a.file.now in
    let high = c.hex_digit in
    let low = c.hex_digit-in-loop-byte in
    let inside : l.byte-index < a.n = omega (arith, c.loop-byte-test.true, length-take (a.from + a.n - a.from) (drop a.from s), length-drop a.from s) in
    let byte : get_or (take (a.from + a.n - a.from) (drop a.from s)) l.byte-index 0 ≡ get_or s (a.from + l.byte-index) 0 = get_or-take (a.from + a.n - a.from) (drop a.from s) l.byte-index 0 (omega arith) ∙ get_or-drop a.from s l.byte-index 0 in
    let digits : high.result ∷ low.result ∷ [] ≡ hex (get_or s (a.from + l.byte-index) 0) = rw (high.ensures, low.ensures, byte) refl in
    let more : (raw s a.from l.byte-index ++ high.result ∷ []) ++ low.result ∷ [] ≡ raw s a.from (l.byte-index + 1) =
    append_assoc (raw s a.from l.byte-index) (high.result ∷ []) (low.result ∷ [])
    ∙ ap (λ (z : List ℕ). raw s a.from l.byte-index ++ z) digits
    ∙ sym (ap (raw s a.from) (add-one l.byte-index) ∙ raw_more s a.from l.byte-index (omega arith)) in
    record { laid = laid_same (laid_more low.result (laid_more high.result l.invariant.laid)) more (omega arith); next = omega (arith, l.invariant.next) }

pub returns-clause-laid_word : goal.returns-clause-laid_word
returns-clause-laid_word c =
    let a = c.args in
    let l = c.loop-byte in
    let e : l.byte-index ≡ a.n = omega (arith, c.loop-byte-test.false, length-take (a.from + a.n - a.from) (drop a.from a.file.now), length-drop a.from a.file.now) in
    word_ended a.end (laid_same l.invariant.laid (ap (raw a.file.now a.from) e) refl)
