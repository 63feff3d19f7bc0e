-- `walk_section`: the scan from this place on is the whole one. Assumes nothing.
use Rattle.judge.specs.Internal.Scan.{seen}
use Rattle.judge.proofs.ScanLoop.{Scanning}
use Rattle.judge.proofs.walk.walk_section.Given as goal

abbrev pub invariant-loop-p : goal.invariant-loop-p
invariant-loop-p l =
    let c = l.code in
    Scanning l.bytes l.fn.layout c.number c.start c.count c.first l.initial.report (seen l.walk l.report) l.p
