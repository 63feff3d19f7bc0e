-- `walk_codes`: the scan over the codes from here on is the whole one. Assumes nothing.
use Rattle.judge.proofs.CodeLoop.{Walking}
use Rattle.judge.proofs.judging.walk_codes.Given as goal

abbrev pub invariant-loop-code : goal.invariant-loop-code
invariant-loop-code l = Walking l.file.bytes.now l.file.layout l.file.starts l.file.counts l.file.located l.initial.report l.report l.code l.first
