-- `main`: the text lies within its array. Assumes nothing.
use Rattle.std.proofs.Common.{sym, length-take-le}
use Rattle.bench.proofs.Lines.{laid_within}
use Rattle.bench.proofs.main.Goals as goal

pub slice_bounds-text-end : goal.slice_bounds-text-end
slice_bounds-text-end c = laid_within _ _ c.output-m.ensures.result c.output-m.ensures.buffer

pub slice_bounds-write_all-end : goal.slice_bounds-write_all-end
slice_bounds-write_all-end c =
    let o = c.output-m in
    sym (length-take-le o.result o.new.text (laid_within _ _ o.ensures.result o.ensures.buffer))
