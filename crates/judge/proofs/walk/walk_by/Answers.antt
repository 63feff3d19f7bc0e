-- `walk_by`: the file has the code there. Assumes nothing.
use Rattle.std.proofs.Common.{◌≡◌, ◌∙◌, ◌+◌, ◌*◌, arith, get_or}
use Rattle.judge.proofs.walk.walk_by.Goals.{After-offset_of}
use Rattle.judge.proofs.walk.walk_by.Goals as goal

-- where its first instruction lies
begins : (u : After-offset_of) → u.offset_of.result ≡ get_or u.args.file.now.starts u.args.number 0
begins u =
    let starts = u.args.file.now.starts in
    let first : get_or starts u.args.number 0 + 4 * 0 ≡ get_or starts u.args.number 0 = omega arith in
    u.offset_of.ensures ∙ first

pub walk_section-requires : goal.walk_section-requires
walk_section-requires c =
    let f = c.args.file.now in
    rw (begins ((goal.at.walk_section-requires c).After-offset_of), c.count.ensures)
    (f.located.located c.args.number c.requires.0, c.requires.1, f.located.sound.locks, f.located.sound.variables, c.requires.2, c.requires.3)

pub returns : goal.returns
returns c =
    rw (c.args.file.now.located.located c.args.number c.requires.0).section
    (rw (begins ((goal.at.returns c).After-offset_of), c.count.ensures) at c.walk_section.ensures)
