-- `write` meets its contract: the words with their blanks are the line. Assumes nothing.
use Rattle.std.proofs.Common.{◌≡◌, refl, ap, ◌∙◌, ◌∷◌, length}
use Rattle.printout.specs.Text.{line_of}
use Rattle.printout.proofs.Said.{line_of_blanked}
use Rattle.printout.proofs.text.LineText.write.Goals as goal

pub returns : goal.returns
returns c word words e =
    let line : c.push.new.self.items ≡ line_of (word ∷ words) = rw (c.push.ensures.items, c.pop.ensures.rest, e) (line_of_blanked word words) in
    let size : c.len-n.result ≡ length (line_of (word ∷ words)) = c.len-n.ensures.value ∙ ap length line in
    record { counted = size; bytes = rw (c.copy_from_slice.ensures.after, c.as_slice.ensures.value, line, size) refl; short = c.len-n.ensures.fits }
