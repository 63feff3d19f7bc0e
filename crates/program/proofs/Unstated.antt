-- An instruction, a code and a program with its statements taken out (specs/Internal/Unstated.antt): what of them stays. Assumes nothing.
--     stating                                  an instruction is an ATOMIC, or states nothing
--     same_unstated                            what does not look at what an ATOMIC states stays
--     form_unstated, access_unstated           ... its form and its access
--     plain_unstated                           a plain instruction states nothing
--     nested_unstated                          nesting stays
--     size_unstated, writes_unstated, structured_unstated
--                                              the structured code is that of before, its statements taken out
--     written_unstated                         the threads that write a variable stay
--     code_unstated                            a code of a program, by its number
use Prim.Native.Nat.{ℕ, suc}
use mathlib.Core.Path.{◌≡◌, refl, sym, ap, ◌∙◌}
use mathlib.Core.List.{List, [], ◌∷◌, map, map-append}
use lib.ListN.{get_or-map}
use Rattle.program.specs.Code.{Code, done, plain, choice, loop, block, size, structured}
use Rattle.program.specs.Layout.{Program, CodeSection, code_of}
use Rattle.program.specs.Nesting.{OpenAfter, broken, opened, nest, go_on, first_broken}
use Rattle.program.specs.View.{View, Plain, access_of, form_of}
use Rattle.program.specs.Writers.{has_write, written_from, written_by_other}
use Rattle.program.specs.Internal.Sections.{no_section}
use Rattle.program.specs.Internal.Seen.{Seen, seen_local, seen_read, seen_write, seen_take, seen_give, seen_if, seen_else, seen_while, seen_again, seen_atomic, seen_end, seen}
use Rattle.program.specs.Internal.Unstated.{unstated_as, unstated, unstated_code, unstated_section, unstated_program, Stating, nothing, something}
use Rattle.program.specs.Internal.WellFormed.{flat, WellFormed, depth, Writes}
use Rattle.std.specs.Prelude.{Option, None}
use Rattle.program.specs.declared.instruction.Instruction.{Instruction}
use Rattle.program.specs.declared.instruction.Instruction.TheVariants.{Read, Write, Take, Give, If, Else, While, Again, Atomic, End}
use Rattle.program.specs.declared.nesting.Entry.{Entry}
use Rattle.program.proofs.Differ.{differ}
use Rattle.program.proofs.Structure.{nested_flat, writes_structured}

-- ---- an instruction

pub stating : (i : Instruction) → Stating i
unfolding unstated
stating i = cases i (seen i)
  where
    cases : (i : Instruction) → Seen i → Stating i
    cases i (seen_local rs is_own) = nothing (ap (λ (v : View). unstated_as v i) is_own)
    cases (Read a v) seen_read = nothing refl
    cases (Write a v) seen_write = nothing refl
    cases (Take k) seen_take = nothing refl
    cases (Give k) seen_give = nothing refl
    cases (If a n) seen_if = nothing refl
    cases (Else n) seen_else = nothing refl
    cases (While a n) seen_while = nothing refl
    cases (Again n) seen_again = nothing refl
    cases (Atomic a n) seen_atomic = something
    cases End seen_end = nothing refl

-- what does not look at what an ATOMIC states stays
pub same_unstated : {A : Type 0} (f : Instruction → A) → ((a n : ℕ) → f (Atomic 0 n) ≡ f (Atomic a n)) → (i : Instruction) → f (unstated i) ≡ f i
unfolding unstated
same_unstated f blind i = cases i (stating i)
  where
    cases : (i : Instruction) → Stating i → f (unstated i) ≡ f i
    cases i (nothing e) = ap f e
    cases _ (something {a} {n}) = blind a n

pub form_unstated : (i : Instruction) → form_of (unstated i) ≡ form_of i
unfolding form_of
form_unstated = same_unstated form_of (λ a n. refl)

pub access_unstated : (i : Instruction) → access_of (unstated i) ≡ access_of i
unfolding access_of
access_unstated = same_unstated access_of (λ a n. refl)

plain_unstated : (i : Instruction) → form_of i ≡ Plain → unstated i ≡ i
unfolding form_of
plain_unstated i = cases i (stating i)
  where
    cases : (i : Instruction) → Stating i → form_of i ≡ Plain → unstated i ≡ i
    cases i (nothing e) f = e
    cases _ something f = differ cc

-- ---- nesting

go_on_alike : (p : ℕ) (x : OpenAfter) (f g : List Entry → Option ℕ) → ((es : List Entry) → f es ≡ g es) → go_on p x f ≡ go_on p x g
go_on_alike p broken f g h = refl
go_on_alike p (opened es) f g h = h es

pub nested_unstated : (p : ℕ) (is : List Instruction) (es : List Entry) → first_broken p (map unstated is) es ≡ first_broken p is es
unfolding first_broken
nested_unstated p [] es = refl
nested_unstated p (i ∷ is) es =
    rw (form_unstated i) (go_on_alike p (nest p (form_of i) es) (first_broken (suc p) (map unstated is)) (first_broken (suc p) is) (nested_unstated (suc p) is))

-- ---- structured code

pub size_unstated : (c : Code) → size (unstated_code c) ≡ size c
unfolding unstated_code size
size_unstated done = refl
size_unstated (plain i c) = rw (size_unstated c)
size_unstated (choice r a b c) = rw (size_unstated a, size_unstated b, size_unstated c)
size_unstated (loop r a c) = rw (size_unstated a, size_unstated c)
size_unstated (block stated a c) = rw (size_unstated a, size_unstated c)

depth_unstated : (c : Code) → depth (unstated_code c) ≡ depth c
unfolding unstated_code depth
depth_unstated done = refl
depth_unstated (plain i c) = depth_unstated c
depth_unstated (choice r a b c) = rw (depth_unstated a, depth_unstated b, depth_unstated c)
depth_unstated (loop r a c) = rw (depth_unstated a, depth_unstated c)
depth_unstated (block stated a c) = rw (depth_unstated a, depth_unstated c)

formed_unstated : (c : Code) → WellFormed c → WellFormed (unstated_code c)
unfolding unstated_code WellFormed
formed_unstated done w = tt
formed_unstated (plain i c) w = (w.0, formed_unstated c w.1)
formed_unstated (choice r a b c) w = (formed_unstated a w.0, formed_unstated b w.1, formed_unstated c w.2)
formed_unstated (loop r a c) w = (formed_unstated a w.0, formed_unstated c w.1)
formed_unstated (block stated a c) w = (formed_unstated a w.0, formed_unstated c w.1)

flat_unstated : (c : Code) → WellFormed c → flat (unstated_code c) ≡ map unstated (flat c)
unfolding unstated_code flat WellFormed unstated
flat_unstated done w = refl
flat_unstated (plain i c) w = rw (flat_unstated c w.1, plain_unstated i w.0)
flat_unstated (choice r a b c) w =
    simp (map-append unstated, size_unstated a, size_unstated b, flat_unstated a w.0, flat_unstated b w.1, flat_unstated c w.2)
flat_unstated (loop r a c) w = simp (map-append unstated, size_unstated a, flat_unstated a w.0, flat_unstated c w.1)
flat_unstated (block stated a c) w = simp (map-append unstated, size_unstated a, flat_unstated a w.0, flat_unstated c w.1)

writes_unstated : {is : List Instruction} {c : Code} → Writes is c → Writes (map unstated is) (unstated_code c)
writes_unstated {c = c} w = record {
  flat_is = flat_unstated c w.well_formed ∙ ap (map unstated) w.flat_is;
  well_formed = formed_unstated c w.well_formed;
  shallow = rw (depth_unstated c) w.shallow;
}

pub structured_unstated : (is : List Instruction) → first_broken 0 is [] ≡ None → structured (map unstated is) ≡ unstated_code (structured is)
structured_unstated is h = sym (writes_structured (writes_unstated (nested_flat is h)))

-- ---- a program

has_write_unstated : (v : ℕ) (is : List Instruction) → has_write v (map unstated is) ≡ has_write v is
unfolding has_write
has_write_unstated v [] = refl
has_write_unstated v (i ∷ is) = rw (access_unstated i, has_write_unstated v is)

written_from_unstated : (c v n : ℕ) (xs : List CodeSection) → written_from c v n (map unstated_section xs) ≡ written_from c v n xs
unfolding written_from
written_from_unstated c v n [] = refl
written_from_unstated c v n (x ∷ xs) = rw (has_write_unstated v x.code, written_from_unstated c v (suc n) xs)

pub written_unstated : (p : Program) (c v : ℕ) → written_by_other (unstated_program p) c v ≡ written_by_other p c v
unfolding written_by_other unstated_program
written_unstated p c v = written_from_unstated c v 0 p.codes

pub code_unstated : (p : Program) (c : ℕ) → code_of (unstated_program p) c ≡ map unstated (code_of p c)
unfolding code_of unstated_program
code_unstated p c = ap (λ (x : CodeSection). x.code) (get_or-map unstated_section p.codes c no_section)
