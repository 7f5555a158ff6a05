use Rattle.std.proofs.Common.{◌≡◌, ◌↔◌, ◌<◌, ℕ, IsTrue, Bool, List, length, get_or, sym, subst, arith}
use Rattle.std.proofs.lemmas.Option.{slice_get-get_or}
use Rattle.elf_module.specs.Elf.{Elf}
use Rattle.module_parts.specs.declared.entry.Entry.{Entry}
use Rattle.module_image.specs.declared.text.Text.{Text}
use Rattle.module_image.specs.First.{HasNone}
use Rattle.module_names.specs.Entries.{entries, length_at}
use Rattle.module_image.specs.Refusals.{HasBadLength, IsBadLength, IsOutside, IsOutsideOf, Passes, past_site_outside}
use Rattle.module_image.specs.Text.{IsText}
use Rattle.module_image.proofs.Firsts.{below_tested, first_tested, none_at_end}
use Rattle.module_image.proofs.Passed.{none_outside, passes-length, refused-length}
use Rattle.module_image.proofs.rows.sites_length.Goals as goal

-- an entry of the list is in the text
inside : (elf : Elf) (text : Text) (list : List Entry) (i : ℕ) (d : Entry) → IsText elf text → list ≡ entries elf → Passes elf past_site_outside → i < length list
    → IsOutsideOf text.base (length text.bytes.now) (get_or list i d) → ⊥
inside elf text list i d is list_is passes below out =
    let none : HasNone (IsOutside elf) list = subst (λ (es : List Entry). HasNone (IsOutside elf) es) (sym list_is) (none_outside elf passes) in
    none i (get_or list i d) (slice_get-get_or list i d below) (rw (← is.same_base, ← is.same_bytes) out)

-- what was tried of the text that was found is tried of the file's
of_file : (elf : Elf) (text : Text) (e : Entry) (r : Bool) → IsText elf text → (IsTrue r ↔ IsBadLength (length_at text.base text.bytes.now e.at) e.kind) → (IsTrue r ↔ HasBadLength elf e)
of_file elf text e r is tried = rw (← is.same_base, ← is.same_bytes) tried

pub has_bad_length-requires : goal.has_bad_length-requires
has_bad_length-requires c = inside c.args.file.now c.args.text.now c.args.list.now c.loop-entry.entry-index _ c.requires.text c.requires.list c.requires.passed (omega arith)

pub returns-then-has_bad_length : goal.returns-then-has_bad_length
returns-then-has_bad_length c =
    refused-length c.args.file.now c.args.list.now _ c.requires.list c.requires.passed
    (first_tested (HasBadLength c.args.file.now) c.args.list.now c.loop-entry.entry-index _ c.has_bad_length.result (omega arith) c.loop-entry.invariant
    (of_file c.args.file.now c.args.text.now _ c.has_bad_length.result c.requires.text c.has_bad_length.ensures) c.if-has_bad_length.true)

pub loop-entry-preserved : goal.loop-entry-preserved
loop-entry-preserved c =
    below_tested (HasBadLength c.args.file.now) c.args.list.now c.loop-entry.entry-index _ c.has_bad_length.result c.loop-entry.invariant
    (of_file c.args.file.now c.args.text.now _ c.has_bad_length.result c.requires.text c.has_bad_length.ensures) c.if-has_bad_length.false

pub returns : goal.returns
returns c =
    passes-length c.args.file.now c.args.list.now c.requires.list c.requires.passed
    (none_at_end (HasBadLength c.args.file.now) c.args.list.now c.loop-entry.entry-index c.loop-entry.invariant (omega arith))
