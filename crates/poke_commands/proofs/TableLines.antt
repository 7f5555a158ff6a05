-- The lines of a table are printed entry by entry.
use Rattle.std.proofs.Common.{◌≡◌, ◌<◌, ◌+◌, ◌-◌, ◌*◌, ℕ, zero, suc, List, [], ◌∷◌, ◌++◌, Ok, Err, Option, Some, sym, ap, ◌∙◌, subst, arith, append-nil}
use Rattle.std.specs.List.{flat_map, range_with_len}
use Rattle.std.proofs.lemmas.Grind.{flat_map-append}
use Rattle.poke_base.specs.declared.host.WriteFail.{WriteFail}
use Rattle.poke_base.specs.Host.{Outside, Prints}
use Rattle.poke_base.proofs.Outsides.{Prints-more, Prints-part}
use Rattle.elf_module.specs.Elf.{SectionRecord}
use Rattle.elf_module.specs.declared.records.Section.{Section}
use Rattle.site_tables.specs.declared.entries.TableKind.{TableKind}
use Rattle.site_tables.specs.Entry.{entry_size}
use Rattle.site_tables.specs.declared.tables.Table.{Table}
use Rattle.site_tables.specs.Found.{IsWhole, section_in}
use Rattle.site_tables.proofs.Wholes.{section_entries, section_there}
use Rattle.poke_commands.specs.Module.{entry_line, table_text}

-- numbers counted up to a number and on from there
range-append : (a m n : ℕ) → range_with_len a (m + n) ≡ range_with_len a m ++ range_with_len (a + m) n
range-append a zero n =
    let start : a ≡ a + 0 = omega arith in
    let none : 0 + n ≡ n = omega arith in
    ap (λ (k : ℕ). range_with_len a k) none ∙ ap (λ (b : ℕ). range_with_len b n) start
range-append a (suc m) n =
    let more : suc m + n ≡ suc (m + n) = omega arith in
    let next : a + 1 + m ≡ a + suc m = omega arith in
    ap (λ (k : ℕ). range_with_len a k) more ∙ ap (λ (xs : List ℕ). a ∷ xs) (range-append (a + 1) m n) ∙ ap (λ (b : ℕ). (a ∷ range_with_len (a + 1) m) ++ range_with_len b n) next

-- one number more
range-more : (n : ℕ) → range_with_len 0 (n + 1) ≡ range_with_len 0 n ++ (n ∷ [])
range-more n =
    let from : 0 + n ≡ n = omega arith in
    range-append 0 n 1 ∙ ap (λ (b : ℕ). range_with_len 0 n ++ (b ∷ [])) from

-- the numbers before, at and after one of them
range-split : (n i : ℕ) → i < n → range_with_len 0 n ≡ (range_with_len 0 i ++ (i ∷ [])) ++ range_with_len (i + 1) (n - (i + 1))
range-split n i below =
    let parts : n ≡ i + 1 + (n - (i + 1)) = omega arith in
    let from : 0 + (i + 1) ≡ i + 1 = omega arith in
    ap (λ (k : ℕ). range_with_len 0 k) parts ∙ range-append 0 (i + 1) (n - (i + 1))
    ∙ ap (λ (xs : List ℕ). xs ++ range_with_len (0 + (i + 1)) (n - (i + 1))) (range-more i)
    ∙ ap (λ (b : ℕ). (range_with_len 0 i ++ (i ∷ [])) ++ range_with_len b (n - (i + 1))) from

-- lines of the first entries, and of one more
pub lines-more : (line : ℕ → List ℕ) (i : ℕ) → flat_map line (range_with_len 0 i) ++ line i ≡ flat_map line (range_with_len 0 (i + 1))
lines-more line i =
    sym (
    ap (λ (xs : List ℕ). flat_map line xs) (range-more i) ∙ flat_map-append line (range_with_len 0 i) (i ∷ [])
    ∙ ap (λ (xs : List ℕ). flat_map line (range_with_len 0 i) ++ xs) (append-nil (line i))
    )

-- lines of the first entries, of one more, and of those after
lines-split : (line : ℕ → List ℕ) (n i : ℕ) → i < n → (flat_map line (range_with_len 0 i) ++ line i) ++ flat_map line (range_with_len (i + 1) (n - (i + 1))) ≡ flat_map line (range_with_len 0 n)
lines-split line n i below =
    sym (
    ap (λ (xs : List ℕ). flat_map line xs) (range-split n i below)
    ∙ flat_map-append line (range_with_len 0 i ++ (i ∷ [])) (range_with_len (i + 1) (n - (i + 1)))
    ∙ ap (λ (xs : List ℕ). xs ++ flat_map line (range_with_len (i + 1) (n - (i + 1)))) (ap (λ (xs : List ℕ). flat_map line xs) (sym (range-more i)) ∙ sym (lines-more line i))
    )

-- one line more was printed
pub line_printed : (line : ℕ → List ℕ) (i : ℕ) (text : List ℕ) (old middle new : Outside) → Prints {T = Unit {0}} {E = WriteFail} old middle (flat_map line (range_with_len 0 i)) (Ok tt) → text ≡ line i → Prints {T = Unit {0}} {E = WriteFail} middle new text (Ok tt) → Prints {T = Unit {0}} {E = WriteFail} old new (flat_map line (range_with_len 0 (i + 1))) (Ok tt)
line_printed line i text old middle new before is prints =
    subst (λ (xs : List ℕ). Prints {T = Unit {0}} {E = WriteFail} old new xs (Ok tt)) (ap (λ (xs : List ℕ). flat_map line (range_with_len 0 i) ++ xs) is ∙ lines-more line i)
    (Prints-more old middle new (flat_map line (range_with_len 0 i)) text tt (Ok tt) before prints)

-- a line failed
pub line_failed : (line : ℕ → List ℕ) (n i : ℕ) (text : List ℕ) (why : WriteFail) (old middle new : Outside) → i < n → Prints {T = Unit {0}} {E = WriteFail} old middle (flat_map line (range_with_len 0 i)) (Ok tt) → text ≡ line i → Prints {T = Unit {0}} {E = WriteFail} middle new text (Err why) → Prints {T = Unit {0}} {E = WriteFail} old new (flat_map line (range_with_len 0 n)) (Err why)
line_failed line n i text why old middle new below before is prints =
    subst (λ (xs : List ℕ). Prints {T = Unit {0}} {E = WriteFail} old new xs (Err why))
    (ap (λ (xs : List ℕ). (flat_map line (range_with_len 0 i) ++ xs) ++ flat_map line (range_with_len (i + 1) (n - (i + 1)))) is ∙ lines-split line n i below)
    (Prints-part old middle new (flat_map line (range_with_len 0 i)) text (flat_map line (range_with_len (i + 1) (n - (i + 1)))) tt why before prints)

-- the lines of a table are those of all its entries
pub table_text-whole : (kind : TableKind) (table : Table) (section : Section) → table.section ≡ Some section → IsWhole kind table → flat_map (λ k. entry_line kind section.addr section.content.now (entry_size kind * k)) (range_with_len 0 table.count) ≡ table_text kind (section_in table)
table_text-whole kind table section is whole =
    ap (λ (n : ℕ). flat_map (λ k. entry_line kind section.addr section.content.now (entry_size kind * k)) (range_with_len 0 n)) (sym (section_entries kind table section is whole))
    ∙ ap (λ (o : Option SectionRecord). table_text kind o) (sym (section_there table section is))
