-- The entries of a table, one by one, and those of all tables.
use Rattle.std.proofs.Common.{◌≡◌, ◌+◌, ◌*◌, ◌/◌, ◌∙◌, ℕ, List, [], ◌∷◌, ◌++◌, length, map, Option, Some, None, sym, ap, refl, arith, length-append, append_assoc}
use Rattle.std.specs.List.{range_with_len}
use Rattle.std.proofs.lemmas.Simd.{map-map}
use Rattle.std.proofs.lemmas.List.FromFn.{length-map-range_with_len, map-range_with_len_more}
use Rattle.elf_module.specs.Elf.{SectionRecord}
use Rattle.site_tables.specs.declared.entries.TableKind.{TableKind}
use Rattle.site_tables.specs.declared.entries.TableKind.TheVariants.{Jump as JumpTable, Call as CallTable, Trace as TraceTable}
use Rattle.site_tables.specs.declared.tables.Table.{Table}
use Rattle.site_tables.specs.declared.tables.Tables.{Tables}
use Rattle.site_tables.specs.Entry.{entry_size, jump_in, call_in, trace_in}
use Rattle.site_tables.specs.Found.{AreWhole, IsWhole, section_in}
use Rattle.site_tables.specs.Tables.{content_of, entries_in}
use Rattle.site_tables.proofs.Wholes.{whole_entries}
use Rattle.module_parts.specs.declared.entry.Entry.{Entry}
use Rattle.module_names.specs.Entries.{jump_entry, call_entry, trace_entry}
use Rattle.module_image.specs.Tables.{entry_in, table_entries, entries_of}

-- no bytes are no entries
no_entries : (kind : TableKind) (count : ℕ) → 0 ≡ count * entry_size kind → 0 ≡ count
no_entries JumpTable count whole = omega arith
no_entries CallTable count whole = omega arith
no_entries TraceTable count whole = omega arith

-- a table has as many entries as it counts
pub length-table_entries : (kind : TableKind) (table : Table) → IsWhole kind table → length (table_entries kind (section_in table)) ≡ table.count
length-table_entries kind table whole = at (section_in table) whole
  where
    at : (s : Option SectionRecord) → length (content_of s) ≡ table.count * entry_size kind → length (table_entries kind s) ≡ table.count
    at None whole = no_entries kind table.count whole
    at (Some s) whole =
        length-map-range_with_len (λ i. entry_in kind s.addr s.content (entry_size kind * i)) 0 (length s.content / entry_size kind)
        ∙ whole_entries kind (length s.content) table.count whole

-- what is made of each entry, at once
map_entries_in : {A B : Type 0} (f : A → B) (read : ℕ → List ℕ → ℕ → A) (size : ℕ) (s : Option SectionRecord)
    → map f (entries_in read size s) ≡ entries_in (λ addr content at. f (read addr content at)) size s
map_entries_in f read size None = refl
map_entries_in f read size (Some s) = map-map f (λ i. read s.addr s.content (size * i)) (range_with_len 0 (length s.content / size))

-- the entries of all tables are those of the three
pub three_tables : (tables : Tables)
    → entries_of tables ≡ table_entries JumpTable (section_in tables.jumps) ++ (table_entries CallTable (section_in tables.calls) ++ table_entries TraceTable (section_in tables.traces))
three_tables tables =
    rw (map_entries_in jump_entry jump_in 16 (section_in tables.jumps), map_entries_in call_entry call_in 8 (section_in tables.calls), map_entries_in trace_entry (λ addr. trace_in) 8 (section_in tables.traces)) refl

pub length-entries_of : (tables : Tables) → AreWhole tables → length (entries_of tables) ≡ tables.jumps.count + (tables.calls.count + tables.traces.count)
length-entries_of tables whole =
    let jumps = table_entries JumpTable (section_in tables.jumps) in
    let calls = table_entries CallTable (section_in tables.calls) in
    let traces = table_entries TraceTable (section_in tables.traces) in
    ap (λ (es : List Entry). length es) (three_tables tables)
    ∙ omega (
      arith,
      length-append jumps (calls ++ traces),
      length-append calls traces,
      length-table_entries JumpTable tables.jumps whole.jumps,
      length-table_entries CallTable tables.calls whole.calls,
      length-table_entries TraceTable tables.traces whole.traces,
    )

-- the first entries of a table
abbrev pub entries_before : TableKind → ℕ → List ℕ → ℕ → List Entry
entries_before kind addr content n = map (λ i. entry_in kind addr content (entry_size kind * i)) (range_with_len 0 n)

-- one entry more was added
pub entry_added : (kind : TableKind) (addr : ℕ) (content : List ℕ) (i : ℕ) (old before now : List Entry) (entry : Entry)
    → before ≡ old ++ entries_before kind addr content i → entry ≡ entry_in kind addr content (entry_size kind * i) → now ≡ before ++ (entry ∷ [])
    → now ≡ old ++ entries_before kind addr content (i + 1)
entry_added kind addr content i old before now entry before_is entry_is now_is =
    let from : 0 + i ≡ i = omega arith in
    now_is ∙ ap (λ (es : List Entry). es ++ (entry ∷ [])) before_is
    ∙ append_assoc old (entries_before kind addr content i) (entry ∷ [])
    ∙ ap (λ (e : Entry). old ++ (entries_before kind addr content i ++ (e ∷ []))) entry_is
    ∙ ap (λ (es : List Entry). old ++ es) (sym (map-range_with_len_more (λ k. entry_in kind addr content (entry_size kind * k)) 0 i i from))

-- the three tables one after the other are all entries
pub all_listed : (tables : Tables) (empty jumps calls traces : List Entry) → empty ≡ [] → jumps ≡ empty ++ table_entries JumpTable (section_in tables.jumps)
    → calls ≡ jumps ++ table_entries CallTable (section_in tables.calls) → traces ≡ calls ++ table_entries TraceTable (section_in tables.traces) → traces ≡ entries_of tables
all_listed tables empty jumps calls traces empty_is jumps_is calls_is traces_is =
    let j = table_entries JumpTable (section_in tables.jumps) in
    let c = table_entries CallTable (section_in tables.calls) in
    let t = table_entries TraceTable (section_in tables.traces) in
    traces_is
    ∙ ap (λ (es : List Entry). es ++ t) (calls_is ∙ ap (λ (es : List Entry). es ++ c) (jumps_is ∙ ap (λ (es : List Entry). es ++ j) empty_is))
    ∙ append_assoc j c t ∙ sym (three_tables tables)
