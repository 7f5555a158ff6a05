-- What is read of the file that is written of a generated module's plan: its text and its tables.
use Rattle.std.proofs.Common.{◌≡◌, ◌+◌, ◌%◌, ◌∙◌, ◌⊎◌, ◌++◌, inl, inr, ℕ, List, [], ◌∷◌, length, map, flat_map, filter, find, Some, refl, ap, arith}
use Rattle.std.proofs.lemmas.List.{length-append}
use Rattle.elf_module.specs.Elf.{Elf}
use Rattle.elf_build.specs.declared.plan.Plan.{Plan}
use Rattle.elf_build.specs.declared.plan.PlanSite.{PlanSite}
use Rattle.elf_build.specs.declared.plan.PlanSite.TheVariants.{Jump, Call, Trace}
use Rattle.elf_build.specs.declared.sections.Part.TheVariants.{Text}
use Rattle.elf_build.specs.declared.tables.PlanTable.TheVariants.{Jumps, Calls, Traces}
use Rattle.elf_build.specs.File.{entry_bytes, file_of, parts, table_at, table_from}
use Rattle.elf_build.specs.Generated.{IsGenerated, blocks, text_of}
use Rattle.site_tables.specs.declared.entries.TableKind.{TableKind}
use Rattle.site_tables.specs.declared.entries.TableKind.TheVariants.{Jump as JumpTable, Call as CallTable, Trace as TraceTable}
use Rattle.site_tables.specs.Entry.{entry_size}
use Rattle.site_tables.specs.Found.{table_len}
use Rattle.site_tables.specs.Tables.{content_of, table_in}
use Rattle.written_module.specs.Written.{ReadsBack, call_of, jump_of, section_of_part, trace_of}
use Rattle.module_names.specs.Entries.{base, base_of, bytes_of, call_entry, entries, file_text, index_of, is_text, jump_entry, text_index, text_section, text_sections, trace_entry}
use Rattle.generated_module.specs.Accepted.{elf_of}
use Rattle.generated_module.proofs.EntryLists.{calls_from, jumps_from, traces_from}
use Rattle.generated_module.proofs.FileTables.{calls-are, jumps-are, traces-are}
use Rattle.generated_module.proofs.KeyLists.{all_entries}

-- ---- tables of whole entries

-- entries of which each has sixteen bytes or none, and of which each has eight or none
whole-sixteen : (entry : ℕ → PlanSite → List ℕ) → ((field : ℕ) (site : PlanSite) → (length (entry field site) ≡ 16) ⊎ (length (entry field site) ≡ 0)) → (field : ℕ) (sites : List PlanSite) → length (table_from entry field sites) % 16 ≡ 0
whole-sixteen entry each field [] = refl
whole-sixteen entry each field (site ∷ sites) =
    let here = entry field site in
    let rest = table_from entry (field + length here) sites in
    let sum : length (here ++ rest) ≡ length here + length rest = length-append here rest in
    let whole : length rest % 16 ≡ 0 = whole-sixteen entry each (field + length here) sites in
    elim (each field site) [
      | inl some ↦ omega (arith, some, sum, whole)
      | inr none ↦ omega (arith, none, sum, whole)
    ]

whole-eight : (entry : ℕ → PlanSite → List ℕ) → ((field : ℕ) (site : PlanSite) → (length (entry field site) ≡ 8) ⊎ (length (entry field site) ≡ 0)) → (field : ℕ) (sites : List PlanSite) → length (table_from entry field sites) % 8 ≡ 0
whole-eight entry each field [] = refl
whole-eight entry each field (site ∷ sites) =
    let here = entry field site in
    let rest = table_from entry (field + length here) sites in
    let sum : length (here ++ rest) ≡ length here + length rest = length-append here rest in
    let whole : length rest % 8 ≡ 0 = whole-eight entry each (field + length here) sites in
    elim (each field site) [
      | inl some ↦ omega (arith, some, sum, whole)
      | inr none ↦ omega (arith, none, sum, whole)
    ]

-- the entries of each table
jump-size : (plan : Plan) (field : ℕ) (site : PlanSite) → (length (entry_bytes Jumps plan field site) ≡ 16) ⊎ (length (entry_bytes Jumps plan field site) ≡ 0)
jump-size plan field (Jump at target key likely) = inl refl
jump-size plan field (Call at key tail) = inr refl
jump-size plan field (Trace at) = inr refl

call-size : (plan : Plan) (field : ℕ) (site : PlanSite) → (length (entry_bytes Calls plan field site) ≡ 8) ⊎ (length (entry_bytes Calls plan field site) ≡ 0)
call-size plan field (Jump at target key likely) = inr refl
call-size plan field (Call at key tail) = inl refl
call-size plan field (Trace at) = inr refl

trace-size : (plan : Plan) (field : ℕ) (site : PlanSite) → (length (entry_bytes Traces plan field site) ≡ 8) ⊎ (length (entry_bytes Traces plan field site) ≡ 0)
trace-size plan field (Jump at target key likely) = inr refl
trace-size plan field (Call at key tail) = inr refl
trace-size plan field (Trace at) = inl refl

-- ---- what is read

module _ (n : ℕ) (plan : Plan) (made : IsGenerated n plan) (back : ReadsBack plan) where
  abbrev elf : Elf
  elf = elf_of (file_of plan)

  -- the text
  pub text-is : text_section elf ≡ Some (section_of_part plan 1 Text)
  unfolding parts
  text-is = ap (find is_text) back.sections

  -- there is one, at its address and with the bytes of the plan
  pub one-text : length (text_sections elf) ≡ 1
  unfolding parts
  one-text = ap (λ (ss : List _). length (filter is_text ss)) back.sections

  pub base-is : base elf ≡ 0x401000
  base-is = ap base_of text-is ∙ made.base

  pub index-is : text_index elf ≡ 1
  index-is = ap index_of text-is

  pub file-text-is : file_text elf ≡ text_of n
  file-text-is = ap bytes_of text-is ∙ made.text

  -- the tables
  pub whole-tables : (kind : TableKind) → table_len elf.sections kind % entry_size kind ≡ 0
  unfolding parts
  whole-tables JumpTable =
      ap (λ (ss : List _). length (content_of (table_in ss JumpTable)) % 16) back.sections
      ∙ whole-sixteen (entry_bytes Jumps plan) (jump-size plan) (table_at Jumps plan) plan.sites.items
  whole-tables CallTable =
      ap (λ (ss : List _). length (content_of (table_in ss CallTable)) % 8) back.sections
      ∙ whole-eight (entry_bytes Calls plan) (call-size plan) (table_at Calls plan) plan.sites.items
  whole-tables TraceTable =
      ap (λ (ss : List _). length (content_of (table_in ss TraceTable)) % 8) back.sections
      ∙ whole-eight (entry_bytes Traces plan) (trace-size plan) (table_at Traces plan) plan.sites.items

  -- the entries
  jump-entries : map jump_entry (flat_map (jump_of plan) plan.sites.items) ≡ jumps_from n 0 blocks
  jump-entries = ap (λ (ss : List PlanSite). map jump_entry (flat_map (jump_of plan) ss)) made.sites ∙ jumps-are plan made.base n 0 blocks

  call-entries : map call_entry (flat_map (call_of plan) plan.sites.items) ≡ calls_from n 0 blocks
  call-entries = ap (λ (ss : List PlanSite). map call_entry (flat_map (call_of plan) ss)) made.sites ∙ calls-are plan made.base n 0 blocks

  trace-entries : map trace_entry (flat_map trace_of plan.sites.items) ≡ traces_from n 0 blocks
  trace-entries = ap (λ (ss : List PlanSite). map trace_entry (flat_map trace_of ss)) made.sites ∙ traces-are n 0 blocks

  pub entries-are : entries elf ≡ all_entries n
  entries-are =
      let jumps = ap (map jump_entry) back.jumps ∙ jump-entries in
      let calls = ap (map call_entry) back.calls ∙ call-entries in
      let traces = ap (map trace_entry) back.traces ∙ trace-entries in
      λ i. jumps i ++ (calls i ++ traces i)
