-- The tables that are read of the file of a plan.
use Rattle.std.proofs.Common.{◌≡◌, ◌<◌, ◌≤◌, ◌+◌, ◌-◌, ◌*◌, ◌/◌, ◌%◌, ◌^◌, ◌∙◌, ◌&&◌, ℕ, zero, suc, Bool, true, false, List, [], ◌∷◌, ◌++◌, length, drop, Some, refl, ap, arith}
use Rattle.std.specs.Prelude.{nat_lt, nat_le, nat_eq}
use Rattle.std.specs.List.{flat_map, slice_get}
use Rattle.std.proofs.lemmas.Bool.{and_parts, leb-true, ltb-true}
use Rattle.elf_module.specs.Elf.{field, sections_of}
use Rattle.site_tables.specs.declared.entries.TableKind.TheVariants.{Jump as JumpTable, Call as CallTable, Trace as TraceTable}
use Rattle.site_tables.specs.Entry.{near_in, jump_in, call_in, trace_in, extended, relative, cleared}
use Rattle.elf_build.specs.declared.tables.PlanTable.TheVariants.{Jumps, Calls, Traces}
use Rattle.elf_build.specs.declared.sections.Part.TheVariants.{Entries}
use Rattle.elf_build.specs.declared.plan.Plan.{Plan}
use Rattle.elf_build.specs.declared.plan.PlanSite.{PlanSite}
use Rattle.elf_build.specs.declared.plan.PlanSite.TheVariants.{Jump, Call, Trace}
use Rattle.elf_build.specs.declared.plan.PlanKey.{PlanKey}
use Rattle.elf_build.specs.Fits.{site_fits, is_in_text, is_switch, is_callee}
use Rattle.elf_build.specs.File.{entry_bytes, key_at, flag, table_at, table_bytes, parts}
use Rattle.site_tables.specs.Tables.{table_in}
use Rattle.written_module.specs.Written.{jump_of, call_of, trace_of, file_jumps, file_calls, file_traces, no_section, section_of_part, sections_from}
use Rattle.site_tables.specs.Tables.{entries_in}
use Rattle.written_module.proofs.Fields.{field-drop, field-prefix}
use Rattle.written_module.proofs.Bounds.{Bounds}
use Rattle.written_module.proofs.Leads.{near-round, flag-low, flag-first, flag-second, flag-below, on-round, first-of_two, second-of_two, first-of_three, second-of_three, third-of_three, field-here}
use Rattle.written_module.proofs.Rows.{IsEntry, table-reads}
use Rattle.written_module.proofs.Rows.IsEntry.{none as empty, some}

-- an address of the text
pub record IsInside (plan : Plan) (at : ℕ) : Type 0 where
  pub from : plan.base ≤ at
  pub to : at < plan.base + 65536

-- a place in the text lies there
pub inside : (plan : Plan) → Bounds plan → (at : ℕ) → is_in_text plan at ≡ true → IsInside plan at
inside plan ok at is =
    let parts = and_parts (nat_le plan.base at) (nat_lt (at - plan.base) (length plan.text.items)) is in
    let from = leb-true plan.base at parts.0 in
    let to = ltb-true (at - plan.base) (length plan.text.items) parts.1 in
    let long = ok.text in
    record { from = from; to = omega arith }

-- the key of a jump is there
pub switch-there : (keys : List PlanKey) (key : ℕ) → is_switch (slice_get keys key) ≡ true → key < length keys
switch-there [] key is = absurd (cc)
switch-there (first ∷ keys) zero is = omega arith
switch-there (first ∷ keys) (suc key) is = let rest = switch-there keys key is in omega arith

-- the key of a call is there
pub callee-there : (keys : List PlanKey) (key : ℕ) → is_callee (slice_get keys key) ≡ true → key < length keys
callee-there [] key is = absurd (cc)
callee-there (first ∷ keys) zero is = omega arith
callee-there (first ∷ keys) (suc key) is = let rest = callee-there keys key is in omega arith

-- a near field at an offset, and the same where it stands by itself
near-moved : (addr start at off : ℕ) (content : List ℕ) → start ≡ addr + at → near_in addr content (at + off) ≡ near_in start (drop at content) off
near-moved addr start at off content is =
    let place : addr + (at + off) ≡ start + off = omega arith in
    λ i. relative (place i) (extended (field-drop 4 at off content i))

-- the same of a field in front
near-here : (addr start at : ℕ) (content : List ℕ) → start ≡ addr + at → near_in addr content at ≡ near_in start (drop at content) 0
near-here addr start at content is =
    let place : addr + at ≡ start + 0 = omega arith in
    λ i. relative (place i) (extended (field-here 4 at content i))

-- the same of an entry of the jump table
jump-moved : (addr start at : ℕ) (content : List ℕ) → start ≡ addr + at → jump_in addr content at ≡ jump_in start (drop at content) 0
jump-moved addr start at content is =
    let code = near-here addr start at content is in
    let target = near-moved addr start at 4 content is in
    let key : field 8 (at + 8) content ≡ field 8 8 (drop at content) = field-drop 8 at 8 content in
    let place : addr + at + 8 ≡ start + 0 + 8 = omega arith in
    λ i. record {
      code = code i;
      target = target i;
      key = relative (place i) (cleared (key i));
      likely = nat_eq (key i % 2) 1;
      bit1 = nat_eq (key i / 2 % 2) 1;
    }

-- the same of an entry of the static call sites
call-moved : (addr start at : ℕ) (content : List ℕ) → start ≡ addr + at → call_in addr content at ≡ call_in start (drop at content) 0
call-moved addr start at content is =
    let code = near-here addr start at content is in
    let key = near-moved addr start at 4 content is in
    λ i. record {
      addr = code i;
      key = cleared (key i);
      tail = nat_eq (key i % 2) 1;
      init = nat_eq (key i / 2 % 2) 1;
    }

-- a jump is read as it was written
jump-reads : (plan : Plan) → Bounds plan → (k at target key : ℕ) (likely : Bool) (field_at : ℕ) → k < 1024 → IsInside plan at → IsInside plan target → key < 1024
    → field_at ≡ table_at Jumps plan + 16 * k → (rest : List ℕ)
    → jump_in field_at (entry_bytes Jumps plan field_at (Jump at target key likely) ++ rest) 0
    ≡ record { code = at; target = target; key = key_at plan key; likely = likely; bit1 = false }
jump-reads plan ok k at target key likely field_at few here there known place rest =
    let page = ok.page in
    let low = ok.low in
    let a = at + 2 ^ 64 - field_at in
    let b = target + 2 ^ 64 - (field_at + 4) in
    let c = key_at plan key + flag likely + 2 ^ 64 - (field_at + 8) in
    let on = key_at plan key - (field_at + 8) in
    let whole : on % 4 ≡ 0 = omega arith in
    let zero_on : field_at + 0 ≡ field_at = omega arith in
    let third : field 8 8 (entry_bytes Jumps plan field_at (Jump at target key likely) ++ rest) ≡ on + flag likely =
    third-of_three a b c rest ∙ on-round (field_at + 8) (key_at plan key) likely (omega arith) (omega arith) in
    let code_is : relative (field_at + 0) (extended (field 4 0 (entry_bytes Jumps plan field_at (Jump at target key likely) ++ rest))) ≡ at =
    (λ i. relative (zero_on i) (extended (first-of_three a b c rest i))) ∙ near-round field_at at (omega arith) (omega arith) (omega arith) (omega arith) in
    let target_is : relative (field_at + 4) (extended (field 4 4 (entry_bytes Jumps plan field_at (Jump at target key likely) ++ rest))) ≡ target =
    ap (λ (n : ℕ). relative (field_at + 4) (extended n)) (second-of_three a b c rest) ∙ near-round (field_at + 4) target (omega arith) (omega arith) (omega arith) (omega arith) in
    let key_is : relative (field_at + 0 + 8) (cleared (field 8 8 (entry_bytes Jumps plan field_at (Jump at target key likely) ++ rest))) ≡ key_at plan key =
    (λ i. relative (zero_on i + 8) (cleared (third i))) ∙ ap (relative (field_at + 8)) (flag-low on likely whole) ∙ omega arith in
    let likely_is = ap (λ (n : ℕ). nat_eq (n % 2) 1) third ∙ flag-first on likely whole in
    let bit1_is = ap (λ (n : ℕ). nat_eq (n / 2 % 2) 1) third ∙ flag-second on likely whole in
    λ i. record { code = code_is i; target = target_is i; key = key_is i; likely = likely_is i; bit1 = bit1_is i }

-- a call is read as it was written
call-reads : (plan : Plan) → Bounds plan → (k at key : ℕ) (tail : Bool) (field_at : ℕ) → k < 1024 → IsInside plan at → key < 1024
    → field_at ≡ table_at Calls plan + 8 * k → (rest : List ℕ)
    → call_in field_at (entry_bytes Calls plan field_at (Call at key tail) ++ rest) 0
    ≡ record { addr = at; key = key_at plan key; tail = tail; init = false }
call-reads plan ok k at key tail field_at few here known place rest =
    let page = ok.page in
    let low = ok.low in
    let held = key_at plan key in
    let a = at + 2 ^ 64 - field_at in
    let b = held + flag tail + 2 ^ 64 - (field_at + 4) in
    let whole : held % 4 ≡ 0 = omega arith in
    let zero_on : field_at + 0 ≡ field_at = omega arith in
    let near_key : held + flag tail < 2 ^ 64 = flag-below held tail (omega arith) in
    let near : held + flag tail < field_at + 4 + 2 ^ 31 = flag-below held tail (omega arith) in
    let addr_is : relative (field_at + 0) (extended (field 4 0 (entry_bytes Calls plan field_at (Call at key tail) ++ rest))) ≡ at =
    (λ i. relative (zero_on i) (extended (first-of_two a b rest i))) ∙ near-round field_at at (omega arith) (omega arith) (omega arith) (omega arith) in
    let near_is : near_in field_at (entry_bytes Calls plan field_at (Call at key tail) ++ rest) 4 ≡ held + flag tail =
    ap (λ (n : ℕ). relative (field_at + 4) (extended n)) (second-of_two a b rest) ∙ near-round (field_at + 4) (held + flag tail) (omega arith) near_key near (omega arith) in
    let key_is = ap cleared near_is ∙ flag-low held tail whole in
    let tail_is = ap (λ (n : ℕ). nat_eq (n % 2) 1) near_is ∙ flag-first held tail whole in
    let init_is = ap (λ (n : ℕ). nat_eq (n / 2 % 2) 1) near_is ∙ flag-second held tail whole in
    λ i. record { addr = addr_is i; key = key_is i; tail = tail_is i; init = init_is i }

-- the entry of a site in the jump table
jump-entry : (plan : Plan) → Bounds plan → (k : ℕ) (site : PlanSite) → k < 1024 → site_fits plan site ≡ true → (field_at : ℕ) → field_at ≡ table_at Jumps plan + 16 * k
    → IsEntry 16 (λ bytes. jump_in field_at bytes 0) (entry_bytes Jumps plan field_at site) (jump_of plan site)
jump-entry plan ok k (Jump at target key likely) few fits field_at place =
    let parts = and_parts (is_in_text plan at && is_in_text plan target) (is_switch (slice_get plan.keys.items key)) fits in
    let both = and_parts (is_in_text plan at) (is_in_text plan target) parts.0 in
    let there = switch-there plan.keys.items key parts.1 in
    let known = ok.keys in
    some refl (jump-reads plan ok k at target key likely field_at few (inside plan ok at both.0) (inside plan ok target both.1) (omega arith) place)
jump-entry plan ok k (Call at key tail) few fits field_at place = empty
jump-entry plan ok k (Trace at) few fits field_at place = empty

-- the entry of a site in the static call sites
call-entry : (plan : Plan) → Bounds plan → (k : ℕ) (site : PlanSite) → k < 1024 → site_fits plan site ≡ true → (field_at : ℕ) → field_at ≡ table_at Calls plan + 8 * k
    → IsEntry 8 (λ bytes. call_in field_at bytes 0) (entry_bytes Calls plan field_at site) (call_of plan site)
call-entry plan ok k (Jump at target key likely) few fits field_at place = empty
call-entry plan ok k (Call at key tail) few fits field_at place =
    let parts = and_parts (is_in_text plan at) (is_callee (slice_get plan.keys.items key)) fits in
    let there = callee-there plan.keys.items key parts.1 in
    let known = ok.keys in
    some refl (call-reads plan ok k at key tail field_at few (inside plan ok at parts.0) (omega arith) place)
call-entry plan ok k (Trace at) few fits field_at place = empty

-- the entry of a site in the trace table
trace-entry : (plan : Plan) → Bounds plan → (k : ℕ) (site : PlanSite) → k < 1024 → site_fits plan site ≡ true → (field_at : ℕ) → field_at ≡ table_at Traces plan + 8 * k
    → IsEntry 8 (λ bytes. trace_in bytes 0) (entry_bytes Traces plan field_at site) (trace_of site)
trace-entry plan ok k (Jump at target key likely) few fits field_at place = empty
trace-entry plan ok k (Call at key tail) few fits field_at place = empty
trace-entry plan ok k (Trace at) few fits field_at place =
    let here = inside plan ok at fits in
    let low = ok.low in
    let below : at < 256 ^ 8 = omega arith in
    some refl (λ rest. field-prefix 8 at rest below)

-- the section of each table is the one of its name
module _ (plan : Plan) where
  -- the jump table
  jump-table : table_in (no_section ∷ sections_from plan 1 parts) JumpTable ≡ Some (section_of_part plan 2 (Entries Jumps))
  unfolding parts
  jump-table = refl

  -- the static call sites
  call-table : table_in (no_section ∷ sections_from plan 1 parts) CallTable ≡ Some (section_of_part plan 3 (Entries Calls))
  unfolding parts
  call-table = refl

  -- the trace table
  trace-table : table_in (no_section ∷ sections_from plan 1 parts) TraceTable ≡ Some (section_of_part plan 4 (Entries Traces))
  unfolding parts
  trace-table = refl

-- the three tables are read as the plan's sites
module _ (plan : Plan) (ok : Bounds plan) (file : List ℕ) (read : sections_of file ≡ no_section ∷ sections_from plan 1 parts) where
  -- the jump table
  pub jumps-read : file_jumps file ≡ flat_map (jump_of plan) plan.sites.items
  jumps-read =
      let few = ok.sites in
      let table : table_in (sections_of file) JumpTable ≡ Some (section_of_part plan 2 (Entries Jumps)) = ap (λ sections. table_in sections JumpTable) read ∙ jump-table plan in
      ap (entries_in jump_in 16) table
      ∙ table-reads (entry_bytes Jumps plan) (jump_of plan) (λ field_at bytes. jump_in field_at bytes 0) 16 (table_at Jumps plan) (omega arith)
      (site_fits plan) (jump-entry plan ok) plan.sites.items 0 (table_at Jumps plan) (omega arith) (omega arith) ok.all_sites
      (λ i. jump_in (table_at Jumps plan) (table_bytes Jumps plan) (16 * i))
      (λ i. jump-moved (table_at Jumps plan) (table_at Jumps plan + 16 * (0 + i)) (16 * i) (table_bytes Jumps plan) (omega arith))

  -- the static call sites
  pub calls-read : file_calls file ≡ flat_map (call_of plan) plan.sites.items
  calls-read =
      let few = ok.sites in
      let table : table_in (sections_of file) CallTable ≡ Some (section_of_part plan 3 (Entries Calls)) = ap (λ sections. table_in sections CallTable) read ∙ call-table plan in
      ap (entries_in call_in 8) table
      ∙ table-reads (entry_bytes Calls plan) (call_of plan) (λ field_at bytes. call_in field_at bytes 0) 8 (table_at Calls plan) (omega arith)
      (site_fits plan) (call-entry plan ok) plan.sites.items 0 (table_at Calls plan) (omega arith) (omega arith) ok.all_sites
      (λ i. call_in (table_at Calls plan) (table_bytes Calls plan) (8 * i))
      (λ i. call-moved (table_at Calls plan) (table_at Calls plan + 8 * (0 + i)) (8 * i) (table_bytes Calls plan) (omega arith))

  -- the trace table
  pub traces-read : file_traces file ≡ flat_map trace_of plan.sites.items
  traces-read =
      let few = ok.sites in
      let table : table_in (sections_of file) TraceTable ≡ Some (section_of_part plan 4 (Entries Traces)) = ap (λ sections. table_in sections TraceTable) read ∙ trace-table plan in
      ap (entries_in (λ addr. trace_in) 8) table
      ∙ table-reads (entry_bytes Traces plan) trace_of (λ field_at bytes. trace_in bytes 0) 8 (table_at Traces plan) (omega arith)
      (site_fits plan) (trace-entry plan ok) plan.sites.items 0 (table_at Traces plan) (omega arith) (omega arith) ok.all_sites
      (λ i. trace_in (table_bytes Traces plan) (8 * i))
      (λ i. field-here 8 (8 * i) (table_bytes Traces plan))
