-- The tables of the file that is written of the plan.
use Rattle.std.proofs.Common.{◌≡◌, ◌+◌, ◌*◌, ◌/◌, ◌%◌, ◌==◌, ◌∙◌, ◌++◌, ℕ, zero, suc, List, ◌∷◌, map, flat_map, refl, ap, arith}
use Rattle.elf_build.specs.declared.generation.Block.{Block}
use Rattle.elf_build.specs.declared.generation.Block.TheVariants.{FarSwitch, NearSwitch, Call as CallBlock, Trace as TraceBlock, TailCall}
use Rattle.elf_build.specs.declared.plan.Plan.{Plan}
use Rattle.elf_build.specs.File.{key_at}
use Rattle.elf_build.specs.Generated.{block_len, block_of, block_site, sites_from}
use Rattle.site_tables.specs.declared.entries.JumpEntry.{JumpEntry}
use Rattle.site_tables.specs.declared.entries.CallSite.{CallSite}
use Rattle.written_module.specs.Written.{call_of, jump_of, trace_of}
use Rattle.module_parts.specs.declared.entry.Entry.{Entry}
use Rattle.module_parts.specs.declared.entry.EntryKind.TheVariants.{Jump, Call, Tail}
use Rattle.module_names.specs.Entries.{call_entry, jump_entry, trace_entry}
use Rattle.generated_module.proofs.EntryLists.{block_calls, block_jumps, block_traces, calls_from, jumps_from, traces_from}

-- a jump in front of others
jump-more : (plan : Plan) (b : Block) (i at : ℕ) (rest : List JumpEntry) (more : List Entry) → plan.base ≡ 0x401000 → map jump_entry rest ≡ more → map jump_entry (jump_of plan (block_site b i at) ++ rest) ≡ block_jumps b i at ++ more
jump-more plan FarSwitch i at rest more base same =
    let key : key_at plan (i / 5 % 2) ≡ 0x451000 + 16 * (i / 5 % 2) = omega (arith, base) in
    let entry : ℕ → Entry = λ (k : ℕ). record { at = at; kind = Jump (at + 7) k (i / 10 % 2 == 1) } in
    ap (λ (k : ℕ). entry k ∷ map jump_entry rest) key ∙ ap (λ (xs : List Entry). entry (0x451000 + 16 * (i / 5 % 2)) ∷ xs) same
jump-more plan NearSwitch i at rest more base same =
    let key : key_at plan (i / 5 % 2) ≡ 0x451000 + 16 * (i / 5 % 2) = omega (arith, base) in
    let entry : ℕ → Entry = λ (k : ℕ). record { at = at; kind = Jump (at + 4) k (i / 10 % 2 == 1) } in
    ap (λ (k : ℕ). entry k ∷ map jump_entry rest) key ∙ ap (λ (xs : List Entry). entry (0x451000 + 16 * (i / 5 % 2)) ∷ xs) same
jump-more plan CallBlock i at rest more base same = same
jump-more plan TraceBlock i at rest more base same = same
jump-more plan TailCall i at rest more base same = same

-- the table of jumps
pub jumps-are : (plan : Plan) → plan.base ≡ 0x401000 → (left i at : ℕ) → map jump_entry (flat_map (jump_of plan) (sites_from left i at)) ≡ jumps_from left i at
jumps-are plan base zero i at = refl
jumps-are plan base (suc left) i at =
    let later = at + block_len (block_of i) in
    jump-more plan (block_of i) i at (flat_map (jump_of plan) (sites_from left (i + 1) later)) (jumps_from left (i + 1) later) base (jumps-are plan base left (i + 1) later)

-- a call in front of others
call-more : (plan : Plan) (b : Block) (i at : ℕ) (rest : List CallSite) (more : List Entry) → plan.base ≡ 0x401000 → map call_entry rest ≡ more → map call_entry (call_of plan (block_site b i at) ++ rest) ≡ block_calls b i at ++ more
call-more plan FarSwitch i at rest more base same = same
call-more plan NearSwitch i at rest more base same = same
call-more plan CallBlock i at rest more base same =
    let key : key_at plan 2 ≡ 0x451020 = omega (arith, base) in
    let entry : ℕ → Entry = λ (k : ℕ). record { at = at; kind = Call k } in
    ap (λ (k : ℕ). entry k ∷ map call_entry rest) key ∙ ap (λ (xs : List Entry). entry 0x451020 ∷ xs) same
call-more plan TraceBlock i at rest more base same = same
call-more plan TailCall i at rest more base same =
    let key : key_at plan 3 ≡ 0x451030 = omega (arith, base) in
    let entry : ℕ → Entry = λ (k : ℕ). record { at = at + 7; kind = Tail k } in
    ap (λ (k : ℕ). entry k ∷ map call_entry rest) key ∙ ap (λ (xs : List Entry). entry 0x451030 ∷ xs) same

-- the table of calls
pub calls-are : (plan : Plan) → plan.base ≡ 0x401000 → (left i at : ℕ) → map call_entry (flat_map (call_of plan) (sites_from left i at)) ≡ calls_from left i at
calls-are plan base zero i at = refl
calls-are plan base (suc left) i at =
    let later = at + block_len (block_of i) in
    call-more plan (block_of i) i at (flat_map (call_of plan) (sites_from left (i + 1) later)) (calls_from left (i + 1) later) base (calls-are plan base left (i + 1) later)

-- a traced function in front of others
trace-more : (b : Block) (i at : ℕ) (rest : List ℕ) (more : List Entry) → map trace_entry rest ≡ more → map trace_entry (trace_of (block_site b i at) ++ rest) ≡ block_traces b i at ++ more
trace-more FarSwitch i at rest more same = same
trace-more NearSwitch i at rest more same = same
trace-more CallBlock i at rest more same = same
trace-more TraceBlock i at rest more same = ap (λ (xs : List Entry). trace_entry at ∷ xs) same
trace-more TailCall i at rest more same = same

-- the table of traces
pub traces-are : (left i at : ℕ) → map trace_entry (flat_map trace_of (sites_from left i at)) ≡ traces_from left i at
traces-are zero i at = refl
traces-are (suc left) i at =
    let later = at + block_len (block_of i) in
    trace-more (block_of i) i at (flat_map trace_of (sites_from left (i + 1) later)) (traces_from left (i + 1) later) (traces-are left (i + 1) later)
