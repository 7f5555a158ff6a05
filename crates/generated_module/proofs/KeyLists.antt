-- The addresses of a generated module's keys: two of jumps and two of calls, of which the first ten blocks name each.
use Rattle.std.proofs.Common.{◌≡◌, ◌<◌, ◌≤◌, ◌+◌, ◌-◌, ◌*◌, ◌/◌, ◌%◌, ◌∙◌, ◌++◌, ℕ, zero, suc, List, [], ◌∷◌, refl, ap, arith}
use Rattle.std.specs.List.{AllByRecursion as Each}
use Rattle.elf_build.specs.declared.generation.Block.{Block}
use Rattle.elf_build.specs.declared.generation.Block.TheVariants.{FarSwitch, NearSwitch, Call as CallBlock, Trace as TraceBlock, TailCall}
use Rattle.elf_build.specs.Generated.{block_len, block_of, blocks}
use Rattle.module_parts.specs.declared.entry.Entry.{Entry}
use Rattle.module_parts.specs.declared.key.KeyClass.{KeyClass}
use Rattle.module_parts.specs.declared.key.KeyClass.TheVariants.{Jump, Call}
use Rattle.module_names.specs.Keys.{gathered, key_in, place_in, with_key, with_named}
use Rattle.generated_module.proofs.Each.{each-append}
use Rattle.generated_module.proofs.EntryLists.{block_calls, block_entry, block_jumps, block_traces, call-table, calls_from, each-any, jump-table, jumps_from, trace-table, traces_from}

-- the addresses of the keys of a class
abbrev pub jump_keys : List ℕ
jump_keys = 0x451000 ∷ 0x451010 ∷ []

abbrev pub call_keys : List ℕ
call_keys = 0x451020 ∷ 0x451030 ∷ []

-- an entry names no key that isn't there
abbrev IsKept : KeyClass → List ℕ → Entry → Type 0
IsKept class keys e = with_named (key_in class e.kind) keys ≡ keys

kept : (class : KeyClass) (es : List Entry) (keys : List ℕ) → Each (IsKept class keys) es → gathered class es keys ≡ keys
kept class [] keys all = refl
kept class (e ∷ es) keys all = ap (gathered class es) all.0 ∙ kept class es keys all.1

-- the keys of two lists of entries
gathered-append : (class : KeyClass) (es more : List Entry) (keys : List ℕ) → gathered class (es ++ more) keys ≡ gathered class more (gathered class es keys)
gathered-append class [] more keys = refl
gathered-append class (e ∷ es) more keys = gathered-append class es more (with_named (key_in class e.kind) keys)

-- one of two
two-keys : (P : ℕ → Type 0) → P 0 → P 1 → (k : ℕ) → k < 2 → P k
two-keys P first second zero low = first
two-keys P first second (suc zero) low = second
two-keys P first second (suc (suc k)) low = absurd (omega (arith, low))

-- the number of a jump's key is its place
pub key-place : (k : ℕ) → k < 2 → place_in (0x451000 + 16 * k) jump_keys ≡ k
key-place k low = two-keys (λ (k : ℕ). place_in (0x451000 + 16 * k) jump_keys ≡ k) refl refl k low

key-there : (k : ℕ) → k < 2 → with_key (0x451000 + 16 * k) jump_keys ≡ jump_keys
key-there k low = two-keys (λ (k : ℕ). with_key (0x451000 + 16 * k) jump_keys ≡ jump_keys) refl refl k low

-- no block names another
jump-kept : (b : Block) (i at : ℕ) → IsKept Jump jump_keys (block_entry b i at)
jump-kept FarSwitch i at = key-there (i / 5 % 2) (omega arith)
jump-kept NearSwitch i at = key-there (i / 5 % 2) (omega arith)
jump-kept CallBlock i at = refl
jump-kept TraceBlock i at = refl
jump-kept TailCall i at = refl

call-kept : (b : Block) (i at : ℕ) → IsKept Call call_keys (block_entry b i at)
call-kept FarSwitch i at = refl
call-kept NearSwitch i at = refl
call-kept CallBlock i at = refl
call-kept TraceBlock i at = refl
call-kept TailCall i at = refl

-- jumps name no key of calls
no-call : (b : Block) (i at : ℕ) → Each (IsKept Call []) (block_jumps b i at)
no-call FarSwitch i at = (refl, tt)
no-call NearSwitch i at = (refl, tt)
no-call CallBlock i at = tt
no-call TraceBlock i at = tt
no-call TailCall i at = tt

no-calls : (left i at : ℕ) → Each (IsKept Call []) (jumps_from left i at)
no-calls zero i at = tt
no-calls (suc left) i at =
    let later = at + block_len (block_of i) in
    each-append (IsKept Call []) (block_jumps (block_of i) i at) (jumps_from left (i + 1) later) (no-call (block_of i) i at) (no-calls left (i + 1) later)

-- where the eleventh block begins
abbrev eleventh : ℕ
eleventh = blocks + 66

-- the keys that all entries name
abbrev pub all_entries : ℕ → List Entry
all_entries n = jumps_from n 0 blocks ++ (calls_from n 0 blocks ++ traces_from n 0 blocks)

-- the first ten blocks name both keys of jumps and both of calls
jumps-gathered : (m : ℕ) → gathered Jump (all_entries (suc (suc (suc (suc (suc (suc (suc (suc (suc (suc m))))))))))) [] ≡ jump_keys
jumps-gathered m =
    let n = suc (suc (suc (suc (suc (suc (suc (suc (suc (suc m))))))))) in
    let js = jumps_from m 10 eleventh in
    let cs = calls_from n 0 blocks in
    let ts = traces_from n 0 blocks in
    let P = IsKept Jump jump_keys in
    let all = each-append P js (cs ++ ts) (each-any block_jumps jump-table P jump-kept m 10 eleventh) (each-append P cs ts (each-any block_calls call-table P jump-kept n 0 blocks) (each-any block_traces trace-table P jump-kept n 0 blocks)) in
    kept Jump (js ++ (cs ++ ts)) jump_keys all

calls-gathered : (m : ℕ) → gathered Call (all_entries (suc (suc (suc (suc (suc (suc (suc (suc (suc (suc m))))))))))) [] ≡ call_keys
calls-gathered m =
    let n = suc (suc (suc (suc (suc (suc (suc (suc (suc (suc m))))))))) in
    let js = jumps_from n 0 blocks in
    let cs = calls_from n 0 blocks in
    let rest = calls_from m 10 eleventh in
    let ts = traces_from n 0 blocks in
    let P = IsKept Call call_keys in
    let all = each-append P rest ts (each-any block_calls call-table P call-kept m 10 eleventh) (each-any block_traces trace-table P call-kept n 0 blocks) in
    gathered-append Call js (cs ++ ts) [] ∙ ap (gathered Call (cs ++ ts)) (kept Call js [] (no-calls n 0 blocks))
    ∙ kept Call (rest ++ ts) call_keys all

-- of ten blocks or more
pub jump-keys-are : (n : ℕ) → 10 ≤ n → gathered Jump (all_entries n) [] ≡ jump_keys
jump-keys-are n few =
    let more : n ≡ suc (suc (suc (suc (suc (suc (suc (suc (suc (suc (n - 10)))))))))) = omega (arith, few) in
    ap (λ (k : ℕ). gathered Jump (all_entries k) []) more ∙ jumps-gathered (n - 10)

pub call-keys-are : (n : ℕ) → 10 ≤ n → gathered Call (all_entries n) [] ≡ call_keys
call-keys-are n few =
    let more : n ≡ suc (suc (suc (suc (suc (suc (suc (suc (suc (suc (n - 10)))))))))) = omega (arith, few) in
    ap (λ (k : ℕ). gathered Call (all_entries k) []) more ∙ calls-gathered (n - 10)
