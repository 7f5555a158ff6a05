-- What is loaded where a key stands is what the key starts with.
use Rattle.std.proofs.Common.{◌≡◌, ◌<◌, ◌≤◌, ◌+◌, ◌-◌, ◌*◌, ◌∙◌, ◌&&◌, ℕ, zero, suc, Bool, true, false, List, [], ◌∷◌, length, Option, Some, refl, ap, arith}
use Rattle.std.specs.Prelude.{not, nat_eq, nat_lt, nat_le, slice_index, option_map}
use Rattle.std.specs.List.{find, slice_get}
use Rattle.std.proofs.lemmas.Bool.{and_from, and_right, le-ltb, lt-ltb, le-leb}
use Rattle.std.proofs.lemmas.List.{get_or_append_left, get_or-append-add}
use Rattle.std.proofs.lemmas.Option.{slice_get_within}
use Rattle.elf_module.specs.Elf.{SectionRecord, byte_at, covers, is_alloc, loaded, sections_of}
use Rattle.elf_build.specs.declared.tables.PlanTable.TheVariants.{Jumps, Calls, Traces}
use Rattle.elf_build.specs.declared.sections.Part.TheVariants.{Text, Entries, Data, Symbols, Names, SectionNames}
use Rattle.elf_build.specs.declared.plan.Plan.{Plan}
use Rattle.elf_build.specs.declared.plan.PlanKey.{PlanKey}
use Rattle.elf_build.specs.File.{data_at, data_of, entry_bytes, key_at, parts, start_bytes, table_at}
use Rattle.written_module.specs.Written.{no_section, section_of_part, sections_from}
use Rattle.written_module.proofs.Bounds.{Bounds, length-data, length-entry, length-start, length-table}

-- the bytes of each key stand after those before
data-byte : (keys : List PlanKey) (i : ℕ) (key : PlanKey) (j : ℕ) → slice_get keys i ≡ Some key → j < 16
    → slice_index (data_of keys) (16 * i + j) ≡ slice_index (start_bytes key.start) j
data-byte [] i key j is below = absurd (cc)
data-byte (first ∷ keys) zero key j is below =
    let place : 16 * 0 + j ≡ j = omega arith in
    let same : first ≡ key = cc in
    let long = length-start first.start in
    ap (slice_index (data_of (first ∷ keys))) place ∙ get_or_append_left (start_bytes first.start) (data_of keys) 0 j (omega arith)
    ∙ ap (λ (k : PlanKey). slice_index (start_bytes k.start) j) same
data-byte (first ∷ keys) (suc i) key j is below =
    let long = length-start first.start in
    let place : 16 * suc i + j ≡ length (start_bytes first.start) + (16 * i + j) = omega arith in
    ap (slice_index (data_of (first ∷ keys))) place ∙ get_or-append-add (start_bytes first.start) (data_of keys) (16 * i + j) 0
    ∙ data-byte keys i key j is below

-- a section that ends before an address doesn't cover it
covers-not : (s : SectionRecord) (at : ℕ) → s.size ≤ at - s.addr → covers s at ≡ false
covers-not s at past =
    and_right (not (nat_eq s.kind 0) && is_alloc s.flags && nat_le s.addr at) (nat_lt (at - s.addr) s.size) (le-ltb (at - s.addr) s.size past)

-- a first element that fails is skipped
find-skip : {A : Type 0} (p : A → Bool) (x : A) (xs : List A) (r : Option A) → p x ≡ false → find p xs ≡ r → find p (x ∷ xs) ≡ r
find-skip p x xs r fails rest = rw fails rest

-- a first element that passes is found
find-here : {A : Type 0} (p : A → Bool) (x : A) (xs : List A) → p x ≡ true → find p (x ∷ xs) ≡ Some x
find-here p x xs passes = rw passes refl

-- the section that covers an address of the data
data-covers : (plan : Plan) → Bounds plan → (off : ℕ) → off < length (data_of plan.keys.items)
    → find (λ (s : SectionRecord). covers s (data_at plan + off)) (no_section ∷ sections_from plan 1 parts) ≡ Some (section_of_part plan 5 Data)
unfolding parts
data-covers plan ok off below =
    let at = data_at plan + off in
    let p = λ (s : SectionRecord). covers s at in
    let text = ok.text in
    let few = ok.sites in
    let jumps = length-table (entry_bytes Jumps plan) (length-entry Jumps plan) plan.sites.items (table_at Jumps plan) in
    let calls = length-table (entry_bytes Calls plan) (length-entry Calls plan) plan.sites.items (table_at Calls plan) in
    let traces = length-table (entry_bytes Traces plan) (length-entry Traces plan) plan.sites.items (table_at Traces plan) in
    let found = Some (section_of_part plan 5 Data) in
    let after = sections_from plan 6 (Symbols ∷ Names ∷ SectionNames ∷ []) in
    let data_on = section_of_part plan 5 Data ∷ after in
    let trace_on = section_of_part plan 4 (Entries Traces) ∷ data_on in
    let call_on = section_of_part plan 3 (Entries Calls) ∷ trace_on in
    let jump_on = section_of_part plan 2 (Entries Jumps) ∷ call_on in
    find-skip p no_section (section_of_part plan 1 Text ∷ jump_on) found refl
    (find-skip p (section_of_part plan 1 Text) jump_on found (covers-not (section_of_part plan 1 Text) at (omega arith))
    (find-skip p (section_of_part plan 2 (Entries Jumps)) call_on found (covers-not (section_of_part plan 2 (Entries Jumps)) at (omega arith))
    (find-skip p (section_of_part plan 3 (Entries Calls)) trace_on found (covers-not (section_of_part plan 3 (Entries Calls)) at (omega arith))
    (find-skip p (section_of_part plan 4 (Entries Traces)) data_on found (covers-not (section_of_part plan 4 (Entries Traces)) at (omega arith))
    (find-here p (section_of_part plan 5 Data) after
    (and_from (nat_le (data_at plan) at) (nat_lt (at - data_at plan) (length (data_of plan.keys.items)))
    (le-leb (data_at plan) at (omega arith)) (lt-ltb (at - data_at plan) (length (data_of plan.keys.items)) (omega arith))))))))

-- the bytes of the keys
pub keys-loaded : (plan : Plan) → Bounds plan → (file : List ℕ) → sections_of file ≡ no_section ∷ sections_from plan 1 parts
    → (i : ℕ) (key : PlanKey) (j : ℕ) → slice_get plan.keys.items i ≡ Some key → j < 16
    → loaded (sections_of file) (key_at plan i + j) ≡ Some (slice_index (start_bytes key.start) j)
keys-loaded plan ok file read i key j is below =
    let inside = slice_get_within plan.keys.items i key is in
    let long = length-data plan.keys.items in
    let off = 16 * i + j in
    let place : key_at plan i + j ≡ data_at plan + off = omega arith in
    let back : data_at plan + off - data_at plan ≡ off = omega arith in
    (λ t. loaded (read t) (place t))
    ∙ ap (option_map (λ s. byte_at s (data_at plan + off))) (data-covers plan ok off (omega arith))
    ∙ ap (λ (n : ℕ). Some (slice_index (data_of plan.keys.items) n)) back
    ∙ ap Some (data-byte plan.keys.items i key j is below)
