-- What the sites of a generated module are, by what the file has at them.
use Rattle.std.proofs.Common.{◌≡◌, ◌≤◌, ◌+◌, ◌-◌, ◌/◌, ◌%◌, ◌==◌, ◌∙◌, ◌++◌, not, ℕ, zero, suc, Bool, false, List, [], ◌∷◌, length, map, take, drop, refl, ap, arith}
use Rattle.elf_build.specs.declared.generation.Block.{Block}
use Rattle.elf_build.specs.declared.generation.Block.TheVariants.{FarSwitch, NearSwitch, Call as CallBlock, Trace as TraceBlock, TailCall}
use Rattle.elf_build.specs.File.{lead}
use Rattle.elf_build.specs.Generated.{block_bytes, block_len, block_of, text_from}
use Rattle.insn_forms.specs.Spelling.{spell}
use Rattle.x64_subset.specs.Reading.{read}
use Rattle.module_parts.specs.declared.site.Site.{Site}
use Rattle.module_parts.specs.declared.site.SiteKind.{SiteKind}
use Rattle.module_parts.specs.declared.site.SiteKind.TheVariants.{Jump, Call, Tail, Trace}
use Rattle.module_names.specs.Entries.{answer_len, length_at}
use Rattle.module_image.specs.Refusals.{IsBadLength, room_of}
use Rattle.module_image.specs.Sites.{is_early, is_foreign, made, site_of}
use Rattle.generated_module.proofs.Blocks.{Stands, block_made, drop-further, made_from, stands-next}
use Rattle.generated_module.proofs.EntryLists.{block_entry, entries_from}
use Rattle.generated_module.proofs.KeyLists.{call_keys, jump_keys, key-place}

-- the lengths of the instructions that the switches have
far-length : (base at : ℕ) (file rest : List ℕ) → drop (at - base) file ≡ block_bytes FarSwitch at ++ rest → length_at base file at ≡ 5
unfolding read
far-length base at file rest bytes = ap (λ (code : List ℕ). answer_len (read at code)) bytes

near-length : (base at : ℕ) (file rest : List ℕ) → drop (at - base) file ≡ block_bytes NearSwitch at ++ rest → length_at base file at ≡ 2
unfolding read
near-length base at file rest bytes = ap (λ (code : List ℕ). answer_len (read at code)) bytes

-- a site whose bytes are an early form isn't foreign
far-ours : (base at : ℕ) (file rest : List ℕ) (to key : ℕ) (likely : Bool) → drop (at - base) file ≡ block_bytes FarSwitch at ++ rest → is_foreign base file at 5 (Jump to key likely) ≡ false
unfolding spell
far-ours base at file rest to key likely bytes = ap (λ (code : List ℕ). not (is_early at 5 (Jump to key likely) (take 5 code))) bytes

near-ours : (base at : ℕ) (file rest : List ℕ) (to key : ℕ) (likely : Bool) → drop (at - base) file ≡ block_bytes NearSwitch at ++ rest → is_foreign base file at 2 (Jump to key likely) ≡ false
unfolding spell
near-ours base at file rest to key likely bytes = ap (λ (code : List ℕ). not (is_early at 2 (Jump to key likely) (take 2 code))) bytes

call-ours : (base at : ℕ) (file rest : List ℕ) → drop (at - base) file ≡ block_bytes CallBlock at ++ rest → is_foreign base file at 5 (Call 2) ≡ false
unfolding spell
call-ours base at file rest bytes = ap (λ (code : List ℕ). not (is_early at 5 (Call 2) (take 5 code))) bytes

trace-ours : (base at : ℕ) (file rest : List ℕ) → drop (at - base) file ≡ block_bytes TraceBlock at ++ rest → is_foreign base file at 5 Trace ≡ false
unfolding spell
trace-ours base at file rest bytes = ap (λ (code : List ℕ). not (is_early at 5 Trace (take 5 code))) bytes

tail-ours : (base at to : ℕ) (file rest : List ℕ) → drop (at - base) file ≡ 0xe9 ∷ (lead 4 to 0x401004 ++ rest) → is_foreign base file at 5 (Tail 3) ≡ false
unfolding spell
tail-ours base at to file rest bytes = ap (λ (code : List ℕ). not (is_early at 5 (Tail 3) (take 5 code))) bytes

-- a site that isn't foreign
ours : (base at len : ℕ) (file : List ℕ) (kind : SiteKind) → is_foreign base file at len kind ≡ false → made base file at len kind ≡ record { at = at; len = len; kind = kind; foreign = false }
ours base at len file kind is = ap (λ (foreign : Bool). record { at = at; len = len; kind = kind; foreign = foreign }) is

-- the site of a block
site-is : (base : ℕ) (file : List ℕ) (b : Block) (i at : ℕ) (rest : List ℕ) → base ≤ at → drop (at - base) file ≡ block_bytes b at ++ rest → site_of base file jump_keys call_keys (block_entry b i at) ≡ block_made b i at
site-is base file FarSwitch i at rest low bytes =
    let k = i / 5 % 2 in
    let likely = i / 10 % 2 == 1 in
    ap (λ (n : ℕ). made base file at (length_at base file at) (Jump (at + 7) n likely)) (key-place k (omega arith))
    ∙ ap (λ (len : ℕ). made base file at len (Jump (at + 7) k likely)) (far-length base at file rest bytes)
    ∙ ours base at 5 file (Jump (at + 7) k likely) (far-ours base at file rest (at + 7) k likely bytes)
site-is base file NearSwitch i at rest low bytes =
    let k = i / 5 % 2 in
    let likely = i / 10 % 2 == 1 in
    ap (λ (n : ℕ). made base file at (length_at base file at) (Jump (at + 4) n likely)) (key-place k (omega arith))
    ∙ ap (λ (len : ℕ). made base file at len (Jump (at + 4) k likely)) (near-length base at file rest bytes)
    ∙ ours base at 2 file (Jump (at + 4) k likely) (near-ours base at file rest (at + 4) k likely bytes)
site-is base file CallBlock i at rest low bytes = ours base at 5 file (Call 2) (call-ours base at file rest bytes)
site-is base file TraceBlock i at rest low bytes = ours base at 5 file Trace (trace-ours base at file rest bytes)
site-is base file TailCall i at rest low bytes =
    let front : List ℕ = 0xe8 ∷ 0x02 ∷ 0x00 ∷ 0x00 ∷ 0x00 ∷ 0xeb ∷ 0x05 ∷ [] in
    let site = drop-further base at 7 file front (0xe9 ∷ (lead 4 (at + 12) 0x401004 ++ rest)) low bytes refl in
    ours base (at + 7) 5 file (Tail 3) (tail-ours base (at + 7) (at + 12) file rest site)

-- those of all blocks
pub sites-are : (base : ℕ) (file : List ℕ) (left i at : ℕ) → Stands base file left i at → map (site_of base file jump_keys call_keys) (entries_from left i at) ≡ made_from left i at
sites-are base file zero i at st = refl
sites-are base file (suc left) i at st =
    let b = block_of i in
    let later = at + block_len b in
    let first = site-is base file b i at (text_from left (i + 1) later) st.from st.bytes in
    ap (λ (s : Site). s ∷ map (site_of base file jump_keys call_keys) (entries_from left (i + 1) later)) first
    ∙ ap (λ (ss : List Site). block_made b i at ∷ ss) (sites-are base file left (i + 1) later (stands-next base file left i at st))

-- ---- the conditions on entries

-- an entry's room is in its block
room : (b : Block) (i at : ℕ) → (block_entry b i at).at + room_of (block_entry b i at).kind ≤ at + block_len b
room FarSwitch i at = omega arith
room NearSwitch i at = omega arith
room CallBlock i at = omega arith
room TraceBlock i at = omega arith
room TailCall i at = omega arith

-- and so it is in the text
pub room-inside : (base : ℕ) (file : List ℕ) (left i at : ℕ) → Stands base file (suc left) i at → (block_entry (block_of i) i at).at + room_of (block_entry (block_of i) i at).kind ≤ base + length file
room-inside base file left i at st =
    let fits = room (block_of i) i at in
    let later = (stands-next base file left i at st).whole in
    omega (arith, fits, later)

-- a switch has two or five bytes
good : (base : ℕ) (file : List ℕ) (b : Block) (i at : ℕ) (rest : List ℕ) → drop (at - base) file ≡ block_bytes b at ++ rest → IsBadLength (length_at base file (block_entry b i at).at) (block_entry b i at).kind → ⊥
good base file FarSwitch i at rest bytes bad = bad.1 (far-length base at file rest bytes)
good base file NearSwitch i at rest bytes bad = bad.0 (near-length base at file rest bytes)
good base file CallBlock i at rest bytes bad = bad
good base file TraceBlock i at rest bytes bad = bad
good base file TailCall i at rest bytes bad = bad

pub good-length : (base : ℕ) (file : List ℕ) (left i at : ℕ) → Stands base file (suc left) i at → IsBadLength (length_at base file (block_entry (block_of i) i at).at) (block_entry (block_of i) i at).kind → ⊥
good-length base file left i at st =
    good base file (block_of i) i at (text_from left (i + 1) (at + block_len (block_of i))) st.bytes
