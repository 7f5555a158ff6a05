-- How many keys there are: no more than entries.
use Rattle.std.proofs.Common.{◌≤◌, ◌+◌, ℕ, List, [], ◌∷◌, length, map, arith}
use Rattle.std.proofs.lemmas.List.{length-append, length-map}
use Rattle.elf_module.specs.Elf.{Elf}
use Rattle.module_parts.specs.declared.entry.Entry.{Entry}
use Rattle.module_parts.specs.declared.entry.EntryKind.{EntryKind}
use Rattle.module_parts.specs.declared.entry.EntryKind.TheVariants.{Jump as JumpEntry, Call as CallEntry, Tail as TailEntry, Trace as TraceEntry}
use Rattle.module_parts.specs.declared.key.KeyClass.TheVariants.{Jump as JumpKey, Call as CallKey}
use Rattle.module_names.specs.Entries.{entries}
use Rattle.module_names.specs.Keys.{gathered, key_addresses, key_in, key_of, keys, with_named}
use Rattle.module_image.specs.Refusals.{Passes, past_site_count}
use Rattle.module_image.proofs.Passed.{few_entries}
use Rattle.module_names.proofs.Rising.{length-with_key}

-- an entry names one key, of one class, or none
few_named : (kind : EntryKind) (js cs : List ℕ) → length (with_named (key_in JumpKey kind) js) + length (with_named (key_in CallKey kind) cs) ≤ length js + length cs + 1
few_named (JumpEntry target key likely) js cs = (let more = length-with_key key js in omega (arith, more))
few_named (CallEntry key) js cs = (let more = length-with_key key cs in omega (arith, more))
few_named (TailEntry key) js cs = (let more = length-with_key key cs in omega (arith, more))
few_named TraceEntry js cs = omega arith

few_gathered : (es : List Entry) (js cs : List ℕ) → length (gathered JumpKey es js) + length (gathered CallKey es cs) ≤ length js + length cs + length es
few_gathered [] js cs = omega arith
few_gathered (e ∷ es) js cs =
    let first = few_named e.kind js cs in
    let rest = few_gathered es (with_named (key_in JumpKey e.kind) js) (with_named (key_in CallKey e.kind) cs) in
    omega (arith, first, rest)

pub few_keys : (elf : Elf) → Passes elf past_site_count → length (keys elf) ≤ 1024
few_keys elf passes =
    let none : List ℕ = [] in
    let jumps = map (key_of elf.sections JumpKey) (key_addresses elf JumpKey) in
    let calls = map (key_of elf.sections CallKey) (key_addresses elf CallKey) in
    let both = length-append jumps calls in
    let of_jumps = length-map (key_addresses elf JumpKey) (key_of elf.sections JumpKey) in
    let of_calls = length-map (key_addresses elf CallKey) (key_of elf.sections CallKey) in
    let few = few_gathered (entries elf) none none in
    let most = few_entries elf passes in
    omega (arith, both, of_jumps, of_calls, few, most)
