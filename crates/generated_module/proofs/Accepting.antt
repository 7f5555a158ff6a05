-- No condition of a refusal holds of the file that is written of a generated module's plan.
use Rattle.std.proofs.Common.{◌≡◌, ◌<◌, ◌≤◌, ◌+◌, ◌*◌, ◌∙◌, ◌++◌, inl, inr, ℕ, zero, suc, false, List, [], ◌∷◌, length, map, slice_get, Option, Some, None, refl, sym, ap, subst, arith, true≢false}
use Rattle.std.specs.List.{AllByRecursion as Each}
use Rattle.std.proofs.lemmas.List.{length-append, map-append}
use Rattle.std.proofs.lemmas.Option.{none-some}
use Rattle.elf_module.specs.Elf.{Elf, SectionRecord}
use Rattle.elf_build.specs.declared.generation.Block.{Block}
use Rattle.elf_build.specs.declared.generation.Block.TheVariants.{FarSwitch, NearSwitch, Call as CallBlock, Trace as TraceBlock, TailCall}
use Rattle.elf_build.specs.declared.plan.Plan.{Plan}
use Rattle.elf_build.specs.declared.plan.PlanFunction.{PlanFunction}
use Rattle.elf_build.specs.declared.sections.Part.TheVariants.{Text}
use Rattle.elf_build.specs.File.{file_of}
use Rattle.elf_build.specs.Generated.{IsGenerated, block_bytes, block_len, block_of, blocks, functions_of, text_from, text_of}
use Rattle.elf_build.proofs.Generates.{generated-fits}
use Rattle.site_tables.specs.declared.entries.TableKind.{TableKind}
use Rattle.site_tables.specs.declared.entries.TableKind.TheVariants.{Jump as JumpTable, Call as CallTable, Trace as TraceTable}
use Rattle.site_tables.specs.Found.{IsFirstBadTable}
use Rattle.written_module.specs.Written.{ReadsBack, section_of_part}
use Rattle.written_module.proofs.ReadBack.{reads-back}
use Rattle.module_parts.specs.declared.entry.Entry.{Entry}
use Rattle.module_parts.specs.declared.key.Key.{Key}
use Rattle.module_parts.specs.declared.key.KeyClass.TheVariants.{Jump as JumpKey, Call as CallKey}
use Rattle.module_parts.specs.declared.refused.Refused.{Refused}
use Rattle.module_parts.specs.declared.refused.Refused.TheVariants.{TextCount, TextSize, Table, SiteCount, SiteOutside, SiteLength, SiteOverlap, KeyOutside, KeyState, NoReach, TracerMissing, Undecoded, BadTarget, EndFalls, NoMemory}
use Rattle.module_parts.specs.declared.site.Site.{Site}
use Rattle.module_parts.specs.declared.unit.Aim.{Aim}
use Rattle.module_image.specs.Aims.{IsFirstBad, IsFirstBadOf, IsPlainAim, jump_aims, key_aims, plain_target}
use Rattle.module_image.specs.Aims.IsFirstBadOf.{of_plain, of_jumps, of_keys, of_functions}
use Rattle.module_names.specs.Entries.{base, entries, file_text, length_at, text_section}
use Rattle.module_image.specs.First.{HasNone}
use Rattle.module_names.specs.Keys.{key_addresses, keys}
use Rattle.module_image.specs.Layout.{IsFalling, IsStart, IsUndecoded, Layout, laid, layout, text_end, unit_at, unit_len}
use Rattle.module_image.specs.Layout.IsStart.{the_first}
use Rattle.module_names.specs.Names.{Named, functions}
use Rattle.module_image.specs.Refusals.{HasBadLength, HasBadSize, HasBadState, Holds, IsBadLength, IsBadText, IsKeyOutside, IsOutOfReach, IsOutside, IsOutsideOf, Passes, function_aims, order, past_all, past_site_overlap}
use Rattle.module_image.specs.Sites.{ascending, overlap_after, site_of, sites, starts_of, text}
use Rattle.module_image.specs.Text.{AreInside}
use Rattle.module_image.proofs.Firsts.{none_first}
use Rattle.module_image.proofs.SiteLaws.{few_sites, sites_apart_passed}
use Rattle.module_image.proofs.Sound.{call_lens_passed, inside_passed}
use Rattle.module_image.proofs.TextLength.{length_text}
use Rattle.module_laws.proofs.WrittenSites.{sites_kept}
use Rattle.generated_module.specs.Accepted.{GeneratedAreAccepted, elf_of}
use Rattle.generated_module.proofs.Each.{each-append, each-at, each-more, none-each}
use Rattle.generated_module.proofs.Pieces.{Among, Chain, PieceAt, ends, known, piece-at, starts}
use Rattle.generated_module.proofs.Units.{IsWritten}
use Rattle.generated_module.proofs.Blocks.{Stands, length-block, made-own, made_from}
use Rattle.generated_module.proofs.Chains.{chain-of, pieces_of}
use Rattle.generated_module.proofs.EntryLists.{block_calls, block_entry, block_jumps, block_traces, call-table, calls_from, each-standing, entry-after, jump-table, jumps_from, trace-table, traces_from}
use Rattle.generated_module.proofs.FileKeys.{call-addresses, good-states, jump-addresses, keys-are, keys-inside, made_keys}
use Rattle.generated_module.proofs.FileNames.{functions-are, named, tracer-is}
use Rattle.generated_module.proofs.FileSections.{base-is, entries-are, file-text-is, one-text, text-is, whole-tables}
use Rattle.generated_module.proofs.KeyLists.{call_keys, jump_keys}
use Rattle.generated_module.proofs.MadeSites.{good-length, room-inside, sites-are}
use Rattle.generated_module.proofs.SiteOrder.{in-order}
use Rattle.generated_module.proofs.Targets.{LeadsTo, all-lead, all-reach, ends-well, functions-start, length-made, no-overlap, sites-lead}

-- ---- how long the text is

-- a block has at most twelve bytes
block-most : (b : Block) → block_len b ≤ 12
block-most FarSwitch = omega arith
block-most NearSwitch = omega arith
block-most CallBlock = omega arith
block-most TraceBlock = omega arith
block-most TailCall = omega arith

-- so the blocks that are left, with what stands after them, have at most so many
text-most : (left i at : ℕ) → length (text_from left i at) ≤ 12 * left + 11
text-most zero i at = omega arith
text-most (suc left) i at =
    let b = block_of i in
    let rest = text_from left (i + 1) (at + block_len b) in
    let one = length-block b at in
    let most = block-most b in
    let sum = length-append (block_bytes b at) rest in
    let later = text-most left (i + 1) (at + block_len b) in
    omega (arith, one, most, sum, later)

-- the blocks stand after the functions
pub first-stands : (n : ℕ) → n ≤ 1000 → Stands 0x401000 (text_of n) n 0 blocks
first-stands n many =
    let most = text-most n 0 blocks in
    let sum : length (text_of n) ≡ 17 + length (text_from n 0 blocks) = omega arith in
    record { from = omega arith; start = omega arith; bytes = refl; whole = omega (arith, sum); small = omega (arith, most, sum, many) }

-- ---- the sites and the layout

module _ (n : ℕ) (few : 10 ≤ n) (many : n ≤ 1000) (plan : Plan) (made : IsGenerated n plan) (back : ReadsBack plan) where
  abbrev elf : Elf
  elf = elf_of (file_of plan)

  stands : Stands 0x401000 (text_of n) n 0 blocks
  stands = first-stands n many

  -- the sites are those of the blocks, in order
  pub found-sites : sites elf ≡ made_from n 0 blocks
  found-sites =
      let base_is = base-is n plan made back in
      let text_is = file-text-is n plan made back in
      let jump_is = jump-addresses n few plan made back in
      let call_is = call-addresses n few plan made back in
      let list_is = entries-are n plan made back in
      let f : Entry → Site = site_of 0x401000 (text_of n) jump_keys call_keys in
      let js = jumps_from n 0 blocks in
      let cs = calls_from n 0 blocks in
      let ts = traces_from n 0 blocks in
      (λ i. ascending (map (site_of (base_is i) (text_is i) (jump_is i) (call_is i)) (list_is i)))
      ∙ ap ascending (map-append f js (cs ++ ts) ∙ ap (λ (ss : List Site). map f js ++ ss) (map-append f cs ts))
      ∙ in-order 0x401000 (text_of n) jump_keys call_keys n 0 blocks
      ∙ sites-are 0x401000 (text_of n) n 0 blocks stands

  -- ---- the conditions on tables, entries and sites

  -- the text has bytes, and not too many
  bad-text : (size : ℕ) → IsBadText (text_section elf) size → ⊥
  bad-text size bad =
      let there : HasBadSize (section_of_part plan 1 Text) × (size ≡ length plan.text.items) =
      subst (λ (o : Option SectionRecord). IsBadText o size) (text-is n plan made back) bad in
      let same : length plan.text.items ≡ length (text_of n) = ap (λ (bytes : List ℕ). length bytes) made.text in
      let whole = stands.whole in
      let small = stands.small in
      let place = made.base in
      elim there.0 [
        | inl empty ↦ absurd (omega (arith, empty, same, whole))
        | inr other ↦ elim other [
          | inl long ↦ absurd (omega (arith, long, same, small))
          | inr past ↦ absurd (omega (arith, past, same, small, place))
        ]
      ]

  -- the tables are whole entries
  bad-table : (kind : TableKind) → IsFirstBadTable elf.sections kind → ⊥
  bad-table JumpTable bad = bad (whole-tables n plan made back JumpTable)
  bad-table CallTable bad = bad.1 (whole-tables n plan made back CallTable)
  bad-table TraceTable bad = bad.2 (whole-tables n plan made back TraceTable)

  -- there are as many entries as blocks
  count-is : length (entries elf) ≡ n
  count-is =
      sym (few_sites (site_of (base elf) (file_text elf) (key_addresses elf JumpKey) (key_addresses elf CallKey)) (entries elf))
      ∙ ap (λ (ss : List Site). length ss) found-sites ∙ length-made n 0 blocks

  -- what holds of each block's entry holds of each entry
  each-entry : (P : Entry → Type 0) → ((left i at : ℕ) → Stands 0x401000 (text_of n) (suc left) i at → P (block_entry (block_of i) i at)) → Each P (entries elf)
  each-entry P has =
      let js = jumps_from n 0 blocks in
      let cs = calls_from n 0 blocks in
      let ts = traces_from n 0 blocks in
      let all = each-append P js (cs ++ ts) (each-standing block_jumps jump-table P 0x401000 (text_of n) has n 0 blocks stands) (each-append P cs ts (each-standing block_calls call-table P 0x401000 (text_of n) has n 0 blocks stands) (each-standing block_traces trace-table P 0x401000 (text_of n) has n 0 blocks stands)) in
      subst (Each P) (sym (entries-are n plan made back)) all

  -- each lies in the text
  none-outside : HasNone (IsOutside elf) (entries elf)
  none-outside =
      let P : Entry → Type 0 = λ (e : Entry). IsOutsideOf 0x401000 (length (text_of n)) e → ⊥ in
      let each : Each P (entries elf) = each-entry P (λ left i at st out. elim out [
        | inl low ↦ (let after = entry-after (block_of i) i at in let from = st.from in absurd (omega (arith, low, after, from)))
        | inr high ↦ (let room = room-inside 0x401000 (text_of n) left i at st in absurd (omega (arith, high, room)))
      ]) in
      let base_is = base-is n plan made back in
      let text_is = file-text-is n plan made back in
      none-each (IsOutside elf) (entries elf) (each-more P (λ (e : Entry). IsOutside elf e → ⊥) (entries elf) (λ e not out. not (subst (λ (at : ℕ). IsOutsideOf at (length (text_of n)) e) base_is (subst (λ (bytes : List ℕ). IsOutsideOf (base elf) (length bytes) e) text_is out))) each)

  -- each jump has two or five bytes
  none-long : HasNone (HasBadLength elf) (entries elf)
  none-long =
      let base_is = base-is n plan made back in
      let text_is = file-text-is n plan made back in
      let P : ℕ → List ℕ → Entry → Type 0 = λ (at : ℕ) (bytes : List ℕ) (e : Entry). IsBadLength (length_at at bytes e.at) e.kind → ⊥ in
      let each : Each (P 0x401000 (text_of n)) (entries elf) = each-entry (P 0x401000 (text_of n)) (good-length 0x401000 (text_of n)) in
      none-each (HasBadLength elf) (entries elf) (each-more (P 0x401000 (text_of n)) (P (base elf) (file_text elf)) (entries elf) (λ e not bad. not (subst (λ (at : ℕ). IsBadLength (length_at at (text_of n) e.at) e.kind) base_is (subst (λ (bytes : List ℕ). IsBadLength (length_at (base elf) bytes e.at) e.kind) text_is bad))) each)

  -- no site begins before the one before it ends
  no-overlaps : overlap_after 0 (sites elf) ≡ None
  no-overlaps = ap (overlap_after 0) found-sites ∙ no-overlap n 0 blocks 0 (omega arith)

  -- no condition up to that on overlaps
  early : (why : Refused) → order why < past_site_overlap → Holds elf why → ⊥
  early (TextCount count) before holds = holds.0 (one-text n plan made back)
  early (TextSize size) before holds = bad-text size holds
  early (Table kind size) before holds = bad-table kind holds.0
  early (SiteCount count) before holds = (let is = count-is in let over = holds.0 in absurd (omega (arith, is, over, many)))
  early (SiteOutside at) before holds = none_first (IsOutside elf) (entries elf) holds.0 none-outside holds.1
  early (SiteLength at) before holds = none_first (HasBadLength elf) (entries elf) holds.0 none-long holds.1
  early (SiteOverlap at) before holds = none-some at (sym no-overlaps ∙ holds)
  early _ before holds = absurd (omega (arith, before))

  early-passes : Passes elf past_site_overlap
  early-passes = record { none = early }

  -- ---- the text

  -- the text with its sites
  abbrev swept : Layout
  swept = laid 0x401000 (text elf) (made_from n 0 blocks)

  layout-is : layout elf ≡ swept
  layout-is = (let base_is = base-is n plan made back in let sites_are = found-sites in λ i. laid (base_is i) (text elf) (sites_are i))

  -- it is the file's, but for the bytes of the sites
  written-file : IsWritten (layout elf) (file_text elf)
  written-file =
      let same = length_text elf early-passes in
      let inside = inside_passed elf early-passes in
      record {
        same = same;
        kept = λ at len low off.
            sites_kept (base elf) (length (file_text elf)) (starts_of (keys elf)) (sites elf) (file_text elf) at len refl inside (call_lens_passed elf) low (λ i s get own. off i s get);
        inside = subst (λ (size : ℕ). AreInside (base elf) size (sites elf)) (sym same) inside;
        apart = sites_apart_passed elf early-passes;
        own = subst (λ (ss : List Site). (i : ℕ) (s : Site) → slice_get ss i ≡ Some s → s.foreign ≡ false) (sym found-sites)
            (λ i s get. each-at (λ (s : Site). s.foreign ≡ false) (made_from n 0 blocks) i s (made-own n 0 blocks) get);
      }

  written-text : IsWritten swept (text_of n)
  written-text =
      subst (IsWritten swept) (file-text-is n plan made back) (subst (λ (t : Layout). IsWritten t (file_text elf)) layout-is written-file)

  short-text : length (text_of n) ≤ 0xf000
  short-text = (let small = stands.small in omega (arith, small))

  -- its units
  chained : Chain swept 0x401000 (pieces_of n)
  chained = chain-of n (text elf) written-text short-text

  some-text : 0x401000 < text_end swept
  some-text = (let same = written-text.same in let whole = stands.whole in omega (arith, same, whole))

  -- what the starts are
  is-start : (b : ℕ) → Among b (pieces_of n) → IsStart swept b
  is-start b there = starts swept 0x401000 (pieces_of n) chained (λ below. the_first) b there

  start-unit : (b : ℕ) → IsStart swept b → PieceAt swept (LeadsTo (IsStart swept)) b
  start-unit b start =
      piece-at swept 0x401000 (pieces_of n) (LeadsTo (IsStart swept)) b chained (all-lead (IsStart swept) n is-start) (known swept (pieces_of n) chained some-text b start)

  decoded : (at : ℕ) → IsUndecoded swept at → ⊥
  decoded at bad =
      let unit = start-unit at bad.start in
      let len : unit_len swept (unit_at swept at) ≡ unit.piece.len = ap (λ (a : ℕ). unit_len swept (unit_at swept a)) (sym unit.at) ∙ unit.is.len in
      let long = unit.is.long in
      let missing = bad.missing in
      absurd (omega (arith, len, long, missing))

  falls : (at : ℕ) → IsFalling swept at → ⊥
  falls at bad =
      true≢false (sym (ends swept 0x401000 (pieces_of n) at chained (ends-well n) (known swept (pieces_of n) chained some-text at bad.start) bad.last) ∙ bad.falls)

  -- where things lead
  plain-leads : (aim : Aim) → IsPlainAim swept aim → IsStart swept aim.to
  plain-leads aim is =
      let unit = start-unit aim.from is.start in
      let to : unit.piece.target ≡ Some aim.to = sym unit.is.target ∙ ap (λ (a : ℕ). plain_target (unit_at swept a)) unit.at ∙ is.leads in
      unit.has aim.to to

  not-first : (aims : List Aim) (aim : Aim) → Each (λ (a : Aim). IsStart swept a.to) aims → IsFirstBad swept aims aim → ⊥
  not-first aims aim all bad = bad.bad (each-at (λ (a : Aim). IsStart swept a.to) aims bad.place aim all bad.here)

  jumps-lead : Each (λ (a : Aim). IsStart swept a.to) (jump_aims (sites elf))
  jumps-lead = subst (λ (ss : List Site). Each (λ (a : Aim). IsStart swept a.to) (jump_aims ss)) (sym found-sites) (sites-lead (IsStart swept) n is-start)

  keys-lead : Each (λ (a : Aim). IsStart swept a.to) (key_aims (keys elf))
  keys-lead =
      subst (λ (ks : List Key). Each (λ (a : Aim). IsStart swept a.to) (key_aims ks)) (sym (keys-are n few plan made back))
      (is-start 0x401000 (inl refl), (is-start 0x401004 (inr (inr (inl refl))), tt))

  named-start : (fs : List PlanFunction) → Each (λ (f : PlanFunction). IsStart swept f.at) fs → Each (λ (a : Aim). IsStart swept a.to) (function_aims (map named fs ++ []))
  named-start [] all = tt
  named-start (f ∷ fs) all = (all.0, named-start fs all.1)

  functions-lead : Each (λ (a : Aim). IsStart swept a.to) (function_aims (functions elf))
  functions-lead =
      subst (λ (ns : List Named). Each (λ (a : Aim). IsStart swept a.to) (function_aims ns)) (sym (functions-are n few plan made back))
      (named-start (functions_of n) (functions-start (IsStart swept) n is-start))

  -- nothing leads astray
  no-bad : (aim : Aim) → IsFirstBadOf swept (jump_aims (sites elf)) (key_aims (keys elf)) (function_aims (functions elf)) aim → ⊥
  no-bad aim (of_plain bad) = bad.bad (plain-leads aim bad.is)
  no-bad aim (of_jumps plain bad) = not-first (jump_aims (sites elf)) aim jumps-lead bad
  no-bad aim (of_keys plain jumps bad) = not-first (key_aims (keys elf)) aim keys-lead bad
  no-bad aim (of_functions plain jumps keys bad) = not-first (function_aims (functions elf)) aim functions-lead bad

  -- ---- all of them

  -- each key's bytes are loaded, no count is negative, and each jump of two bytes reaches its target
  none-unloaded : HasNone (IsKeyOutside elf) (keys elf)
  none-unloaded =
      subst (λ (ks : List Key). HasNone (IsKeyOutside elf) ks) (sym (keys-are n few plan made back)) (none-each (IsKeyOutside elf) made_keys (keys-inside n few plan made back))

  none-negative : HasNone HasBadState (keys elf)
  none-negative = subst (λ (ks : List Key). HasNone HasBadState ks) (sym (keys-are n few plan made back)) (none-each HasBadState made_keys good-states)

  none-far : HasNone IsOutOfReach (sites elf)
  none-far =
      subst (λ (ss : List Site). HasNone IsOutOfReach ss) (sym found-sites) (none-each IsOutOfReach (made_from n 0 blocks) (all-reach 0x401000 (text_of n) n 0 blocks stands))

  -- no condition holds
  refuted : (why : Refused) → order why < past_all → Holds elf why → ⊥
  refuted (KeyOutside at) before holds = none_first (IsKeyOutside elf) (keys elf) holds.0 none-unloaded holds.1
  refuted (KeyState at) before holds = none_first HasBadState (keys elf) holds.0 none-negative holds.1
  refuted (NoReach at) before holds = none_first IsOutOfReach (sites elf) holds.0 none-far holds.1
  refuted (TracerMissing at) before holds = none-some 0x401008 (sym holds.0 ∙ tracer-is n few plan made back)
  refuted (Undecoded at) before holds = decoded at (subst (λ (t : Layout). IsUndecoded t at) layout-is holds)
  refuted (BadTarget from to) before holds =
      no-bad (record { from = from; to = to }) (subst (λ (t : Layout). IsFirstBadOf t (jump_aims (sites elf)) (key_aims (keys elf)) (function_aims (functions elf)) (record { from = from; to = to })) layout-is holds)
  refuted (EndFalls at) before holds = falls at (subst (λ (t : Layout). IsFalling t at) layout-is holds)
  refuted NoMemory before holds = holds
  refuted (TextCount count) before holds = early (TextCount count) (omega arith) holds
  refuted (TextSize size) before holds = early (TextSize size) (omega arith) holds
  refuted (Table kind size) before holds = early (Table kind size) (omega arith) holds
  refuted (SiteCount count) before holds = early (SiteCount count) (omega arith) holds
  refuted (SiteOutside at) before holds = early (SiteOutside at) (omega arith) holds
  refuted (SiteLength at) before holds = early (SiteLength at) (omega arith) holds
  refuted (SiteOverlap at) before holds = early (SiteOverlap at) (omega arith) holds

  pub passes-all : Passes elf past_all
  passes-all = record { none = refuted }

-- the plan fits, so its file reads back
pub accepted : GeneratedAreAccepted
accepted n plan few many made = passes-all n few many plan made (reads-back plan (generated-fits n plan many made))
