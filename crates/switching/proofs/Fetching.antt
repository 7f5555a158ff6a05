-- What a processor that fetches at a patched site finds: a breakpoint, or a form whole.
use Rattle.std.proofs.Common.{◌≡◌, ◌≢◌, ◌∙◌, ◌+◌, ◌<◌, ◌≤◌, ◌==◌, ◌&&◌, ◌||◌, ◌⊎◌, inl, inr, ℕ, zero, suc, IsSome, Bool, true, false, if◌then◌else◌, List, [], ◌∷◌, ◌++◌, length, Contains, find, Option, Some, None, slice_get, slice_index, slice_index_or, refl, sym, ap, subst, arith, append-nil}
use Rattle.std.specs.Option.{is_some}
use Rattle.std.proofs.lemmas.Bool.Decides.{Decides-eqb}
use Rattle.insn_forms.proofs.Spellings.{size_pos}
use Rattle.std.proofs.lemmas.List.Elements.{Contains-append_cases}
use Rattle.insn_forms.specs.declared.forms.Change.{Change}
use Rattle.insn_forms.specs.declared.forms.Form.{Form}
use Rattle.insn_forms.specs.History.{IsCandidate, byte, written}
use Rattle.insn_forms.specs.Spelling.{size, spell}
use Rattle.insn_forms.specs.Write.{Write}
use Rattle.x64_subset.specs.Whole.{name}
use Rattle.cpu_core.specs.Fetch.{AreCandidates, IsFetch}
use Rattle.cpu_core.specs.Turn.{CpuState}
use Rattle.poke_batch.specs.Poke.{spelled}
use Rattle.poke_batch.specs.Underway.{IsSpellable}
use Rattle.poke_batch.specs.Walk.{Walk}
use Rattle.key_state.specs.Changes.{AreStatesOf}
use Rattle.module_image.specs.Layout.{site_at}
use Rattle.module_image.specs.Module.{IsAccepted, Module, States}
use Rattle.switching.specs.State.{Cpu, start, text_end}
use Rattle.switching.specs.Switching.{AsNew, AsOld, IsInOrder, PassKind, Unchanged, change_at, form_of, has_passed, noted, pass_by, wanted_at, with_new}
use Rattle.switching.specs.Table.{IsInTable}
use Rattle.switching.proofs.Changed.{IsChanged, changed_spellable}
use Rattle.switching.proofs.Chunk.{IsBeside, candidate_beside, chunk_beside, chunk_taken, chunk_within, trap_now, trap_stays}
use Rattle.switching.proofs.Fetched.{FetchIs, fetch_in_chunk, fetch_of_form, fetch_of_trap}
use Rattle.switching.proofs.Invariant.{Closed, CpuFacts, IsCurrent, IsElsewhere, Opened, Stands, count, joined, open_changes}
use Rattle.switching.proofs.Lookups.{Found, found, missed, look, none_in, with_new-missed}
use Rattle.switching.proofs.NamedBytes.{is_named_so, is_old_named}
use Rattle.switching.proofs.Names.{name_not_trap}
use Rattle.switching.proofs.Parts.{all_changed, beside_site, chunk_not_later, finished_not_chunk, finished_not_later, in_chunk, in_finished, in_later, now_finished, now_later, poked}
use Rattle.switching.proofs.Patched.{site_of, wanted_there}
use Rattle.switching.proofs.Patching.{count_zero}
use Rattle.switching.proofs.Rounds.{IsPoked, round}
use Rattle.switching.proofs.Writes.{candidate_last}

-- ---- what a processor owes after its turn

abbrev pub CpuOk : (m : Module) (ws : List Write) (cpus : List Cpu) (states : States) (forms : ℕ → Form) (passed : List (ℕ × ℕ)) (opened : Option Walk) → Stands m ws cpus states forms passed opened → List (ℕ × ℕ) → ℕ → Cpu → Type 0
CpuOk m ws cpus states forms passed None st after c p = IsCurrent ws p × (after ≡ [])
CpuOk m ws cpus states forms passed (Some u) o after c p =
    CpuFacts (start m) ws o.place.past u.chunk (joined u.later) after c (slice_index_or u.took c false) (count (slice_index_or u.took c false) o.place.r) p

-- a pass as new is noted
pub passed_one : (passed : List (ℕ × ℕ)) (c at other : ℕ) → other ≢ at → has_passed ((c, at) ∷ passed) c other ≡ true → has_passed passed c other ≡ true
passed_one passed c at other differs has = by (at == other) refl (c == c) has
  where
    by : (b : Bool) → (at == other) ≡ b → (d : Bool) → ((d && (at == other)) || has_passed passed c other) ≡ true → has_passed passed c other ≡ true
    by true e d has = absurd (differs (sym ((Decides-eqb at other).0 e)))
    by false e true has = ap (λ (b : Bool). b || has_passed passed c other) (sym e) ∙ has
    by false e false has = has

module _ (m : Module) (ws : List Write) (cpus : List Cpu) (states : States) (forms : ℕ → Form) (passed : List (ℕ × ℕ)) (u : Walk) (accepted : IsAccepted m) (now : AreStatesOf m states) (o : Opened m ws cpus states forms passed u) where
  -- the lemmas on parts, of this update
  pub is_changed : (k : Change) → Contains u.changes k → IsChanged m o.parts.before states k
  is_changed = all_changed m states u.changes o.finished u.chunk (joined u.later) accepted now o.parts

  chunk_is : IsPoked u.chunk
  chunk_is = poked m states u.changes o.finished u.chunk (joined u.later) accepted now o.parts

  -- a byte of a site of the chunk has the candidates of the table
  pub in_table : (c : ℕ) (p : Cpu) (k : Change) (j value : ℕ) → slice_get cpus c ≡ Some p → Contains u.chunk k → j < size k.old → IsCandidate (start m) ws p.mark (k.at + j) value → IsInTable (count (slice_index_or u.took c false) o.place.r) k j value
  in_table c p k j value here has below stood = by (slice_index_or u.took c false) refl
    where
      facts : CpuFacts (start m) ws o.place.past u.chunk (joined u.later) passed c (slice_index_or u.took c false) (count (slice_index_or u.took c false) o.place.r) p
      facts = o.cpus_are.each c p here

      by : (took : Bool) → slice_index_or u.took c false ≡ took → IsInTable (count took o.place.r) k j value
      by false e =
          chunk_within (start m) o.place.past o.place.done o.place.todo o.place.r u.chunk p.mark k j value chunk_is o.place.split o.bytes facts.from has below
          (subst (λ (xs : List Write). IsCandidate (start m) xs p.mark (k.at + j) value) o.place.writes stood)
      by true e =
          let over = (o.place.asked (o.cpus_are.asked c e)).0 in
          let split : round o.place.r u.chunk ≡ o.place.done = o.place.split ∙ ap (λ (xs : List Write). o.place.done ++ xs) over ∙ append-nil o.place.done in
          chunk_taken (start m) o.place.past o.place.done o.place.r u.chunk p.mark k j value chunk_is split o.bytes
          (subst (λ (xs : List Write). length xs ≤ p.mark) o.place.writes (facts.current e)) has below
          (subst (λ (xs : List Write). IsCandidate (start m) xs p.mark (k.at + j) value) o.place.writes stood)

  -- a byte beside the chunk's sites has one, and that has stood since the round began
  pub one_beside : (c : ℕ) (p : Cpu) (at value : ℕ) → slice_get cpus c ≡ Some p → IsBeside u.chunk at → IsCandidate (start m) ws p.mark at value → value ≡ written ws (start m) at
  one_beside c p at value here beside stood =
      candidate_beside (start m) o.place.past o.place.done o.place.todo o.place.r u.chunk p.mark at value chunk_is o.place.split (o.cpus_are.each c p here).from beside
      (subst (λ (xs : List Write). IsCandidate (start m) xs p.mark at value) o.place.writes stood)
      ∙ ap (λ (xs : List Write). written xs (start m) at) (sym o.place.writes)

  pub held_beside : (at : ℕ) → IsBeside u.chunk at → written ws (start m) at ≡ written o.place.past (start m) at
  held_beside at beside =
      ap (λ (xs : List Write). written xs (start m) at) o.place.writes
      ∙ chunk_beside (start m) o.place.past o.place.done o.place.todo o.place.r u.chunk at chunk_is o.place.split beside

  -- a site that isn't of the chunk is fetched as the form that it holds
  other_fetch : (c : ℕ) (p : Cpu) (at n : ℕ) (bytes : List ℕ) (form : Form) → slice_get cpus c ≡ Some p → (is : site_at m.sites at ≡ Some n) → IsElsewhere u.chunk at → with_new o.finished (wanted_at m o.parts.before) at ≡ form → IsSome (spell form at) → size form ≡ (site_of m at n accepted is).site.len → IsFetch (text_end m) at bytes → AreCandidates (start m) ws p.mark at bytes → name form at ≡ Some bytes
  other_fetch c p at n bytes form here is none form_is spelt size_is fetch stood =
      let there = site_of m at n accepted is in
      let to = there.to in
      fetch_of_form (text_end m) at form bytes spelt (omega (arith, to, size_is)) fetch (λ j value read below.
      let begins = there.begins in
      let none_there : IsElsewhere u.chunk there.site.at = λ k has same. none k has (same ∙ begins) in
      let beside : IsBeside u.chunk (at + j) = subst (λ (a : ℕ). IsBeside u.chunk (a + j)) begins
      (beside_site m states u.changes o.finished u.chunk (joined u.later) accepted now o.parts n there.site j there.here there.ours none_there (omega (arith, below, size_is))) in
      one_beside c p (at + j) value here beside (stood j value read) ∙ held_beside (at + j) beside
      ∙ ap (λ (a : ℕ). written o.place.past (start m) (a + j)) (sym begins)
      ∙ o.text.sites n there.site j there.here there.ours none_there (omega (arith, below, size_is))
      ∙ ap (λ (a : ℕ). slice_index (spelled (with_new o.finished (wanted_at m o.parts.before) a) a) j) begins
      ∙ ap (λ (f : Form). slice_index (spelled f at) j) form_is)

-- what a fetch at a patched site is: a breakpoint, or the form of a pass, in order; and what the processor owes after it
pub data AtIs (m : Module) (ws : List Write) (cpus : List Cpu) (states : States) (forms : ℕ → Form) (passed : List (ℕ × ℕ)) (opened : Option Walk) (st : Stands m ws cpus states forms passed opened) (c : ℕ) (p : Cpu) (at : ℕ) (bytes : List ℕ) : Type 0 where
  hits :
      bytes ≡ 0xcc ∷ []
      → ((q : CpuState) → q.proc.ip ≡ at + 1 → CpuOk m ws cpus states forms passed opened st passed c (record p { state = q }))
      → AtIs m ws cpus states forms passed opened st c p at bytes
  does_form :
      (kind : PassKind) → pass_by (change_at (open_changes opened) at) (forms at) at bytes ≡ kind → name (form_of kind) at ≡ Some bytes
      → IsInOrder kind passed c at → (of : States) → AreStatesOf m of → form_of kind ≡ wanted_at m of at
      → ((q : CpuState) → q.trapped ≡ false → CpuOk m ws cpus states forms passed opened st (noted kind c at passed) c (record p { state = q }))
      → AtIs m ws cpus states forms passed opened st c p at bytes

-- the facts of a processor that isn't trapped, after a pass
pub cpu_passed : (m : Module) (ws past : List Write) (chunk later : List Change) (passed after : List (ℕ × ℕ)) (c : ℕ) (took : Bool) (taken : ℕ) (p : Cpu) (q : CpuState) → q.trapped ≡ false → CpuFacts (start m) ws past chunk later passed c took taken p → ((k : Change) → Contains chunk k → has_passed after c k.at ≡ true → taken ≡ 0 → byte (start m) ws p.mark k.at ≡ 0xcc) → ((k : Change) → Contains later k → has_passed after c k.at ≡ true → ⊥) → CpuFacts (start m) ws past chunk later after c took taken (record p { state = q })
cpu_passed m ws past chunk later passed after c took taken p q free f as_new not_yet = record {
  from = f.from;
  to = f.to;
  current = f.current;
  trap = λ trapped. (let clash : true ≡ false = sym trapped ∙ free in absurd (cc));
  as_new = as_new;
  not_yet = not_yet;
}

-- the facts of one that has hit a breakpoint of the chunk
cpu_hit : (m : Module) (ws past : List Write) (chunk later : List Change) (passed : List (ℕ × ℕ)) (c : ℕ) (took : Bool) (taken : ℕ) (p : Cpu) (q : CpuState) (k : Change) → Contains chunk k → q.proc.ip ≡ k.at + 1 → taken ≤ 2 → (taken ≡ 0 → written ws (start m) k.at ≡ 0xcc) → CpuFacts (start m) ws past chunk later passed c took taken p → CpuFacts (start m) ws past chunk later passed c took taken (record p { state = q })
cpu_hit m ws past chunk later passed c took taken p q k has stands few set f = record {
  from = f.from;
  to = f.to;
  current = f.current;
  trap = λ trapped. record { change = k; has = has; stands = stands; few = few; set = set };
  as_new = f.as_new;
  not_yet = f.not_yet;
}

module _ (m : Module) (ws : List Write) (cpus : List Cpu) (states : States) (forms : ℕ → Form) (passed : List (ℕ × ℕ)) (u : Walk) (accepted : IsAccepted m) (now : AreStatesOf m states) (o : Opened m ws cpus states forms passed u) (c : ℕ) (p : Cpu) (here : slice_get cpus c ≡ Some p) where
  abbrev took : Bool
  took = slice_index_or u.took c false

  abbrev taken : ℕ
  taken = count took o.place.r

  facts : CpuFacts (start m) ws o.place.past u.chunk (joined u.later) passed c took taken p
  facts = o.cpus_are.each c p here

  abbrev Is : ℕ → List ℕ → Type 0
  Is at bytes = AtIs m ws cpus states forms passed (Some u) o c p at bytes

  -- a site that doesn't change
  at_unchanged : (at n : ℕ) (bytes : List ℕ) → site_at m.sites at ≡ Some n → IsFetch (text_end m) at bytes → AreCandidates (start m) ws p.mark at bytes → ((k : Change) → Contains u.changes k → k.at ≡ at → ⊥) → find (λ (k : Change). k.at == at) u.changes ≡ None → Is at bytes
  at_unchanged at n bytes is fetch stood none found_none =
      let wanted = wanted_there m o.parts.before at n accepted o.parts.before_of is in
      let same : forms at ≡ wanted_at m o.parts.before at = o.forms_are at n is in
      let form_is : with_new o.finished (wanted_at m o.parts.before) at ≡ wanted_at m o.parts.before at =
      with_new-missed o.finished (wanted_at m o.parts.before) at (λ k has. none k (in_finished m states u.changes o.finished u.chunk (joined u.later) accepted now o.parts k has)) in
      let named = other_fetch m ws cpus states forms passed u accepted now o c p at n bytes (wanted_at m o.parts.before at) here is
      (λ k has. none k (in_chunk m states u.changes o.finished u.chunk (joined u.later) accepted now o.parts k has)) form_is (ap is_some wanted.spelt) wanted.size_is fetch stood in
      does_form (Unchanged (forms at)) (ap (λ (f : Option Change). pass_by f (forms at) at bytes) found_none)
      (ap (λ (f : Form). name f at) same ∙ named) tt o.parts.before o.parts.before_of same
      (λ q free. cpu_passed m ws o.place.past u.chunk (joined u.later) passed passed c took taken p q free facts facts.as_new facts.not_yet)

  -- a pass of a changed site as new, and as old
  as_new_is : (k : Change) (bytes : List ℕ) → find (λ (d : Change). d.at == k.at) u.changes ≡ Some k → name k.new k.at ≡ Some bytes → pass_by (change_at (Some u.changes) k.at) (forms k.at) k.at bytes ≡ AsNew k.new
  as_new_is k bytes found_it named =
      ap (λ (f : Option Change). pass_by f (forms k.at) k.at bytes) found_it
      ∙ ap (λ (b : Bool). if b then AsNew k.new else AsOld k.old) (is_named_so k.new k.at bytes named)

  as_old_is : (k : Change) (bytes : List ℕ) → IsSpellable k → k.old ≢ k.new → find (λ (d : Change). d.at == k.at) u.changes ≡ Some k → name k.old k.at ≡ Some bytes → pass_by (change_at (Some u.changes) k.at) (forms k.at) k.at bytes ≡ AsOld k.old
  as_old_is k bytes spellable differ found_it named =
      ap (λ (f : Option Change). pass_by f (forms k.at) k.at bytes) found_it
      ∙ ap (λ (b : Bool). if b then AsNew k.new else AsOld k.old) (is_old_named k bytes spellable differ named)

  -- a site of a chunk that is finished
  at_finished : (k : Change) (bytes : List ℕ) → Contains o.finished k → IsFetch (text_end m) k.at bytes → AreCandidates (start m) ws p.mark k.at bytes → find (λ (d : Change). d.at == k.at) u.changes ≡ Some k → Is k.at bytes
  at_finished k bytes has fetch stood found_it =
      let change = is_changed m ws cpus states forms passed u accepted now o k (in_finished m states u.changes o.finished u.chunk (joined u.later) accepted now o.parts k has) in
      let wanted = wanted_there m states k.at change.number accepted now change.found in
      let size_is : size k.new ≡ (site_of m k.at change.number accepted change.found).site.len = ap size change.new ∙ wanted.size_is in
      let named = other_fetch m ws cpus states forms passed u accepted now o c p k.at change.number bytes k.new here change.found
      (λ l also same. finished_not_chunk m states u.changes o.finished u.chunk (joined u.later) accepted now o.parts k l has also (sym same))
      (now_finished m states u.changes o.finished u.chunk (joined u.later) accepted now o.parts (wanted_at m o.parts.before) k has) change.new_spelt size_is fetch stood in
      does_form (AsNew k.new) (as_new_is k bytes found_it named) named tt states now change.new
      (λ q free. cpu_passed m ws o.place.past u.chunk (joined u.later) passed ((c, k.at) ∷ passed) c took taken p q free facts
      (λ l also new none. facts.as_new l also (passed_one passed c k.at l.at (λ same. finished_not_chunk m states u.changes o.finished u.chunk (joined u.later) accepted now o.parts k l has also (sym same)) new) none)
      (λ l also new. facts.not_yet l also (passed_one passed c k.at l.at (λ same. finished_not_later m states u.changes o.finished u.chunk (joined u.later) accepted now o.parts k l has also (sym same)) new)))

  -- a site of a chunk to come
  at_later : (k : Change) (bytes : List ℕ) → Contains (joined u.later) k → IsFetch (text_end m) k.at bytes → AreCandidates (start m) ws p.mark k.at bytes → find (λ (d : Change). d.at == k.at) u.changes ≡ Some k → Is k.at bytes
  at_later k bytes has fetch stood found_it =
      let change = is_changed m ws cpus states forms passed u accepted now o k (in_later m states u.changes o.finished u.chunk (joined u.later) accepted now o.parts k has) in
      let wanted = wanted_there m o.parts.before k.at change.number accepted o.parts.before_of change.found in
      let size_is : size k.old ≡ (site_of m k.at change.number accepted change.found).site.len = ap size change.old ∙ wanted.size_is in
      let named = other_fetch m ws cpus states forms passed u accepted now o c p k.at change.number bytes k.old here change.found
      (λ l also same. chunk_not_later m states u.changes o.finished u.chunk (joined u.later) accepted now o.parts l k also has same)
      (now_later m states u.changes o.finished u.chunk (joined u.later) accepted now o.parts (wanted_at m o.parts.before) k has ∙ sym change.old) change.old_spelt size_is fetch stood in
      does_form (AsOld k.old) (as_old_is k bytes (changed_spellable m o.parts.before states k accepted change) change.differ found_it named) named
      (not_passed (has_passed passed c k.at) refl) o.parts.before o.parts.before_of change.old
      (λ q free. cpu_passed m ws o.place.past u.chunk (joined u.later) passed passed c took taken p q free facts facts.as_new facts.not_yet)
    where
      not_passed : (b : Bool) → has_passed passed c k.at ≡ b → has_passed passed c k.at ≡ false
      not_passed true e = absurd (facts.not_yet k has e)
      not_passed false e = e

  -- a site of the open chunk
  at_chunk : (k : Change) (bytes : List ℕ) → Contains u.chunk k → IsFetch (text_end m) k.at bytes → AreCandidates (start m) ws p.mark k.at bytes → find (λ (d : Change). d.at == k.at) u.changes ≡ Some k → Is k.at bytes
  at_chunk k bytes has fetch stood found_it = by taken refl (fetch_in_chunk (text_end m) k taken bytes spelt change.to fetch (λ j value read below. in_table m ws cpus states forms passed u accepted now o c p k j value here has below (stood j value read)))
    where
      change : IsChanged m o.parts.before states k
      change = is_changed m ws cpus states forms passed u accepted now o k (in_chunk m states u.changes o.finished u.chunk (joined u.later) accepted now o.parts k has)

      spelt : IsSpellable k
      spelt = changed_spellable m o.parts.before states k accepted change

      -- a breakpoint that is fetched before any request of the chunk was taken is there now
      set_now : bytes ≡ 0xcc ∷ [] → taken ≡ 0 → written ws (start m) k.at ≡ 0xcc
      set_now is none =
          let first = count_zero took o.place.r none in
          let at_first : k.at + 0 ≡ k.at = omega arith in
          let stood_there : IsCandidate (start m) ws p.mark k.at 0xcc =
          subst (λ (a : ℕ). IsCandidate (start m) ws p.mark a 0xcc) at_first (stood 0 0xcc (ap (λ (bs : List ℕ). slice_get bs 0) is)) in
          ap (λ (xs : List Write). written xs (start m) k.at) o.place.writes
          ∙ trap_now (start m) o.place.past o.place.done o.place.todo u.chunk p.mark k (chunk_is m ws cpus states forms passed u accepted now o)
          (ap (λ (r : ℕ). round r u.chunk) (sym first.1) ∙ o.place.split) has facts.from
          (subst (λ (xs : List Write). IsCandidate (start m) xs p.mark k.at 0xcc) o.place.writes stood_there)

      hit : bytes ≡ 0xcc ∷ [] → taken ≤ 2 → Is k.at bytes
      hit is few =
          hits is (λ q stands. cpu_hit m ws o.place.past u.chunk (joined u.later) passed c took taken p q k has stands few (set_now is) facts)

      -- one that has passed the site as new doesn't find the old form
      not_passed : taken ≡ 0 → name k.old k.at ≡ Some bytes → (b : Bool) → has_passed passed c k.at ≡ b → has_passed passed c k.at ≡ false
      not_passed none named false e = e
      not_passed none named true e =
          let marked = facts.as_new k has e none in
          let first = count_zero took o.place.r none in
          let split : round 0 u.chunk ≡ o.place.done ++ o.place.todo = ap (λ (r : ℕ). round r u.chunk) (sym first.1) ∙ o.place.split in
          let long = size_pos k.old in
          let to = change.to in
          let trap : bytes ≡ 0xcc ∷ [] = fetch_of_trap (text_end m) k.at bytes (omega (arith, long, to)) fetch (λ value read.
          let at_first : k.at + 0 ≡ k.at = omega arith in
          let had = stood 0 value read in
          sym had.had ∙ ap (λ (a : ℕ). byte (start m) ws had.after a) at_first
          ∙ ap (λ (xs : List Write). byte (start m) xs had.after k.at) o.place.writes
          ∙ trap_stays (start m) o.place.past o.place.done o.place.todo u.chunk k p.mark had.after (chunk_is m ws cpus states forms passed u accepted now o) split has facts.from had.from
          (ap (λ (xs : List Write). byte (start m) xs p.mark k.at) (sym o.place.writes) ∙ marked)) in
          absurd (name_not_trap k.old k.at (named ∙ ap (λ (bs : List ℕ). Some bs) trap))

      as_new : (taken ≡ 0 → ⊥) → name k.new k.at ≡ Some bytes → Is k.at bytes
      as_new some named =
          does_form (AsNew k.new) (as_new_is k bytes found_it named) named tt states now change.new
          (λ q free. cpu_passed m ws o.place.past u.chunk (joined u.later) passed ((c, k.at) ∷ passed) c took taken p q free facts
          (λ l also new none. absurd (some none))
          (λ l also new. facts.not_yet l also (passed_one passed c k.at l.at (λ same. chunk_not_later m states u.changes o.finished u.chunk (joined u.later) accepted now o.parts k l has also (sym same)) new)))

      by : (n : ℕ) → taken ≡ n → FetchIs n k bytes → Is k.at bytes
      by zero e (inr is) = hit is (omega (arith, e))
      by zero e (inl named) =
          does_form (AsOld k.old) (as_old_is k bytes spelt change.differ found_it named) named (not_passed e named (has_passed passed c k.at) refl) o.parts.before o.parts.before_of change.old
          (λ q free. cpu_passed m ws o.place.past u.chunk (joined u.later) passed passed c took taken p q free facts facts.as_new facts.not_yet)
      by (suc zero) e is = hit is (omega (arith, e))
      by (suc (suc zero)) e (inl is) = hit is (omega (arith, e))
      by (suc (suc zero)) e (inr named) = as_new (λ none. absurd (omega (arith, e, none))) named
      by (suc (suc (suc n))) e named = as_new (λ none. absurd (omega (arith, e, none))) named

  -- a site that changes
  at_changed : (k : Change) (bytes : List ℕ) → Contains u.changes k → IsFetch (text_end m) k.at bytes → AreCandidates (start m) ws p.mark k.at bytes → find (λ (d : Change). d.at == k.at) u.changes ≡ Some k → Is k.at bytes
  at_changed k bytes has fetch stood found_it =
      by (Contains-append_cases o.finished (u.chunk ++ joined u.later) k (subst (λ (cs : List Change). Contains cs k) o.parts.parts has))
    where
      rest : Contains u.chunk k ⊎ Contains (joined u.later) k → Is k.at bytes
      rest (inl chunk) = at_chunk k bytes chunk fetch stood found_it
      rest (inr later) = at_later k bytes later fetch stood found_it

      by : Contains o.finished k ⊎ Contains (u.chunk ++ joined u.later) k → Is k.at bytes
      by (inl done) = at_finished k bytes done fetch stood found_it
      by (inr more) = rest (Contains-append_cases u.chunk (joined u.later) k more)

  pub at_opened : (at n : ℕ) (bytes : List ℕ) → site_at m.sites at ≡ Some n → IsFetch (text_end m) at bytes → AreCandidates (start m) ws p.mark at bytes → Is at bytes
  at_opened at n bytes is fetch stood = by (look u.changes at)
    where
      by : Found u.changes at → Is at bytes
      by (missed none found_none new form) = at_unchanged at n bytes is fetch stood none found_none
      by (found k has begins found_it new form) =
          subst (λ (a : ℕ). Is a bytes) begins
          (at_changed k bytes has (subst (λ (a : ℕ). IsFetch (text_end m) a bytes) (sym begins) fetch)
          (subst (λ (a : ℕ). AreCandidates (start m) ws p.mark a bytes) (sym begins) stood)
          (subst (λ (a : ℕ). find (λ (d : Change). d.at == a) u.changes ≡ Some k) (sym begins) found_it))

-- while no update is open a site is fetched as the form that it wants
pub at_closed : (m : Module) (ws : List Write) (cpus : List Cpu) (states : States) (forms : ℕ → Form) (passed : List (ℕ × ℕ)) (accepted : IsAccepted m) → AreStatesOf m states → (st : Closed m ws cpus states forms passed) (c : ℕ) (p : Cpu) → slice_get cpus c ≡ Some p → (at n : ℕ) (bytes : List ℕ) → site_at m.sites at ≡ Some n → IsFetch (text_end m) at bytes → AreCandidates (start m) ws p.mark at bytes → AtIs m ws cpus states forms passed None st c p at bytes
at_closed m ws cpus states forms passed accepted now st c p here at n bytes is fetch stood =
    let wanted = wanted_there m states at n accepted now is in
    let there = site_of m at n accepted is in
    let same : forms at ≡ wanted_at m states at = st.forms_are at n is in
    let current = st.cpus_are c p here in
    let mark = current.mark in
    let to = there.to in
    let size_is = wanted.size_is in
    let named = fetch_of_form (text_end m) at (wanted_at m states at) bytes (ap is_some wanted.spelt) (omega (arith, to, size_is)) fetch (λ j value read below.
    candidate_last (start m) ws p.mark (at + j) value (stood j value read) (omega (arith, mark))
    ∙ ap (λ (a : ℕ). written ws (start m) (a + j)) (sym there.begins)
    ∙ st.text.sites n there.site j there.here there.ours (λ k has. absurd (none_in k has)) (omega (arith, below, size_is))
    ∙ ap (λ (a : ℕ). slice_index (spelled (wanted_at m states a) a) j) there.begins) in
    does_form (Unchanged (forms at)) refl (ap (λ (f : Form). name f at) same ∙ named) tt states now same
    (λ q free. (record { free = free; mark = mark }, st.nobody))

pub at_site : (m : Module) (ws : List Write) (cpus : List Cpu) (states : States) (forms : ℕ → Form) (passed : List (ℕ × ℕ)) (opened : Option Walk) (accepted : IsAccepted m) → AreStatesOf m states → (st : Stands m ws cpus states forms passed opened) (c : ℕ) (p : Cpu) → slice_get cpus c ≡ Some p → (at n : ℕ) (bytes : List ℕ) → site_at m.sites at ≡ Some n → IsFetch (text_end m) at bytes → AreCandidates (start m) ws p.mark at bytes → AtIs m ws cpus states forms passed opened st c p at bytes
at_site m ws cpus states forms passed None accepted now st c p here at n bytes is fetch stood =
    at_closed m ws cpus states forms passed accepted now st c p here at n bytes is fetch stood
at_site m ws cpus states forms passed (Some u) accepted now st c p here at n bytes is fetch stood =
    at_opened m ws cpus states forms passed u accepted now st c p here at n bytes is fetch stood
