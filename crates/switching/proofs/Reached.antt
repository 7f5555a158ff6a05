-- What holds in every state that a legal prefix leads to: what sites hold, which candidates bytes have, and what clashes.
use Rattle.std.proofs.Common.{◌≡◌, ◌∙◌, ◌+◌, ◌-◌, ◌<◌, ◌≤◌, ◌⊎◌, inl, inr, ℕ, zero, suc, Bool, true, false, if◌then◌else◌, List, [], ◌∷◌, ◌++◌, length, map, All, Contains, Option, Some, None, Result, Ok, Err, slice_get, slice_index_or, refl, sym, ap, subst, arith}
use Rattle.std.proofs.lemmas.Bool.{cases_lt}
use Rattle.std.proofs.lemmas.List.Elements.{All-head}
use Rattle.insn_forms.specs.declared.forms.Change.{Change}
use Rattle.insn_forms.specs.History.{IsCandidate, since, written}
use Rattle.insn_forms.specs.Spelling.{size}
use Rattle.insn_forms.specs.Write.{Write}
use Rattle.key_state.specs.declared.count.CountRefused.{CountRefused}
use Rattle.key_state.specs.After as key
use Rattle.key_state.specs.Changes.{changes_to, first_foreign}
use Rattle.key_state.proofs.Keeping.{commands_keep}
use Rattle.module_image.specs.Module.{IsAccepted, Module, States}
use Rattle.poke_batch.specs.Clash.{first_clash}
use Rattle.poke_batch.specs.Poke.{Item, firsts, from_firsts, from_tails, tails}
use Rattle.poke_batch.specs.Poke.Item.{Puts, Syncs}
use Rattle.poke_batch.specs.Walk.{Walk}
use Rattle.script_text.specs.declared.script.ScriptStep.{ScriptStep}
use Rattle.script_text.specs.declared.script.ScriptStep.TheVariants as step
use Rattle.script_text.specs.Laws.{IsStepOf}
use Rattle.switching.specs.Laws.{CandidatesAreAtMostTwo, CandidatesAreInTheTable, ChangesAreSeen, ClashesAreForeign, IsInChunk, IsReached, OtherBytesHaveOneCandidate, SitesHoldWhatIsWanted, syncs}
use Rattle.switching.specs.State.{Cpu, State, first, held_after, start}
use Rattle.switching.specs.Switching.{Switching, wanted_at}
use Rattle.switching.specs.Switching as switching
use Rattle.switching.specs.Table.{IsInTable}
use Rattle.switching.proofs.Chunk.{IsBeside}
use Rattle.switching.proofs.Fetching.{in_table, is_changed, one_beside}
use Rattle.switching.proofs.Holding.{first_clash_is, holds_of}
use Rattle.switching.proofs.Invariant.{Closed, Opened, Related, Stands, count, left_of}
use Rattle.switching.proofs.Lookups.{first_in, in_cases, later_in, none_in}
use Rattle.switching.proofs.Names.{insns_differ}
use Rattle.switching.proofs.Sinces.{since_two, two_at_most}
use Rattle.switching.proofs.Theorem.{first_related, switched}
use Rattle.switching.proofs.Writes.{candidate_last}

-- a state of the switching machine stands for each
pub reached : (m : Module) (s : State) → IsReached m s → (t : Switching) × Related m s t
reached m s r =
    let t = switching.after m (switching.first m r.script) r.events in (
      t,
      subst (λ (x : State). Related m x t) (sym r.is)
          (switched m (first m r.script) (switching.first m r.script) r.events r.accepted (first_related m r.script r.accepted r.is_script) r.legal).related,
    )

pub closed_at : (m : Module) (s : State) (t : Switching) → Related m s t → s.opened ≡ None → Closed m s.writes s.cpus s.states t.forms t.passed
closed_at m s t h closed = subst (λ (o : Option Walk). Stands m s.writes s.cpus s.states t.forms t.passed o) closed h.stands

pub opened_at : (m : Module) (s : State) (t : Switching) (u : Walk) → Related m s t → s.opened ≡ Some u → Opened m s.writes s.cpus s.states t.forms t.passed u
opened_at m s t u h is = subst (λ (o : Option Walk). Stands m s.writes s.cpus s.states t.forms t.passed o) is h.stands

-- ---- what sites hold

pub sites_hold : SitesHoldWhatIsWanted
sites_hold m s r closed =
    let h = (reached m s r).1 in
    holds_of m s.states s.writes r.accepted h.states_of (closed_at m s (reached m s r).0 h closed).text

-- ---- candidates

syncs_put : (writes : List Write) (items : List Item) → syncs (map Puts writes ++ items) ≡ syncs items
syncs_put [] items = refl
syncs_put (w ∷ writes) items = syncs_put writes items

syncs_firsts : (chunk : List Change) → syncs (from_firsts chunk) ≡ 1
syncs_firsts chunk = syncs_put (firsts chunk) (Syncs ∷ [])

syncs_tails : (chunk : List Change) → syncs (from_tails chunk) ≡ 2
syncs_tails chunk = syncs_put (tails chunk) (Syncs ∷ from_firsts chunk) ∙ ap (λ (n : ℕ). 1 + n) (syncs_firsts chunk)

-- the rounds that are done, by the synchronisations that are to come
syncs_left : (r : ℕ) (chunk : List Change) (todo : List Write) → r ≤ 3 → r + syncs (left_of r chunk todo) ≡ 3
syncs_left zero chunk todo most = (let put = syncs_put todo (Syncs ∷ from_tails chunk) in let rest = syncs_tails chunk in omega (arith, put, rest))
syncs_left (suc zero) chunk todo most = (let put = syncs_put todo (Syncs ∷ from_firsts chunk) in let rest = syncs_firsts chunk in omega (arith, put, rest))
syncs_left (suc (suc zero)) chunk todo most = (let put = syncs_put todo (Syncs ∷ []) in omega (arith, put))
syncs_left (suc (suc (suc r))) chunk todo most = omega (arith, most)

count_is : (took : Bool) (r rounds taken : ℕ) → rounds ≡ r → taken ≡ (if took then rounds + 1 else rounds) → taken ≡ count took r
count_is true r rounds taken same is = omega (arith, same, is)
count_is false r rounds taken same is = is ∙ same

pub candidates_table : CandidatesAreInTheTable
candidates_table m s u c p at k j taken value r is here of has stood =
    let t = (reached m s r).0 in
    let h = (reached m s r).1 in
    let o = opened_at m s t u h is in
    let left = has.left in
    let all = syncs_left o.place.r u.chunk o.place.todo o.place.most in
    let left_is = ap syncs o.place.left_is in
    let rounds : has.rounds ≡ o.place.r = omega (arith, left, all, left_is) in
    subst (λ (n : ℕ). IsInTable n k j value) (sym (count_is (slice_index_or u.took c false) o.place.r has.rounds taken rounds has.is))
    (in_table m s.writes s.cpus s.states t.forms t.passed u r.accepted h.states_of o c p k j value here of.in_chunk of.below
    (subst (λ (a : ℕ). IsCandidate (start m) s.writes p.mark a value) of.is stood))

-- beside the open chunk
one_candidate : (m : Module) (s : State) (t : Switching) (c : ℕ) (p : Cpu) (at value : ℕ) (opened : Option Walk) → s.opened ≡ opened → IsAccepted m → Related m s t → slice_get s.cpus c ≡ Some p → (IsInChunk opened at → ⊥) → IsCandidate (start m) s.writes p.mark at value → value ≡ written s.writes (start m) at
one_candidate m s t c p at value None is accepted h here beside stood =
    let mark = ((closed_at m s t h is).cpus_are c p here).mark in
    candidate_last (start m) s.writes p.mark at value stood (omega (arith, mark))
one_candidate m s t c p at value (Some u) is accepted h here beside stood =
    one_beside m s.writes s.cpus s.states t.forms t.passed u accepted h.states_of (opened_at m s t u h is) c p at value here
    (λ k j has below same. beside (k, j, record { in_chunk = has; below = below; is = same })) stood

pub other_bytes : OtherBytesHaveOneCandidate
other_bytes m s c p at value r here beside stood =
    one_candidate m s (reached m s r).0 c p at value s.opened refl r.accepted (reached m s r).1 here beside stood

-- an address is that of a byte of a site, or of none
in_or_beside : (chunk : List Change) (at : ℕ) → ((k : Change) × (j : ℕ) × Contains chunk k × (j < size k.old) × (at ≡ k.at + j)) ⊎ IsBeside chunk at
in_or_beside [] at = inr (λ k j has. absurd (none_in k has))
in_or_beside (c ∷ chunk) at = by (in_or_beside chunk at) (cases_lt at c.at) (cases_lt at (c.at + size c.old))
  where
    by : (((k : Change) × (j : ℕ) × Contains chunk k × (j < size k.old) × (at ≡ k.at + j)) ⊎ IsBeside chunk at) → (at < c.at) ⊎ (c.at ≤ at) → (at < c.at + size c.old) ⊎ (c.at + size c.old ≤ at) → ((k : Change) × (j : ℕ) × Contains (c ∷ chunk) k × (j < size k.old) × (at ≡ k.at + j)) ⊎ IsBeside (c ∷ chunk) at
    by (inl (k, j, has, below, is)) low high = inl (k, j, later_in c k chunk has, below, is)
    by (inr beside) (inr from) (inl to) = inl (c, at - c.at, first_in c chunk, omega (arith, from, to), omega (arith, from))
    by (inr beside) (inl before) high = inr (λ k j has below same. elim (in_cases c k chunk has) [
      | inl one ↦ (let begins : k.at ≡ c.at = ap (λ (x : Change). x.at) one in absurd (omega (arith, begins, same, before)))
      | inr later ↦ beside k j later below same
    ])
    by (inr beside) low (inr past) = inr (λ k j has below same. elim (in_cases c k chunk has) [
      | inl one ↦ (let begins : k.at ≡ c.at = ap (λ (x : Change). x.at) one in let long : size k.old ≡ size c.old = ap (λ (x : Change). size x.old) one in absurd (omega (arith, begins, long, below, same, past)))
      | inr later ↦ beside k j later below same
    ])

at_most_two : (m : Module) (s : State) (t : Switching) (c : ℕ) (p : Cpu) (at : ℕ) (opened : Option Walk) → s.opened ≡ opened → IsAccepted m → Related m s t → slice_get s.cpus c ≡ Some p → length (since (start m) s.writes p.mark at) ≤ 2
at_most_two m s t c p at None is accepted h here =
    since_two (start m) s.writes p.mark at (written s.writes (start m) at) (written s.writes (start m) at)
    (λ v stood. inl (one_candidate m s t c p at v None is accepted h here (λ none. none) stood))
at_most_two m s t c p at (Some u) is accepted h here = by (in_or_beside u.chunk at)
  where
    by : ((k : Change) × (j : ℕ) × Contains u.chunk k × (j < size k.old) × (at ≡ k.at + j)) ⊎ IsBeside u.chunk at → length (since (start m) s.writes p.mark at) ≤ 2
    by (inl (k, j, has, below, same)) =
        let o = opened_at m s t u h is in
        two_at_most (start m) s.writes p.mark at (count (slice_index_or u.took c false) o.place.r) k j
        (λ v stood. in_table m s.writes s.cpus s.states t.forms t.passed u accepted h.states_of o c p k j v here has below
        (subst (λ (a : ℕ). IsCandidate (start m) s.writes p.mark a v) same stood))
    by (inr beside) =
        since_two (start m) s.writes p.mark at (written s.writes (start m) at) (written s.writes (start m) at)
        (λ v stood. inl (one_candidate m s t c p at v (Some u) is accepted h here (λ (k, j, of). beside k j of.in_chunk of.below of.is) stood))

pub two_candidates : CandidatesAreAtMostTwo
two_candidates m s c p at r here = at_most_two m s (reached m s r).0 c p at s.opened refl r.accepted (reached m s r).1 here

-- ---- clashes

pub clashes : ClashesAreForeign
clashes m s command rest r closed steps_are = by (key.after s.states command) refl
  where
    h : Related m s (reached m s r).0
    h = (reached m s r).1

    by : (after : Result States CountRefused) → key.after s.states command ≡ after → first_clash (held_after m s.writes) (changes_to m s.states after) ≡ first_foreign m (changes_to m s.states after)
    by (Err why) is = refl
    by (Ok new) is =
        first_clash_is m s.states new s.writes r.accepted h.states_of
        (commands_keep m s.states new command r.accepted h.states_of (All-head (IsStepOf m) (step.Update command) rest (subst (λ (steps : List ScriptStep). All (IsStepOf m) steps) steps_are h.steps_of)) is)
        (closed_at m s (reached m s r).0 h closed).text

-- ---- changes

pub changes_seen : ChangesAreSeen
changes_seen m s u k r is has =
    let t = (reached m s r).0 in
    let h = (reached m s r).1 in
    insns_differ k.old k.new (is_changed m s.writes s.cpus s.states t.forms t.passed u r.accepted h.states_of (opened_at m s t u h is) k has).differ
