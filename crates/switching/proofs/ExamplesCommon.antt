-- What the worked examples are written with: events with bytes, the traces of both machines, and bytes that stood somewhere at once.
use Rattle.std.proofs.Common.{◌≡◌, ◌≢◌, ℕ, zero, suc, ◌+◌, ◌-◌, ◌≤◌, if◌then◌else◌, List, [], ◌∷◌, ◌++◌, length, Some, ap, sym, ◌∙◌, subst, arith}
use Rattle.std.specs.Prelude.{nat_le, replicate, slice_get, ⊤}
use Rattle.std.proofs.lemmas.Option.{same_Some}
use Rattle.insn_forms.specs.History.{IsCandidate, Memory, byte}
use Rattle.insn_forms.specs.Write.{Write}
use Rattle.cpu_core.specs.Fetch.{AreCandidates}
use Rattle.module_parts.specs.declared.unit.Unit.{Unit}
use Rattle.module_parts.specs.declared.unit.Unit.TheVariants.{Nothing}
use Rattle.module_image.specs.Layout.{Layout, text_end, unit_at, unit_len}
use Rattle.module_image.specs.Module.{Module, layout_of}
use Rattle.run_journal.specs.declared.event.Event.{Event}
use Rattle.run_journal.specs.declared.event.Event.TheVariants.{At}
use Rattle.switching.specs.May.{May}
use Rattle.switching.specs.State.{Cpu, State, start}

-- a processor fetches these bytes at a patched site
abbrev pub fetches : ℕ → List ℕ → Event
fetches c bytes = At c (record { items = bytes })

-- a pair: one event may come, and then the others
infixr 5 ◌▸◌
abbrev pub ◌▸◌ : {A B : Type 0} → A → B → A × B
a ▸ b = (a, b)

-- bytes stand in a memory from an address on
abbrev pub Stand : Memory → ℕ → List ℕ → Type 0
Stand m at [] = ⊤
Stand m at (b ∷ bytes) = (m at ≡ b) × Stand m (at + 1) bytes

stands : (m : Memory) (at : ℕ) (bytes : List ℕ) (j value : ℕ) → Stand m at bytes → slice_get bytes j ≡ Some value → m (at + j) ≡ value
stands m at [] j value stand is = absurd (cc)
stands m at (b ∷ bytes) zero value stand is =
    let there : at + 0 ≡ at = omega arith in ap m there ∙ stand.0 ∙ same_Some _ _ is
stands m at (b ∷ bytes) (suc j) value stand is =
    let there : at + suc j ≡ at + 1 + j = omega arith in ap m there ∙ stands m (at + 1) bytes j value stand.1 is

-- bytes that all stood there after n writes are candidates of every mark that isn't later
pub stood_after : (start : Memory) (writes : List Write) (mark at : ℕ) (bytes : List ℕ) (n : ℕ) → mark ≤ n → n ≤ length writes → Stand (λ a. byte start writes n a) at bytes → AreCandidates start writes mark at bytes
stood_after start writes mark at bytes n from to stand j value is = record {
  after = n;
  from = from;
  to = to;
  had = stands (λ a. byte start writes n a) at bytes j value stand is;
}

-- bytes may not be fetched where one of them hasn't stood there since the processor's mark
pub not_fetched : (m : Module) (s : State) (c : ℕ) (bytes : List ℕ) (cpu : Cpu) (j value : ℕ) → slice_get s.cpus c ≡ Some cpu → slice_get bytes j ≡ Some value → ((n : ℕ) → cpu.mark ≤ n → n ≤ length s.writes → byte (start m) s.writes n (cpu.state.proc.ip + j) ≢ value) → May m s (fetches c bytes) → ⊥
not_fetched m s c bytes cpu j value here is never may =
    let same : may.turn.cpu ≡ cpu = same_Some _ _ (sym may.turn.here ∙ here) in
    let had : IsCandidate (start m) s.writes cpu.mark (cpu.state.proc.ip + j) value = subst (λ (p : Cpu). IsCandidate (start m) s.writes p.mark (p.state.proc.ip + j) value) same (may.stood j value is) in
    never had.after had.from had.to had.had

-- the units of a text that stand end to end from an address on, at most n of them, by their offsets
abbrev pub swept : ℕ → Layout → ℕ → List Unit
swept zero t at = []
swept (suc n) t at =
    if nat_le (text_end t) at then []
    else unit_at t at ∷ (replicate (unit_len t (unit_at t at) - 1) Nothing ++ swept n t (at + unit_len t (unit_at t at)))

-- those of a module
abbrev pub units_of : Module → List Unit
units_of m = swept (length m.text) (layout_of m) m.base
