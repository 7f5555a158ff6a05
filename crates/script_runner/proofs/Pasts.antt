-- What the text has been after an event, and since when each processor fetches.
use Rattle.std.proofs.Common.{◌≡◌, ◌∙◌, ℕ, zero, suc, Bool, true, false, if◌then◌else◌, List, [], ◌∷◌, map, Some, slice_get, slice_set, slice_index, sym, ap}
use Rattle.std.proofs.lemmas.List.{map-set}
use Rattle.insn_forms.specs.Write.{Write}
use Rattle.module_image.specs.Module.{Module}
use Rattle.stale_fetch.specs.Past.{Past, with_serialised}
use Rattle.switching.specs.Next.{marked}
use Rattle.switching.specs.State.{Cpu, State}
use Rattle.script_runner.specs.World.{past_of}

abbrev pub marks_of : List Cpu → List ℕ
marks_of cpus = map (λ (p : Cpu). p.mark) cpus

-- the mark of a processor
pub mark_there : (cpus : List Cpu) (c : ℕ) (p : Cpu) → slice_get cpus c ≡ Some p → slice_index (marks_of cpus) c ≡ p.mark
mark_there [] c p is = absurd (cc)
mark_there (q ∷ cpus) zero p is = (let same : q ≡ p = cc in ap (λ (x : Cpu). x.mark) same)
mark_there (q ∷ cpus) (suc c) p is = mark_there cpus c p is

-- one that has another mark, and one that keeps its own
pub marks_set : (cpus : List Cpu) (c : ℕ) (q : Cpu) → marks_of (slice_set cpus c q) ≡ slice_set (marks_of cpus) c q.mark
marks_set cpus c q = map-set (λ (p : Cpu). p.mark) cpus c q

pub marks_kept : (cpus : List Cpu) (c : ℕ) (p q : Cpu) → slice_get cpus c ≡ Some p → q.mark ≡ p.mark → marks_of (slice_set cpus c q) ≡ marks_of cpus
marks_kept [] c p q is same = absurd (cc)
marks_kept (r ∷ cpus) zero p q is same =
    let one : r ≡ p = cc in ap (λ (n : ℕ). n ∷ marks_of cpus) (same ∙ ap (λ (x : Cpu). x.mark) (sym one))
marks_kept (r ∷ cpus) (suc c) p q is same = ap (λ (ms : List ℕ). r.mark ∷ ms) (marks_kept cpus c p q is same)

-- the past of a text and marks
abbrev pub past_with : Module → List Write → List ℕ → Past
past_with m writes marks = record { base = m.base; text = m.text; writes = writes; marks = marks }

-- a processor after a turn: where it serialises its mark is all writes, else it keeps it
pub past_marked : (m : Module) (s : State) (c : ℕ) (p q : Cpu) (serialises : Bool) → slice_get s.cpus c ≡ Some p → q.mark ≡ marked serialises s p.mark → (if serialises then with_serialised (past_of m s) c else past_of m s) ≡ past_with m s.writes (marks_of (slice_set s.cpus c q))
past_marked m s c p q true here is = ap (past_with m s.writes) (ap (λ (n : ℕ). slice_set (marks_of s.cpus) c n) (sym is) ∙ sym (marks_set s.cpus c q))
past_marked m s c p q false here is = ap (past_with m s.writes) (sym (marks_kept s.cpus c p q here is))
