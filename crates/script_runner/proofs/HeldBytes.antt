-- The bytes that a running machine's text holds are those of the state that it stands for.
use Rattle.std.proofs.Common.{◌≡◌, ◌∙◌, ◌+◌, ◌-◌, ◌<◌, ◌≤◌, ◌⊎◌, inl, inr, ℕ, Bool, if◌then◌else◌, List, length, Some, None, option_map, nat_lt, slice_get, sym, ap, arith, lt-ltb}
use Rattle.std.proofs.lemmas.Bool.{cases_lt, le-ltb}
use Rattle.std.proofs.lemmas.Option.{slice_get-get_or, slice_get_past}
use Rattle.std.proofs.Math.Seq.{take-length}
use Rattle.insn_forms.specs.History.{byte, text_memory, written}
use Rattle.insn_forms.specs.Write.{Write}
use Rattle.module_image.specs.Module.{Module}
use Rattle.stale_fetch.specs.Past.{held_in}
use Rattle.stale_fetch.specs.Windows.{window_held}
use Rattle.stale_fetch.specs.WindowLaws.{windows_agree}
use Rattle.switching.specs.State.{State, held_after, start}
use Rattle.switching.proofs.Holding.{same_function}
use Rattle.script_runner.specs.World.{StandsFor, WorldSeen, past_of}

-- what is held by the past of a state
held_past : (m : Module) (s : State) (at : ℕ) → held_in (past_of m s) at ≡ held_after m s.writes at
held_past m s at = by (cases_lt at m.base)
  where
    now : byte (text_memory m.base m.text) s.writes (length s.writes) at ≡ written s.writes (start m) at
    now = ap (λ (ws : List Write). written ws (start m) at) (take-length s.writes)

    inside : m.base ≤ at → (at < m.base + length m.text) ⊎ (m.base + length m.text ≤ at) → (if nat_lt at (m.base + length m.text) then Some (byte (text_memory m.base m.text) s.writes (length s.writes) at) else None) ≡ option_map (λ (old : ℕ). written s.writes (start m) at) (slice_get m.text (at - m.base))
    inside from (inl below) =
        ap (λ (b : Bool). if b then Some (byte (text_memory m.base m.text) s.writes (length s.writes) at) else None) (lt-ltb _ _ below)
        ∙ ap Some now
        ∙ ap (option_map (λ (old : ℕ). written s.writes (start m) at)) (sym (slice_get-get_or m.text (at - m.base) 0 (omega (arith, from, below))))
    inside from (inr past) =
        ap (λ (b : Bool). if b then Some (byte (text_memory m.base m.text) s.writes (length s.writes) at) else None) (le-ltb _ _ past)
        ∙ ap (option_map (λ (old : ℕ). written s.writes (start m) at)) (sym (slice_get_past m.text (at - m.base) (omega (arith, from, past))))

    by : (at < m.base) ⊎ (m.base ≤ at) → held_in (past_of m s) at ≡ held_after m s.writes at
    by (inl low) =
        ap (λ (b : Bool). if b then None else (if nat_lt at (m.base + length m.text) then Some (byte (text_memory m.base m.text) s.writes (length s.writes) at) else None)) (lt-ltb _ _ low)
        ∙ ap (λ (b : Bool). option_map (λ (old : ℕ). written s.writes (start m) at) (if b then None else slice_get m.text (at - m.base))) (sym (lt-ltb _ _ low))
    by (inr high) =
        ap (λ (b : Bool). if b then None else (if nat_lt at (m.base + length m.text) then Some (byte (text_memory m.base m.text) s.writes (length s.writes) at) else None)) (le-ltb _ _ high)
        ∙ inside high (cases_lt at (m.base + length m.text))
        ∙ ap (λ (b : Bool). option_map (λ (old : ℕ). written s.writes (start m) at) (if b then None else slice_get m.text (at - m.base))) (sym (le-ltb _ _ high))

pub held_is : (w : WorldSeen) (s : State) → StandsFor w s → window_held w.text ≡ held_after w.image s.writes
held_is w s h =
    same_function (window_held w.text) (held_after w.image s.writes)
    (λ at. (windows_agree w.text (past_of w.image s) h.text).bytes at ∙ held_past w.image s at)
