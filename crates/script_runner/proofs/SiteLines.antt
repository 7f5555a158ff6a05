-- What the sites of a running machine hold.
use Rattle.std.proofs.Common.{◌≡◌, ◌∙◌, ◌+◌, ◌<◌, ℕ, List, length, sym, ap, arith}
use Rattle.std.proofs.Math.Seq.{take-length}
use Rattle.std.proofs.lemmas.List.{ext_get_or}
use Rattle.insn_forms.specs.History.{written}
use Rattle.insn_forms.specs.Write.{Write}
use Rattle.switching.specs.Laws.{held_text}
use Rattle.switching.specs.State.{State, start}
use Rattle.switching.proofs.Holding.{held_at, held_length, held_list}
use Rattle.script_runner.specs.TraceText.{numbered_line}
use Rattle.script_runner.specs.World.{IsWorld, StandsFor, WorldSeen}

pub text_size : (w : WorldSeen) → IsWorld w → length w.text.held ≡ length w.image.text
text_size w h = sym h.stands.text.size

-- its text is that of the state that it stands for
held_text_is : (w : WorldSeen) (s : State) → StandsFor w s → w.text.held ≡ held_text w.image s
held_text_is w s h =
    let size = h.text.size in
    ext_get_or 0 w.text.held (held_list w.image s.writes) (sym size ∙ sym (held_length w.image s.writes))
    (λ i below.
    let inside : i < length w.image.text = omega (arith, below, size) in
    h.text.held i inside ∙ ap (λ (ws : List Write). written ws (start w.image) (w.image.base + i)) (take-length s.writes)
    ∙ sym (held_at w.image s.writes i 0 inside))

pub site_line_is : (w : WorldSeen) (s : State) (n : ℕ) (line : List ℕ) → StandsFor w s → line ≡ numbered_line w.image w.text.held n → line ≡ numbered_line w.image (held_text w.image s) n
site_line_is w s n line h is = is ∙ ap (λ (text : List ℕ). numbered_line w.image text n) (held_text_is w s h)
