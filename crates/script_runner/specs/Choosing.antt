-- How a running machine chooses its next event.
use Rattle.std.specs.Prelude.{◌≡◌, ◌&&◌, ⊤, ℕ, min, nat_le, not, if◌then◌else◌, List, [], ◌∷◌, ◌++◌, length, slice_get, Option, Some, None}
use Rattle.std.specs.List.{flat_map, range_with_len}
use Rattle.cpu_core.specs.declared.turn.TurnKind.TheVariants as kind
use Rattle.cpu_core.specs.Turn.{CpuState, kind_of}
use Rattle.module_image.specs.Module.{Module}
use Rattle.poke_batch.specs.Walk.{Walk, due_of, has_taken}
use Rattle.run_journal.specs.declared.event.Event.{Event}
use Rattle.run_journal.specs.declared.event.Event.TheVariants.{Begin, Write, Request, Take, Return, Plain, Handle, Tick}
use Rattle.script_text.specs.declared.script.ScriptStep.{ScriptStep}
use Rattle.switching.specs.Choice.{Choice, Chooser, Comes, Fetches, Takes, IsEventOf, drawn, due_choices, forced_or_drawn, handler_by, is_wait, most_idle, turn_of, words_after}
use Rattle.switching.specs.Journal.{IsFinished}
use Rattle.switching.specs.May.{has_turns, is_begun_next}
use Rattle.script_runner.specs.declared.pick.Pick.{Pick}
use Rattle.script_runner.specs.declared.pick.Pick.TheVariants as pick
use Rattle.switching.specs.State.{State}
use Rattle.script_runner.specs.Turns.{HasTurn}
use Rattle.script_runner.specs.World.{WorldSeen, StandsFor, left}

-- it stands for a machine that chooses, with words in this state
pub record Chooses (w : WorldSeen) (words : ℕ) (ch : Chooser) : Type 0 where
  pub state : StandsFor w ch.state
  pub idle : w.idle ≡ min ch.idle most_idle
  pub words_are : words ≡ ch.words

-- the rule takes this event, and leaves the words so
pub record TakesNext (m : Module) (ch : Chooser) (e : Event) (words : ℕ) : Type 0 where
  pub choice : Choice
  pub drawn : ℕ
  pub takes : Takes m ch e choice drawn
  pub words_are : words ≡ words_after choice drawn

-- nothing is left to choose
pub record IsOver (ch : Chooser) (words : ℕ) : Type 0 where
  pub finished : IsFinished ch.state
  pub words_are : words ≡ ch.words

-- what is chosen, before the bytes of a fetch are picked
abbrev pub choice_of : Pick → Choice
choice_of pick.Begin = Comes Begin
choice_of pick.Write = Comes Write
choice_of pick.Request = Comes Request
choice_of pick.Return = Comes Return
choice_of (pick.Take cpu) = Comes (Take cpu)
choice_of (pick.Plain cpu) = Comes (Plain cpu)
choice_of (pick.Fetch cpu) = Fetches cpu
choice_of (pick.Handle cpu) = Comes (Handle cpu)
choice_of (pick.Tick cpu) = Comes (Tick cpu)

abbrev pub chosen_of : Option Pick → List Choice
chosen_of None = []
chosen_of (Some p) = choice_of p ∷ []

-- the choices as the machine finds them: the patch's event; of a processor its taking, its turn, and its handler
abbrev pub patch_by : Option Walk → List ScriptStep → List Choice
patch_by None steps = if is_begun_next steps then Comes Begin ∷ [] else []
patch_by (Some walk) steps = due_choices (due_of (Some walk))

abbrev pub patch_found : WorldSeen → List Choice
patch_found w = patch_by w.batch.update (left w)

abbrev pub taking_found : WorldSeen → ℕ → CpuState → List Choice
taking_found w c x =
    if is_wait (due_of w.batch.update) && (not x.trapped && not (has_taken w.batch.update c)) then Comes (Take c) ∷ [] else []

abbrev pub turn_found : WorldSeen → ℕ → CpuState → List Choice
turn_found w c x = if has_turns w.batch.update (left w) then turn_of c (kind_of w.image x) ∷ [] else []

abbrev pub handler_at : Option Walk → Module → ℕ → CpuState → List Choice
handler_at None m c x = []
handler_at (Some walk) m c x = handler_by c (kind_of m x)

abbrev pub handler_found : WorldSeen → ℕ → CpuState → List Choice
handler_found w c x = handler_at w.batch.update w.image c x

-- of each processor, by its number, ascending
abbrev pub of_found : Option CpuState → (CpuState → List Choice) → List Choice
of_found None f = []
of_found (Some x) f = f x

abbrev pub by_number : WorldSeen → (ℕ → CpuState → List Choice) → ℕ → List Choice
by_number w f c = of_found (slice_get w.cpus c) (f c)

abbrev pub by_processor : WorldSeen → (ℕ → CpuState → List Choice) → List Choice
by_processor w f = flat_map (by_number w f) (range_with_len 0 (length w.cpus))

-- all that may come, and what is forced
abbrev pub choices_found : WorldSeen → List Choice
choices_found w = patch_found w ++ by_processor w (λ c x. taking_found w c x ++ turn_found w c x)

abbrev pub forced_found : WorldSeen → List Choice
forced_found w = (patch_found w ++ by_processor w (taking_found w)) ++ by_processor w (handler_found w)

-- what is chosen by what is found, and the state of the words after it was drawn
abbrev pub chosen_found : WorldSeen → ℕ → Option (Choice × ℕ)
chosen_found w words =
    if nat_le most_idle w.idle then forced_or_drawn words (forced_found w) (choices_found w) else drawn words (choices_found w)

abbrev pub picked_of : Option Pick → ℕ → Option (Choice × ℕ)
picked_of None words = None
picked_of (Some p) words = Some (choice_of p, words)

-- where nothing is picked no word was drawn
abbrev pub IsKept : Option Pick → ℕ → ℕ → Type 0
IsKept None old new = new ≡ old
IsKept (Some p) old new = ⊤

-- a fetch is picked of a processor that stands at a patched site
abbrev pub CanFetch : WorldSeen → Pick → Type 0
CanFetch w p = (c : ℕ) → p ≡ pick.Fetch c → HasTurn w c kind.At

-- the event that a pick is, and the words after its bytes were picked
pub record MakesEvent (w : WorldSeen) (p : Pick) (e : Event) (old new : ℕ) : Type 0 where
  pub event : (s : State) → StandsFor w s → IsEventOf w.image s (choice_of p) old e
  pub words_are : new ≡ words_after (choice_of p) old
