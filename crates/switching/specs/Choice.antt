-- The choice rule: which event comes next in a run. It is the project's own; a seed makes a run that can be had again.
use Rattle.std.specs.Prelude.{◌≡◌, ◌&&◌, ℕ, ◌+◌, ◌%◌, Bool, true, false, not, nat_le, if◌then◌else◌, List, [], ◌∷◌, ◌++◌, length, slice_get, Option, Some, None, option_map}
use Rattle.std.specs.List.{flat_map, range_with_len}
use Rattle.insn_forms.specs.History.{since}
use Rattle.rand_xoshiro.specs.SplitMix64.{mix_u64}
use Rattle.cpu_core.specs.declared.turn.TurnKind.{TurnKind}
use Rattle.cpu_core.specs.declared.turn.TurnKind.TheVariants as kind
use Rattle.cpu_core.specs.Fetch.{IsFetch, picked}
use Rattle.cpu_core.specs.Turn.{kind_of}
use Rattle.module_image.specs.Module.{Module}
use Rattle.poke_batch.specs.declared.batch.Due.{Due}
use Rattle.poke_batch.specs.declared.batch.Due.TheVariants as due
use Rattle.poke_batch.specs.Walk.{Walk, due_of, has_taken}
use Rattle.run_journal.specs.declared.event.Event.{Event}
use Rattle.run_journal.specs.declared.event.Event.TheVariants.{Begin, Write, Request, Take, Return, Plain, At, Handle, Tick}
use Rattle.script_text.specs.Script.{ScriptValue}
use Rattle.switching.specs.Journal.{IsFinished}
use Rattle.switching.specs.May.{has_turns, is_begun_next}
use Rattle.switching.specs.Next.{next}
use Rattle.switching.specs.State.{Cpu, State, first, start, text_end}

-- the machine, how many events have come since the last one of the patch, and the state of the generator of words
pub record Chooser : Type 0 where
  pub state : State
  pub idle : ℕ
  pub words : ℕ

abbrev pub first_chooser : Module → ScriptValue → ℕ → Chooser
first_chooser m script seed = record { state = first m script; idle = 0; words = seed }

-- an event, or a fetch of a processor at a patched site, whose bytes are still to be picked
pub data Choice : Type 0 where
  Comes : Event → Choice
  Fetches : ℕ → Choice

-- the event of the patch, if one may come
abbrev pub due_choices : Due → List Choice
due_choices due.Idle = []
due_choices (due.Write at byte) = Comes Write ∷ []
due_choices due.Request = Comes Request ∷ []
due_choices due.Wait = []
due_choices due.Return = Comes Return ∷ []

abbrev pub patch_by : Option Walk → State → List Choice
patch_by None s = if is_begun_next s.steps then Comes Begin ∷ [] else []
patch_by (Some walk) s = due_choices (due_of (Some walk))

abbrev pub patch_choices : State → List Choice
patch_choices s = patch_by s.opened s

-- a processor takes the request that waits
abbrev pub is_wait : Due → Bool
is_wait due.Wait = true
is_wait _ = false

abbrev pub take_choices : State → ℕ → Cpu → List Choice
take_choices s c p =
    if is_wait (due_of s.opened) && (not p.state.trapped && not (has_taken s.opened c)) then Comes (Take c) ∷ [] else []

-- a processor's turn
abbrev pub turn_of : ℕ → TurnKind → Choice
turn_of c kind.Plain = Comes (Plain c)
turn_of c kind.At = Fetches c
turn_of c kind.Handle = Comes (Handle c)
turn_of c kind.Tick = Comes (Tick c)

abbrev pub turn_choices : Module → State → ℕ → Cpu → List Choice
turn_choices m s c p = if has_turns s.opened s.steps then turn_of c (kind_of m p.state) ∷ [] else []

-- a handler, where an update is open
abbrev pub handler_by : ℕ → TurnKind → List Choice
handler_by c kind.Handle = Comes (Handle c) ∷ []
handler_by c _ = []

abbrev pub handler_choices : Module → Option Walk → ℕ → Cpu → List Choice
handler_choices m None c p = []
handler_choices m (Some walk) c p = handler_by c (kind_of m p.state)

-- what each processor may do, by its number, ascending
abbrev pub of_cpu : Option Cpu → (Cpu → List Choice) → List Choice
of_cpu None f = []
of_cpu (Some p) f = f p

abbrev pub by_cpu : State → (ℕ → Cpu → List Choice) → List Choice
by_cpu s f = flat_map (λ c. of_cpu (slice_get s.cpus c) (f c)) (range_with_len 0 (length s.cpus))

-- all that may come: the patch's event, then for each processor its taking and its turn
abbrev pub choices : Module → State → List Choice
choices m s = patch_choices s ++ by_cpu s (λ c p. take_choices s c p ++ turn_choices m s c p)

-- what is forced after 16 events without one of the patch: its event, else a taking, else a handler
abbrev pub forced : Module → State → List Choice
forced m s = patch_choices s ++ (by_cpu s (take_choices s) ++ by_cpu s (handler_choices m s.opened))

abbrev pub most_idle : ℕ
most_idle = 16

-- what comes, and the state of the words after it was drawn: the first that is forced, without a word, or one of all by a word
abbrev pub drawn : ℕ → List Choice → Option (Choice × ℕ)
drawn words [] = None
drawn words (choice ∷ more) =
    option_map (λ (c : Choice). (c, (mix_u64 words).1)) (slice_get (choice ∷ more) ((mix_u64 words).0 % length (choice ∷ more)))

abbrev pub forced_or_drawn : ℕ → List Choice → List Choice → Option (Choice × ℕ)
forced_or_drawn words [] all = drawn words all
forced_or_drawn words (choice ∷ more) all = Some (choice, words)

abbrev pub chosen : Module → Chooser → Option (Choice × ℕ)
chosen m ch =
    if nat_le most_idle ch.idle then forced_or_drawn ch.words (forced m ch.state) (choices m ch.state)
    else drawn ch.words (choices m ch.state)

-- the bytes of a fetch, each picked among its candidates by the bits of a second word
pub record IsPicked (m : Module) (s : State) (c word : ℕ) (bytes : List ℕ) : Type 0 where
  pub cpu : Cpu
  pub here : slice_get s.cpus c ≡ Some cpu
  pub fetch : IsFetch (text_end m) cpu.state.proc.ip bytes
  pub each :
      (j byte : ℕ) → slice_get bytes j ≡ Some byte
      → byte ≡ picked word j (since (start m) s.writes cpu.mark (cpu.state.proc.ip + j))

-- the event that a choice is, where the words have this state
abbrev pub IsEventOf : Module → State → Choice → ℕ → Event → Type 0
IsEventOf m s (Comes event) words e = e ≡ event
IsEventOf m s (Fetches c) words e =
    (bytes : List ℕ) × (e ≡ At c (record { items = bytes })) × IsPicked m s c (mix_u64 words).0 bytes

abbrev pub words_after : Choice → ℕ → ℕ
words_after (Comes event) words = words
words_after (Fetches c) words = (mix_u64 words).1

-- how many events have come since the last one of the patch
abbrev pub idle_after : Event → ℕ → ℕ
idle_after Begin idle = 0
idle_after Write idle = 0
idle_after Request idle = 0
idle_after (Take c) idle = 0
idle_after Return idle = 0
idle_after (Plain c) idle = idle + 1
idle_after (At c bytes) idle = idle + 1
idle_after (Handle c) idle = idle + 1
idle_after (Tick c) idle = idle + 1

abbrev pub chooser_after : Module → Chooser → Choice → ℕ → Event → Chooser
chooser_after m ch choice words e =
    record { state = next m ch.state e; idle = idle_after e ch.idle; words = words_after choice words }

-- a journal that the rule takes, to the end of the script
pub record Takes (m : Module) (ch : Chooser) (e : Event) (choice : Choice) (words : ℕ) : Type 0 where
  pub is : chosen m ch ≡ Some (choice, words)
  pub event : IsEventOf m ch.state choice words e

abbrev pub IsChosen : Module → Chooser → List Event → Type 0
IsChosen m ch [] = IsFinished ch.state
IsChosen m ch (e ∷ events) =
    (choice : Choice) × (words : ℕ) × Takes m ch e choice words × IsChosen m (chooser_after m ch choice words e) events

-- the most events of a run: the turns of its `run` lines; at most 16 turns before each beginning, write, request and return;
-- at most 32 before each taking, since handlers may delay it
abbrev pub most_events : ℕ
most_events = 8106496
