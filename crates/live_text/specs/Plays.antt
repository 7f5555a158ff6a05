-- What each step tells: the seat's new view as a function of the old one and the value loaded.
use Rattle.std.specs.Prelude.{◌≡◌, ◌≤◌, ◌<◌, ◌+◌, ◌-◌, ℕ, length, slice_index}
use Rattle.atomic_table.specs.Table.{Me, Step}
use Rattle.live_text.specs.declared.view.View.{View}
use Rattle.live_text.specs.Steps.{wrote, requested, loaded_ack, fetched, looked, acked, gone}
use Rattle.live_text.specs.Seats.{Sits}

abbrev Seated : Type 0
Seated = Me (Unit {0}) View

-- the step, the seat before, the word found or stored, and the seat after
abbrev Telling : Type 1
Telling = Step (Unit {0}) → Seated → ℕ → Seated → Type 0

abbrev pub Wrote : Telling
Wrote st m n w = w ≡ (wrote m.0, m.1)

abbrev pub Requested : Telling
Requested st m n w = w ≡ (requested m.0, m.1)

-- the processor whose acknowledgement a word is
abbrev pub cpu_of_word : View → ℕ → ℕ
cpu_of_word v word = word - (length v.shape.starts + 1)

abbrev pub LoadedAck : Telling
LoadedAck st m n w =
    (w ≡ (loaded_ack (cpu_of_word m.0 st.word) n m.0, m.1))
    × (slice_index m.0.patch.bounds (cpu_of_word m.0 st.word) ≤ n)

abbrev pub Fetched : Telling
Fetched st m n w = (w ≡ (fetched st.word n m.0, m.1)) × (n < 256) × Sits w.0

abbrev pub Looked : Telling
Looked st m n w = (w ≡ (looked n m.0, m.1)) × (m.0.cpu.greatest ≤ n) × Sits w.0

abbrev pub Acked : Telling
Acked st m n w = (w ≡ (acked st.first m.0, m.1)) × Sits w.0

abbrev pub Gone : Telling
Gone st m n w = w ≡ (gone m.0, m.1)
