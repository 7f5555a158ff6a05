-- What each step of a seat at its own table asks: the seat is of the table, the word is one of it, and the step keeps
-- the rule.
use Rattle.std.proofs.Common.{◌≡◌, ℕ, ◌+◌, ◌^◌, ◌-◌, ◌<◌, ◌≤◌, false, length, get_or, ap, sym, ◌∙◌, subst, arith}
use mathlib.Core.Option.{none}
use Rattle.std.proofs.lemmas.List.{get_or_default}
use Rattle.atomic_table.specs.Table.{step, Allows, Splits}
use Rattle.live_text.specs.declared.view.Shape.{Shape}
use Rattle.live_text.specs.declared.view.PlacedWrite.{PlacedWrite}
use Rattle.live_text.specs.declared.patch.PatchSeat.TheInside.{Inside as PatchInside}
use Rattle.live_text.specs.declared.cpu.CpuSeat.TheInside.{Inside as CpuInside}
use Rattle.live_text.specs.declared.text.LiveText.TheInside.{Inside as TextInside}
use Rattle.live_text.specs.Past.{cut, place_at, IsShape}
use Rattle.live_text.specs.Laid.{laid_shape}
use Rattle.live_text.specs.Rule.{generation_word, ack_word, Live}
use Rattle.live_text.specs.Seats.{Placed, Sits, KnowsAll, WriteDue, RequestDue}
use Rattle.live_text.specs.Own.{IsOwn}
use Rattle.live_text.specs.PatchKept.{patch_placed, KeepsPatch}
use Rattle.live_text.specs.CpuKept.{cpu_placed, KeepsCpu}
use Rattle.live_text.specs.TextKept.{text_state, KeepsText}
use Rattle.live_text.specs.Steps.{seated, newcomer}
use Rattle.live_text.proofs.Seating.{splits}
use Rattle.live_text.specs.Plays.{Wrote, Requested, LoadedAck, Fetched, Looked, Acked, Gone}
use Rattle.live_text.proofs.Values.{no_write, byte_at}
use Rattle.live_text.proofs.PatchKeeps.{writes, requests, loads}
use Rattle.live_text.proofs.CpuKeeps.{fetches, looks, acks, leaves}

-- what a table asks of a seat and a word
abbrev Asks : TextInside → Placed → ℕ → Type 0 → Type 0
Asks t seat word allows = (seat.table ≡ t.table.shared.table_id) × (word < t.table.shared.table_id.words) × allows

-- the table was told the plan that the seat knows
pub shape_is : (t : TextInside) (seat : Placed) → KeepsText t → IsOwn (text_state t) seat → laid_shape t.table.shared.key ≡ seat.view.shape
shape_is t seat kept own = ap laid_shape kept.keyed ∙ kept.laid.shape ∙ sym own.shape

sound : (t : TextInside) → KeepsText t → IsShape (laid_shape t.table.shared.key)
sound t kept = subst IsShape (ap laid_shape (sym kept.keyed)) kept.shape

-- how many words there are
words_are : (t : TextInside) → KeepsText t → t.table.shared.table_id.words ≡ length (laid_shape t.table.shared.key).starts + ((laid_shape t.table.shared.key).cpus + 1)
words_are t kept = kept.words ∙ ap (λ (p : Shape). length p.starts + (p.cpus + 1)) (ap laid_shape (sym kept.keyed))

-- the store of the due write
pub writes_own : (t : TextInside) (s : PatchInside) (place byte : ℕ) (w : PlacedWrite) → KeepsText t → KeepsPatch s → IsOwn (text_state t) (patch_placed s) → KnowsAll s.seat.me.0.patch → WriteDue s.seat.me.0 → w ≡ get_or t.laid.writes.items s.done w → w.place ≡ place → w.byte ≡ byte → Asks t (patch_placed s) place (Allows (Live (laid_shape t.table.shared.key)) t.table.shared.table_id.slots s.seat.id s.seat.me place (λ _. byte) (λ _. Wrote (step t.table.shared.table_id.slots place byte 0 none) s.seat.me byte))
writes_own t s place byte w kept keeps own all due is place_is byte_is =
    let p : Shape = laid_shape t.table.shared.key in
    let same : p ≡ s.seat.me.0.shape = shape_is t (patch_placed s) kept own in
    let due' : s.seat.me.0.patch.done < cut p (s.seat.me.0.patch.stored + 1) = subst (λ (q : Shape). s.seat.me.0.patch.done < cut q (s.seat.me.0.patch.stored + 1)) (sym same) due in
    let within : cut p (s.seat.me.0.patch.stored + 1) ≤ length p.writes = (sound t kept).within (s.seat.me.0.patch.stored + 1) in
    let below : s.seat.me.0.patch.done < length p.writes = omega arith in
    let there : get_or p.writes s.seat.me.0.patch.done no_write ≡ w = get_or_default p.writes s.seat.me.0.patch.done no_write w below ∙ ap (λ (q : Shape). get_or q.writes s.seat.me.0.patch.done w) (ap laid_shape kept.keyed) ∙ ap (λ (k : ℕ). get_or t.laid.writes.items k w) keeps.done_is ∙ sym is in
    let place' : place_at p s.seat.me.0.patch.done ≡ place = ap (λ (x : PlacedWrite). x.place) there ∙ place_is in
    let byte' : byte_at p s.seat.me.0.patch.done ≡ byte = ap (λ (x : PlacedWrite). x.byte) there ∙ byte_is in
    let inside : place_at p s.seat.me.0.patch.done < length p.starts = (sound t kept).inside s.seat.me.0.patch.done below in
    let size : t.table.shared.table_id.words ≡ length p.starts + (p.cpus + 1) = words_are t kept in
    (own.table, omega arith, writes p _ _ s.seat.me place byte same keeps.patches.role due' all place' byte')

-- the store of the due request
pub requests_own : (t : TextInside) (s : PatchInside) (word next : ℕ) → KeepsText t → KeepsPatch s → IsOwn (text_state t) (patch_placed s) → KnowsAll s.seat.me.0.patch → RequestDue s.seat.me.0 → length t.laid.starts.items ≡ word → s.stored + 1 ≡ next → Asks t (patch_placed s) word (Allows (Live (laid_shape t.table.shared.key)) t.table.shared.table_id.slots s.seat.id s.seat.me word (λ _. next) (λ _. Requested (step t.table.shared.table_id.slots word next 0 none) s.seat.me next))
requests_own t s word next kept keeps own all due word_is next_is =
    let p : Shape = laid_shape t.table.shared.key in
    let same : p ≡ s.seat.me.0.shape = shape_is t (patch_placed s) kept own in
    let due' : (s.seat.me.0.patch.done ≡ cut p (s.seat.me.0.patch.stored + 1)) × (s.seat.me.0.patch.stored + 1 < length p.cuts) = subst (λ (q : Shape). (s.seat.me.0.patch.done ≡ cut q (s.seat.me.0.patch.stored + 1)) × (s.seat.me.0.patch.stored + 1 < length q.cuts)) (sym same) due in
    let place : generation_word p ≡ word = ap (λ (q : Shape). length q.starts) (ap laid_shape kept.keyed) ∙ word_is in
    let size : t.table.shared.table_id.words ≡ length p.starts + (p.cpus + 1) = words_are t kept in
    let first : length p.starts ≡ word = place in
    (own.table, omega arith, requests p _ _ s.seat.me word next keeps.patches.role due'.0 due'.1 all place (ap (λ (k : ℕ). k + 1) keeps.stored_is ∙ next_is))

-- the load of an acknowledgement
pub loads_own : (t : TextInside) (s : PatchInside) (word cpu : ℕ) → KeepsText t → KeepsPatch s → IsOwn (text_state t) (patch_placed s) → cpu < t.laid.cpus → length t.laid.starts.items + 1 + cpu ≡ word → Asks t (patch_placed s) word (Allows (Live (laid_shape t.table.shared.key)) t.table.shared.table_id.slots s.seat.id s.seat.me word (λ n. n) (LoadedAck (step t.table.shared.table_id.slots word 0 0 none) s.seat.me))
loads_own t s word cpu kept keeps own small word_is =
    let p : Shape = laid_shape t.table.shared.key in
    let same : p ≡ s.seat.me.0.shape = shape_is t (patch_placed s) kept own in
    let told : laid_shape t.table.shared.key ≡ laid_shape t.laid = ap laid_shape kept.keyed in
    let place : ack_word p cpu ≡ word = ap (λ (q : Shape). length q.starts + 1 + cpu) told ∙ word_is in
    let small' : cpu < p.cpus = subst (λ (q : Shape). cpu < q.cpus) (sym told) small in
    let size : t.table.shared.table_id.words ≡ length p.starts + (p.cpus + 1) = words_are t kept in
    let first : length p.starts + 1 + cpu ≡ word = place in
    (own.table, omega arith, loads p _ _ s.seat.me word cpu same keeps.patches.role small' place)

-- the load of a byte
pub fetches_own : (t : TextInside) (s : CpuInside) (b : ℕ) → KeepsText t → KeepsCpu s → IsOwn (text_state t) (cpu_placed s) → s.seat.me.0.cpu.left ≡ false → b < length t.laid.starts.items → Asks t (cpu_placed s) b (Allows (Live (laid_shape t.table.shared.key)) t.table.shared.table_id.slots s.seat.id s.seat.me b (λ n. n) (Fetched (step t.table.shared.table_id.slots b 0 0 none) s.seat.me))
fetches_own t s b kept keeps own stays below =
    let p : Shape = laid_shape t.table.shared.key in
    let same : p ≡ s.seat.me.0.shape = shape_is t (cpu_placed s) kept own in
    let told : laid_shape t.table.shared.key ≡ laid_shape t.laid = ap laid_shape kept.keyed in
    let below' : b < length p.starts = subst (λ (q : Shape). b < length q.starts) (sym told) below in
    let size : t.table.shared.table_id.words ≡ length p.starts + (p.cpus + 1) = words_are t kept in
    (own.table, omega arith, fetches p _ _ s.seat.me b same (keeps.sits stays) stays below')

-- the load of the generation
pub looks_own : (t : TextInside) (s : CpuInside) (word : ℕ) → KeepsText t → KeepsCpu s → IsOwn (text_state t) (cpu_placed s) → s.seat.me.0.cpu.left ≡ false → length t.laid.starts.items ≡ word → Asks t (cpu_placed s) word (Allows (Live (laid_shape t.table.shared.key)) t.table.shared.table_id.slots s.seat.id s.seat.me word (λ n. n) (Looked (step t.table.shared.table_id.slots word 0 0 none) s.seat.me))
looks_own t s word kept keeps own stays word_is =
    let p : Shape = laid_shape t.table.shared.key in
    let same : p ≡ s.seat.me.0.shape = shape_is t (cpu_placed s) kept own in
    let place : length p.starts ≡ word = ap (λ (q : Shape). length q.starts) (ap laid_shape kept.keyed) ∙ word_is in
    let size : t.table.shared.table_id.words ≡ length p.starts + (p.cpus + 1) = words_are t kept in
    (own.table, omega arith, looks p _ _ s.seat.me word same (keeps.sits stays) stays place)

-- the acknowledgement of a processor that hasn't left is one of the words
own_word : (t : TextInside) (s : CpuInside) (word : ℕ) → KeepsText t → KeepsCpu s → IsOwn (text_state t) (cpu_placed s) → s.seat.me.0.cpu.left ≡ false → length t.laid.starts.items + 1 + s.number ≡ word → (ack_word (laid_shape t.table.shared.key) s.seat.me.0.cpu.number ≡ word) × (word < t.table.shared.table_id.words)
own_word t s word kept keeps own stays word_is =
    let p : Shape = laid_shape t.table.shared.key in
    let same : p ≡ s.seat.me.0.shape = shape_is t (cpu_placed s) kept own in
    let sits : Sits s.seat.me.0 = keeps.sits stays in
    let number : s.seat.me.0.cpu.number < p.cpus = subst (λ (q : Shape). s.seat.me.0.cpu.number < q.cpus) (sym same) sits.number in
    let place : ack_word p s.seat.me.0.cpu.number ≡ word = ap (λ (q : Shape). length q.starts + 1 + s.seat.me.0.cpu.number) (ap laid_shape kept.keyed) ∙ ap (λ (k : ℕ). length t.laid.starts.items + 1 + k) keeps.number_is ∙ word_is in
    let at : length p.starts + 1 + s.seat.me.0.cpu.number ≡ word = place in
    let size : t.table.shared.table_id.words ≡ length p.starts + (p.cpus + 1) = words_are t kept in
    (place, omega arith)

-- the store of an acknowledgement
pub acks_own : (t : TextInside) (s : CpuInside) (word g : ℕ) → KeepsText t → KeepsCpu s → IsOwn (text_state t) (cpu_placed s) → s.seat.me.0.cpu.left ≡ false → length t.laid.starts.items + 1 + s.number ≡ word → s.seat.me.0.cpu.ack ≤ g → g ≤ s.seat.me.0.cpu.greatest → Asks t (cpu_placed s) word (Allows (Live (laid_shape t.table.shared.key)) t.table.shared.table_id.slots s.seat.id s.seat.me word (λ _. g) (λ _. Acked (step t.table.shared.table_id.slots word g 0 none) s.seat.me g))
acks_own t s word g kept keeps own stays word_is least most =
    let at = own_word t s word kept keeps own stays word_is in
    (own.table, at.1, acks (laid_shape t.table.shared.key) _ _ s.seat.me word g (shape_is t (cpu_placed s) kept own) (keeps.sits stays) stays at.0 least most)

-- the store with which a processor leaves
pub leaves_own : (t : TextInside) (s : CpuInside) (word : ℕ) → KeepsText t → KeepsCpu s → IsOwn (text_state t) (cpu_placed s) → s.seat.me.0.cpu.left ≡ false → length t.laid.starts.items + 1 + s.number ≡ word → Asks t (cpu_placed s) word (Allows (Live (laid_shape t.table.shared.key)) t.table.shared.table_id.slots s.seat.id s.seat.me word (λ _. 2 ^ 64 - 1) (λ _. Gone (step t.table.shared.table_id.slots word (2 ^ 64 - 1) 0 none) s.seat.me (2 ^ 64 - 1)))
leaves_own t s word kept keeps own stays word_is =
    let at = own_word t s word kept keeps own stays word_is in
    (own.table, at.1, leaves (laid_shape t.table.shared.key) _ _ s.seat.me word (keeps.sits stays) stays at.0)

-- the split of the next processor's seat
pub splits_own : (t : TextInside) (s : PatchInside) → KeepsText t → KeepsPatch s → IsOwn (text_state t) (patch_placed s) → s.seat.me.0.patch.split < t.laid.cpus → Asks t (patch_placed s) 0 (Splits (Live (laid_shape t.table.shared.key)) s.seat.id s.seat.me.0 (seated s.seat.me.0) (newcomer s.seat.me.0))
splits_own t s kept keeps own more =
    let p : Shape = laid_shape t.table.shared.key in
    let told : laid_shape t.table.shared.key ≡ laid_shape t.laid = ap laid_shape kept.keyed in
    let more' : s.seat.me.0.patch.split < p.cpus = subst (λ (q : Shape). s.seat.me.0.patch.split < q.cpus) (sym told) more in
    let size : t.table.shared.table_id.words ≡ length p.starts + (p.cpus + 1) = words_are t kept in
    (own.table, omega arith, splits p s.seat.id s.seat.me.0 keeps.patches.role more')
