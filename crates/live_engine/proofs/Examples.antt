-- The definitions, worked out: the plan of one site of five bytes, a no-operation that becomes a jump in one chunk.
use Rattle.std.proofs.Common.{◌≡◌, ℕ, true, false, [], ◌∷◌, Some, None, refl, inl, inr}
use Rattle.live_text.specs.declared.view.Shape.{Shape}
use Rattle.live_text.specs.declared.view.View.{View}
use Rattle.live_text.specs.Steps.{first_cpu, fetched}
use Rattle.live_engine.specs.Fetch.{is_fresh, loads}
use Rattle.live_engine.specs.Look.{caught_up}
use Rattle.live_text.specs.Versions.{breakpoint_write}
use Rattle.live_engine.specs.Versions.{IsOneOf, is_past}

-- nop5 is 0f 1f 44 00 00, the jump e9 09 00 00 00
abbrev shape : Shape
shape = record {
  cpus = 1;
  starts = 0x0f ∷ 0x1f ∷ 0x44 ∷ 0 ∷ 0 ∷ [];
  writes = record { place = 0; byte = 0xcc } ∷ record { place = 1; byte = 9 } ∷ record { place = 2; byte = 0 } ∷ record { place = 3; byte = 0 } ∷ record { place = 4; byte = 0 } ∷ record { place = 0; byte = 0xe9 } ∷ [];
  cuts = 0 ∷ 1 ∷ 5 ∷ 6 ∷ [];
}

abbrev seat : View
seat = first_cpu shape 0

-- the processor has acknowledged this request, and had emptied its cache after so many writes
abbrev at_mark : ℕ → ℕ → View
at_mark ack mark = record seat { cpu = record seat.cpu { ack = ack; mark = mark } }

-- the breakpoint is write 0; before the first acknowledgement the floor rises with the mark
breakpoint : breakpoint_write shape 0 0 ≡ 0
breakpoint = refl

not_past : is_past (at_mark 0 0) 0 (Some 0) ≡ false
not_past = refl

past_by_mark : is_past (at_mark 0 1) 0 (Some 0) ≡ true
past_by_mark = refl

past_by_acknowledgement : is_past (at_mark 1 0) 0 (Some 0) ≡ true
past_by_acknowledgement = refl

not_changed : is_past (at_mark 1 1) 0 None ≡ false
not_changed = refl

-- which versions may be done
old_or_new : IsOneOf true 0 0 0
old_or_new = inl refl

new_or_old : IsOneOf true 0 0 1
new_or_old = inr refl

new_alone : IsOneOf true 2 0 1
new_alone = refl

unchanged : IsOneOf false 2 4 4
unchanged = refl

-- bits of the word: bit 8 is the first byte's, bit 12 the fifth's
first_fresh : is_fresh 0x100 0 ≡ true
first_fresh = refl

first_cached : is_fresh 0xff 0 ≡ false
first_cached = refl

fifth_fresh : is_fresh 0x1000 4 ≡ true
fifth_fresh = refl

-- a fetch of five bytes loads those that aren't cached, and those that the word asks for
all_loaded : loads seat.cpu 0 0 5 ≡ 5
all_loaded = refl

one_cached : loads (fetched 1 0x1f seat).cpu 0 0 5 ≡ 4
one_cached = refl

one_fresh : loads (fetched 1 0x1f seat).cpu 0 0x200 5 ≡ 5
one_fresh = refl

breakpoint_loaded : loads seat.cpu 0 0 1 ≡ 1
breakpoint_loaded = refl

-- a look acknowledges what is greater than before
acknowledged : (caught_up 2 seat).cpu.ack ≡ 2
acknowledged = refl

marked : (caught_up 2 seat).cpu.mark ≡ 5
marked = refl

not_again : (caught_up 2 (at_mark 2 1)).cpu.mark ≡ 1
not_again = refl

looked_once : (caught_up 2 (at_mark 2 1)).cpu.looks ≡ 1
looked_once = refl
