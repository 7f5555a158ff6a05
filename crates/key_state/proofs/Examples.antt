-- A small module with two switches of one key, the second likely: how commands on it end.
use Rattle.std.proofs.Common.{◌≡◌, ℕ, Bool, true, false, List, [], ◌∷◌, Ok, Err, refl}
use Rattle.insn_forms.specs.declared.forms.Form.TheVariants.{Jmp32, Jmp8, Nop2, Nop5}
use Rattle.insn_forms.specs.Spelling.{spell}
use Rattle.key_state.specs.declared.count.CountRefused.TheVariants.{Above, Greatest, Zero}
use Rattle.key_state.specs.After.{after, dec_after, disable_after, enable_after, greatest_count, inc_after}
use Rattle.key_state.specs.Changes.{changes_by}
use Rattle.key_state.specs.Outcome.{outcomes}
use Rattle.key_state.specs.Outcome.Ending.{Clashes, CountRefuses, Returns}
use Rattle.module_parts.specs.declared.command.Command.TheVariants.{Dec, Disable, Enable, Inc, Target, Trace, TraceAll}
use Rattle.module_parts.specs.declared.key.KeyClass.TheVariants.{Jump as JumpKey}
use Rattle.module_parts.specs.declared.site.SiteKind.TheVariants.{Jump}
use Rattle.module_image.specs.Held.{first_states}
use Rattle.module_image.specs.Module.{Module, States}

-- the second switch may be foreign
abbrev switches : List ℕ → Bool → Module
switches text foreign = record {
  base = 0x401000;
  text = text;
  units = [];
  sites =
      record { at = 0x401000; len = 2; kind = Jump 0x401009 0 false; foreign = false }
      ∷ record { at = 0x401002; len = 5; kind = Jump 0x401009 0 true; foreign = foreign }
      ∷ [];
  keys = record { class = JumpKey; at = 0x451000; start = 0 } ∷ [];
  functions = [];
  jump_keys = [];
  call_keys = [];
}

abbrev two : Module
two =
    switches (0x66 ∷ 0x90 ∷ 0xe9 ∷ 0x02 ∷ 0x00 ∷ 0x00 ∷ 0x00 ∷ 0xff ∷ 0xc0 ∷ 0xc3 ∷ []) false

abbrev foreign : Module
foreign =
    switches (0x66 ∷ 0x90 ∷ 0xb8 ∷ 0x01 ∷ 0x00 ∷ 0x00 ∷ 0x00 ∷ 0xff ∷ 0xc0 ∷ 0xc3 ∷ []) true

-- counts
pub inc_counts : inc_after 0 ∷ inc_after 1 ∷ inc_after 2 ∷ inc_after greatest_count ∷ [] ≡ Ok 1 ∷ Ok 2 ∷ Ok 3 ∷ Err Greatest ∷ []
inc_counts = refl

pub dec_counts : dec_after 0 ∷ dec_after 1 ∷ dec_after 2 ∷ dec_after greatest_count ∷ [] ≡ Err Zero ∷ Ok 0 ∷ Ok 1 ∷ Ok 2147483646 ∷ []
dec_counts = refl

pub enable_counts : enable_after 0 ∷ enable_after 1 ∷ enable_after 2 ∷ [] ≡ Ok 1 ∷ Ok 1 ∷ Err (Above 2) ∷ []
enable_counts = refl

pub disable_counts : disable_after 0 ∷ disable_after 1 ∷ disable_after 2 ∷ [] ≡ Ok 0 ∷ Ok 0 ∷ Err (Above 2) ∷ []
disable_counts = refl

-- what keys and sites hold after commands that are never refused
abbrev some : States
some = record { keys = 1 ∷ 0x401000 ∷ []; traced = false ∷ false ∷ [] }

pub target-after : after some (Target 1 0x401009) ≡ Ok (record { keys = 1 ∷ 0x401009 ∷ []; traced = false ∷ false ∷ [] })
target-after = refl

pub trace-after : after some (Trace 1 true) ≡ Ok (record { keys = 1 ∷ 0x401000 ∷ []; traced = false ∷ true ∷ [] })
trace-after = refl

pub all-after : after some (TraceAll true) ≡ Ok (record { keys = 1 ∷ 0x401000 ∷ []; traced = true ∷ true ∷ [] })
all-after = refl

-- the first switch becomes its jump, the second its NOP
pub changes-inc : changes_by two (first_states two) (Inc 0) ≡ record { at = 0x401000; old = Nop2; new = Jmp8 0x401009 } ∷ record { at = 0x401002; old = Jmp32 0x401009; new = Nop5 } ∷ []
changes-inc = refl

-- commands, one after the other
pub outcomes-two : outcomes two (first_states two) (Dec 0 ∷ Inc 0 ∷ Inc 0 ∷ Enable 0 ∷ Disable 0 ∷ Dec 0 ∷ Disable 0 ∷ Disable 0 ∷ []) ≡ CountRefuses 0 ∷ Returns 2 ∷ Returns 0 ∷ CountRefuses 2 ∷ CountRefuses 2 ∷ Returns 0 ∷ Returns 2 ∷ Returns 0 ∷ []
outcomes-two = refl

-- where the second is foreign the count stays 0
pub outcomes-foreign : outcomes foreign (first_states foreign) (Enable 0 ∷ Dec 0 ∷ []) ≡ Clashes 0x401002 (0xb8 ∷ 0x01 ∷ 0x00 ∷ 0x00 ∷ 0x00 ∷ []) (0xe9 ∷ 0x02 ∷ 0x00 ∷ 0x00 ∷ 0x00 ∷ []) ∷ CountRefuses 0 ∷ []
unfolding spell
outcomes-foreign = refl
