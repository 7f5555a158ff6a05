-- The byte machine: processors that fetch bytes one by one, and an update that is poked byte by byte.
use Rattle.std.specs.Prelude.{ℕ, ◌+◌, List, [], length, map, Option, None, option_map}
use Rattle.insn_forms.specs.History.{Memory, text_byte, text_memory, written}
use Rattle.insn_forms.specs.Write.{Write}
use Rattle.cpu_core.specs.Turn.{CpuState, new_cpu}
use Rattle.module_image.specs.Held.{first_states}
use Rattle.module_image.specs.Module.{Module, States}
use Rattle.poke_batch.specs.Walk.{Walk}
use Rattle.script_text.specs.declared.script.ScriptStep.{ScriptStep}
use Rattle.script_text.specs.Script.{ScriptValue}

-- a processor, and how many writes had been made when it last serialised
pub record Cpu : Type 0 where
  pub state : CpuState
  pub mark : ℕ

pub record State : Type 0 where
  -- all writes of bytes so far, in order
  pub writes : List Write
  -- the steps of the script that are still to come; that of an open update is the first
  pub steps : List ScriptStep
  -- how many turns of the `run` line in front are used
  pub turns : ℕ
  -- how many updates have begun
  pub updates : ℕ
  -- what keys hold, and which sites are traced
  pub states : States
  -- the open update
  pub opened : Option Walk
  -- the processors, by number
  pub cpus : List Cpu

abbrev pub starting : ℕ → Cpu
starting entry = record { state = new_cpu entry; mark = 0 }

-- the state before the first event
abbrev pub first : Module → ScriptValue → State
first m script = record {
  writes = [];
  steps = script.steps;
  turns = 0;
  updates = 0;
  states = first_states m;
  opened = None;
  cpus = map starting script.entries;
}

-- the text as it is accepted, and where it ends
abbrev pub start : Module → Memory
start m = text_memory m.base m.text

abbrev pub text_end : Module → ℕ
text_end m = m.base + length m.text

-- the byte that the text holds after some writes; none outside of it
abbrev pub held_after : Module → List Write → ℕ → Option ℕ
held_after m writes at = option_map (λ (old : ℕ). written writes (start m) at) (text_byte m.base m.text at)
