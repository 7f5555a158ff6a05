-- The wanted form of a site.
use Rattle.std.specs.Prelude.{◌==◌, ℕ, Bool, not, nat_lt, if◌then◌else◌, List, slice_index}
use Rattle.insn_forms.specs.declared.forms.Form.{Form}
use Rattle.insn_forms.specs.declared.forms.Form.TheVariants.{Nop2, Nop5, Jmp8, Jmp32, Call as CallTo, Ret}
use Rattle.module_parts.specs.declared.site.SiteKind.{SiteKind}
use Rattle.module_parts.specs.declared.site.SiteKind.TheVariants.{Jump, Call, Tail, Trace}

-- a NOP and a jump of n bytes
abbrev pub nop_of : ℕ → Form
nop_of len = if len == 2 then Nop2 else Nop5

abbrev pub jump_of : ℕ → ℕ → Form
jump_of len target = if len == 2 then Jmp8 target else Jmp32 target

-- where a key's count is above 0, a likely site holds the NOP and another the jump (Linux: `jump_label_type`)
abbrev pub switched : ℕ → ℕ → Bool → ℕ → Form
switched len target likely count =
    if (if likely then not (nat_lt 0 count) else nat_lt 0 count) then jump_of len target else nop_of len

abbrev pub called : ℕ → Form
called func = if func == 0 then Nop5 else CallTo func

abbrev pub tail_called : ℕ → Form
tail_called func = if func == 0 then Ret else Jmp32 func

abbrev pub traced : ℕ → Bool → Form
traced tracer on = if on then CallTo tracer else Nop5

-- the state of a site's key, a count or a function's address, among those of all keys by their numbers; a trace site
-- has no key
abbrev pub state_of : List ℕ → SiteKind → ℕ
state_of states (Jump target key likely) = slice_index states key
state_of states (Call key) = slice_index states key
state_of states (Tail key) = slice_index states key
state_of states Trace = 0

-- the form that a site of n bytes wants, where its key has this state; `on` says whether a trace site is traced, and
-- `tracer` is the function that is called there
abbrev pub wanted : ℕ → ℕ → Bool → ℕ → SiteKind → Form
wanted tracer state on len (Jump target key likely) = switched len target likely state
wanted tracer state on len (Call key) = called state
wanted tracer state on len (Tail key) = tail_called state
wanted tracer state on len Trace = traced tracer on
