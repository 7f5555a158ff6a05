-- What the breakpoint handler does (Linux `poke_int3_handler`): the new form of the site whose breakpoint was hit, whole.
use Rattle.std.specs.Prelude.{ℕ, ◌+◌, ◌-◌, ◌%◌, ◌^◌, Option, Some, None}
use Rattle.insn_forms.specs.declared.forms.Form.{Form}
use Rattle.x64_subset.specs.declared.proc.FaultKind.TheVariants.{Breakpoint}
use Rattle.x64_subset.specs.declared.proc.Life.TheVariants.{Fault}
use Rattle.x64_subset.specs.declared.proc.Proc.{Proc}
use Rattle.x64_subset.specs.Whole.{whole}
use Rattle.poke_batch.specs.Walk.{Walk, open_form}
use Rattle.int3_handler.specs.declared.handler.Handled.{Handled}
use Rattle.int3_handler.specs.declared.handler.Handled.TheVariants.{Emulated, NotOurs}

-- the breakpoint that a processor has hit stands one byte before where it stands now; addresses wrap
abbrev pub breakpoint_of : Proc → ℕ
breakpoint_of p = (p.ip + (2 ^ 64 - 1)) % 2 ^ 64

-- the processor ends in a fault, and is otherwise as before
abbrev pub lost : Proc → Proc
lost p = record p { life = Fault Breakpoint }

-- the new form of the site that begins there, done whole; a fault where no site of the open chunk does
abbrev pub handled_by : Option (Form × ℕ) → ℕ → Proc → Proc
handled_by None at p = lost p
handled_by (Some (form, size)) at p = (whole form at p).0

abbrev pub handled : Option Walk → Proc → Proc
handled update p = handled_by (open_form update (breakpoint_of p)) (breakpoint_of p) p

-- what it answers
abbrev pub answer_by : Option (Form × ℕ) → ℕ → Proc → Handled
answer_by None at p = NotOurs
answer_by (Some (form, size)) at p = Emulated at form (whole form at p).1

abbrev pub answer : Option Walk → Proc → Handled
answer update p = answer_by (open_form update (breakpoint_of p)) (breakpoint_of p) p
