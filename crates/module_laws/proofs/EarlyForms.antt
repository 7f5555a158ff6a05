-- What a site wants is one of its early forms, whatever its key holds.
use Rattle.std.proofs.Common.{◌≡◌, ◌∙◌, ◌==◌, ◌||◌, ℕ, Bool, true, false, cond, not, nat_lt, List, Option, Some, refl, ap}
use Rattle.std.specs.Int.{w32}
use Rattle.std.proofs.lemmas.Bool.{or_left, or_right}
use Rattle.std.proofs.lemmas.Slice.Eq.{bytes_eq-Decides}
use Rattle.insn_forms.specs.declared.forms.Form.{Form}
use Rattle.insn_forms.specs.declared.forms.Form.TheVariants.{Nop5, Jmp32, Call as CallTo, Ret}
use Rattle.insn_forms.specs.Spelling.{spell}
use Rattle.insn_forms.proofs.Spellings.{relative}
use Rattle.module_parts.specs.declared.site.SiteKind.{SiteKind}
use Rattle.module_parts.specs.declared.site.SiteKind.TheVariants.{Jump, Call, Tail, Trace}
use Rattle.module_image.specs.Sites.{call_opcode, holds, is_code, is_early, jump_opcode, opens}
use Rattle.module_image.specs.Wants.{jump_of, nop_of, wanted}

-- a form's spelling is its code
spelt_holds : (form : Form) (at : ℕ) (code : List ℕ) → spell form at ≡ Some code → holds form at code ≡ true
spelt_holds form at code spelt = ap (λ (o : Option (List ℕ)). is_code o code) spelt ∙ (bytes_eq-Decides code code).1 refl

-- calls and long jumps begin with their opcodes
call_opens : (to at : ℕ) (code : List ℕ) → spell (CallTo to) at ≡ Some code → opens call_opcode code ≡ true
unfolding spell
call_opens to at code spelt = ap (λ (bytes : List ℕ). opens call_opcode bytes) (relative w32 _ _ _ _ spelt).bytes

jump_opens : (to at : ℕ) (code : List ℕ) → spell (Jmp32 to) at ≡ Some code → opens jump_opcode code ≡ true
unfolding spell
jump_opens to at code spelt = ap (λ (bytes : List ℕ). opens jump_opcode bytes) (relative w32 _ _ _ _ spelt).bytes

switched_early : (test : Bool) (at len target : ℕ) (code : List ℕ) → spell (cond test (jump_of len target) (nop_of len)) at ≡ Some code → (holds (nop_of len) at code || holds (jump_of len target) at code) ≡ true
switched_early true at len target code spelt = or_right _ _ (spelt_holds (jump_of len target) at code spelt)
switched_early false at len target code spelt = or_left _ _ (spelt_holds (nop_of len) at code spelt)

called_early : (test : Bool) (at func : ℕ) (code : List ℕ) → spell (cond test Nop5 (CallTo func)) at ≡ Some code → (holds Nop5 at code || opens call_opcode code) ≡ true
called_early true at func code spelt = or_left _ _ (spelt_holds Nop5 at code spelt)
called_early false at func code spelt = or_right _ _ (call_opens func at code spelt)

tail_early : (test : Bool) (at func : ℕ) (code : List ℕ) → spell (cond test Ret (Jmp32 func)) at ≡ Some code → (holds Ret at code || opens jump_opcode code) ≡ true
tail_early true at func code spelt = or_left _ _ (spelt_holds Ret at code spelt)
tail_early false at func code spelt = or_right _ _ (jump_opens func at code spelt)

traced_early : (on : Bool) (at tracer : ℕ) (code : List ℕ) → spell (cond on (CallTo tracer) Nop5) at ≡ Some code → (holds Nop5 at code || opens call_opcode code) ≡ true
traced_early true at tracer code spelt = or_right _ _ (call_opens tracer at code spelt)
traced_early false at tracer code spelt = or_left _ _ (spelt_holds Nop5 at code spelt)

-- the spelling of what a site wants is one of its early forms
pub wanted_early : (tracer state : ℕ) (on : Bool) (at len : ℕ) (kind : SiteKind) (code : List ℕ) → spell (wanted tracer state on len kind) at ≡ Some code → is_early at len kind code ≡ true
wanted_early tracer state on at len (Jump target key likely) code spelt =
    switched_early (cond likely (not (nat_lt 0 state)) (nat_lt 0 state)) at len target code spelt
wanted_early tracer state on at len (Call key) code spelt = called_early (state == 0) at state code spelt
wanted_early tracer state on at len (Tail key) code spelt = tail_early (state == 0) at state code spelt
wanted_early tracer state on at len Trace code spelt = traced_early on at tracer code spelt
