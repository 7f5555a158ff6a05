-- What the law says to a caller: the file of a generated module is read, and accepted wherever there is memory.
use Rattle.std.proofs.Common.{◌≡◌, ◌<◌, ◌≤◌, inl, inr, ℕ, true, Result, Ok, refl, sym, subst, arith}
use Rattle.elf_module.specs.declared.refused.ElfRefused.{ElfRefused}
use Rattle.elf_module.specs.declared.refused.ElfRefused.TheVariants.{Short, Magic, Class, Data, Version, Machine, Kind, Relocatable, Headers, Section, Names, Symbols}
use Rattle.elf_module.specs.Elf.{Elf}
use Rattle.elf_module.specs.Refusals as elf
use Rattle.elf_build.specs.declared.plan.Plan.{Plan}
use Rattle.elf_build.specs.Fits.{fits}
use Rattle.elf_build.specs.File.{file_of}
use Rattle.elf_build.specs.Generated.{IsGenerated}
use Rattle.written_module.proofs.ReadBack.{reads-back}
use Rattle.module_parts.specs.declared.refused.Refused.{Refused}
use Rattle.module_parts.specs.declared.refused.Refused.TheVariants.{NoMemory}
use Rattle.module_image.specs.Refusals.{IsRefusal, IsRefusedFor, Passes, past_all}
use Rattle.module_image.specs.Module.{IsModule, Module}
use Rattle.script_text.specs.declared.refused.ScriptError.{ScriptError}
use Rattle.script_text.specs.declared.refused.ScriptError.TheVariants.{Refused as ScriptRefused, NoMemory as NoScriptMemory}
use Rattle.script_text.specs.declared.refused.ScriptWhy.{ScriptWhy}
use Rattle.script_text.specs.Refused.{IsRefused as IsScriptRefused}
use Rattle.script_text.specs.Script.{ScriptValue, script}
use Rattle.generated_module.specs.Accepted.{elf_of}
use Rattle.generated_module.specs.Bench.{bench_script, bench_value}
use Rattle.generated_module.proofs.Accepting.{accepted}
use Rattle.generated_module.proofs.BenchScripts.{bench-read}

-- each refusal of a file has its place in the order
placed : (why : ElfRefused) → elf.order why < 13
placed (Short n) = omega arith
placed (Magic n) = omega arith
placed (Class n) = omega arith
placed (Data n) = omega arith
placed (Version n) = omega arith
placed (Machine n) = omega arith
placed (Kind n) = omega arith
placed (Relocatable n) = omega arith
placed (Headers n) = omega arith
placed (Section n) = omega arith
placed (Names n) = omega arith
placed (Symbols n) = omega arith

-- the file of a plan that fits isn't refused
pub never-refused : (plan : Plan) → fits plan ≡ true → (why : ElfRefused) → elf.IsRefusal (file_of plan) why → ⊥
never-refused plan fitting why refused = (reads-back plan fitting).passes.none why (placed why) refused.holds

-- what is read of a file is what it says
pub read-elf : (plan : Plan) (file : Elf) → elf.Reads (file_of plan) file → elf_of (file_of plan) ≡ file
read-elf plan file reads = λ i. record { sections = sym reads.sections i; symbols = sym reads.symbols i }

-- where no condition holds, nothing but memory is wanting
only-memory : (file : Elf) → Passes file past_all → (why : Refused) → IsRefusal file why → why ≡ NoMemory
only-memory file passes NoMemory refused = refl
only-memory file passes why refused = absurd (passes.none why (omega arith) refused.holds)

-- the file of a generated module isn't refused but for want of memory
pub refused-for-memory : (n : ℕ) (plan : Plan) (file : Elf) → 10 ≤ n → n ≤ 1000 → IsGenerated n plan → elf.Reads (file_of plan) file → (why : Refused) → IsRefusedFor file why → why ≡ NoMemory
refused-for-memory n plan file few many made reads why (inl memory) = memory
refused-for-memory n plan file few many made reads why (inr refused) =
    only-memory file (subst (λ (e : Elf). Passes e past_all) (read-elf plan file reads) (accepted n plan few many made)) why refused

-- and the script is read in the module that is accepted of it, so it isn't refused but for want of memory
pub bench-of : (n : ℕ) (plan : Plan) (file : Elf) (m : Module) → 10 ≤ n → n ≤ 1000 → IsGenerated n plan → elf.Reads (file_of plan) file → IsModule file m → script m bench_script ≡ Ok bench_value
bench-of n plan file m few many made reads is =
    bench-read n plan m few many made (subst (λ (e : Elf). IsModule e m) (sym (read-elf plan file reads)) is)

pub script-refused-for-memory : (answer : Result ScriptValue (ℕ × ScriptWhy)) (s : ScriptValue) → answer ≡ Ok s → (why : ScriptError) → IsScriptRefused answer why → why ≡ NoScriptMemory
script-refused-for-memory answer s read (ScriptRefused line why) refused = cc
script-refused-for-memory answer s read NoScriptMemory refused = refl
