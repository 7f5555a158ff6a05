-- What is written of the plan is read and accepted.
use Rattle.std.proofs.Common.{◌≡◌, ◌∙◌, List, ℕ, length, ap, sym, subst, arith, rules}
use Rattle.elf_build.specs.File.{file_of}
use Rattle.elf_module.specs.Elf.{Elf}
use Rattle.elf_module.specs.Refusals.{IsRefusal, Reads}
use Rattle.generated_module.proofs.Refuting.{bench-of, never-refused, read-elf, refused-for-memory}
use Rattle.module_parts.specs.declared.refused.Refused.TheVariants.{NoMemory}
use Rattle.module_image.specs.Module.{IsModule}
use Rattle.written_module.proofs.ReadBack.{reads-back}
use Rattle.bench_run.proofs.run.generated_image.Goals as goal

pub read-requires : goal.read-requires
read-requires c =
    let within = (reads-back c.in_ok-plan.plan c.in_ok-plan.ensures.fits).within in
    let same : length c.deref.result.now ≡ length (file_of c.in_ok-plan.plan) = ap length (c.deref.ensures.value ∙ c.in_ok-write.ensures.file) in
    omega (arith, same, within)

pub unreachable-requires : goal.unreachable-requires
unreachable-requires c =
    never-refused c.in_ok-plan.plan c.in_ok-plan.ensures.fits c.in_default.field-0
    (subst (λ (file : List ℕ). IsRefusal file c.in_default.field-0) (c.deref.ensures.value ∙ c.in_ok-write.ensures.file) c.in_default.ensures.refused)

pub returns-in-Ok-accept-clause-made : goal.returns-in-Ok-accept-clause-made
returns-in-Ok-accept-clause-made c =
    let reads = subst (λ (file : List ℕ). Reads file c.in-Ok.elf) (c.deref.ensures.value ∙ c.in_ok-write.ensures.file) c.in-Ok.ensures.reads in
    record {
      plan = c.in_ok-plan.plan;
      generated = c.in_ok-plan.ensures.plan;
      is_module = subst (λ (elf : Elf). IsModule elf c.in-Ok-accept.image) (sym (read-elf c.in_ok-plan.plan c.in-Ok.elf reads)) c.in-Ok-accept.ensures.accepted;
    }

pub returns-in-Ok-accept-clause-script : goal.returns-in-Ok-accept-clause-script
returns-in-Ok-accept-clause-script c =
    let reads = subst (λ (file : List ℕ). Reads file c.in-Ok.elf) (c.deref.ensures.value ∙ c.in_ok-write.ensures.file) c.in-Ok.ensures.reads in
    bench-of c.args.blocks c.in_ok-plan.plan c.in-Ok.elf c.in-Ok-accept.image c.requires.few c.requires.many c.in_ok-plan.ensures.plan reads c.in-Ok-accept.ensures.accepted

pub prove-unreachable-requires : goal.prove-unreachable-requires
prove-unreachable-requires c =
    let reads = subst (λ (file : List ℕ). Reads file c.in-Ok.elf) (c.deref.ensures.value ∙ c.in_ok-write.ensures.file) c.in-Ok.ensures.reads in
    let only : c.in-Err.why ≡ NoMemory = refused-for-memory c.args.blocks c.in_ok-plan.plan c.in-Ok.elf c.requires.few c.requires.many c.in_ok-plan.ensures.plan reads c.in-Err.why c.in-Err.ensures.refused in
    search rules
