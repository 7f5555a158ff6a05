-- What was made, with what is left, is the whole.
use Rattle.std.proofs.Common.{◌≡◌, ◌++◌, map, drop}
use Rattle.elf_build.specs.declared.plan.PlanKey.{PlanKey}
use Rattle.elf_build.specs.declared.plan.PlanFunction.{PlanFunction}
use Rattle.small_module.specs.SmallModule.{named}
use Rattle.small_module.proofs.Small.plan.Given as goal

abbrev pub invariant-loop-bytes : goal.invariant-loop-bytes
invariant-loop-bytes l = record {
  starts :
      map (λ (key : PlanKey). key.start) l.keys.items ++ map (λ key. key.1) (drop l.bytes-index l.bytes-items)
      ≡ map (λ key. key.1) l.bytes-items;
  names :
      map (λ (key : PlanKey). key.name.items) l.keys.items ++ map (λ key. named key.0.now) (drop l.bytes-index l.bytes-items)
      ≡ map (λ key. named key.0.now) l.bytes-items;
}

abbrev pub invariant-loop-bytes-2 : goal.invariant-loop-bytes-2
invariant-loop-bytes-2 l = record {
  places :
      map (λ (function : PlanFunction). function.at) l.functions.items
      ++ map (λ function. function.1) (drop l.bytes-index l.bytes-items)
      ≡ map (λ function. function.1) l.bytes-items;
  names :
      map (λ (function : PlanFunction). function.name.items) l.functions.items
      ++ map (λ function. named function.0.now) (drop l.bytes-index l.bytes-items)
      ≡ map (λ function. named function.0.now) l.bytes-items;
}
