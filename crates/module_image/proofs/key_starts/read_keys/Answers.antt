-- The first key that lacks a byte, one key more, and all of them.
use Rattle.std.proofs.Common.{◌≤◌, ◌∙◌, ◌∷◌, ◌++◌, [], ap, refl, arith, length}
use Rattle.module_parts.specs.declared.key.Key.{Key}
use Rattle.module_names.specs.Keys.{key_of, keys}
use Rattle.module_image.specs.Refusals.{IsKeyOutside}
use Rattle.module_image.proofs.Firsts.{none_at_end}
use Rattle.module_image.proofs.KeyBytes.{below_next, key_here, keys_count, read_more}
use Rattle.module_image.proofs.Passed.{passes-loaded, refused-loaded}
use Rattle.module_image.proofs.key_starts.read_keys.Goals as goal

pub returns-in-None-clause-tried : goal.returns-in-None-clause-tried
returns-in-None-clause-tried c =
    let elf = c.args.file.now in
    let a = c.args.addresses.now in
    let k = key_of elf.sections c.key-class.result.0 c.key-class.result.1 in
    let here = key_here elf a.jumps.items a.calls.items c.loop-i.i k c.requires.jumps c.requires.calls (c.key-class.ensures (key_of elf.sections)) in
    refused-loaded elf (keys elf) k refl c.requires.passed (record { place = c.loop-i.i; here = here; has = c.in-None.ensures; before = c.loop-i.invariant.whole })

pub loop-i-preserved : goal.loop-i-preserved
loop-i-preserved c =
    let elf = c.args.file.now in
    let a = c.args.addresses.now in
    let k = key_of elf.sections c.key-class.result.0 c.key-class.result.1 in
    let here = key_here elf a.jumps.items a.calls.items c.loop-i.i k c.requires.jumps c.requires.calls (c.key-class.ensures (key_of elf.sections)) in
    record {
      read = read_more (keys elf) c.loop-i.found.items c.push.new.self.items c.loop-i.i k here c.loop-i.invariant.read
          (c.in_ok-push-in-Some.ensures.items ∙ ap (λ (x : Key). c.loop-i.found.items ++ x ∷ []) c.in-Some.ensures.0);
      whole = below_next (IsKeyOutside elf) (keys elf) c.loop-i.i k c.loop-i.invariant.whole here c.in-Some.ensures.1;
    }

pub returns-clause-tried : goal.returns-clause-tried
returns-clause-tried c =
    let elf = c.args.file.now in
    let a = c.args.addresses.now in
    let all : length (keys elf) ≤ c.loop-i.i = omega (arith, keys_count elf, ap length c.requires.jumps, ap length c.requires.calls, c.count-i-end.ensures, c.loop-i-test.false) in
    passes-loaded elf (keys elf) refl c.requires.passed (none_at_end (IsKeyOutside elf) (keys elf) c.loop-i.i c.loop-i.invariant.whole all)
