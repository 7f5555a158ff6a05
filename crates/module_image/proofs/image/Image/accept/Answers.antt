use Rattle.std.proofs.Common.{◌∙◌, List, ℕ, ap, arith, length, sym}
use Rattle.std.proofs.lemmas.Result.{err_from_is_err_and}
use Rattle.module_parts.specs.declared.key.KeyClass.TheVariants.{Jump}
use Rattle.module_names.specs.Keys.{key_addresses}
use Rattle.module_names.specs.Names.{functions_from, keys_from, value_of}
use Rattle.module_image.proofs.Lent.{sound_of}
use Rattle.module_image.proofs.Sound.{found_aims}
use Rattle.module_image.proofs.image.Image.accept.Goals as goal

pub of-requires-3-clause-functions : goal.of-requires-3-clause-functions
of-requires-3-clause-functions c =
    found_aims c.args.file.now c.in_ok-found.found.text.index c.deref-4.result.now c.in_ok-found.ensures.found.is_text.index (c.deref-4.ensures.value ∙ c.in_ok-names.ensures.names.addresses)

pub invariant_of-result : goal.invariant_of-result
invariant_of-result c =
    let found = c.in_ok-found.ensures.found in
    let swept = c.in_ok-swept.ensures.swept in
    let names = c.in_ok-names.ensures.names in
    let below = found.is_text.below in
    let size = ap length found.is_text.same_bytes ∙ sym swept.same_length in
    sound_of _ c.args.file.now
    (record {
      passes = c.in_ok-swept.ensures.tried;
      has_base = found.is_text.same_base;
      below = omega (arith, below, size);
      has_text = swept.has_text;
      bytes = swept.bytes;
      has_sites = found.has_sites;
      has_keys = c.in_ok-keys.ensures.found;
      swept = swept.units;
      leads = swept.leads;
      named_functions = λ q. names.functions q ∙ ap (λ (i : ℕ). value_of q (functions_from i c.args.file.now.symbols)) found.is_text.index;
      named_jump_keys = λ q. names.jump_keys q ∙ ap (λ (ks : List ℕ). value_of q (keys_from 0 ks c.args.file.now.symbols)) found.jumps;
      named_call_keys = λ q.
          names.call_keys q
          ∙ ap (λ (n : ℕ). value_of q (keys_from n c.in_ok-found.found.addresses.calls.items c.args.file.now.symbols)) (ap length found.jumps)
          ∙ ap (λ (ks : List ℕ). value_of q (keys_from (length (key_addresses c.args.file.now Jump)) ks c.args.file.now.symbols)) found.calls;
    }) c.get-tracer.ensures

pub returns-in_err-tracer_missing-clause-refused : goal.returns-in_err-tracer_missing-clause-refused
returns-in_err-tracer_missing-clause-refused c =
    let p = err_from_is_err_and c.from_residual-in_err-tracer_missing.result c.from_residual-in_err-tracer_missing.ensures.1 in
    rw (p.1, p.2) c.in_err-tracer_missing.ensures

pub returns-in_err-swept-clause-refused : goal.returns-in_err-swept-clause-refused
returns-in_err-swept-clause-refused c =
    let p = err_from_is_err_and c.from_residual-in_err-swept.result c.from_residual-in_err-swept.ensures.1 in
    rw (p.1, p.2) c.in_err-swept.ensures.tried
