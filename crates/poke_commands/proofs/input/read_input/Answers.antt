use Rattle.std.proofs.Common.{◌≡◌, ◌<◌, ℕ, List, [], length, Option, Some, None, Err, unwrap_or, refl, subst, arith, rules}
use Rattle.std.specs.FinMap.{get}
use Rattle.poke_base.specs.declared.host.ReadFail.TheVariants.{TooLong}
use Rattle.poke_base.specs.Text.{IsPrefix}
use Rattle.poke_base.specs.Host.{Files, Outside, ReadsFile}
use Rattle.insn_forms.proofs.Spellings.{prefix-length}
use Rattle.poke_commands.specs.Saying.{Holds}
use Rattle.poke_commands.proofs.input.read_input.Goals as goal

-- a text that begins with a text that isn't empty isn't missing
held_text : (file : Option (List ℕ)) (out : List ℕ) → 0 < length out → IsPrefix out (unwrap_or file []) → file ≡ Some (unwrap_or file [])
held_text None out some prefix = absurd (let short = prefix-length out [] prefix in omega arith)
held_text (Some text) out some prefix = refl

-- a file that is longer than its limit
record IsLong (told : Option Files) (name : List ℕ) (limit : ℕ) : Type 0 where
  text : List ℕ
  holds : Holds told name text
  long : limit < length text

-- a file of which more bytes were read than allowed
long_file : (old new : Outside) (name out : List ℕ) (limit : ℕ) (told : Option Files) → new.files ≡ told → ReadsFile {T = Unit {0}} old new name limit out (Err TooLong) → IsLong told name limit
long_file old new name out limit None is reads =
    let long = reads.too_long refl in
    record { text = out; holds = λ files told. absurd (cc); long = omega arith }
long_file old new name out limit (Some files) is reads =
    let long = reads.too_long refl in
    let prefix = (reads.contents files is).prefix in
    record {
      text = unwrap_or (get files name) [];
      holds = λ others also.
          let same : files ≡ others = cc in
          subst (λ (fs : Files). get fs name ≡ Some (unwrap_or (get files name) [])) same (held_text (get files name) out (omega arith) prefix);
      long = let at_least = prefix-length out (unwrap_or (get files name) []) prefix in omega arith;
    }

pub returns-in-Ok : goal.returns-in-Ok
returns-in-Ok g c = record {
  asks = search rules;
  leaves = search rules;
  input = (c.read_file.new.out.items, λ files told. (c.in-Ok.ensures.contents files told).whole, (refl, c.in-Ok.ensures.fits));
}

pub returns-in-Err-TooLong : goal.returns-in-Err-TooLong
returns-in-Err-TooLong g c =
    let reads = rw c.in-Err-TooLong.field-0-is at c.in-Err-TooLong.ensures in
    let long = long_file _ _ c.args.name.now c.read_file.new.out.items c.args.limit _ refl reads in
    record {
      asks = search rules;
      leaves = search rules;
      input = (long.text, long.holds, (refl, long.long));
    }
