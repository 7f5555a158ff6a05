-- One of the bytes is missing, or they say what the key holds.
use Rattle.std.proofs.Common.{ℕ, ap}
use Rattle.module_parts.specs.declared.key.Key.{Key}
use Rattle.module_image.proofs.KeyBytes.{unloaded, loaded_whole, started}
use Rattle.module_image.proofs.key_starts.read_key.Goals as goal

pub returns-then-is_one_missing : goal.returns-then-is_one_missing
returns-then-is_one_missing c =
    unloaded c.args.file.now.sections c.args.at c.load_16-bytes.result c.load_16-bytes.ensures (c.is_one_missing.ensures.missing c.if-is_one_missing.true)

pub returns : goal.returns
returns c =
    let made : ℕ → Key = λ start. record { class = c.args.class; at = c.args.at; start = start } in (
      ap made (started c.args.file.now.sections c.args.class c.args.at c.start_of.result c.load_16-bytes.result c.load_16-bytes.ensures c.start_of.ensures),
      loaded_whole c.args.file.now.sections c.args.at c.load_16-bytes.result c.load_16-bytes.ensures (c.is_one_missing.ensures.whole c.if-is_one_missing.false),
    )
