use Rattle.std.proofs.Common.{◌∙◌}
use Rattle.poke_base.proofs.Numbers.{digits_number-hex}
use Rattle.poke_base.proofs.number.read_hex.Goals as goal

pub returns : goal.returns
returns c = c.read_digits.ensures ∙ digits_number-hex c.args.word.now
