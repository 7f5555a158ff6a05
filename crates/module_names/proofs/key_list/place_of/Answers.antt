-- What the binary search found is the place.
use Rattle.std.proofs.Common.{arith, inl, inr, Ok, Err}
use Rattle.std.proofs.lemmas.Bool.{cases_lt}
use Rattle.std.proofs.lemmas.List.Sorted.{searched}
use Rattle.module_names.proofs.Rising.{rising_to, place-there, place-absent}
use Rattle.module_names.proofs.key_list.place_of.Goals as goal

pub returns-in-Ok-clause-is : goal.returns-in-Ok-clause-is
returns-in-Ok-clause-is c =
    let found = searched c.args.keys.now c.args.key (Ok c.in-Ok.place) c.in-Ok.ensures.position (rising_to c.args.keys.now c.requires.rising) in
    place-there c.args.keys.now c.args.key c.in-Ok.place c.requires.rising found.0 found.1

pub returns-in-Err-clause-is : goal.returns-in-Err-clause-is
returns-in-Err-clause-is c =
    let parted = searched c.args.keys.now c.args.key (Err c.in-Err.field-0) c.in-Err.ensures.position (rising_to c.args.keys.now c.requires.rising) in
    place-absent c.args.keys.now c.args.key
    (λ k lt e. elim (cases_lt k c.in-Err.field-0) [
      | inl before ↦ omega (arith, parted.1 k before, e)
      | inr after ↦ omega (arith, parted.2 k after lt, e)
    ])
