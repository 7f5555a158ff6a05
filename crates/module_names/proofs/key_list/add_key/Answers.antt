-- What the binary search found is where the key is, or where it goes.
use Rattle.std.proofs.Common.{Ok, Err}
use Rattle.std.proofs.lemmas.List.Sorted.{searched}
use Rattle.module_names.proofs.Rising.{rising_to, with_key-there, with_key-absent}
use Rattle.module_names.proofs.key_list.add_key.Goals as goal

pub returns-in-Ok-clause-with_key : goal.returns-in-Ok-clause-with_key
returns-in-Ok-clause-with_key c =
    let keys = c.args.keys.now.items in
    let found = searched keys c.args.key (Ok c.in-Ok.field-0) (rw c.deref.ensures.value at c.in-Ok.ensures.position) (rising_to keys c.requires) in
    with_key-there keys c.args.key c.in-Ok.field-0 c.requires found.0 found.1

pub returns-in_ok-insert-in-Err-clause-with_key : goal.returns-in_ok-insert-in-Err-clause-with_key
returns-in_ok-insert-in-Err-clause-with_key c =
    let keys = c.args.keys.now.items in
    let parted = searched keys c.args.key (Err c.in-Err.place) (rw c.deref.ensures.value at c.in-Err.ensures.position) (rising_to keys c.requires) in
    rw (← with_key-absent keys c.args.key c.in-Err.place parted.0 parted.1 parted.2) c.in_ok-insert-in-Err.ensures.items
