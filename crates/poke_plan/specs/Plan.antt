-- What `plan` prints, and from what.
use Rattle.std.specs.Prelude.{ℕ, List, [], ◌∷◌, ◌++◌, codes, drop, Option}
use Rattle.std.specs.List.{flat_map}
use Rattle.hex.specs.Hex.{encode_lower}
use Rattle.poke_base.specs.Number.{hexadecimal}
use Rattle.insn_forms.specs.declared.forms.Change.{Change}
use Rattle.poke_batch.specs.declared.batch.Due.{Due}
use Rattle.poke_batch.specs.declared.batch.Due.TheVariants.{Idle, Write, Request, Wait, Return}
use Rattle.poke_batch.specs.Walk.{Walk, due_of, to_come}
use Rattle.poke_batch.specs.Poke.{Item, items}
use Rattle.poke_batch.specs.Poke.Item.{Puts, Syncs}

-- the line of an item: `w ADDRESS BYTE` or `sync`
abbrev pub item_line : Item → List ℕ
item_line (Puts w) = codes "w " ++ hexadecimal w.at ++ codes " " ++ encode_lower (w.byte ∷ []) ++ 10 ∷ []
item_line Syncs = codes "sync" ++ 10 ∷ []

-- the poke of one change, line by line
abbrev pub poke_text : Change → List ℕ
poke_text change = flat_map item_line (items (change ∷ []))

-- the items that are still to be printed: where a synchronisation is waited for, its line was printed
abbrev pub after_wait : Due → List Item → List Item
after_wait Idle items = items
after_wait (Write at byte) items = items
after_wait Request items = items
after_wait Wait items = drop 1 items
after_wait Return items = items

abbrev pub to_print : Option Walk → List Item
to_print update = after_wait (due_of update) (to_come update)
