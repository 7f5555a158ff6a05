-- The keys of the entries so far, and those of the rest.
use Rattle.std.proofs.Common.{◌≡◌, ◌≤◌, [], length, drop}
use Rattle.module_names.specs.Keys.{gathered}
use Rattle.module_names.specs.KeyList.{IsRising}
use Rattle.module_names.proofs.key_list.addresses_of.Given as goal

abbrev pub invariant-loop-entry : goal.invariant-loop-entry
invariant-loop-entry l = record {
  rest : gathered l.class l.list [] ≡ gathered l.class (drop l.entry-index l.list) l.found.items;
  rising : IsRising l.found.items;
  few : length l.found.items ≤ l.entry-index;
}
