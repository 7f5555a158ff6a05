-- The words so far are the first of the list.
use Rattle.std.proofs.Common.{◌≡◌, map, take}
use Rattle.poke_tool.specs.Words.{words_of}
use Rattle.tried_commands.proofs.words.Given as goal

abbrev pub invariant-loop-word : goal.invariant-loop-word
invariant-loop-word l = words_of l.words.items ≡ map (λ word. word.now) (take l.word-index l.list)
