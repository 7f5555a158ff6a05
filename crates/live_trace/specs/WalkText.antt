-- What is shown of the walks of a live run.
use Rattle.std.specs.Prelude.{ℕ, ◌+◌, List, [], ◌∷◌, ◌++◌, codes}
use Rattle.insn_forms.specs.declared.forms.Form.{Form}
use Rattle.cpu_core.specs.Lines.{mark_line, pass_words}
use Rattle.live_engine.specs.declared.cpu.Turn.{Turn}
use Rattle.live_engine.specs.declared.cpu.Turn.TheVariants.{Ran, Pass, Trapped, Still}
use Rattle.live_engine.specs.Walks.{after_turn}
use Rattle.module_image.specs.Module.{Module}
use Rattle.poke_base.specs.Number.{decimal}
use Rattle.x64_subset.specs.declared.proc.Life.{Life}
use Rattle.x64_subset.specs.declared.proc.Proc.{Proc}
use Rattle.x64_subset.specs.Proc.{start}
use Rattle.x64_subset.specs.Whole.{insn_of}

-- `C ADDR FORM v N g G`: the form that a processor did at a site, which version of the site that is, and the last
-- acknowledgement of the processor
abbrev pub version_words : ℕ → ℕ → List ℕ
version_words n ack = codes " v " ++ decimal n ++ codes " g " ++ decimal ack ++ 10 ∷ []

abbrev pub version_line : ℕ → ℕ → Form → ℕ → ℕ → List ℕ
version_line cpu at form n ack = pass_words cpu at (insn_of form) ++ version_words n ack

-- what a member of a walk shows, of a processor that stood at an address, and then is in this state
abbrev pub turn_text : ℕ → ℕ → Turn → Life → List ℕ
turn_text cpu at (Ran mark) life = mark_line cpu mark life
turn_text cpu at (Pass site form n ack mark) life = version_line cpu at form n ack ++ mark_line cpu mark life
turn_text cpu at Trapped life = []
turn_text cpu at Still life = []

-- what a walk shows, of a processor that then is in such a state
abbrev pub walk_text : Module → ℕ → Proc → List Turn → List ℕ
walk_text m cpu p [] = []
walk_text m cpu p (turn ∷ turns) =
    turn_text cpu p.ip turn (after_turn m p turn).life ++ walk_text m cpu (after_turn m p turn) turns

-- what the walks show of the processors that start at these entries, by number, ascending
abbrev pub walks_text : Module → ℕ → List ℕ → List (List Turn) → List ℕ
walks_text m cpu [] walks = []
walks_text m cpu (entry ∷ entries) [] = []
walks_text m cpu (entry ∷ entries) (walk ∷ walks) =
    walk_text m cpu (start entry) walk ++ walks_text m (cpu + 1) entries walks
