-- What is picked is what the rule has.
use Rattle.std.proofs.Common.{◌≡◌, Bool, true, false, if◌then◌else◌, List, [], ◌∷◌, ◌++◌, map, Option, Some, None, refl, ap}
use Rattle.poke_batch.specs.declared.batch.Due.{Due}
use Rattle.poke_batch.specs.declared.batch.Due.TheVariants as due
use Rattle.poke_batch.specs.Poke.{Item}
use Rattle.poke_batch.specs.Poke.Item.{Puts, Syncs}
use Rattle.poke_batch.specs.Walk.{Walk, due_at, due_of}
use Rattle.run_journal.specs.declared.event.Event.TheVariants.{Begin}
use Rattle.script_text.specs.declared.script.ScriptStep.{ScriptStep}
use Rattle.switching.specs.Choice.{Choice, Comes, due_choices}
use Rattle.switching.specs.May.{is_begun_next}
use Rattle.script_runner.specs.declared.pick.Pick.{Pick}
use Rattle.script_runner.specs.Choosing.{choice_of, patch_by}

-- one more
pub one_more_pick : (picks : List Pick) (p : Pick) → map choice_of (picks ++ p ∷ []) ≡ map choice_of picks ++ choice_of p ∷ []
one_more_pick [] p = refl
one_more_pick (q ∷ picks) p = ap (λ (cs : List Choice). choice_of q ∷ cs) (one_more_pick picks p)

-- the patch's event, by what is due
abbrev pub by_due : Due → List ScriptStep → List Choice
by_due due.Idle steps = if is_begun_next steps then Comes Begin ∷ [] else []
by_due (due.Write at byte) steps = due_choices (due.Write at byte)
by_due due.Request steps = due_choices due.Request
by_due due.Wait steps = due_choices due.Wait
by_due due.Return steps = due_choices due.Return

open_by : (left : List Item) (requested : Bool) (steps : List ScriptStep) → due_choices (due_at left requested) ≡ by_due (due_at left requested) steps
open_by [] requested steps = refl
open_by (Puts w ∷ left) requested steps = refl
open_by (Syncs ∷ left) true steps = refl
open_by (Syncs ∷ left) false steps = refl

pub patch_by_due : (o : Option Walk) (steps : List ScriptStep) → patch_by o steps ≡ by_due (due_of o) steps
patch_by_due None steps = refl
patch_by_due (Some walk) steps = open_by walk.left walk.requested steps
