use Rattle.std.proofs.Common.{ℕ, List, subst, sym}
use Rattle.x64_subset.specs.Spells.{Stands}
use Rattle.cpu_core.specs.Fetch.{IsFetch}
use Rattle.cpu_core.specs.Standing.{ArePicked, end_of}
use Rattle.cpu_core.proofs.Begun.{form-told, picked-take}
use Rattle.cpu_core.proofs.fetch.fetch.Goals as goal

pub returns-in-Ok-clause-fetch : goal.returns-in-Ok-clause-fetch
returns-in-Ok-clause-fetch g c p is =
    let bytes = c.pick_form-bytes.result.items in
    let found : Stands c.in-Ok.field-0-0 c.from.result c.args.at bytes =
    subst (λ (l : List ℕ). Stands c.in-Ok.field-0-0 c.from.result c.args.at l) c.deref.ensures.0 ((c.decode.ensures.stands c.in-Ok.field-0-0 c.from.result).0 (cc)) in
    subst (λ (l : List ℕ). IsFetch (end_of p) c.args.at l) (sym c.truncate.ensures.items)
    (form-told (end_of p) c.args.at bytes c.in-Ok.field-0-0 c.from.result (c.pick_form-bytes.ensures.inside p is) found)

pub returns-in-Ok-clause-picked : goal.returns-in-Ok-clause-picked
returns-in-Ok-clause-picked g c p is =
    subst (λ (l : List ℕ). ArePicked c.args.word p c.args.cpu c.args.at l) (sym c.truncate.ensures.items)
    (picked-take c.args.word p c.args.cpu c.args.at c.from.result c.pick_form-bytes.result.items (c.pick_form-bytes.ensures.picked p is))
