use Rattle.std.proofs.Common.{rules, ◌≡◌, ◌++◌, Result, Ok, Err, OnErr}
use Rattle.poke_base.proofs.Files.{same-updates, added-updates, stays-updates}
use Rattle.poke_base.proofs.store.extend.Goals as goal

-- a fact that holds anyhow holds after a failure
under_err : {T E P : Type 0} (r : Result T E) → P → OnErr r P
under_err (Ok done) fact = tt
under_err (Err why) fact = fact

pub returns-in_err-extend_from_slice-clause-err : goal.returns-in_err-extend_from_slice-clause-err
returns-in_err-extend_from_slice-clause-err c =
    let after = c.extend_from_slice.new.self in
    let same : after.items ≡ c.in-Some.bytes.now.items = search rules in
    under_err c.from_residual.result (same-updates c.args.files.now (c.get_mut.follows.lender after) c.args.name.now c.in-Some.bytes.now after c.in-Some.ensures.value ((c.get_mut.follows.holds after).3 (search rules)) same)

pub returns-in_err-extend_from_slice-clause-stays : goal.returns-in_err-extend_from_slice-clause-stays
returns-in_err-extend_from_slice-clause-stays c =
    let after = c.extend_from_slice.new.self in
    stays-updates c.args.files.now (c.get_mut.follows.lender after) c.args.name.now after ((c.get_mut.follows.holds after).3 (search rules))

pub returns-clause-ok : goal.returns-clause-ok
returns-clause-ok c =
    let after = c.extend_from_slice.new.self in
    let more : after.items ≡ c.in-Some.bytes.now.items ++ c.args.piece.now = search rules in
    added-updates c.args.files.now (c.get_mut.follows.lender after) c.args.name.now c.args.piece.now c.in-Some.bytes.now after c.in-Some.ensures.value ((c.get_mut.follows.holds after).3 (search rules)) more

pub returns-clause-stays : goal.returns-clause-stays
returns-clause-stays c =
    let after = c.extend_from_slice.new.self in
    stays-updates c.args.files.now (c.get_mut.follows.lender after) c.args.name.now after ((c.get_mut.follows.holds after).3 (search rules))
