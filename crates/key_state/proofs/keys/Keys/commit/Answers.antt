use Rattle.std.proofs.Common.{◌∙◌, Ok, ap, sym}
use Rattle.key_state.proofs.Keeping.{commands_keep}
use Rattle.key_state.proofs.keys.Keys.commit.Goals as goal

pub returns-in-Ok-clause-states : goal.returns-in-Ok-clause-states
returns-in-Ok-clause-states c =
    commands_keep c.args.image.now c.args.self.now c.set.new.self c.args.command.now c.accepted.ensures c.requires.states c.requires.command
    (c.in-Ok.ensures.effect ∙ ap Ok (sym c.set.ensures))
