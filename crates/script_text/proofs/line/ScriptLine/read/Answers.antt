use Rattle.std.proofs.Common.{sym, arith}
use Rattle.std.proofs.lemmas.Grind.{common_steps}
use Rattle.poke_base.specs.Text.{words}
use Rattle.script_text.proofs.NoText.{no_text, unread}
use Rattle.script_text.proofs.line.ScriptLine.read.Goals as goal

pub returns-in_err-ok : goal.returns-in_err-ok
returns-in_err-ok c =
    rw c.from_residual.ensures
    (sym (unread c.args.name.now (words c.args.rest.now) (no_text _ c.args.name.now c.from_utf8.result c.from_utf8.ensures.cases (grind (arith, common_steps)))))
