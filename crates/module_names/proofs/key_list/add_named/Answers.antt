-- One more key.
use Rattle.std.proofs.Common.{subst, sym}
use Rattle.std.proofs.lemmas.Result.{on_ok_weaker}
use Rattle.module_names.specs.KeyList.{IsRising}
use Rattle.module_names.proofs.Rising.{rising-with_key, length-with_key}
use Rattle.module_names.proofs.key_list.add_named.Goals as goal

pub returns-in-Some-clause-rising : goal.returns-in-Some-clause-rising
returns-in-Some-clause-rising c =
    on_ok_weaker c.add_key.result (λ is. subst IsRising (sym is) (rising-with_key c.in-Some.key c.args.keys.now.items c.requires)) c.add_key.ensures.with_key

pub returns-in-Some-clause-few : goal.returns-in-Some-clause-few
returns-in-Some-clause-few c =
    on_ok_weaker c.add_key.result (λ is. rw is (length-with_key c.in-Some.key c.args.keys.now.items)) c.add_key.ensures.with_key
