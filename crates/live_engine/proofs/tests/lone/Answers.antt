-- The last processor is new, and stands at a start.
use Rattle.std.proofs.Common.{List, [], ◌∷◌, ◌++◌, All, subst}
use Rattle.std.proofs.lemmas.List.Elements.{All-head, All-tail}
use Rattle.live_engine.specs.declared.job.Job.{Job}
use Rattle.live_engine.specs.LiveRun.{IsReady}
use Rattle.live_engine.proofs.Treading.{sets-out}
use Rattle.live_engine.proofs.tests.lone.Goals as goal

last-of : {X : Type 0} (P : X → Type 0) (xs : List X) (x : X) → All P (xs ++ x ∷ []) → P x
last-of P [] x all = All-head P x [] all
last-of P (y ∷ ys) x all = last-of P ys x (All-tail P y (ys ++ x ∷ []) all)

pub returns-clause-paired : goal.returns-clause-paired
returns-clause-paired g c =
    let m = c.args.image.now in
    let text = c.in_ok-text.field-0.text in
    let ready : IsReady m text 0 c.in-Some.job =
    last-of (IsReady m text 0) c.pop.new.self.items c.in-Some.job (subst (λ (jobs : List Job). All (IsReady m text 0) jobs) c.in-Some.ensures.items c.in_ok-text.ensures.crew.ready) in
    (sets-out m text 0 c.in-Some.job ready c.new_cpus_are_paired.ensures).paired
