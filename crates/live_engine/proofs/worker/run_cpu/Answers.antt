-- Each turn adds to the walk what it did.
use Rattle.std.proofs.Common.{◌∙◌, ◌+◌, ℕ, List, arith, subst, sym}
use Rattle.x64_subset.specs.Proc.{start}
use Rattle.live_engine.specs.declared.cpu.Turn.{Turn}
use Rattle.live_engine.specs.LiveCpu.{runner}
use Rattle.live_engine.specs.Walks.{IsWalk}
use Rattle.live_engine.proofs.Treading.{IsUnderWay, added-none, added-one, is-done, sets-out, turned-walk}
use Rattle.live_engine.proofs.Walking.{IsWalking}
use Rattle.live_engine.proofs.worker.run_cpu.Goals.{in-Trapped, in-Ran}
use Rattle.live_engine.proofs.worker.run_cpu.Goals as goal

pub loop-turn-init : goal.loop-turn-init
loop-turn-init g c = sets-out c.args.image.now c.args.text.now c.args.turns c.args.job c.requires.ready c.new_cpus_are_paired.ensures

pub loop-turn-preserved : goal.loop-turn-preserved
loop-turn-preserved g c =
    let i = c.loop-turn.invariant in
    let m = c.args.image.now in
    let text = c.args.text.now in
    let old = c.loop-turn.job in
    let turned = turned-walk m text.plan c.next_word-word.result (start c.args.job.entry) c.loop-turn.turn (runner old.cpu old.seat) (runner c.turn.new.self c.turn.new.seat) old.walk.items c.turn.result (record { accepted = c.accepted.ensures; paired = i.paired; turns = c.turn.ensures.turns; acks = c.turn.ensures.acks; floors = c.turn.ensures.floors }) i.walking in
    elim c.match-turn.branch [
      | in-Trapped w ↦
          subst (IsUnderWay m text c.args.turns (c.loop-turn.turn + 1) c.args.job.entry) (sym w.job-is)
          (record {
            own = c.turn.ensures.own;
            paired = c.turn.ensures.paired;
            entry_is = i.entry_is;
            room = i.room;
            walking =
                subst (λ (walk : List Turn). IsWalking m text.plan (start c.args.job.entry) (c.loop-turn.turn + 1) c.turn.new.self c.turn.new.seat.view walk) (added-none old.walk.items c.turn.result w.in-Trapped.is) turned;
          })
      | in-Ran w ↦
          subst (IsUnderWay m text c.args.turns (c.loop-turn.turn + 1) c.args.job.entry) (sym w.job-is)
          (record {
            own = c.turn.ensures.own;
            paired = c.turn.ensures.paired;
            entry_is = i.entry_is;
            room = (let same = w.push_reserved.ensures.capacity in let room = i.room in omega arith);
            walking =
                subst (λ (walk : List Turn). IsWalking m text.plan (start c.args.job.entry) (c.loop-turn.turn + 1) c.turn.new.self c.turn.new.seat.view walk) (added-one old.walk.items c.turn.result w.in-Ran.is ∙ sym w.push_reserved.ensures.items) turned;
          })
    ]

pub returns-clause-done : goal.returns-clause-done
returns-clause-done g c =
    let i = c.loop-turn.invariant in
    record {
      walk =
          subst (λ (entry : ℕ). IsWalk c.args.image.now c.args.text.now.plan entry c.args.turns c.loop-turn.job.walk.items) (sym i.entry_is)
          (is-done c.args.image.now c.args.text.now c.args.turns c.loop-turn.turn c.args.job.entry c.loop-turn.job i (omega arith));
    }
