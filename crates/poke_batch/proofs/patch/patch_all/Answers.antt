use Rattle.std.proofs.Common.{◌∙◌, rules}
use Rattle.insn_forms.specs.declared.forms.Change.{Change}
use Rattle.insn_forms.specs.declared.forms.Form.TheVariants.{Nop2}
use Rattle.poke_batch.specs.Clash.{NamesClash}
use Rattle.poke_batch.proofs.Clashes.{made-more, names_clash, no_clash-more, spelt-more}
use Rattle.poke_batch.proofs.patch.patch_all.Goals as goal

pub returns-in_err-patch-clause-clash : goal.returns-in_err-patch-clause-clash
returns-in_err-patch-clause-clash g c =
    let names : NamesClash (g.T.Held.held_byte c.args.text.now) c.args.changes.now c.in_err-patch.field-0.0 = names_clash (g.T.Held.held_byte c.args.text.now) c.args.changes.now c.loop-change.change-index (record { at = 0; old = Nop2; new = Nop2 }) c.in_err-patch.field-0.0 c.loop-change-test.true c.loop-change.invariant.no_clash c.in_err-patch.ensures.clash in
    search rules

pub loop-change-preserved : goal.loop-change-preserved
loop-change-preserved g c =
    let d : Change = record { at = 0; old = Nop2; new = Nop2 } in
    record {
      made = made-more c.loop-change.patches.items c.push_reserved.new.self.items c.args.changes.now c.loop-change.change-index d c.in_ok-patch.patch c.loop-change-test.true c.loop-change.invariant.made c.in_ok-patch.ensures.change c.push_reserved.ensures.items;
      spelt = spelt-more c.loop-change.patches.items c.push_reserved.new.self.items c.in_ok-patch.patch c.loop-change.invariant.spelt c.in_ok-patch.ensures.spelt c.push_reserved.ensures.items;
      capacity = c.push_reserved.ensures.capacity ∙ c.loop-change.invariant.capacity;
      no_clash = no_clash-more (g.T.Held.held_byte c.args.text.now) c.args.changes.now c.loop-change.change-index d c.loop-change-test.true c.loop-change.invariant.no_clash c.in_ok-patch.ensures.holds;
    }
