use Rattle.std.proofs.Common.{◌<◌, ℕ, List, [], length, ap, sym, ◌∙◌, subst, arith}
use Rattle.atomic_table.specs.Table.{opening}
use Rattle.live_text.specs.declared.view.Shape.{Shape}
use Rattle.live_text.specs.Plan.{chunks_of}
use Rattle.live_text.specs.Flat.{rounds}
use Rattle.live_text.specs.Past.{IsShape}
use Rattle.live_text.specs.Steps.{first_view}
use Rattle.live_text.specs.Laid.{laid_shape}
use Rattle.live_text.specs.Rule.{Live}
use Rattle.live_text.specs.Seats.{Patches}
use Rattle.live_text.proofs.PatchKeeps.{Seated}
use Rattle.live_text.proofs.Shapes.{shapes, some_ends}
use Rattle.live_text.proofs.Seating.{opens, words_length, first_patches}
use Rattle.live_text.proofs.text.LiveText.alone.Goals as goal

pub of_words-requires : goal.of_words-requires
of_words-requires c =
    let p : Shape = laid_shape c.args.laid in
    let sound : IsShape p = subst IsShape (sym c.requires.laid.shape) (shapes c.args.laid.plan c.args.laid.cpus c.requires.stands) in
    let cuts : 0 < length p.cuts = subst (λ (q : Shape). 0 < length q.cuts) (sym c.requires.laid.shape) (some_ends 0 (rounds (chunks_of c.args.laid.plan))) in
    subst (λ (ws : List ℕ). Live p (opening ws [] (first_view p))) (sym (c.as_slice.ensures.value ∙ c.in_ok-words.ensures)) (opens p sound cuts)

pub invariant_of-text : goal.invariant_of-text
invariant_of-text c =
    let p : Shape = laid_shape c.args.laid in
    let made = c.in_ok-table.ensures in
    record {
      keyed = made.5;
      laid = c.requires.laid;
      stands = c.requires.stands;
      shape = subst IsShape (sym c.requires.laid.shape) (shapes c.args.laid.plan c.args.laid.cpus c.requires.stands);
      slots = made.1;
      words = made.0 ∙ ap (λ (l : List ℕ). length l) (c.as_slice.ensures.value ∙ c.in_ok-words.ensures) ∙ words_length p;
      empty = c.in_ok-room.ensures.items;
      room = omega (arith, c.in_ok-room.ensures.capacity, c.len.ensures);
    }

pub invariant_of-patch : goal.invariant_of-patch
invariant_of-patch c =
    let p : Shape = laid_shape c.args.laid in
    let cuts : 0 < length p.cuts = subst (λ (q : Shape). 0 < length q.cuts) (sym c.requires.laid.shape) (some_ends 0 (rounds (chunks_of c.args.laid.plan))) in
    let me = c.in_ok-table.ensures.4 in
    record {
      bare = ap (λ (m : Seated). m.1) me;
      patches = subst Patches (sym (ap (λ (m : Seated). m.0) me)) (first_patches p cuts);
      done_is = ap (λ (m : Seated). m.0.patch.done) me;
      stored_is = ap (λ (m : Seated). m.0.patch.stored) me;
      bounds_is = ap (λ (m : Seated). m.0.patch.bounds) me ∙ sym c.in_ok-bounds.ensures;
    }
