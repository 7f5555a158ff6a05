use Rattle.std.proofs.Common.{◌≡◌, ◌+◌, ◌<◌, ◌≤◌, ℕ, Bool, length, zero, suc, false, true, nat_lt, if◌then◌else◌, List, [], ◌∷◌, ◌++◌, Option, Some, None, IsSome, slice_index_or, ◌∙◌, ap, refl, subst, sym, arith, lit≤}
use Rattle.std.proofs.lemmas.Bool.{le-ltb, lt-ltb}
use Rattle.insn_forms.specs.declared.forms.Change.{Change}
use Rattle.insn_forms.specs.declared.forms.Form.TheVariants.{Jmp32, Nop5}
use Rattle.insn_forms.specs.Changes.{ChangeList}
use Rattle.insn_forms.specs.Spelling.{spell}
use Rattle.poke_batch.specs.Clash.{CanPoke, IsPatchable}
use Rattle.stale_fetch.specs.Past.{Past, held_in}
use Rattle.stale_fetch.specs.Text.{Shape, Agrees}
use Rattle.cpu_tests.proofs.tests.open.Goals as goal

-- one of two values, where both tests say that a byte is there
both_pass : {A : Type 0} (before inside : Bool) (x : A) → before ≡ false → inside ≡ true → IsSome (if before then None else (if inside then Some x else None))
both_pass before inside x p q = rw (p, q) refl

-- a text holds a byte at each of its addresses
held_inside : (p : Past) (a : ℕ) → p.base ≤ a → a < p.base + length p.text → IsSome (held_in p a)
held_inside p a from below = both_pass (nat_lt a p.base) (nat_lt a (p.base + length p.text)) _ (le-ltb a p.base from) (lt-ltb a (p.base + length p.text) below)

-- the change of the tests
abbrev jump : Change
jump = record { at = 0x401003; old = Nop5; new = Jmp32 0x401008 }

-- a text that holds the bytes of the site can be patched with it
jump_patchable : (held : ℕ → Option ℕ) → ((j : ℕ) → j < 5 → IsSome (held (0x401003 + j))) → IsPatchable held jump
unfolding spell
jump_patchable held some = record {
  one_size = refl;
  old_spelt = refl;
  new_spelt = refl;
  below = lit≤ tt;
  inside = some;
}

-- it is the one change of the list
jump_at : (held : ℕ → Option ℕ) → ((j : ℕ) → j < 5 → IsSome (held (0x401003 + j))) → (k : ℕ) (d : Change) → k < 1 → IsPatchable held (slice_index_or (jump ∷ []) k d)
jump_at held some zero d lt = jump_patchable held some
jump_at held some (suc k) d lt = absurd (omega arith)

-- the list of it can be poked
jump_can_poke : (held : ℕ → Option ℕ) → ((j : ℕ) → j < 5 → IsSome (held (0x401003 + j))) → CanPoke held (jump ∷ [])
jump_can_poke held some = record {
  each = λ k d lt. jump_at held some k d lt;
  apart = λ i j d lt below. absurd (omega arith);
}

-- a text of these nine bytes holds the bytes of the site
site_held : (shape : Shape) (held : ℕ → Option ℕ) (p : Past) → Agrees shape held p → shape.base ≡ 0x401000 → shape.size ≡ 9 → (j : ℕ) → j < 5 → IsSome (held (0x401003 + j))
site_held shape held p agrees base size j lt =
    let starts = agrees.base in
    let long = agrees.size in
    subst (λ (o : Option ℕ). IsSome o) (sym (agrees.bytes (0x401003 + j))) (held_inside p (0x401003 + j) (omega arith) (omega arith))

pub fill-opened-requires-clause-ready : goal.fill-opened-requires-clause-ready
fill-opened-requires-clause-ready g c =
    let empty = rw c.expect-changes.ensures at c.with_room.ensures.empty in
    let list : c.push.new.self.list ≡ jump ∷ [] =
    ap (λ (changes : ChangeList). changes.list) c.push.ensures ∙ ap (λ (changes : List Change). changes ++ jump ∷ []) empty in
    let stands = c.requires.stands in
    subst (λ (changes : List Change). CanPoke (g.T.Held.held_byte c.args.text.now) changes) (sym list)
    (jump_can_poke (g.T.Held.held_byte c.args.text.now)
    (site_held (g.T.Text.shape c.args.text.now) (g.T.Held.held_byte c.args.text.now) stands.past (g.met.T.Text.agrees c.args.text.now stands.past stands.is) c.requires.base c.requires.size))
