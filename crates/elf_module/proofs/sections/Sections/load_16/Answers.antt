use Rattle.std.proofs.Common.{◌≡◌, ◌<◌, ◌+◌, ◌%◌, ◌^◌, ◌∙◌, ◌++◌, ◌∷◌, [], ℕ, Bool, true, false, List, ap, refl, sym, arith, map}
use Rattle.std.specs.List.{range_with_len}
use Rattle.std.proofs.lemmas.List.FromFn.{map-range_with_len_more}
use Rattle.elf_module.specs.Elf.{SectionRecord, covers, e_shnum, loaded_from, section_at}
use Rattle.elf_module.proofs.Loading.{loaded_over, loaded_aside}
use Rattle.elf_module.proofs.sections.Sections.load_16.Goals as goal
use Rattle.elf_module.proofs.sections.Sections.load_16.Goals.{then-may_add, else-may_add}

-- a test that passes of each section that has a byte, and fails, says that there is none
aside : (covered result : Bool) → (covered ≡ true → result ≡ true) → result ≡ false → covered ≡ false
aside true result passes fails = absurd (cc (passes refl, fails))
aside false result passes fails = refl

pub loop-i-preserved : goal.loop-i-preserved
loop-i-preserved c =
    let file = c.args.self.now.headers.bytes.now in
    let i = c.loop-i.i in
    let before = map (section_at file) (range_with_len 0 i) in
    let more : before ++ section_at file i ∷ [] ≡ map (section_at file) (range_with_len 0 (i + 1)) = sym (map-range_with_len_more (section_at file) 0 i i (omega arith)) in
    let next = ap (λ (ss : List SectionRecord). loaded_from ss 16 c.args.at) more in
    elim c.if-may_add.branch [
      | then-may_add w ↦ w.bytes-is ∙ w.load_over-bytes.ensures ∙ loaded_over before (section_at file i) 16 c.args.at c.loop-i.bytes c.loop-i.invariant ∙ next
      | else-may_add w ↦ w.bytes-is ∙ c.loop-i.invariant
          ∙ loaded_aside before (section_at file i) 16 c.args.at c.loop-i.bytes c.loop-i.invariant
          (λ k lt none. aside (covers (section_at file i) ((c.args.at + k) % 2 ^ 64)) c.may_add.result (c.may_add.ensures k lt none) w.if-may_add.false) ∙ next
    ]

pub returns : goal.returns
returns c =
    let file = c.args.self.now.headers.bytes.now in
    let all : c.loop-i.i ≡ e_shnum file = omega arith in
    c.loop-i.invariant ∙ ap (λ n. loaded_from (map (section_at file) (range_with_len 0 n)) 16 c.args.at) all
