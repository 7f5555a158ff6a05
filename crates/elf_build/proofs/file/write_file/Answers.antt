use Rattle.std.proofs.Common.{◌≡◌, ◌∙◌, ◌++◌, ℕ, List, OnOk, length, drop, replicate, subst}
use Rattle.elf_build.specs.File.{body, elf_header, headers_from, parts}
use Rattle.elf_build.proofs.Appends.{appended-prefix}
use Rattle.elf_build.proofs.file.write_file.Goals as goal

pub returns : goal.returns
returns c =
    appended-prefix (elf_header (length (body c.args.plan.now)) ++ drop 64 (body c.args.plan.now)) (replicate 64 0) (headers_from c.args.plan.now (replicate 64 0) parts) c.add.new.out.items c.add-2.new.out.items _ _
    c.in_ok-write_contents.ensures.file c.in_ok-add.ensures
    (subst (λ (xs : List ℕ). OnOk c.add-2.result (c.add-2.new.out.items ≡ c.add.new.out.items ++ xs)) (c.deref.ensures.0 ∙ c.in_ok-write_contents.ensures.headers) c.add-2.ensures)
