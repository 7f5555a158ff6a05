use Rattle.std.proofs.Common.{◌≡◌, ◌∙◌, ◌++◌, ℕ, List, length, drop, replicate, ap, arith}
use Rattle.elf_build.specs.declared.sections.Part.{Part}
use Rattle.elf_build.specs.File.{body, elf_header, headers_from, laid, parts}
use Rattle.elf_build.proofs.Appends.{laid-longer}
use Rattle.elf_build.proofs.file.write_contents.Goals as goal

pub put_header-requires : goal.put_header-requires
put_header-requires c =
    let place : c.add.new.out.items ≡ replicate 64 0 = c.in_ok-add.ensures ∙ ap (λ (xs : List ℕ). xs ++ replicate 64 0) c.requires.empty in
    let long : length c.add.new.out.items ≡ 64 = ap (λ (xs : List ℕ). length xs) place in
    let laid-is = ap (λ (xs : List ℕ). length xs) c.in_ok-add_parts.ensures.body in
    let longer = laid-longer c.args.plan.now c.parts.result c.add.new.out.items in
    omega arith

pub returns-clause-file : goal.returns-clause-file
returns-clause-file c =
    let place : c.add.new.out.items ≡ replicate 64 0 = c.in_ok-add.ensures ∙ ap (λ (xs : List ℕ). xs ++ replicate 64 0) c.requires.empty in
    let is : c.add_parts.new.out.items ≡ body c.args.plan.now =
    c.in_ok-add_parts.ensures.body ∙ ap (λ (ps : List Part). laid c.args.plan.now c.add.new.out.items ps) c.parts.ensures
    ∙ ap (λ (xs : List ℕ). laid c.args.plan.now xs parts) place in
    c.put_header.ensures ∙ ap (λ (xs : List ℕ). elf_header (length xs) ++ drop 64 xs) is

pub returns-clause-headers : goal.returns-clause-headers
returns-clause-headers c =
    let place : c.add.new.out.items ≡ replicate 64 0 = c.in_ok-add.ensures ∙ ap (λ (xs : List ℕ). xs ++ replicate 64 0) c.requires.empty in
    c.in_ok-add_parts.ensures.headers
    ∙ ap (λ (xs : List ℕ). xs ++ headers_from c.args.plan.now c.add.new.out.items c.parts.result) c.requires.no_headers
    ∙ ap (λ (ps : List Part). headers_from c.args.plan.now c.add.new.out.items ps) c.parts.ensures
    ∙ ap (λ (xs : List ℕ). headers_from c.args.plan.now xs parts) place
