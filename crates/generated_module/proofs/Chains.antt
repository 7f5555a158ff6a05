-- What a generated text is made of, from its first address to its end.
use Rattle.std.proofs.Common.{◌≡◌, ◌<◌, ◌≤◌, ◌+◌, ◌-◌, ◌^◌, ◌∙◌, ◌⊎◌, ◌++◌, inl, inr, ℕ, zero, suc, List, [], ◌∷◌, length, drop, slice_get, Some, refl, sym, ap, subst, arith, append_assoc}
use Rattle.std.specs.List.{AllByRecursion as Each}
use Rattle.elf_build.specs.declared.generation.Block.{Block}
use Rattle.elf_build.specs.declared.generation.Block.TheVariants.{FarSwitch, NearSwitch, Call as CallBlock, Trace as TraceBlock, TailCall}
use Rattle.elf_build.specs.File.{lead}
use Rattle.elf_build.specs.Generated.{block_bytes, block_len, block_of, blocks, end_bytes, text_from, text_of}
use Rattle.x64_subset.specs.declared.insn.AluOp.TheVariants.{Add}
use Rattle.x64_subset.specs.declared.insn.Insn.TheVariants.{AluImm, Call as CallTo, Dec, Inc, Jcc32, Jmp8, MovImm, Out, Ret}
use Rattle.module_parts.specs.declared.site.Site.{Site}
use Rattle.module_image.specs.Layout.{Layout, laid, text_end}
use Rattle.module_laws.proofs.WrittenSites.{IsOff}
use Rattle.generated_module.proofs.Each.{each-append, each-at, each-more}
use Rattle.generated_module.proofs.Pieces.{Piece, Chain}
use Rattle.generated_module.proofs.Units.{AllOff, IsWritten, patched, plain, plain-piece, site-piece}
use Rattle.generated_module.proofs.Blocks.{Stands, block_made, block-within, drop-further, made_from, made-after, stands-next}
use Rattle.generated_module.proofs.Instructions.{reads-add, reads-add-ebx, reads-add-edi, reads-back, reads-call, reads-dec-ecx, reads-inc-eax, reads-inc-edx, reads-jump, reads-mov, reads-out, reads-ret}

-- the units of a block, of what stands after the blocks, and of what stands before them
abbrev pub block_pieces : Block → ℕ → ℕ → List Piece
block_pieces FarSwitch i at = patched (block_made FarSwitch i at) ∷ plain (at + 5) 2 (Inc 0) ∷ []
block_pieces NearSwitch i at = patched (block_made NearSwitch i at) ∷ plain (at + 2) 2 (Inc 2) ∷ []
block_pieces CallBlock i at = patched (block_made CallBlock i at) ∷ []
block_pieces TraceBlock i at = patched (block_made TraceBlock i at) ∷ []
block_pieces TailCall i at =
    plain at 5 (CallTo (at + 7)) ∷ plain (at + 5) 2 (Jmp8 (at + 12)) ∷ patched (block_made TailCall i at) ∷ []

abbrev pub end_pieces : ℕ → List Piece
end_pieces at =
    plain at 2 (Dec 1) ∷ plain (at + 2) 6 (Jcc32 5 blocks) ∷ plain (at + 8) 2 (Out 16) ∷ plain (at + 10) 1 Ret ∷ []

-- those of the blocks that are left and of what stands after them, and all of them
abbrev pub pieces_from : ℕ → ℕ → ℕ → List Piece
pieces_from zero i at = end_pieces at
pieces_from (suc left) i at = block_pieces (block_of i) i at ++ pieces_from left (i + 1) (at + block_len (block_of i))

abbrev pub head_pieces : List Piece
head_pieces =
    plain 0x401000 3 (AluImm Add 6 1) ∷ plain 0x401003 1 Ret ∷ plain 0x401004 3 (AluImm Add 7 1) ∷ plain 0x401007 1 Ret
    ∷ plain 0x401008 3 (AluImm Add 3 1) ∷ plain 0x40100b 1 Ret ∷ plain 0x40100c 5 (MovImm 1 3) ∷ []

abbrev pub pieces_of : ℕ → List Piece
pieces_of n = head_pieces ++ pieces_from n 0 blocks

-- a site beside a block: before it, after it, or its own
abbrev pub IsBeside : ℕ → ℕ → Site → Site → Type 0
IsBeside low high own s = (s.at + s.len ≤ low) ⊎ ((high ≤ s.at) ⊎ (s ≡ own))

-- it has none of the bytes that its own block has elsewhere
off-beside : (low high : ℕ) (own : Site) (at len : ℕ) → low ≤ at → at + len ≤ high → IsOff at len own → (s : Site) → IsBeside low high own s → IsOff at len s
off-beside low high own at len from to off s (inl before) = inr (omega (arith, before, from))
off-beside low high own at len from to off s (inr (inl after)) = inl (omega (arith, after, to))
off-beside low high own at len from to off s (inr (inr same)) = subst (IsOff at len) (sym same) off

all-off : (t : Layout) (low high : ℕ) (own : Site) (at len : ℕ) → Each (IsBeside low high own) t.sites → low ≤ at → at + len ≤ high → IsOff at len own → AllOff t at len
all-off t low high own at len beside from to off i s here =
    off-beside low high own at len from to off s (each-at (IsBeside low high own) t.sites i s beside here)

-- the units of a block, and those after it
block-chain : (t : Layout) (file : List ℕ) → IsWritten t file → (b : Block) (i at : ℕ) (rest : List ℕ) (ps : List Piece) → t.base ≤ at → at < 2 ^ 31 → drop (at - t.base) file ≡ block_bytes b at ++ rest → at + block_len b ≤ text_end t → Each (IsBeside at (at + block_len b) (block_made b i at)) t.sites → (k : ℕ) → slice_get t.sites k ≡ Some (block_made b i at) → Chain t (at + block_len b) ps → Chain t at (block_pieces b i at ++ ps)
block-chain t file is FarSwitch i at rest ps low short bytes inside beside k here chain =
    let own = block_made FarSwitch i at in
    let after = drop-further t.base at 5 file (0x0f ∷ 0x1f ∷ 0x44 ∷ 0x00 ∷ 0x00 ∷ []) (0xff ∷ 0xc0 ∷ rest) low bytes refl in
    let off = all-off t at (at + 7) own (at + 5) 2 beside (omega arith) (omega arith) (inr (omega arith)) in
    let sum : at + 7 ≡ at + 5 + 2 = omega arith in
    (refl, site-piece t file is k own here, (refl, plain-piece t file is (at + 5) 2 (Inc 0) (0xff ∷ 0xc0 ∷ []) rest refl (omega (arith, low)) after (reads-inc-eax (at + 5)) (omega arith) (omega (arith, inside)) off, subst (λ (a : ℕ). Chain t a ps) sum chain))
block-chain t file is NearSwitch i at rest ps low short bytes inside beside k here chain =
    let own = block_made NearSwitch i at in
    let after = drop-further t.base at 2 file (0x66 ∷ 0x90 ∷ []) (0xff ∷ 0xc2 ∷ rest) low bytes refl in
    let off = all-off t at (at + 4) own (at + 2) 2 beside (omega arith) (omega arith) (inr (omega arith)) in
    let sum : at + 4 ≡ at + 2 + 2 = omega arith in
    (refl, site-piece t file is k own here, (refl, plain-piece t file is (at + 2) 2 (Inc 2) (0xff ∷ 0xc2 ∷ []) rest refl (omega (arith, low)) after (reads-inc-edx (at + 2)) (omega arith) (omega (arith, inside)) off, subst (λ (a : ℕ). Chain t a ps) sum chain))
block-chain t file is CallBlock i at rest ps low short bytes inside beside k here chain =
    (refl, site-piece t file is k (block_made CallBlock i at) here, chain)
block-chain t file is TraceBlock i at rest ps low short bytes inside beside k here chain =
    (refl, site-piece t file is k (block_made TraceBlock i at) here, chain)
block-chain t file is TailCall i at rest ps low short bytes inside beside k here chain =
    let own = block_made TailCall i at in
    let site : List ℕ = 0xe9 ∷ lead 4 (at + 12) 0x401004 in
    let after = drop-further t.base at 5 file (0xe8 ∷ 0x02 ∷ 0x00 ∷ 0x00 ∷ 0x00 ∷ []) (0xeb ∷ 0x05 ∷ (site ++ rest)) low bytes refl in
    let off_call = all-off t at (at + 12) own at 5 beside (omega arith) (omega arith) (inl (omega arith)) in
    let off_jump = all-off t at (at + 12) own (at + 5) 2 beside (omega arith) (omega arith) (inl (omega arith)) in
    let third : at + 7 ≡ at + 5 + 2 = omega arith in
    let sum : at + 12 ≡ at + 5 + 2 + 5 = omega arith in (
      refl,
      plain-piece t file is at 5 (CallTo (at + 7)) (0xe8 ∷ 0x02 ∷ 0x00 ∷ 0x00 ∷ 0x00 ∷ []) (0xeb ∷ 0x05 ∷ (site ++ rest)) refl low bytes (reads-call at (omega (arith, short))) (omega arith) (omega (arith, inside)) off_call,
      (
        refl,
        plain-piece t file is (at + 5) 2 (Jmp8 (at + 12)) (0xeb ∷ 0x05 ∷ []) (site ++ rest) refl (omega (arith, low)) after (reads-jump (at + 5) (at + 12) (omega (arith, short)) (omega arith)) (omega arith) (omega (arith, inside)) off_jump,
        (third, site-piece t file is k own here, subst (λ (a : ℕ). Chain t a ps) sum chain),
      ),
    )

-- the units after the blocks
end-chain : (t : Layout) (file : List ℕ) → IsWritten t file → (at : ℕ) → t.base ≤ at → blocks ≤ at → at < 0x410000 → drop (at - t.base) file ≡ end_bytes at → at + 11 ≡ text_end t → Each (λ (s : Site). s.at + s.len ≤ at) t.sites → Chain t at (end_pieces at)
end-chain t file is at low start short bytes whole before =
    let back = lead 4 (at + 8) blocks in
    let off : (from len : ℕ) → at ≤ from → AllOff t from len = λ from len le i s here.
    let ends : s.at + s.len ≤ at = each-at (λ (s : Site). s.at + s.len ≤ at) t.sites i s before here in
    inr (omega (arith, ends, le)) in
    let second = drop-further t.base at 2 file (0xff ∷ 0xc9 ∷ []) (0x0f ∷ 0x85 ∷ (back ++ (0xe6 ∷ 0x10 ∷ 0xc3 ∷ []))) low bytes refl in
    let third = drop-further t.base at 8 file (0xff ∷ 0xc9 ∷ 0x0f ∷ 0x85 ∷ back) (0xe6 ∷ 0x10 ∷ 0xc3 ∷ []) low bytes refl in
    let fourth = drop-further t.base at 10 file ((0xff ∷ 0xc9 ∷ 0x0f ∷ 0x85 ∷ back) ++ (0xe6 ∷ 0x10 ∷ [])) (0xc3 ∷ []) low bytes refl in (
      refl,
      plain-piece t file is at 2 (Dec 1) (0xff ∷ 0xc9 ∷ []) (0x0f ∷ 0x85 ∷ (back ++ (0xe6 ∷ 0x10 ∷ 0xc3 ∷ []))) refl low bytes (reads-dec-ecx at) (omega arith) (omega (arith, whole)) (off at 2 (omega arith)),
      (
        refl,
        plain-piece t file is (at + 2) 6 (Jcc32 5 blocks) (0x0f ∷ 0x85 ∷ back) (0xe6 ∷ 0x10 ∷ 0xc3 ∷ []) refl (omega (arith, low)) second (reads-back (at + 2) (at + 8) (omega (arith, start)) (omega (arith, short)) (omega arith)) (omega arith) (omega (arith, whole)) (off (at + 2) 6 (omega arith)),
        (
          omega arith,
          plain-piece t file is (at + 8) 2 (Out 16) (0xe6 ∷ 0x10 ∷ []) (0xc3 ∷ []) refl (omega (arith, low)) third (reads-out (at + 8)) (omega arith) (omega (arith, whole)) (off (at + 8) 2 (omega arith)),
          (
            omega arith,
            plain-piece t file is (at + 10) 1 Ret (0xc3 ∷ []) [] refl (omega (arith, low)) fourth (reads-ret (at + 10)) (omega arith) (omega (arith, whole)) (off (at + 10) 1 (omega arith)),
            omega (arith, whole),
          ),
        ),
      ),
    )

-- the blocks that are left stand at an address, and their sites are the last of the text's
pub record IsPlaced (t : Layout) (file : List ℕ) (left i at : ℕ) : Type 0 where
  pub stands : Stands t.base file left i at
  pub earlier : List Site
  pub split : t.sites ≡ earlier ++ made_from left i at
  pub before : Each (λ (s : Site). s.at + s.len ≤ at) earlier

-- and so do those after the next one
placed-next : (t : Layout) (file : List ℕ) (left i at : ℕ) → IsPlaced t file (suc left) i at → IsPlaced t file left (i + 1) (at + block_len (block_of i))
placed-next t file left i at p =
    let own = block_made (block_of i) i at in
    let later = at + block_len (block_of i) in
    let within = block-within (block_of i) i at in
    record {
      stands = stands-next t.base file left i at p.stands;
      earlier = p.earlier ++ own ∷ [];
      split = p.split ∙ sym (append_assoc p.earlier (own ∷ []) (made_from left (i + 1) later));
      before = each-append (λ (s : Site). s.at + s.len ≤ later) p.earlier (own ∷ [])
          (each-more (λ (s : Site). s.at + s.len ≤ at) (λ (s : Site). s.at + s.len ≤ later) p.earlier (λ s le. omega (arith, le)) p.before)
          (within, tt);
    }

-- where the first of the later sites stands
at-seam : {A : Type 0} (xs : List A) (y : A) (ys : List A) → slice_get (xs ++ y ∷ ys) (length xs) ≡ Some y
at-seam [] y ys = refl
at-seam (x ∷ xs) y ys = at-seam xs y ys

-- each site is beside the next block
beside : (t : Layout) (file : List ℕ) (left i at : ℕ) → IsPlaced t file (suc left) i at → Each (IsBeside at (at + block_len (block_of i)) (block_made (block_of i) i at)) t.sites
beside t file left i at p =
    let own = block_made (block_of i) i at in
    let later = at + block_len (block_of i) in
    let P = IsBeside at later own in
    let front = each-more (λ (s : Site). s.at + s.len ≤ at) P p.earlier (λ s le. inl le) p.before in
    let back = each-more (λ (s : Site). later ≤ s.at) P (made_from left (i + 1) later) (λ s le. inr (inl le)) (made-after left (i + 1) later later (omega arith)) in
    subst (Each P) (sym p.split) (each-append P p.earlier (own ∷ made_from left (i + 1) later) front (inr (inr refl), back))

-- the units from the next block on
pub chain-from : (t : Layout) (file : List ℕ) → IsWritten t file → (left i at : ℕ) → IsPlaced t file left i at → Chain t at (pieces_from left i at)
chain-from t file is zero i at p =
    let whole = p.stands.whole in
    let small = p.stands.small in
    let same = is.same in
    let before = subst (Each (λ (s : Site). s.at + s.len ≤ at)) (sym p.split) (each-append (λ (s : Site). s.at + s.len ≤ at) p.earlier [] p.before tt) in
    end-chain t file is at p.stands.from p.stands.start (omega (arith, whole, small)) p.stands.bytes (omega (arith, whole, same)) before
chain-from t file is (suc left) i at p =
    let b = block_of i in
    let later = at + block_len b in
    let after = placed-next t file left i at p in
    let whole = after.stands.whole in
    let small = p.stands.small in
    let same = is.same in
    let here = ap (λ (ss : List Site). slice_get ss (length p.earlier)) p.split ∙ at-seam p.earlier (block_made b i at) (made_from left (i + 1) later) in
    block-chain t file is b i at (text_from left (i + 1) later) (pieces_from left (i + 1) later) p.stands.from (omega (arith, whole, small)) p.stands.bytes (omega (arith, whole, same)) (beside t file left i at p) (length p.earlier) here (chain-from t file is left (i + 1) later after)

-- the whole text
pub chain-of : (n : ℕ) (text : List ℕ) → IsWritten (laid 0x401000 text (made_from n 0 blocks)) (text_of n) → length (text_of n) ≤ 0xf000 → Chain (laid 0x401000 text (made_from n 0 blocks)) 0x401000 (pieces_of n)
chain-of n text is small =
    let t = laid 0x401000 text (made_from n 0 blocks) in
    let file = text_of n in
    let loop = text_from n 0 blocks in
    let sum : length file ≡ 17 + length loop = omega arith in
    let same : length text ≡ length file = is.same in
    let room : (len : ℕ) → len ≤ 0x11 → 0x401000 + len ≤ text_end t = λ len le. omega (arith, sum, same, le) in
    let off : (at len : ℕ) → at + len ≤ blocks → AllOff t at len = λ at len le i s here.
    let low : blocks ≤ s.at = each-at (λ (s : Site). blocks ≤ s.at) t.sites i s (made-after n 0 blocks blocks (omega arith)) here in
    inl (omega (arith, low, le)) in
    let placed : IsPlaced t file n 0 blocks = record {
      stands = record { from = omega arith; start = omega arith; bytes = refl; whole = omega (arith, sum); small = omega (arith, small) };
      earlier = [];
      split = refl;
      before = tt;
    } in (
      refl,
      plain-piece t file is 0x401000 3 (AluImm Add 6 1) (0x83 ∷ 0xc6 ∷ 0x01 ∷ []) (drop 3 file) refl (omega arith) refl (reads-add 0x401000) (omega arith) (room 3 (omega arith)) (off 0x401000 3 (omega arith)),
      (
        refl,
        plain-piece t file is 0x401003 1 Ret (0xc3 ∷ []) (drop 4 file) refl (omega arith) refl (reads-ret 0x401003) (omega arith) (room 4 (omega arith)) (off 0x401003 1 (omega arith)),
        (
          refl,
          plain-piece t file is 0x401004 3 (AluImm Add 7 1) (0x83 ∷ 0xc7 ∷ 0x01 ∷ []) (drop 7 file) refl (omega arith) refl (reads-add-edi 0x401004) (omega arith) (room 7 (omega arith)) (off 0x401004 3 (omega arith)),
          (
            refl,
            plain-piece t file is 0x401007 1 Ret (0xc3 ∷ []) (drop 8 file) refl (omega arith) refl (reads-ret 0x401007) (omega arith) (room 8 (omega arith)) (off 0x401007 1 (omega arith)),
            (
              refl,
              plain-piece t file is 0x401008 3 (AluImm Add 3 1) (0x83 ∷ 0xc3 ∷ 0x01 ∷ []) (drop 11 file) refl (omega arith) refl (reads-add-ebx 0x401008) (omega arith) (room 11 (omega arith)) (off 0x401008 3 (omega arith)),
              (
                refl,
                plain-piece t file is 0x40100b 1 Ret (0xc3 ∷ []) (drop 12 file) refl (omega arith) refl (reads-ret 0x40100b) (omega arith) (room 12 (omega arith)) (off 0x40100b 1 (omega arith)),
                (
                  refl,
                  plain-piece t file is 0x40100c 5 (MovImm 1 3) (0xb9 ∷ 0x03 ∷ 0x00 ∷ 0x00 ∷ 0x00 ∷ []) loop refl (omega arith) refl (reads-mov 0x40100c) (omega arith) (room 17 (omega arith)) (off 0x40100c 5 (omega arith)),
                  chain-from t file is n 0 blocks placed,
                ),
              ),
            ),
          ),
        ),
      ),
    )
