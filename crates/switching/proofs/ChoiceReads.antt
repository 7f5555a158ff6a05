-- What is read of any numbers stays what it is whatever follows them, unless they are too few to tell; so of two fetches
-- neither is how the other begins.
--
-- For the laws:
--   read_lasts                 read at bytes is Err Short, or read at (bytes ++ rest) ≡ read at bytes
--   read_tells                 what is read as an instruction is one by as many bytes as it has
--   fetches_are_apart          two fetches of which one begins with the other are the same bytes
use Rattle.std.proofs.Common.{◌≡◌, ◌⊎◌, inl, inr, ℕ, suc, ◌+◌, ◌-◌, ◌/◌, ◌%◌, ◌<◌, ◌≤◌, ◌==◌, ◌&&◌, Bool, true, false, if◌then◌else◌, List, [], ◌∷◌, ◌++◌, length, refl, ap, sym, ◌∙◌, arith, length-append, Err, take, Ok, subst}
use Rattle.std.proofs.Math.Seq.{take-append_seam}
use Rattle.std.specs.Prelude.{nat_le, nat_lt}
use Rattle.std.specs.Int.{w32, from_le_bytes}
use Rattle.insn_forms.specs.Displacement.{leads}
use Rattle.insn_forms.specs.Spelling.{after}
use Rattle.x64_subset.specs.declared.insn.AluOp.{AluOp}
use Rattle.x64_subset.specs.declared.insn.AluOp.TheVariants.{Add, Sub, Xor, Cmp, Test, Mov}
use Rattle.x64_subset.specs.declared.insn.Insn.{Insn}
use Rattle.x64_subset.specs.declared.insn.Insn.TheVariants.{Nop, Int3, Jmp8, Jmp32, Call, Ret, Jcc8, Jcc32, Alu, AluImm, Inc, Dec, MovImm, Hlt, Ud2, Out, Endbr64, Serialize}
use Rattle.x64_subset.specs.declared.insn.Undecoded.TheVariants.{Short, Unknown}
use Rattle.x64_subset.specs.Subset.{is_register, is_condition}
use Rattle.x64_subset.specs.Reading.{Reading, complete, unknown, byte, expect, four, near, far, by_mod_rm, alu, with_byte, alu_imm, inc_or_dec, mov_imm, jcc8, jcc32, prefixed_nop, prefixed, long_nop, escaped, first, read}
use Rattle.x64_subset.proofs.WhatIsRead.{what_is_read}
use Rattle.cpu_core.specs.Fetch.{IsCutOff, IsFetch, IsInsn, IsUnknown}

-- a reading of what follows n bytes: an answer that isn't `Short` stays what it is whatever follows, and an instruction is told
-- by as many bytes as it has
record IsTold (n len : ℕ) (k : Reading) (bytes : List ℕ) (insn : Insn) : Type 0 where
  used : ℕ
  is : n + used ≡ len
  within : used ≤ length bytes
  told : k (take used bytes) ≡ Ok (insn, len)

record IsLasting (n : ℕ) (k : Reading) : Type 0 where
  lasts : (bytes rest : List ℕ) → (k bytes ≡ Err Short) ⊎ (k (bytes ++ rest) ≡ k bytes)
  tells : (bytes : List ℕ) (insn : Insn) (len : ℕ) → k bytes ≡ Ok (insn, len) → IsTold n len k bytes insn

last_complete : {n : ℕ} (insn : Insn) (len : ℕ) → n ≡ len → IsLasting n (complete insn len)
last_complete {n} insn len same = record { lasts = λ bytes rest. inr refl; tells = go }
  where
    go : (bytes : List ℕ) (other : Insn) (long : ℕ) → complete insn len bytes ≡ Ok (other, long) → IsTold n long (complete insn len) bytes other
    go bytes other long e =
        let both : ◌≡◌ {A = Insn × ℕ} (insn, len) (other, long) = cc in
        let same_len : len ≡ long = ap (λ (p : Insn × ℕ). p.1) both in
        record { used = 0; is = omega (arith, same, same_len); within = omega arith; told = e }

last_unknown : {n : ℕ} → IsLasting n unknown
last_unknown = record { lasts = λ bytes rest. inr refl; tells = λ bytes insn len e. absurd (cc) }

last_if : {n : ℕ} {k l : Reading} (test : Bool) → IsLasting n k → IsLasting n l → IsLasting n (if test then k else l)
last_if true p q = p
last_if false p q = q

last_byte : {n : ℕ} {next : ℕ → Reading} → ((b : ℕ) → IsLasting (n + 1) (next b)) → IsLasting n (byte next)
last_byte {n} {next} each = record { lasts = lasting; tells = telling }
  where
    lasting : (bytes rest : List ℕ) → (byte next bytes ≡ Err Short) ⊎ (byte next (bytes ++ rest) ≡ byte next bytes)
    lasting [] rest = inl refl
    lasting (b ∷ bytes) rest = (each b).lasts bytes rest

    telling : (bytes : List ℕ) (insn : Insn) (len : ℕ) → byte next bytes ≡ Ok (insn, len) → IsTold n len (byte next) bytes insn
    telling [] insn len e = absurd (cc)
    telling (b ∷ bytes) insn len e =
        let more : IsTold (n + 1) len (next b) bytes insn = (each b).tells bytes insn len e in
        let is : (n + 1) + more.used ≡ len = more.is in
        let within : more.used ≤ length bytes = more.within in
        record { used = suc more.used; is = omega (arith, is); within = omega (arith, within); told = more.told }

-- one byte that has to follow, and then others
last_one : (n c : ℕ) (code : List ℕ) (next : Reading) → IsLasting (n + 1) (expect code next) → IsLasting n (expect (c ∷ code) next)
last_one n c code next rest = record { lasts = lasting; tells = telling }
  where
    lasting_by : (test : Bool) (bytes more : List ℕ) → ((if test then expect code next bytes else Err Unknown) ≡ Err Short) ⊎ ((if test then expect code next (bytes ++ more) else Err Unknown) ≡ (if test then expect code next bytes else Err Unknown))
    lasting_by true bytes more = rest.lasts bytes more
    lasting_by false bytes more = inr refl

    lasting : (bytes more : List ℕ) → (expect (c ∷ code) next bytes ≡ Err Short) ⊎ (expect (c ∷ code) next (bytes ++ more) ≡ expect (c ∷ code) next bytes)
    lasting [] more = inl refl
    lasting (b ∷ bytes) more = lasting_by (b == c) bytes more

    telling_by : (b : ℕ) (bytes : List ℕ) (insn : Insn) (len : ℕ) (test : Bool) → (b == c) ≡ test → (if test then expect code next bytes else Err Unknown) ≡ Ok (insn, len) → IsTold n len (expect (c ∷ code) next) (b ∷ bytes) insn
    telling_by b bytes insn len true same e =
        let more : IsTold (n + 1) len (expect code next) bytes insn = rest.tells bytes insn len e in
        let is : (n + 1) + more.used ≡ len = more.is in
        let within : more.used ≤ length bytes = more.within in
        record {
          used = suc more.used;
          is = omega (arith, is);
          within = omega (arith, within);
          told = ap (λ (t : Bool). if t then expect code next (take more.used bytes) else Err Unknown) same ∙ more.told;
        }
    telling_by b bytes insn len false same e = absurd (cc)

    telling : (bytes : List ℕ) (insn : Insn) (len : ℕ) → expect (c ∷ code) next bytes ≡ Ok (insn, len) → IsTold n len (expect (c ∷ code) next) bytes insn
    telling [] insn len e = absurd (cc)
    telling (b ∷ bytes) insn len e = telling_by b bytes insn len (b == c) refl e

last_expect : (n : ℕ) (code : List ℕ) (next : Reading) → IsLasting (n + length code) next → IsLasting n (expect code next)
last_expect n [] next h = subst (λ (k : ℕ). IsLasting k next) (omega arith) h
last_expect n (c ∷ code) next h =
    last_one n c code next (last_expect (n + 1) code next (subst (λ (k : ℕ). IsLasting k next) (omega arith) h))

last_four : {n : ℕ} {next : List ℕ → Reading} → ((bytes : List ℕ) → IsLasting (n + 1 + 1 + 1 + 1) (next bytes)) → IsLasting n (four next)
last_four each = last_byte (λ a. last_byte (λ b. last_byte (λ c. last_byte (λ d. each (a ∷ b ∷ c ∷ d ∷ [])))))

last_mod_rm : {n : ℕ} {next : ℕ → ℕ → Reading} → ((reg rm : ℕ) → IsLasting (n + 1) (next reg rm)) → IsLasting n (by_mod_rm next)
last_mod_rm each =
    last_byte (λ b. last_if (nat_le 0xc0 b && is_register (b % 8)) (each ((b - 0xc0) / 8) (b % 8)) last_unknown)

last_end : {n : ℕ} (code : List ℕ) (insn : Insn) (len : ℕ) → n + length code ≡ len → IsLasting n (expect code (complete insn len))
last_end {n} code insn len same = last_expect n code (complete insn len) (last_complete insn len same)

-- ---- the rows

last_near : {n : ℕ} (at len : ℕ) (insn : ℕ → Insn) → n + 1 ≡ len → IsLasting n (near at len insn)
last_near at len insn same = last_byte (λ b. last_complete _ len same)

last_far : {n : ℕ} (at len : ℕ) (insn : ℕ → Insn) → n + 1 + 1 + 1 + 1 ≡ len → IsLasting n (far at len insn)
last_far at len insn same = last_four (λ bytes. last_complete (insn (leads w32 (after at len) bytes)) len same)

last_alu : (op : AluOp) → IsLasting 1 (alu op)
last_alu op = last_mod_rm (λ reg rm. last_if (is_register reg) (last_complete (Alu op rm reg) 2 refl) last_unknown)

last_with_byte : (op : AluOp) (rm : ℕ) → IsLasting 2 (with_byte op rm)
last_with_byte op rm = last_byte (λ b. last_complete (AluImm op rm b) 3 refl)

last_alu_imm : IsLasting 1 alu_imm
last_alu_imm =
    last_mod_rm (λ digit rm.
    last_if (digit == 0) (last_with_byte Add rm)
    (last_if (digit == 5) (last_with_byte Sub rm) (last_if (digit == 7) (last_with_byte Cmp rm) last_unknown)))

last_inc_or_dec : IsLasting 1 inc_or_dec
last_inc_or_dec =
    last_mod_rm (λ digit rm.
    last_if (digit == 0) (last_complete (Inc rm) 2 refl) (last_if (digit == 1) (last_complete (Dec rm) 2 refl) last_unknown))

last_mov_imm : (r : ℕ) → IsLasting 1 (mov_imm r)
last_mov_imm r =
    last_if (is_register r) (last_four (λ bytes. last_complete (MovImm r (from_le_bytes w32 bytes)) 5 refl)) last_unknown

last_prefixed_nop : (b : ℕ) → IsLasting 4 (prefixed_nop b)
last_prefixed_nop b =
    last_if (b == 0x44) (last_end (0x00 ∷ 0x00 ∷ []) (Nop 6) 6 refl)
    (last_if (b == 0x84) (last_end (0x00 ∷ 0x00 ∷ 0x00 ∷ 0x00 ∷ 0x00 ∷ []) (Nop 9) 9 refl) last_unknown)

last_prefixed : (b : ℕ) → IsLasting 2 (prefixed b)
last_prefixed b =
    last_if (b == 0x90) (last_complete (Nop 2) 2 refl)
    (last_if (b == 0x0f) (last_expect 2 (0x1f ∷ []) (byte prefixed_nop) (last_byte last_prefixed_nop)) last_unknown)

last_long_nop : (b : ℕ) → IsLasting 3 (long_nop b)
last_long_nop b =
    last_if (b == 0x00) (last_complete (Nop 3) 3 refl)
    (last_if (b == 0x40) (last_end (0x00 ∷ []) (Nop 4) 4 refl)
    (last_if (b == 0x44) (last_end (0x00 ∷ 0x00 ∷ []) (Nop 5) 5 refl)
    (last_if (b == 0x80) (last_end (0x00 ∷ 0x00 ∷ 0x00 ∷ 0x00 ∷ []) (Nop 7) 7 refl)
    (last_if (b == 0x84) (last_end (0x00 ∷ 0x00 ∷ 0x00 ∷ 0x00 ∷ 0x00 ∷ []) (Nop 8) 8 refl) last_unknown))))

last_jcc8 : (at condition : ℕ) → IsLasting 1 (jcc8 at condition)
last_jcc8 at condition = last_if (is_condition condition) (last_near at 2 (Jcc8 condition) refl) last_unknown

last_jcc32 : (at condition : ℕ) → IsLasting 2 (jcc32 at condition)
last_jcc32 at condition = last_if (is_condition condition) (last_far at 6 (Jcc32 condition) refl) last_unknown

last_escaped : (at b : ℕ) → IsLasting 2 (escaped at b)
last_escaped at b =
    last_if (b == 0x01) (last_end (0xe8 ∷ []) Serialize 3 refl)
    (last_if (b == 0x0b) (last_complete Ud2 2 refl)
    (last_if (b == 0x1f) (last_byte last_long_nop)
    (last_if (nat_le 0x80 b && nat_lt b 0x90) (last_jcc32 at (b - 0x80)) last_unknown)))

last_first : (at b : ℕ) → IsLasting 1 (first at b)
last_first at b =
    last_if (b == 0x01) (last_alu Add)
    (last_if (b == 0x0f) (last_byte (last_escaped at))
    (last_if (b == 0x29) (last_alu Sub)
    (last_if (b == 0x31) (last_alu Xor)
    (last_if (b == 0x39) (last_alu Cmp)
    (last_if (b == 0x66) (last_byte last_prefixed)
    (last_if (nat_le 0x70 b && nat_lt b 0x80) (last_jcc8 at (b - 0x70))
    (last_if (b == 0x83) last_alu_imm
    (last_if (b == 0x85) (last_alu Test)
    (last_if (b == 0x89) (last_alu Mov)
    (last_if (b == 0x90) (last_complete (Nop 1) 1 refl)
    (last_if (nat_le 0xb8 b && nat_lt b 0xc0) (last_mov_imm (b - 0xb8))
    (last_if (b == 0xc3) (last_complete Ret 1 refl)
    (last_if (b == 0xcc) (last_complete Int3 1 refl)
    (last_if (b == 0xe6) (last_byte (λ port. last_complete (Out port) 2 refl))
    (last_if (b == 0xe8) (last_far at 5 Call refl)
    (last_if (b == 0xe9) (last_far at 5 Jmp32 refl)
    (last_if (b == 0xeb) (last_near at 2 Jmp8 refl)
    (last_if (b == 0xf3) (last_end (0x0f ∷ 0x1e ∷ 0xfa ∷ []) Endbr64 4 refl)
    (last_if (b == 0xf4) (last_complete Hlt 1 refl) (last_if (b == 0xff) last_inc_or_dec last_unknown))))))))))))))))))))

read_last : (at : ℕ) → IsLasting 0 (read at)
unfolding read
read_last at = last_byte (λ b. last_first at b)

pub read_lasts : (at : ℕ) (bytes rest : List ℕ) → (read at bytes ≡ Err Short) ⊎ (read at (bytes ++ rest) ≡ read at bytes)
read_lasts at bytes rest = (read_last at).lasts bytes rest

-- the first bytes that are told to be an instruction are as many as it has
pub read_tells : (at : ℕ) (bytes : List ℕ) (insn : Insn) (len : ℕ) → read at bytes ≡ Ok (insn, len) → (len ≤ length bytes) × (read at (take len bytes) ≡ Ok (insn, len))
read_tells at bytes insn len e =
    let told : IsTold 0 len (read at) bytes insn = (read_last at).tells bytes insn len e in
    let is : 0 + told.used ≡ len = told.is in
    let within : told.used ≤ length bytes = told.within in
    let same : told.used ≡ len = omega (arith, is) in
    (omega (arith, is, within), subst (λ (n : ℕ). read at (take n bytes) ≡ Ok (insn, len)) same told.told)

-- ---- fetches

-- what begins a fetch and isn't all of it is too short to tell
begins_short : (end at : ℕ) (bytes rest : List ℕ) → 0 < length rest → IsFetch end at (bytes ++ rest) → read at bytes ≡ Err Short
begins_short end at bytes rest more fetch = by (read_lasts at bytes rest) fetch.told
  where
    by : (read at bytes ≡ Err Short) ⊎ (read at (bytes ++ rest) ≡ read at bytes) → IsInsn at (bytes ++ rest) ⊎ IsUnknown at (bytes ++ rest) ⊎ IsCutOff end at (bytes ++ rest) → read at bytes ≡ Err Short
    by (inl short) told = short
    by (inr same) (inl (insn, whole)) =
        let fits : length (bytes ++ rest) ≤ length bytes = (what_is_read at bytes insn (length (bytes ++ rest)) (sym same ∙ whole)).3 in
        let long = length-append bytes rest in
        absurd (omega (arith, fits, long, more))
    by (inr same) (inr (inl (none, each))) =
        let long = length-append bytes rest in
        sym (ap (read at) (take-append_seam bytes rest)) ∙ each (length bytes) (omega (arith, long, more))
    by (inr same) (inr (inr (short, ends))) = sym same ∙ short

-- a fetch that another begins with is all of it
pub fetches_are_apart : (end at : ℕ) (bytes rest : List ℕ) → IsFetch end at bytes → IsFetch end at (bytes ++ rest) → rest ≡ []
fetches_are_apart end at bytes [] one other = refl
fetches_are_apart end at bytes (b ∷ rest) one other =
    by (begins_short end at bytes (b ∷ rest) (omega arith) other) one.told
  where
    by : read at bytes ≡ Err Short → IsInsn at bytes ⊎ IsUnknown at bytes ⊎ IsCutOff end at bytes → b ∷ rest ≡ []
    by short (inl (insn, whole)) = absurd (cc)
    by short (inr (inl (none, each))) = absurd (cc)
    by short (inr (inr (cut, ends))) =
        let inside : at + length (bytes ++ b ∷ rest) ≤ end = other.inside in
        let long = length-append bytes (b ∷ rest) in
        absurd (omega arith)
