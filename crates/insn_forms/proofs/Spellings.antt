-- Lengths and bytes of spellings, and that no spelling is how another begins.
use Rattle.std.proofs.Common.{◌≡◌, ℕ, suc, ◌-◌, ◌<◌, ◌≤◌, ◌==◌, Bool, true, false, cond, List, [], ◌∷◌, length, refl, sym, ◌∙◌, ap, subst, Some, None, arith, get_or-take, length-take, if◌then◌else◌, slice_index, slice_range}
use Rattle.std.specs.Prelude.{Option, option_map}
use Rattle.std.specs.Int.{Width, w8, w32, to_le_bytes}
use Rattle.std.specs.List.{All}
use Rattle.std.proofs.Math.Seq.{take-length}
use Rattle.std.proofs.lemmas.Bool.Decides.{Decides-eqb}
use Rattle.std.proofs.lemmas.List.Elements.{All-cons}
use Rattle.std.proofs.lemmas.Option.{same_Some, none-some}
use Rattle.poke_base.specs.Text.{IsPrefix}
use Rattle.insn_forms.specs.declared.forms.Form.{Form}
use Rattle.insn_forms.specs.declared.forms.Form.TheVariants.{Nop2, Nop5, Jmp8, Jmp32, Call, Ret}
use Rattle.insn_forms.specs.Displacement.{leads, distance, displacement}
use Rattle.insn_forms.specs.Spelling.{size, after, spell, BeginsWith}

-- the bytes of a displacement, where there is one, lead to the target
pub record IsRelative (w : Width) (opcode from to : ℕ) (code : List ℕ) : Type 0 where
  pub leads_to : leads w from (to_le_bytes w (distance from to)) ≡ to
  pub bytes : code ≡ opcode ∷ to_le_bytes w (distance from to)

-- what is made of a value that is kept by a test
kept : (test : Bool) (opcode : ℕ) (rel code : List ℕ) → option_map (λ rel. opcode ∷ rel) (cond test (Some rel) None) ≡ Some code → (test ≡ true) × (code ≡ opcode ∷ rel)
kept true opcode rel code e = (refl, sym (same_Some _ _ e))
kept false opcode rel code e = absurd (none-some _ e)

-- an opcode and a displacement
pub relative : (w : Width) (opcode from to : ℕ) (code : List ℕ) → option_map (λ rel. opcode ∷ rel) (displacement w from to) ≡ Some code → IsRelative w opcode from to code
relative w opcode from to code e =
    let parts = kept _ opcode (to_le_bytes w (distance from to)) code e in
    record { leads_to = (Decides-eqb _ _).0 parts.0; bytes = parts.1 }

-- a spelling has the length of its form
pub length-spell : (form : Form) (at : ℕ) (code : List ℕ) → spell form at ≡ Some code → length code ≡ size form
unfolding spell
length-spell Nop2 at code e = ap length (sym (same_Some _ _ e))
length-spell Nop5 at code e = ap length (sym (same_Some _ _ e))
length-spell (Jmp8 target) at code e = ap length (relative w8 _ _ _ _ e).bytes
length-spell (Jmp32 target) at code e = ap length (relative w32 _ _ _ _ e).bytes
length-spell (Call target) at code e = ap length (relative w32 _ _ _ _ e).bytes
length-spell Ret at code e = ap length (sym (same_Some _ _ e))

-- a form takes at least one byte
pub size_pos : (form : Form) → 0 < size form
size_pos Nop2 = omega arith
size_pos Nop5 = omega arith
size_pos (Jmp8 target) = omega arith
size_pos (Jmp32 target) = omega arith
size_pos (Call target) = omega arith
size_pos Ret = omega arith

-- a form takes at most five bytes
pub size_most : (form : Form) → size form ≤ 5
size_most Nop2 = omega arith
size_most Nop5 = omega arith
size_most (Jmp8 target) = omega arith
size_most (Jmp32 target) = omega arith
size_most (Call target) = omega arith
size_most Ret = omega arith

-- a number is a byte
abbrev IsByte : ℕ → Type 0
IsByte byte = byte < 256

-- no element, so each is a byte
no_bytes : All IsByte []
no_bytes k d below = absurd (omega arith)

-- one byte
bytes_1 : (a : ℕ) → a < 256 → All IsByte (a ∷ [])
bytes_1 a p = All-cons IsByte a [] p no_bytes

-- two bytes
bytes_2 : (a b : ℕ) → a < 256 → b < 256 → All IsByte (a ∷ b ∷ [])
bytes_2 a b p q = All-cons IsByte a (b ∷ []) p (bytes_1 b q)

-- five bytes
bytes_5 : (a b c d e : ℕ) → a < 256 → b < 256 → c < 256 → d < 256 → e < 256 → All IsByte (a ∷ b ∷ c ∷ d ∷ e ∷ [])
bytes_5 a b c d e p q r s t =
    All-cons IsByte a (b ∷ c ∷ d ∷ e ∷ []) p
    (All-cons IsByte b (c ∷ d ∷ e ∷ []) q (All-cons IsByte c (d ∷ e ∷ []) r (bytes_2 d e s t)))

-- an opcode and the low byte of a number
near_bytes : (opcode n : ℕ) → opcode < 256 → All IsByte (opcode ∷ to_le_bytes w8 n)
near_bytes opcode n p = bytes_2 _ _ p (omega arith)

-- an opcode and the four low bytes of a number
far_bytes : (opcode n : ℕ) → opcode < 256 → All IsByte (opcode ∷ to_le_bytes w32 n)
far_bytes opcode n p = bytes_5 _ _ _ _ _ p (omega arith) (omega arith) (omega arith) (omega arith)

-- each element of a spelling is a byte
pub spell-bytes : (form : Form) (at : ℕ) (code : List ℕ) → spell form at ≡ Some code → All (λ byte. byte < 256) code
unfolding spell
spell-bytes Nop2 at code e = subst (All IsByte) (same_Some _ _ e) (bytes_2 _ _ (omega arith) (omega arith))
spell-bytes Nop5 at code e =
    subst (All IsByte) (same_Some _ _ e)
    (bytes_5 _ _ _ _ _ (omega arith) (omega arith) (omega arith) (omega arith) (omega arith))
spell-bytes (Jmp8 target) at code e =
    subst (All IsByte) (sym (relative w8 _ _ _ _ e).bytes) (near_bytes _ _ (omega arith))
spell-bytes (Jmp32 target) at code e =
    subst (All IsByte) (sym (relative w32 _ _ _ _ e).bytes) (far_bytes _ _ (omega arith))
spell-bytes (Call target) at code e =
    subst (All IsByte) (sym (relative w32 _ _ _ _ e).bytes) (far_bytes _ _ (omega arith))
spell-bytes Ret at code e =
    subst (All IsByte) (same_Some _ _ e)
    (bytes_5 _ _ _ _ _ (omega arith) (omega arith) (omega arith) (omega arith) (omega arith))

-- where the byte after the first leads
abbrev pub near : ℕ → List ℕ → ℕ
near at bytes = leads w8 (after at 2) (slice_index bytes 1 ∷ [])

-- where the four bytes after the first lead
abbrev pub far : ℕ → List ℕ → ℕ
far at bytes = leads w32 (after at 5) (slice_range bytes 1 5)

-- the form that the first byte and a displacement after it name
abbrev pub named : ℕ → ℕ → List ℕ → Option Form
named opcode at bytes =
    if opcode == 0x66 then Some Nop2
    else if opcode == 0x0f then Some Nop5
    else if opcode == 0xeb then Some (Jmp8 (near at bytes))
    else if opcode == 0xe9 then Some (Jmp32 (far at bytes))
    else if opcode == 0xe8 then Some (Call (far at bytes))
    else if opcode == 0xc3 then Some Ret
    else None

-- an element of a prefix
prefix_at : (code bytes : List ℕ) (i : ℕ) → IsPrefix code bytes → i < length code → slice_index bytes i ≡ slice_index code i
prefix_at code bytes i prefix below =
    sym (get_or-take (length code) bytes i 0 below) ∙ ap (λ list. slice_index list i) prefix

-- a prefix is no longer than the whole
pub prefix-length : (code bytes : List ℕ) → IsPrefix code bytes → length code ≤ length bytes
prefix-length code bytes prefix = omega (arith, length-take (length code) bytes, ap length prefix)

-- what stands after the first byte of a prefix
prefix-rest : (opcode : ℕ) (rest bytes : List ℕ) → IsPrefix (opcode ∷ rest) bytes → slice_range bytes 1 (suc (length rest)) ≡ rest
prefix-rest opcode rest [] prefix = absurd (grind arith)
prefix-rest opcode rest (byte ∷ bytes) prefix =
    let same : suc (length rest) - 1 ≡ length rest = omega arith in rw same (cc)

-- what the bytes that begin with an opcode and a displacement of one byte name
named_near : (opcode at target : ℕ) (code bytes : List ℕ) → IsRelative w8 opcode (after at 2) target code → IsPrefix code bytes → (slice_index bytes 0 ≡ opcode) × (near at bytes ≡ target)
named_near opcode at target code bytes r prefix =
    let whole : IsPrefix (opcode ∷ to_le_bytes w8 (distance (after at 2) target)) bytes = subst (λ list. IsPrefix list bytes) r.bytes prefix in (
      prefix_at _ bytes 0 whole (omega arith),
      ap (λ byte. leads w8 (after at 2) (byte ∷ [])) (prefix_at _ bytes 1 whole (omega arith)) ∙ r.leads_to,
    )

-- what the bytes that begin with an opcode and a displacement of four bytes name
named_far : (opcode at target : ℕ) (code bytes : List ℕ) → IsRelative w32 opcode (after at 5) target code → IsPrefix code bytes → (slice_index bytes 0 ≡ opcode) × (far at bytes ≡ target)
named_far opcode at target code bytes r prefix =
    let whole : IsPrefix (opcode ∷ to_le_bytes w32 (distance (after at 5) target)) bytes = subst (λ list. IsPrefix list bytes) r.bytes prefix in
    let same : slice_range bytes 1 5 ≡ to_le_bytes w32 (distance (after at 5) target) = prefix-rest opcode _ bytes whole in
    (prefix_at _ bytes 0 whole (omega arith), ap (λ rel. leads w32 (after at 5) rel) same ∙ r.leads_to)

-- the form that the bytes name, read from their first byte
abbrev pub named_form : ℕ → List ℕ → Option Form
named_form at bytes = named (slice_index bytes 0) at bytes

-- bytes that begin with a spelling name its form
pub named_begins : (form : Form) (at : ℕ) (bytes : List ℕ) → BeginsWith form at bytes → named_form at bytes ≡ Some form
unfolding spell
named_begins Nop2 at bytes begins =
    let whole : IsPrefix (0x66 ∷ 0x90 ∷ []) bytes = subst (λ list. IsPrefix list bytes) (sym (same_Some _ _ begins.spelt)) begins.prefix in
    ap (λ opcode. named opcode at bytes) (prefix_at _ bytes 0 whole (omega arith))
named_begins Nop5 at bytes begins =
    let whole : IsPrefix (0x0f ∷ 0x1f ∷ 0x44 ∷ 0x00 ∷ 0x00 ∷ []) bytes = subst (λ list. IsPrefix list bytes) (sym (same_Some _ _ begins.spelt)) begins.prefix in
    ap (λ opcode. named opcode at bytes) (prefix_at _ bytes 0 whole (omega arith))
named_begins (Jmp8 target) at bytes begins =
    let parts = named_near _ _ _ _ bytes (relative w8 _ _ _ _ begins.spelt) begins.prefix in
    ap (λ opcode. named opcode at bytes) parts.0 ∙ ap (λ to. Some (Jmp8 to)) parts.1
named_begins (Jmp32 target) at bytes begins =
    let parts = named_far _ _ _ _ bytes (relative w32 _ _ _ _ begins.spelt) begins.prefix in
    ap (λ opcode. named opcode at bytes) parts.0 ∙ ap (λ to. Some (Jmp32 to)) parts.1
named_begins (Call target) at bytes begins =
    let parts = named_far _ _ _ _ bytes (relative w32 _ _ _ _ begins.spelt) begins.prefix in
    ap (λ opcode. named opcode at bytes) parts.0 ∙ ap (λ to. Some (Call to)) parts.1
named_begins Ret at bytes begins =
    let whole : IsPrefix (0xc3 ∷ 0xcc ∷ 0xcc ∷ 0xcc ∷ 0xcc ∷ []) bytes = subst (λ list. IsPrefix list bytes) (sym (same_Some _ _ begins.spelt)) begins.prefix in
    ap (λ opcode. named opcode at bytes) (prefix_at _ bytes 0 whole (omega arith))

-- bytes begin with the spelling of at most one form
pub same_form : (f g : Form) (at : ℕ) (bytes : List ℕ) → BeginsWith f at bytes → BeginsWith g at bytes → f ≡ g
same_form f g at bytes p q = same_Some f g (sym (named_begins f at bytes p) ∙ named_begins g at bytes q)

-- two forms of one spelling are equal
pub same_spelling : (f g : Form) (at : ℕ) (code : List ℕ) → spell f at ≡ Some code → spell g at ≡ Some code → f ≡ g
same_spelling f g at code p q =
    same_form f g at code (record { code = code; spelt = p; prefix = take-length code })
    (record { code = code; spelt = q; prefix = take-length code })

-- a spelling that is how another begins is that of the same form
pub same_prefix : (f g : Form) (at : ℕ) (shorter longer : List ℕ) → spell f at ≡ Some shorter → spell g at ≡ Some longer → IsPrefix shorter longer → f ≡ g
same_prefix f g at shorter longer p q prefix =
    same_form f g at longer (record { code = shorter; spelt = p; prefix = prefix })
    (record { code = longer; spelt = q; prefix = take-length longer })

-- bytes that begin with a spelling are no fewer than its form takes
pub size-begins : (form : Form) (at : ℕ) (bytes : List ℕ) → BeginsWith form at bytes → size form ≤ length bytes
size-begins form at bytes begins =
    omega (arith, length-spell form at begins.code begins.spelt, prefix-length begins.code bytes begins.prefix)
