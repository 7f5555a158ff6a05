-- The form that a site wants has the site's length.
use Rattle.std.proofs.Common.{◌≡◌, ◌∙◌, ◌==◌, ℕ, ◌⊎◌, inl, inr, Bool, true, false, cond, refl, sym, ap}
use Rattle.insn_forms.specs.declared.forms.Form.TheVariants.{Nop5, Jmp32, Call as CallTo, Ret}
use Rattle.insn_forms.specs.Spelling.{size}
use Rattle.module_parts.specs.declared.site.SiteKind.{SiteKind}
use Rattle.module_parts.specs.declared.site.SiteKind.TheVariants.{Jump, Call, Tail, Trace}
use Rattle.module_image.specs.Early.{HasCallLen}
use Rattle.module_image.specs.Wants.{called, jump_of, nop_of, tail_called, traced, wanted}

-- a NOP and a jump of 2 or 5 bytes have as many
size_nop : (len : ℕ) → (len ≡ 2) ⊎ (len ≡ 5) → size (nop_of len) ≡ len
size_nop len (inl two) = ap (λ (n : ℕ). size (nop_of n)) two ∙ sym two
size_nop len (inr five) = ap (λ (n : ℕ). size (nop_of n)) five ∙ sym five

size_jump : (len target : ℕ) → (len ≡ 2) ⊎ (len ≡ 5) → size (jump_of len target) ≡ len
size_jump len target (inl two) = ap (λ (n : ℕ). size (jump_of n target)) two ∙ sym two
size_jump len target (inr five) = ap (λ (n : ℕ). size (jump_of n target)) five ∙ sym five

size_either : (test : Bool) (len target : ℕ) → (len ≡ 2) ⊎ (len ≡ 5) → size (cond test (jump_of len target) (nop_of len)) ≡ len
size_either true len target h = size_jump len target h
size_either false len target h = size_nop len h

size_called : (func : ℕ) → size (called func) ≡ 5
size_called func = by (func == 0)
  where
    by : (test : Bool) → size (cond test Nop5 (CallTo func)) ≡ 5
    by true = refl
    by false = refl

size_tail_called : (func : ℕ) → size (tail_called func) ≡ 5
size_tail_called func = by (func == 0)
  where
    by : (test : Bool) → size (cond test Ret (Jmp32 func)) ≡ 5
    by true = refl
    by false = refl

size_traced : (tracer : ℕ) (on : Bool) → size (traced tracer on) ≡ 5
size_traced tracer true = refl
size_traced tracer false = refl

-- the form that a site wants has the site's length
pub size_wanted : (tracer state : ℕ) (on : Bool) (len : ℕ) (kind : SiteKind) → (len ≡ 2) ⊎ (len ≡ 5) → HasCallLen len kind → size (wanted tracer state on len kind) ≡ len
size_wanted tracer state on len (Jump target key likely) h five = size_either _ len target h
size_wanted tracer state on len (Call key) h five = size_called _ ∙ sym five
size_wanted tracer state on len (Tail key) h five = size_tail_called _ ∙ sym five
size_wanted tracer state on len Trace h five = size_traced tracer on ∙ sym five
