-- What the parts of acceptance give one another.
use Rattle.std.proofs.Common.{◌≡◌, ℕ, List, length, slice_get, Some, Result, Ok, Err, sym, ap, ◌∙◌, subst, inl, inr, arith, IfOk, IfErr}
use Rattle.elf_module.specs.Elf.{Elf}
use Rattle.module_parts.specs.declared.entry.Entry.{Entry}
use Rattle.module_parts.specs.declared.refused.Refused.{Refused}
use Rattle.module_parts.specs.declared.refused.Refused.TheVariants.{Undecoded, BadTarget}
use Rattle.module_image.specs.declared.text.Text.{Text}
use Rattle.module_parts.specs.declared.unit.Aim.{Aim}
use Rattle.module_parts.specs.declared.unit.Unit.{Unit}
use Rattle.module_names.specs.Entries.{entries, file_text}
use Rattle.module_names.specs.Keys.{keys}
use Rattle.module_names.specs.Names.{functions}
use Rattle.module_image.specs.Sites.{sites}
use Rattle.module_image.specs.Layout.{Layout, IsSwept, layout}
use Rattle.module_image.specs.Aims.{AllLead, AllReach, IsFirstBad, IsFirstBadOf, of_plain, of_jumps, of_keys, of_functions, jump_aims, key_aims}
use Rattle.module_image.specs.Text.{IsText}
use Rattle.module_image.specs.Sweeping.{IsSweepFault}
use Rattle.module_image.specs.Refusals.{Holds, IsOutsideOf, IsRefusedFor, Passes, Tries, function_aims, order, past_bad_target, past_site_outside, past_tracer_missing, past_undecoded}
use Rattle.module_image.proofs.Passed.{none_outside, passes_more}
use Rattle.module_image.proofs.UnitLaws.{swept_decoded}

-- no entry of a list that is the file's lies outside of the text that was found
pub listed_inside : (elf : Elf) (text : Text) (list : List Entry) → IsText elf text → list ≡ entries elf → Passes elf past_site_outside → (i : ℕ) (e : Entry) → slice_get list i ≡ Some e → ¬ IsOutsideOf text.base (length text.bytes.now) e
listed_inside elf text list is same passes i e here outside =
    none_outside elf passes i e (ap (λ (es : List Entry). slice_get es i) (sym same) ∙ here)
    (subst (λ (b : ℕ). IsOutsideOf b (length (file_text elf)) e) is.same_base (subst (λ (bytes : List ℕ). IsOutsideOf text.base (length bytes) e) is.same_bytes outside))

-- nothing leads astray where all lead to starts
reaches : (t : Layout) (aims : List Aim) (aim : Aim) → AllReach t aims → IsFirstBad t aims aim → ⊥
reaches t aims aim all first = first.bad (all first.place aim first.here)

never_bad : (t : Layout) (jumps keys functions : List Aim) (aim : Aim) → AllLead t jumps keys functions → IsFirstBadOf t jumps keys functions aim → ⊥
never_bad t jumps keys functions aim lead (of_plain first) = first.bad (lead.plain aim first.is)
never_bad t jumps keys functions aim lead (of_jumps plain first) = reaches t jumps aim lead.of_jumps first
never_bad t jumps keys functions aim lead (of_keys plain jump first) = reaches t keys aim lead.of_keys first
never_bad t jumps keys functions aim lead (of_functions plain jump key first) = reaches t functions aim lead.of_functions first

pub passes-targets : (elf : Elf) → Passes elf past_undecoded → AllLead (layout elf) (jump_aims (sites elf)) (key_aims (keys elf)) (function_aims (functions elf)) → Passes elf past_bad_target
passes-targets elf passes lead = passes_more elf past_undecoded passes here
  where
    here : (why : Refused) → order why ≡ past_undecoded → Holds elf why → ⊥
    here (BadTarget from to) e holds =
        never_bad (layout elf) (jump_aims (sites elf)) (key_aims (keys elf)) (function_aims (functions elf)) (record { from = from; to = to }) lead holds
    here _ e holds = absurd (omega (arith, e))

-- a text that was swept has a unit at each start
passes-swept : (elf : Elf) (units : List Unit) → Passes elf past_tracer_missing → IsSwept (layout elf) units → Passes elf past_undecoded
passes-swept elf units passes swept = passes_more elf past_tracer_missing passes here
  where
    here : (why : Refused) → order why ≡ past_tracer_missing → Holds elf why → ⊥
    here (Undecoded at) e holds =
        let some = swept_decoded (layout elf) units swept at holds.start in
        let missing = holds.missing in
        omega (arith, some, missing)
    here _ e holds = absurd (omega (arith, e))

refused-swept : (elf : Elf) (why : Refused) → Passes elf past_tracer_missing → IsSweepFault (layout elf) why → IsRefusedFor elf why
refused-swept elf why passes (inl none) = inl none
refused-swept elf why passes (inr (at, is, undecoded)) =
    subst (λ (w : Refused). IsRefusedFor elf w) (sym is) (inr (record { holds = undecoded; first = passes }))

pub tries-swept : {T : Type 0} (elf : Elf) (units : T → List Unit) (result : Result T Refused) → Passes elf past_tracer_missing → IfOk result (λ (found : T). IsSwept (layout elf) (units found)) → IfErr result (IsSweepFault (layout elf)) → Tries elf past_undecoded result
tries-swept elf units (Ok found) passes swept failed = passes-swept elf (units found) passes swept
tries-swept elf units (Err why) passes swept failed = refused-swept elf why passes failed
