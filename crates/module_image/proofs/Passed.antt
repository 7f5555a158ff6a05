-- What the tries of conditions have shown: from a place to the next, and of a module that has passed.
use Rattle.std.proofs.Common.{◌≡◌, ◌<◌, ◌≤◌, ◌+◌, ℕ, List, length, None, subst, arith, refl, inl, inr}
use Rattle.std.proofs.lemmas.Bool.{cases_lt}
use Rattle.elf_module.specs.Elf.{Elf}
use Rattle.module_parts.specs.declared.entry.Entry.{Entry}
use Rattle.module_parts.specs.declared.key.Key.{Key}
use Rattle.module_parts.specs.declared.refused.Refused.{Refused}
use Rattle.module_parts.specs.declared.refused.Refused.TheVariants.{TextCount, SiteCount, SiteOutside, SiteLength, KeyOutside, KeyState, NoReach, TracerMissing}
use Rattle.module_image.specs.First.{HasNone, IsFirst}
use Rattle.module_names.specs.Entries.{entries}
use Rattle.module_names.specs.Keys.{keys}
use Rattle.module_names.specs.Names.{tracer}
use Rattle.module_image.specs.Sites.{sites}
use Rattle.module_image.specs.Refusals.{HasBadLength, HasBadState, Holds, IsKeyOutside, IsOutOfReach, IsOutside, IsRefusedFor, IsTrace, Passes, order, past_key_outside, past_key_state, past_no_reach, past_site_count, past_site_length, past_site_outside, past_site_overlap, past_tracer_missing}
use Rattle.module_image.proofs.Firsts.{has_none, none_first}

-- no condition stands before the first
pub passes_first : (elf : Elf) → Passes elf 1
passes_first elf = record { none = λ why before holds. first why before }
  where
    first : (why : Refused) → order why < 1 → ⊥
    first (TextCount n) before = absurd (omega (arith, before))
    first _ before = absurd (omega (arith, before))

-- no condition holds before the next place either
pub passes_more : (elf : Elf) (place : ℕ) → Passes elf place → ((why : Refused) → order why ≡ place → Holds elf why → ⊥) → Passes elf (place + 1)
passes_more elf place passes here = record { none = none }
  where
    none : (why : Refused) → order why < place + 1 → Holds elf why → ⊥
    none why lt holds = elim (cases_lt (order why) place) [
      | inl before ↦ passes.none why before holds
      | inr past ↦ here why (omega arith) holds
    ]

-- where each jump entry has a length, the condition on lengths doesn't hold
pub passes-length : (elf : Elf) (list : List Entry) → list ≡ entries elf → Passes elf past_site_outside → HasNone (HasBadLength elf) list → Passes elf past_site_length
passes-length elf list is passes none = passes_more elf past_site_outside passes here
  where
    here : (why : Refused) → order why ≡ past_site_outside → Holds elf why → ⊥
    here (SiteLength at) e holds = none_first (HasBadLength elf) (entries elf) holds.0 (subst (λ (es : List Entry). HasNone (HasBadLength elf) es) is none) holds.1
    here _ e holds = absurd (omega (arith, e))

-- the first that has none is the refusal
pub refused-length : (elf : Elf) (list : List Entry) (e : Entry) → list ≡ entries elf → Passes elf past_site_outside → IsFirst (HasBadLength elf) list e → IsRefusedFor elf (SiteLength e.at)
refused-length elf list e is passes first =
    inr (record { holds = (e, subst (λ (es : List Entry). IsFirst (HasBadLength elf) es e) is first, refl); first = passes })

-- where each key is loaded, the condition on keys outside doesn't hold
pub passes-loaded : (elf : Elf) (found : List Key) → found ≡ keys elf → Passes elf past_site_overlap → HasNone (IsKeyOutside elf) found → Passes elf past_key_outside
passes-loaded elf found is passes none = passes_more elf past_site_overlap passes here
  where
    here : (why : Refused) → order why ≡ past_site_overlap → Holds elf why → ⊥
    here (KeyOutside at) e holds = none_first (IsKeyOutside elf) (keys elf) holds.0 (subst (λ (ks : List Key). HasNone (IsKeyOutside elf) ks) is none) holds.1
    here _ e holds = absurd (omega (arith, e))

-- the first that isn't is the refusal
pub refused-loaded : (elf : Elf) (found : List Key) (k : Key) → found ≡ keys elf → Passes elf past_site_overlap → IsFirst (IsKeyOutside elf) found k → IsRefusedFor elf (KeyOutside k.at)
refused-loaded elf found k is passes first =
    inr (record { holds = (k, subst (λ (ks : List Key). IsFirst (IsKeyOutside elf) ks k) is first, refl); first = passes })

-- there are few entries
pub few_entries : (elf : Elf) → Passes elf past_site_count → length (entries elf) ≤ 1024
few_entries elf passes = elim (cases_lt 1024 (length (entries elf))) [
  | inl many ↦ absurd (passes.none (SiteCount (length (entries elf))) (omega arith) (many, refl))
  | inr few ↦ few
]

-- no entry is outside
pub none_outside : (elf : Elf) → Passes elf past_site_outside → HasNone (IsOutside elf) (entries elf)
none_outside elf passes = has_none (IsOutside elf) (entries elf) (λ e first. passes.none (SiteOutside e.at) (omega arith) (e, first, refl))

-- no jump entry lacks a length
pub none_without_length : (elf : Elf) → Passes elf past_site_length → HasNone (HasBadLength elf) (entries elf)
none_without_length elf passes = has_none (HasBadLength elf) (entries elf) (λ e first. passes.none (SiteLength e.at) (omega arith) (e, first, refl))

-- no count is negative
pub none_negative : (elf : Elf) → Passes elf past_key_state → HasNone HasBadState (keys elf)
none_negative elf passes = has_none HasBadState (keys elf) (λ k first. passes.none (KeyState k.at) (omega arith) (k, first, refl))

-- each jump of two bytes reaches its target
pub none_too_far : (elf : Elf) → Passes elf past_no_reach → HasNone IsOutOfReach (sites elf)
none_too_far elf passes = has_none IsOutOfReach (sites elf) (λ s first. passes.none (NoReach s.at) (omega arith) (s, first, refl))

-- where there is no tracer there is no trace site
pub none_traced : (elf : Elf) → Passes elf past_tracer_missing → tracer elf ≡ None → HasNone IsTrace (sites elf)
none_traced elf passes missing = has_none IsTrace (sites elf) (λ s first. passes.none (TracerMissing s.at) (omega arith) (missing, s, first, refl))
