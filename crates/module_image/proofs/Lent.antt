-- What an accepted module promises to whoever is lent it.
use Rattle.std.proofs.Common.{◌≡◌, ◌∙◌, ◌<◌, ◌≤◌, ◌+◌, ◌-◌, ◌%◌, ◌^◌, ◌⊎◌, inl, inr, ℕ, true, List, [], drop, length, nat_lt, Option, Some, None, slice_get, refl, sym, ap, subst, arith}
use Rattle.std.specs.Prelude.{IfSome, IsSome, MatchOption}
use Rattle.std.proofs.lemmas.Bool.{and_parts, cases_lt, le-ltb}
use Rattle.std.proofs.lemmas.Option.{slice_get_within}
use Rattle.elf_module.specs.Elf.{Elf}
use Rattle.x64_subset.specs.declared.insn.Insn.{Insn}
use Rattle.x64_subset.proofs.WhatIsRead.{what_is_read}
use Rattle.module_image.specs.declared.image.Image.TheInside.{Inside}
use Rattle.module_parts.specs.declared.key.Key.{Key}
use Rattle.module_parts.specs.declared.key.KeyClass.{KeyClass}
use Rattle.module_parts.specs.declared.site.Site.{Site}
use Rattle.module_parts.specs.declared.site.SiteKind.{SiteKind}
use Rattle.module_parts.specs.declared.site.SiteKind.TheVariants.{Jump, Call, Tail, Trace}
use Rattle.module_parts.specs.declared.unit.Unit.{Unit}
use Rattle.module_parts.specs.declared.unit.Unit.TheVariants.{Nothing, Plain, Site as PatchedSite}
use Rattle.module_image.specs.First.{HasNone}
use Rattle.module_image.specs.Flows.{HasInsn, HasSite, StartsHaveUnits}
use Rattle.module_image.specs.Inside.{IsSound, module_of}
use Rattle.module_image.specs.Layout.{Layout, site_at, unit_at, unit_len, unit_of}
use Rattle.module_names.specs.Keys.{keys}
use Rattle.module_image.specs.Lent.{CountsFit, IsInsnAt, IsLaidOut, IsPatchedSite, IsPlaceOf, IsTraceSite, KeyNamesAreKnown, SitesAreLaidOut, TraceSitesAreFound, TraceSitesHaveATracer}
use Rattle.module_image.specs.Module.{IsModule, Module, first_of, is_trace, is_trace_at, layout_of, plain_at, plain_of, trace_at, tracer_of}
use Rattle.module_names.specs.Names.{tracer_name, value_of}
use Rattle.module_image.specs.Refusals.{IsBadState, IsTrace, past_all, past_key_state, past_site_count, past_site_overlap, past_tracer_missing}
use Rattle.module_image.specs.Sites.{sites}
use Rattle.module_image.proofs.Grounds.{module_ground}
use Rattle.module_image.proofs.KeyCount.{few_keys}
use Rattle.module_image.proofs.KeyNumbers.{site_keyed}
use Rattle.module_image.proofs.NamedKeys.{call_names_known, jump_names_known}
use Rattle.module_image.proofs.Passed.{none_negative, none_traced}
use Rattle.module_image.proofs.PlainFlows.{plain_past}
use Rattle.module_image.proofs.Positions.{found_some}
use Rattle.module_image.proofs.Sound.{few_passed, passes_before}
use Rattle.module_image.proofs.StartLaws.{function_start}
use Rattle.module_image.proofs.Starts.{noted_unit}
use Rattle.module_image.proofs.TextSize.{few_bytes, some_bytes}
use Rattle.module_image.proofs.UnitLaws.{site_is, unit_plain, unit_site}

-- where there is no tracer, no site is a trace site
no_trace : (elf : Elf) (m : Module) → IsModule elf m → tracer_of m ≡ None → HasNone IsTrace m.sites
no_trace elf m is missing =
    subst (HasNone IsTrace) (sym is.has_sites)
    (none_traced elf (passes_before elf past_tracer_missing past_all (omega arith) is.passes) (sym (is.named_functions tracer_name) ∙ missing))

-- where the sites of a module lie, and that there are few
laid_out : (elf : Elf) (m : Module) → IsModule elf m → IsLaidOut m
laid_out elf m is =
    let ground = module_ground elf m is in
    record {
      inside = ground.inside;
      apart = ground.apart;
      few = subst (λ (ss : List Site). length ss ≤ 1024) (sym is.has_sites) (few_passed elf (passes_before elf past_site_overlap past_all (omega arith) is.passes));
      known = λ k s here. site_keyed elf m k s is here;
      few_keys = subst (λ ks. length ks ≤ 1024) (sym is.has_keys) (few_keys elf (passes_before elf past_site_count past_all (omega arith) is.passes));
      below = is.below;
    }

pub sites_laid_out : SitesAreLaidOut
sites_laid_out m accepted = laid_out accepted.elf m accepted.is

-- what holds of a module holds of what an accepted one keeps
pub sound_of : (i : Inside) (elf : Elf) → IsModule elf (module_of i) → i.tracer ≡ tracer_of (module_of i) → IsSound i
sound_of i elf is tracer =
    let m = module_of i in
    let laid = laid_out elf m is in
    record {
      is = record { elf = elf; is = is };
      below = laid.below;
      some = some_bytes elf m is;
      short = few_bytes elf m is;
      inside = laid.inside;
      apart = laid.apart;
      swept = (module_ground elf m is).swept;
      tracer = tracer;
      few = laid.few;
      few_keys = laid.few_keys;
      known = laid.known;
      no_tracer = no_trace elf m is;
      jump_names = jump_names_known elf m is;
      call_names = call_names_known elf m is;
    }

-- names stand for keys
pub key_names_known : KeyNamesAreKnown
key_names_known m accepted =
    (jump_names_known accepted.elf m accepted.is, call_names_known accepted.elf m accepted.is)

-- counts of the file aren't negative
pub counts_fit : CountsFit
counts_fit m k key accepted here class =
    let elf = accepted.elf in
    let is = accepted.is in
    let there : slice_get (keys elf) k ≡ Some key = ap (λ (ks : List Key). slice_get ks k) (sym is.has_keys) ∙ here in
    let fails = none_negative elf (passes_before elf past_key_state past_all (omega arith) is.passes) k key there in
    elim (cases_lt key.start (2 ^ 31)) [
      | inl below ↦ below
      | inr past ↦ absurd (fails (subst (λ (c : KeyClass). IsBadState c key.start) (sym class) past))
    ]

-- a number that is found at an address is that of a patched site there
pub patched_site : (sites : List Site) (at : ℕ) (o : Option ℕ) → o ≡ site_at sites at → IfSome o (IsPatchedSite sites at)
patched_site sites at None is = tt
patched_site sites at (Some n) is =
    let t : Layout = record { base = 0; text = []; sites = sites } in
    let found = site_is t at n (sym is) in
    record { below = slice_get_within sites n found.site found.here; site = found.site; here = found.here; begins = found.same; ours = found.ours }

-- a number that is found is that of a trace site
trace_told : (kind : SiteKind) → is_trace kind ≡ true → kind ≡ Trace
trace_told (Jump target key likely) is = cc
trace_told (Call key) is = cc
trace_told (Tail key) is = cc
trace_told Trace is = refl

pub trace_site : (sites : List Site) (at n : ℕ) → trace_at sites at ≡ Some n → IsTraceSite sites n
trace_site sites at n is =
    let found = found_some (is_trace_at at) sites n is in
    record {
      below = slice_get_within sites n found.item found.here;
      site = found.item;
      here = found.here;
      is = trace_told found.item.kind (and_parts (is_trace found.item.kind) _ found.passes).0;
    }

first_trace : (sites : List Site) (at after n : ℕ) (o : Option ℕ) → trace_at sites at ≡ o → first_of o (trace_at sites after) ≡ Some n → IsTraceSite sites n
first_trace sites at after n None is found = trace_site sites after n found
first_trace sites at after n (Some first) is found = trace_site sites at n (is ∙ found)

pub trace_sites_found : TraceSitesAreFound
trace_sites_found m function n accepted found =
    first_trace m.sites function ((function + 4) % 2 ^ 64) n (trace_at m.sites function) refl found

-- where there is a trace site there is a tracer
pub trace_sites_traced : TraceSitesHaveATracer
trace_sites_traced m i accepted trace = by (tracer_of m) refl
  where
    by : (o : Option ℕ) → tracer_of m ≡ o → IsSome o
    by None missing = absurd (no_trace accepted.elf m accepted.is missing i trace.site trace.here trace.is)
    by (Some at) is = refl

-- what a name of a function stands for is a place of the text
pub place_of : (elf : Elf) (m : Module) (name : List ℕ) (o : Option ℕ) → IsModule elf m → o ≡ value_of name m.functions → IfSome o (IsPlaceOf m)
place_of elf m name None is told = tt
place_of elf m name (Some at) is told =
    let start = function_start elf m name at is (sym told) in
    let there = noted_unit (layout_of m) m.units at (module_ground elf m is).swept start in
    record { start = start; from = there.0; to = there.1 }

pub tracer_place : (elf : Elf) (m : Module) (o : Option ℕ) → IsModule elf m → o ≡ tracer_of m → MatchOption o (HasNone IsTrace m.sites) (IsPlaceOf m)
tracer_place elf m None is told = no_trace elf m is (sym told)
tracer_place elf m (Some at) is told = place_of elf m tracer_name (Some at) is told

-- a plain instruction is of the subset, and in the text
pub insn_of : (elf : Elf) (m : Module) (at : ℕ) (o : Option (Insn × ℕ)) → IsModule elf m → o ≡ plain_at m at → IfSome o (IsInsnAt m at)
insn_of elf m at None is told = tt
insn_of elf m at (Some (insn, len)) is told =
    let t = layout_of m in
    let swept = (module_ground elf m is).swept in
    let there = plain_past t m.units at (nat_lt at m.base) insn len swept refl (sym told) in
    let unit = unit_plain t at insn len there.1 in
    let found = what_is_read at (drop (at - m.base) m.text) insn len unit.reads in
    record {
      listed = found.0;
      some = found.1;
      few = found.2;
      from = (noted_unit t m.units at swept there.0).0;
      to = unit.inside;
    }

-- what begins at a start
no_site_plain : (t : Layout) (at : ℕ) (insn : Insn) (len : ℕ) (o : Option ℕ) → unit_of t at o ≡ Plain insn len → o ≡ None
no_site_plain t at insn len None is = refl
no_site_plain t at insn len (Some n) is = cc

start_unit : (m : Module) (at : ℕ) (unit : Unit) → m.base ≤ at → slice_get m.units (at - m.base) ≡ Some unit → unit_at (layout_of m) at ≡ unit → 0 < unit_len (layout_of m) unit → HasSite m at ⊎ HasInsn m at
start_unit m at Nothing from here is long = absurd (omega (arith, long))
start_unit m at (Plain insn len) from here is long =
    inr (record {
      insn = insn;
      len = len;
      is = rw (le-ltb at m.base from) (ap plain_of here);
      no_site = no_site_plain (layout_of m) at insn len (site_at m.sites at) is;
    })
start_unit m at (PatchedSite n) from here is long =
    inl (record { number = n; is = patched_site m.sites at (Some n) (sym (unit_site (layout_of m) at n is)); no_insn = rw (le-ltb at m.base from) (ap plain_of here) })

pub starts_units : StartsHaveUnits
starts_units m at accepted start =
    let t = layout_of m in
    let there = noted_unit t m.units at (module_ground accepted.elf m accepted.is).swept start in
    start_unit m at (unit_at t at) there.0 there.2 refl there.3
