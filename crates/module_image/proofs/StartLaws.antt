-- What of an accepted module is a start: its functions, its sites that aren't foreign, and what its call keys hold.
use Rattle.std.proofs.Common.{◌≡◌, ◌∙◌, ◌⊎◌, inl, inr, ℕ, List, get_or, Some, slice_get, option_map, sym, ap, subst}
use Rattle.std.proofs.lemmas.Bool.{le-ltb}
use Rattle.std.proofs.lemmas.Option.{get_or_from_slice_get, slice_get-map}
use Rattle.elf_module.specs.Elf.{Elf}
use Rattle.module_parts.specs.declared.key.Key.{Key}
use Rattle.module_names.specs.Keys.{keys}
use Rattle.module_image.specs.Layout.{IsStart}
use Rattle.module_image.specs.Module.{IsAccepted, IsModule, Module, layout_of, plain_of}
use Rattle.module_names.specs.Names.{functions, value_of}
use Rattle.module_image.specs.Sites.{starts_of}
use Rattle.module_image.specs.Command.{CommandsLeadWell, IsFunction}
use Rattle.module_image.specs.Flows.{FunctionsAreStarts, SitesAreStarts}
use Rattle.module_image.specs.Held.{FirstStatesLeadWell}
use Rattle.module_image.proofs.Grounds.{module_ground, module_leads, site_start}
use Rattle.module_image.proofs.Reached.{function_reaches, key_reaches}
use Rattle.module_image.proofs.Starts.{noted_unit}
use Rattle.module_image.proofs.UnitLaws.{site_unit}

pub function_start : (elf : Elf) (m : Module) (name : List ℕ) (at : ℕ) → IsModule elf m → value_of name m.functions ≡ Some at → IsStart (layout_of m) at
function_start elf m name at is stands =
    function_reaches (layout_of m) (functions elf) name at (module_leads elf m is).of_functions (sym (is.named_functions name) ∙ stands)

pub functions_start : FunctionsAreStarts
functions_start m name at accepted stands = function_start accepted.elf m name at accepted.is stands

-- no plain instruction begins where a site does
pub sites_start : SitesAreStarts
sites_start m i s accepted here ours =
    let elf = accepted.elf in
    let is = accepted.is in
    let t = layout_of m in
    let ground = module_ground elf m is in
    let start = site_start t m.units i s ground here ours in
    let there = noted_unit t m.units s.at ground.swept start in
    let unit = site_unit t i s ground.inside ground.apart here ours in
    (start, rw (le-ltb s.at m.base there.0) (ap plain_of (there.2 ∙ ap Some unit)))

-- what a key holds in the file
held_first : (ks : List Key) (k : ℕ) (key : Key) → slice_get ks k ≡ Some key → get_or (starts_of ks) k 0 ≡ key.start
held_first ks k key here =
    get_or_from_slice_get (starts_of ks) k key.start 0 (slice_get-map (λ (x : Key). x.start) ks k ∙ ap (option_map (λ (x : Key). x.start)) here)

pub first_states : FirstStatesLeadWell
first_states m accepted k key here class =
    let elf = accepted.elf in
    let is = accepted.is in
    let t = layout_of m in
    let there : slice_get (keys elf) k ≡ Some key = ap (λ (ks : List Key). slice_get ks k) (sym is.has_keys) ∙ here in
    subst (λ (n : ℕ). (n ≡ 0) ⊎ IsStart t n) (sym (held_first m.keys k key here))
    (key_reaches t (keys elf) k key (module_leads elf m is).of_keys there class)

-- and so do the functions that commands give to keys
given_start : (m : Module) (func : ℕ) → IsAccepted m → (func ≡ 0) ⊎ IsFunction m func → (func ≡ 0) ⊎ IsStart (layout_of m) func
given_start m func accepted (inl none) = inl none
given_start m func accepted (inr (name, is)) = inr (functions_start m name func accepted is)

pub commands_lead : CommandsLeadWell
commands_lead m key func accepted of = given_start m func accepted of.1
