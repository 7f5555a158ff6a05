-- What was found of a module is sound.
use Rattle.std.proofs.Common.{◌≡◌, ◌≤◌, ℕ, List, [], ◌∷◌, length, map, refl, sym, ap, ◌∙◌, subst, arith}
use Rattle.elf_module.specs.Elf.{Elf}
use Rattle.module_parts.specs.declared.entry.Entry.{Entry}
use Rattle.module_image.specs.declared.finding.Found.{Found}
use Rattle.module_parts.specs.declared.key.KeyClass.TheVariants.{Jump, Call}
use Rattle.module_parts.specs.declared.site.Site.{Site}
use Rattle.module_parts.specs.declared.unit.Aim.{Aim}
use Rattle.module_image.specs.Aims.{function_aim}
use Rattle.module_image.specs.Early.{HaveCallLens}
use Rattle.module_names.specs.Entries.{base, entries, file_text, text_index}
use Rattle.module_image.specs.Found.{IsFound}
use Rattle.module_names.specs.Keys.{gathered, key_addresses}
use Rattle.module_names.specs.Names.{Named, functions, functions_from}
use Rattle.module_image.specs.Refusals.{Passes, function_aims, past_site_count, past_site_length, past_site_outside, past_site_overlap}
use Rattle.module_image.specs.Sites.{ascending, site_of, sites}
use Rattle.module_image.specs.Text.{AreApart, AreInside, IsText}
use Rattle.module_image.proofs.Passed.{few_entries, none_outside, none_without_length}
use Rattle.module_image.proofs.SiteLaws.{few_sites, sites_apart_passed, sites_call_lens, sites_inside}

-- what holds before a place holds before an earlier one
pub passes_before : (elf : Elf) (early late : ℕ) → early ≤ late → Passes elf late → Passes elf early
passes_before elf early late le passes =
    record { none = λ why before holds. passes.none why (omega (arith, le, before)) holds }

pub inside_passed : (elf : Elf) → Passes elf past_site_overlap → AreInside (base elf) (length (file_text elf)) (sites elf)
inside_passed elf passes =
    sites_inside (base elf) (length (file_text elf)) (file_text elf) (key_addresses elf Jump) (key_addresses elf Call) (entries elf) refl (none_outside elf (passes_before elf past_site_outside past_site_overlap (omega arith) passes)) (none_without_length elf (passes_before elf past_site_length past_site_overlap (omega arith) passes))

pub call_lens_passed : (elf : Elf) → HaveCallLens (sites elf)
call_lens_passed elf =
    sites_call_lens (base elf) (file_text elf) (key_addresses elf Jump) (key_addresses elf Call) (entries elf)

pub few_passed : (elf : Elf) → Passes elf past_site_overlap → length (sites elf) ≤ 1024
few_passed elf passes =
    let same = few_sites (site_of (base elf) (file_text elf) (key_addresses elf Jump) (key_addresses elf Call)) (entries elf) in
    let few = few_entries elf (passes_before elf past_site_count past_site_overlap (omega arith) passes) in
    subst (λ (n : ℕ). n ≤ 1024) (sym same) few

-- the sites of a list of entries, of a text and of keys that are the file's, are the file's
made_sites : ℕ → List ℕ → List ℕ → List ℕ → List Entry → List Site
made_sites at text jumps calls es = ascending (map (site_of at text jumps calls) es)

same_sites : (at at' : ℕ) (text text' jumps jumps' calls calls' : List ℕ) (es es' : List Entry) → at ≡ at' → text ≡ text' → jumps ≡ jumps' → calls ≡ calls' → es ≡ es' → made_sites at text jumps calls es ≡ made_sites at' text' jumps' calls' es'
same_sites at at' text text' jumps jumps' calls calls' es es' same_at same_text same_jumps same_calls same_es =
    ap (λ (a : ℕ). made_sites a text jumps calls es) same_at ∙ ap (λ (t : List ℕ). made_sites at' t jumps calls es) same_text
    ∙ ap (λ (ks : List ℕ). made_sites at' text' ks calls es) same_jumps ∙ ap (λ (ks : List ℕ). made_sites at' text' jumps' ks es) same_calls
    ∙ ap (λ (xs : List Entry). made_sites at' text' jumps' calls' xs) same_es

-- the parts that were found are those of the file
pub is_found : (elf : Elf) (found : Found) (list : List Entry) → IsText elf found.text → list ≡ entries elf → found.addresses.jumps.items ≡ gathered Jump list [] → found.addresses.calls.items ≡ gathered Call list [] → found.sites.items ≡ ascending (map (site_of found.text.base found.text.bytes.now found.addresses.jumps.items found.addresses.calls.items) list) → Passes elf past_site_overlap → IsFound elf found
unfolding made_sites
is_found elf found list is same jumps calls made passes =
    let jumps_are : found.addresses.jumps.items ≡ key_addresses elf Jump = jumps ∙ ap (λ (es : List Entry). gathered Jump es []) same in
    let calls_are : found.addresses.calls.items ≡ key_addresses elf Call = calls ∙ ap (λ (es : List Entry). gathered Call es []) same in
    let sites_are : found.sites.items ≡ sites elf = made ∙ same_sites found.text.base (base elf) found.text.bytes.now (file_text elf) found.addresses.jumps.items (key_addresses elf Jump) found.addresses.calls.items (key_addresses elf Call) list (entries elf) is.same_base is.same_bytes jumps_are calls_are same in
    record {
      is_text = is;
      has_sites = sites_are;
      jumps = jumps_are;
      calls = calls_are;
      inside =
          subst (λ (ss : List Site). AreInside found.text.base (length found.text.bytes.now) ss) (sym sites_are)
          (subst (λ (b : ℕ). AreInside b (length found.text.bytes.now) (sites elf)) (sym is.same_base)
          (subst (λ (t : List ℕ). AreInside (base elf) (length t) (sites elf)) (sym is.same_bytes) (inside_passed elf passes)));
      apart = subst (λ (ss : List Site). AreApart ss) (sym sites_are) (sites_apart_passed elf passes);
      call_lens = subst (λ (ss : List Site). HaveCallLens ss) (sym sites_are) (call_lens_passed elf);
      few = subst (λ (ss : List Site). length ss ≤ 1024) (sym sites_are) (few_passed elf passes);
    }

-- the functions' addresses lead to themselves
aims_of : (ns : List Named) → map function_aim (map (λ (n : Named). n.1) ns) ≡ function_aims ns
aims_of [] = refl
aims_of (n ∷ ns) = ap (λ (aims : List Aim). function_aim n.1 ∷ aims) (aims_of ns)

pub found_aims : (elf : Elf) (index : ℕ) (addresses : List ℕ) → index ≡ text_index elf → addresses ≡ map (λ (n : Named). n.1) (functions_from index elf.symbols) → map function_aim addresses ≡ function_aims (functions elf)
found_aims elf index addresses same are =
    ap (λ (xs : List ℕ). map function_aim xs) are ∙ aims_of (functions_from index elf.symbols)
    ∙ ap (λ (i : ℕ). function_aims (functions_from i elf.symbols)) same
