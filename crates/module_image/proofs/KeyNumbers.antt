-- The numbers of keys at sites: each stands for a key of its class.
use Rattle.std.proofs.Common.{◌≡◌, ◌∙◌, ◌==◌, ◌<◌, ◌+◌, ◌⊎◌, inl, inr, ℕ, zero, suc, Bool, true, false, cond, nat_lt, List, [], ◌∷◌, ◌++◌, length, map, slice_get, Option, Some, None, refl, sym, ap, subst, arith}
use Rattle.std.proofs.lemmas.Bool.{eqb-true, eq-eqb}
use Rattle.std.proofs.lemmas.Option.{same_Some, none-some, slice_get_within}
use Rattle.elf_module.specs.Elf.{Elf}
use Rattle.module_parts.specs.declared.entry.Entry.{Entry}
use Rattle.module_parts.specs.declared.entry.EntryKind.{EntryKind}
use Rattle.module_parts.specs.declared.entry.EntryKind.TheVariants.{Jump as JumpEntry, Call as CallEntry, Tail as TailEntry, Trace as TraceEntry}
use Rattle.module_parts.specs.declared.key.Key.{Key}
use Rattle.module_parts.specs.declared.key.KeyClass.{KeyClass}
use Rattle.module_parts.specs.declared.key.KeyClass.TheVariants.{Jump as JumpKey, Call as CallKey}
use Rattle.module_parts.specs.declared.site.Site.{Site}
use Rattle.module_parts.specs.declared.site.SiteKind.TheVariants.{Call, Tail}
use Rattle.module_names.specs.Entries.{base, entries, file_text}
use Rattle.module_names.specs.Keys.{key_in, with_key, with_named, gathered, key_addresses, place_in, number_of, key_of, keys}
use Rattle.module_image.specs.Lent.{IsKeyOf, IsKeyed}
use Rattle.module_image.specs.Module.{Module, IsModule}
use Rattle.module_image.specs.Sites.{kind_of, site_of, sites}
use Rattle.module_image.proofs.SiteLaws.{each_site}

-- an address stands in a list
abbrev IsAmong : ℕ → List ℕ → Type 0
IsAmong key [] = ⊥
IsAmong key (k ∷ ks) = (k ≡ key) ⊎ IsAmong key ks

-- so it has a place there
place_below : (key : ℕ) (ks : List ℕ) → IsAmong key ks → place_in key ks < length ks
place_below key [] among = absurd among
place_below key (k ∷ ks) among = by (k == key) refl among (place_below key ks)
  where
    by : (test : Bool) → (k == key) ≡ test → (k ≡ key) ⊎ IsAmong key ks → (IsAmong key ks → place_in key ks < length ks) → cond test 0 (1 + place_in key ks) < length (k ∷ ks)
    by true is among rest = omega arith
    by false is (inl same) rest = absurd (cc (is, eq-eqb k key same))
    by false is (inr later) rest = (let below = rest later in omega (arith, below))

-- one more address is there, and the others stay
there_with : (key : ℕ) (ks : List ℕ) → IsAmong key (with_key key ks)
there_with key [] = inl refl
there_with key (k ∷ ks) = by (key == k) (nat_lt key k) refl (there_with key ks)
  where
    by : (same before : Bool) → (key == k) ≡ same → IsAmong key (with_key key ks) → IsAmong key (cond same (k ∷ ks) (cond before (key ∷ k ∷ ks) (k ∷ with_key key ks)))
    by true before is rest = inl (sym (eqb-true key k is))
    by false true is rest = inl refl
    by false false is rest = inr rest

kept_with : (key other : ℕ) (ks : List ℕ) → IsAmong key ks → IsAmong key (with_key other ks)
kept_with key other [] among = absurd among
kept_with key other (k ∷ ks) among = by (other == k) (nat_lt other k) among (λ later. kept_with key other ks later)
  where
    by : (same before : Bool) → (k ≡ key) ⊎ IsAmong key ks → (IsAmong key ks → IsAmong key (with_key other ks)) → IsAmong key (cond same (k ∷ ks) (cond before (other ∷ k ∷ ks) (k ∷ with_key other ks)))
    by true before among rest = among
    by false true among rest = inr among
    by false false (inl same) rest = inl same
    by false false (inr later) rest = inr (rest later)

kept_named : (key : ℕ) (named : Option ℕ) (ks : List ℕ) → IsAmong key ks → IsAmong key (with_named named ks)
kept_named key None ks among = among
kept_named key (Some other) ks among = kept_with key other ks among

kept_gathered : (class : KeyClass) (key : ℕ) (es : List Entry) (ks : List ℕ) → IsAmong key ks → IsAmong key (gathered class es ks)
kept_gathered class key [] ks among = among
kept_gathered class key (e ∷ es) ks among = kept_gathered class key es (with_named (key_in class e.kind) ks) (kept_named key (key_in class e.kind) ks among)

-- the key that an entry names is gathered
there_gathered : (class : KeyClass) (key : ℕ) (es : List Entry) (ks : List ℕ) (i : ℕ) (e : Entry) → slice_get es i ≡ Some e → key_in class e.kind ≡ Some key → IsAmong key (gathered class es ks)
there_gathered class key [] ks i e here names = absurd (none-some e here)
there_gathered class key (x ∷ xs) ks zero e here names =
    let named : key_in class x.kind ≡ Some key = ap (λ (y : Entry). key_in class y.kind) (same_Some x e here) ∙ names in
    let there : IsAmong key (with_named (key_in class x.kind) ks) = subst (λ (o : Option ℕ). IsAmong key (with_named o ks)) (sym named) (there_with key ks) in
    kept_gathered class key xs (with_named (key_in class x.kind) ks) there
there_gathered class key (x ∷ xs) ks (suc i) e here names = there_gathered class key xs (with_named (key_in class x.kind) ks) i e here names

-- a number at which a key of a class stands is that of one
key_is : (all : List Key) (class : KeyClass) (n : ℕ) (key : Key) → slice_get all n ≡ Some key → key.class ≡ class → IsKeyOf all class n
key_is all class n key here is = record { below = slice_get_within all n key here; key = key; here = here; is = is }

-- so are the places of the first and of the second of two lists
first_key : (of : ℕ → Key) (class : KeyClass) (xs : List ℕ) (rest : List Key) (n : ℕ) → ((a : ℕ) → (of a).class ≡ class) → n < length xs → IsKeyOf (map of xs ++ rest) class n
first_key of class [] rest n each below = absurd (omega (arith, below))
first_key of class (x ∷ xs) rest zero each below = key_is _ class zero (of x) refl (each x)
first_key of class (x ∷ xs) rest (suc n) each below = (let later = first_key of class xs rest n each (omega (arith, below)) in key_is _ class (suc n) later.key later.here later.is)

only_key : (of : ℕ → Key) (class : KeyClass) (xs : List ℕ) (n : ℕ) → ((a : ℕ) → (of a).class ≡ class) → n < length xs → IsKeyOf (map of xs) class n
only_key of class [] n each below = absurd (omega (arith, below))
only_key of class (x ∷ xs) zero each below = key_is _ class zero (of x) refl (each x)
only_key of class (x ∷ xs) (suc n) each below = (let later = only_key of class xs n each (omega (arith, below)) in key_is _ class (suc n) later.key later.here later.is)

second_get : (of : ℕ → Key) (xs : List ℕ) (rest : List Key) (n : ℕ) → slice_get (map of xs ++ rest) (length xs + n) ≡ slice_get rest n
second_get of [] rest n = (let same : 0 + n ≡ n = omega arith in ap (slice_get rest) same)
second_get of (x ∷ xs) rest n = (let more : length (x ∷ xs) + n ≡ suc (length xs + n) = omega arith in rw more (second_get of xs rest n))

second_key : (of : ℕ → Key) (class : KeyClass) (xs : List ℕ) (rest : List Key) (n : ℕ) → IsKeyOf rest class n → IsKeyOf (map of xs ++ rest) class (length xs + n)
second_key of class xs rest n found = key_is _ class (length xs + n) found.key (second_get of xs rest n ∙ found.here) found.is

-- the places below the length are those of keys of jumps, those after it of calls
pub jump_place : (elf : Elf) (n : ℕ) → n < length (key_addresses elf JumpKey) → IsKeyOf (keys elf) JumpKey n
jump_place elf n below =
    first_key (key_of elf.sections JumpKey) JumpKey (key_addresses elf JumpKey) (map (key_of elf.sections CallKey) (key_addresses elf CallKey)) n (λ a. refl) below

pub call_place : (elf : Elf) (n : ℕ) → n < length (key_addresses elf CallKey) → IsKeyOf (keys elf) CallKey (length (key_addresses elf JumpKey) + n)
call_place elf n below =
    second_key (key_of elf.sections JumpKey) CallKey (key_addresses elf JumpKey) (map (key_of elf.sections CallKey) (key_addresses elf CallKey)) n
    (only_key (key_of elf.sections CallKey) CallKey (key_addresses elf CallKey) n (λ a. refl) below)

-- the numbers of the keys that entries name
jump_number : (elf : Elf) (i : ℕ) (e : Entry) (key : ℕ) → slice_get (entries elf) i ≡ Some e → key_in JumpKey e.kind ≡ Some key → IsKeyOf (keys elf) JumpKey (number_of (key_addresses elf JumpKey) (key_addresses elf CallKey) JumpKey key)
jump_number elf i e key here names =
    jump_place elf (place_in key (key_addresses elf JumpKey)) (place_below key (key_addresses elf JumpKey) (there_gathered JumpKey key (entries elf) [] i e here names))

call_number : (elf : Elf) (i : ℕ) (e : Entry) (key : ℕ) → slice_get (entries elf) i ≡ Some e → key_in CallKey e.kind ≡ Some key → IsKeyOf (keys elf) CallKey (number_of (key_addresses elf JumpKey) (key_addresses elf CallKey) CallKey key)
call_number elf i e key here names =
    call_place elf (place_in key (key_addresses elf CallKey)) (place_below key (key_addresses elf CallKey) (there_gathered CallKey key (entries elf) [] i e here names))

-- the number at a site stands for a key of the site's class
entry_keyed : (elf : Elf) (i : ℕ) (e : Entry) (kind : EntryKind) → slice_get (entries elf) i ≡ Some e → e.kind ≡ kind → IsKeyed (keys elf) (kind_of (key_addresses elf JumpKey) (key_addresses elf CallKey) kind)
entry_keyed elf i e (JumpEntry target key likely) here is = jump_number elf i e key here (ap (key_in JumpKey) is)
entry_keyed elf i e (CallEntry key) here is = call_number elf i e key here (ap (key_in CallKey) is)
entry_keyed elf i e (TailEntry key) here is = call_number elf i e key here (ap (key_in CallKey) is)
entry_keyed elf i e TraceEntry here is = tt

pub sites_keyed : (elf : Elf) (i : ℕ) (s : Site) → slice_get (sites elf) i ≡ Some s → IsKeyed (keys elf) s.kind
sites_keyed elf i s here =
    each_site (λ (x : Site). IsKeyed (keys elf) x.kind) (site_of (base elf) (file_text elf) (key_addresses elf JumpKey) (key_addresses elf CallKey)) (entries elf)
    (λ j e get. entry_keyed elf j e e.kind get refl) i s here

-- so it is in an accepted module
pub site_keyed : (elf : Elf) (m : Module) (i : ℕ) (s : Site) → IsModule elf m → slice_get m.sites i ≡ Some s → IsKeyed m.keys s.kind
site_keyed elf m i s is here =
    subst (λ (all : List Key). IsKeyed all s.kind) (sym is.has_keys) (sites_keyed elf i s (ap (λ (ss : List Site). slice_get ss i) (sym is.has_sites) ∙ here))

-- by the kind of a site
pub call_site_key : (elf : Elf) (m : Module) (i : ℕ) (s : Site) (k : ℕ) → IsModule elf m → slice_get m.sites i ≡ Some s → s.kind ≡ Call k → IsKeyOf m.keys CallKey k
call_site_key elf m i s k is here kind = subst (IsKeyed m.keys) kind (site_keyed elf m i s is here)

pub tail_site_key : (elf : Elf) (m : Module) (i : ℕ) (s : Site) (k : ℕ) → IsModule elf m → slice_get m.sites i ≡ Some s → s.kind ≡ Tail k → IsKeyOf m.keys CallKey k
tail_site_key elf m i s k is here kind = subst (IsKeyed m.keys) kind (site_keyed elf m i s is here)
