-- The files of a host in memory, as the map of its entries.
use Rattle.std.proofs.Common.{◌≡◌, ◌∙◌, refl, sym, ap, subst, ℕ, Bool, true, false, cond, List, [], ◌∷◌, ◌++◌, map, Option, Some, None, option_map, unwrap_or, String, Vec, IsSome, string_bytes, string_cmp}
use Rattle.std.specs.declared.alloc.Global.{Global}
use Rattle.std.specs.declared.cmp.Ordering.{Ordering}
use Rattle.std.specs.declared.cmp.Ordering.TheVariants.{Less, Equal, Greater}
use Rattle.std.specs.Ordering.{nat_cmp, is_eq}
use Rattle.std.specs.Cmp.Lexicographic.{slice_cmp}
use Rattle.std.specs.BTreeMap.{BTreeMap, get_by_text, UpdatesBy}
use Rattle.std.specs.Map.{lookup}
use Rattle.std.specs.Str.{bytes_eq}
use Rattle.std.specs.FinMap.{find, get, insert, get-from_entries, get-insert, get_tied, same_map, nat_cmp-IsAntisymmetric, slice_cmp-IsAntisymmetric}
use Rattle.std.proofs.lemmas.Cmp.{nat_list_cmp_total, nat_list_eq_equiv, tied_itself}
use Rattle.std.proofs.lemmas.Map.Text.{is_eq-slice_cmp, btree_map_updates_text}
use Rattle.poke_base.specs.Host.{Files}
use Rattle.poke_base.specs.Stored.{Stored, file_of, files_in, added}

-- the map of files by their names
abbrev pub FileMap : Type 0
FileMap = BTreeMap (String Global) (Vec ℕ Global)

-- one file of a map was written
abbrev pub Writes : List ℕ → FileMap → FileMap → Vec ℕ Global → Type 0
Writes name m n v = UpdatesBy string_cmp (λ k. slice_cmp nat_cmp name (string_bytes k)) m n (Some v)

-- the bytes of a file, where it is there
abbrev pub bytes_of : Option (Vec ℕ Global) → Option (List ℕ)
bytes_of o = option_map (λ (x : Vec ℕ Global). x.items) o

-- the bytes of a value at a choice
chosen : (b : Bool) (v : Vec ℕ Global) (o : Option (Vec ℕ Global)) (p : Option (List ℕ)) → p ≡ bytes_of o → cond b (Some v.items) p ≡ bytes_of (cond b (Some v) o)
chosen true v o p e = refl
chosen false v o p e = e

-- a name is found among the files as among the entries
found : (entries : List (String Global × Vec ℕ Global)) (name : List ℕ) → find (slice_cmp nat_cmp) name (map file_of entries) ≡ bytes_of (lookup (λ k. is_eq (slice_cmp nat_cmp name (string_bytes k))) entries)
found [] name = refl
found (e ∷ entries) name = chosen (is_eq (slice_cmp nat_cmp name (string_bytes e.0))) e.1 _ _ (found entries name)

-- the bytes of a file are those of the entry with its name
pub get-files_in : (m : FileMap) (name : List ℕ) → get (files_in m.entries) name ≡ bytes_of (get_by_text m name)
get-files_in m name = get-from_entries nat_list_cmp_total (map file_of m.entries) name ∙ found m.entries name

-- to update an entry is to insert the file
pub files_in-updates : (m n : FileMap) (name : List ℕ) (v : Vec ℕ Global) → Writes name m n v → files_in n.entries ≡ insert (files_in m.entries) name v.items
files_in-updates m n name v h =
    same_map nat_list_cmp_total (slice_cmp-IsAntisymmetric nat_cmp-IsAntisymmetric) _ _ (λ q.
    let now = btree_map_updates_text name m n (Some v) h q in
    let same : is_eq (slice_cmp nat_cmp q name) ≡ bytes_eq name q = is_eq-slice_cmp q name ∙ nat_list_eq_equiv.symm q name in
    get-files_in n q ∙ ap bytes_of now
    ∙ sym (chosen (bytes_eq name q) v (get_by_text m q) _ (get-files_in m q))
    ∙ ap (λ b. cond b (Some v.items) (get (files_in m.entries) q)) (sym same)
    ∙ sym (get-insert nat_list_cmp_total (files_in m.entries) name v.items q))

-- what is there after a choice
there : (b : Bool) (v : Vec ℕ Global) (o : Option (Vec ℕ Global)) → IsSome o → IsSome (cond b (Some v) o)
there true v o h = refl
there false v o h = h

-- a file that is there stays there when one is written
pub stays-updates : (m n : FileMap) (name : List ℕ) (v : Vec ℕ Global) → Writes name m n v → (other : List ℕ) → IsSome (get_by_text m other) → IsSome (get_by_text n other)
stays-updates m n name v h other is =
    let now = btree_map_updates_text name m n (Some v) h other in
    subst (λ (o : Option (Vec ℕ Global)). IsSome o) (sym now) (there (bytes_eq name other) v (get_by_text m other) is)

-- the name that was inserted is found
pub get-inserted : (files : Files) (name bytes : List ℕ) → get (insert files name bytes) name ≡ Some bytes
get-inserted files name bytes =
    get-insert nat_list_cmp_total files name bytes name
    ∙ ap (λ r. cond (is_eq r) (Some bytes) (get files name)) (tied_itself nat_list_cmp_total name)

-- bytes are those of something
of_some : (o : Option (Vec ℕ Global)) (bytes : List ℕ) → bytes_of o ≡ Some bytes → IsSome o
of_some (Some v) bytes e = refl
of_some None bytes e = absurd (cc)

-- a file that was inserted is there
pub inserted_there : (m : FileMap) (files : Files) (name bytes : List ℕ) → files_in m.entries ≡ insert files name bytes → IsSome (get_by_text m name)
inserted_there m files name bytes e =
    of_some (get_by_text m name) bytes (sym (get-files_in m name) ∙ ap (λ f. get f name) e ∙ get-inserted files name bytes)

-- the value at a choice that changes nothing
no_change : (b : Bool) (o p : Option (List ℕ)) → (b ≡ true → p ≡ o) → cond b o p ≡ p
no_change true o p h = sym (h refl)
no_change false o p h = refl

-- what an order calls equal
is_equal : (r : Ordering) → is_eq r ≡ true → r ≡ Equal
is_equal Less e = cc
is_equal Equal e = refl
is_equal Greater e = cc

-- to insert what a file holds changes nothing
insert-same : (files : Files) (name bytes : List ℕ) → get files name ≡ Some bytes → insert files name bytes ≡ files
insert-same files name bytes e =
    let exact = slice_cmp-IsAntisymmetric nat_cmp-IsAntisymmetric in
    same_map nat_list_cmp_total exact _ _ (λ q.
    get-insert nat_list_cmp_total files name bytes q
    ∙ no_change (is_eq (slice_cmp nat_cmp q name)) (Some bytes) (get files q) (λ t. sym (get_tied nat_list_cmp_total files q name (is_equal _ t)) ∙ e))

-- what is chosen twice
chosen_again : (b : Bool) (o p q : Option (List ℕ)) → cond b o (cond b p q) ≡ cond b o q
chosen_again true o p q = refl
chosen_again false o p q = refl

-- of two inserts at one name the later stands
pub insert-inserted : (files : Files) (name first later : List ℕ) → insert (insert files name first) name later ≡ insert files name later
insert-inserted files name first later =
    let exact = slice_cmp-IsAntisymmetric nat_cmp-IsAntisymmetric in
    same_map nat_list_cmp_total exact _ _ (λ q.
    get-insert nat_list_cmp_total (insert files name first) name later q
    ∙ ap (cond (is_eq (slice_cmp nat_cmp q name)) (Some later)) (get-insert nat_list_cmp_total files name first q)
    ∙ chosen_again (is_eq (slice_cmp nat_cmp q name)) _ _ _
    ∙ sym (get-insert nat_list_cmp_total files name later q))

-- what a file that is there holds
pub bytes_there : (m : FileMap) (name : List ℕ) (v : Vec ℕ Global) → Some v ≡ get_by_text m name → get (files_in m.entries) name ≡ Some v.items
bytes_there m name v e = get-files_in m name ∙ sym (ap bytes_of e)

-- a file that is written with what it holds leaves the files as they are
pub same-updates : (m n : FileMap) (name : List ℕ) (before after : Vec ℕ Global) → Some before ≡ get_by_text m name → Writes name m n after → after.items ≡ before.items → files_in n.entries ≡ files_in m.entries
same-updates m n name before after is h e =
    files_in-updates m n name after h
    ∙ insert-same (files_in m.entries) name after.items (bytes_there m name before is ∙ ap Some (sym e))

-- a file that is written with more at its end
pub added-updates : (m n : FileMap) (name piece : List ℕ) (before after : Vec ℕ Global) → Some before ≡ get_by_text m name → Writes name m n after → after.items ≡ before.items ++ piece → files_in n.entries ≡ added (files_in m.entries) name piece
added-updates m n name piece before after is h e =
    files_in-updates m n name after h
    ∙ ap (insert (files_in m.entries) name) (e ∙ ap (λ o. unwrap_or o [] ++ piece) (sym (bytes_there m name before is)))

-- the file that is found holds the bytes that the entry has
pub file_found : (m : FileMap) (files : Files) (name : List ℕ) (o : Option (Vec ℕ Global)) → files_in m.entries ≡ files → o ≡ get_by_text m name → bytes_of o ≡ get files name
file_found m files name o e is = ap bytes_of is ∙ sym (get-files_in m name) ∙ ap (λ f. get f name) e

-- what is kept once a file was put there
pub put_stored : (old : Stored) (files new : Files) (making : Option (List ℕ)) (name bytes key value : List ℕ) → record { files = files; making = making } ≡ old → new ≡ insert files key value → key ≡ name → value ≡ bytes → ◌≡◌ {A = Stored} (record { files = new; making = making }) (record { files = insert old.files name bytes; making = old.making })
put_stored old files new making name bytes key value e put same held =
    let written = put ∙ (λ i. insert (e i).files (same i) (held i)) in
    λ i. record { files = written i; making = (e i).making }
