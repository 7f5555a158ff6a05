-- Several additions as one, and entries one after the other.
use Rattle.std.proofs.Common.{◌≡◌, ◌≤◌, ◌<◌, ◌+◌, ◌-◌, ◌*◌, ◌/◌, replicate, ℕ, Bool, true, false, ◌&&◌, List, [], ◌∷◌, ◌++◌, length, drop, slice_index_or, Result, Ok, Err, OnOk, refl, sym, ap, ◌∙◌, arith, append_assoc}
use Rattle.std.specs.List.{list_all}
use Rattle.std.proofs.lemmas.List.{at_drop_more}
use Rattle.std.proofs.lemmas.List.{length-append}
use Rattle.elf_build.specs.declared.plan.PlanSite.{PlanSite}
use Rattle.elf_build.specs.declared.plan.Plan.{Plan}
use Rattle.elf_build.specs.declared.sections.Part.{Part}
use Rattle.elf_build.specs.File.{part_bytes, filled, header_of, headers_from, laid, section_header, table_from}

-- two additions
pub appended-twice : {T E : Type 0} (old a b middle new : List ℕ) (result : Result T E) → middle ≡ old ++ a → OnOk result (new ≡ middle ++ b) → OnOk result (new ≡ old ++ (a ++ b))
appended-twice old a b middle new (Ok done) first second =
    second ∙ ap (λ (xs : List ℕ). xs ++ b) first ∙ append_assoc old a b
appended-twice old a b middle new (Err why) first second = tt

pub and-left : (a b : Bool) → (a && b) ≡ true → a ≡ true
and-left true b both = refl
and-left false b both = both

pub and-right : (a b : Bool) → (a && b) ≡ true → b ≡ true
and-right true b both = both
and-right false b both = absurd (cc)

-- what holds of all that is left holds of the next, and of all after it
pub all-next : {X : Type 0} (p : X → Bool) (xs : List X) (i : ℕ) (d : X) → i < length xs → list_all p (drop i xs) ≡ true → p (slice_index_or xs i d) ≡ true
all-next p xs i d below all =
    and-left (p (slice_index_or xs i d)) (list_all p (drop (i + 1) xs)) (sym (at_drop_more (list_all p) xs i d below) ∙ all)

pub all-after : {X : Type 0} (p : X → Bool) (xs : List X) (i : ℕ) (d : X) → i < length xs → list_all p (drop i xs) ≡ true → list_all p (drop (i + 1) xs) ≡ true
all-after p xs i d below all =
    and-right (p (slice_index_or xs i d)) (list_all p (drop (i + 1) xs)) (sym (at_drop_more (list_all p) xs i d below) ∙ all)

-- one entry more of a table
pub entry-more : (entry : ℕ → PlanSite → List ℕ) (at start i : ℕ) (sites : List PlanSite) (d : PlanSite) (out new whole : List ℕ) → i < length sites → start ≤ length out → out ++ table_from entry (at + (length out - start)) (drop i sites) ≡ whole → new ≡ out ++ entry (at + (length out - start)) (slice_index_or sites i d) → new ++ table_from entry (at + (length new - start)) (drop (i + 1) sites) ≡ whole
entry-more entry at start i sites d out new whole below longer before is =
    let field = at + (length out - start) in
    let here = entry field (slice_index_or sites i d) in
    let lengths : length new ≡ length out + length here = ap (λ (xs : List ℕ). length xs) is ∙ length-append out here in
    let next : at + (length new - start) ≡ field + length here = omega arith in
    ap (λ (f : ℕ). new ++ table_from entry f (drop (i + 1) sites)) next
    ∙ ap (λ (xs : List ℕ). xs ++ table_from entry (field + length here) (drop (i + 1) sites)) is
    ∙ append_assoc out here (table_from entry (field + length here) (drop (i + 1) sites))
    ∙ sym (at_drop_more (λ (rest : List PlanSite). out ++ table_from entry field rest) sites i d below)
    ∙ before

-- one section more
pub laid-more : (plan : Plan) (parts : List Part) (i : ℕ) (d : Part) (out new whole : List ℕ) → i < length parts → laid plan out (drop i parts) ≡ whole → new ≡ filled out ++ part_bytes plan (slice_index_or parts i d) → laid plan new (drop (i + 1) parts) ≡ whole
laid-more plan parts i d out new whole below before is =
    ap (λ (file : List ℕ). laid plan file (drop (i + 1) parts)) is ∙ sym (at_drop_more (laid plan out) parts i d below) ∙ before

-- one section header more
pub headers-more : (plan : Plan) (parts : List Part) (i : ℕ) (d : Part) (out new headers more whole : List ℕ) → i < length parts → headers ++ headers_from plan out (drop i parts) ≡ whole → new ≡ filled out ++ part_bytes plan (slice_index_or parts i d) → more ≡ headers ++ section_header (header_of plan (slice_index_or parts i d)) (length (filled out)) (length (part_bytes plan (slice_index_or parts i d))) → more ++ headers_from plan new (drop (i + 1) parts) ≡ whole
headers-more plan parts i d out new headers more whole below before is adds =
    let part = slice_index_or parts i d in
    let header = section_header (header_of plan part) (length (filled out)) (length (part_bytes plan part)) in
    let rest = headers_from plan (filled out ++ part_bytes plan part) (drop (i + 1) parts) in
    ap (λ (file : List ℕ). more ++ headers_from plan file (drop (i + 1) parts)) is ∙ ap (λ (xs : List ℕ). xs ++ rest) adds
    ∙ append_assoc headers header rest
    ∙ sym (at_drop_more (λ (r : List Part). headers ++ headers_from plan out r) parts i d below)
    ∙ before

-- two additions to a prefix
pub appended-prefix : {T E : Type 0} (prefix b c middle new : List ℕ) (old : List ℕ) (result : Result T E) → old ≡ prefix → middle ≡ old ++ b → OnOk result (new ≡ middle ++ c) → OnOk result (new ≡ prefix ++ b ++ c)
appended-prefix prefix b c middle new old (Ok done) is first second =
    second ∙ ap (λ (xs : List ℕ). xs ++ c) (first ∙ ap (λ (xs : List ℕ). xs ++ b) is)
appended-prefix prefix b c middle new old (Err why) is first second = tt

-- zeros at its end make a file no shorter
longer-by : (out more : List ℕ) → length out ≤ length (out ++ more)
longer-by out more = let sum : length (out ++ more) ≡ length out + length more = length-append out more in omega arith

filled-longer : (out : List ℕ) → length out ≤ length (filled out)
filled-longer out = longer-by out (replicate ((length out + 15) / 16 * 16 - length out) 0)

three-longer : (a b c d : ℕ) → a ≤ b → b ≤ c → c ≤ d → a ≤ d
three-longer a b c d first second third = omega arith

-- what is laid after a file makes it no shorter
pub laid-longer : (plan : Plan) (parts : List Part) (out : List ℕ) → length out ≤ length (laid plan out parts)
laid-longer plan [] out = filled-longer out
laid-longer plan (part ∷ parts) out =
    three-longer (length out) (length (filled out)) (length (filled out ++ part_bytes plan part)) (length (laid plan (filled out ++ part_bytes plan part) parts))
    (filled-longer out) (longer-by (filled out) (part_bytes plan part)) (laid-longer plan parts (filled out ++ part_bytes plan part))
