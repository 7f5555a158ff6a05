-- Laws on sequences of calls of a host, over the outsides before, between and after them.
use Rattle.std.proofs.Common.{◌≡◌, ◌∙◌, refl, sym, ap, ℕ, ◌≤◌, List, [], ◌∷◌, ◌++◌, length, take, Option, Some, None, option_map, unwrap_or, Result, Ok, Err, OnOk, OnErr, drop, arith, append_assoc, append-nil, length-append, length-take}
use Rattle.std.proofs.lemmas.List.{take-append-le, take-append-drop}
use Rattle.std.proofs.Math.Seq.{take-append-add}
use Rattle.std.specs.FinMap.{get, insert}
use Rattle.poke_base.specs.Text.{IsPrefix}
use Rattle.poke_base.specs.Host.{Files, Outside, Rose, Tells, with_more, appended, with_appended, Adds, Prints, Appends}
use Rattle.poke_base.proofs.Files.{get-inserted, insert-inserted}

-- a prefix of a text is a prefix of a longer one
pub IsPrefix-longer : (prefix text rest : List ℕ) → IsPrefix prefix text → IsPrefix prefix (text ++ rest)
IsPrefix-longer prefix text rest h =
    let fits : length prefix ≤ length text = omega (arith, simp length-take at (ap length h)) in
    take-append-le (length prefix) text rest fits ∙ h

-- a prefix of a prefix
pub IsPrefix-trans : (first middle text : List ℕ) → IsPrefix first middle → IsPrefix middle text → IsPrefix first text
IsPrefix-trans first middle text h k =
    let whole : middle ++ drop (length middle) text ≡ text = ap (λ prefix. prefix ++ drop (length middle) text) (sym k) ∙ take-append-drop (length middle) text in
    ap (take (length first)) (sym whole) ∙ IsPrefix-longer first middle (drop (length middle) text) h

-- a prefix of what follows a text is one of the whole with the text before it
pub IsPrefix-after : (text prefix rest : List ℕ) → IsPrefix prefix rest → IsPrefix (text ++ prefix) (text ++ rest)
IsPrefix-after text prefix rest h =
    ap (λ n. take n (text ++ rest)) (length-append text prefix) ∙ take-append-add text rest (length prefix) ∙ ap (λ more. text ++ more) h

-- a count that rose later had risen from before
pub Rose-later : (first middle last : ℕ) → first ≤ middle → Rose middle last → Rose first last
Rose-later first middle last h k = grind arith

-- what is told is told of itself
pub Tells-same : {A : Type 0} (told : Option A) → Tells told told
Tells-same told = record { told = λ x e. e }

-- what is told of what was told
pub Tells-trans : {A : Type 0} (first middle last : Option A) → Tells first middle → Tells middle last → Tells first last
Tells-trans first middle last h k = record { told = λ x e. h.told x (k.told x e) }

-- what two changes after one another make of what was told
changed : {A : Type 0} (f g both : A → A) (old middle : Option A) (x : A) → ((y : A) → g (f y) ≡ both y) → ((y : A) → middle ≡ Some y → option_map f old ≡ Some y) → option_map g middle ≡ Some x → option_map both old ≡ Some x
changed f g both old None x law h e = absurd (cc e)
changed f g both None (Some y) x law h e = absurd (cc (h y refl))
changed f g both (Some z) (Some y) x law h e = ap Some (sym (law z)) ∙ ap (option_map g) (h y refl) ∙ e

-- two changes after one another are told as the change that they make together
Tells-changed : {A : Type 0} (f g both : A → A) (old middle new : Option A) → ((y : A) → g (f y) ≡ both y) → Tells (option_map f old) middle → Tells (option_map g middle) new → Tells (option_map both old) new
Tells-changed f g both old middle new law h k =
    record { told = λ x e. changed f g both old middle x law h.told (k.told x e) }

-- one piece was added and then the next
pub Tells-more : {A : Type 0} (old middle new : Option (List A)) (p q : List A) → Tells (with_more old p) middle → Tells (with_more middle q) new → Tells (with_more old (p ++ q)) new
Tells-more old middle new p q h k =
    Tells-changed (λ items. items ++ p) (λ items. items ++ q) (λ items. items ++ (p ++ q)) old middle new (λ items. append_assoc items p q) h k

-- nothing was added
pub Tells-no_more : {A : Type 0} (told : Option (List A)) → Tells (with_more told []) told
Tells-no_more told =
    record { told = λ x e. ap (λ text. with_more text []) e ∙ ap Some (append-nil x) }

-- one piece at the end of a file and then the next
appended-more : (files : Files) (name p q : List ℕ) → appended (appended files name p) name q ≡ appended files name (p ++ q)
appended-more files name [] q = refl
appended-more files name (b ∷ p) [] =
    ap (λ more. insert files name (unwrap_or (get files name) [] ++ b ∷ more)) (sym (append-nil p))
appended-more files name (b ∷ p) (c ∷ q) =
    let held = unwrap_or (get files name) [] in
    insert-inserted files name (held ++ b ∷ p) _
    ∙ ap (λ now. insert files name (unwrap_or now [] ++ c ∷ q)) (get-inserted files name (held ++ b ∷ p))
    ∙ ap (insert files name) (append_assoc held (b ∷ p) (c ∷ q))

-- a piece at the end of a file, that is still being made, and then the next
pub Tells-appended : (old middle new : Outside) (p q : List ℕ) → middle.making ≡ old.making → Tells (with_appended old p) middle.files → Tells (with_appended middle q) new.files → Tells (with_appended old (p ++ q)) new.files
Tells-appended old middle new p q same h k =
    let name = unwrap_or old.making [] in
    Tells-changed (λ files. appended files name p) (λ files. appended files (unwrap_or middle.making []) q) (λ files. appended files name (p ++ q)) old.files middle.files new.files (λ files. ap (λ making. appended (appended files name p) (unwrap_or making []) q) same ∙ appended-more files name p q) h k

-- to append nothing leaves the files as they are told
pub Tells-none_appended : (old : Outside) → Tells (with_appended old []) old.files
Tells-none_appended old =
    record { told = λ x e. ap (λ files. with_appended (record old { files = files }) []) e }

-- nothing was added
Adds-none : {T E : Type 0} (told : Option (List ℕ)) (done : T) → Adds {T = T} {E = E} told told [] (Ok done)
Adds-none told done = record { whole = Tells-no_more told; part = tt }

-- a piece was added whole and then all of the next or a part of it
Adds-more : {T E : Type 0} (old middle new : Option (List ℕ)) (p q : List ℕ) (done : T) (result : Result T E) → Adds {T = T} {E = E} old middle p (Ok done) → Adds middle new q result → Adds old new (p ++ q) result
Adds-more old middle new p q done (Ok next) h k =
    record { whole = Tells-more old middle new p q h.whole k.whole; part = tt }
Adds-more old middle new p q done (Err why) h k =
    record { whole = tt; part = (p ++ k.part.0, IsPrefix-after p k.part.0 q k.part.1, Tells-more old middle new p k.part.0 h.whole k.part.2) }

-- a part of a piece is a part of a longer one
Adds-part : {T E : Type 0} (old new : Option (List ℕ)) (p rest : List ℕ) (why : E) → Adds {T = T} {E = E} old new p (Err why) → Adds {T = T} {E = E} old new (p ++ rest) (Err why)
Adds-part old new p rest why h =
    record { whole = tt; part = (h.part.0, IsPrefix-longer h.part.0 p rest h.part.1, h.part.2) }

-- the count of a call rose over both calls where it rose in the second
failed_later : {T E : Type 0} (first middle last : ℕ) (result : Result T E) → first ≤ middle → OnErr result (Rose middle last) → OnErr result (Rose first last)
failed_later first middle last (Ok done) h k = tt
failed_later first middle last (Err why) h k = Rose-later first middle last h k

-- nothing was printed
pub Prints-none : {T E : Type 0} (old : Outside) (done : T) → Prints {T = T} {E = E} old old [] (Ok done)
Prints-none old done = record {
  printed = Adds-none old.printed done;
  failed = tt;
  files = Tells-same old.files;
  making = refl;
  complained = Tells-same old.complained;
  asked = Tells-same old.asked;
  read_faults = refl;
  write_faults = omega arith;
  complain_faults = refl;
}

-- a piece was printed whole, and then all of the next or a part of it
pub Prints-more : {T E : Type 0} (old middle new : Outside) (p q : List ℕ) (done : T) (result : Result T E) → Prints {T = T} {E = E} old middle p (Ok done) → Prints middle new q result → Prints old new (p ++ q) result
Prints-more old middle new p q done result h k = record {
  printed = Adds-more old.printed middle.printed new.printed p q done result h.printed k.printed;
  failed = failed_later old.write_faults middle.write_faults new.write_faults result h.write_faults k.failed;
  files = Tells-trans old.files middle.files new.files h.files k.files;
  making = k.making ∙ h.making;
  complained = Tells-trans old.complained middle.complained new.complained h.complained k.complained;
  asked = Tells-trans old.asked middle.asked new.asked h.asked k.asked;
  read_faults = k.read_faults ∙ h.read_faults;
  write_faults = omega (arith, h.write_faults, k.write_faults);
  complain_faults = k.complain_faults ∙ h.complain_faults;
}

-- a part of a piece was printed, which is a part of a longer one
pub Prints-prefix : {T E : Type 0} (old new : Outside) (p rest : List ℕ) (why : E) → Prints {T = T} {E = E} old new p (Err why) → Prints {T = T} {E = E} old new (p ++ rest) (Err why)
Prints-prefix old new p rest why h =
    record {
      printed = Adds-part old.printed new.printed p rest why h.printed;
      failed = h.failed;
      files = h.files;
      making = h.making;
      complained = h.complained;
      asked = h.asked;
      read_faults = h.read_faults;
      write_faults = h.write_faults;
      complain_faults = h.complain_faults;
    }

-- a piece was printed whole, then a part of the next: a part of the two with anything after them
pub Prints-part : {T E : Type 0} (old middle new : Outside) (p q rest : List ℕ) (done : T) (why : E) → Prints {T = T} {E = E} old middle p (Ok done) → Prints {T = T} {E = E} middle new q (Err why) → Prints {T = T} {E = E} old new ((p ++ q) ++ rest) (Err why)
Prints-part old middle new p q rest done why h k =
    Prints-prefix old new (p ++ q) rest why (Prints-more old middle new p q done (Err why) h k)

-- nothing was appended
pub Appends-none : {T E : Type 0} (old : Outside) (done : T) → Appends {T = T} {E = E} old old [] (Ok done)
Appends-none old done = record {
  whole = Tells-none_appended old;
  part = tt;
  failed = tt;
  making = refl;
  printed = Tells-same old.printed;
  complained = Tells-same old.complained;
  asked = Tells-same old.asked;
  read_faults = refl;
  write_faults = omega arith;
  complain_faults = refl;
}

-- the files after a piece and then all of the next
appended_whole : {T E : Type 0} (old middle new : Outside) (p q : List ℕ) (done : T) (result : Result T E) → Appends {T = T} {E = E} old middle p (Ok done) → Appends middle new q result → OnOk result (Tells (with_appended old (p ++ q)) new.files)
appended_whole old middle new p q done (Ok next) h k = Tells-appended old middle new p q h.making h.whole k.whole
appended_whole old middle new p q done (Err why) h k = tt

-- the files after a piece and then a part of the next
appended_part : {T E : Type 0} (old middle new : Outside) (p q : List ℕ) (done : T) (result : Result T E) → Appends {T = T} {E = E} old middle p (Ok done) → Appends middle new q result → OnErr result ((done : List ℕ) × IsPrefix done (p ++ q) × Tells (with_appended old done) new.files)
appended_part old middle new p q done (Ok next) h k = tt
appended_part old middle new p q done (Err why) h k =
    (p ++ k.part.0, IsPrefix-after p k.part.0 q k.part.1, Tells-appended old middle new p k.part.0 h.making h.whole k.part.2)

-- a piece was appended whole, and then all of the next or a part of it
pub Appends-more : {T E : Type 0} (old middle new : Outside) (p q : List ℕ) (done : T) (result : Result T E) → Appends {T = T} {E = E} old middle p (Ok done) → Appends middle new q result → Appends old new (p ++ q) result
Appends-more old middle new p q done result h k = record {
  whole = appended_whole old middle new p q done result h k;
  part = appended_part old middle new p q done result h k;
  failed = failed_later old.write_faults middle.write_faults new.write_faults result h.write_faults k.failed;
  making = k.making ∙ h.making;
  printed = Tells-trans old.printed middle.printed new.printed h.printed k.printed;
  complained = Tells-trans old.complained middle.complained new.complained h.complained k.complained;
  asked = Tells-trans old.asked middle.asked new.asked h.asked k.asked;
  read_faults = k.read_faults ∙ h.read_faults;
  write_faults = omega (arith, h.write_faults, k.write_faults);
  complain_faults = k.complain_faults ∙ h.complain_faults;
}

-- a part of a piece was appended, which is a part of a longer one
pub Appends-prefix : {T E : Type 0} (old new : Outside) (p rest : List ℕ) (why : E) → Appends {T = T} {E = E} old new p (Err why) → Appends {T = T} {E = E} old new (p ++ rest) (Err why)
Appends-prefix old new p rest why h =
    record {
      whole = tt;
      part = (h.part.0, IsPrefix-longer h.part.0 p rest h.part.1, h.part.2);
      failed = h.failed;
      making = h.making;
      printed = h.printed;
      complained = h.complained;
      asked = h.asked;
      read_faults = h.read_faults;
      write_faults = h.write_faults;
      complain_faults = h.complain_faults;
    }

-- a piece was appended whole, then a part of the next: a part of the two with anything after them
pub Appends-part : {T E : Type 0} (old middle new : Outside) (p q rest : List ℕ) (done : T) (why : E) → Appends {T = T} {E = E} old middle p (Ok done) → Appends {T = T} {E = E} middle new q (Err why) → Appends {T = T} {E = E} old new ((p ++ q) ++ rest) (Err why)
Appends-part old middle new p q rest done why h k =
    Appends-prefix old new (p ++ q) rest why (Appends-more old middle new p q done (Err why) h k)
