-- The lines of outcomes are printed outcome by outcome, and what a script's updates leave.
use Rattle.std.proofs.Common.{◌≡◌, ◌<◌, ◌≤◌, ◌+◌, ◌∙◌, ℕ, List, [], ◌∷◌, ◌++◌, length, map, take, drop, Some, Ok, Err, sym, ap, subst, arith, append-nil, append_assoc}
use Rattle.std.specs.List.{slice_get}
use Rattle.std.proofs.lemmas.List.{length-map, length-take-le, map-append, take-append-drop, take_all}
use Rattle.poke_base.specs.declared.host.WriteFail.{WriteFail}
use Rattle.poke_base.specs.Host.{Outside, Prints}
use Rattle.poke_base.proofs.Outsides.{Prints-more, Prints-part}
use Rattle.key_state.specs.declared.outcome.Outcome.{Outcome}
use Rattle.key_state.specs.Outcome.{Ending, ending_of}
use Rattle.key_state.specs.OutcomeLine.{outcome_line}
use Rattle.poke_commands.specs.Wants.{outcome_lines}
use Rattle.poke_base.proofs.ItemLines.{take_more}

-- the lines of some outcomes and then of more
lines_on : (update : ℕ) (first more : List Ending) → outcome_lines update (first ++ more) ≡ outcome_lines update first ++ outcome_lines (update + length first) more
lines_on update [] more =
    let same : update ≡ update + 0 = omega arith in
    ap (λ (n : ℕ). outcome_lines n more) same
lines_on update (ending ∷ first) more =
    let same : update + 1 + length first ≡ update + length (ending ∷ first) = omega arith in
    ap (λ (lines : List ℕ). outcome_line update ending ++ lines) (lines_on (update + 1) first more)
    ∙ sym (append_assoc (outcome_line update ending) (outcome_lines (update + 1) first) (outcome_lines (update + 1 + length first) more))
    ∙ ap (λ (n : ℕ). (outcome_line update ending ++ outcome_lines (update + 1) first) ++ outcome_lines n more) same

-- the first outcomes are as many as were taken
taken_length : (done : List Outcome) (i : ℕ) → i ≤ length done → length (map ending_of (take i done)) ≡ i
taken_length done i within =
    length-map (take i done) ending_of ∙ length-take-le i done within

-- the lines of the first outcomes, and of one more
lines_more : (done : List Outcome) (i : ℕ) (x : Outcome) → i < length done → slice_get done i ≡ Some x → outcome_lines 1 (map ending_of (take i done)) ++ outcome_line (i + 1) (ending_of x) ≡ outcome_lines 1 (map ending_of (take (i + 1) done))
lines_more done i x below there =
    let first : List Ending = map ending_of (take i done) in
    let counted = taken_length done i (omega arith) in
    let number : 1 + length first ≡ i + 1 = omega arith in
    sym (
    ap (λ (xs : List Outcome). outcome_lines 1 (map ending_of xs)) (take_more done i x there)
    ∙ ap (λ (es : List Ending). outcome_lines 1 es) (map-append ending_of (take i done) (x ∷ []))
    ∙ lines_on 1 first (ending_of x ∷ [])
    ∙ ap (λ (n : ℕ). outcome_lines 1 first ++ outcome_lines n (ending_of x ∷ [])) number
    ∙ ap (λ (line : List ℕ). outcome_lines 1 first ++ line) (append-nil (outcome_line (i + 1) (ending_of x)))
    )

-- the lines of the outcomes after the first
abbrev lines_after : List Outcome → ℕ → List ℕ
lines_after done i = outcome_lines (1 + length (map ending_of (take i done))) (map ending_of (drop i done))

lines_whole : (done : List Outcome) (i : ℕ) → outcome_lines 1 (map ending_of (take i done)) ++ lines_after done i ≡ outcome_lines 1 (map ending_of done)
lines_whole done i =
    sym (
    ap (λ (xs : List Outcome). outcome_lines 1 (map ending_of xs)) (sym (take-append-drop i done))
    ∙ ap (λ (es : List Ending). outcome_lines 1 es) (map-append ending_of (take i done) (drop i done))
    ∙ lines_on 1 (map ending_of (take i done)) (map ending_of (drop i done))
    )

-- one line more was printed
pub outcome_printed : (done : List Outcome) (i : ℕ) (x : Outcome) (text : List ℕ) (old middle new : Outside) → i < length done → slice_get done i ≡ Some x → Prints {T = Unit {0}} {E = WriteFail} old middle (outcome_lines 1 (map ending_of (take i done))) (Ok tt) → text ≡ outcome_line (i + 1) (ending_of x) → Prints {T = Unit {0}} {E = WriteFail} middle new text (Ok tt) → Prints {T = Unit {0}} {E = WriteFail} old new (outcome_lines 1 (map ending_of (take (i + 1) done))) (Ok tt)
outcome_printed done i x text old middle new below there before is prints =
    subst (λ (ys : List ℕ). Prints {T = Unit {0}} {E = WriteFail} old new ys (Ok tt))
    (ap (λ (ys : List ℕ). outcome_lines 1 (map ending_of (take i done)) ++ ys) is ∙ lines_more done i x below there)
    (Prints-more old middle new (outcome_lines 1 (map ending_of (take i done))) text tt (Ok tt) before prints)

-- a line failed
pub outcome_failed : (done : List Outcome) (i : ℕ) (x : Outcome) (text : List ℕ) (why : WriteFail) (old middle new : Outside) → i < length done → slice_get done i ≡ Some x → Prints {T = Unit {0}} {E = WriteFail} old middle (outcome_lines 1 (map ending_of (take i done))) (Ok tt) → text ≡ outcome_line (i + 1) (ending_of x) → Prints {T = Unit {0}} {E = WriteFail} middle new text (Err why) → Prints {T = Unit {0}} {E = WriteFail} old new (outcome_lines 1 (map ending_of done)) (Err why)
outcome_failed done i x text why old middle new below there before is prints =
    subst (λ (ys : List ℕ). Prints {T = Unit {0}} {E = WriteFail} old new ys (Err why))
    (
    ap (λ (ys : List ℕ). (outcome_lines 1 (map ending_of (take i done)) ++ ys) ++ lines_after done (i + 1)) is
    ∙ ap (λ (ys : List ℕ). ys ++ lines_after done (i + 1)) (lines_more done i x below there)
    ∙ lines_whole done (i + 1)
    )
    (Prints-part old middle new (outcome_lines 1 (map ending_of (take i done))) text (lines_after done (i + 1)) tt why before prints)

-- all lines were printed
pub outcomes_printed : (done : List Outcome) (i : ℕ) (old new : Outside) → length done ≤ i → Prints {T = Unit {0}} {E = WriteFail} old new (outcome_lines 1 (map ending_of (take i done))) (Ok tt) → Prints {T = Unit {0}} {E = WriteFail} old new (outcome_lines 1 (map ending_of done)) (Ok tt)
outcomes_printed done i old new all prints =
    subst (λ (xs : List Outcome). Prints {T = Unit {0}} {E = WriteFail} old new (outcome_lines 1 (map ending_of xs)) (Ok tt)) (take_all i done all) prints
