-- The jobs of the first seats, one seat more.
use Rattle.std.proofs.Common.{◌≡◌, ◌∙◌, ◌+◌, ◌≤◌, ◌<◌, ℕ, List, [], ◌∷◌, ◌++◌, length, drop, get_or, map, take, All, Some, sym, ap, subst, vec_capacity, inl, inr}
use Rattle.std.specs.Prelude.{slice_get}
use Rattle.std.proofs.lemmas.List.{drop_all, drop_more, map_push, take_more}
use Rattle.std.proofs.lemmas.List.Elements.{All-push}
use Rattle.std.proofs.lemmas.Option.{slice_get-get_or}
use Rattle.std.proofs.lemmas.Bool.{cases_lt}
use Rattle.live_text.specs.Own.{AreSeated, IsSeated, TextState}
use Rattle.live_text.specs.Seats.{Placed}
use Rattle.module_image.specs.Layout.{IsStart}
use Rattle.module_image.specs.Module.{Module, layout_of}
use Rattle.live_engine.specs.declared.job.Job.{Job}
use Rattle.live_engine.specs.LiveCpu.{new_cpu}
use Rattle.live_engine.specs.LiveRun.{IsReady}

-- what is left of a list begins with its next item
pub record IsNext {X : Type 0} (xs : List X) (number : ℕ) (x : X) (rest : List X) : Type 0 where
  pub below : number < length xs
  pub here : slice_get xs number ≡ Some x
  pub after : rest ≡ drop (number + 1) xs

pub next-of : {X : Type 0} (xs : List X) (number : ℕ) (x : X) (rest : List X) → drop number xs ≡ x ∷ rest → IsNext xs number x rest
next-of xs number x rest left =
    elim (cases_lt number (length xs)) [
      | inl below ↦ (
          let step : get_or xs number x ∷ drop (number + 1) xs ≡ x ∷ rest = sym (drop_more xs number x below) ∙ left in
          let head : get_or xs number x ≡ x = cc in
          let tail : drop (number + 1) xs ≡ rest = cc in
          record { below = below; here = slice_get-get_or xs number x below ∙ ap Some head; after = sym tail }
          )
      | inr past ↦ absurd (let none = sym (drop_all number xs past) ∙ left in cc)
    ]

-- a job with a processor's seat as it is made, before its first turn
pub record IsNew (entry turns : ℕ) (seat : Placed) (job : Job) : Type 0 where
  pub seat_is : job.seat ≡ seat
  pub entry_is : job.entry ≡ entry
  pub cpu_is : job.cpu ≡ new_cpu entry
  pub empty : job.walk.items ≡ []
  pub room : turns ≤ vec_capacity job.walk

-- it is ready where its entry is a start and the seat is one of the text's
pub new-ready : (m : Module) (text : TextState) (entry turns number : ℕ) (seat : Placed) (job : Job) → IsNew entry turns seat job → IsStart (layout_of m) entry → IsSeated text number seat → IsReady m text turns job
new-ready m text entry turns number seat job is start seated = record {
  own = subst (λ (s : Placed). Rattle.live_text.specs.Own.IsOwn text s) (sym is.seat_is) seated.own;
  stays = ap (λ (s : Placed). s.view.cpu.left) is.seat_is ∙ ap (λ v. v.cpu.left) seated.view;
  cpu = is.cpu_is ∙ ap new_cpu (sym is.entry_is);
  begins = subst (IsStart (layout_of m)) (sym is.entry_is) start;
  empty = is.empty;
  room = is.room;
}

-- so all are, with one more
pub ready-more : (m : Module) (text : TextState) (turns count number : ℕ) (entries : List ℕ) (seats rest : List Placed) (seat : Placed) (jobs new : List Job) (job : Job) (d : ℕ) → All (IsStart (layout_of m)) entries → AreSeated text count seats → drop number seats ≡ seat ∷ rest → number < length entries → IsNew (get_or entries number d) turns seat job → new ≡ jobs ++ job ∷ [] → All (IsReady m text turns) jobs → All (IsReady m text turns) new
ready-more m text turns count number entries seats rest seat jobs new job d starts seated left below is added before =
    let next = next-of seats number seat rest left in
    subst (λ (all : List Job). All (IsReady m text turns) all) (sym added)
    (All-push (IsReady m text turns) jobs job before
    (new-ready m text (get_or entries number d) turns number seat job is (starts number d below) (seated.each number seat next.here)))

-- the entries of the jobs are the first
pub entries-more : (entries : List ℕ) (number d : ℕ) (jobs new : List Job) (job : Job) → number < length entries → job.entry ≡ get_or entries number d → new ≡ jobs ++ job ∷ [] → map (λ (j : Job). j.entry) jobs ≡ take number entries → map (λ (j : Job). j.entry) new ≡ take (number + 1) entries
entries-more entries number d jobs new job below is added before =
    ap (map (λ (j : Job). j.entry)) added
    ∙ map_push (λ (j : Job). j.entry) jobs job
    ∙ ap (λ (es : List ℕ). es ++ job.entry ∷ []) before
    ∙ ap (λ (e : ℕ). take number entries ++ e ∷ []) is
    ∙ sym (take_more entries number d below)
