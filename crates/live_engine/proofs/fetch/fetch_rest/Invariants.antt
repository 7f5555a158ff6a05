-- The bytes so far are fetched.
use Rattle.std.proofs.Common.{◌≡◌, [], ◌∷◌, false, length}
use Rattle.std.specs.Prelude.{slice_index}
use Rattle.live_text.specs.declared.view.View.{View}
use Rattle.live_text.specs.Own.{IsOwn, byte_number}
use Rattle.live_engine.specs.Fetch.{Fetches}
use Rattle.live_engine.proofs.FetchSteps.{AreCached}
use Rattle.live_engine.proofs.fetch.fetch_rest.Given as goal

abbrev pub invariant-loop-j : goal.invariant-loop-j
invariant-loop-j l =
    record {
      own : IsOwn l.text l.seat;
      stays : l.seat.view.cpu.left ≡ false;
      count : length l.bytes.items ≡ l.j;
      head : slice_index l.bytes.items 0 ≡ l.first;
      there : AreCached l.seat.view.cpu (byte_number l.text.plan l.site 0) l.bytes.items;
      fetched :
          (before : View) → Fetches (byte_number l.text.plan l.site 0) l.word (l.first ∷ []) before l.initial.seat.view
          → Fetches (byte_number l.text.plan l.site 0) l.word l.bytes.items before l.seat.view;
    }
