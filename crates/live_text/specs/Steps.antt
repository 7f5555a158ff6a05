-- What each step makes of its seat's view.
use Rattle.std.specs.Prelude.{◌+◌, ◌-◌, ◌^◌, ℕ, true, false, List, [], ◌++◌, length, replicate, slice_set, max, Option, None, Some}
use Rattle.live_text.specs.declared.view.Shape.{Shape}
use Rattle.live_text.specs.declared.view.View.{View}
use Rattle.live_text.specs.declared.view.Role.TheVariants.{Patch, Cpu}
use Rattle.live_text.specs.Past.{cut, seek}

-- the words at the start: the bytes of the sites, then zeros
abbrev pub zeros : ℕ → List ℕ
zeros n = replicate n 0

abbrev pub first_words : Shape → List ℕ
first_words p = p.starts ++ zeros (p.cpus + 1)

-- a cache with nothing in it
abbrev pub no_bytes : Shape → List (Option ℕ)
no_bytes p = replicate (length p.starts) None

-- the patch seat: at the start it has stored and loaded nothing
abbrev pub first_view : Shape → View
first_view p = record {
  role = Patch;
  shape = p;
  patch = record { done = 0; stored = 0; bounds = replicate p.cpus 0; asks = 0; split = 0 };
  cpu = record { number = 0; ack = 0; left = false; greatest = 0; known = 0; mark = 0; cache = []; fetches = 0; looks = 0 };
}

-- it stores the next write, or the next request
abbrev pub wrote : View → View
wrote v = record v { patch = record v.patch { done = v.patch.done + 1 } }

abbrev pub requested : View → View
requested v = record v { patch = record v.patch { stored = v.patch.stored + 1 } }

-- it loads the acknowledgement of a processor
abbrev pub loaded_ack : ℕ → ℕ → View → View
loaded_ack cpu n v = record v { patch = record v.patch { bounds = slice_set v.patch.bounds cpu n; asks = v.patch.asks + 1 } }

-- a seat for the next processor is split off from it
abbrev pub seated : View → View
seated v = record v { patch = record v.patch { split = v.patch.split + 1 } }

-- a processor's seat: at the start it has loaded nothing
abbrev pub first_cpu : Shape → ℕ → View
first_cpu p number = record {
  role = Cpu;
  shape = p;
  patch = record { done = 0; stored = 0; bounds = []; asks = 0; split = 0 };
  cpu = record { number = number; ack = 0; left = false; greatest = 0; known = 0; mark = 0; cache = no_bytes p; fetches = 0; looks = 0 };
}

abbrev pub newcomer : View → View
newcomer v = first_cpu v.shape v.patch.split

-- it loads a byte: it then knows as many writes as there are at least where the byte has that value
abbrev pub fetched : ℕ → ℕ → View → View
fetched b n v = record v {
  cpu = record v.cpu {
    known = seek v.shape b n v.cpu.known (length v.shape.writes - v.cpu.known);
    cache = slice_set v.cpu.cache b (Some n);
    fetches = v.cpu.fetches + 1;
  };
}

-- it loads the generation: it then knows the writes before that request
abbrev pub looked : ℕ → View → View
looked n v = record v {
  cpu = record v.cpu { greatest = n; known = max v.cpu.known (cut v.shape n); looks = v.cpu.looks + 1 };
}

-- it stores an acknowledgement: its cache is empty, and its mark is what it knows
abbrev pub acked : ℕ → View → View
acked g v = record v { cpu = record v.cpu { ack = g; mark = v.cpu.known; cache = no_bytes v.shape } }

-- it leaves
abbrev pub gone : View → View
gone v = record v { cpu = record v.cpu { ack = 2 ^ 64 - 1; left = true } }

-- the patch seat after so many seats were split off from it
abbrev pub after_splits : Shape → ℕ → View
after_splits p n = record (first_view p) { patch = record (first_view p).patch { split = n } }
